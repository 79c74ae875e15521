-- Records one behind the other and the lines of their keys, what holds of a good table, and the bounds of every answer.
pub mod Chain
pub mod Lines
pub mod NoteLaws
pub mod Passed
pub mod Good
pub mod KeysFind
pub mod Format
pub mod Unique
pub mod Bounds
pub mod Own
pub mod Judging
pub mod BlockLaws
