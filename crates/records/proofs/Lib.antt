-- Equal names and their keys, the order of names, the kinds, and what holds of a record of the right shape.
pub mod Equal
pub mod Order
pub mod KeyLaws
pub mod KindLaws
pub mod Whole
pub mod Format
