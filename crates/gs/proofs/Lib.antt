-- The pieces of a reading, and what holds of every translation.
pub mod Fuel
pub mod Depths
pub mod Pieces
pub mod Walk
pub mod PlainRuns
pub mod Follows
pub mod Fills
pub mod Orders
pub mod Meetings
pub mod Limits
pub mod Mapped
pub mod Answers
