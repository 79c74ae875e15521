-- A table and its index judged together, what is then known of look-ups, and the bounds of their answers.
pub mod MarkLaws
pub mod Shapes
pub mod Rising
pub mod Served
pub mod Judging
pub mod Handing
pub mod Bounds
