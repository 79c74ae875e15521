-- The two shapes of the number that a pattern stands for.
pub mod Signs
