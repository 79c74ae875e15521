-- The part that a leaf of an expression makes.
pub mod Leaves
