-- Laws that several proofs cite.
pub mod Onward
pub mod Joins
pub mod LeafLaws
pub mod Chains
pub mod Operands
pub mod Limits
pub mod Orders
