-- The laws that several proofs cite, and the bounds of every answer.
pub mod Laws
pub mod Bounds
