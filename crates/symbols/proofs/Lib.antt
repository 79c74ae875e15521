-- The laws that several proofs cite, and where each symbol stands.
pub mod Laws
pub mod Places
