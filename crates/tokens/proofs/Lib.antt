-- Laws that several proofs cite, and where tokens stand.
pub mod Laws
pub mod Places
pub mod Limits
pub mod Words
