-- What the proofs of references share.
pub mod Resolved
