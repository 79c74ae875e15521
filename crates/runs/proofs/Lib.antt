-- What the proofs of runs share.
pub mod StretchLaws
