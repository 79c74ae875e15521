-- What every chapter's definitions share.
pub mod Refusals
pub mod Bytes
pub mod Texts
pub mod Answers
pub mod Layings
pub mod Traces
pub mod inner
