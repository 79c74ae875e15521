-- Dates by counting days, and the moment of a time.
pub mod Counting
pub mod Dates
pub mod Moments
pub mod inner
