-- What no contract of an operation cites.
pub mod Claims
pub mod Bits
