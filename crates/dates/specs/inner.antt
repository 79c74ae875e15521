-- What no contract of an operation cites.
pub mod Steps
