-- What the calls write, in the paper's order: the digits of a number, the string of a form, the form of each call.
pub mod Digits
pub mod Strings
pub mod Calls
pub mod inner
