-- Tokens: what a text of an expression is made of.
pub mod Tokens
pub mod inner
