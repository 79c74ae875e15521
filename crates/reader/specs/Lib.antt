-- The unsigned reader.
pub mod Reading
pub mod inner
