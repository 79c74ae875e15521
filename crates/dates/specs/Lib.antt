-- Dates of the diaries: the fields of a format, the format, and what a conversion answers and leaves in the buffer.
pub mod Fields
pub mod Formats
pub mod Conversions
pub mod inner
