-- Numbers to strings: what a conversion answers and leaves in the buffer. What a call writes is in `forms`.
pub mod Conversions
pub mod inner
