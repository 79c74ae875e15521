-- What a reference's content stands for.
pub mod References
