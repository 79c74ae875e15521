-- What the program writes: a text's answer, and the line of a refusal.
pub mod Lines
pub mod Answers
