-- Laws of the line of a refusal, and of what is shown of a translation.
pub mod LineLaws
pub mod ShownLaws
