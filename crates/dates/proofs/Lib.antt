-- Laws of formats and of their strings.
pub mod Layouts
pub mod Rendering
pub mod Unnamed
pub mod BadFields
pub mod Outcomes
