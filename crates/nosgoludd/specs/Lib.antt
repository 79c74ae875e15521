-- The C face.
pub mod Faces
