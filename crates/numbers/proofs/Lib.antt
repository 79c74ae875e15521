-- Laws of the digits, of a buffer that is written from the right, of how many digits a form has, of the parts of a form, and of an
-- answer's two shapes.
pub mod Laws
pub mod Buffer
pub mod Bounds
pub mod Parts
pub mod PaperNumbers
