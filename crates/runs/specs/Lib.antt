-- Bytes that go over as they are: which ones stand for themselves, and where they are laid. What only the contracts of inner functions
-- cite is in `inner`.
pub mod Plain
pub mod Output
pub mod inner
