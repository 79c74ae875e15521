-- The symbols of a text: flags, and what stands at a place. What only the contracts of inner functions cite is in `inner`.
pub mod Flags
pub mod Symbols
pub mod inner
