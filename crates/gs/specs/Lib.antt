-- GS strings: the reading of a text, its translation. What only the contracts of inner functions cite is in `inner`.
pub mod Readings
pub mod Translations
pub mod inner
