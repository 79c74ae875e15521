-- What only the contracts of inner functions cite.
pub mod Steps
