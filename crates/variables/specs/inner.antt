-- What only the contracts of inner functions cite.
pub mod Keys
pub mod Notes
