-- What only the contracts of inner functions cite.
pub mod Fitting
pub mod Through
