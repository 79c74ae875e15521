-- What only inner functions' contracts cite.
pub mod Steps
