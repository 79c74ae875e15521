-- The order of a table's records and of an index's entries, that a search through a table's own index finds what its look-up finds, and
-- what inserting one more entry comes to.
pub mod Sorting
pub mod Entries
pub mod Searching
pub mod Inserting
pub mod Laying
