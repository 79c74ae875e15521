-- Indexes: the records of a table in the order of their names, when an index fits a table, and what building one answers. What only the
-- contracts of inner functions cite is in `inner`.
pub mod Indexes
pub mod Buildings
pub mod inner
