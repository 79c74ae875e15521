-- Records: the format of one record of a table, its parts and its shape, when two names are equal, and what its kind and its value stand
-- for. What only the contracts of inner functions cite is in `inner`.
pub mod Records
pub mod Kinds
pub mod inner
