-- Look-ups: what a name means in two tables, with or without an index beside the house's. What only the contracts of inner functions cite
-- is in `inner`.
pub mod Lookups
pub mod inner
