-- Variables: the records of a table, when it is good, what a name means in two of them, and what is found of a text and the tables before
-- the text is read. What only the contracts of inner functions cite is in `inner`.
pub mod Tables
pub mod Holdings
pub mod Names
pub mod Judgements
pub mod inner
