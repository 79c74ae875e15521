-- What the library promises, over what the contracts allow.
pub mod Accepted
pub mod Allowed
pub mod Leads
pub mod Ties
pub mod Examples
pub mod Conversions
pub mod Dates
pub mod Readings
pub mod TwoTables
pub mod Lookups
pub mod Indexes
pub mod Translations
pub mod Codes
pub mod Evaluations
pub mod Determined
pub mod Promises
