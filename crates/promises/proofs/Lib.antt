-- Why the promises are kept.
pub mod Contracts
pub mod ReadBack
pub mod Outcomes
pub mod WorkedExamples
pub mod Layings
pub mod ConversionsKept
pub mod DatesKept
pub mod ReadingsKept
pub mod TwoTablesKept
pub mod OtherNumbers
pub mod LookupsKept
pub mod TranslationsKept
pub mod CodesKept
pub mod IndexesKept
pub mod EvaluationsKept
pub mod DeterminedKept
pub mod Kept
