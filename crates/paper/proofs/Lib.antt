-- Laws that every chapter's proofs share.
pub mod Choice
pub mod Runs
pub mod Placed
pub mod Listed
pub mod DemandThree
pub mod Made
pub mod Stores
pub mod Laid
pub mod Claimed
pub mod Refused
pub mod BitLaws
pub mod Told
