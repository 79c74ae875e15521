-- Laws of the calendar.
pub mod Totals
pub mod InYears
pub mod InMonths
pub mod DateLaws
pub mod MomentLaws
