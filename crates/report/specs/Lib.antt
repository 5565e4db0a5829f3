pub mod Tracks
pub mod Wording
pub mod Outcomes
pub mod Reports
