pub mod Pricing
pub mod Prices
pub mod Meanings
pub mod WidestGap
pub mod History
pub mod Keeping
pub mod Spanning
pub mod Answers
