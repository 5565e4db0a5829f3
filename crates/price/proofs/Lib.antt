pub mod Widest
pub mod Spots
pub mod Comparing
pub mod Keeps
pub mod Spanned
