pub mod ColumnEdits
pub mod Filled
pub mod RoundTrip
pub mod Ledgers
pub mod Capping
pub mod Lending
pub mod Running
