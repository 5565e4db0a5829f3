pub mod Prices
pub mod Slips
pub mod Faults
pub mod SlipReading
