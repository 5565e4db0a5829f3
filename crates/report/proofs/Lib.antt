pub mod Fronts
pub mod Calls
pub mod Inputs
pub mod Signs
