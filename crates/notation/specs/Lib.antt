pub mod Kind
pub mod Known
pub mod Modes
pub mod Kinds
pub mod Laws
