pub mod Classes
pub mod Subtypes
pub mod Operators
