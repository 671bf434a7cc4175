pub mod Numbers
pub mod Operators
pub mod Types
pub mod Cases
pub mod Laws
