pub mod Stacking
pub mod Unions
