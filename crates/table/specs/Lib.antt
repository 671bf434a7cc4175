pub mod Kinds
pub mod Shape
pub mod Open
pub mod View
pub mod Cases
