pub mod Absent
pub mod Balanced
