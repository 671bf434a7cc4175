pub mod Commands
pub mod Faults
pub mod Kept
pub mod Numbers
pub mod Play
pub mod Sessions
pub mod Texts
pub mod Words
