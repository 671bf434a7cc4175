pub mod Known
pub mod Rows
pub mod Lists
pub mod Executed
pub mod Walks
