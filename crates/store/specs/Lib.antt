pub mod Model
pub mod History
pub mod Texts
pub mod Numbers
