pub mod Tiles
pub mod Meaning
pub mod Counted
