pub mod Ends
pub mod Stored
pub mod Inverses
pub mod Joins
pub mod Spelled
pub mod Parities
pub mod Ranks
