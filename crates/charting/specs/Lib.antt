pub mod Searching
pub mod Places
pub mod Waits
pub mod Searches
pub mod Steps
pub mod Charts
