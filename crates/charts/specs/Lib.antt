pub mod Charts
pub mod Finding
pub mod Asking
pub mod Ranks
pub mod Listing
pub mod Listed
pub mod Trails
pub mod Laid
