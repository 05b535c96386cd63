pub mod Opens
pub mod Keys
pub mod Leads
pub mod Ends
