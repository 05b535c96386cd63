pub mod Keys
pub mod Tests
