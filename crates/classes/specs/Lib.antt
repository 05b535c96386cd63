pub mod Letters
pub mod Reduced
pub mod Words
pub mod Strikes
pub mod Sides
pub mod Reading
