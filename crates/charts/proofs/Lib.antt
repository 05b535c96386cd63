pub mod Stands
pub mod Searches
pub mod Gathering
pub mod Trails
pub mod Joining
pub mod Laying
