pub mod Probes
pub mod Indexes
pub mod Orders
pub mod Queues
pub mod Heaps
