pub mod Monitor
pub mod Questions
