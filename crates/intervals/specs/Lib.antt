pub mod Limits
pub mod Reasons
pub mod LimitsPromise
