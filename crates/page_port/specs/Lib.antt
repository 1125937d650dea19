pub mod Answering
pub mod Asking
pub mod Counting
pub mod Limits
pub mod Shown
