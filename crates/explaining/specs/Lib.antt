pub mod Traces
pub mod Explained
pub mod Named
pub mod Described
pub mod Distinct
pub mod Answers
