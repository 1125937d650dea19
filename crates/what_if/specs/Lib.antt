pub mod Decisions
pub mod Rows
pub mod Comparisons
pub mod Text
pub mod Laws
pub mod Sums
pub mod Days
