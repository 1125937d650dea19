pub mod Behind
pub mod Healthy
pub mod OtherDays
