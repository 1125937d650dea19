pub mod Fresh
pub mod Loops
pub mod Ends
pub mod Fitting
pub mod Standing
pub mod Trying
pub mod Deciding
pub mod Summed
