mod Stepping
mod Completing
