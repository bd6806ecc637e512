pub mod Exchange
pub mod Crashes
pub mod Steps
pub mod Serving
pub mod Port
