pub mod Keys
pub mod Listing
