pub mod Places
pub mod Plain
-- definitions that only private functions cite
pub mod Passing
pub mod PlacesOfImages
pub mod Named
pub mod Sums
