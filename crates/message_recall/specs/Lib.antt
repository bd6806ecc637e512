pub mod Recalling
-- definitions that only private functions cite
pub mod NamesRead
