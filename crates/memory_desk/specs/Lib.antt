pub mod KeptMessages
