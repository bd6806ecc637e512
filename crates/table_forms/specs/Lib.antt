pub mod Faults
pub mod Forms
pub mod Numbers
pub mod TypedRows
