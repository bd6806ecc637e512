pub mod Idle
pub mod Shown
pub mod Still
pub mod Opening
pub mod Transactions
