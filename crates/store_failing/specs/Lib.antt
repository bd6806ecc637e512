pub mod FailAt
