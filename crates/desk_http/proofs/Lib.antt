pub mod RepeatLemmas
pub mod ExchangeLemmas
pub mod ServingLemmas
mod CrashLemmas
mod CountLemmas
