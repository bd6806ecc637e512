pub mod HadLemmas
pub mod HeadLemmas
pub mod PieceLemmas
pub mod HeaderLemmas
pub mod BodyLemmas
pub mod TakenLemmas
