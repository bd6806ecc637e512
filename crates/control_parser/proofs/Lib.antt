pub mod StepLemmas
pub mod ShapeLemmas
pub mod TextLemmas
pub mod BugReading
pub mod ReadingLemmas
