pub mod DocumentLaws
pub mod TextLaws
pub mod ReadingLaws
