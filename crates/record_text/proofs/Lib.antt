pub mod TextLaws
pub mod RowReads
pub mod Rows
pub mod IsDueAfter
pub mod KindLaws
pub mod FirstWrong
