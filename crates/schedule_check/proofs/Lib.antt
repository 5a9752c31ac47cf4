pub mod Listed
pub mod StartsTexts
pub mod Tables
