pub mod JobLaws
pub mod RecordLaws
