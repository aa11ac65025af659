pub mod ChangesAt
pub mod Examples
pub mod FillLaws
pub mod FirstLaws
pub mod FoundLaws
pub mod StmtTagsAt
pub mod TagsAt
