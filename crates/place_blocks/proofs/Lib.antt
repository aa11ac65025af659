pub mod BlockLaws
pub mod EditLaws
pub mod JoinLaws
pub mod NumberedLaws
