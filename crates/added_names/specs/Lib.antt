pub mod Changes
pub mod Filled
pub mod Firsts
pub mod Names
pub mod StmtTags
pub mod Tags
