pub mod FrontsAt
pub mod LiveAt
pub mod OnceAt
pub mod ReadingAt
pub mod UnreadAt
