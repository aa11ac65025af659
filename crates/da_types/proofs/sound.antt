pub mod AcceptedLaws
pub mod AcceptedShaped
pub mod AcceptedSound
pub mod BoundRows
