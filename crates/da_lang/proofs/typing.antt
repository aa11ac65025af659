pub mod ExprTypesAt
pub mod FlowLaws
pub mod ForeignTypes
pub mod QueryTypesAt
pub mod SameTypes
pub mod ShapedAt
pub mod TypesAt
pub mod TypingAt
