pub mod BetweenLaws
pub mod FilterLaws
pub mod FrontLaws
pub mod JoinLaws
pub mod LendLaws
pub mod SideLaws
pub mod SpanLaws
pub mod UnionLaws
