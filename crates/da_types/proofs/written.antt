pub mod ExprsFine
pub mod Says
pub mod StmtsFine
pub mod TreesFine
