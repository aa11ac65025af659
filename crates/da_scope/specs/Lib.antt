pub mod ClassView
pub mod HomeView
pub mod Inlining
pub mod LabelsView
pub mod MakingView
pub mod MethodsView
pub mod NamesView
pub mod Resolving
