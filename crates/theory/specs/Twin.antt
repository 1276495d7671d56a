-- The executable twin: the equations and the refusals as definitions that compute, each with a theorem that what it finds is
-- what document 01's relations say.
pub mod Finding
pub mod Window
pub mod Bound
pub mod Sweeps
pub mod Judge
pub mod Answer
pub mod Computed
