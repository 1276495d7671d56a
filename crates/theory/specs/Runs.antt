-- Demand 3: a task and its rivals under the running rule, the window theorem, paths.
pub mod Busy
pub mod Rivals
pub mod Served
pub mod Jobs
pub mod Service
pub mod OneAtATime
pub mod Covers
pub mod InTime
pub mod Paths
pub mod Demand3
pub mod Grid
pub mod Dense
