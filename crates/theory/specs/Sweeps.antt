-- Demand 2: the sweeps, over any equations and for a plan.
pub mod Climb
pub mod Demand2
pub mod Climbs
