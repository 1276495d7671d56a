-- One task's bound, under any policy and under the base policy.
pub mod Policy
pub mod Demand
pub mod Preemptive
