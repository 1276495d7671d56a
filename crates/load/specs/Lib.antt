-- What the contracts cite besides `paper`.
pub mod Limbs
pub mod Fraction
pub mod Shares
pub mod Unique
