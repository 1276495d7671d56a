-- Numbers: the least and the largest, ranges, sums, tests, least fixed points.
pub mod Least
pub mod Ranges
pub mod Sums
pub mod Products
pub mod Tests
pub mod FixedPoints
