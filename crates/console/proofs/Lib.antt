-- Laws of digits and of words put one behind the other.
mod Decimal
mod Laws
