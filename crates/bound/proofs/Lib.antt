-- Laws that the functions' proofs cite.
mod Interference
mod Looks
