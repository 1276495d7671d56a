-- Laws that several functions' proofs cite.
mod Bytes
mod Laws
