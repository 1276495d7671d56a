-- The laws of digits that the proof of `write` cites.
mod Laws
