-- Lemmas of the functions' proofs.
pub mod Words
