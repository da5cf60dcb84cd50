-- Lemmas.
mod Rowed
mod Named
mod Dumped
