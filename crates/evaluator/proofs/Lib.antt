-- The laws that several proofs share.
mod Appending
mod Numbers
mod Operands
mod Pairing
mod Spelling
mod Valuing
mod Waiting
mod Working
