-- The laws that several proofs share.
mod Digits
mod Forms
mod Signs
mod Starts
