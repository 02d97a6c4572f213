-- The laws that several proofs share: counts up to a quote, places where nothing stands.
mod Quotes
