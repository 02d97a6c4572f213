-- How the code's answers stand for the results of document 01 (Numbers, Text); the code's sizes are those of the definitions (Laws).
pub mod Laws
pub mod Numbers
pub mod Text
