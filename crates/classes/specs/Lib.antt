-- What the class table promises: the numbers of the classes (Numbers), and what a class says of its bytes, for callers (Laws).
pub mod Laws
pub mod Numbers
