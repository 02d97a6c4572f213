-- What executing a statement leaves in the buffers (Executing), and the law of each kind of statement (Laws).
pub mod Executing
pub mod Laws
