-- What the code says that opens a register, takes a line and hands one out (Putting), and the laws behind it: a line stored and handed out (PutLaws),
-- lines written out and the house currency told (OpenLaws).
pub mod OpenLaws
pub mod PutLaws
pub mod Putting
