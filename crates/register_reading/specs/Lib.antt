-- What the code says that reads a register (Reading, Opened), and the laws behind it: contracts as keys (KeyLaws), slots read one after the other (SlotLaws),
-- header and slots of a buffer, and where a line stands in it (ReadLaws).
pub mod KeyLaws
pub mod Opened
pub mod ReadLaws
pub mod Reading
pub mod SlotLaws
