-- What the code says of a window that it read (Reading), with the laws of reading it number by number (ReadLaws) and of writing it (WriteLaws).
pub mod ReadLaws
pub mod Reading
pub mod WriteLaws
