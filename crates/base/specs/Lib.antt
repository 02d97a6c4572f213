-- What the definitions share: bytes of a text (Text), tests on lists (Lists, ListLaws), what holds whichever way a test goes (Choice), the sizes that
-- an edition of the language fixes (Edition; the current one: Current), and the counts that are the same in all (Limits).
pub mod Choice
pub mod Current
pub mod Edition
pub mod Limits
pub mod ListLaws
pub mod Lists
pub mod Text
