-- What a SCAN or BACKSCAN asks for and leaves in the buffers (Scans), as the crate machine has it: the pattern's values as rows
-- (Patterns), each written by Putting, the fillers and the scan (Searches), what is left of the work at each stage (Stages).
pub mod ElementLaws
pub mod LongLaws
pub mod PatternLaws
pub mod Patterns
pub mod Putting
pub mod PuttingLaws
pub mod ReferenceLaws
pub mod Scans
pub mod SearchLaws
pub mod Searches
pub mod StageLaws
pub mod Stages
pub mod ValuingLaws
