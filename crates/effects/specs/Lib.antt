-- What statements leave in the buffers (Leaving, Reading, Valued), what a scan searches (References), its fillers (Fillers) and its
-- replacement (Replacing), and the laws that the proofs and a scan's callers cite.
pub mod FillerLaws
pub mod Fillers
pub mod Laws
pub mod Leaving
pub mod OtherLaws
pub mod Reading
pub mod ReadingLaws
pub mod ReferenceLaws
pub mod References
pub mod Replacing
pub mod ReplacingLaws
pub mod Valued
pub mod ValuedLaws
