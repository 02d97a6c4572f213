-- Values: results with notes, or stopped (Result, ResultLaws), the code's answers that stand for them (Stops), numbers (Numbers), strings from
-- numbers and numbers from strings (Conversion), and that these undo each other (Laws).
pub mod Conversion
pub mod Laws
pub mod Numbers
pub mod Result
pub mod ResultLaws
pub mod Stops
