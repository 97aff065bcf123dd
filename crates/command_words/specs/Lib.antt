-- Read Words, then Values, then `command_of` in Reading, which contracts speak of. Refusals says
-- its refusals one by one, and Ranges the ranges of what it gives. Look, Made, Parsed and Taken
-- serve proofs of bodies alone.
pub mod Words
pub mod Refusals
pub mod Values
pub mod Reading
pub mod Ranges
pub mod Look
pub mod Made
pub mod Parsed
pub mod Taken
