-- Read Capture, the format. Then Stream and Reading say what one call takes and does, Next what
-- `next` leaves, and StreamEnd and Taken what many calls take.
pub mod Capture
pub mod Next
pub mod Reading
pub mod Stream
pub mod StreamEnd
pub mod Taken
