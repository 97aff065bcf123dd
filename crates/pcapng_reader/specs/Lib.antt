-- Read Numbers, Front, Options, Scope, Time, Breaks and Blocks, the format; Reading, the same as a
-- relation; and Classic. Progress, Stages and Lent say what a source has still to give. Looks and
-- Steps serve proofs of bodies alone.
pub mod Blocks
pub mod Breaks
pub mod Classic
pub mod Front
pub mod Lent
pub mod Looks
pub mod Numbers
pub mod Options
pub mod Progress
pub mod Reading
pub mod Scope
pub mod Stages
pub mod Steps
pub mod Time
