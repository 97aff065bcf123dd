-- Read Imbalance, Greedy, Moves, Policies and BalancerView, and `AreLoads` of Standing; for the plan Lines,
-- Numbers, PlanForm, PlanText, PlanAnswer and PlanLines. Afterwards says what `propose` leaves. Better,
-- Leading, Ranking, NextLine, PlanReading and PlanRead serve proofs of bodies alone.
pub mod Afterwards
pub mod BalancerView
pub mod Better
pub mod Greedy
pub mod Imbalance
pub mod Leading
pub mod Lines
pub mod Moves
pub mod NextLine
pub mod Numbers
pub mod PlanAnswer
pub mod PlanForm
pub mod PlanLines
pub mod PlanRead
pub mod PlanReading
pub mod PlanText
pub mod Policies
pub mod Ranking
pub mod Standing
