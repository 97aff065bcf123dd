-- A lane from which an item is taken.
use Rattle.std.proofs.Common.{◌≡◌, Option, Some, None, ap}
use Rattle.std.specs.Prelude.{MatchOption}
use Rattle.core_queue.specs.declared.history.LaneHistory.{LaneHistory}
use Rattle.core_queue.specs.declared.item.Item.{Item}
use Rattle.core_queue.specs.Seen.{seen}
use Rattle.core_queue.specs.LaneHistory.{took, met_empty}
use Rattle.dispatch_loop.specs.Borne.{SameSent}

pub same_sent : (e e' : LaneHistory) (r : Option Item) → MatchOption r (e' ≡ met_empty e) (λ item. e' ≡ took (seen item) e) → SameSent e e'
same_sent e e' None is = record { key = ap (λ (z : LaneHistory). z.key) is; buckets = ap (λ (z : LaneHistory). z.buckets) is; sent = ap (λ (z : LaneHistory). z.sent) is }
same_sent e e' (Some x) is = record { key = ap (λ (z : LaneHistory). z.key) is; buckets = ap (λ (z : LaneHistory). z.buckets) is; sent = ap (λ (z : LaneHistory). z.sent) is }
