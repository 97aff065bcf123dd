use Rattle.std.proofs.Common.{◌+◌, ℕ, List, [], map, refl, ap, ◌∙◌, subst, Some, arith}
use Rattle.std.specs.Prelude.{replicate}
use Rattle.handover_core.specs.declared.bucket_state.BucketState.{BucketState}
use Rattle.handover_core.specs.State.{Away, CoreState}
use Rattle.handover_core.specs.Cores.{HaveRoom}
use Rattle.handover_core.proofs.News.{new-machine}
use Rattle.handover_core.proofs.machine.Machine.new.Goals as goal

pub invariant_of-result : goal.invariant_of-result
invariant_of-result c =
    let workers = c.in_ok-workers.ensures in
    let list = c.in-Ok.ensures in
    let count = c.len.ensures ∙ c.args.packets.ok.0 in
    let space = list.capacity in
    new-machine _ c.args.start.now c.args.cores (record {
      table = c.owners.ensures.table;
      same = c.requires.cores;
      few = c.requires.few;
      packets = c.requires.buckets;
      fewest = c.requires.fewest;
      most = c.requires.most;
      moves = c.requires.moves;
      first_moves = refl;
      sent = refl;
      free = refl;
      claims = refl;
      releases = refl;
      dispatched = list.items;
      ending = refl;
      buckets = c.in_ok-buckets.ensures ∙ ap (λ (owners : List ℕ). map (λ (owner : ℕ). let b : BucketState = record { owner = owner; start = 0; seen = 0; word = 1; shelf = Some 0 } in b) owners) c.owners.ensures.value;
      workers = workers.state ∙ ap (λ (n : ℕ). replicate c.args.cores (let s : CoreState = record { queue = []; taken = []; hands = replicate n Away } in s)) (c.len-2.ensures ∙ c.in_ok-buckets.buckets.ok.0);
      counts = c.in-Ok-vec.ensures.items_if_clones_equal (λ y e. e) ∙ ap (λ (n : ℕ). replicate n 0) (c.len-3.ensures ∙ c.in_ok-buckets.buckets.ok.0);
      ends = c.in-Ok-vec-2.ensures.items_if_clones_equal (λ y e. e);
      room = omega arith;
      rooms = subst (λ (n : ℕ). HaveRoom (c.args.pool + 1) (n + c.args.moves + c.args.cores) c.in_ok-workers.workers.items) count workers.room;
    })
