use Rattle.std.proofs.Common.{◌≡◌, ◌-◌, ◌++◌, ◌∷◌, [], ℕ, List, map, drop, length, ap, ◌∙◌, arith, length-drop}
use Rattle.std.proofs.lemmas.List.{take_all}
use Rattle.std.specs.List.{range_with_len}
use Rattle.toeplitz.specs.Toeplitz.{toeplitz}
use Rattle.toeplitz.proofs.Tables.{tables-more}
use Rattle.toeplitz.proofs.key_tables.KeyTables.new.Goals as goal

pub loop-place-preserved : goal.loop-place-preserved
loop-place-preserved c =
    let forty : length c.args.key.now.0 ≡ 40 = omega arith in
    let rest = take_all (40 - c.loop-place.place) (drop c.loop-place.place c.args.key.now.0) (omega (arith, length-drop c.loop-place.place c.args.key.now.0)) in
    let push = c.push_table.ensures in let so_far = c.loop-place.invariant in record {
      hashes = tables-more c.loop-place.place c.args.key.now.0 c.loop-place.hashes.items c.push_table.new.hashes.items so_far.hashes
          (push.hashes ∙ ap (λ (k : List ℕ). c.loop-place.hashes.items ++ map (λ y. toeplitz k (y ∷ [])) (range_with_len 0 256)) rest);
      room = let k = push.room in let r = so_far.room in omega arith;
    }
