use Rattle.std.proofs.Common.{◌≡◌, [], ◌∷◌, ◌++◌, ◌∙◌, ℕ, map, ap, arith}
use Rattle.std.specs.List.{range_with_len}
use Rattle.toeplitz.specs.Toeplitz.{toeplitz}
use Rattle.toeplitz.proofs.Tables.{table-more}
use Rattle.toeplitz.proofs.key_tables.push_table.Goals as goal

pub loop-byte-preserved : goal.loop-byte-preserved
loop-byte-preserved c =
    let push = c.push_reserved.ensures in let so_far = c.loop-byte.invariant in record {
      hashes = table-more (λ y. toeplitz c.args.key.now (y ∷ [])) c.args.hashes.now.items c.loop-byte.hashes.items c.push_reserved.new.self.items c.loop-byte.byte c.byte_hash.result so_far.hashes c.byte_hash.ensures push.items;
      count = let l = push.len in let n = so_far.count in omega arith;
      room = let k = push.capacity in let r = so_far.room in omega arith;
    }

pub returns-clause-hashes : goal.returns-clause-hashes
returns-clause-hashes c =
    let end : c.loop-byte.byte ≡ 256 = omega arith in
    c.loop-byte.invariant.hashes ∙ ap (λ (n : ℕ). c.args.hashes.now.items ++ map (λ y. toeplitz c.args.key.now (y ∷ [])) (range_with_len 0 n)) end
