use Rattle.std.proofs.Common.{◌≡◌, ◌≤◌, ◌∙◌, sym, ap, List, ℕ, ◌++◌, length, length-append, Result, Ok, Err, IfOk, OnErr, arith}
use Rattle.pcapng_reader.specs.Progress.{Progress}
use Rattle.pcapng_reader.proofs.Givings.{suits_more}
use Rattle.pcapng_reader.proofs.reading.Reading.pull.Goals as goal

-- a read takes no byte away
grows : {F : Type 0} (r : Result ℕ F) (old new : List ℕ) (C : List ℕ → Type 0) (K : Type 0) → IfOk r (λ n. (piece : List ℕ) × (length piece ≡ n) × (new ≡ old ++ piece) × C piece) → OnErr r (K × (new ≡ old)) → length old ≤ length new
grows (Ok n) old new C K a b = let long = ap length a.2 ∙ length-append old a.0 in omega (arith, long)
grows (Err f) old new C K a b = let long = ap length b.1 in omega (arith, long)

pub invariant_of-self : goal.invariant_of-self
invariant_of-self g c =
    let i = c.self.inside in
    suits_more i.stage i.scope i.number (length i.ready) i.held (length i.window) (length c.pull.new.self) (λ e. c.requires.going (ap (λ (p : Progress). p.stage) (sym c.self.view_is) ∙ e)) c.self.invariant
    (grows c.pull.result i.window c.pull.new.self _ _ c.pull.ensures.bytes c.pull.ensures.err)
