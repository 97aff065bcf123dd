-- What is lent to a call by two references, and what the call leaves there.
use Rattle.std.specs.Prelude.{◌≡◌}
use Rattle.std.specs.Borrow.{MutBor}

-- the call may be made with references that show these values
abbrev pub MayLend : {X Y : Type 0} → (MutBor X → MutBor Y → Type 0) → X → Y → Type 0
MayLend {X} {Y} pre x y = (p : MutBor X) (q : MutBor Y) → p.now ≡ x → q.now ≡ y → pre p q

-- a call with references that showed these values gave r, and left others there
pub record Lent {X Y A : Type 0} (post : MutBor X → MutBor Y → A → MutBor X → MutBor Y → Type 0) (x : X) (y : Y) (r : A) (x' : X) (y' : Y) : Type 0 where
  pub first : MutBor X
  pub second : MutBor Y
  pub first_left : MutBor X
  pub second_left : MutBor Y
  pub shows_first : first.now ≡ x
  pub shows_second : second.now ≡ y
  pub leaves_first : first_left.now ≡ x'
  pub leaves_second : second_left.now ≡ y'
  pub met : post first second r first_left second_left
