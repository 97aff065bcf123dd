-- The equality of keys that a map takes is that of their order.
use Rattle.std.specs.Prelude.{◌≡◌, ℕ, Bool, nat_eq, ◌&&◌}
use Rattle.std.proofs.Common.{refl, sym, ap, ◌∙◌, arith}
use Rattle.std.proofs.lemmas.Grind.{common_steps}
use Rattle.std.specs.Ordering.{nat_cmp, ordering_then, is_eq}
use Rattle.std.specs.declared.cmp.Ordering.{Ordering}
use Rattle.std.specs.declared.cmp.Ordering.TheVariants.{Less, Equal, Greater}
use Rattle.packet_fields.specs.declared.key.Class.{Class}
use Rattle.packet_fields.specs.declared.key.Class.TheVariants.{Tcp, Udp, Ip, Tcp6, Udp6, Ip6, Other}
use Rattle.packet_fields.specs.declared.key.FlowKey.{FlowKey}
use Rattle.packet_fields.specs.contracts.key.ClassPartialEq.TheImpl.{eq-value as class_eq}
use Rattle.packet_fields.specs.contracts.key.FlowKeyPartialEq.TheImpl.{eq-value}
use Rattle.packet_fields.specs.Key.{class_rank}
use Rattle.bucket_table.specs.FirstKeys.{same_key}

class_is : (c d : Class) → class_eq.it c d ≡ nat_eq (class_rank c) (class_rank d)
class_is Tcp Tcp = refl
class_is Tcp Udp = refl
class_is Tcp Ip = refl
class_is Tcp Tcp6 = refl
class_is Tcp Udp6 = refl
class_is Tcp Ip6 = refl
class_is Tcp Other = refl
class_is Udp Tcp = refl
class_is Udp Udp = refl
class_is Udp Ip = refl
class_is Udp Tcp6 = refl
class_is Udp Udp6 = refl
class_is Udp Ip6 = refl
class_is Udp Other = refl
class_is Ip Tcp = refl
class_is Ip Udp = refl
class_is Ip Ip = refl
class_is Ip Tcp6 = refl
class_is Ip Udp6 = refl
class_is Ip Ip6 = refl
class_is Ip Other = refl
class_is Tcp6 Tcp = refl
class_is Tcp6 Udp = refl
class_is Tcp6 Ip = refl
class_is Tcp6 Tcp6 = refl
class_is Tcp6 Udp6 = refl
class_is Tcp6 Ip6 = refl
class_is Tcp6 Other = refl
class_is Udp6 Tcp = refl
class_is Udp6 Udp = refl
class_is Udp6 Ip = refl
class_is Udp6 Tcp6 = refl
class_is Udp6 Udp6 = refl
class_is Udp6 Ip6 = refl
class_is Udp6 Other = refl
class_is Ip6 Tcp = refl
class_is Ip6 Udp = refl
class_is Ip6 Ip = refl
class_is Ip6 Tcp6 = refl
class_is Ip6 Udp6 = refl
class_is Ip6 Ip6 = refl
class_is Ip6 Other = refl
class_is Other Tcp = refl
class_is Other Udp = refl
class_is Other Ip = refl
class_is Other Tcp6 = refl
class_is Other Udp6 = refl
class_is Other Ip6 = refl
class_is Other Other = refl

tied_numbers : (a b : ℕ) → is_eq (nat_cmp a b) ≡ nat_eq a b
tied_numbers a b = grind (arith, common_steps)

tied_then : (o p : Ordering) → is_eq (ordering_then o p) ≡ (is_eq o && is_eq p)
tied_then Less p = refl
tied_then Equal p = refl
tied_then Greater p = refl

-- the equality that the map of flows takes
abbrev pub derived_eq : FlowKey → FlowKey → Bool
derived_eq = eq-value.it

both : (a b c d : Bool) → a ≡ b → c ≡ d → (a && c) ≡ (b && d)
both a b c d p q = ap (λ x. x && c) p ∙ ap (λ y. b && y) q

step : (x y : ℕ) (o : Ordering) (b : Bool) → is_eq o ≡ b → is_eq (ordering_then (nat_cmp x y) o) ≡ (nat_eq x y && b)
step x y o b h = tied_then (nat_cmp x y) o ∙ both (is_eq (nat_cmp x y)) (nat_eq x y) (is_eq o) b (tied_numbers x y) h

derived_same : (a b : FlowKey) → derived_eq a b ≡ same_key a b
derived_same a b =
    ap (λ c. c && (nat_eq a.source b.source && (nat_eq a.destination b.destination && (nat_eq a.source_port b.source_port && (nat_eq a.destination_port b.destination_port && nat_eq a.protocol b.protocol))))) (class_is a.class b.class)
    ∙ sym (step (class_rank a.class) (class_rank b.class) _ _
    (step a.source b.source _ _
    (step a.destination b.destination _ _
    (step a.source_port b.source_port _ _
    (step a.destination_port b.destination_port _ _ (tied_numbers a.protocol b.protocol))))))

pub derived_is : derived_eq ≡ same_key
derived_is = λ i. λ a b. derived_same a b i
