-- The keys of a list of packets in the order of their first packets: each once, and no other.
use Rattle.std.proofs.Common.{◌≡◌, Bool, true, false, ◌||◌, List, [], ◌∷◌, ◌++◌, fold, refl, sym, ap, ◌∙◌, append_assoc}
use Rattle.std.proofs.lemmas.Bool.{true≢false}
use Rattle.std.specs.List.{list_any, IsDistinct}
use Rattle.std.specs.Ordering.{is_eq}
use Rattle.std.specs.Cmp.{IsEquivalence}
use Rattle.std.specs.declared.cmp.Ordering.{Ordering}
use Rattle.std.specs.declared.cmp.Ordering.TheVariants.{Less, Equal, Greater}
use Rattle.std.proofs.lemmas.Cmp.{tied_itself, eq_by_cmp_equiv}
use Rattle.std.proofs.lemmas.Grind.{fold-append}
use Rattle.std.proofs.lemmas.List.{append-nil}
use Rattle.std.proofs.lemmas.List.Folds.{list_any-append}
use Rattle.std.proofs.lemmas.Map.Keys.{IsDistinct-push}
use Rattle.packet_fields.specs.declared.key.FlowKey.{FlowKey}
use Rattle.packet_fields.specs.declared.packet.PacketInfo.{PacketInfo}
use Rattle.packet_fields.specs.Key.{key_cmp}
use Rattle.packet_fields.specs.KeyOrder.{key_cmp_total, key_cmp_exact}
use Rattle.bucket_table.specs.FirstKeys.{same_key, with_key, first_keys}

is_eq-Equal : (o : Ordering) → is_eq o ≡ true → o ≡ Equal
is_eq-Equal Less h = absurd (true≢false (sym h))
is_eq-Equal Equal h = refl
is_eq-Equal Greater h = absurd (true≢false (sym h))

pub same_key_laws : IsEquivalence same_key
same_key_laws = eq_by_cmp_equiv key_cmp_total

pub same_key_exact : (a b : FlowKey) → same_key a b ≡ true → a ≡ b
same_key_exact a b h = key_cmp_exact a b (is_eq-Equal (key_cmp a b) h)

pub same_key_itself : (a : FlowKey) → same_key a a ≡ true
same_key_itself a = ap is_eq (tied_itself key_cmp_total a)

or_none : (a : Bool) → (a || false) ≡ a
or_none true = refl
or_none false = refl

or_true : (a b : Bool) → b ≡ true → (a || b) ≡ true
or_true true b h = refl
or_true false b h = h

pub first_keys-push : (xs : List PacketInfo) (p : PacketInfo) → first_keys (xs ++ p ∷ []) ≡ with_key (first_keys xs) p.key
first_keys-push xs p = fold-append (λ keys p. with_key keys p.key) [] xs (p ∷ [])

with_key-distinct : (keys : List FlowKey) (key : FlowKey) → IsDistinct same_key keys → IsDistinct same_key (with_key keys key)
with_key-distinct keys key d = by (list_any (same_key key) keys) refl
  where
    by : (b : Bool) → list_any (same_key key) keys ≡ b → IsDistinct same_key (with_key keys key)
    by true e = rw e d
    by false e = rw e (IsDistinct-push same_key_laws keys key d e)

distinct_from : (keys : List FlowKey) (ps : List PacketInfo) → IsDistinct same_key keys → IsDistinct same_key (fold (λ keys p. with_key keys p.key) keys ps)
distinct_from keys [] d = d
distinct_from keys (p ∷ ps) d = distinct_from (with_key keys p.key) ps (with_key-distinct keys p.key d)

pub first_keys-distinct : (ps : List PacketInfo) → IsDistinct same_key (first_keys ps)
unfolding IsDistinct
first_keys-distinct ps = distinct_from [] ps tt

-- a key that is found stays found where one more is put behind
or_same : (q : FlowKey) (keys : List FlowKey) (key : FlowKey) → list_any (same_key key) keys ≡ true → (list_any (same_key q) keys || same_key q key) ≡ list_any (same_key q) keys
or_same q keys key h = by (same_key q key) refl
  where
    by : (b : Bool) → same_key q key ≡ b → (list_any (same_key q) keys || same_key q key) ≡ list_any (same_key q) keys
    by true e =
        let one = same_key_exact q key e in
        let found : list_any (same_key q) keys ≡ true = ap (λ (k : FlowKey). list_any (same_key k) keys) one ∙ h in
        or_true (list_any (same_key q) keys) (same_key q key) e ∙ sym found
    by false e = ap (λ b. list_any (same_key q) keys || b) e ∙ or_none (list_any (same_key q) keys)

with_key-among : (q : FlowKey) (keys : List FlowKey) (key : FlowKey) → list_any (same_key q) (with_key keys key) ≡ (list_any (same_key q) keys || same_key q key)
with_key-among q keys key = by (list_any (same_key key) keys) refl
  where
    by : (b : Bool) → list_any (same_key key) keys ≡ b → list_any (same_key q) (with_key keys key) ≡ (list_any (same_key q) keys || same_key q key)
    by true e = rw e (sym (or_same q keys key e))
    by false e = rw e (list_any-append (same_key q) keys (key ∷ []) ∙ ap (λ b. list_any (same_key q) keys || b) (or_none (same_key q key)))

or_assoc : (a b c : Bool) → ((a || b) || c) ≡ (a || (b || c))
or_assoc true b c = refl
or_assoc false b c = refl

among_from : (q : FlowKey) (keys : List FlowKey) (ps : List PacketInfo) → list_any (same_key q) (fold (λ keys p. with_key keys p.key) keys ps) ≡ (list_any (same_key q) keys || list_any (λ p. same_key q p.key) ps)
among_from q keys [] = sym (or_none (list_any (same_key q) keys))
among_from q keys (p ∷ ps) =
    among_from q (with_key keys p.key) ps
    ∙ (ap (λ b. b || list_any (λ p. same_key q p.key) ps) (with_key-among q keys p.key)
    ∙ or_assoc (list_any (same_key q) keys) (same_key q p.key) (list_any (λ p. same_key q p.key) ps))

pub first_keys-among : (q : FlowKey) (ps : List PacketInfo) → list_any (same_key q) (first_keys ps) ≡ list_any (λ p. same_key q p.key) ps
first_keys-among q ps = among_from q [] ps

with_key-front : (keys : List FlowKey) (key : FlowKey) → (more : List FlowKey) × (with_key keys key ≡ keys ++ more)
with_key-front keys key = by (list_any (same_key key) keys) refl
  where
    by : (b : Bool) → list_any (same_key key) keys ≡ b → (more : List FlowKey) × (with_key keys key ≡ keys ++ more)
    by true e = ([], rw e (sym (append-nil keys)))
    by false e = (key ∷ [], rw e refl)

front_from : (keys : List FlowKey) (ps : List PacketInfo) → (more : List FlowKey) × (fold (λ keys p. with_key keys p.key) keys ps ≡ keys ++ more)
front_from keys [] = ([], sym (append-nil keys))
front_from keys (p ∷ ps) =
    let one = with_key-front keys p.key in
    let later = front_from (with_key keys p.key) ps in
    (one.0 ++ later.0, later.1 ∙ (ap (λ (l : List FlowKey). l ++ later.0) one.1 ∙ append_assoc keys one.0 later.0))

pub first_keys-front : (front rest : List PacketInfo) → (more : List FlowKey) × (first_keys (front ++ rest) ≡ first_keys front ++ more)
first_keys-front front rest =
    let later = front_from (first_keys front) rest in
    (later.0, fold-append (λ keys p. with_key keys p.key) [] front rest ∙ later.1)
