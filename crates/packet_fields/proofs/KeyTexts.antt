-- The pieces of a key's text, one behind the other.
use Rattle.std.proofs.Common.{◌≡◌, ℕ, ◌/◌, ◌%◌, List, [], ◌++◌, refl, sym, ap, subst, ◌∙◌, append_assoc, codes, Result, OnOk, OnErr}
use Rattle.std.proofs.lemmas.List.{append-nil}
use Rattle.std.specs.Fmt.{decimal}
use Rattle.rss_base.specs.Piece.{GrowsByFront}
use Rattle.packet_fields.specs.declared.key.FlowKey.{FlowKey}
use Rattle.packet_fields.specs.KeyText.{address_text, end_text, ends_text, addresses_text, ipv6_address_text, ipv6_ends_text, ipv6_addresses_text}

-- the four numbers of an address
pub record AreOctets (a s0 s1 s2 s3 : ℕ) : Type 0 where
  pub first : s0 ≡ a / 16777216 % 256
  pub second : s1 ≡ a / 65536 % 256
  pub third : s2 ≡ a / 256 % 256
  pub fourth : s3 ≡ a % 256

-- an address in pieces, with more behind it
address_flat : (a s0 s1 s2 s3 : ℕ) (more : List ℕ) → AreOctets a s0 s1 s2 s3 → decimal s0 ++ (codes "." ++ (decimal s1 ++ (codes "." ++ (decimal s2 ++ (codes "." ++ (decimal s3 ++ more)))))) ≡ address_text a ++ more
unfolding address_text
address_flat a s0 s1 s2 s3 more e = rw (e.first, e.second, e.third, e.fourth) (simp append_assoc)

-- an end in pieces
end_flat : (a s0 s1 s2 s3 p q : ℕ) (more : List ℕ) → AreOctets a s0 s1 s2 s3 → p ≡ q → decimal s0 ++ (codes "." ++ (decimal s1 ++ (codes "." ++ (decimal s2 ++ (codes "." ++ (decimal s3 ++ (codes ":" ++ (decimal p ++ more)))))))) ≡ end_text a q ++ more
end_flat a s0 s1 s2 s3 p q more e f =
    address_flat a s0 s1 s2 s3 (codes ":" ++ (decimal p ++ more)) e ∙ rw f (sym (append_assoc (address_text a) (codes ":" ++ decimal q) more))

pub ends_flat : (name : List ℕ) (k : FlowKey) (s0 s1 s2 s3 p d0 d1 d2 d3 q : ℕ) → AreOctets k.source s0 s1 s2 s3 → p ≡ k.source_port → AreOctets k.destination d0 d1 d2 d3 → q ≡ k.destination_port →
    name ++ (decimal s0 ++ (codes "." ++ (decimal s1 ++ (codes "." ++ (decimal s2 ++ (codes "." ++ (decimal s3 ++ (codes ":" ++ (decimal p ++ (codes " > " ++ (decimal d0 ++ (codes "." ++ (decimal d1 ++ (codes "." ++ (decimal d2 ++ (codes "." ++ (decimal d3 ++ (codes ":" ++ (decimal q ++ []))))))))))))))))))) ≡ ends_text name k
unfolding ends_text
ends_flat name k s0 s1 s2 s3 p d0 d1 d2 d3 q a b c d =
    ap (λ w. name ++ w)
    (end_flat k.source s0 s1 s2 s3 p k.source_port _ a b
    ∙ ap (λ w. end_text k.source k.source_port ++ (codes " > " ++ w)) (end_flat k.destination d0 d1 d2 d3 q k.destination_port [] c d ∙ append-nil (end_text k.destination k.destination_port)))

pub addresses_flat : (k : FlowKey) (s0 s1 s2 s3 d0 d1 d2 d3 p : ℕ) → AreOctets k.source s0 s1 s2 s3 → AreOctets k.destination d0 d1 d2 d3 → p ≡ k.protocol →
    codes "ip " ++ (decimal s0 ++ (codes "." ++ (decimal s1 ++ (codes "." ++ (decimal s2 ++ (codes "." ++ (decimal s3 ++ (codes " > " ++ (decimal d0 ++ (codes "." ++ (decimal d1 ++ (codes "." ++ (decimal d2 ++ (codes "." ++ (decimal d3 ++ (codes " proto " ++ (decimal p ++ []))))))))))))))))) ≡ addresses_text k
unfolding addresses_text
addresses_flat k s0 s1 s2 s3 d0 d1 d2 d3 p a b c =
    ap (λ w. codes "ip " ++ w)
    (address_flat k.source s0 s1 s2 s3 _ a
    ∙ ap (λ w. address_text k.source ++ (codes " > " ++ w)) (address_flat k.destination d0 d1 d2 d3 _ b ∙ rw (c, append-nil) refl))

-- both ends over IPv6, in pieces
pub ipv6_ends_flat : (name : List ℕ) (k : FlowKey) (s d : List ℕ) (p q : ℕ) → s ≡ ipv6_address_text k.source → p ≡ k.source_port → d ≡ ipv6_address_text k.destination → q ≡ k.destination_port →
    name ++ (codes "[" ++ (s ++ (codes "]:" ++ (decimal p ++ (codes " > [" ++ (d ++ (codes "]:" ++ (decimal q ++ [])))))))) ≡ ipv6_ends_text name k
unfolding ipv6_ends_text
ipv6_ends_flat name k s d p q a b e f = rw (a, b, e, f, append-nil) (simp append_assoc)

-- both addresses over IPv6, in pieces
pub ipv6_addresses_flat : (k : FlowKey) (s d : List ℕ) (p : ℕ) → s ≡ ipv6_address_text k.source → d ≡ ipv6_address_text k.destination → p ≡ k.protocol →
    codes "ip6 " ++ (s ++ (codes " > " ++ (d ++ (codes " proto " ++ (decimal p ++ []))))) ≡ ipv6_addresses_text k
unfolding ipv6_addresses_text
ipv6_addresses_flat k s d p a b e = rw (a, b, e, append-nil) refl

-- a call that appends the one list appends the other
pub adds : {T E : Type 0} (r : Result T E) (old new x y : List ℕ) → x ≡ y → OnOk r (new ≡ old ++ x) → OnOk r (new ≡ old ++ y)
adds r old new x y e h = subst (λ (w : List ℕ). OnOk r (new ≡ old ++ w)) e h

pub adds_front : {T E : Type 0} (r : Result T E) (old new x y : List ℕ) → x ≡ y → OnErr r (GrowsByFront old new x) → OnErr r (GrowsByFront old new y)
adds_front r old new x y e h = subst (λ (w : List ℕ). OnErr r (GrowsByFront old new w)) e h
