-- What the works' folds come to, begun at any state.
use Rattle.std.proofs.Common.{◌≡◌, ℕ, ◌+◌, ◌*◌, ◌%◌, ◌^◌, ◌-◌, ◌<◌, max, List, [], ◌∷◌, length, map, refl, sym, ap, ◌∙◌, arith, cond, bit_or, Some}
use Rattle.std.specs.List.{fold}
use Rattle.std.proofs.Math.Nat.{mod-add-mod, mod-eq_of_lt, mod-lt, pow-succ'}
use Rattle.std.proofs.lemmas.Nat.{mul-mod_first}
use Rattle.packet_fields.specs.declared.packet.PacketInfo.{PacketInfo}
use Rattle.flow_work.specs.declared.count.Counted.{Counted}
use Rattle.flow_work.specs.declared.tcp_flags.SeenFlags.{SeenFlags}
use Rattle.flow_work.specs.Count.{counted}
use Rattle.flow_work.specs.TcpFlags.{flags_after, has_bit}
use Rattle.flow_work.specs.Gaps.{no_gap, gap_after, gaps_between, longest_gap}
use Rattle.flow_work.specs.OrderFold.{folded, number_of}

pub packets_from : (s : Counted) (ps : List PacketInfo) → (fold counted s ps).packets ≡ s.packets + length ps
packets_from s [] = omega arith
packets_from s (p ∷ ps) = let more = packets_from (counted s p) ps in omega (arith, more)

pub bytes_from : (s : Counted) (ps : List PacketInfo) → (fold counted s ps).bytes ≡ fold (λ n p. n + p.original) s.bytes ps
bytes_from s [] = refl
bytes_from s (p ∷ ps) = bytes_from (counted s p) ps

pub bits_from : (s : SeenFlags) (ps : List PacketInfo) → (fold flags_after s ps).flags ≡ fold bit_or s.flags (map (λ p. p.flags) ps)
bits_from s [] = refl
bits_from s (p ∷ ps) = bits_from (flags_after s p) ps

pub syn_from : (s : SeenFlags) (ps : List PacketInfo) → (fold flags_after s ps).syn ≡ fold (λ n p. n + cond (has_bit 2 p.flags) 1 0) s.syn ps
syn_from s [] = refl
syn_from s (p ∷ ps) = syn_from (flags_after s p) ps

pub fin_from : (s : SeenFlags) (ps : List PacketInfo) → (fold flags_after s ps).fin ≡ fold (λ n p. n + cond (has_bit 1 p.flags) 1 0) s.fin ps
fin_from s [] = refl
fin_from s (p ∷ ps) = fin_from (flags_after s p) ps

pub rst_from : (s : SeenFlags) (ps : List PacketInfo) → (fold flags_after s ps).rst ≡ fold (λ n p. n + cond (has_bit 4 p.flags) 1 0) s.rst ps
rst_from s [] = refl
rst_from s (p ∷ ps) = rst_from (flags_after s p) ps

-- the gap so far, and the time of the packet just before
pub gap_from : (gap before : ℕ) (ps : List PacketInfo) → (fold gap_after (record { greatest = gap; before = Some before }) ps).greatest ≡ fold max gap (gaps_between (before ∷ map (λ p. p.nanos) ps))
gap_from gap before [] = refl
gap_from gap before (p ∷ ps) = gap_from (max gap (p.nanos - before)) p.nanos ps

-- a digit more
digit : (h x power rest : ℕ) → ((31 * h + x) % 2 ^ 32 * power + rest) % 2 ^ 32 ≡ (h * (31 * power) + (x * power + rest)) % 2 ^ 32
digit h x power rest =
    sym (mod-add-mod ((31 * h + x) % 2 ^ 32 * power) (2 ^ 32) rest)
    ∙ ap (λ (n : ℕ). (n + rest) % 2 ^ 32) (mul-mod_first (31 * h + x) power (2 ^ 32))
    ∙ mod-add-mod ((31 * h + x) * power) (2 ^ 32) rest
    ∙ ap (λ (n : ℕ). n % 2 ^ 32) (omega arith)

order_from : (h : ℕ) (ps : List PacketInfo) → fold folded h ps % 2 ^ 32 ≡ (h * 31 ^ length ps + number_of ps) % 2 ^ 32
order_from h [] = ap (λ (n : ℕ). n % 2 ^ 32) (omega arith)
order_from h (p ∷ ps) =
    order_from (folded h p) ps
    ∙ digit h p.original (31 ^ length ps) (number_of ps)
    ∙ rw (pow-succ' 31 (length ps)) refl

order_fits : (h : ℕ) (ps : List PacketInfo) → h < 2 ^ 32 → fold folded h ps < 2 ^ 32
order_fits h [] fits = fits
order_fits h (p ∷ ps) fits = order_fits (folded h p) ps (mod-lt (31 * h + p.original) (omega arith))

pub order_is : (ps : List PacketInfo) → fold folded 0 ps ≡ number_of ps % 2 ^ 32
order_is ps =
    sym (mod-eq_of_lt (order_fits 0 ps (omega arith)))
    ∙ order_from 0 ps
    ∙ ap (λ (n : ℕ). n % 2 ^ 32) (omega arith)

pub gap_is : (ps : List PacketInfo) → (fold gap_after no_gap ps).greatest ≡ longest_gap ps
gap_is [] = refl
gap_is (p ∷ ps) = gap_from 0 p.nanos ps
