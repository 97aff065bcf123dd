-- A flow's key as the words of its hash.
use Rattle.std.proofs.Common.{sym, get_or, ◌≡◌, ℕ, ◌+◌, ◌/◌, ◌%◌, ◌^◌, ◌<◌, List, [], ◌∷◌, ◌++◌, fold, refl, ap, ◌∙◌, arith}
use Rattle.std.specs.Hash.{le_bytes}
use Rattle.packet_fields.specs.declared.key.Class.{Class}
use Rattle.packet_fields.specs.declared.key.Class.TheVariants.{Tcp, Udp, Ip, Tcp6, Udp6, Ip6, Other}
use Rattle.packet_fields.specs.declared.key.FlowKey.{FlowKey}
use Rattle.packet_fields.specs.contracts.key.ClassHash.TheImpl.{hash_input-value as class_input}
use Rattle.packet_fields.specs.contracts.key.FlowKeyHash.TheImpl.{hash_input-value}
use Rattle.packet_fields.specs.Key.{class_rank}
use Rattle.std.specs.Ordering.{nat_cmp, ordering_then, is_eq}
use Rattle.bucket_table.specs.FlowHash.{with_word, write, finish, opening, flow_words, flow_hash}
use Rattle.bucket_table.specs.declared.flow_hash_key.FlowHashKey.{FlowHashKey}
use Rattle.bucket_table.specs.declared.flow_hasher.FlowHasher.{FlowHasher}
use Rattle.bucket_table.specs.FirstKeys.{same_key}
use Rattle.bucket_table.proofs.FirstKeys.{same_key_exact, same_key_itself}
use Rattle.bucket_table.proofs.FlowHash.{number_of-le_bytes, number_of-low, number_of-high}

class_writes : (c : Class) → class_input.it c ≡ le_bytes 8 (class_rank c) ∷ []
class_writes Tcp = refl
class_writes Udp = refl
class_writes Ip = refl
class_writes Tcp6 = refl
class_writes Udp6 = refl
class_writes Ip6 = refl
class_writes Other = refl

-- what the derived hash of a key writes
abbrev pub flow_writes : FlowKey → List (List ℕ)
flow_writes = hash_input-value.it

flow_writes-are : (flow : FlowKey) → flow_writes flow ≡ le_bytes 8 (class_rank flow.class) ∷ le_bytes 16 flow.source ∷ le_bytes 16 flow.destination ∷ le_bytes 2 flow.source_port ∷ le_bytes 2 flow.destination_port ∷ (flow.protocol ∷ []) ∷ []
flow_writes-are flow = ap (λ (ws : List (List ℕ)). ws ++ le_bytes 16 flow.source ∷ le_bytes 16 flow.destination ∷ le_bytes 2 flow.source_port ∷ le_bytes 2 flow.destination_port ∷ (flow.protocol ∷ []) ∷ []) (class_writes flow.class)

rank_fits : (c : Class) → class_rank c < 2 ^ 64
rank_fits Tcp = omega arith
rank_fits Udp = omega arith
rank_fits Ip = omega arith
rank_fits Tcp6 = omega arith
rank_fits Udp6 = omega arith
rank_fits Ip6 = omega arith
rank_fits Other = omega arith

write_two : (h : FlowHasher) (n : ℕ) → n < 2 ^ 16 → write h (le_bytes 2 n) ≡ with_word h n
unfolding le_bytes
write_two h n fits = ap (with_word h) (number_of-le_bytes 2 n fits)

write_eight : (h : FlowHasher) (n : ℕ) → n < 2 ^ 64 → write h (le_bytes 8 n) ≡ with_word h n
unfolding le_bytes
write_eight h n fits = ap (with_word h) (number_of-le_bytes 8 n fits)

write_sixteen : (h : FlowHasher) (n : ℕ) → n < 2 ^ 128 → write h (le_bytes 16 n) ≡ with_word (with_word h (n % 2 ^ 64)) (n / 2 ^ 64)
unfolding le_bytes
write_sixteen h n fits = λ i. with_word (with_word h (number_of-low n i)) (number_of-high n fits i)

-- products that are added one by one, modulo 2 ^ 128, are added at once
added : (s a b c d e f g h : ℕ) →
    ((((((((s + a) % 2 ^ 128 + b) % 2 ^ 128 + c) % 2 ^ 128 + d) % 2 ^ 128 + e) % 2 ^ 128 + f) % 2 ^ 128 + g) % 2 ^ 128 + h) % 2 ^ 128
    ≡ (s + (a + (b + (c + (d + (e + (f + (g + (h + 0))))))))) % 2 ^ 128
added s a b c d e f g h = omega arith

module _ (key : FlowHashKey) (flow : FlowKey) (source : flow.source < 2 ^ 128) (destination : flow.destination < 2 ^ 128) (source_port : flow.source_port < 2 ^ 16) (destination_port : flow.destination_port < 2 ^ 16) where
  last : flow.protocol + 0 ≡ flow.protocol
  last = omega arith

  -- the writes of a key are its words
  written : fold write (opening key) (flow_writes flow) ≡ fold with_word (opening key) (flow_words flow)
  written =
      ap (fold write (opening key)) (flow_writes-are flow)
      ∙ ap (λ h. write (write (write (write (write h (le_bytes 16 flow.source)) (le_bytes 16 flow.destination)) (le_bytes 2 flow.source_port)) (le_bytes 2 flow.destination_port)) (flow.protocol ∷ [])) (write_eight (opening key) (class_rank flow.class) (rank_fits flow.class))
      ∙ ap (λ h. write (write (write (write h (le_bytes 16 flow.destination)) (le_bytes 2 flow.source_port)) (le_bytes 2 flow.destination_port)) (flow.protocol ∷ [])) (write_sixteen _ flow.source source)
      ∙ ap (λ h. write (write (write h (le_bytes 2 flow.source_port)) (le_bytes 2 flow.destination_port)) (flow.protocol ∷ [])) (write_sixteen _ flow.destination destination)
      ∙ ap (λ h. write (write h (le_bytes 2 flow.destination_port)) (flow.protocol ∷ [])) (write_two _ flow.source_port source_port)
      ∙ ap (λ h. write h (flow.protocol ∷ [])) (write_two _ flow.destination_port destination_port)
      ∙ ap (λ protocol. fold with_word (opening key) (class_rank flow.class ∷ flow.source % 2 ^ 64 ∷ flow.source / 2 ^ 64 ∷ flow.destination % 2 ^ 64 ∷ flow.destination / 2 ^ 64 ∷ flow.source_port ∷ flow.destination_port ∷ protocol ∷ [])) last

  pub hashed : finish (fold write (opening key) (flow_writes flow)) ≡ flow_hash key flow
  hashed = ap finish written ∙ ap (λ n. n / 2 ^ 64) (added key.start _ _ _ _ _ _ _ _)

-- a number by its halves
halves : (a b : ℕ) → a % 2 ^ 64 ≡ b % 2 ^ 64 → a / 2 ^ 64 ≡ b / 2 ^ 64 → a ≡ b
halves a b low high = omega arith

-- two keys with the same words
pub one_flow : (a b : FlowKey) → flow_words a ≡ flow_words b → a ≡ b
one_flow a b same =
    let word : (place : ℕ) → get_or (flow_words a) place 0 ≡ get_or (flow_words b) place 0 = λ place. ap (λ (ws : List ℕ). get_or ws place 0) same in
    let class : class_rank a.class ≡ class_rank b.class = word 0 in
    let source : a.source ≡ b.source = halves a.source b.source (word 1) (word 2) in
    let destination : a.destination ≡ b.destination = halves a.destination b.destination (word 3) (word 4) in
    let source_port : a.source_port ≡ b.source_port = word 5 in
    let destination_port : a.destination_port ≡ b.destination_port = word 6 in
    let protocol : a.protocol ≡ b.protocol = word 7 in
    let tied : same_key a a ≡ same_key a b = λ i. is_eq (
    ordering_then (nat_cmp (class_rank a.class) (class i))
    (ordering_then (nat_cmp a.source (source i))
    (ordering_then (nat_cmp a.destination (destination i))
    (ordering_then (nat_cmp a.source_port (source_port i))
    (ordering_then (nat_cmp a.destination_port (destination_port i))
    (nat_cmp a.protocol (protocol i))))))) in
    same_key_exact a b (sym tied ∙ same_key_itself a)
