-- The keyed hash of flow keys: vector multiply-shift.
use Rattle.std.specs.Prelude.{ℕ, zero, suc, ◌+◌, ◌*◌, ◌/◌, ◌%◌, ◌^◌, List, [], ◌∷◌, length, map, fold, take, drop, slice_index, slice_range}
use Rattle.std.specs.List.{range_with_len}
use Rattle.packet_fields.specs.declared.key.FlowKey.{FlowKey}
use Rattle.packet_fields.specs.Key.{class_rank}
use Rattle.bucket_table.specs.declared.flow_hash_key.FlowHashKey.{FlowHashKey}
use Rattle.bucket_table.specs.declared.flow_hasher.FlowHasher.{FlowHasher}

-- bytes as a number, the lowest first
abbrev pub number_of : List ℕ → ℕ
number_of [] = 0
number_of (b ∷ bs) = b + 256 * number_of bs

-- sixteen of the bytes as a number
abbrev pub number_at : List ℕ → ℕ → ℕ
number_at bytes i = number_of (slice_range bytes (16 * i) (16 * i + 16))

-- the key that 144 bytes make: the number that a sum starts with, and eight factors
abbrev pub key_of : List ℕ → FlowHashKey
key_of bytes = record { start = number_at bytes 0; factors = map (number_at bytes) (range_with_len 1 8) }

-- the first n words of bytes, of eight bytes each
abbrev pub first_words : ℕ → List ℕ → List ℕ
first_words zero bytes = []
first_words (suc n) bytes = number_of (take 8 bytes) ∷ first_words n (drop 8 bytes)

-- bytes as words of eight bytes, the last of which may have fewer
abbrev pub words_of : List ℕ → List ℕ
words_of bytes = first_words ((length bytes + 7) / 8) bytes

-- the hasher that a key begins with
abbrev pub opening : FlowHashKey → FlowHasher
opening key = record { factors = key.factors; sum = key.start; place = 0 }

-- one word more: the sum grows by its product with the next factor, modulo 2 ^ 128; behind the last factor stands the first
abbrev pub with_word : FlowHasher → ℕ → FlowHasher
with_word h word = record { factors = h.factors; sum = (h.sum + slice_index h.factors (h.place % 8) * word) % 2 ^ 128; place = h.place % 8 + 1 }

abbrev pub write : FlowHasher → List ℕ → FlowHasher
write h bytes = fold with_word h (words_of bytes)

-- the high half of the sum
abbrev pub finish : FlowHasher → ℕ
finish h = h.sum / 2 ^ 64

-- the words of a flow's key: of each address the low half and then the high one
abbrev pub flow_words : FlowKey → List ℕ
flow_words flow =
    class_rank flow.class ∷ flow.source % 2 ^ 64 ∷ flow.source / 2 ^ 64 ∷ flow.destination % 2 ^ 64 ∷ flow.destination / 2 ^ 64
    ∷ flow.source_port ∷ flow.destination_port ∷ flow.protocol ∷ []

-- each word times the factor at its place, added up
abbrev pub products : List ℕ → ℕ → List ℕ → ℕ
products factors place [] = 0
products factors place (word ∷ words) = slice_index factors place * word + products factors (place + 1) words

-- the hash of a flow: the high half of the start and the products, modulo 2 ^ 128
abbrev pub flow_hash : FlowHashKey → FlowKey → ℕ
flow_hash key flow = (key.start + products key.factors 0 (flow_words flow)) % 2 ^ 128 / 2 ^ 64
