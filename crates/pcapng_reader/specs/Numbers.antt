-- Numbers in the byte order of a section.
use Rattle.std.specs.Prelude.{ℕ, List, drop}
use Rattle.byteorder.specs.Endian.{little_number, big_number}
use Rattle.pcapng_reader.specs.declared.byte_order.ByteOrder.{ByteOrder}
use Rattle.pcapng_reader.specs.declared.byte_order.ByteOrder.TheVariants.{Little, Big}

-- the number in the n bytes from place i (pcapng, "Section Header Block": all numbers are in the byte order that the section's magic tells)
unfoldable pub number_at : ByteOrder → ℕ → ℕ → List ℕ → ℕ
number_at Little n i bytes = little_number n (drop i bytes)
number_at Big n i bytes = big_number n (drop i bytes)
