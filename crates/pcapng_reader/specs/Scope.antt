-- What the blocks before a block tell of how it is read.
use Rattle.std.specs.Prelude.{ℕ, List, Option}
use Rattle.pcapng_reader.specs.declared.byte_order.ByteOrder.{ByteOrder}
use Rattle.pcapng_reader.specs.declared.interface.Interface.{Interface}

-- the byte order of the last section header, the interfaces behind it, and the link of the input's first record
pub record Scope : Type 0 where
  pub order : ByteOrder
  pub interfaces : List Interface
  pub link : Option ℕ
