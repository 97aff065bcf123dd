use Rattle.bucket_table.proofs.FirstKeys.{same_key_exact, first_keys-distinct, first_keys-among, first_keys-front}
use Rattle.bucket_table.proofs.laws.keys_by_first_packet.Goals as goal

pub returns : goal.returns
returns c = record { once = first_keys-distinct; among = first_keys-among; front = first_keys-front; exact = same_key_exact }
