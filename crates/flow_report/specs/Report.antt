-- The report of a list of packets, by a work.
use Rattle.std.specs.Prelude.{ℕ, List, [], ◌∷◌, ◌++◌, length, fold, sum_by, codes}
use Rattle.std.specs.List.{flat_map}
use Rattle.std.specs.BTreeSet.{insert_key}
use Rattle.std.specs.Fmt.{decimal}
use Rattle.packet_fields.specs.declared.key.FlowKey.{FlowKey}
use Rattle.packet_fields.specs.declared.packet.PacketInfo.{PacketInfo}
use Rattle.packet_fields.specs.Key.{key_cmp}
use Rattle.packet_fields.specs.KeyText.{key_text_of}
use Rattle.flow_work.specs.Flow.{flow_state}

-- the keys of the packets, each once, in key order
abbrev pub keys_of : List PacketInfo → List FlowKey
keys_of packets = fold (λ keys p. insert_key key_cmp keys p.key) [] packets

-- the line of a flow
abbrev pub flow_line : {S : Type 0} → (S → List ℕ) → FlowKey → S → List ℕ
flow_line line key state = key_text_of key ++ (codes " " ++ (line state ++ 10 ∷ []))

-- the last line: how many flows and packets there are, and their lengths on the wire added up
abbrev pub total_line : ℕ → ℕ → ℕ → List ℕ
total_line flows packets bytes =
    codes "total flows " ++ (decimal flows ++ (codes " packets " ++ (decimal packets ++ (codes " bytes " ++ (decimal bytes ++ 10 ∷ [])))))

-- one line per flow, in key order, and the total line
abbrev pub report : {S : Type 0} → S → (S → PacketInfo → S) → (S → List ℕ) → List PacketInfo → List ℕ
report opening after line packets =
    flat_map (λ key. flow_line line key (flow_state opening after key packets)) (keys_of packets)
    ++ total_line (length (keys_of packets)) (length packets) (sum_by (λ p. p.original) packets)
