-- Lawful journals as a test: each word tests what the fact of the like name says.
use Rattle.std.specs.Prelude.{ℕ, ◌+◌, ◌-◌, ◌*◌, List, [], ◌∷◌, map, length, slice_index, ◌==◌, nat_le, Bool, true, false, not, ◌&&◌, Some, None}
use Rattle.std.specs.List.{list_all}
use Rattle.indirection.specs.declared.proposal.Proposal.{Proposal}
use Rattle.indirection.specs.declared.outcome.Outcome.{Outcome}
use Rattle.indirection.specs.declared.outcome.Outcome.TheVariants.{Moved, Placed, Same, InPassage}
use Rattle.indirection.specs.declared.entry.Entry.{Entry}
use Rattle.indirection.specs.declared.entry.Entry.TheVariants.{Round, Order}
use Rattle.indirection.specs.JournalView.{JournalView}
use Rattle.indirection.specs.Each.{each_from}
use Rattle.indirection.specs.Tries.{Ask, Proposed, Ordered, ask_bucket, ask_to, owners_after, upto}
use Rattle.indirection.specs.Story.{entry_at, Parcel, RoundHead, Step, Rounds, Tries, Sends, told, tries_of, sent_to, worked_by}
use Rattle.indirection.specs.Story.{owner_then, start_then, sent_then}
use Rattle.indirection.specs.Due.{Rules, Due, RoundDue, TryDue, PacketDue, due, position}
use Rattle.indirection.specs.Lawful.{cost_in, recent}

abbrev pub same_numbers : List ℕ → List ℕ → Bool
same_numbers [] [] = true
same_numbers (x ∷ xs) (y ∷ ys) = (x == y) && same_numbers xs ys
same_numbers [] (y ∷ ys) = false
same_numbers (x ∷ xs) [] = false

abbrev pub same_proposal : Proposal → Proposal → Bool
same_proposal p q = (p.bucket == q.bucket) && ((p.from == q.from) && ((p.to == q.to) && (p.gain == q.gain)))

abbrev pub same_proposals : List Proposal → List Proposal → Bool
same_proposals [] [] = true
same_proposals (x ∷ xs) (y ∷ ys) = same_proposal x y && same_proposals xs ys
same_proposals [] (y ∷ ys) = false
same_proposals (x ∷ xs) [] = false

abbrev pub same_ask : Ask → Ask → Bool
same_ask (Proposed i p) (Proposed j q) = (i == j) && same_proposal p q
same_ask (Ordered m) (Ordered o) = (m.at == o.at) && ((m.bucket == o.bucket) && (m.to == o.to))
same_ask (Proposed i p) (Ordered m) = false
same_ask (Ordered m) (Proposed i p) = false

abbrev pub is_round_due : Due → Bool
is_round_due RoundDue = true
is_round_due (TryDue a) = false
is_round_due PacketDue = false

abbrev pub is_packet_due : Due → Bool
is_packet_due RoundDue = false
is_packet_due (TryDue a) = false
is_packet_due PacketDue = true

abbrev pub is_try_due : Due → Ask → Bool
is_try_due RoundDue a = false
is_try_due (TryDue b) a = same_ask b a
is_try_due PacketDue a = false

abbrev pub is_outcome : ℕ → ℕ → ℕ → ℕ → Outcome → Bool
is_outcome owner to k s Same = owner == to
is_outcome owner to k s Placed = not (owner == to) && (k == 0)
is_outcome owner to k s (InPassage tail sent None) = not (owner == to) && (not (k == 0) && ((k == s) && ((tail == s) && (sent == k))))
is_outcome owner to k s (InPassage tail sent (Some word)) =
    not (owner == to) && (not (k == 0) && (not (k == s) && ((tail == s) && ((sent == k) && not (word == 2 * s + 2)))))
is_outcome owner to k s (Moved tail) = not (owner == to) && (not (k == 0) && (not (k == s) && (tail == k)))

abbrev pub is_round : Rules → List Step → RoundHead → Bool
is_round rules before h =
    (h.at == position before)
    && (same_numbers h.loads.bucket (map (cost_in (recent rules before)) (upto (length rules.start)))
    && ((length h.loads.base == rules.cores)
    && (list_all (λ c. nat_le (slice_index h.loads.base c) (sent_to c rules.start before)) (upto rules.cores)
    && (list_all (λ c. nat_le (worked_by c rules.start before) (sent_to c rules.start before - slice_index h.loads.base c)) (upto rules.cores)
    && same_proposals h.proposals (rules.propose h.loads (owners_after rules.start (tries_of before)))))))

abbrev pub fits : Rules → List Step → Step → Bool
fits rules before (Rounds h) = is_round_due (due rules before) && is_round rules before h
fits rules before (Tries a o) = is_try_due (due rules before) a
    && is_outcome (owner_then rules.start before (ask_bucket a)) (ask_to a) (sent_then before (ask_bucket a)) (start_then before (ask_bucket a)) o
fits rules before (Sends p) = is_packet_due (due rules before)

abbrev pub are_paired : List Entry → Bool
are_paired [] = true
are_paired (Round r ∷ es) = nat_le (length r.outcomes) (length r.proposals) && are_paired es
are_paired (Order e ∷ es) = are_paired es

abbrev pub lawful : Rules → List Parcel → JournalView → Bool
lawful rules xs j =
    same_numbers j.start rules.start && (are_paired j.entries && (list_all (λ e. nat_le (entry_at e) (length xs)) j.entries
    && (each_from (fits rules) [] (told 0 xs j.entries) && is_packet_due (due rules (told 0 xs j.entries)))))
