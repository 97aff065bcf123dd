-- The handover machine: when an event is enabled, and what it does.
use Rattle.std.specs.Prelude.{ℕ, ◌+◌, ◌-◌, ◌*◌, List, [], ◌∷◌, ◌++◌, map, length, count_by, sum_by, find, flat_map, slice_index, slice_set, if◌then◌else◌, ◌==◌, nat_lt, Bool, true, false, not, ◌&&◌, Option, Some, None}
use Rattle.std.specs.List.{list_any}
use Rattle.handover_core.specs.declared.item.Kind.{Kind}
use Rattle.handover_core.specs.declared.item.Kind.TheVariants.{First, Next, Mark}
use Rattle.handover_core.specs.declared.item.Item.{Item}
use Rattle.handover_core.specs.declared.item.Item.TheVariants.{Of, End}
use Rattle.handover_core.specs.declared.event.Event.{Event}
use Rattle.handover_core.specs.declared.event.Event.TheVariants.{Send, Look, Move, Place, SendEnd, Take, Claim, Release}
use Rattle.indirection.specs.Tries.{upto}
use Rattle.handover_core.specs.Dispatch.{kind_at}
use Rattle.handover_core.specs.declared.post.Post.{Post}
use Rattle.handover_core.specs.State.{Hand, Away, Waiting, Held, Leaving, CoreState, MachineView, bucket_at, core_at, hand_at, sent_of, set_bucket, set_core, set_hand}

-- whether an item is End
abbrev pub is_end : Item → Bool
is_end (Of kind bucket place) = false
is_end End = true

-- whether an End is among some items
abbrev pub has_end : List Item → Bool
has_end xs = list_any is_end xs

-- whether an End was sent to a core
abbrev pub end_sent_to : MachineView → ℕ → Bool
end_sent_to m c = list_any (λ p. (p.core == c) && is_end p.item) m.dispatched

-- whether an End was sent to any core
abbrev pub end_sent : MachineView → Bool
end_sent m = list_any (λ p. is_end p.item) m.dispatched

-- whether a queue has no item
abbrev pub is_empty : List Item → Bool
is_empty [] = true
is_empty (x ∷ xs) = false

-- the word that the core's first parked packet of the bucket waits for is the bucket's word
abbrev pub waits_for : Hand → ℕ → Bool
waits_for (Waiting (place ∷ places)) word = word == 2 * place + 1
waits_for h word = false

-- whether a table is to be put on the shelf
abbrev pub is_leaving : Hand → Bool
is_leaving (Leaving start done) = true
is_leaving h = false

-- whether an event is enabled; one that names a core or a bucket out of range isn't
abbrev pub enabled : MachineView → Event → Bool
enabled m Send = nat_lt m.sent (length m.packets) && nat_lt 0 m.free
enabled m (Look b) = nat_lt b (length m.buckets)
enabled m (Move b to) =
    nat_lt b (length m.buckets) && (nat_lt to (length m.cores) && (not (to == (bucket_at m b).owner) && (nat_lt (bucket_at m b).start (sent_of m b)
    && (((bucket_at m b).seen == 2 * (bucket_at m b).start + 2) && (nat_lt 0 m.free && (nat_lt 0 m.moves && not (end_sent m)))))))
enabled m (Place b to) =
    nat_lt b (length m.buckets) && (nat_lt to (length m.cores) && (not (to == (bucket_at m b).owner) && ((sent_of m b == 0) && not (end_sent m))))
enabled m (SendEnd c) = nat_lt c (length m.cores) && ((m.sent == length m.packets) && not (end_sent_to m c))
enabled m (Take c) = nat_lt c (length m.cores) && not (is_empty (core_at m c).queue)
enabled m (Claim c b) = nat_lt c (length m.cores) && (nat_lt b (length m.buckets) && waits_for (hand_at m c b) (bucket_at m b).word)
enabled m (Release c b) = nat_lt c (length m.cores) && (nat_lt b (length m.buckets) && is_leaving (hand_at m c b))

-- an item goes to a core's queue
abbrev pub post : MachineView → ℕ → Item → MachineView
post m c x = set_core (record m { dispatched = m.dispatched ++ record { core = c; item = x } ∷ [] }) c (record (core_at m c) { queue = (core_at m c).queue ++ x ∷ [] })

-- what becomes of a hand that meets End
abbrev pub leave : Hand → Hand
leave (Held start done) = Leaving start done
leave h = h

-- what becomes of a hand that meets an item; for the cases that never come it stays as it is
abbrev pub met : Hand → Kind → ℕ → Hand
met Away First place = Waiting (place ∷ [])
met (Waiting places) Next place = Waiting (places ++ place ∷ [])
met (Held start done) Next place = Held start (done + 1)
met (Held start done) Mark place = Leaving start done
met h kind place = h

-- the cells that it frees: a packet that isn't parked, and a mark
abbrev pub freed : Hand → Kind → ℕ
freed Away First = 0
freed (Waiting places) Next = 0
freed h kind = 1

-- a core takes the front of this queue, and acts on it
abbrev pub took : MachineView → ℕ → List Item → MachineView
took m c [] = m
took m c (Of kind b place ∷ q) =
    set_core (record m { free = m.free + freed (hand_at m c b) kind }) c
    (record { queue = q; taken = (core_at m c).taken ++ Of kind b place ∷ []; hands = slice_set (core_at m c).hands b (met (hand_at m c b) kind place) })
took m c (End ∷ q) = set_core m c (record { queue = q; taken = (core_at m c).taken ++ End ∷ []; hands = map leave (core_at m c).hands })

-- the places of the packets that wait
abbrev pub waiting_places : Hand → List ℕ
waiting_places (Waiting places) = places
waiting_places h = []

-- how many packets the table on the shelf has worked
abbrev pub shelf_done : Option ℕ → ℕ
shelf_done None = 0
shelf_done (Some d) = d

-- what the core holds after a claim of the bucket with these places waiting: the table, with the waiting packets worked
abbrev pub claimed_hand : MachineView → ℕ → ℕ → List ℕ → Hand
claimed_hand m c b places = if has_end (core_at m c).taken then leave held else held where
  held : Hand
  held = Held (slice_index places 0) (shelf_done (bucket_at m b).shelf + length places)

-- the core's side of a claim: the cells of what waited are free, and the table is in its hand
abbrev pub claiming : MachineView → ℕ → ℕ → List ℕ → MachineView
claiming m c b places = set_core (record m { free = m.free + length places; claims = m.claims + 1 }) c (set_hand (core_at m c) b (claimed_hand m c b places))

-- a claim: the word says that a core has the table from the first place that waited, and the shelf is empty
abbrev pub claimed : MachineView → ℕ → ℕ → List ℕ → MachineView
claimed m c b places = set_bucket (claiming m c b places) b (record (bucket_at m b) { word = 2 * slice_index places 0 + 2; shelf = None })

-- a release: the word says that the table is on the shelf with so many packets worked
abbrev pub released : MachineView → ℕ → ℕ → Hand → MachineView
released m c b (Leaving start done) =
    set_bucket (set_core (record m { releases = m.releases + 1 }) c (set_hand (core_at m c) b Away)) b (record (bucket_at m b) { word = 2 * done + 1; shelf = Some done })
released m c b h = m

-- the state after an event
abbrev pub step : MachineView → Event → MachineView
step m Send = sends (slice_index m.packets m.sent) where
  sends : ℕ → MachineView
  sends b = post (record m { sent = m.sent + 1; free = m.free - 1 }) (bucket_at m b).owner (Of (kind_at (bucket_at m b).start (sent_of m b)) b (sent_of m b))
step m (Look b) = set_bucket m b (record (bucket_at m b) { seen = (bucket_at m b).word })
step m (Move b to) =
    set_bucket (post (record m { free = m.free - 1; moves = m.moves - 1 }) (bucket_at m b).owner (Of Mark b (sent_of m b))) b
    (record (bucket_at m b) { owner = to; start = sent_of m b })
step m (Place b to) = set_bucket m b (record (bucket_at m b) { owner = to })
step m (SendEnd c) = post m c End
step m (Take c) = took m c (core_at m c).queue
step m (Claim c b) = claimed m c b (waiting_places (hand_at m c b))
step m (Release c b) = released m c b (hand_at m c b)

-- what an event sends, and to which core
abbrev pub posts_by : MachineView → Event → List Post
posts_by m Send = sends (slice_index m.packets m.sent) where
  sends : ℕ → List Post
  sends b = record { core = (bucket_at m b).owner; item = Of (kind_at (bucket_at m b).start (sent_of m b)) b (sent_of m b) } ∷ []
posts_by m (Move b to) = record { core = (bucket_at m b).owner; item = Of Mark b (sent_of m b) } ∷ []
posts_by m (SendEnd c) = record { core = c; item = End } ∷ []
posts_by m e = []

-- an event of each core, and an event of each core and bucket, by lowest core and then by lowest bucket
abbrev pub each_core : MachineView → (ℕ → Event) → List Event
each_core m event = map event (upto (length m.cores))

abbrev pub at_core : MachineView → (ℕ → ℕ → Event) → ℕ → List Event
at_core m event c = map (event c) (upto (length m.buckets))

abbrev pub each_pair : MachineView → (ℕ → ℕ → Event) → List Event
each_pair m event = flat_map (at_core m event) (upto (length m.cores))

-- the counted events but Move, in the order in which they are looked for
abbrev pub counted_events : MachineView → List Event
counted_events m = Send ∷ (each_core m SendEnd ++ (each_core m Take ++ (each_pair m Claim ++ each_pair m Release)))

-- the next event: the first of these that is enabled
abbrev pub next_event : MachineView → Option Event
next_event m = find (enabled m) (counted_events m)

-- how many cores were sent no End yet
abbrev pub ends_left : MachineView → ℕ
ends_left m = count_by (λ c. not (end_sent_to m c)) (upto (length m.cores))

-- how many steps may be left: two for each packet, move and End to be sent, one for each item on a queue, and a claim and a release for each stint that there may be
abbrev pub steps_left : MachineView → ℕ
steps_left m =
    2 * ((length m.packets - m.sent) + m.moves + ends_left m) + sum_by (λ (c : CoreState). length c.queue) m.cores
    + 2 * (m.first_moves + length m.buckets) - m.claims - m.releases
