-- A dispatcher that sent a packet or an End is tied to its past and its ends.
use Rattle.std.proofs.Common.{◌≡◌, ℕ, ◌+◌, ◌<◌, ◌≤◌, List, [], ◌∷◌, ◌++◌, length, map, refl, sym, ap, ◌∙◌, subst, arith, Bool, ◌==◌, Option, None, Some, ⊎_elim, inl, length-append}
use Rattle.std.proofs.lemmas.Bool.{cases_eq}
use Rattle.std.proofs.lemmas.List.{append-nil, length-set}
use Rattle.packet_fields.specs.declared.packet.PacketInfo.{PacketInfo}
use Rattle.indirection.proofs.Told.{parcels_of-told}
use Rattle.indirection.specs.declared.move_order.MoveOrder.{MoveOrder}
use Rattle.indirection.specs.declared.outcome.Outcome.TheVariants.{Moved}
use Rattle.indirection.specs.Tries.{Ask, ask_bucket, ask_to}
use Rattle.indirection.proofs.Steps.{parcels_of-append}
use Rattle.indirection.specs.Story.{parcels_of, count_in, owner_then, start_then, sent_then, Parcel, Step, Tries, Sends}
use Rattle.indirection.specs.Due.{TryDue, PacketDue}
use Rattle.handover_core.specs.declared.item.Item.TheVariants.{Of}
use Rattle.handover_core.specs.declared.post.Post.{Post}
use Rattle.handover_core.specs.Legal.{Legal}
use Rattle.handover_core.specs.Dispatch.{kind_at, dispatched, ends, stream}
use Rattle.core_queue.specs.declared.history.LaneHistory.{LaneHistory}
use Rattle.core_queue.specs.declared.item.Seen.{Seen}
use Rattle.core_queue.specs.declared.item.Seen.TheVariants.{Packet, Close}
use Rattle.core_queue.specs.LaneHistory.{sent_on}
use Rattle.core_queue.specs.Cells.{plain, IsCarried}
use Rattle.handover_words.specs.declared.history.ShelfHistory.{ShelfHistory}
use Rattle.load_meter.specs.declared.history.LoadHistory.{LoadHistory}
use Rattle.pcap_reader.specs.Capture.{Captured}
use Rattle.pcap_reader.specs.Reading.{Reading}
use Rattle.dispatch_loop.specs.declared.dispatcher_end.DispatcherEnd.{DispatcherEnd}
use Rattle.flow_work.specs.declared.work.TheConstants.{MOST_COST}
use Rattle.dispatch_loop.specs.Terms.{cores_of, buckets_of}
use Rattle.dispatch_loop.specs.Costs.{HasCost, HaveCosts}
use Rattle.dispatch_loop.specs.DispatcherState.{DispatcherState}
use Rattle.dispatch_loop.specs.Asks.{RiseFrom, due_now, owner_at, start_at, count_at}
use Rattle.dispatch_loop.specs.Lanes.{changed_at}
use Rattle.dispatch_loop.specs.Packets.{packet_of}
use Rattle.dispatch_loop.specs.Past.{Past, past, parcels, parcel_of, story, IsFed, IsReading}
use Rattle.dispatch_loop.specs.Sends.{CanSend}
use Rattle.dispatch_loop.specs.Does.{decided, with_packet, mark_of, cell_of, bucket_for, owner_for, IsDecided}
use Rattle.dispatch_loop.specs.Tied.{Tied, IsDealt, AreLanesOf}
use Rattle.dispatch_loop.proofs.Lists.{here, here-cons}
use Rattle.dispatch_loop.proofs.StoryMore.{dispatched-push}
use Rattle.dispatch_loop.proofs.StorySteps.{AtMost-more, told-packet}
use Rattle.dispatch_loop.proofs.Dealt.{more-get, if-most, dealt-decided, dealt-send}
use Rattle.dispatch_loop.proofs.CostsKept.{behind-count, cost-last, costs-more, has-cost}
use Rattle.dispatch_loop.proofs.LaneSteps.{posted, lanes-same, lanes-push, can-send, ends-more, legal-end}
use Rattle.dispatch_loop.proofs.Carrying.{at-place, carries, count-parcels, bucket-below}
use Rattle.dispatch_loop.proofs.Dues.{none_waits}
use Rattle.dispatch_loop.proofs.Lawfuls.{lawful-send}
use Rattle.dispatch_loop.proofs.Framed.{framed}
use Rattle.dispatch_loop.proofs.Ties.{not_packet, mark_post, sent-is, one-more, no-ends, open-ends}

module _ (packets : Option (List PacketInfo)) (p : Past) where
  -- a packet was sent

  rise-more : (n : ℕ) (ms : List MoveOrder) → RiseFrom n ms → here n ms ≡ [] → RiseFrom (n + 1) ms
  rise-more n [] r e = tt
  rise-more n (m ∷ ms) r e = ⊎_elim (λ (q : m.at ≡ n). let z : m ∷ here n ms ≡ [] = sym (here-cons n m ms q) ∙ e in absurd (cc)) (λ (ne : m.at ≡ n → ⊥). (let a = r.0 in omega arith, r.1)) (cases_eq m.at n)

  abbrev packet_post : ℕ → ℕ → ℕ → ℕ → Post
  packet_post c start k b = record { core = c; item = Of (kind_at start k) b k }

  -- what a packet adds to what is sent
  packet-posted : (f : DispatcherState) (ss : List Step) (info : PacketInfo) → IsDealt f ss → bucket_for f info < buckets_of f.terms → f.ends ≡ 0 → posted (with_packet f info) (ss ++ Sends (parcel_of f.terms info) ∷ []) ≡ posted f ss ++ record { core = owner_for f info; item = plain (Packet (cell_of f info)) } ∷ []
  packet-posted f ss info d h zero_ends =
      ap (λ (z : List Post). z ++ ends f.ends) (dispatched-push start ss (Sends (parcel_of f.terms info)) ∙ ap (λ (x : Post). dispatched start ss ++ x ∷ []) same)
      ∙ one-more (dispatched start ss) f.ends _ zero_ends where
        start : List ℕ
        start = f.terms.start.owners

        b : ℕ
        b = bucket_for f info

        same : packet_post (owner_then start ss b) (start_then ss b) (sent_then ss b) b ≡ packet_post (owner_at f b) (start_at f b) (count_at f b) b
        same = ap (λ (c : ℕ). packet_post c (start_then ss b) (sent_then ss b) b) (sym (d.owners b h))
            ∙ (ap (λ (n : ℕ). packet_post (owner_at f b) n (sent_then ss b) b) (sym (d.starts b h)) ∙ ap (λ (k : ℕ). packet_post (owner_at f b) (start_at f b) k b) (sym (d.counts b h)))

  -- the held packet is of its bucket, and at its place
  packet-carried : (f : DispatcherState) (lanes : List LaneHistory) (v : ShelfHistory) (m : LoadHistory) (r : Reading) (l : Option (List ℕ)) (info : PacketInfo) → Tied packets p f lanes v m r l → IsReading f.terms.packets p (Some info) r l → bucket_for f info < buckets_of f.terms → IsCarried packets f.terms.key (buckets_of f.terms) (Packet (cell_of f info))
  packet-carried f lanes v m r l info t reading h = (
    h,
    carries packets f.terms.key (buckets_of f.terms) (start_at f (bucket_for f info)) (count_at f (bucket_for f info)) (cell_of f info) refl
        (at-place packets f.terms.packets p info r l f.terms.key (buckets_of f.terms) (count_at f (bucket_for f info)) _ t.named reading
        (t.dealt.counts (bucket_for f info) h ∙ (ap (λ (z : List Parcel). count_in (bucket_for f info) z) (parcels_of-told f.journal.entries 0 (parcels f.terms p.packets)) ∙ count-parcels f.terms (bucket_for f info) p.packets))),
  )

  -- what lanes carry costs as before, and the packet costs what its parcel does
  costs_by : (f : DispatcherState) (ss : List Step) (info : PacketInfo) (items : List Seen) → HaveCosts f.terms.cost (parcels_of ss) items → HaveCosts f.terms.cost (parcels_of (ss ++ Sends (parcel_of f.terms info) ∷ [])) items
  costs_by f ss info items w = subst (λ (z : List Parcel). HaveCosts f.terms.cost z items) (sym (parcels_of-append ss (Sends (parcel_of f.terms info) ∷ []))) (costs-more f.terms.cost (parcels_of ss) (parcel_of f.terms info ∷ []) items w)

  packet-cost : (f : DispatcherState) (ss : List Step) (info : PacketInfo) → IsDealt f ss → bucket_for f info < buckets_of f.terms → HasCost f.terms.cost (parcels_of (ss ++ Sends (parcel_of f.terms info) ∷ [])) (Packet (cell_of f info))
  packet-cost f ss info d h =
      let x = parcel_of f.terms info in let b = bucket_for f info in
      let place : count_at f b ≡ count_in b (parcels_of ss) = d.counts b h in
      subst (λ (z : List Parcel). HasCost f.terms.cost z (Packet (cell_of f info))) (sym (parcels_of-append ss (Sends x ∷ [])))
      (has-cost f.terms.cost (parcels_of ss ++ x ∷ []) (kind_at (start_at f b) (count_at f b)) (cell_of f info)
      (behind-count b (count_at f b) (parcels_of ss) x refl place)
      (sym (cost-last x (count_at f b) (parcels_of ss) place)))

  pub held-reading : (f : DispatcherState) (r : Reading) (l : Option (List ℕ)) (info : PacketInfo) → IsFed f.terms.packets p f.held f.end r l → f.held ≡ Some info → f.end ≡ None → IsReading f.terms.packets p (Some info) r l
  held-reading f r l info fed held goes = subst (λ (h : Option PacketInfo). IsReading f.terms.packets p h r l) held (subst (λ (e : Option DispatcherEnd). IsFed f.terms.packets p f.held e r l) goes fed)

  pub some-bucket : (f : DispatcherState) (lanes : List LaneHistory) (v : ShelfHistory) (m : LoadHistory) (r : Reading) (l : Option (List ℕ)) (info : PacketInfo) → Tied packets p f lanes v m r l → bucket_for f info < buckets_of f.terms
  some-bucket f lanes v m r l info t = bucket-below f.terms.key (buckets_of f.terms) info (let s = t.sound.table.some_bucket in omega arith)

  -- so many packets are sent before the held one
  pub sent-few : (f : DispatcherState) (lanes : List LaneHistory) (v : ShelfHistory) (m : LoadHistory) (r : Reading) (l : Option (List ℕ)) (info : PacketInfo) → Tied packets p f lanes v m r l → IsReading f.terms.packets p (Some info) r l → length p.packets + 1 ≤ f.terms.packets
  sent-few f lanes v m r l info t h = let e = ap (λ (z : List PacketInfo). length z) h.are in let s = same-length h.records in let n = length-append p.packets (info ∷ []) in let w = h.few in omega arith
    where
      same-length : (rs : List Captured) → length (map packet_of rs) ≡ length rs
      same-length [] = refl
      same-length (x ∷ rs) = let e = same-length rs in omega arith

  pub tied-sent : (f : DispatcherState) (lanes : List LaneHistory) (v : ShelfHistory) (m : LoadHistory) (r : Reading) (l : Option (List ℕ)) (info : PacketInfo) → Tied packets p f lanes v m r l → due_now f ≡ PacketDue → f.held ≡ Some info → f.end ≡ None → owner_for f info < cores_of f.terms
      → Tied packets (past p.bytes (p.packets ++ info ∷ [])) (with_packet f info) (changed_at (owner_for f info) (sent_on (Packet (cell_of f info))) lanes) v m r l
  tied-sent f lanes v m r l info t d held goes inside = record {
    sound = t.sound;
    named = t.named;
    start = t.start;
    few = let n = length-append p.packets (info ∷ []) in let w = few in omega arith;
    within = AtMost-more (length p.packets) (length (p.packets ++ info ∷ [])) f.journal.entries (let n = length-append p.packets (info ∷ []) in omega arith) t.within;
    dealt = subst (λ (z : List Step). IsDealt f' z) (sym told) (dealt-send f ss info t.dealt h inside (let e = sent in let w = few in let s = t.sound.packets in omega arith) (t.sound.cost info));
    sent = subst (λ (z : List Step). AreLanesOf packets f' z (changed_at (owner_for f info) (sent_on (Packet (cell_of f info))) lanes)) (sym told)
        (lanes-push packets f f' ss (ss ++ Sends (parcel_of f.terms info) ∷ []) lanes (owner_for f info) (Packet (cell_of f info)) t.sent refl (packet-posted f ss info t.dealt h (open-ends packets p f lanes v m r l t goes)) (packet-carried f lanes v m r l info t reading h)
        (λ items w. costs_by f ss info items w) (packet-cost f ss info t.dealt h));
    orders = record {
      tried = t.orders.tried;
      parts = t.orders.parts;
      before = λ k x low. let b = t.orders.before k x low in omega arith;
      ahead = rise-more f.sent f.orders t.orders.ahead nothing.1;
      room = t.orders.room;
      proposals = inl nothing.0;
      moves = t.orders.moves;
    };
    loads = record {
      wide = length-set f.loads (bucket_for f info) _ ∙ t.loads.wide;
      few = λ b. let e = more-get f.loads (bucket_for f info) (f.terms.cost info) b (let w = t.loads.wide in omega arith) in let w = t.loads.few b in let o = if-most (bucket_for f info == b) (f.terms.cost info) MOST_COST (t.sound.cost info) in omega arith;
      since = let w = t.loads.since in omega arith;
    };
    lawful = λ e. lawful-send f p.packets m info d e t.sound.some_round h t.loads.wide t.orders t.dealt t.within (t.lawful e);
    fed = subst (λ (e : Option DispatcherEnd). IsFed f.terms.packets (past p.bytes (p.packets ++ info ∷ [])) None e r l) (sym goes) (record {
      records = reading.records;
      are = reading.are ∙ sym (append-nil (p.packets ++ info ∷ []));
      given = reading.given;
      few = reading.few;
      going = reading.going;
      so_far = reading.so_far;
    });
    ends_few = t.ends_few;
    ends_last = t.ends_last;
    none_due = λ e. absurd (e goes);
    words = t.words;
    numbers = t.numbers;
  } where
    f' : DispatcherState
    f' = with_packet f info

    ss : List Step
    ss = story f p.packets

    reading : IsReading f.terms.packets p (Some info) r l
    reading = held-reading f r l info t.fed held goes

    h : bucket_for f info < buckets_of f.terms
    h = some-bucket f lanes v m r l info t

    few : length p.packets + 1 ≤ f.terms.packets
    few = sent-few f lanes v m r l info t reading

    sent : f.sent ≡ length p.packets
    sent = sent-is f p.packets t.dealt

    told : story f' (p.packets ++ info ∷ []) ≡ ss ++ Sends (parcel_of f.terms info) ∷ []
    told = told-packet f.terms p.packets f.journal.entries info t.within

    nothing : (f.proposals ≡ []) × (here f.sent f.orders ≡ [])
    nothing = none_waits f d

  -- what may be sent

  legal-posted : (f : DispatcherState) (ss : List Step) (k : ℕ) → IsDealt f ss → f.ends ≡ 0 → Legal (stream k (posted f ss))
  legal-posted f ss k d e = subst (λ (n : ℕ). Legal (stream k (dispatched f.terms.start.owners ss ++ ends n))) (sym e) (subst (λ (z : List Post). Legal (stream k z)) (sym (append-nil (dispatched f.terms.start.owners ss))) (d.told.dispatcher.legal k))

  pub can-packet : (f : DispatcherState) (lanes : List LaneHistory) (v : ShelfHistory) (m : LoadHistory) (r : Reading) (l : Option (List ℕ)) (info : PacketInfo) → Tied packets p f lanes v m r l → f.held ≡ Some info → f.end ≡ None → owner_for f info < cores_of f.terms → CanSend packets lanes (owner_for f info) (Packet (cell_of f info))
  can-packet f lanes v m r l info t held goes inside =
      let reading = held-reading f r l info t.fed held goes in let h = some-bucket f lanes v m r l info t in let none = open-ends packets p f lanes v m r l t goes in
      can-send packets f (story f p.packets) lanes (owner_for f info) (Packet (cell_of f info)) t.sent
      (subst (λ (z : List Post). Legal (stream (owner_for f info) z)) (packet-posted f (story f p.packets) info t.dealt h none)
      (legal-posted (with_packet f info) (story f p.packets ++ Sends (parcel_of f.terms info) ∷ []) (owner_for f info)
      (dealt-send f (story f p.packets) info t.dealt h inside (let e = sent-is f p.packets t.dealt in let w = sent-few f lanes v m r l info t reading in let s = t.sound.packets in omega arith) (t.sound.cost info)) none))
      (packet-carried f lanes v m r l info t reading h)

  pub can-mark : (f : DispatcherState) (lanes : List LaneHistory) (v : ShelfHistory) (m : LoadHistory) (r : Reading) (l : Option (List ℕ)) (a : Ask) → Tied packets p f lanes v m r l → due_now f ≡ TryDue a → ask_bucket a < buckets_of f.terms → ask_to a < cores_of f.terms → IsDecided f a (Moved (count_at f (ask_bucket a)))
      → CanSend packets lanes (owner_at f (ask_bucket a)) (Packet (mark_of f (ask_bucket a)))
  can-mark f lanes v m r l a t d h to is =
      let none = no-ends packets p f lanes v m r l t (λ e. not_packet a (sym d ∙ e)) in let o = Moved (count_at f (ask_bucket a)) in let ss = story f p.packets in
      can-send packets f ss lanes (owner_at f (ask_bucket a)) (Packet (mark_of f (ask_bucket a))) t.sent
      (subst (λ (z : List Post). Legal (stream (owner_at f (ask_bucket a)) z))
      (ap (λ (z : List Post). z ++ ends f.ends) (dispatched-push f.terms.start.owners ss (Tries a o) ∙ ap (λ (c : ℕ). dispatched f.terms.start.owners ss ++ mark_post c (ask_bucket a) (count_at f (ask_bucket a)) ∷ []) (sym (t.dealt.owners (ask_bucket a) h))) ∙ one-more (dispatched f.terms.start.owners ss) f.ends _ none)
      (legal-posted (decided f (ask_bucket a) (ask_to a) o) (ss ++ Tries a o ∷ []) (owner_at f (ask_bucket a)) (dealt-decided f ss a o t.dealt h to is) none))
      (h, tt)

  pub can-end : (f : DispatcherState) (lanes : List LaneHistory) (v : ShelfHistory) (m : LoadHistory) (r : Reading) (l : Option (List ℕ)) → Tied packets p f lanes v m r l → CanSend packets lanes f.ends Close
  can-end f lanes v m r l t = can-send packets f (story f p.packets) lanes f.ends Close t.sent (legal-end f.terms.start.owners _ _ (dispatched f.terms.start.owners (story f p.packets)) f.ends t.dealt.told) tt

  -- the lanes after an End
  pub lanes-end : (f : DispatcherState) (lanes : List LaneHistory) (ss : List Step) → AreLanesOf packets f ss lanes → AreLanesOf packets (framed f f.held f.spare f.end (f.ends + 1)) ss (changed_at f.ends (sent_on Close) lanes)
  lanes-end f lanes ss a = lanes-push packets f (framed f f.held f.spare f.end (f.ends + 1)) ss ss lanes f.ends Close a refl (ends-more (dispatched f.terms.start.owners ss) f.ends) tt (λ items w. w) tt

  pub lanes-framed : (f : DispatcherState) (h : Option PacketInfo) (b : Bool) (e : Option DispatcherEnd) (lanes : List LaneHistory) (ss : List Step) → AreLanesOf packets f ss lanes → AreLanesOf packets (framed f h b e f.ends) ss lanes
  lanes-framed f h b e lanes ss a = lanes-same packets f (framed f h b e f.ends) ss ss lanes a refl refl refl
