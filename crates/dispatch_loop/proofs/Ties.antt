-- Each rule keeps a dispatcher tied to its past and its ends.
use Rattle.std.proofs.Common.{◌≡◌, ◌≢◌, ℕ, zero, suc, ◌+◌, ◌<◌, ◌≤◌, List, [], ◌∷◌, ◌++◌, length, drop, get_or, replicate, append_assoc, refl, sym, ap, ◌∙◌, subst, arith, Bool, true, false, Option, None, All, ⊎_elim, inl, inr, length-append}
use Rattle.std.specs.Prelude.{slice_index}
use Rattle.std.proofs.lemmas.Bool.{cases_lt}
use Rattle.std.proofs.lemmas.List.{append-nil, get_or-replicate, length-replicate}
use Rattle.std.proofs.Math.ListN.{get_or-eq_default}
use Rattle.std.proofs.lemmas.List.Elements.{All-append}
use Rattle.packet_fields.specs.declared.packet.PacketInfo.{PacketInfo}
use Rattle.indirection.proofs.Told.{parcels_of-told}
use Rattle.indirection.specs.declared.proposal.Proposal.{Proposal}
use Rattle.indirection.specs.declared.move_order.MoveOrder.{MoveOrder}
use Rattle.indirection.specs.declared.outcome.Outcome.{Outcome}
use Rattle.indirection.specs.declared.outcome.Outcome.TheVariants.{Moved, Placed, Same, InPassage}
use Rattle.indirection.specs.declared.entry.Entry.{Entry}
use Rattle.indirection.specs.declared.entry.Entry.TheVariants.{Round, Order}
use Rattle.indirection.specs.Rounds.{entries_with, round_with, opened_round}
use Rattle.indirection.proofs.LastRounds.{entries_with-at}
use Rattle.indirection.specs.Tries.{Ask, Proposed, Ordered, ask_bucket}
use Rattle.indirection.proofs.Steps.{parcels_of-round, parcels_of-try}
use Rattle.indirection.specs.Story.{Parcel, RoundHead, Step, Rounds, Tries}
use Rattle.indirection.specs.Due.{RoundDue, TryDue, PacketDue}
use Rattle.balancer.specs.Moves.{AreMoves}
use Rattle.handover_core.specs.declared.item.Kind.TheVariants.{Mark}
use Rattle.handover_core.specs.declared.item.Item.TheVariants.{Of}
use Rattle.handover_core.specs.declared.post.Post.{Post}
use Rattle.handover_core.specs.Dispatch.{dispatched, ends, stream}
use Rattle.core_queue.specs.declared.history.LaneHistory.{LaneHistory}
use Rattle.core_queue.specs.declared.item.Seen.TheVariants.{Packet}
use Rattle.core_queue.specs.LaneHistory.{sent_on}
use Rattle.handover_words.specs.declared.history.ShelfHistory.{ShelfHistory}
use Rattle.load_meter.specs.declared.history.LoadHistory.{LoadHistory}
use Rattle.pcap_reader.specs.Reading.{Reading}
use Rattle.dispatch_loop.specs.declared.dispatcher_end.DispatcherEnd.{DispatcherEnd}
use Rattle.dispatch_loop.specs.Terms.{Terms, cores_of, buckets_of}
use Rattle.dispatch_loop.specs.DispatcherState.{DispatcherState}
use Rattle.dispatch_loop.specs.Asks.{rest_of, RiseFrom, due_now, owner_at}
use Rattle.dispatch_loop.specs.Lanes.{changed_at}
use Rattle.dispatch_loop.specs.Past.{Past, parcels, story, IsFed}
use Rattle.dispatch_loop.specs.Does.{read_from, AreReadings, loads_of, with_round, without_round, noted, decided, mark_of, IsDecided}
use Rattle.dispatch_loop.specs.Tied.{Tied, IsDealt, AreLanesOf, IsRoundHere}
use Rattle.dispatch_loop.proofs.Lists.{rest-drop, here}
use Rattle.dispatch_loop.proofs.StoryMore.{dispatched-push}
use Rattle.dispatch_loop.proofs.StorySteps.{length-parcels, AtMost-push, told-round, told-order, told-outcome, within-outcome}
use Rattle.dispatch_loop.proofs.Dealt.{dealt-round, dealt-refused, dealt-noted, dealt-decided}
use Rattle.dispatch_loop.proofs.LaneSteps.{costs_to, lanes-same, lanes-push}
use Rattle.dispatch_loop.proofs.Dues.{IsProposed, IsOrdered, round_due, packet_not_round}
use Rattle.dispatch_loop.proofs.Lawfuls.{lawful-round, lawful-ordered, lawful-proposed, next-proposal}
use Rattle.dispatch_loop.proofs.Weighed.{cores_same}
use Rattle.dispatch_loop.proofs.Framed.{framed, dealt-framed, orders-framed, loads-framed, lawful-framed}

pub not_packet : (a : Ask) → TryDue a ≡ PacketDue → ⊥
not_packet a e = cc

abbrev pub mark_post : ℕ → ℕ → ℕ → Post
mark_post c b tail = record { core = c; item = Of Mark b tail }

zero-get : (n b : ℕ) → slice_index (replicate n 0) b ≤ 0
zero-get n b = ⊎_elim
    (λ (h : b < n). let e : get_or {A = ℕ} (replicate n 0) b 0 ≡ 0 = get_or-replicate n b 0 0 h in omega arith)
    (λ (h : n ≤ b). let w : length {A = ℕ} (replicate n 0) ≡ n = length-replicate n 0 in let e : get_or {A = ℕ} (replicate n 0) b 0 ≡ 0 = get_or-eq_default (replicate n 0) 0 {n = b} (omega arith) in omega arith) (cases_lt b n)

-- how many packets were sent
pub sent-is : (f : DispatcherState) (ps : List PacketInfo) → IsDealt f (story f ps) → f.sent ≡ length ps
sent-is f ps d = d.sent ∙ (ap (λ (z : List Parcel). length z) (parcels_of-told f.journal.entries 0 (parcels f.terms ps)) ∙ length-parcels f.terms ps)

none-more : (ds : List Post) (n : ℕ) → (ds ++ []) ++ ends n ≡ ds ++ ends n
none-more ds n = ap (λ (z : List Post). z ++ ends n) (append-nil ds)

pub one-more : (ds : List Post) (n : ℕ) (x : Post) → n ≡ 0 → (ds ++ x ∷ []) ++ ends n ≡ (ds ++ ends n) ++ x ∷ []
one-more ds n x e = subst (λ (k : ℕ). (ds ++ x ∷ []) ++ ends k ≡ (ds ++ ends k) ++ x ∷ []) (sym e) (append-nil (ds ++ x ∷ []) ∙ ap (λ (z : List Post). z ++ x ∷ []) (sym (append-nil ds)))

module _ (packets : Option (List PacketInfo)) (p : Past) where
  -- no core got its End while something else is due
  pub no-ends : (f : DispatcherState) (lanes : List LaneHistory) (v : ShelfHistory) (m : LoadHistory) (r : Reading) (l : Option (List ℕ)) → Tied packets p f lanes v m r l → due_now f ≢ PacketDue → f.ends ≡ 0
  no-ends f lanes v m r l t ne = ⊎_elim (λ (h : 0 < f.ends). absurd (ne (t.none_due (t.ends_last h)))) (λ (h : f.ends ≤ 0). omega arith) (cases_lt 0 f.ends)

  pub open-ends : (f : DispatcherState) (lanes : List LaneHistory) (v : ShelfHistory) (m : LoadHistory) (r : Reading) (l : Option (List ℕ)) → Tied packets p f lanes v m r l → f.end ≡ None → f.ends ≡ 0
  open-ends f lanes v m r l t e = ⊎_elim (λ (h : 0 < f.ends). absurd (t.ends_last h e)) (λ (h : f.ends ≤ 0). omega arith) (cases_lt 0 f.ends)

  -- a round was made

  pub tied-round : (f : DispatcherState) (lanes : List LaneHistory) (v : ShelfHistory) (m : LoadHistory) (r : Reading) (l : Option (List ℕ)) → Tied packets p f lanes v m r l → due_now f ≡ RoundDue → (now : Option (List ℕ)) (readings : List ℕ) → length readings ≡ cores_of f.terms → AreReadings now m 0 readings
      → AreMoves (cores_of f.terms) (buckets_of f.terms) (with_round f (loads_of f readings)).proposals → Tied packets p (with_round f (loads_of f readings)) lanes v (read_from 0 readings m) r l
  tied-round f lanes v m r l t d now readings count answers moves = record {
    sound = t.sound;
    named = t.named;
    start = t.start;
    few = t.few;
    within = AtMost-push (length p.packets) f.journal.entries (Round (opened_round f.sent (loads_of f readings) h.proposals)) t.within (let e = sent in omega arith);
    dealt = subst (λ (z : List Step). IsDealt f' z) (sym told) (dealt-round f (loads_of f readings) ss h t.dealt);
    sent = subst (λ (z : List Step). AreLanesOf packets f' z lanes) (sym told) (lanes-same packets f f' ss (ss ++ Rounds h ∷ []) lanes t.sent refl
        (ap (λ (z : List Post). z ++ ends f.ends) (dispatched-push f.terms.start.owners ss (Rounds h) ∙ append-nil (dispatched f.terms.start.owners ss))) (parcels_of-round ss h));
    orders = record {
      tried = t.orders.tried;
      parts = t.orders.parts;
      before = t.orders.before;
      ahead = t.orders.ahead;
      room = t.orders.room;
      proposals = inr (record { front = f.journal.entries; round = opened_round f.sent (loads_of f readings) h.proposals; entries = refl; at = refl; left = refl });
      moves = moves;
    };
    loads = record { wide = length-replicate (buckets_of f.terms) 0; few = zero-get (buckets_of f.terms); since = omega arith };
    lawful = λ e. lawful-round f p.packets m now readings d t.sound.some_round t.dealt t.loads.wide t.within t.start count answers (t.lawful (round_due f d).0);
    fed = t.fed;
    ends_few = t.ends_few;
    ends_last = t.ends_last;
    none_due = λ e. absurd (packet_not_round (due_now f) (t.none_due e) d);
    words = t.words;
    numbers = let c = cores_same 0 readings m in let n = t.numbers in omega arith;
  } where
    f' : DispatcherState
    f' = with_round f (loads_of f readings)

    ss : List Step
    ss = story f p.packets

    h : RoundHead
    h = record { at = f.sent; loads = loads_of f readings; proposals = f'.proposals }

    sent : f.sent ≡ length p.packets
    sent = sent-is f p.packets t.dealt

    told : story f' p.packets ≡ ss ++ Rounds h ∷ []
    told = told-round f.terms p.packets f.journal.entries f.sent (loads_of f readings) f'.proposals t.within sent

  -- a round was refused memory

  pub tied-refused : (f : DispatcherState) (lanes : List LaneHistory) (v : ShelfHistory) (m : LoadHistory) (r : Reading) (l : Option (List ℕ)) → Tied packets p f lanes v m r l → due_now f ≡ RoundDue → (readings : List ℕ) → Tied packets p (without_round f) lanes v (read_from 0 readings m) r l
  tied-refused f lanes v m r l t d readings = record {
    sound = t.sound;
    named = t.named;
    start = t.start;
    few = t.few;
    within = t.within;
    dealt = dealt-refused f (story f p.packets) t.dealt;
    sent = lanes-same packets f (without_round f) (story f p.packets) (story f p.packets) lanes t.sent refl refl refl;
    orders = record { tried = t.orders.tried; parts = t.orders.parts; before = t.orders.before; ahead = t.orders.ahead; room = t.orders.room; proposals = inl refl; moves = λ k d h. absurd (omega arith) };
    loads = record { wide = length-replicate (buckets_of f.terms) 0; few = zero-get (buckets_of f.terms); since = omega arith };
    lawful = λ e. let q : true ≡ false = e in absurd (cc);
    fed = t.fed;
    ends_few = t.ends_few;
    ends_last = t.ends_last;
    none_due = λ e. absurd (packet_not_round (due_now f) (t.none_due e) d);
    words = t.words;
    numbers = let c = cores_same 0 readings m in let n = t.numbers in omega arith;
  }

  -- something else is held, or the stream has ended, or an End was sent; the lanes are as they were

  pub tied-framed : (f : DispatcherState) (lanes lanes' : List LaneHistory) (v v' : ShelfHistory) (m : LoadHistory) (r r' : Reading) (l l' : Option (List ℕ)) (h : Option PacketInfo) (b : Bool) (e : Option DispatcherEnd) (n : ℕ) → Tied packets p f lanes v m r l
      → AreLanesOf packets (framed f h b e n) (story f p.packets) lanes' → v'.buckets ≡ v.buckets → IsFed f.terms.packets p h e r' l' → n ≤ cores_of f.terms → (0 < n → e ≢ None) → (e ≢ None → due_now f ≡ PacketDue) → Tied packets p (framed f h b e n) lanes' v' m r' l'
  tied-framed f lanes lanes' v v' m r r' l l' h b e n t sent words fed few last none = record {
    sound = t.sound;
    named = t.named;
    start = t.start;
    few = t.few;
    within = t.within;
    dealt = dealt-framed f h b e n (story f p.packets) t.dealt;
    sent = sent;
    orders = orders-framed f h b e n t.orders;
    loads = loads-framed f h b e n t.loads;
    lawful = λ short. lawful-framed f h b e n p.packets m (t.lawful short);
    fed = fed;
    ends_few = few;
    ends_last = last;
    none_due = none;
    words = words ∙ t.words;
    numbers = t.numbers;
  }

  -- an order was tried

  -- the lanes after an outcome: a move has sent its mark to the owner
  abbrev pub LanesAfter : DispatcherState → ℕ → Outcome → List LaneHistory → List LaneHistory → Type 0
  LanesAfter f b (Moved tail) lanes lanes' = lanes' ≡ changed_at (owner_at f b) (sent_on (Packet (mark_of f b))) lanes
  LanesAfter f b Placed lanes lanes' = lanes' ≡ lanes
  LanesAfter f b Same lanes lanes' = lanes' ≡ lanes
  LanesAfter f b (InPassage tail sent word) lanes lanes' = lanes' ≡ lanes

  after-try : (f f' : DispatcherState) (ss : List Step) (a : Ask) (o : Outcome) (lanes lanes' : List LaneHistory) → AreLanesOf packets f ss lanes → IsDealt f ss → ask_bucket a < buckets_of f.terms → IsDecided f a o → f'.terms ≡ f.terms → f'.ends ≡ f.ends → f.ends ≡ 0
      → LanesAfter f (ask_bucket a) o lanes lanes' → AreLanesOf packets f' (ss ++ Tries a o ∷ []) lanes'
  after-try f f' ss a Same lanes lanes' s d h is te ne zero_ends after = subst (λ (z : List LaneHistory). AreLanesOf packets f' (ss ++ Tries a Same ∷ []) z) (sym after) (lanes-same packets f f' ss (ss ++ Tries a Same ∷ []) lanes s te
      (ap (λ (k : Terms). dispatched k.start.owners (ss ++ Tries a Same ∷ []) ++ ends f'.ends) te ∙ (ap (λ (n : ℕ). dispatched f.terms.start.owners (ss ++ Tries a Same ∷ []) ++ ends n) ne ∙ (ap (λ (z : List Post). z ++ ends f.ends) (dispatched-push f.terms.start.owners ss (Tries a Same)) ∙ none-more (dispatched f.terms.start.owners ss) f.ends))) (parcels_of-try ss a Same))
  after-try f f' ss a Placed lanes lanes' s d h is te ne zero_ends after = subst (λ (z : List LaneHistory). AreLanesOf packets f' (ss ++ Tries a Placed ∷ []) z) (sym after) (lanes-same packets f f' ss (ss ++ Tries a Placed ∷ []) lanes s te
      (ap (λ (k : Terms). dispatched k.start.owners (ss ++ Tries a Placed ∷ []) ++ ends f'.ends) te ∙ (ap (λ (n : ℕ). dispatched f.terms.start.owners (ss ++ Tries a Placed ∷ []) ++ ends n) ne ∙ (ap (λ (z : List Post). z ++ ends f.ends) (dispatched-push f.terms.start.owners ss (Tries a Placed)) ∙ none-more (dispatched f.terms.start.owners ss) f.ends))) (parcels_of-try ss a Placed))
  after-try f f' ss a (InPassage tail sent word) lanes lanes' s d h is te ne zero_ends after = subst (λ (z : List LaneHistory). AreLanesOf packets f' (ss ++ Tries a (InPassage tail sent word) ∷ []) z) (sym after) (lanes-same packets f f' ss (ss ++ Tries a (InPassage tail sent word) ∷ []) lanes s te
      (ap (λ (k : Terms). dispatched k.start.owners (ss ++ Tries a (InPassage tail sent word) ∷ []) ++ ends f'.ends) te ∙ (ap (λ (n : ℕ). dispatched f.terms.start.owners (ss ++ Tries a (InPassage tail sent word) ∷ []) ++ ends n) ne ∙ (ap (λ (z : List Post). z ++ ends f.ends) (dispatched-push f.terms.start.owners ss (Tries a (InPassage tail sent word))) ∙ none-more (dispatched f.terms.start.owners ss) f.ends))) (parcels_of-try ss a (InPassage tail sent word)))
  after-try f f' ss a (Moved tail) lanes lanes' s d h is te ne zero_ends after = subst (λ (z : List LaneHistory). AreLanesOf packets f' (ss ++ Tries a (Moved tail) ∷ []) z) (sym after)
      (lanes-push packets f f' ss (ss ++ Tries a (Moved tail) ∷ []) lanes (owner_at f (ask_bucket a)) (Packet (mark_of f (ask_bucket a))) s te
      (ap (λ (k : Terms). dispatched k.start.owners (ss ++ Tries a (Moved tail) ∷ []) ++ ends f'.ends) te ∙ (ap (λ (n : ℕ). dispatched f.terms.start.owners (ss ++ Tries a (Moved tail) ∷ []) ++ ends n) ne
      ∙ (ap (λ (z : List Post). z ++ ends f.ends) (dispatched-push f.terms.start.owners ss (Tries a (Moved tail)) ∙ ap (λ (x : Post). dispatched f.terms.start.owners ss ++ x ∷ []) (ap (λ (c : ℕ). mark_post c (ask_bucket a) tail) (sym (d.owners (ask_bucket a) h)) ∙ ap (λ (n : ℕ). mark_post (owner_at f (ask_bucket a)) (ask_bucket a) n) is.3))
      ∙ one-more (dispatched f.terms.start.owners ss) f.ends _ zero_ends))) (h, tt) (λ items w. costs_to f f' ss (ss ++ Tries a (Moved tail) ∷ []) items te (parcels_of-try ss a (Moved tail)) w) tt)

  pub tied-ordered : (f : DispatcherState) (lanes lanes' : List LaneHistory) (v v' : ShelfHistory) (m : LoadHistory) (r : Reading) (l : Option (List ℕ)) (a : Ask) (o : Outcome) → Tied packets p f lanes v m r l → (w : IsOrdered f a) → due_now f ≡ TryDue (Ordered w.order) → IsDecided f (Ordered w.order) o → w.order.bucket < buckets_of f.terms → w.order.to < cores_of f.terms
      → LanesAfter f w.order.bucket o lanes lanes' → v'.buckets ≡ v.buckets → Tied packets p (noted (decided f w.order.bucket w.order.to o) (Ordered w.order) o) lanes' v' m r l
  tied-ordered f lanes lanes' v v' m r l a o t w d is h to after words = record {
    sound = t.sound;
    named = t.named;
    start = t.start;
    few = t.few;
    within = AtMost-push (length p.packets) f.journal.entries (Order (record { order = w.order; outcome = o })) t.within (let e = sent in let q = w.at in omega arith);
    dealt = subst (λ (z : List Step). IsDealt f' z) (sym told) (dealt-noted (decided f w.order.bucket w.order.to o) (Ordered w.order) o (ss ++ Tries (Ordered w.order) o ∷ []) (dealt-decided f ss (Ordered w.order) o t.dealt h to is));
    sent = subst (λ (z : List Step). AreLanesOf packets f' z lanes') (sym told) (after-try f f' ss (Ordered w.order) o lanes lanes' t.sent t.dealt h is refl refl (no-ends f lanes v m r l t (λ e. let q : RoundDue ≡ RoundDue = refl in not_packet (Ordered w.order) (sym d ∙ e))) after);
    orders = record {
      tried = t.orders.tried ++ w.order ∷ [];
      parts = t.orders.parts ∙ (ap (λ (z : List MoveOrder). t.orders.tried ++ z) w.are ∙ (sym (append_assoc t.orders.tried (w.order ∷ []) w.rest) ∙ ap (λ (z : List MoveOrder). (t.orders.tried ++ w.order ∷ []) ++ rest_of z) (sym w.are)));
      before = All-append (λ (x : MoveOrder). x.at ≤ f.sent) t.orders.tried (w.order ∷ []) t.orders.before (one-all w.order (let q = w.at in omega arith));
      ahead = subst (λ (z : List MoveOrder). RiseFrom f.sent (rest_of z)) (sym w.are) (subst (λ (n : ℕ). RiseFrom n w.rest) w.at (subst (λ (z : List MoveOrder). RiseFrom f.sent z) w.are t.orders.ahead).1);
      room = let a = t.orders.room in let b = ap (λ (z : List MoveOrder). length z) w.are in let c = ap (λ (z : List MoveOrder). length (rest_of z)) w.are in omega arith;
      proposals = inl w.none;
      moves = t.orders.moves;
    };
    loads = record { wide = t.loads.wide; few = t.loads.few; since = t.loads.since };
    lawful = λ e. lawful-ordered f p.packets m w.order w.rest o d e w.none w.are w.at is h t.dealt t.within (t.lawful e);
    fed = t.fed;
    ends_few = t.ends_few;
    ends_last = t.ends_last;
    none_due = λ e. absurd (not_packet (Ordered w.order) (sym d ∙ t.none_due e));
    words = words ∙ t.words;
    numbers = t.numbers;
  } where
    f' : DispatcherState
    f' = noted (decided f w.order.bucket w.order.to o) (Ordered w.order) o

    ss : List Step
    ss = story f p.packets

    sent : f.sent ≡ length p.packets
    sent = sent-is f p.packets t.dealt

    told : story f' p.packets ≡ ss ++ Tries (Ordered w.order) o ∷ []
    told = told-order f.terms p.packets f.journal.entries w.order o t.within (w.at ∙ sent)

    one-all : (x : MoveOrder) → x.at ≤ f.sent → All (λ (y : MoveOrder). y.at ≤ f.sent) (x ∷ [])
    one-all x h zero d low = h
    one-all x h (suc k) d low = absurd (omega arith)

  pub tied-proposed : (f : DispatcherState) (lanes lanes' : List LaneHistory) (v v' : ShelfHistory) (m : LoadHistory) (r : Reading) (l : Option (List ℕ)) (a : Ask) (o : Outcome) → Tied packets p f lanes v m r l → (w : IsProposed f a) → due_now f ≡ TryDue (Proposed f.sent w.proposal) → IsDecided f (Proposed f.sent w.proposal) o → w.proposal.bucket < buckets_of f.terms → w.proposal.to < cores_of f.terms
      → IsRoundHere f → LanesAfter f w.proposal.bucket o lanes lanes' → v'.buckets ≡ v.buckets → Tied packets p (noted (decided f w.proposal.bucket w.proposal.to o) (Proposed f.sent w.proposal) o) lanes' v' m r l
  tied-proposed f lanes lanes' v v' m r l a o t w d is h to here after words = record {
    sound = t.sound;
    named = t.named;
    start = t.start;
    few = t.few;
    within = within-outcome p.packets f.journal.entries here.front here.round o t.within here.entries (here.at ∙ sent);
    dealt = subst (λ (z : List Step). IsDealt f' z) (sym told) (dealt-noted (decided f q.bucket q.to o) (Proposed f.sent q) o (ss ++ Tries (Proposed f.sent q) o ∷ []) (dealt-decided f ss (Proposed f.sent q) o t.dealt h to is));
    sent = subst (λ (z : List Step). AreLanesOf packets f' z lanes') (sym told) (after-try f f' ss (Proposed f.sent q) o lanes lanes' t.sent t.dealt h is refl refl (no-ends f lanes v m r l t (λ e. not_packet (Proposed f.sent q) (sym d ∙ e))) after);
    orders = record {
      tried = t.orders.tried;
      parts = t.orders.parts;
      before = t.orders.before;
      ahead = t.orders.ahead;
      room = t.orders.room;
      proposals = inr (record {
        front = here.front;
        round = round_with here.round o;
        entries = ap (λ (z : List Entry). entries_with z o) here.entries ∙ entries_with-at here.front here.round [] o refl;
        at = here.at;
        left = ap (λ (n : ℕ). drop n here.round.proposals) (length-append here.round.outcomes (o ∷ [])) ∙ (sym (rest-drop (length here.round.outcomes) here.round.proposals) ∙ ap (λ (z : List Proposal). rest_of z) here.left);
      });
      moves = rest-all f.proposals t.orders.moves;
    };
    loads = record { wide = t.loads.wide; few = t.loads.few; since = t.loads.since };
    lawful = λ e. lawful-proposed f p.packets m q w.rest o d e w.are here is h t.dealt t.within (t.lawful e);
    fed = t.fed;
    ends_few = t.ends_few;
    ends_last = t.ends_last;
    none_due = λ e. absurd (not_packet (Proposed f.sent q) (sym d ∙ t.none_due e));
    words = words ∙ t.words;
    numbers = t.numbers;
  } where
    q : Proposal
    q = w.proposal

    f' : DispatcherState
    f' = noted (decided f q.bucket q.to o) (Proposed f.sent q) o

    ss : List Step
    ss = story f p.packets

    sent : f.sent ≡ length p.packets
    sent = sent-is f p.packets t.dealt

    told : story f' p.packets ≡ ss ++ Tries (Proposed f.sent q) o ∷ []
    told = told-outcome f.terms p.packets f.journal.entries here.front here.round q o t.within here.entries (here.at ∙ sent) (next-proposal f here q w.rest w.are)
        ∙ ap (λ (n : ℕ). ss ++ Tries (Proposed n q) o ∷ []) here.at

    rest-all : (ps : List Proposal) → AreMoves (cores_of f.terms) (buckets_of f.terms) ps → AreMoves (cores_of f.terms) (buckets_of f.terms) (rest_of ps)
    rest-all [] a = a
    rest-all (x ∷ ps) a = λ k d low. a (suc k) d (omega arith)
