-- A listing through one packet more, and its end.
use Rattle.std.proofs.Common.{◌≡◌, ◌⊎◌, inl, inr, ℕ, ◌+◌, ◌≤◌, List, [], ◌∷◌, ◌++◌, length, map, refl, sym, ap, subst, ◌∙◌, append_assoc, arith, Bool, true, false, Option, None, Some, Result, Ok, Err, MatchResult}
use Rattle.std.specs.Io.KnownBytes.{IsAtEnd}
use Rattle.std.proofs.lemmas.List.{append-nil}
use Rattle.rss_base.specs.Faults.{Rose}
use Rattle.rss_base.specs.Written.{Gets, GetsFront}
use Rattle.pcap_reader.specs.declared.fault.ReadError.{ReadError}
use Rattle.pcap_reader.specs.declared.fault.ReadError.TheVariants as reading
use Rattle.pcap_reader.specs.Capture.{Captured}
use Rattle.pcap_reader.specs.Stream.{MayBlame}
use Rattle.packet_fields.specs.declared.packet.PacketInfo.{PacketInfo}
use Rattle.toeplitz.specs.declared.key.Key.{Key}
use Rattle.rsspp_main.specs.declared.fault.TopFault.{TopFault}
use Rattle.rsspp_main.specs.declared.fault.TopFault.TheVariants.{Words, Capture, Block, Line, ReadFault, Undrawn, WriteFault, NoMemory, TooMany}
use Rattle.rsspp_main.specs.Stops.{Accepts, MayFail, StopsWith, top_fault}
use Rattle.rsspp_main.specs.Listing.{hash_line, listing, listing_from, IsListed, Listed, Lists, ReadingOutcomes, classic_outcomes}
use Rattle.dispatch_loop.specs.Packets.{packet_of}
use Rattle.rsspp_main.specs.Run.{Ends, NoReadFailed}

listing_from-push : (key : Key) (owners : List ℕ) (n : ℕ) (ps : List PacketInfo) (p : PacketInfo) → listing_from key owners n (ps ++ p ∷ []) ≡ listing_from key owners n ps ++ hash_line key owners (n + length ps) p
listing_from-push key owners n [] p = let zero_more : n ≡ n + 0 = omega arith in append-nil (hash_line key owners n p) ∙ ap (λ m. hash_line key owners m p) zero_more
listing_from-push key owners n (q ∷ ps) p =
    let one_more : (n + 1) + length ps ≡ n + length (q ∷ ps) = omega arith in
    ap (λ w. hash_line key owners n q ++ w) (listing_from-push key owners (n + 1) ps p ∙ ap (λ m. listing_from key owners (n + 1) ps ++ hash_line key owners m p) one_more)
    ∙ sym (append_assoc (hash_line key owners n q) (listing_from key owners (n + 1) ps) (hash_line key owners (n + length (q ∷ ps)) p))

-- the line of one packet more
pub listing-push : (key : Key) (owners : List ℕ) (ps : List PacketInfo) (p : PacketInfo) → listing key owners (ps ++ p ∷ []) ≡ listing key owners ps ++ hash_line key owners (length ps) p
listing-push key owners ps p =
    let same : 0 + length ps ≡ length ps = omega arith in
    listing_from-push key owners 0 ps p ∙ ap (λ m. listing key owners ps ++ hash_line key owners m p) same

-- one text after another
gets_both : (a b c : List ℕ → Type 0) (x y : List ℕ) → Gets a b x → Gets b c y → Gets a c (x ++ y)
gets_both a b c x y p q bytes h = subst c (append_assoc bytes x y) (q (bytes ++ x) (p bytes h))

-- a front of a longer text
front_more : (a b : List ℕ → Type 0) (x y : List ℕ) → GetsFront a b x → GetsFront a b (x ++ y)
front_more a b x y f = (f.0, f.1 ++ y, ap (λ w. w ++ y) f.2 ∙ append_assoc f.0 f.1 y, f.3)

-- a text and a front of the one behind it
front_behind : (a b c : List ℕ → Type 0) (x y : List ℕ) → Gets a b x → GetsFront b c y → GetsFront a c (x ++ y)
front_behind a b c x y p f = (x ++ f.0, f.1, ap (λ w. x ++ w) f.2 ∙ sym (append_assoc x f.0 f.1), gets_both a b c x f.0 p f.3)

-- nothing was written
pub gets_none : (a : List ℕ → Type 0) → Gets a a []
gets_none a bytes h = subst a (sym (append-nil bytes)) h

-- a list that has no packets yet
pub listed_none : (n : ℕ) (a : List ℕ → Type 0) → IsListed n n a a false []
listed_none n a = record {
  later = omega arith;
  front = ([], [], refl, gets_none a);
  whole = λ e. gets_none a;
  calm = λ e. refl;
  rose = λ e. absurd (cc);
}

-- a line that was written, and one of which a front was
pub line_written : (before now : ℕ) (old new : List ℕ → Type 0) (line : List ℕ) → Gets old new line → now ≡ before → IsListed before now old new false line
line_written before now old new line got same = record {
  later = omega arith;
  front = (line, [], sym (append-nil line), got);
  whole = λ e. got;
  calm = λ e. same;
  rose = λ e. absurd (cc);
}

pub line_cut : (before now : ℕ) (old new : List ℕ → Type 0) (line : List ℕ) → GetsFront old new line → before ≤ now → Rose before now → IsListed before now old new true line
line_cut before now old new line front later rose = record {
  later = later;
  front = front;
  whole = λ e. absurd (cc);
  calm = λ e. absurd (cc);
  rose = λ e. rose;
}

pub ok_same : {E : Type 0} (a b : Bool) → ◌≡◌ {A = Result Bool E} (Ok a) (Ok b) → a ≡ b
ok_same a b e = cc

-- a line that was made isn't skipped
pub not_skipped : {E P : Type 0} {e : E} (failed : Bool) → (failed ≡ true → (◌≡◌ {A = Result Bool E} (Err e) (Ok true)) × P) → failed ≡ false
not_skipped false skips = refl
not_skipped true skips = absurd (let never = (skips refl).0 in cc)

-- one line more
pub listed-push : (f0 f1 f2 : ℕ) (h0 h1 h2 : List ℕ → Type 0) (failed now : Bool) (text line : List ℕ) → IsListed f0 f1 h0 h1 failed text → (failed ≡ false → IsListed f1 f2 h1 h2 now line) → (failed ≡ true → (now ≡ true) × (f2 ≡ f1) × Gets h1 h2 []) → IsListed f0 f2 h0 h2 now (text ++ line)
listed-push f0 f1 f2 h0 h1 h2 false now text line so_far next skip =
    let one = next refl in
    record {
      later = omega (arith, so_far.later, one.later);
      front = front_behind h0 h1 h2 text line (so_far.whole refl) one.front;
      whole = λ e. gets_both h0 h1 h2 text line (so_far.whole refl) (one.whole e);
      calm = λ e. one.calm e ∙ so_far.calm refl;
      rose = λ e. let old = so_far.calm refl in subst (λ n. Rose n f2) old (one.rose e);
    }
listed-push f0 f1 f2 h0 h1 h2 true now text line so_far next skip =
    let kept = skip refl in
    let old = so_far.front in
    let same : GetsFront h0 h2 text = (old.0, old.1, old.2, subst (λ w. Gets h0 h2 w) (append-nil old.0) (gets_both h0 h1 h2 old.0 [] old.3 kept.2)) in
    let never : now ≡ false → ⊥ = λ e. let yes = kept.0 in cc in
    record {
      later = omega (arith, so_far.later, kept.1);
      front = front_more h0 h2 text line same;
      whole = λ e. absurd (never e);
      calm = λ e. absurd (never e);
      rose = λ e. subst (λ n. Rose f0 n) (sym kept.1) (so_far.rose refl);
    }

-- the listing so far, as an outcome tells it
listed_of : (old new : Ends) (failed : Bool) (text : List ℕ) → IsListed old.write_faults new.write_faults old.may_hold new.may_hold failed text → Listed old new text
listed_of old new false text l = record { front = l.front; whole = λ calm. l.whole refl }
listed_of old new true text l = record { front = l.front; whole = λ calm. absurd (calm (l.rose refl)) }

module _ (limit : ℕ) (text : List PacketInfo → List ℕ) (left now : Option (List ℕ)) (begun : Type 0) (old new : Ends) where
  abbrev outcomes : ReadingOutcomes
  outcomes = classic_outcomes limit left now begun

  -- the end of a capture that was read whole
  pub finished : (records : List Captured) (failed : Bool) (r : Result (Unit {0}) TopFault) → Accepts limit left records → IsAtEnd now → NoReadFailed old new → IsListed old.write_faults new.write_faults old.may_hold new.may_hold failed (text (map packet_of records)) → (failed ≡ true → r ≡ Err WriteFault) → (failed ≡ false → r ≡ Ok tt)
      → MatchResult r (λ _. Lists outcomes text old new None) (λ fault. Lists outcomes text old new (Some fault))
  finished records false r accepted end quiet l bad good = rw (good refl) (records, (accepted, end), l.whole refl, record { reads = quiet; writes = l.calm refl })
  finished records true r accepted end quiet l bad good = rw (bad refl) (records, (accepted, end), l.front, l.rose refl, quiet)

  -- a reading that stopped behind these records
  pub stopped : (fault : TopFault) (records : List Captured) (failed : Bool) → StopsWith limit left now records fault → IsListed old.write_faults new.write_faults old.may_hold new.may_hold failed (text (map packet_of records)) → MayFail fault old.read_faults new.read_faults → Lists outcomes text old new (Some fault)
  stopped (Capture e) records failed s l may = (records, s, listed_of old new failed (text (map packet_of records)) l, may)
  stopped (TooMany n) records failed s l may = (records, s, listed_of old new failed (text (map packet_of records)) l, may)
  stopped ReadFault records failed s l may = (records, s, listed_of old new failed (text (map packet_of records)) l, may)
  stopped NoMemory records failed s l may = absurd s
  stopped Undrawn records failed s l may = absurd s
  stopped WriteFault records failed s l may = absurd s
  stopped (Block e) records failed s l may = absurd s
  stopped (Line k) records failed s l may = absurd s
  stopped (Words w) records failed s l may = absurd s

  -- no record at all
  pub none_listed : (fault : TopFault) → ((fault ≡ NoMemory) × begun) ⊎ StopsWith limit left now [] fault
      → IsListed old.write_faults new.write_faults old.may_hold new.may_hold false (text []) → MayFail fault old.read_faults new.read_faults → Lists outcomes text old new (Some fault)
  none_listed fault (inl lack) l may = subst (λ f. Lists outcomes text old new (Some f)) (sym lack.0) (inl lack.1)
  none_listed fault (inr s) l may = stopped fault [] false s l may

-- an error of the reader may be blamed as the fault that it is
pub may_fail : (error : ReadError) (before now : ℕ) → MayBlame error before now → MayFail (top_fault error) before now
may_fail reading.NoMemory before now blame = blame
may_fail reading.ReadFault before now blame = blame
may_fail (reading.Broken e) before now blame = blame
