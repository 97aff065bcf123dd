-- The flows of a list of packets, with one packet more.
use Rattle.std.proofs.Common.{◌≡◌, ◌+◌, arith, List, [], ◌∷◌, ◌++◌, refl, sym, ap, subst, ◌∙◌, Some, None, Bool, true, false, ◌||◌, cond, fold, sum_by, unwrap_or, if◌then◌else◌}
use Rattle.std.proofs.lemmas.Bool.{true≢false}
use Rattle.std.proofs.lemmas.Grind.{fold-append, common_steps}
use Rattle.std.proofs.lemmas.List.Elements.{filter-append}
use Rattle.std.proofs.lemmas.List.{append-nil}
use Rattle.std.specs.List.{list_any}
use Rattle.std.specs.Map.{lookup}
use Rattle.packet_fields.specs.declared.key.FlowKey.{FlowKey}
use Rattle.packet_fields.specs.declared.packet.PacketInfo.{PacketInfo}
use Rattle.flow_work.specs.Flow.{flow_state, packets_of}
use Rattle.indexmap.specs.IndexMap.{insert_entry}
use Rattle.bucket_table.specs.FirstKeys.{same_key, first_keys}
use Rattle.bucket_table.proofs.FirstKeys.{same_key_laws, same_key_exact, same_key_itself, first_keys-push, first_keys-distinct, first_keys-among}
use Rattle.bucket_table.proofs.Keyed.{keyed, insert_keyed, found_keyed}

packets_of-same : (key : FlowKey) (xs : List PacketInfo) (p : PacketInfo) → same_key key p.key ≡ true → packets_of key (xs ++ p ∷ []) ≡ packets_of key xs ++ p ∷ []
packets_of-same key xs p h =
    filter-append (λ q. same_key key q.key) xs (p ∷ []) ∙ ap (λ b. packets_of key xs ++ cond b (p ∷ []) []) h

packets_of-other : (key : FlowKey) (xs : List PacketInfo) (p : PacketInfo) → same_key key p.key ≡ false → packets_of key (xs ++ p ∷ []) ≡ packets_of key xs
packets_of-other key xs p h =
    filter-append (λ q. same_key key q.key) xs (p ∷ []) ∙ (ap (λ b. packets_of key xs ++ cond b (p ∷ []) []) h ∙ append-nil (packets_of key xs))

-- a key of no packet has no packets
pub packets_of-none : (key : FlowKey) (xs : List PacketInfo) → list_any (λ p. same_key key p.key) xs ≡ false → packets_of key xs ≡ []
packets_of-none key [] h = refl
packets_of-none key (p ∷ ps) h = by (same_key key p.key) refl (packets_of-none key ps)
  where
    by : (b : Bool) → same_key key p.key ≡ b → (list_any (λ p. same_key key p.key) ps ≡ false → packets_of key ps ≡ []) → packets_of key (p ∷ ps) ≡ []
    by true e later = absurd (true≢false (sym (ap (λ b. b || list_any (λ p. same_key key p.key) ps) e) ∙ h))
    by false e later = rw e (later (sym (ap (λ b. b || list_any (λ p. same_key key p.key) ps) e) ∙ h))

module _ {S : Type 0} (opening : S) (after : S → PacketInfo → S) where
  state_same : (key : FlowKey) (xs : List PacketInfo) (p : PacketInfo) → same_key key p.key ≡ true → flow_state opening after key (xs ++ p ∷ []) ≡ after (flow_state opening after key xs) p
  state_same key xs p h = ap (fold after opening) (packets_of-same key xs p h) ∙ fold-append after opening (packets_of key xs) (p ∷ [])

  state_other : (key : FlowKey) (xs : List PacketInfo) (p : PacketInfo) → same_key key p.key ≡ false → flow_state opening after key (xs ++ p ∷ []) ≡ flow_state opening after key xs
  state_other key xs p h = ap (fold after opening) (packets_of-other key xs p h)

  -- the flows of the packets with their states
  abbrev pub flows_of : List PacketInfo → List (FlowKey × S)
  flows_of xs = keyed (λ key. flow_state opening after key xs) (first_keys xs)

  or_opening : (b : Bool) (s : S) → (b ≡ false → s ≡ opening) → unwrap_or (if b then Some s else None) opening ≡ s
  or_opening true s h = refl
  or_opening false s h = sym (h refl)

  -- the state so far is what is found, or the opening where nothing is
  pub state_so_far : (xs : List PacketInfo) (key : FlowKey) → unwrap_or (lookup (same_key key) (flows_of xs)) opening ≡ flow_state opening after key xs
  state_so_far xs key =
      let none : list_any (same_key key) (first_keys xs) ≡ false → flow_state opening after key xs ≡ opening = λ e. ap (fold after opening) (packets_of-none key xs (sym (first_keys-among key xs) ∙ e)) in
      ap (λ o. unwrap_or o opening) (found_keyed same_key same_key_exact (λ key. flow_state opening after key xs) (first_keys xs) key)
      ∙ or_opening (list_any (same_key key) (first_keys xs)) (flow_state opening after key xs) none

  -- the flows with one packet more
  pub flows_grown : (xs : List PacketInfo) (p : PacketInfo) (old new : List (FlowKey × S)) → old ≡ flows_of xs → new ≡ insert_entry same_key old p.key (after (unwrap_or (lookup (same_key p.key) old) opening) p) → new ≡ flows_of (xs ++ p ∷ [])
  flows_grown xs p old new are made =
      let f : FlowKey → S = λ k. flow_state opening after k xs in
      let g : FlowKey → S = λ k. flow_state opening after k (xs ++ p ∷ []) in
      let here : g p.key ≡ after (unwrap_or (lookup (same_key p.key) (flows_of xs)) opening) p = state_same p.key xs p (same_key_itself p.key) ∙ ap (λ s. after s p) (sym (state_so_far xs p.key)) in
      let others : (k : FlowKey) → same_key p.key k ≡ false → g k ≡ f k = λ k apart. state_other k xs p (same_key_laws.symm k p.key ∙ apart) in
      made
      ∙ (ap (λ (es : List (FlowKey × S)). insert_entry same_key es p.key (after (unwrap_or (lookup (same_key p.key) es) opening) p)) are
      ∙ (insert_keyed same_key same_key_exact f g (first_keys xs) p.key _ (first_keys-distinct xs) here others
      ∙ ap (keyed g) (sym (first_keys-push xs p))))

  -- the table stands for one packet more, unless memory is short
  pub stands_grown : (eq : FlowKey → FlowKey → Bool) → eq ≡ same_key → (xs : List PacketInfo) (p : PacketInfo) (old new : List (FlowKey × S)) → old ≡ flows_of xs →
      new ≡ insert_entry eq old p.key (after (unwrap_or (lookup (eq p.key) old) opening) p) → new ≡ flows_of (xs ++ p ∷ [])
  stands_grown eq same xs p old new are made =
      let P : (FlowKey → FlowKey → Bool) → Type 0 = λ e. new ≡ insert_entry e old p.key (after (unwrap_or (lookup (e p.key) old) opening) p) in
      flows_grown xs p old new are (subst P same made)

  pub bytes_grown : (xs : List PacketInfo) (p : PacketInfo) → sum_by (λ q. q.original) (xs ++ p ∷ []) ≡ sum_by (λ q. q.original) xs + p.original
  bytes_grown xs p = grind (arith, common_steps)
