-- Proof machinery: what is asked of one part of an object alone.
use Rattle.std.proofs.Common.{◌≡◌, ◌≢◌, ◌↔◌, ◌≤◌, ◌==◌, ℕ, Bool, true, false, cond, nat_eq, zero, suc, IsTrue, List, [], ◌∷◌, ◌++◌, filter, take, drop, Some, map, length}
use Rattle.std.proofs.Common.{refl, sym, ap, subst, ◌∙◌, inl, inr, arith, append_assoc, append-nil, eq-eqb}
use Rattle.std.proofs.lemmas.Bool.{and_parts, eqb-true}
use Rattle.std.proofs.lemmas.List.{take-append-drop, take-map, take_all}
use Rattle.std.proofs.lemmas.List.Elements.{filter-append}
use Rattle.pp_core.specs.declared.entry.CommittedTx.{CommittedTx}
use Rattle.pp_core.specs.declared.entry.Item.{Item}
use Rattle.pp_model.specs.Config.{LocalEntry, local_ops, own}
use Rattle.pp_model.specs.Lists.{In}
use Rattle.pp_model.specs.Names.{Name}
use Rattle.pp_model.specs.Object.{ops}
use Rattle.pp_model.proofs.Finding.{none_in}
use Rattle.pp_model.proofs.Lists.{from_filter, from_map, in_cases}
use Rattle.pp_kind.specs.Object.{IsAllowed, IsLawful, IsPlaced, Object, IsLegal, state_after}
use Rattle.pp_kind.proofs.Lists.{one_more}
use Rattle.pp_kind.proofs.Places.{reached_shape}
use Rattle.pp_kind.specs.Parts.{PartsSwap}
use Rattle.pp_kind.specs.declared.part.Part.{Part}
use Rattle.pp_kind_parts.specs.Alone.{PartsStandAlone, same_part}
use Rattle.pp_kind_parts.proofs.Alone.{allowed_after, allowed_both, allowed_passing, parts_told, same_part_is, same_part_own}
use Rattle.pp_laws_summary.specs.LocalLogs.{serial_at}
use Rattle.pp_laws_summary.specs.Places.{ops_at}
use Rattle.pp_laws_summary.specs.Summary.{OpenSummary, Summary, open_summary}
use Rattle.pp_laws_summary.specs.Views.{log_at, seen_at}
use Rattle.pp_laws_summary.proofs.Placed.{parts_of}
use Rattle.pp_laws_summary.proofs.Relog.{filter_none, filter_within}
use Rattle.pp_summary.specs.Shown.{filled, open_in}
use Rattle.pp_summary.specs.declared.parts.OpenTx.{OpenTx}
use Rattle.pp_snapshots.specs.declared.past.Past.{Past}
use Rattle.pp_snapshots.specs.Costs.{has_part, ops_of_part, share_part}
use Rattle.pp_snapshots.specs.Many.{TellsBehind}
use Rattle.pp_snapshots.specs.Ops.{HasAllowed, MayHave, made_from, snapshot_at}
use Rattle.pp_snapshots.specs.Past.{IsPast, made_at}
use Rattle.pp_snapshots.specs.Refreshing.{AllSwap, LaterTold, RefreshTold, TellsLater, TellsRefresh}
use Rattle.pp_snapshots.specs.Shown.{Keeps, Kept, as_local, done_ops, seen_in, shown_tx}
use Rattle.pp_snapshots.proofs.Asking.{count_is}
use Rattle.pp_snapshots.proofs.Manies.{ops_there}
use Rattle.pp_snapshots.proofs.Moving.{in_slot_of, slot_there}
use Rattle.pp_snapshots.proofs.OnOp.{has_nothing}
use Rattle.pp_snapshots.proofs.Pasts.{allowed_there, shape_is}
use Rattle.pp_snapshots.proofs.StepCounts.{in_filled}
use Rattle.pp_snapshots.proofs.Views.{ops_local}

-- If a test holds of each element of a list, all are left.
pub filter_all : {A : Type 0} (t : A → Bool) (l : List A) → ((a : A) → In a l → t a ≡ true) → filter t l ≡ l
filter_all t [] h = refl
filter_all {A} t (a ∷ l) h =
    ap (λ (b : Bool). cond b (a ∷ filter t l) (filter t l)) (h a (inl refl))
    ∙ ap (λ (w : List A). a ∷ w) (filter_all t l (λ b i. h b (inr i)))

module _ {Shape State Op Undo : Type 0} (o : Object Shape State Op Undo) (place : Op → ℕ) where
  -- What the question of the later operations says, if the own ones swap with them.
  later_told : (shape : Shape) (h : ℕ → List Op) (p n : ℕ) (own asked : List Op) (good : Bool) → asked ≡ own ++ drop n (h p) → AllSwap o own (drop n (h p))
      → IsTrue good ↔ IsAllowed o shape (take n (h p) ++ asked) → LaterTold o place shape h p n own good
  later_told shape h p n own asked true is swaps told = (swaps, subst (λ (l : List Op). IsAllowed o shape (take n (h p) ++ l)) is (told.0 refl))
  later_told shape h p n own asked false is swaps told =
      inr (λ k. let z = told.1 (subst (λ (l : List Op). IsAllowed o shape (take n (h p) ++ l)) (sym is) k) in cc)

  -- What the question of all of them says of the own ones and the later ones.
  pub later_tells : (v w : Past State Op Undo) (p n : ℕ) (own later asked : List Op) (good : Bool) → later ≡ made_from v p n → asked ≡ own ++ later → AllSwap o own later
      → TellsBehind o place v p n asked good w → TellsLater o place v p n own good w
  later_tells v w p n own later asked good late is swaps told shape h past =
      let rest = late ∙ ap (drop n) (ops_there o place shape v h past p) in
      let k = told shape h past in
      (later_told shape h p n own asked good (is ∙ ap (λ (l : List Op). own ++ l) rest) (subst (AllSwap o own) rest swaps) k.0, k.1)

  refresh_told : (shape : Shape) (h : ℕ → List Op) (p n : ℕ) (x : OpenTx (List (Item Op))) (own : List Op) (good : Bool) → n ≡ seen_in x.seen.entries p → own ≡ ops_at place p (ops x.own)
      → LaterTold o place shape h p n own good → RefreshTold o place shape h p x good
  refresh_told shape h p n x own true seen is told =
      let m = subst (λ (l : List Op). LaterTold o place shape h p n l true) is told in
      let k = subst (λ (i : ℕ). LaterTold o place shape h p i (ops_at place p (ops x.own)) true) seen m in
      record { swaps = k.0; allowed = k.1 }
  refresh_told shape h p n x own false seen is told =
      let m = subst (λ (l : List Op). LaterTold o place shape h p n l false) is told in
      record { never = subst (λ (i : ℕ). LaterTold o place shape h p i (ops_at place p (ops x.own)) false) seen m }

  -- What this says of a refresh of an open transaction.
  pub refresh_tells : (v w : Past State Op Undo) (p n : ℕ) (x : OpenTx (List (Item Op))) (own : List Op) (good : Bool) → n ≡ seen_in x.seen.entries p → own ≡ ops_at place p (ops x.own)
      → TellsLater o place v p n own good w → TellsRefresh o place v p x good w
  refresh_tells v w p n x own good seen is told shape h past = let k = told shape h past in (refresh_told shape h p n x own good seen is k.0, k.1)

module _ {Shape State Op Undo : Type 0} (o : Object Shape State Op Undo) (place : Op → ℕ) (SameAt : ℕ → State → State → Type 0) (laws : IsLawful o) (places : IsPlaced o place SameAt) where
  -- An operation that is legal in each state is allowed after each allowed list.
  allowed_silent : (shape : Shape) (x : List Op) (op : Op) → ((s : State) → IsTrue (o.fits (o.shape s) op) → IsLegal o s op) → IsTrue (o.fits shape op) → IsAllowed o shape x → IsAllowed o shape (x ++ op ∷ [])
  allowed_silent shape x op legal fits h =
      let s = state_after o shape x in
      one_more o shape s x op refl h (legal s (subst (λ (sh : Shape). IsTrue (o.fits sh op)) (sym (reached_shape o laws shape x h)) fits))

  -- The question of such an operation alone is the one after the first ones and the own ones: it is allowed.
  pub silent_tells : (v w : Past State Op Undo) (op : Op) (n p all : ℕ) (own asked : List Op) (good : Bool) → ((s : State) → IsTrue (o.fits (o.shape s) op) → IsLegal o s op) → IsTrue (o.fits (o.shape v.state) op)
      → p ≡ place op → all ≡ length (made_at p v.places.items) → asked ≡ op ∷ [] → MayHave o place v (place op) n own → TellsBehind o place v p all asked good w
      → TellsBehind o place v (place op) n (ops_at place (place op) own ++ op ∷ []) good w
  silent_tells v w op n p all own asked good legal fits at count is have told shape h past =
      let k = told shape h past in
      let enough : length (h p) ≤ all = let e = count_is o place shape v h past p in omega (arith, e, count) in
      let here = subst (λ (sh : Shape). IsTrue (o.fits sh op)) (shape_is o place SameAt laws places shape v h past) fits in
      let same : take all (h p) ++ asked ≡ h p ++ op ∷ [] = ap (λ (l : List Op). take all (h p) ++ l) is ∙ ap (λ (l : List Op). l ++ op ∷ []) (take_all all (h p) enough) in
      let first = take n (h (place op)) in
      let mine = ops_at place (place op) own in (
        (
          (λ g. subst (IsAllowed o shape) (append_assoc first mine (op ∷ [])) (allowed_silent shape (first ++ mine) op legal here (have shape h past))),
          (λ g. k.0.1 (subst (IsAllowed o shape) (sym same) (allowed_silent shape (h p) op legal here (allowed_there o place SameAt laws places shape v h past p)))),
        ),
        k.1,
      )

module _ {Shape State Op Undo : Type 0} (o : Object Shape State Op Undo) (place : Op → ℕ) (SameAt : ℕ → State → State → Type 0) (laws : IsLawful o) (places : IsPlaced o place SameAt)
    (part : Op → Part) (swap : PartsSwap o part) (alone : PartsStandAlone o place part) where
  -- of the part of op
  abbrev of_part : Op → Op → Bool
  of_part op a = same_part (part a) (part op)

  -- An operation of the part of another is at its place.
  pub part_there : (op a : Op) → same_part (part a) (part op) ≡ true → place a ≡ place op
  part_there op a e = sym (alone.placed a) ∙ ap (λ (p : Part). p.object) (same_part_is (part a) (part op) e) ∙ alone.placed op

  -- The operations of the part of another are among those at its place.
  pub parts_there : (op : Op) (l : List Op) → filter (of_part op) (ops_at place (place op) l) ≡ ops_of_part part op l
  parts_there op l = filter_within (of_part op) (λ (a : Op). place a == place op) l (λ a i e. eq-eqb (place a) (place op) (part_there op a e))

  module _ (shape : Shape) (v : Past State Op Undo) (h : ℕ → List Op) (past : IsPast o place shape v h) where
    abbrev P : List Op → Type 0
    P = IsAllowed o shape

    -- what was applied at a place is the first of it and the rest
    cut_is : (q n : ℕ) → take n (h q) ++ drop n (h q) ≡ h q
    cut_is q n = take-append-drop n (h q)

    cut_allowed : (q n : ℕ) → P (take n (h q) ++ drop n (h q))
    cut_allowed q n = subst P (sym (cut_is q n)) (allowed_there o place SameAt laws places shape v h past q)

    -- If no later operation is of the part of this one, it is allowed after all and the own ones of its
    -- part exactly if it is after the first ones and all own ones at its place.
    pub part_decides : (op : Op) (n : ℕ) (own : List Op) → has_part part op (drop n (h (place op))) ≡ false → P (take n (h (place op)) ++ ops_at place (place op) own)
        → P (h (place op) ++ (ops_of_part part op own ++ op ∷ [])) ↔ P (take n (h (place op)) ++ (ops_at place (place op) own ++ op ∷ []))
    part_decides op n own none have = (there, back)
      where
        t : Op → Bool
        t = of_part op

        tells : (a b : Op) → same_part (part a) (part op) ≡ false → same_part (part b) (part op) ≡ true → part a ≢ part b
        tells a b e f = parts_told part op a b e f

        y : List Op
        y = ops_of_part part op own ++ op ∷ []

        one_passes : (b : Op) → In b (op ∷ []) → same_part (part b) (part op) ≡ true
        one_passes b (inl e) = ap (λ (c : Op). same_part (part c) (part op)) e ∙ same_part_own (part op)
        one_passes b (inr e) = absurd e

        passes : (b : Op) → In b (ops_of_part part op own ++ op ∷ []) → same_part (part b) (part op) ≡ true
        passes b i = elim (in_cases b (ops_of_part part op own) (op ∷ []) i) [
          | inl j ↦ (from_filter (λ (a : Op). same_part (part a) (part op)) b own j).1
          | inr j ↦ one_passes b j
        ]

        misses : (b : Op) → In b (drop n (h (place op))) → same_part (part b) (part op) ≡ false
        misses b i = none_in (λ (a : Op). same_part (part a) (part op)) (drop n (h (place op))) none b i

        whole : take n (h (place op)) ++ (drop n (h (place op)) ++ (ops_of_part part op own ++ op ∷ [])) ≡ h (place op) ++ (ops_of_part part op own ++ op ∷ [])
        whole = sym (append_assoc (take n (h (place op))) (drop n (h (place op))) (ops_of_part part op own ++ op ∷ []))
            ∙ ap (λ (w : List Op). w ++ (ops_of_part part op own ++ op ∷ [])) (cut_is (place op) n)

        left : filter (of_part op) (drop n (h (place op)) ++ (ops_of_part part op own ++ op ∷ [])) ≡ ops_of_part part op own ++ op ∷ []
        left =
            filter-append (of_part op) (drop n (h (place op))) (ops_of_part part op own ++ op ∷ [])
            ∙ ap (λ (w : List Op). w ++ filter (of_part op) (ops_of_part part op own ++ op ∷ [])) (filter_none (of_part op) (drop n (h (place op))) misses)
            ∙ filter_all (of_part op) (ops_of_part part op own ++ op ∷ []) passes

        own_left : filter (of_part op) (ops_at place (place op) own ++ op ∷ []) ≡ ops_of_part part op own ++ op ∷ []
        own_left =
            filter-append (of_part op) (ops_at place (place op) own) (op ∷ [])
            ∙ ap (λ (w : List Op). w ++ filter (of_part op) (op ∷ [])) (parts_there op own)
            ∙ ap (λ (w : List Op). ops_of_part part op own ++ w) (filter_all (of_part op) (op ∷ []) one_passes)

        there : P (h (place op) ++ (ops_of_part part op own ++ op ∷ [])) → P (take n (h (place op)) ++ (ops_at place (place op) own ++ op ∷ []))
        there k =
            let short = subst (λ (w : List Op). P (take n (h (place op)) ++ w)) left
            (allowed_passing o place part swap alone shape (of_part op) tells (take n (h (place op))) (drop n (h (place op)) ++ (ops_of_part part op own ++ op ∷ [])) (subst P (sym whole) k)) in
            allowed_after o place part swap alone shape (of_part op) tells (take n (h (place op))) (ops_at place (place op) own) (op ∷ []) one_passes have
            (subst (λ (w : List Op). P (take n (h (place op)) ++ (w ++ op ∷ []))) (sym (parts_there op own)) short)

        back : P (take n (h (place op)) ++ (ops_at place (place op) own ++ op ∷ [])) → P (h (place op) ++ (ops_of_part part op own ++ op ∷ []))
        back k =
            let short = subst (λ (w : List Op). P (take n (h (place op)) ++ w)) own_left
            (allowed_passing o place part swap alone shape (of_part op) tells (take n (h (place op))) (ops_at place (place op) own ++ op ∷ []) k) in
            subst P whole
            (allowed_both o place part swap alone shape (take n (h (place op))) (drop n (h (place op))) (ops_of_part part op own ++ op ∷ [])
            (λ a i b j. tells a b (misses a i) (passes b j)) (cut_allowed (place op) n) short)

    -- If no later operation at a place is of the part of an own one, the own ones swap with the later
    -- ones, and these are allowed after them.
    pub unshared_may : (q n : ℕ) (own : List Op) → share_part part own (drop n (h q)) ≡ false → P (take n (h q) ++ own)
        → AllSwap o own (drop n (h q)) × P (take n (h q) ++ (own ++ drop n (h q)))
    unshared_may q n own none have = (
      (λ b i a j. swap a b (apart a b j i)),
      allowed_both o place part swap alone shape (take n (h q)) own (drop n (h q)) (λ a i b j. apart a b i j) have (cut_allowed q n),
    )
      where
        apart : (a b : Op) → In a own → In b (drop n (h q)) → part a ≢ part b
        apart a b i j e =
            let off = none_in (λ (c : Op). same_part (part c) (part b)) own (none_in (λ (c : Op). has_part part c own) (drop n (h q)) none b j) a i in
            let z : true ≡ false = sym (same_part_own (part b)) ∙ ap (λ (p : Part). same_part p (part b)) (sym e) ∙ off in
            cc

  -- A refresh is good if no own operation is of the part of a later one.
  pub unshared_tells : (v : Past State Op Undo) (p n : ℕ) (x : OpenTx (List (Item Op))) (own later : List Op) → n ≡ seen_in x.seen.entries p → own ≡ ops_at place p (ops x.own) → later ≡ made_from v p n
      → share_part part own later ≡ false → HasAllowed o place v x → TellsRefresh o place v p x true v
  unshared_tells v p n x own later seen is late none has =
      refresh_tells o place v v p n x own true seen is (λ shape h past.
      let rest = late ∙ ap (drop n) (ops_there o place shape v h past p) in
      let have = subst (λ (i : ℕ). IsAllowed o shape (take i (h p) ++ ops_at place p (ops x.own))) (sym seen) (has p shape h past) in
      (unshared_may shape v h past p n own (subst (λ (l : List Op). share_part part own l ≡ false) rest none) (subst (λ (l : List Op). IsAllowed o shape (take n (h p) ++ l)) (sym is) have), past))

  -- What the question after all operations says of the one after the first ones.
  pub part_tells : (v w : Past State Op Undo) (op : Op) (n p all : ℕ) (own asked : List Op) (good : Bool) → p ≡ place op → all ≡ length (made_at p v.places.items)
      → asked ≡ ops_of_part part op own ++ op ∷ [] → has_part part op (made_from v (place op) n) ≡ false → MayHave o place v (place op) n own → TellsBehind o place v p all asked good w
      → TellsBehind o place v (place op) n (ops_at place (place op) own ++ op ∷ []) good w
  part_tells v w op n p all own asked good at count is misses have told shape h past =
      let k = told shape h past in
      let enough : length (h p) ≤ all = let e = count_is o place shape v h past p in omega (arith, e, count) in
      let same : take all (h p) ++ asked ≡ h (place op) ++ (ops_of_part part op own ++ op ∷ []) =
      ap (λ (l : List Op). take all (h p) ++ l) is
      ∙ ap (λ (l : List Op). l ++ (ops_of_part part op own ++ op ∷ [])) (take_all all (h p) enough ∙ ap h at) in
      let none = subst (λ (l : List Op). has_part part op (drop n l) ≡ false) (ops_there o place shape v h past (place op)) misses in
      let both = part_decides shape v h past op n own none (have shape h past) in (
        ((λ g. both.0 (subst (IsAllowed o shape) same (k.0.0 g))), (λ g. k.0.1 (subst (IsAllowed o shape) (sym same) (both.1 g)))),
        k.1,
      )

  -- What a transaction has of the place of an operation is allowed, with the snapshot that it takes
  -- there if it has nothing.
  pub snapshot_have : (v : Past State Op Undo) (x : OpenTx (List (Item Op))) (op : Op) (n : ℕ) → HasAllowed o place v x
      → n ≡ snapshot_at (seen_in x.seen.entries (place op)) (ops_at place (place op) (ops x.own)) (length (made_at (place op) v.places.items)) → MayHave o place v (place op) n (ops x.own)
  snapshot_have v x op n has is shape h past = by (has_nothing place (place op) x) refl
    where
      none : (l : List Op) → nat_eq (length l) zero ≡ true → l ≡ []
      none [] e = refl
      none (a ∷ l) e = absurd (let z : suc (length l) ≡ zero = eqb-true (suc (length l)) zero e in omega (arith, z))

      by : (b : Bool) → has_nothing place (place op) x ≡ b → IsAllowed o shape (take n (h (place op)) ++ ops_at place (place op) (ops x.own))
      by true e =
          let q = place op in
          let all : n ≡ length (made_at q v.places.items) = is ∙ ap (λ (b : Bool). cond b (length (made_at q v.places.items)) (seen_in x.seen.entries q)) e in
          let enough : length (h q) ≤ n = let k = count_is o place shape v h past q in omega (arith, all, k) in
          let nothing = none (ops_at place q (ops x.own)) (and_parts (nat_eq (seen_in x.seen.entries q) zero) (nat_eq (length (ops_at place q (ops x.own))) zero) e).1 in
          subst (IsAllowed o shape)
          (sym (append-nil (h q)) ∙ ap (λ (l : List Op). l ++ []) (sym (take_all n (h q) enough)) ∙ ap (λ (l : List Op). take n (h q) ++ l) (sym nothing))
          (allowed_there o place SameAt laws places shape v h past q)
      by false e =
          let q = place op in
          let seen : n ≡ seen_in x.seen.entries q = is ∙ ap (λ (b : Bool). cond b (length (made_at q v.places.items)) (seen_in x.seen.entries q)) e in
          subst (λ (m : ℕ). IsAllowed o shape (take m (h q) ++ ops_at place q (ops x.own))) (sym seen) (has q shape h past)

module _ {Shape State Op Undo : Type 0} (o : Object Shape State Op Undo) (place : Op → ℕ) (SameAt : ℕ → State → State → Type 0) (laws : IsLawful o) (places : IsPlaced o place SameAt) (v : Kept Shape State Op Undo) (h : Keeps o place v) where
  module _ (t : Name) (x : OpenTx (List (Item Op))) (found : open_in t v.slots.entries ≡ Some x) where
    -- what an open transaction has of a place is allowed
    view_allowed : (q : ℕ) → IsAllowed o v.shape (take (seen_in x.seen.entries q) (done_ops o place v.committed q) ++ ops_at place q (ops x.own))
    view_allowed q =
        let p = h.is_held.0 in
        let s = h.is_held.1 in
        let opened : map (open_summary place p.front) p.config.opened ≡ filled shown_tx v.slots.entries = ap (λ (B : Summary Op). B.opened) s.is in
        let m = from_map (open_summary place p.front) (shown_tx t x) p.config.opened
        (subst (λ (l : List (OpenSummary Op)). In (shown_tx t x) l) (sym opened) (in_filled t x v.slots.entries (in_slot_of t v.slots.entries x (slot_there o place SameAt laws places v h t x found)))) in
        let L = (m.0).local in
        let seen : seen_in x.seen.entries q ≡ seen_at place q L = ap (λ (X : OpenSummary Op). X.seen q) m.2 in
        let own_is : map (as_local t) x.own ≡ own L = ap (λ (X : OpenSummary Op). X.own) m.2 in
        let done : p.config.done ≡ v.committed = ap (λ (B : Summary Op). B.done) s.is in
        let there : IsAllowed o v.shape (ops_at place q (local_ops L)) = ((parts_of o place SameAt laws places v.shape).parts (local_ops L)).0 (s.summable.sound.local_allowed m.0 m.1) q in
        let led = (s.summable.snapshots m.0 m.1 q).leads [] (subst (IsAllowed o v.shape) (sym (append-nil (log_at place q L))) there) in
        subst (IsAllowed o v.shape)
        (ap (λ (l : List Op). ops (take (seen_at place q L) (serial_at place q p.config.done)) ++ l) (append-nil (ops_at place q (local_ops (own L))))
        ∙ ap (λ (n : ℕ). ops (take n (serial_at place q p.config.done)) ++ ops_at place q (local_ops (own L))) (sym seen)
        ∙ ap (λ (D : List (CommittedTx Op)). ops (take (seen_in x.seen.entries q) (serial_at place q D)) ++ ops_at place q (local_ops (own L))) done
        ∙ ap (λ (l : List Op). l ++ ops_at place q (local_ops (own L))) (sym (take-map (λ (p : Item Op). p.op) (seen_in x.seen.entries q) (serial_at place q v.committed)))
        ∙ ap (λ (l : List (LocalEntry Op)). take (seen_in x.seen.entries q) (done_ops o place v.committed q) ++ ops_at place q (local_ops l)) (sym own_is)
        ∙ ap (λ (l : List Op). take (seen_in x.seen.entries q) (done_ops o place v.committed q) ++ ops_at place q l) (ops_local t x.own))
        led

    -- What an open transaction has of each place is allowed.
    pub has_allowed : HasAllowed o place v.past x
    has_allowed q shape k past =
        let same : done_ops o place v.committed q ≡ k q =
        sym (ops_there o place v.shape v.past (done_ops o place v.committed) h.past q) ∙ ops_there o place shape v.past k past q in
        let shapes : v.shape ≡ shape =
        sym (shape_is o place SameAt laws places v.shape v.past (done_ops o place v.committed) h.past) ∙ shape_is o place SameAt laws places shape v.past k past in
        subst (λ (sh : Shape). IsAllowed o sh (take (seen_in x.seen.entries q) (k q) ++ ops_at place q (ops x.own))) shapes
        (subst (λ (l : List Op). IsAllowed o v.shape (take (seen_in x.seen.entries q) l ++ ops_at place q (ops x.own))) same (view_allowed q))
