-- The evidence of a step shows its first false criterion, and reports operations of the objects.
use Rattle.std.proofs.Common.{◌≡◌, ◌==◌, ◌&&◌, ◌+◌, ℕ, zero, suc, Bool, true, false, cond, not}
use Rattle.std.proofs.Common.{filter, find, is_some, IsTrue, List, [], ◌∷◌, ◌++◌, drop, position}
use Rattle.std.proofs.Common.{slice_get, Option, Some, None, refl, sym, ap, subst, ◌∙◌, add-one}
use Rattle.std.proofs.Common.{inl, inr}
use Rattle.std.specs.List.{position_or_len}
use Rattle.std.proofs.lemmas.Bool.{and_parts, eqb-true, eq-eqb, not-true}
use Rattle.std.proofs.lemmas.List.Folds.{find_at}
use Rattle.pp_core.specs.declared.answer.Answer.{Answer}
use Rattle.pp_core.specs.declared.entry.Item.{Item}
use Rattle.pp_core.specs.declared.entry.LocalEntry.{LocalEntry}
use Rattle.pp_core.specs.declared.entry.SharedEntry.{SharedEntry}
use Rattle.pp_core.proofs.Places.{is_none_of}
use Rattle.pp_log.specs.Logs.{DiffersFrom, entry_ops}
use Rattle.pp_model.specs.Config.{Config, Step, Begin, App, Unapp, Push, Unpush, Pull, Unpull, Cmt}
use Rattle.pp_model.specs.Config.{Quit, Note, Mark, Unpushed, Pushed, Pulled, at_mark, is_mark}
use Rattle.pp_model.specs.Config.{is_own, item, local_ops, of_other, own, shared_item, shared_ops}
use Rattle.pp_model.specs.Config.{tx, without_local, without_shared}
use Rattle.pp_model.specs.Lists.{Before, Each, In}
use Rattle.pp_model.specs.Names.{◌=ⁿ◌}
use Rattle.pp_model.specs.Rules.{FirstFalse, criteria, there}
use Rattle.pp_model.specs.Sound.{Sound}
use Rattle.pp_model.proofs.Lists.{by_key, each_from, from_filter, in_left, in_right}
use Rattle.pp_model.proofs.Logs.{found, found_mark, found_other, found_tx, is_mark-true}
use Rattle.pp_model.proofs.Names.{eq-names, names_not}
use Rattle.pp_model.proofs.Finding.{find_nowhere, place_found, placed}
use Rattle.pp_kind.specs.Object.{Object, AllowedFrom, IsAllowed, IsLawful, IsLegal, IsRefutedBy}
use Rattle.pp_kind.specs.Object.{Swaps, SwapsIn, rules_of}
use Rattle.pp_kind.proofs.Lists.{allowed-append, keeps_shape}
use Rattle.pp_kind.proofs.Fitting.{fits_in}
use Rattle.pp_machine.specs.Evidence.{Fits, entries_before, entries_behind, evidences}
use Rattle.pp_machine.specs.Evidence.{first_differing, first_entry, first_swap, at_number}
use Rattle.pp_machine.specs.Evidence.{gives_behind, if_there, is_same, swap_or}
use Rattle.pp_machine.specs.Finding.{AreDistinct}
use Rattle.pp_machine.specs.Shown.{EvidenceLaw, HoldsAtNumber, TellsOther, TellsRefuted, facts}
use Rattle.pp_machine.specs.Shown.{if_there as facts_there}
use Rattle.pp_machine.specs.Standing.{StandsCommitted}
use Rattle.pp_machine.specs.Stepping.{IsAsked}
use Rattle.pp_machine.specs.declared.detail.Detail.{Detail}
use Rattle.pp_machine.specs.declared.detail.Detail.TheVariants.{Nothing, Entry, Gives}
use Rattle.pp_machine.proofs.Cuts.{before_dropped, before_found, before_here, before_taken}
use Rattle.pp_machine.proofs.Cuts.{behind_here, dropped_before, here_before}
use Rattle.pp_machine.proofs.Cuts.{here_behind, in_dropped, in_taken}
use Rattle.pp_machine.proofs.Cuts.{taken_before}
use Rattle.pp_machine.proofs.Fitting.{local_fits, marked_fits, shared_fits}
use Rattle.pp_machine.proofs.Opened.{is_there}
use Rattle.pp_machine.proofs.Showing.{answers_same, same_answer, second_fails, stops, swap_shown}
use Rattle.pp_machine.proofs.Refuting.{refutes}
use Rattle.pp_machine.proofs.Testing.{all_pushed, all_stand, fallen, not_all_pushed, not_all_stand}
use Rattle.pp_machine.proofs.Testing.{stands}

-- The position of the entry of an id, by the position at which the evidence begins.
module _ {Op : Type 0} (l : List (LocalEntry Op)) (d : AreDistinct l) (e : LocalEntry Op) (id : ℕ) (i : In e l) (is : e.id ≡ id) where
  abbrev place : ℕ
  place = position_or_len (λ z. z.id == id) l

  at_place : slice_get l place ≡ Some e
  at_place = sym (find_at (λ z. z.id == id) l) ∙ go (find (λ z. z.id == id) l) refl
    where
      go : (r : Option (LocalEntry Op)) → find (λ z. z.id == id) l ≡ r → r ≡ Some e
      go None h = let z : true ≡ false = sym (eq-eqb e.id id is) ∙ find_nowhere (λ z. z.id == id) l h e i in absurd (cc)
      go (Some y) h =
          let q = found (λ z. z.id == id) l y h in
          ap (λ (z : LocalEntry Op). Some z) (by_key (λ (z : LocalEntry Op). z.id) l d y e q.0 i (eqb-true y.id id q.1 ∙ sym is))

  -- An entry among those before the id of e is before e.
  pub before_in : (a : LocalEntry Op) → In a (entries_before id l) → Before a e l
  before_in a j = before_here l place e a at_place j

  -- An entry before e is among the entries before its id.
  pub in_before : (a : LocalEntry Op) → Before a e l → In a (entries_before id l)
  in_before a b = here_before (λ (z : LocalEntry Op). z.id) l d place e a at_place b

  -- An entry among those after the id of e is after e.
  pub behind_in : (b : LocalEntry Op) → In b (entries_behind id l) → Before e b l
  behind_in b j = here_behind l place e b at_place (subst (λ (n : ℕ). In b (drop n l)) (add-one place) j)

  -- A pair in order, whose second is before the id of e, is in order before this id.
  pub first_before : (z a : LocalEntry Op) → In a (entries_before id l) → Before z a l → Before z a (entries_before id l)
  first_before z a j b = taken_before (λ (z : LocalEntry Op). z.id) l d place z a j b

  -- The entries before the id of e are distinct.
  pub distinct_before : AreDistinct (entries_before id l)
  distinct_before p q b = d p q (before_taken place p q l b)

  -- A pair in order after e is in order among the entries after its id.
  pub first_behind : (z b : LocalEntry Op) → Before e z l → Before z b l → Before z b (entries_behind id l)
  first_behind z b j k = subst (λ (n : ℕ). Before z b (drop n l)) (sym (add-one place)) (dropped_before (λ (z : LocalEntry Op). z.id) l d place e z b at_place j k)

  -- The entries after the id of e are distinct.
  pub distinct_behind : AreDistinct (entries_behind id l)
  distinct_behind p q b = d p q (before_dropped (place + 1) p q l b)

  -- An entry after e is among the entries after its id.
  pub in_behind : (b : LocalEntry Op) → Before e b l → In b (entries_behind id l)
  in_behind b j = subst (λ (n : ℕ). In b (drop n l)) (sym (add-one place)) (behind_here (λ (z : LocalEntry Op). z.id) l d place e b at_place j)

module _ {Shape State Op Undo : Type 0} (o : Object Shape State Op Undo) (laws : IsLawful o) (shape : Shape) where
  -- Criterion by criterion: if the criterion is false, its evidence shows it.
  abbrev Tied : List (Type 0) → List (Detail Op) → List (Detail Op → Type 0) → Type 0
  Tied [] ds Ss = Unit {0}
  Tied (p ∷ ps) [] Ss = ⊥
  Tied (p ∷ ps) (d ∷ ds) [] = ⊥
  Tied (p ∷ ps) (d ∷ ds) (S ∷ Ss) = ((p → ⊥) → S d) × Tied ps ds Ss

  tied_at : (ps : List (Type 0)) (ds : List (Detail Op)) (Ss : List (Detail Op → Type 0)) (n : ℕ) → Tied ps ds Ss → FirstFalse ps (suc n) → HoldsAtNumber o Ss (suc n) (at_number ds (suc n))
  tied_at [] ds Ss n t h = absurd (cc)
  tied_at (p ∷ ps) [] Ss n t h = elim t [ ]
  tied_at (p ∷ ps) (d ∷ ds) [] n t h = elim t [ ]
  tied_at (p ∷ ps) (d ∷ ds) (S ∷ Ss) zero t h = t.0 h
  tied_at (p ∷ ps) (d ∷ ds) (S ∷ Ss) (suc n) t h = tied_at ps ds Ss n t.1 h.1

  tied_there : {A : Type 0} (q : Option A) (f : A → List (Type 0)) (g : A → List (Detail Op)) (k : A → List (Detail Op → Type 0)) → ((x : A) → q ≡ Some x → Tied (f x) (g x) (k x)) → Tied (there q f) (if_there q g) (facts_there o q k)
  tied_there None f g k h = ((λ n. refl), tt)
  tied_there (Some x) f g k h = ((λ n. refl), h x refl)

  -- An operation that does not go after an allowed list has another result there.
  pub other : (id : ℕ) (l : List Op) (op : Op) → IsAllowed o shape l → IsTrue (o.fits shape op) → (IsAllowed o shape (l ++ op ∷ []) → ⊥) → TellsOther o shape l id op (gives_behind o shape id l op)
  other id l op h f n =
      let e = keeps_shape o laws.next_shape (o.start shape) l h ∙ laws.start_shape shape in
      (h, (λ g. n (allowed-append o (o.start shape) l (op ∷ []) h ((subst (λ (z : Shape). IsTrue (o.fits z op)) (sym e) f, g), tt))), refl)

  -- The first entry that differs after a legal entry is also the first one with the legal entry before.
  behind_legal : {E : Type 0} (item_of : E → Item Op) (s : State) (y : E) (l : List E) (id : ℕ) (answer : Answer) → IsLegal o s (item_of y).op → DiffersFrom o item_of (o.next s (item_of y).op) l id answer → DiffersFrom o item_of s (y ∷ l) id answer
  behind_legal {E} item_of s y l id answer h d =
      record {
        before = y ∷ d.before;
        entry = d.entry;
        after = d.after;
        is = ap (λ (z : List E). y ∷ z) d.is;
        id_is = d.id_is;
        allowed = (h, d.allowed);
        gives = d.gives;
        differs = d.differs;
      }

  -- In a list that is not allowed there is a first entry that differs, and the evidence reports it.
  abbrev pub FirstOther : {E : Type 0} → (E → Item Op) → State → List E → Detail Op → Type 0
  FirstOther item_of s l detail = (id : ℕ) × (answer : Answer) × DiffersFrom o item_of s l id answer × (detail ≡ Gives id answer)

  -- In a list that is not allowed there is a first entry that differs, and it is the evidence.
  pub differing : {E : Type 0} (item_of : E → Item Op) (s : State) (l : List E) → o.shape s ≡ shape → ((e : E) → In e l → IsTrue (o.fits shape (item_of e).op)) → (AllowedFrom o s (entry_ops item_of l) → ⊥) → FirstOther item_of s l (first_differing o item_of s l)
  differing item_of s [] e f n = absurd (n tt)
  differing {E} item_of s (y ∷ l) e f n = go (is_same (o.gives s (item_of y).op) (o.recorded (item_of y).op)) refl
      (λ legal. differing item_of (o.next s (item_of y).op) l (laws.next_shape s (item_of y).op legal ∙ e) (λ z i. f z (inr i)) (λ h. n (legal, h)))
    where
      legal_if : is_same (o.gives s (item_of y).op) (o.recorded (item_of y).op) ≡ true → IsLegal o s (item_of y).op
      legal_if h = (subst (λ (z : Shape). IsTrue (o.fits z (item_of y).op)) (sym e) (f y (inl refl)), answers_same (o.gives s (item_of y).op) (o.recorded (item_of y).op) h)

      go : (b : Bool) → is_same (o.gives s (item_of y).op) (o.recorded (item_of y).op) ≡ b → (IsLegal o s (item_of y).op → FirstOther item_of (o.next s (item_of y).op) l (first_differing o item_of (o.next s (item_of y).op) l))
          → FirstOther item_of s (y ∷ l) (cond b (first_differing o item_of (o.next s (item_of y).op) l) (Gives (item_of y).id (o.gives s (item_of y).op)))
      go true h more = let r = more (legal_if h) in (r.0, r.1, behind_legal item_of s y l r.0 r.1 (legal_if h) r.2, r.3)
      go false h more = (
        (item_of y).id,
        o.gives s (item_of y).op,
        record { before = []; entry = y; after = l; is = refl; id_is = refl; allowed = tt; gives = refl; differs = λ k. let z : true ≡ false = sym (same_answer (o.gives s (item_of y).op) (o.recorded (item_of y).op) k) ∙ h in cc },
        refl,
      )

  -- If not all pairs swap, the first that does not is refuted.
  module _ {E : Type 0} (id_of : E → ℕ) (a b : E → Op) (passes : E → Bool) where
    abbrev FirstRefuted : List E → Type 0
    FirstRefuted l =
        (e : E) × In e l × (passes e ≡ true) × ((z : E) → Before z e l → passes z ≡ true → Swaps o (a z) (b z))
        × TellsRefuted o (id_of e) (a e) (b e) (first_swap id_of (λ z. o.refuting (a z) (b z)) (filter passes l))

    swaps_if : (z : E) → stops passes (λ z. o.refuting (a z) (b z)) z ≡ false → passes z ≡ true → Swaps o (a z) (b z)
    swaps_if z h p = (laws.unrefuted (a z) (b z)).0 (is_none_of (o.refuting (a z) (b z)) (second_fails (passes z) (is_some (o.refuting (a z) (b z))) h p))

    refuted_first : (l : List E) → ((p q : E) → Before p q l → id_of p ≡ id_of q → ⊥) → (((e : E) → In e l → passes e ≡ true → SwapsIn o shape (a e) (b e)) → ⊥) → FirstRefuted l
    refuted_first l d n = go (find (stops passes (λ z. o.refuting (a z) (b z))) l) refl
      where
        go : (r : Option E) → find (stops passes (λ z. o.refuting (a z) (b z))) l ≡ r → FirstRefuted l
        go None h =
            absurd (n (λ y i p. swaps_if y (find_nowhere (stops passes (λ z. o.refuting (a z) (b z))) l h y i) p shape))
        go (Some y) h =
            let q = found (stops passes (λ z. o.refuting (a z) (b z))) l y h in
            let t = and_parts (passes y) (is_some (o.refuting (a y) (b y))) q.1 in
            let r = is_there (o.refuting (a y) (b y)) t.1 in (
              y,
              q.0,
              t.0,
              (λ z w p. swaps_if z (before_found id_of (stops passes (λ z. o.refuting (a z) (b z))) l d y z h w) p),
              (
                (r.0).0,
                (r.0).1,
                subst (IsRefutedBy o (a y) (b y)) r.1 (laws.refuted (a y) (b y)),
                sym (swap_shown passes (λ z. o.refuting (a z) (b z)) id_of l y h) ∙ ap (λ (z : Option (List Op × List Op)). swap_or (id_of y) z Nothing) r.1,
              ),
            )

    -- the lists that refute a pair of the objects have operations of the objects
    lists_fit : (e : E) → IsTrue (o.fits shape (a e)) → IsTrue (o.fits shape (b e)) → (rest : Detail Op) → Fits o shape rest → Fits o shape (swap_or (id_of e) (o.refuting (a e) (b e)) rest)
    lists_fit e f g rest k = go (o.refuting (a e) (b e)) (laws.refuted (a e) (b e))
      where
        go : (q : Option (List Op × List Op)) → IsRefutedBy o (a e) (b e) q → Fits o shape (swap_or (id_of e) q rest)
        go None h = k
        go (Some lists) h =
            let all = fits_in o laws shape (lists.0 ++ (a e ∷ b e ∷ lists.1)) (h.allowed shape f g) in (
              each_from (λ op. IsTrue (o.fits shape op)) lists.0 (λ op i. all op (in_left op lists.0 (a e ∷ b e ∷ lists.1) i)),
              each_from (λ op. IsTrue (o.fits shape op)) lists.1 (λ op i. all op (in_right op lists.0 (a e ∷ b e ∷ lists.1) (inr (inr i)))),
            )

    swap_fits : (l : List E) → ((e : E) → In e l → IsTrue (o.fits shape (a e)) × IsTrue (o.fits shape (b e))) → Fits o shape (first_swap id_of (λ z. o.refuting (a z) (b z)) l)
    swap_fits [] f = tt
    swap_fits (e ∷ l) f = lists_fit e (f e (inl refl)).0 (f e (inl refl)).1 (first_swap id_of (λ z. o.refuting (a z) (b z)) l) (swap_fits l (λ z i. f z (inr i)))

  -- The first entry that differs, as evidence, speaks of operations of the objects.
  pub differing_fits : {E : Type 0} (item_of : E → Item Op) (s : State) (l : List E) → Fits o shape (first_differing o item_of s l)
  differing_fits item_of s [] = tt
  differing_fits {E} item_of s (y ∷ l) = go (is_same (o.gives s (item_of y).op) (o.recorded (item_of y).op)) (differing_fits item_of (o.next s (item_of y).op) l)
    where
      go : (b : Bool) → Fits o shape (first_differing o item_of (o.next s (item_of y).op) l) → Fits o shape (cond b (first_differing o item_of (o.next s (item_of y).op) l) (Gives (item_of y).id (o.gives s (item_of y).op)))
      go true k = k
      go false k = tt

  entry_fits : (l : List (LocalEntry Op)) → Fits o shape (first_entry l)
  entry_fits [] = tt
  entry_fits (e ∷ l) = tt

  number_fits : (ds : List (Detail Op)) (n : ℕ) → Each (Fits o shape) ds → Fits o shape (at_number ds n)
  number_fits [] n k = tt
  number_fits (d ∷ ds) zero k = tt
  number_fits (d ∷ ds) (suc zero) k = k.0
  number_fits (d ∷ ds) (suc (suc n)) k = number_fits ds (suc n) k.1

  there_fits : {A : Type 0} (q : Option A) (f : A → List (Detail Op)) → ((x : A) → q ≡ Some x → Each (Fits o shape) (f x)) → Each (Fits o shape) (if_there q f)
  there_fits None f k = (tt, tt)
  there_fits (Some x) f k = (tt, k x refl)

  module _ (c : Config Op) (s : Sound (rules_of o shape) c) where
    all_fit : (step : Step Op) → Each (Fits o shape) (evidences o shape c step)
    all_fit (Begin t p b) = (tt, (tt, tt))
    all_fit (App t id op) = there_fits (tx t c.opened) _ (λ x h. (tt, (tt, (tt, tt))))
    all_fit (Unapp t id) = there_fits (tx t c.opened) _ (λ x h. (tt, tt))
    all_fit (Push t id) = there_fits (tx t c.opened) _ (λ x h. there_fits (at_mark id Unpushed x.local) _ (λ e k. (
      swap_fits (λ a. a.id) (λ a. e.op) (λ a. a.op) (λ a. true) (filter (λ a. is_mark a.mark Unpushed) (entries_before id x.local))
          (λ a i. (marked_fits o laws shape c s t x h id Unpushed e k, local_fits o laws shape c s t x h a (in_taken (position_or_len (λ z. z.id == id) x.local) a x.local (from_filter (λ a. is_mark a.mark Unpushed) a (entries_before id x.local) i).0))),
      (
        swap_fits (λ u. u.id) (λ u. u.op) (λ u. e.op) (λ u. true) (filter (λ u. not u.committed && not (u.owner =ⁿ t)) c.shared)
            (λ u i. (shared_fits o laws shape c s u (from_filter (λ u. not u.committed && not (u.owner =ⁿ t)) u c.shared i).0, marked_fits o laws shape c s t x h id Unpushed e k)),
        (tt, tt),
      ),
    )))
    all_fit (Unpush t id) = there_fits (tx t c.opened) _ (λ x h. there_fits (at_mark id Pushed x.local) _ (λ e k. (
      swap_fits (λ b. b.id) (λ b. b.op) (λ b. e.op) (λ b. true) (filter (λ b. is_mark b.mark Pushed) (entries_behind id x.local))
          (λ b i. (local_fits o laws shape c s t x h b (in_dropped (position_or_len (λ z. z.id == id) x.local + 1) b x.local (from_filter (λ b. is_mark b.mark Pushed) b (entries_behind id x.local) i).0), marked_fits o laws shape c s t x h id Pushed e k)),
      (differing_fits shared_item (o.start shape) (without_shared id c.shared), tt),
    )))
    all_fit (Pull t id) = there_fits (tx t c.opened) _ (λ x h. there_fits (of_other t id c.shared) _ (λ g k. (
      tt,
      (
        tt,
        (
          swap_fits (λ a. a.id) (λ a. a.op) (λ a. g.op) (λ a. true) (own x.local)
              (λ a i. (local_fits o laws shape c s t x h a (from_filter (λ a. is_own a.mark) a x.local i).0, shared_fits o laws shape c s g (found_other t id c.shared g k).0)),
          tt,
        ),
      ),
    )))
    all_fit (Unpull t id) = there_fits (tx t c.opened) _ (λ x h. there_fits (at_mark id Pulled x.local) _ (λ e k. (differing_fits item (o.start shape) (without_local id x.local), tt)))
    all_fit (Cmt t) = there_fits (tx t c.opened) _ (λ x h. (tt, (entry_fits _, (entry_fits _, tt))))
    all_fit (Quit t) = there_fits (tx t c.opened) _ (λ x h. (entry_fits x.local, tt))
    all_fit (Note t) = there_fits (tx t c.opened) _ (λ x h. tt)

    -- CMT 3, CMT 4 and QUIT 2
    abbrev FirstUnpushed : List (LocalEntry Op) → Detail Op → Type 0
    FirstUnpushed l detail =
        (e : LocalEntry Op) × In e l × (e.mark ≡ Unpushed) × ((z : LocalEntry Op) → Before z e l → z.mark ≡ Unpushed → ⊥) × (detail ≡ Entry e.id)

    unpushed_told : (l : List (LocalEntry Op)) → AreDistinct l → (((e : LocalEntry Op) → In e l → is_own e.mark ≡ true → e.mark ≡ Pushed) → ⊥) → FirstUnpushed l (first_entry (filter (λ z. is_mark z.mark Unpushed) l))
    unpushed_told l d n = go (position (λ z. is_mark z.mark Unpushed) l) refl
      where
        go : (r : Option ℕ) → position (λ z. is_mark z.mark Unpushed) l ≡ r → FirstUnpushed l (first_entry (filter (λ z. is_mark z.mark Unpushed) l))
        go None h = absurd (n (all_pushed l l refl h))
        go (Some k) h =
            let r = placed (λ z. is_mark z.mark Unpushed) l k h in
            let q = not_all_pushed l l refl k r.0 h r.1 in (
              r.0,
              q.0,
              is_mark-true (r.0).mark Unpushed r.2,
              (λ z b m.
                  let f = before_found (λ z. z.id) (λ z. is_mark z.mark Unpushed) l d r.0 z (place_found (λ z. is_mark z.mark Unpushed) l k r.0 h r.1) b in
                  let w : true ≡ false = sym (ap (λ (w : Mark). is_mark w Unpushed) m) ∙ f in cc),
              sym q.3,
            )

    abbrev FirstFallen : List (LocalEntry Op) → Detail Op → Type 0
    FirstFallen l detail =
        (e : LocalEntry Op) × In e l × (e.mark ≡ Pulled) × (StandsCommitted e.id c.shared → ⊥) × ((z : LocalEntry Op) → Before z e l → z.mark ≡ Pulled → StandsCommitted z.id c.shared) × (detail ≡ Entry e.id)

    fallen_told : (l : List (LocalEntry Op)) → AreDistinct l → (((e : LocalEntry Op) → In e l → e.mark ≡ Pulled → StandsCommitted e.id c.shared) → ⊥) → FirstFallen l (first_entry (filter (fallen c.shared) l))
    fallen_told l d n = go (position (fallen c.shared) l) refl
      where
        go : (r : Option ℕ) → position (fallen c.shared) l ≡ r → FirstFallen l (first_entry (filter (fallen c.shared) l))
        go None h = absurd (n (all_stand l l c.shared refl h))
        go (Some k) h =
            let r = placed (fallen c.shared) l k h in
            let q = not_all_stand l l c.shared refl s.shared_ids k r.0 h r.1 in
            (r.0, q.0, q.1, q.2, (λ z b m. stands c.shared z (before_found (λ z. z.id) (fallen c.shared) l d r.0 z (place_found (fallen c.shared) l k r.0 h r.1) b) m), sym q.3)

    first_told : (l : List (LocalEntry Op)) → (l ≡ [] → ⊥) → (e : LocalEntry Op) × (rest : List (LocalEntry Op)) × (l ≡ e ∷ rest) × (first_entry l ≡ Entry e.id)
    first_told [] n = absurd (n refl)
    first_told (e ∷ l) n = (e, l, refl, refl)

    all_tied : (step : Step Op) → IsAsked o shape step → Tied (criteria (rules_of o shape) c step) (evidences o shape c step) (facts o shape c step)
    all_tied (Begin t p b) a = ((λ n. refl), ((λ n. refl), tt))
    all_tied (App t id op) a = tied_there (tx t c.opened) _ _ _ (λ x h. (
      (λ n. refl),
      ((λ n. refl), ((λ n. other id (local_ops x.local) op (s.local_allowed x (found_tx t c.opened x h).0) a.0 n), tt)),
    ))
    all_tied (Unapp t id) a = tied_there (tx t c.opened) _ _ _ (λ x h. ((λ n. refl), tt))
    all_tied (Push t id) a = tied_there (tx t c.opened) _ _ _ (λ x h. tied_there (at_mark id Unpushed x.local) _ _ _ (λ e k.
        let m = found_mark id Unpushed x.local e k in
        let d = s.local_ids x (found_tx t c.opened x h).0 in (
          (λ n.
              let r = refuted_first (λ z. z.id) (λ z. e.op) (λ z. z.op) (λ z. is_mark z.mark Unpushed) (entries_before id x.local) (distinct_before x.local d e id m.0 m.1) (λ all. n (λ y b q. all y (in_before x.local d e id m.0 m.1 y b) (ap (λ (w : Mark). is_mark w Unpushed) q))) in
              (r.0, before_in x.local d e id m.0 m.1 r.0 r.1, is_mark-true (r.0).mark Unpushed r.2, (λ z b q. r.3 z (first_before x.local d e id m.0 m.1 z r.0 r.1 b) (ap (λ (w : Mark). is_mark w Unpushed) q)), r.4)),
          (
            (λ n.
                let r = refuted_first (λ z. z.id) (λ z. z.op) (λ z. e.op) (λ z. not z.committed && not (z.owner =ⁿ t)) c.shared s.shared_ids (λ all. n (λ u i w q. all u i (is_others t u w q))) in
                let b = and_parts (not (r.0).committed) (not ((r.0).owner =ⁿ t)) r.2 in
                (r.0, r.1, not-true (r.0).committed b.0, (λ same. let z : not true ≡ true = sym (ap not (eq-names (r.0).owner t same)) ∙ b.1 in cc), (λ z k w q. r.3 z k (is_others t z w q)), r.4)),
            ((λ n. other id (shared_ops c.shared) e.op s.shared_allowed (marked_fits o laws shape c s t x h id Unpushed e k) n), tt),
          ),
        )))
      where
        is_others : (t : _) (u : SharedEntry Op) → u.committed ≡ false → (u.owner ≡ t → ⊥) → (not u.committed && not (u.owner =ⁿ t)) ≡ true
        is_others t u w q = ap (λ (b : Bool). not b && not (u.owner =ⁿ t)) w ∙ names_not u.owner t q
    all_tied (Unpush t id) a = tied_there (tx t c.opened) _ _ _ (λ x h. tied_there (at_mark id Pushed x.local) _ _ _ (λ e k.
        let m = found_mark id Pushed x.local e k in
        let d = s.local_ids x (found_tx t c.opened x h).0 in (
          (λ n.
              let r = refuted_first (λ z. z.id) (λ z. z.op) (λ z. e.op) (λ z. is_mark z.mark Pushed) (entries_behind id x.local) (distinct_behind x.local d e id m.0 m.1) (λ all. n (λ y b q. all y (in_behind x.local d e id m.0 m.1 y b) (ap (λ (w : Mark). is_mark w Pushed) q))) in
              (r.0, behind_in x.local d e id m.0 m.1 r.0 r.1, is_mark-true (r.0).mark Pushed r.2, (λ z j k q. r.3 z (first_behind x.local d e id m.0 m.1 z r.0 j k) (ap (λ (w : Mark). is_mark w Pushed) q)), r.4)),
          ((λ n. differing shared_item (o.start shape) (without_shared id c.shared) (laws.start_shape shape) (λ u i. shared_fits o laws shape c s u (from_filter (λ u. not (u.id == id)) u c.shared i).0) n), tt),
        )))
    all_tied (Pull t id) a = tied_there (tx t c.opened) _ _ _ (λ x h. tied_there (of_other t id c.shared) _ _ _ (λ g k. (
      (λ n. refl),
      (
        (λ n. other id (local_ops x.local) g.op (s.local_allowed x (found_tx t c.opened x h).0) (shared_fits o laws shape c s g (found_other t id c.shared g k).0) n),
        ((λ n. refuted_first (λ z. z.id) (λ z. z.op) (λ z. g.op) (λ z. is_own z.mark) x.local (s.local_ids x (found_tx t c.opened x h).0) n), tt),
      ),
    )))
    all_tied (Unpull t id) a = tied_there (tx t c.opened) _ _ _ (λ x h. tied_there (at_mark id Pulled x.local) _ _ _ (λ e k. (
      (λ n. differing item (o.start shape) (without_local id x.local) (laws.start_shape shape) (λ u i. local_fits o laws shape c s t x h u (from_filter (λ u. not (u.id == id)) u x.local i).0) n),
      tt,
    )))
    all_tied (Cmt t) a = tied_there (tx t c.opened) _ _ _ (λ x h. ((λ n. refl), ((λ n. unpushed_told x.local (s.local_ids x (found_tx t c.opened x h).0) n), ((λ n. fallen_told x.local (s.local_ids x (found_tx t c.opened x h).0) n), tt))))
    all_tied (Quit t) a = tied_there (tx t c.opened) _ _ _ (λ x h. ((λ n. first_told x.local n), tt))
    all_tied (Note t) a = tied_there (tx t c.opened) _ _ _ (λ x h. tt)

  -- The evidence of a step shows its first false criterion, with operations of the objects.
  pub evidence_law : EvidenceLaw o shape
  evidence_law = record {
    shows = λ c step n s a h. tied_at (criteria (rules_of o shape) c step) (evidences o shape c step) (facts o shape c step) n (all_tied c s step a) h;
    refutes = refutes o laws shape;
    fits = λ c step n s. number_fits (evidences o shape c step) n (all_fit c s step);
  }
