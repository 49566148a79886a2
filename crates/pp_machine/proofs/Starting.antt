-- The results of the parts of the start of a machine, and what shows that a criterion of the start is false.
use Rattle.std.proofs.Common.{◌≡◌, ◌==◌, ◌<◌, ℕ, zero, suc, ◌+◌, Bool, true, false, cond, List}
use Rattle.std.proofs.Common.{[], ◌∷◌, ◌++◌, map, take, drop, length, get_or, reverse, position}
use Rattle.std.proofs.Common.{None, Some, Result, Ok, Err, IsTrue, refl, sym, ap, subst, ◌∙◌}
use Rattle.std.proofs.Common.{◌⊎◌, append_assoc, arith, inl, inr}
use Rattle.std.specs.List.{All, list_any}
use Rattle.std.proofs.lemmas.Bool.{eqb-true, eq-eqb, false_from_ne_true}
use Rattle.std.proofs.lemmas.List.{append-nil, drop_more}
use Rattle.std.proofs.lemmas.List.{map-append, take_more}
use Rattle.std.proofs.lemmas.List.Elements.{All-get_or}
use Rattle.std.proofs.lemmas.Option.{get_or_from_slice_get}
use Rattle.pp_core.specs.declared.answer.Answer.{Answer}
use Rattle.pp_core.specs.declared.entry.Item.{Item}
use Rattle.pp_core.specs.declared.entry.SharedEntry.{SharedEntry}
use Rattle.pp_log.specs.Logs.{GoesBehind, answer_behind}
use Rattle.pp_log.proofs.Lists.{cut_there, in_at}
use Rattle.pp_model.specs.Config.{Start, as_shared, shared_ops}
use Rattle.pp_model.specs.Lists.{Before, In}
use Rattle.pp_model.specs.Names.{Name}
use Rattle.pp_model.specs.Object.{HasDistinctIds, ops}
use Rattle.pp_model.specs.Rules.{StartBreaks, start_criteria}
use Rattle.pp_model.proofs.Lists.{before_across, before_cases, before_right, from_map}
use Rattle.pp_model.proofs.Finding.{any_in, none_in, reverse_more, nowhere}
use Rattle.pp_kind.specs.Object.{Object, IsAllowed, IsLawful, rules_of}
use Rattle.pp_machine.specs.Evidence.{Fits}
use Rattle.pp_machine.specs.Machines.{Seen}
use Rattle.pp_machine.specs.Shown.{FailsAt, HoldsAtNumber, TellsFirstOther}
use Rattle.pp_machine.specs.Starting.{JudgesStart, Posts, RefusesStart, posted}
use Rattle.pp_machine.specs.StartAnswers.{IsAskedItem, IsStartShown, StartEvidenceLaw, StartFits}
use Rattle.pp_machine.specs.StartAnswers.{Started, TellsFirstRepeated, start_facts}
use Rattle.pp_machine.specs.Starts.{first_repeated, has_id, start_evidence}
use Rattle.pp_machine.specs.declared.detail.Detail.{Detail}
use Rattle.pp_machine.specs.declared.detail.Detail.TheVariants.{Nothing, Entry, Gives}
use Rattle.pp_machine.specs.declared.detail.Refusal.{Refusal}
use Rattle.pp_machine.specs.declared.machine.Outcome.{Outcome}
use Rattle.pp_machine.specs.declared.machine.Outcome.TheVariants.{Done, False}
use Rattle.pp_machine.proofs.Opened.{used_in}
use Rattle.pp_machine.proofs.Removing.{differs_not}
use Rattle.pp_machine.proofs.Showing.{differing_shown}
use Rattle.pp_machine.proofs.Telling.{differing, differing_fits, other}

-- Ids that occur twice.
module _ {Op : Type 0} where
  not_there : (p : Item Op) (l : List (Item Op)) → has_id p.id l ≡ false → (q : Item Op) → In q l → q.id ≡ p.id → ⊥
  not_there p l h q i e =
      let k = none_in (λ (z : Item Op). z.id == p.id) l h q i in
      let z : true ≡ false = sym (eq-eqb q.id p.id e) ∙ k in cc

  only : (p b : Item Op) → In b (p ∷ []) → b ≡ p
  only p b (inl e) = e
  only p b (inr i) = elim i [ ]

  distinct_more : (l : List (Item Op)) (p : Item Op) → HasDistinctIds l → ((q : Item Op) → In q l → q.id ≡ p.id → ⊥) → HasDistinctIds (l ++ p ∷ [])
  distinct_more l p d n a b h e = elim (before_cases a b l (p ∷ []) h) [
    | inl i ↦ d a b i e
    | inr (inl (inl i)) ↦ absurd i.1
    | inr (inl (inr i)) ↦ absurd i
    | inr (inr i) ↦ n a i.0 (e ∙ ap (λ (z : Item Op). z.id) (only p b i.1))
  ]

  -- Either the ids are distinct and nothing is reported, or the first item whose id occurs before it is reported.
  abbrev Either : List (Item Op) → Detail Op → Type 0
  Either items told = (HasDistinctIds items × (told ≡ Nothing)) ⊎ ((id : ℕ) × (told ≡ Entry id) × TellsFirstRepeated items told)

  repeated : (before items : List (Item Op)) → HasDistinctIds before → Either (before ++ items) (first_repeated before items)
  repeated before [] d = inl (subst (λ (w : List (Item Op)). HasDistinctIds w) (sym (append-nil before)) d, refl)
  repeated before (p ∷ ps) d = go (has_id p.id before) refl (λ n. repeated (before ++ p ∷ []) ps (distinct_more before p d n))
    where
      go : (b : Bool) → has_id p.id before ≡ b → (((q : Item Op) → In q before → q.id ≡ p.id → ⊥) → Either ((before ++ p ∷ []) ++ ps) (first_repeated (before ++ p ∷ []) ps))
          → Either (before ++ p ∷ ps) (cond b (Entry p.id) (first_repeated (before ++ p ∷ []) ps))
      go true h more =
          let r = any_in (λ (q : Item Op). q.id == p.id) before h in
          inr (p.id, refl, (before, p, ps, refl, d, r.0, r.1, eqb-true (r.0).id p.id r.2, refl))
      go false h more = subst (λ (w : List (Item Op)). Either w (first_repeated (before ++ p ∷ []) ps)) (append_assoc before (p ∷ []) ps) (more (not_there p before h))

  none_before : HasDistinctIds {Op = Op} []
  none_before p q i e = i

  repeats : (items : List (Item Op)) (detail : Detail Op) → TellsFirstRepeated items detail → HasDistinctIds items → ⊥
  repeats items detail t d =
      let b = before_across t.5 t.1 t.0 (t.1 ∷ t.2) t.6 (inl refl) in
      d t.5 t.1 (subst (λ (w : List (Item Op)). Before t.5 t.1 w) (sym t.3) b) t.7

  -- If the walk over the items finds no repeated id, the ids are distinct.
  pub told_distinct : (items : List (Item Op)) → Nothing ≡ first_repeated [] items → HasDistinctIds items
  told_distinct items e = elim (repeated [] items none_before) [ inl r ↦ r.0 | inr r ↦ absurd (let z : Nothing ≡ Entry r.0 = e ∙ r.1 in cc) ]

  told_repeated : (items : List (Item Op)) (id : ℕ) → Entry id ≡ first_repeated [] items → HasDistinctIds items → ⊥
  told_repeated items id e d = elim (repeated [] items none_before) [
    | inl r ↦ let z : Entry id ≡ Nothing = e ∙ r.1 in cc
    | inr r ↦ repeats items (first_repeated [] items) r.2 d
  ]

  first_told : (items : List (Item Op)) → (HasDistinctIds items → ⊥) → TellsFirstRepeated items (first_repeated [] items)
  first_told items n = elim (repeated [] items none_before) [ inl r ↦ absurd (n r.0) | inr r ↦ r.2 ]

-- the item at a place of the walk
module _ {Op : Type 0} (items : List (Item Op)) (k : ℕ) where
  -- The evidence that the walk reports from this position on.
  abbrev pub told_from : Detail Op
  told_from = first_repeated (take k items) (drop k items)

module _ {Op : Type 0} (items : List (Item Op)) (k : ℕ) (p : Item Op) (lt : k < length items) (is : p ≡ get_or items k p) where
  taken : take (k + 1) items ≡ take k items ++ p ∷ []
  taken = take_more items k p lt ∙ ap (λ (z : Item Op). take k items ++ z ∷ []) (sym is)

  left : drop k items ≡ p ∷ drop (k + 1) items
  left = drop_more items k p lt ∙ ap (λ (z : Item Op). z ∷ drop (k + 1) items) (sym is)

  here : told_from items k ≡ cond (has_id p.id (take k items)) (Entry p.id) (told_from items (k + 1))
  here =
      ap (λ (z : List (Item Op)). first_repeated (take k items) z) left
      ∙ ap (λ (z : List (Item Op)). cond (has_id p.id (take k items)) (Entry p.id) (first_repeated z (drop (k + 1) items))) (sym taken)

  earlier : (q : Item Op) → In q (take k items) → Before q p items
  earlier q i = subst (λ (w : List (Item Op)). Before q p w) (sym (cut_there items k p lt is)) (before_across q p (take k items) (p ∷ drop (k + 1) items) i (inl refl))

  later : (q : Item Op) → In q (drop (k + 1) items) → Before p q items
  later q i = subst (λ (w : List (Item Op)). Before p q w) (sym (cut_there items k p lt is)) (before_right p q (take k items) (p ∷ drop (k + 1) items) (inl (refl, i)))

  -- The id at this position is none of those after it.
  pub differs_from_later : HasDistinctIds items → (ks : List ℕ) → reverse ks ≡ map (λ q. q.id) (drop (k + 1) items) → list_any (λ j. p.id == j) ks ≡ false
  differs_from_later d ks h = false_from_ne_true (list_any (λ j. p.id == j) ks) (λ t.
      let m = from_map (λ (q : Item Op). q.id) p.id (drop (k + 1) items) (subst (λ (w : List ℕ). In p.id w) h (used_in ks p.id (sym t))) in
      d p m.0 (later m.0 m.1) m.2)

  -- the ids from this place on, of which the first is the last that is used
  pub ids_back : (ks js : List ℕ) → reverse ks ≡ map (λ q. q.id) (drop (k + 1) items) → js ≡ ks ++ p.id ∷ [] → reverse js ≡ map (λ q. q.id) (drop k items)
  ids_back ks js h i =
      ap reverse i
      ∙ reverse_more ks p.id
      ∙ ap (λ (w : List ℕ). p.id ∷ w) h
      ∙ sym (ap (λ (w : List (Item Op)). map (λ q. q.id) w) left)

posted_ops : {Op : Type 0} (tx : Name) (l : List (Item Op)) → shared_ops (posted tx l) ≡ ops l
posted_ops tx [] = refl
posted_ops {Op} tx (p ∷ l) = ap (λ (w : List Op). p.op ∷ w) (posted_ops tx l)

-- The log of the first items. It takes the next one, or reports that it differs.
module _ {Shape State Op Undo : Type 0} (o : Object Shape State Op Undo) (laws : IsLawful o) (shape : Shape) (tx : Name) (items : List (Item Op)) where
  module _ (k : ℕ) (p : Item Op) (lt : k < length items) (is : p ≡ get_or items k p) (log : Shape × List (SharedEntry Op)) (so_far : log ≡ (shape, posted tx (take k items))) where
    shape_is : log.0 ≡ shape
    shape_is = ap (λ (z : Shape × List (SharedEntry Op)). z.0) so_far

    ops_are : shared_ops log.1 ≡ ops (take k items)
    ops_are = ap (λ (z : Shape × List (SharedEntry Op)). shared_ops z.1) so_far ∙ posted_ops tx (take k items)

    asked_at : All (IsAskedItem o shape) items → IsAskedItem o shape p
    asked_at asked = subst (IsAskedItem o shape) (sym is) (All-get_or (IsAskedItem o shape) items k p lt asked)

    -- The item at a position of a start that meets the precondition is ranged.
    pub ranged_at : All (IsAskedItem o shape) items → IsTrue (o.ranged p.op)
    ranged_at asked = (asked_at asked).1

    -- If ids are distinct, the id of the next item is not in the log of those before it.
    pub new_at : HasDistinctIds items → position (λ e. e.id == p.id) log.1 ≡ None
    new_at d = nowhere (λ (e : SharedEntry Op). e.id == p.id) log.1 (λ e i.
        let m = from_map (as_shared tx false) e (take k items) (subst (λ (w : List (SharedEntry Op)). In e w) (ap (λ (z : Shape × List (SharedEntry Op)). z.1) so_far) i) in
        ap (λ (z : SharedEntry Op). z.id == p.id) m.2
        ∙ false_from_ne_true ((m.0).id == p.id) (λ t. d m.0 p (earlier items k p lt is m.0 m.1) (eqb-true (m.0).id p.id t)))

    -- With one more entry, the log is that of one more item of the start.
    pub posted_more : (new : Shape × List (SharedEntry Op)) → new ≡ (log.0, log.1 ++ as_shared tx false p ∷ []) → new ≡ (shape, posted tx (take (k + 1) items))
    posted_more new e =
        e
        ∙ ap (λ (z : Shape × List (SharedEntry Op)). (z.0, z.1 ++ as_shared tx false p ∷ [])) so_far
        ∙ ap (λ (z : List (SharedEntry Op)). (shape, z)) (sym (ap (λ (z : List (Item Op)). posted tx z) (taken items k p lt is) ∙ map-append (as_shared tx false) (take k items) (p ∷ [])))

    goes_there : GoesBehind o log.0 (shared_ops log.1) p.op → IsAllowed o shape (ops (take k items) ++ p.op ∷ [])
    goes_there h = subst (λ (z : List Op). IsAllowed o shape (z ++ p.op ∷ [])) ops_are (subst (λ (z : Shape). IsAllowed o z (shared_ops log.1 ++ p.op ∷ [])) shape_is h)

    goes_here : IsAllowed o shape (ops (take k items) ++ p.op ∷ []) → GoesBehind o log.0 (shared_ops log.1) p.op
    goes_here h = subst (λ (z : Shape). IsAllowed o z (shared_ops log.1 ++ p.op ∷ [])) (sym shape_is) (subst (λ (z : List Op). IsAllowed o shape (z ++ p.op ∷ [])) (sym ops_are) h)

    -- If the next item is allowed after the log, the first items with it are allowed.
    pub allowed_more : GoesBehind o log.0 (shared_ops log.1) p.op → IsAllowed o shape (ops (take (k + 1) items))
    allowed_more h = subst (λ (z : List Op). IsAllowed o shape z) (sym (ap (λ (z : List (Item Op)). ops z) (taken items k p lt is) ∙ map-append (λ (q : Item Op). q.op) (take k items) (p ∷ []))) (goes_there h)

    -- An item that is not allowed after the log is the first that differs, by the object's result.
    pub differs_at : All (IsAskedItem o shape) items → IsAllowed o shape (ops (take k items)) → (GoesBehind o log.0 (shared_ops log.1) p.op → ⊥) → (answer : Answer) → answer ≡ answer_behind o log.0 (shared_ops log.1) p.op
        → TellsFirstOther o (λ q. q) shape items (Gives p.id answer)
    differs_at asked allowed n answer e =
        let same : answer ≡ answer_behind o shape (ops (take k items)) p.op = e ∙ ap (λ (z : Shape). answer_behind o z (shared_ops log.1) p.op) shape_is ∙ ap (λ (z : List Op). answer_behind o shape z p.op) ops_are in
        let told = other o laws shape p.id (ops (take k items)) p.op allowed (asked_at asked).0 (λ h. n (goes_here h)) in (
          p.id,
          answer,
          record {
            before = take k items;
            entry = p;
            after = drop (k + 1) items;
            is = cut_there items k p lt is;
            id_is = refl;
            allowed = allowed;
            gives = sym same;
            differs = λ h. told.1 (sym same ∙ h);
          },
          refl,
        )

  -- judging the start
  module _ (d : HasDistinctIds items) where
    abbrev the : Start Op
    the = record { tx = tx; items = items }

    refused : (refusal : Refusal Op) → refusal.criterion ≡ 2 → TellsFirstOther o (λ q. q) shape items refusal.detail → RefusesStart o shape the refusal
    refused refusal e t =
        record {
          breaks = subst (λ (n : ℕ). StartBreaks (rules_of o shape) (Some the) n) (sym e) (d, differs_not o (λ q. q) shape items t.0 t.1 t.2);
          not_zero = subst (λ (n : ℕ). 0 < n) (sym e) (omega arith);
          is_evidence = t.3 ∙ differing_shown o (λ q. q) (o.start shape) items t.0 t.1 t.2 ∙ ap (λ (n : ℕ). start_evidence o shape the n) (sym e);
        }

    -- A start with distinct ids is judged by what becomes of its items.
    pub judged : (r : Result (Shape × List (SharedEntry Op)) (Refusal Op)) → Posts o shape tx items r → JudgesStart o shape the r
    judged (Ok log) h = ((d, (h.0, refl)), h.1)
    judged (Err refusal) h = refused refusal h.0 h.1

  -- A start with a repeated id violates criterion 1, with the id as evidence.
  pub repeated_refused : (id : ℕ) → Entry id ≡ first_repeated [] items → (refusal : Refusal Op) → refusal ≡ record { criterion = 1; detail = Entry id } → RefusesStart o shape (record { tx = tx; items = items }) refusal
  repeated_refused id e refusal is =
      subst (λ (z : Refusal Op). RefusesStart o shape (record { tx = tx; items = items }) z) (sym is)
      (record { breaks = told_repeated items id e; not_zero = omega arith; is_evidence = e })

module _ {Shape State Op Undo : Type 0} (o : Object Shape State Op Undo) (laws : IsLawful o) (shape : Shape) where
  shows : (z : Start Op) (n : ℕ) → StartFits o shape z → StartBreaks (rules_of o shape) (Some z) (suc n) → HoldsAtNumber o (start_facts o shape z) (suc n) (start_evidence o shape z (suc n))
  shows z zero f h = first_told z.items h
  shows z (suc zero) f h = differing o laws shape (λ q. q) (o.start shape) z.items (laws.start_shape shape) f h.1
  shows z (suc (suc n)) f h = absurd (let e = h.1.1 in cc)

  repeated_fits : (before items : List (Item Op)) → Fits o shape (first_repeated before items)
  repeated_fits before [] = tt
  repeated_fits before (p ∷ ps) = go (has_id p.id before) (repeated_fits (before ++ p ∷ []) ps)
    where
      go : (b : Bool) → Fits o shape (first_repeated (before ++ p ∷ []) ps) → Fits o shape (cond b (Entry p.id) (first_repeated (before ++ p ∷ []) ps))
      go true f = tt
      go false f = f

  evidence_fits : (z : Start Op) (n : ℕ) → Fits o shape (start_evidence o shape z n)
  evidence_fits z zero = tt
  evidence_fits z (suc zero) = repeated_fits [] z.items
  evidence_fits z (suc (suc zero)) = differing_fits o laws shape (λ q. q) (o.start shape) z.items
  evidence_fits z (suc (suc (suc n))) = tt

  -- The evidence of a rejected start shows its first false criterion.
  pub start_evidence_law : StartEvidenceLaw o shape
  start_evidence_law = record { shows = shows; refutes = refutes; fits = evidence_fits }
    where
      refutes : (z : Start Op) (n : ℕ) (detail : Detail Op) → HoldsAtNumber o (start_facts o shape z) (suc n) detail → FailsAt (start_criteria (rules_of o shape) (Some z)) (suc n)
      refutes z zero detail h = λ d. repeats z.items detail h d
      refutes z (suc zero) detail h = λ a. differs_not o (λ q. q) shape z.items h.0 h.1 h.2 a
      refutes z (suc (suc n)) detail h = h

  -- The items of a start that meets the precondition fit the shape.
  pub asked_fit : (z : Start Op) → All (IsAskedItem o shape) z.items → StartFits o shape z
  asked_fit z asked p i =
      let m = in_at z.items p i in
      let e = get_or_from_slice_get z.items m.0 p p m.2 in
      (subst (IsAskedItem o shape) e (All-get_or (IsAskedItem o shape) z.items m.0 p m.1 asked)).0

-- a start that is refused has done nothing
pub refused_start : {Shape State Op Undo : Type 0} (o : Object Shape State Op Undo) (old : Seen Shape Op) (z : Start Op) (refusal : Refusal Op) (out : Outcome Op) → out ≡ False refusal.criterion refusal.detail → RefusesStart o old.shape z refusal → Started o old z out old
refused_start {Shape} {State} {Op} o old z refusal out is k = subst (λ (d : Outcome Op). Started o old z d old) (sym is) (k.breaks, k.not_zero, refl, k.is_evidence)

-- The outcome of a start shows what its evidence says.
pub start_shown : {Shape State Op Undo : Type 0} (o : Object Shape State Op Undo) → IsLawful o → (old : Seen Shape Op) (z : Start Op) → All (IsAskedItem o old.shape) z.items → (new : Seen Shape Op) (outcome : Outcome Op) → Started o old z outcome new → IsStartShown o old z outcome
start_shown o laws old z asked new Done h = tt
start_shown o laws old z asked new (False zero detail) h = absurd (let e = h.1 in omega (arith, e))
start_shown {Shape} {State} {Op} o laws old z asked new (False (suc n) detail) h = (
  subst (λ (d : Detail Op). HoldsAtNumber o (start_facts o old.shape z) (suc n) d) (sym h.3) (shows o laws old.shape z n (asked_fit o laws old.shape z asked) h.0),
  subst (λ (d : Detail Op). Fits o old.shape d) (sym h.3) (evidence_fits o laws old.shape z (suc n)),
)
