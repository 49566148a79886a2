-- The effect of a record on a transaction's part on the object is the part of its effect.
use Rattle.std.specs.Prelude.{◌≡◌, ◌≢◌, ◌==◌, Bool, true, false, cond, ℕ, zero, List, [], ◌∷◌, ◌++◌, length, map, take, Option, None, Some}
use Rattle.std.proofs.Common.{refl, sym, ap, ◌∙◌}
use Rattle.std.proofs.lemmas.Bool.{eq-eqb}
use Rattle.std.proofs.lemmas.Bool.Decides.{eqb_tells}
use Rattle.std.proofs.lemmas.List.{append-nil}
use Rattle.std.proofs.lemmas.List.Elements.{filter-append}
use Rattle.std.proofs.Math.Seq.{take-length}
use mathlib.Core.Logic.{inl, inr}
use Rattle.pp_core.specs.declared.call.Style.{Style}
use Rattle.pp_model.specs.Body.{Tree}
use Rattle.pp_model.specs.Config.{CommittedTx, LocalEntry, Pushed, Unpushed, is_mark}
use Rattle.pp_model.specs.Names.{Name}
use Rattle.pp_model.specs.Object.{Item}
use Rattle.pp_laws_summary.specs.LocalLogs.{as_pushed, new_entry, serial_at}
use Rattle.pp_laws_summary.specs.Summary.{Held, OpenSummary, Summary, after_op, at_number, begun_section, ended, held_from, new_open, seen_all, seen_first, summary_mode, taken_back, touched_since, with_entry}
use Rattle.pp_laws_summary.proofs.Parts.{not_eq}
use Rattle.pp_laws_locality.proofs.Filtered.{filter_unseen, take_passed}
use Rattle.pp_laws_locality.proofs.Parts.{HeldWithin, committed_at, held_at, held_more, open_at, open_same, own_at, seen_none, seen_only, serial_same, summary_at}
use Rattle.pp_laws_locality.proofs.PartLogs.{mode_at, touched_at}

-- a new snapshot of the object
seen_set : (o n : ℕ) (seen : ℕ → ℕ) (q : ℕ) → at_number o n (seen_only o seen) q ≡ seen_only o (at_number o n seen) q
seen_set o n seen q = by (q == o)
  where
    by : (b : Bool) → cond b n (cond b (seen q) zero) ≡ cond b (cond b n (seen q)) zero
    by true = refl
    by false = refl

-- a new snapshot of another
seen_other : (o p n : ℕ) (seen : ℕ → ℕ) → p ≢ o → (q : ℕ) → seen_only o (at_number p n seen) q ≡ seen_only o seen q
seen_other o p n seen d q = elim (eqb_tells q o) [
  | inl r ↦ ap (λ (b : Bool). cond (q == o) (cond b n (seen q)) zero) (not_eq q p (λ e. d (sym e ∙ r.1)))
  | inr r ↦ ap (λ (b : Bool). cond b (at_number p n seen q) zero) r.0 ∙ sym (ap (λ (b : Bool). cond b (seen q) zero) r.0)
]

module _ {Op : Type 0} (place : Op → ℕ) (o : ℕ) where
  -- a transaction that begins
  pub new_at : (t p : Name) (b : Option Tree) → open_at place o (new_open t p b) ≡ new_open t p None
  new_at t p b = open_same t p [] [] (seen_only o (λ q. zero)) (λ q. zero) None None refl (λ q. ap (λ (s : ℕ → ℕ). s q) (seen_none o)) refl

  module _ (x : OpenSummary Op) where
    -- a new snapshot of the object
    pub all_at : (D : List (CommittedTx Op)) → seen_all place o (map (committed_at place o) D) (open_at place o x) ≡ open_at place o (seen_all place o D x)
    all_at D = open_same x.name x.thread (own_at place o x.own) (own_at place o x.own)
        (at_number o (length (serial_at place o (map (committed_at place o) D))) (seen_only o x.seen)) (seen_only o (at_number o (length (serial_at place o D)) x.seen))
        (held_at place o x.own x.held) (held_at place o x.own x.held) refl
        (λ q. ap (λ (w : List (Item Op)). at_number o (length w) (seen_only o x.seen) q) (serial_same place o D) ∙ seen_set o (length (serial_at place o D)) x.seen q) refl

    -- a new snapshot of another
    pub all_off : (p : ℕ) → p ≢ o → (D : List (CommittedTx Op)) → open_at place o (seen_all place p D x) ≡ open_at place o x
    all_off p n D = open_same x.name x.thread (own_at place o x.own) (own_at place o x.own)
        (seen_only o (at_number p (length (serial_at place p D)) x.seen)) (seen_only o x.seen)
        (held_at place o x.own x.held) (held_at place o x.own x.held) refl (seen_other o p (length (serial_at place p D)) x.seen n) refl

    first_at : (w : Option Held) (D : List (CommittedTx Op)) → seen_first place (held_at place o x.own w) o (map (committed_at place o) D) (open_at place o x) ≡ open_at place o (seen_first place w o D x)
    first_at None D = all_at D
    first_at (Some h) D =
        ap (λ (b : Bool). cond b (open_at place o x) (seen_all place o (map (committed_at place o) D) (open_at place o x))) (touched_at place o h x)
        ∙ by (touched_since place o h x)
      where
        by : (b : Bool) → cond b (open_at place o x) (seen_all place o (map (committed_at place o) D) (open_at place o x)) ≡ open_at place o (cond b x (seen_all place o D x))
        by true = refl
        by false = all_at D

    first_off : (w : Option Held) (p : ℕ) → p ≢ o → (D : List (CommittedTx Op)) → open_at place o (seen_first place w p D x) ≡ open_at place o x
    first_off None p n D = all_off p n D
    first_off (Some h) p n D = by (touched_since place p h x)
      where
        by : (b : Bool) → open_at place o (cond b x (seen_all place p D x)) ≡ open_at place o x
        by true = refl
        by false = all_off p n D

    first_within : (w : Option Held) (p : ℕ) (D : List (CommittedTx Op)) → HeldWithin x → HeldWithin (seen_first place w p D x)
    first_within None p D k = k
    first_within (Some h) p D k = by (touched_since place p h x)
      where
        by : (b : Bool) → HeldWithin (cond b x (seen_all place p D x))
        by true = k
        by false = k

    entry_at : (e : LocalEntry Op) → place e.op ≡ o → HeldWithin x → with_entry e (open_at place o x) ≡ open_at place o (with_entry e x)
    entry_at e n k = open_same x.name x.thread (own_at place o x.own ++ e ∷ []) (own_at place o (x.own ++ e ∷ [])) (seen_only o x.seen) (seen_only o x.seen)
        (held_at place o x.own x.held) (held_at place o (x.own ++ e ∷ []) x.held)
        (sym (filter-append (λ (w : LocalEntry Op). place w.op == o) x.own (e ∷ []) ∙ ap (λ (b : Bool). own_at place o x.own ++ cond b (e ∷ []) []) (eq-eqb (place e.op) o n)))
        (λ q. refl) (sym (held_more place o x.own (e ∷ []) x.held k))

    entry_off : (e : LocalEntry Op) → place e.op ≢ o → HeldWithin x → open_at place o (with_entry e x) ≡ open_at place o x
    entry_off e n k = open_same x.name x.thread (own_at place o (x.own ++ e ∷ [])) (own_at place o x.own) (seen_only o x.seen) (seen_only o x.seen)
        (held_at place o (x.own ++ e ∷ []) x.held) (held_at place o x.own x.held)
        (filter-append (λ (w : LocalEntry Op). place w.op == o) x.own (e ∷ []) ∙ ap (λ (b : Bool). own_at place o x.own ++ cond b (e ∷ []) []) (not_eq (place e.op) o n) ∙ append-nil (own_at place o x.own))
        (λ q. refl) (held_more place o x.own (e ∷ []) x.held k)

    -- a return
    pub back_at : (w : Option Held) → taken_back (held_at place o x.own w) (open_at place o x) ≡ open_at place o (taken_back w x)
    back_at None = open_same x.name x.thread [] [] (λ q. zero) (seen_only o (λ q. zero)) None None refl (λ q. sym (ap (λ (s : ℕ → ℕ). s q) (seen_none o))) refl
    back_at (Some h) = open_same x.name x.thread (take (length (own_at place o (take h.own x.own))) (own_at place o x.own)) (own_at place o (take h.own x.own)) (seen_only o h.seen) (seen_only o h.seen) None None
        (take_passed (λ (w : LocalEntry Op). place w.op == o) h.own x.own) (λ q. refl) refl

    -- the end of a section
    pub ended_at : ended (open_at place o x) ≡ open_at place o (ended x)
    ended_at = open_same x.name x.thread (map as_pushed (own_at place o x.own)) (own_at place o (map as_pushed x.own)) (seen_only o x.seen) (seen_only o x.seen) None None
        (sym (filter_unseen (λ (w : LocalEntry Op). place w.op == o) as_pushed x.own (λ e. by e (is_mark e.mark Unpushed)))) (λ q. refl) refl
      where
        by : (e : LocalEntry Op) (b : Bool) → (place (cond b (record e { mark = Pushed }) e).op == o) ≡ (place e.op == o)
        by e true = refl
        by e false = refl

    -- the begin of a section
    pub section_at : begun_section (open_at place o x) ≡ open_at place o (begun_section x)
    section_at = open_same x.name x.thread (own_at place o x.own) (own_at place o x.own) (seen_only o x.seen) (seen_only o x.seen)
        (held_from (held_at place o x.own x.held) (length (own_at place o x.own)) (seen_only o x.seen)) (held_at place o x.own (held_from x.held (length x.own) x.seen)) refl (λ q. refl) (by x.held)
      where
        by : (w : Option Held) → held_from (held_at place o x.own w) (length (own_at place o x.own)) (seen_only o x.seen) ≡ held_at place o x.own (held_from w (length x.own) x.seen)
        by None = ap (λ (l : List (LocalEntry Op)). Some (record { own = length (own_at place o l); seen = seen_only o x.seen })) (sym (take-length x.own))
        by (Some h) = refl

new_same : {Op : Type 0} (place : Op → ℕ) (o : ℕ) (l : List (LocalEntry Op)) (w : Option Held) (t : Name) (id : ℕ) (op : Op) → new_entry (held_at place o l w) t id op ≡ new_entry w t id op
new_same place o l None t id op = refl
new_same place o l (Some h) t id op = refl

module _ {Op : Type 0} (place : Op → ℕ) (style : Style) (B : Summary Op) (t : Name) (id : ℕ) (op : Op) (x : OpenSummary Op) where
  -- an operation on the object
  pub after_at : (js : List ℕ) → HeldWithin x → after_op place style (summary_at place (place op) js B) t id op (open_at place (place op) x) ≡ open_at place (place op) (after_op place style B t id op x)
  after_at js k =
      let o = place op in
      let w = summary_mode style B.kinds x o in
      let D = map (committed_at place o) B.done in
      ap (λ (z : Option Held). with_entry (new_entry z t id op) (seen_first place z o D (open_at place o x))) (mode_at place o style B.kinds x o)
      ∙ ap (λ (e : LocalEntry Op). with_entry e (seen_first place (held_at place o x.own w) o D (open_at place o x))) (new_same place o x.own w t id op)
      ∙ ap (λ (y : OpenSummary Op). with_entry (new_entry w t id op) y) (first_at place o x w B.done)
      ∙ entry_at place o (seen_first place w o B.done x) (new_entry w t id op) refl (first_within place o x w o B.done k)

  -- an operation on another
  pub after_off : (o : ℕ) → place op ≢ o → HeldWithin x → open_at place o (after_op place style B t id op x) ≡ open_at place o x
  after_off o n k =
      let w = summary_mode style B.kinds x (place op) in
      entry_off place o (seen_first place w (place op) B.done x) (new_entry w t id op) n (first_within place o x w (place op) B.done k)
      ∙ first_off place o x w (place op) n B.done
