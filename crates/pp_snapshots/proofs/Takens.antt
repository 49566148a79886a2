-- Proof machinery: what contracts see, and the summary that is shown.
use Rattle.std.proofs.Common.{◌≡◌, ◌==◌, ◌++◌, ℕ, Bool, true, false, List, [], ◌∷◌, filter, map, None, Some, refl, sym, ap, subst, ◌∙◌, append_assoc, append-nil}
use Rattle.std.proofs.lemmas.List.{map-append}
use Rattle.std.proofs.lemmas.List.Elements.{filter-append}
use Rattle.pp_core.specs.Steps.{App, Begin, Cmt, Note, Pull, Push, Quit, Unapp, Unpull, Unpush}
use Rattle.pp_core.specs.declared.call.Kind.{Kind}
use Rattle.pp_core.specs.declared.entry.CommittedTx.{CommittedTx}
use Rattle.pp_core.specs.declared.entry.Item.{Item}
use Rattle.pp_model.specs.Object.{ops}
use Rattle.pp_kind.specs.declared.part.Part.{Part}
use Rattle.pp_records.specs.Records as records
use Rattle.pp_snapshots.specs.declared.by_part.ByPart.{ByPart}
use Rattle.pp_snapshots.specs.ByPart.{IsListed, ops_in}
use Rattle.pp_snapshots.proofs.Listed.{still_listed}
use Rattle.pp_snapshots.proofs.Manies.{ops_there}
use Rattle.pp_core.specs.declared.call.Style.TheVariants.{Optimistic}
use Rattle.pp_model.specs.Sound.{serial_items, serial_ops}
use Rattle.pp_kind.specs.Object.{IsAllowed, IsLawful, IsPlaced, Object, rules_of, state_after}
use Rattle.pp_kind.proofs.Places.{reached_shape}
use Rattle.pp_records.specs.Fronts.{Front}
use Rattle.pp_records.specs.Records.{RunRecord}
use Rattle.pp_records.specs.Runs.{Standing}
use Rattle.pp_laws_summary.specs.Places.{ops_at}
use Rattle.pp_laws_summary.specs.Summary.{OpenSummary, Summary, SummaryGood, next_summary}
use Rattle.pp_laws_summary.proofs.Placed.{parts_of}
use Rattle.pp_summary.specs.Shown.{filled}
use Rattle.pp_snapshots.specs.Held.{IsTakenOf, Takes, open_of, summary_taken}
use Rattle.pp_snapshots.specs.Moving.{Answers, as_taken, tx_taken}
use Rattle.pp_snapshots.specs.Shown.{Keeps, Kept, SlotList, done_ops, shown, shown_tx}
use Rattle.pp_snapshots.proofs.Pasts.{allowed_there, same_run, same_there, shape_is}
use Rattle.pp_snapshots.proofs.Views.{ops_items}

opened_is : {Op : Type 0} (es : SlotList Op) → map open_of (filled tx_taken es) ≡ filled shown_tx es
opened_is [] = refl
opened_is ((n, None) ∷ es) = opened_is es
opened_is {Op} ((n, Some x) ∷ es) = ap (λ (l : List (OpenSummary Op)). shown_tx n x ∷ l) (opened_is es)

-- The summary that contracts see is the one that is shown.
pub summary_is : {Shape State Op Undo : Type 0} (ks : List Kind) (v : Kept Shape State Op Undo) → summary_taken ks (as_taken v) ≡ shown ks v
summary_is {Op = Op} ks v = ap (λ (l : List (OpenSummary Op)). record (shown ks v) { opened = l }) (opened_is v.slots.entries)

module _ {Shape State Op Undo : Type 0} (o : Object Shape State Op Undo) (place : Op → ℕ) where
  -- What contracts see is the summary of some front and configuration.
  pub held_is : (v : Kept Shape State Op Undo) → Keeps o place v → (p : Standing Front Op) × IsTakenOf o place (as_taken v) p
  held_is v h = (h.is_held.0, record { summable = h.is_held.1.summable; is = h.is_held.1.is ∙ sym (summary_is h.is_held.0.front.kinds v) })

  -- what is answered, in the words of contracts
  pub takes_is : (v w : Kept Shape State Op Undo) (r : RunRecord Op) (good : Bool) → Answers o place v r good w → Takes o place (as_taken v) r good (as_taken w)
  takes_is v w r true a = (
    (λ ks. subst (λ (B : Summary Op). SummaryGood Optimistic (rules_of o v.shape) place B r) (sym (summary_is ks v)) (a.0 ks)),
    record {
      shape = a.1.shape;
      summary = λ ks. summary_is ks w ∙ a.1.shown ks ∙ ap (λ (B : Summary Op). next_summary place Optimistic B r) (sym (summary_is ks v));
      count = a.1.count;
    },
  )
  takes_is v w r false a = (
    (λ ks k. a.0 ks (subst (λ (B : Summary Op). SummaryGood Optimistic (rules_of o v.shape) place B r) (summary_is ks v) k)),
    record {
      shape = a.1.shape;
      summary = λ ks. summary_is ks w ∙ a.1.shown ks ∙ sym (summary_is ks v);
      count = a.1.count;
    },
  )

  -- What is kept of a run is as it should be after a record is answered.
  pub keeps_then : (v w : Kept Shape State Op Undo) (r : RunRecord Op) (good : Bool) → Answers o place v r good w → Keeps o place w
  keeps_then v w r true a = a.1.keeps
  keeps_then v w r false a = a.1.keeps

  -- What was applied at each place is what was committed there.
  in_is : (v : Kept Shape State Op Undo) → Keeps o place v → (q : ℕ) → ops_in v.past q ≡ done_ops o place v.committed q
  in_is v h q = ops_there o place v.shape v.past (done_ops o place v.committed) h.past q

  -- Of transactions that are committed after others, the operations at a place come after theirs.
  done_joined : (D E : List (CommittedTx Op)) (q : ℕ) → done_ops o place (D ++ E) q ≡ done_ops o place D q ++ done_ops o place E q
  done_joined D E q =
      ap ops (ap (filter (λ p. place p.op == q)) (items_joined D) ∙ filter-append (λ (p : Item Op). place p.op == q) (serial_items D) (serial_items E))
      ∙ map-append (λ (p : Item Op). p.op) (filter (λ p. place p.op == q) (serial_items D)) (filter (λ p. place p.op == q) (serial_items E))
    where
      items_joined : (D : List (CommittedTx Op)) → serial_items (D ++ E) ≡ serial_items D ++ serial_items E
      items_joined [] = refl
      items_joined (d ∷ D) = ap (λ (l : List (Item Op)). d.entries ++ l) (items_joined D) ∙ sym (append_assoc d.entries (serial_items D) (serial_items E))

  -- What is listed part by part stays so when more is committed.
  pub listed_after : (part : Op → Part) (v w : Kept Shape State Op Undo) (u : ByPart Op) (E : List (CommittedTx Op)) → Keeps o place v → Keeps o place w → w.committed ≡ v.committed ++ E
      → IsListed place part u (ops_in v.past) → IsListed place part u (ops_in w.past)
  listed_after part v w u E h k is listed =
      still_listed part place u (ops_in v.past) (ops_in w.past) listed
      (λ q. (
        done_ops o place E q,
        in_is w k q ∙ ap (λ (D : List (CommittedTx Op)). done_ops o place D q) is ∙ done_joined v.committed E q
            ∙ ap (λ (l : List Op). l ++ done_ops o place E q) (sym (in_is v h q)),
      ))

  -- A record may commit one more transaction.
  done_grows : (B : Summary Op) (r : RunRecord Op) → (E : List (CommittedTx Op)) × ((next_summary place Optimistic B r).done ≡ B.done ++ E)
  done_grows B (records.Plain (Begin t p b)) = ([], sym (append-nil B.done))
  done_grows B (records.Plain (App t id op)) = ([], sym (append-nil B.done))
  done_grows B (records.Plain (Unapp t id)) = ([], sym (append-nil B.done))
  done_grows B (records.Plain (Push t id)) = ([], sym (append-nil B.done))
  done_grows B (records.Plain (Unpush t id)) = ([], sym (append-nil B.done))
  done_grows B (records.Plain (Pull t id)) = ([], sym (append-nil B.done))
  done_grows B (records.Plain (Unpull t id)) = ([], sym (append-nil B.done))
  done_grows B (records.Plain (Cmt t)) = ([], sym (append-nil B.done))
  done_grows B (records.Plain (Quit t)) = ([], sym (append-nil B.done))
  done_grows B (records.Plain (Note t)) = ([], sym (append-nil B.done))
  done_grows B (records.Op t id op) = ([], sym (append-nil B.done))
  done_grows B (records.Commit t) = (_, refl)
  done_grows B (records.Abort t) = ([], sym (append-nil B.done))
  done_grows B (records.Retry t) = ([], sym (append-nil B.done))
  done_grows B (records.Refresh t q) = ([], sym (append-nil B.done))
  done_grows B (records.XBegin t) = ([], sym (append-nil B.done))
  done_grows B (records.XEnd t) = ([], sym (append-nil B.done))
  done_grows B (records.XAbort t) = ([], sym (append-nil B.done))
  done_grows B (records.Depend t source) = ([], sym (append-nil B.done))
  done_grows B (records.Publish t) = ([], sym (append-nil B.done))
  done_grows B (records.DropSource t source) = ([], sym (append-nil B.done))

  -- What is listed stays so after a record is answered.
  pub listed_then : (part : Op → Part) (v w : Kept Shape State Op Undo) (u : ByPart Op) (r : RunRecord Op) (good : Bool) → Keeps o place v → Answers o place v r good w
      → IsListed place part u (ops_in v.past) → IsListed place part u (ops_in w.past)
  listed_then part v w u r true h a listed =
      let more = done_grows (shown [] v) r in
      listed_after part v w u more.0 h a.1.keeps (ap (λ (B : Summary Op). B.done) (a.1.shown []) ∙ more.1) listed
  listed_then part v w u r false h a listed =
      listed_after part v w u [] h a.1.keeps (ap (λ (B : Summary Op). B.done) (a.1.shown []) ∙ sym (append-nil v.committed)) listed

  -- the state that is kept is that of the serial run
  module _ (SameAt : ℕ → State → State → Type 0) (laws : IsLawful o) (places : IsPlaced o place SameAt) where
    -- The operations of the serial run are allowed.
    pub serial_allowed : (v : Kept Shape State Op Undo) → Keeps o place v → IsAllowed o v.shape (serial_ops v.committed)
    serial_allowed v h =
        let D = v.committed in
        ((parts_of o place SameAt laws places v.shape).parts (serial_ops D)).1
        (λ q. subst (IsAllowed o v.shape) (sym (ops_items place q (serial_items D))) (allowed_there o place SameAt laws places v.shape v.past (done_ops o place D) h.past q))

    -- The state is the one after the serial run.
    pub state_is : (v : Kept Shape State Op Undo) → Keeps o place v → v.past.state ≡ state_after o v.shape (serial_ops v.committed)
    state_is v h =
        let D = v.committed in
        let s = state_after o v.shape (serial_ops D) in
        let at : (q : ℕ) → ops_at place q (serial_ops D) ≡ done_ops o place D q = λ q. ops_items place q (serial_items D) in
        let allowed = serial_allowed v h in
        places.everywhere v.past.state s (shape_is o place SameAt laws places v.shape v.past (done_ops o place D) h.past ∙ sym (reached_shape o laws v.shape (serial_ops D) allowed))
        (λ q.
        let t = state_after o v.shape (done_ops o place D q) in
        let there : SameAt q s t = subst (λ (l : List Op). SameAt q s (state_after o v.shape l)) (at q) (same_run o place SameAt laws places q (o.start v.shape) (o.start v.shape) (serial_ops D) (places.same q (o.start v.shape))) in
        places.joined q v.past.state t s (same_there o place SameAt laws places v.shape v.past (done_ops o place D) h.past q) (places.turned q s t there))
