-- Proof machinery: what a record costs, in the words of contracts.
use Rattle.std.proofs.Common.{◌≡◌, ◌+◌, ◌*◌, ◌&&◌, ℕ, zero, Bool, true, false, cond, drop, nat_eq, List, [], ◌∷◌, length, take, option_map, Option, None, Some, refl, sym, ap, ◌∙◌}
use Rattle.std.proofs.lemmas.List.{length-map}
use Rattle.pp_core.specs.declared.call.Kind.{Kind}
use Rattle.pp_core.specs.declared.entry.Item.{Item}
use Rattle.pp_model.specs.Names.{Name}
use Rattle.pp_model.specs.Object.{ops}
use Rattle.pp_kind.specs.Object.{Object}
use Rattle.pp_kind.specs.declared.part.Part.{Part}
use Rattle.pp_records.specs.Records.{RunRecord}
use Rattle.pp_records.specs.Records as records
use Rattle.pp_laws_summary.specs.LocalLogs.{serial_at}
use Rattle.pp_laws_summary.specs.Places.{ops_at}
use Rattle.pp_laws_summary.specs.Summary.{OpenSummary, open_named}
use Rattle.pp_summary.specs.Shown.{filled, open_in}
use Rattle.pp_summary.specs.declared.parts.OpenTx.{OpenTx}
use Rattle.pp_snapshots.specs.Costs.{has_part, later_at, of_open, ops_of_part, share_part, take_most, tried_for, tried_missed, tried_with}
use Rattle.pp_snapshots.specs.Many.{ops_made}
use Rattle.pp_snapshots.specs.Ops.{kept_most, made_from, op_most, or_nothing, refresh_most, snapshot_at}
use Rattle.pp_snapshots.specs.Past.{made_at}
use Rattle.pp_snapshots.specs.Shown.{Keeps, Kept, as_local, done_ops, seen_in, shown, shown_tx}
use Rattle.pp_snapshots.proofs.Asking.{count_is}
use Rattle.pp_snapshots.proofs.Filled.{found_is}
use Rattle.pp_snapshots.proofs.Manies.{ops_there}
use Rattle.pp_snapshots.proofs.Views.{ops_local}

module _ {Shape State Op Undo : Type 0} (o : Object Shape State Op Undo) (place : Op → ℕ) (v : Kept Shape State Op Undo) (h : Keeps o place v) where
  -- As many operations are kept of a place as were committed there.
  pub all_is : (q : ℕ) → length (made_at q v.past.places.items) ≡ length (serial_at place q v.committed)
  all_is q = count_is o place v.shape v.past (done_ops o place v.committed) h.past q ∙ length-map (serial_at place q v.committed) (λ (p : Item Op). p.op)

module _ {Shape State Op Undo : Type 0} (o : Object Shape State Op Undo) (place : Op → ℕ) (part : Op → Part) (silent : Op → Bool) (v : Kept Shape State Op Undo) (h : Keeps o place v) where
  of_it : (t : Name) (f : OpenTx (List (Item Op)) → ℕ) (g : OpenSummary Op → ℕ) → ((x : OpenTx (List (Item Op))) → f x ≡ g (shown_tx t x)) →
      or_nothing (open_in t v.slots.entries) f ≡ of_open (open_named t (filled shown_tx v.slots.entries)) g
  of_it t f g same = by (open_in t v.slots.entries) ∙ ap (λ (m : Option (OpenSummary Op)). of_open m g) (sym (found_is t shown_tx shown_tx (λ n x. refl) v.slots.entries h.names))
    where
      by : (m : Option (OpenTx (List (Item Op)))) → or_nothing m f ≡ of_open (option_map (shown_tx t) m) g
      by None = refl
      by (Some x) = same x

  -- the later operations at a place, and none if all are seen
  dropped : (b : Bool) (n : ℕ) (l : List Op) → drop (cond b (length l) n) l ≡ cond b [] (drop n l)
  dropped true n l = drop_all l
    where
      drop_all : {A : Type 0} (l : List A) → drop (length l) l ≡ []
      drop_all [] = refl
      drop_all (a ∷ l) = drop_all l
  dropped false n l = refl

  made_is : (q : ℕ) → ops_made (made_at q v.past.places.items) ≡ done_ops o place v.committed q
  made_is q = ops_there o place v.shape v.past (done_ops o place v.committed) h.past q

  later_is : (ks : List Kind) (t : Name) (q : ℕ) (x : OpenTx (List (Item Op))) →
      made_from v.past q (snapshot_at (seen_in x.seen.entries q) (ops_at place q (ops x.own)) (length (made_at q v.past.places.items))) ≡ later_at place (shown ks v) (shown_tx t x) q
  later_is ks t q x =
      let seen = seen_in x.seen.entries q in
      let D = done_ops o place v.committed q in
      let nothing = nat_eq seen zero && nat_eq (length (ops_at place q (ops x.own))) zero in
      ap (drop (snapshot_at seen (ops_at place q (ops x.own)) (length (made_at q v.past.places.items)))) (made_is q)
      ∙ ap (λ (n : ℕ). drop (cond nothing n seen) D) (count_is o place v.shape v.past (done_ops o place v.committed) h.past q)
      ∙ dropped nothing seen D
      ∙ ap (λ (l : List Op). cond (nat_eq seen zero && nat_eq (length (ops_at place q l)) zero) [] (drop seen D)) (sym (ops_local t x.own))

  op_is : (ks : List Kind) (t : Name) (op : Op) (x : OpenTx (List (Item Op))) → op_most place part silent v.past x op ≡ 2 * (tried_with place part silent (shown ks v) (shown_tx t x) op + 1)
  op_is ks t op x =
      let q = place op in
      let own = ops x.own in
      let later = later_at place (shown ks v) (shown_tx t x) q in
      let seen = seen_in x.seen.entries q in
      let D = done_ops o place v.committed q in
      let n = snapshot_at seen (ops_at place q own) (length (made_at q v.past.places.items)) in
      ap (λ (l : List Op). most op (take n (ops_made (made_at q v.past.places.items))) l own) (later_is ks t q x)
      ∙ ap (λ (l : List Op). most op (take n l) later own) (made_is q)
      ∙ ap (λ (i : ℕ). most op (take (snapshot_at seen (ops_at place q own) i) D) later own) (count_is o place v.shape v.past (done_ops o place v.committed) h.past q)
      ∙ ap (λ (w : List Op). most op (take (snapshot_at seen (ops_at place q w) (length D)) D) later w) (sym (ops_local t x.own))
    where
      most : Op → List Op → List Op → List Op → ℕ
      most op first later own =
          2 * (cond (silent op) 0 (cond (has_part part op later) (tried_missed place part op first later own) (length (ops_of_part part op own))) + 1)

  refresh_is : (ks : List Kind) (t : Name) (q : ℕ) (x : OpenTx (List (Item Op))) → refresh_most place part v.past x q ≡ 2 * tried_for place part (shown ks v) (shown_tx t x) q
  refresh_is ks t q x =
      let seen = seen_in x.seen.entries q in
      let later = drop seen (done_ops o place v.committed q) in
      ap (λ (l : List Op). 2 * cond (share_part part (ops_at place q (ops x.own)) (drop seen l)) (length (drop seen l) + (length (ops_at place q (ops x.own)) + length (drop seen l))) 0) (made_is q)
      ∙ ap (λ (w : List Op). 2 * cond (share_part part (ops_at place q w) later) (length later + (length (ops_at place q w) + length later)) 0) (sym (ops_local t x.own))

  -- What a record costs at most, by what is kept, is what it costs by the summary.
  pub most_is : (ks : List Kind) (r : RunRecord Op) → kept_most place part silent v r ≡ take_most place part silent (shown ks v) r
  most_is ks (records.Plain step) = refl
  most_is ks (records.Op t id op) =
      of_it t (λ x. op_most place part silent v.past x op) (λ y. 2 * (tried_with place part silent (shown ks v) y op + 1)) (op_is ks t op)
  most_is ks (records.Commit t) = of_it t (λ x. 2 * length x.own) (λ y. 2 * length y.own) (λ x. ap (λ (n : ℕ). 2 * n) (sym (length-map x.own (as_local t))))
  most_is ks (records.Abort t) = refl
  most_is ks (records.Retry t) = refl
  most_is ks (records.Refresh t q) =
      of_it t (λ x. refresh_most place part v.past x q) (λ y. 2 * tried_for place part (shown ks v) y q) (refresh_is ks t q)
  most_is ks (records.XBegin t) = refl
  most_is ks (records.XEnd t) = refl
  most_is ks (records.XAbort t) = refl
  most_is ks (records.Depend t source) = refl
  most_is ks (records.Publish t) = refl
  most_is ks (records.DropSource t source) = refl
