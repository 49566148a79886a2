-- A Quick with the start of its header, and the conditions on records that were read.
use Rattle.std.specs.Prelude.{◌≡◌, ◌≤◌, ◌+◌, ◌*◌, ℕ, Bool, true, false, List, length, Option, None, Some, option_map, Result, IfOk}
use Rattle.std.specs.List.{All}
use Rattle.std.proofs.Common.{refl, sym, ap, subst, ◌∙◌, arith}
use Rattle.std.proofs.lemmas.List.Elements.{All-weaker}
use Rattle.std.proofs.lemmas.Result.{IfOk-weaker}
use Rattle.pp_core.specs.Catalogs.{Objects}
use Rattle.pp_core.specs.declared.answer.OutOfMemory.{OutOfMemory}
use Rattle.pp_core.specs.declared.call.Kind.{Kind}
use Rattle.pp_core.specs.declared.entry.Item.{Item}
use Rattle.pp_core.specs.Steps.{Step, Begin, App, Unapp, Push, Unpush, Pull, Unpull, Cmt, Quit, Note}
use Rattle.pp_records.specs.Records.{RunRecord, Plain}
use Rattle.pp_records.specs.Records as records
use Rattle.pp_format_read.specs.declared.header.Header.{Header}
use Rattle.pp_format_read.specs.declared.start.Start.{Start as HeaderStart}
use Rattle.pp_format_read.specs.Items.{IsReadableItem}
use Rattle.pp_format_read.specs.Records.{IsReadable}
use Rattle.pp_format_read.specs.Rules.{IsReadableStep}
use Rattle.pp_model.specs.Config.{Start, start_with}
use Rattle.pp_model.specs.Rules.{StartMeets}
use Rattle.pp_objects.specs.declared.act.Op.{Op}
use Rattle.pp_objects.specs.Objects.{kinds_of, objects, place_of}
use Rattle.pp_summary.specs.Held.{Held, IsItemAsked, IsRecordAsked, IsStepAsked, Starts, held_first}
use Rattle.pp_kind.specs.Object.{rules_of}
use Rattle.pp_judge.specs.Costs.{start_length}
use Rattle.pp_judge.specs.Objects.{object_of, start_of}
use Rattle.pp_cmd_quick.specs.Taking.{StartsQuick}

-- ---- what was read meets the conditions

step_asked : (catalog : Objects) (step : Step Op) → IsReadableStep catalog step → IsStepAsked step
step_asked catalog (Begin t p b) h = h
step_asked catalog (App t id op) h = tt
step_asked catalog (Unapp t id) h = tt
step_asked catalog (Push t id) h = tt
step_asked catalog (Unpush t id) h = tt
step_asked catalog (Pull t id) h = tt
step_asked catalog (Unpull t id) h = tt
step_asked catalog (Cmt t) h = tt
step_asked catalog (Quit t) h = tt
step_asked catalog (Note t) h = tt

asked : (catalog : Objects) (r : RunRecord Op) → IsReadable catalog r → IsRecordAsked objects (kinds_of catalog) r
asked catalog (Plain step) h = step_asked catalog step h
asked catalog (records.Op t id op) h = (h.1, h.2)
asked catalog (records.Commit t) h = tt
asked catalog (records.Abort t) h = tt
asked catalog (records.Retry t) h = tt
asked catalog (records.Refresh t o) h = tt
asked catalog (records.XBegin t) h = tt
asked catalog (records.XEnd t) h = tt
asked catalog (records.XAbort t) h = tt
asked catalog (records.Depend t source) h = tt
asked catalog (records.Publish t) h = tt
asked catalog (records.DropSource t source) h = tt

-- A record that was read may be asked of objects of the catalog's kinds.
pub asked_record : (catalog : Objects) (shape : List Kind) (r : RunRecord Op) → shape ≡ kinds_of catalog → IsReadable catalog r → IsRecordAsked objects shape r
asked_record catalog shape r is h = subst (λ (k : List Kind). IsRecordAsked objects k r) (sym is) (asked catalog r h)

-- ---- the start

module _ (header : Header) (quick : Held (List Kind) Op) (new : quick ≡ held_first objects place_of (kinds_of header.catalog) None) where
  abbrev ks : List Kind
  ks = kinds_of header.catalog

  shape_is : quick.shape ≡ ks
  shape_is = ap (λ (q : Held (List Kind) Op). q.shape) new

  -- The Quick is as `new` made it.
  pub is_first : quick ≡ held_first objects place_of quick.shape None
  is_first = new ∙ ap (λ (k : List Kind). held_first objects place_of k None) (sym shape_is)

  -- Operations of a start that were read may be asked of a new Quick.
  pub items_asked : (items : List (Item Op)) → All (IsReadableItem header.catalog) items → All (IsItemAsked objects quick.shape) items
  items_asked items all =
      subst (λ (k : List Kind). All (IsItemAsked objects k) items) (sym shape_is)
      (All-weaker (IsReadableItem header.catalog) (IsItemAsked objects ks) (λ p h. (h.1, h.2)) items all)

  -- A header without a start starts the Quick as it is.
  pub none_started : header.start ≡ None → StartsQuick header true quick
  none_started is =
      let none : start_of header ≡ None = ap (λ (z : Option HeaderStart). option_map (λ s. start_with s.tx s.ops) z) is in
      subst (λ (h : Option (Start Op)). StartMeets (object_of header) h × (quick ≡ held_first objects place_of ks h)) (sym none) (refl, new)

  one : (z : HeaderStart) → header.start ≡ Some z → start_of header ≡ Some (start_with z.tx z.ops)
  one z is = ap (λ (w : Option HeaderStart). option_map (λ s. start_with s.tx s.ops) w) is

  -- A header with a start starts the Quick with its operations.
  some_started : (z : HeaderStart) → header.start ≡ Some z → (good : Bool) (after : Held (List Kind) Op) → Starts objects place_of quick (start_with z.tx z.ops) good after → StartsQuick header good after
  some_started z is true after s =
      subst (λ (h : Option (Start Op)). StartMeets (object_of header) h × (after ≡ held_first objects place_of ks h)) (sym (one z is))
      (subst (λ (k : List Kind). StartMeets (rules_of objects k) (Some (start_with z.tx z.ops)) × (after ≡ held_first objects place_of k (Some (start_with z.tx z.ops)))) shape_is s)
  some_started z is false after s =
      subst (λ (h : Option (Start Op)). StartMeets (object_of header) h → ⊥) (sym (one z is))
      (subst (λ (k : List Kind). StartMeets (rules_of objects k) (Some (start_with z.tx z.ops)) → ⊥) shape_is s.0)

  -- If the result of `start` is right for the operations of the header, it is right for the header.
  pub started_result : (z : HeaderStart) → header.start ≡ Some z → (r : Result (Held (List Kind) Op × Bool) OutOfMemory) → IfOk r (λ x. Starts objects place_of quick (start_with z.tx z.ops) x.1 x.0) → IfOk r (λ x. StartsQuick header x.1 x.0)
  started_result z is r s = IfOk-weaker r _ _ (λ x k. some_started z is x.1 x.0 k) s

  -- If the cost of `start` is within the number of the operations, it is within the cost of the start of the header.
  pub start_bound : (z : HeaderStart) → header.start ≡ Some z → (old now : ℕ) → now ≤ old + length z.ops → now ≤ old + start_length (start_of header)
  start_bound z is old now bound = subst (λ (h : Option (Start Op)). now ≤ old + start_length h) (sym (one z is)) bound
