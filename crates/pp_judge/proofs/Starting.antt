-- A run that begins with the start of its header.
use Rattle.std.specs.Prelude.{◌≡◌, ◌<◌, ◌≤◌, ◌+◌, ◌*◌, ℕ, List, length, Option, None, Some}
use Rattle.std.specs.Prelude.{option_map, Result, Ok, Err, IfOk}
use Rattle.std.proofs.Common.{refl, sym, ap, subst, arith}
use Rattle.std.specs.List.{All}
use Rattle.std.proofs.lemmas.List.Elements.{All-weaker}
use Rattle.pp_core.specs.Catalogs.{Objects}
use Rattle.pp_core.specs.declared.answer.OutOfMemory.{OutOfMemory}
use Rattle.pp_core.specs.declared.call.Kind.{Kind}
use Rattle.pp_core.specs.declared.entry.Item.{Item}
use Rattle.pp_format_read.specs.declared.header.Header.{Header}
use Rattle.pp_format_read.specs.declared.start.Start.{Start as HeaderStart}
use Rattle.pp_format_read.specs.Items.{IsReadableItem}
use Rattle.pp_model.specs.Config.{Start, first, start_with}
use Rattle.pp_model.specs.Rules.{StartBreaks, StartMeets}
use Rattle.pp_objects.specs.declared.act.Op.{Op}
use Rattle.pp_objects.specs.Objects.{kinds_of, objects}
use Rattle.pp_machine.specs.Evidence.{Fits}
use Rattle.pp_machine.specs.Machines.{Seen}
use Rattle.pp_machine.specs.Shown.{HoldsAtNumber}
use Rattle.pp_machine.specs.StartAnswers.{IsAskedItem, IsStartShown, Started, start_facts}
use Rattle.pp_machine.specs.declared.detail.Detail.{Detail}
use Rattle.pp_machine.specs.declared.machine.Outcome.{Outcome}
use Rattle.pp_machine.specs.declared.machine.Outcome.TheVariants.{Done, False}
use Rattle.pp_kind.specs.Object.{rules_of}
use Rattle.pp_judge.specs.Costs.{start_at_most, start_length}
use Rattle.pp_judge.specs.Objects.{start_of}
use Rattle.pp_judge.specs.Rejected.{IsStartEvident}
use Rattle.pp_judge.specs.Reports.{detail_of_start}
use Rattle.pp_judge.specs.Running.{HasStarted}

-- what was read may be asked of the machine
pub asked : (catalog : Objects) (items : List (Item Op)) → All (IsReadableItem catalog) items → All (IsAskedItem objects (kinds_of catalog)) items
asked catalog items all = All-weaker (IsReadableItem catalog) (IsAskedItem objects (kinds_of catalog)) (λ p h. (h.1, h.2)) items all

-- a machine that took a start, or no start, and no steps
abbrev pub made : List Kind → Option (Start Op) → Seen (List Kind) Op
made kinds h = record { shape = kinds; config = first h; count = 0 }

-- a start is refused by its first false criterion, with its evidence
abbrev IsRejectedStart : List Kind → Option (Start Op) → ℕ → Detail Op → Type 0
IsRejectedStart kinds h n detail =
    StartBreaks (rules_of objects kinds) h n × (0 < n) × (detail ≡ detail_of_start kinds h n) × Fits objects kinds detail × IsStartEvident kinds h n

-- one for each operation of a start is within two for each
pub start_twice : (old new : ℕ) (h : Option (Start Op)) → new ≤ old + start_length h → new ≤ old + start_at_most h
start_twice old new None bound = bound
start_twice old new (Some z) bound = twice (length z.items) bound
  where
    twice : (n : ℕ) → new ≤ old + n → new ≤ old + 2 * n
    twice n bound = omega (arith, bound)

module _ (header : Header) (machine : Seen (List Kind) Op) (new : machine ≡ made (kinds_of header.catalog) None) where
  shape_is : machine.shape ≡ kinds_of header.catalog
  shape_is = ap (λ (m : Seen (List Kind) Op). m.shape) new

  -- A new machine has the first configuration without a start.
  pub empty : machine.config ≡ first None
  empty = ap (λ (m : Seen (List Kind) Op). m.config) new

  -- A new machine has counted 0 steps.
  pub uncounted : machine.count ≡ 0
  uncounted = ap (λ (m : Seen (List Kind) Op). m.count) new

  -- over the machine's objects as over those of the header
  pub asked_there : (items : List (Item Op)) → All (IsReadableItem header.catalog) items → All (IsAskedItem objects machine.shape) items
  asked_there items all = subst (λ (k : List Kind). All (IsAskedItem objects k) items) (sym shape_is) (asked header.catalog items all)

  -- without a start
  pub none_started : header.start ≡ None → HasStarted header Done machine
  none_started is =
      let none : start_of header ≡ None = ap (λ (z : Option HeaderStart). option_map (λ s. start_with s.tx s.ops) z) is in
      subst (λ (h : Option (Start Op)). StartMeets (rules_of objects (kinds_of header.catalog)) h × (machine ≡ made (kinds_of header.catalog) h)) (sym none) (refl, new)

  one : (z : HeaderStart) → header.start ≡ Some z → start_of header ≡ Some (start_with z.tx z.ops)
  one z is = ap (λ (w : Option HeaderStart). option_map (λ s. start_with s.tx s.ops) w) is

  -- with one
  some_started : (z : HeaderStart) → header.start ≡ Some z → (outcome : Outcome Op) (after : Seen (List Kind) Op) → Started objects machine (start_with z.tx z.ops) outcome after → IsStartShown objects machine (start_with z.tx z.ops) outcome
      → HasStarted header outcome after
  some_started z is outcome after done shown = go outcome done shown
    where
      go : (r : Outcome Op) → Started objects machine (start_with z.tx z.ops) r after → IsStartShown objects machine (start_with z.tx z.ops) r → HasStarted header r after
      go Done d s =
          subst (λ (h : Option (Start Op)). StartMeets (rules_of objects (kinds_of header.catalog)) h × (after ≡ made (kinds_of header.catalog) h)) (sym (one z is))
          (subst (λ (k : List Kind). StartMeets (rules_of objects k) (Some (start_with z.tx z.ops)) × (after ≡ made k (Some (start_with z.tx z.ops)))) shape_is d)
      go (False n detail) d s =
          let s' : Start Op = start_with z.tx z.ops in
          let evident : IsStartEvident machine.shape (Some s') n = subst (λ (w : Detail Op). HoldsAtNumber objects (start_facts objects machine.shape s') n w) d.3 s.0 in
          subst (λ (h : Option (Start Op)). IsRejectedStart (kinds_of header.catalog) h n detail) (sym (one z is))
          (subst (λ (k : List Kind). IsRejectedStart k (Some s') n detail) shape_is (d.0, d.1, d.3, s.1, evident))

  -- the same of what the machine answers
  pub started_result : (z : HeaderStart) → header.start ≡ Some z → (r : Result (Seen (List Kind) Op × Outcome Op) OutOfMemory) → IfOk r (λ x. Started objects machine (start_with z.tx z.ops) x.1 x.0) → IfOk r (λ x. IsStartShown objects machine (start_with z.tx z.ops) x.1)
      → IfOk r (λ x. HasStarted header x.1 x.0)
  started_result z is (Ok x) a b = some_started z is x.1 x.0 a b
  started_result z is (Err e) a b = tt

  -- and of what it costs
  pub start_bound : (z : HeaderStart) → header.start ≡ Some z → (old new : ℕ) → new ≤ old + length z.ops → new ≤ old + start_length (start_of header)
  start_bound z is old new bound = subst (λ (h : Option (Start Op)). new ≤ old + start_length h) (sym (one z is)) bound
