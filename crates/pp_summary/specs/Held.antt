-- Meaning: what contracts see of a Quick, and what taking a record does.
use Rattle.std.specs.Prelude.{◌≡◌, ◌+◌, ℕ, Bool, true, false, IsTrue, length, Option, Some}
use Rattle.pp_core.specs.declared.call.Style.TheVariants as styles
use Rattle.pp_core.specs.declared.entry.Item.{Item}
use Rattle.pp_core.specs.Trees.{IsWithinLimits}
use Rattle.pp_model.specs.Config.{App, Begin, Cmt, Config, Note, Pull, Push, Quit, Start, Step}
use Rattle.pp_model.specs.Config.{Unapp, Unpull, Unpush, after_from, first}
use Rattle.pp_model.specs.Names.{Name}
use Rattle.pp_model.specs.Rules.{RunsFrom, StartMeets}
use Rattle.pp_kind.specs.Object.{Object, rules_of}
use Rattle.pp_records.specs.Expansions.{expand}
use Rattle.pp_records.specs.Fronts.{Front}
use Rattle.pp_records.specs.Records.{RunRecord}
use Rattle.pp_records.specs.Records as records
use Rattle.pp_summary.specs.Boosted.{Boosted}
use Rattle.pp_summary.specs.Brief.{Brief, brief, brief_of, own_list}

-- The objects, the brief, and how many records were taken.
pub record Held (Shape Op : Type 0) : Type 0 where
  pub shape : Shape
  pub brief : Brief Op
  pub count : ℕ

-- The condition on a step that is a record: its body is within the limits.
abbrev pub IsStepAsked : {Op : Type 0} → Step Op → Type 0
IsStepAsked (Begin t p b) = IsWithinLimits b
IsStepAsked (App t id op) = Unit {0}
IsStepAsked (Unapp t id) = Unit {0}
IsStepAsked (Push t id) = Unit {0}
IsStepAsked (Unpush t id) = Unit {0}
IsStepAsked (Pull t id) = Unit {0}
IsStepAsked (Unpull t id) = Unit {0}
IsStepAsked (Cmt t) = Unit {0}
IsStepAsked (Quit t) = Unit {0}
IsStepAsked (Note t) = Unit {0}

-- The operation is one of the objects, and its numbers are in range.
abbrev pub IsOpAsked : {Shape State Op Undo : Type 0} → Object Shape State Op Undo → Shape → Op →
    Type 0
IsOpAsked o shape op = IsTrue (o.fits shape op) × IsTrue (o.ranged op)

-- The operation of an item of a start is one of the objects, and its numbers are in range.
abbrev pub IsItemAsked : {Shape State Op Undo : Type 0} → Object Shape State Op Undo → Shape →
    Item Op → Type 0
IsItemAsked o shape p = IsOpAsked o shape p.op

-- The condition on the step or the operation of a record.
abbrev pub IsRecordAsked : {Shape State Op Undo : Type 0} → Object Shape State Op Undo → Shape →
    RunRecord Op → Type 0
IsRecordAsked o shape (records.Plain step) = IsStepAsked step
IsRecordAsked o shape (records.Op t id op) = IsOpAsked o shape op
IsRecordAsked o shape (records.Commit t) = Unit {0}
IsRecordAsked o shape (records.Abort t) = Unit {0}
IsRecordAsked o shape (records.Retry t) = Unit {0}
IsRecordAsked o shape (records.Refresh t q) = Unit {0}
IsRecordAsked o shape (records.XBegin t) = Unit {0}
IsRecordAsked o shape (records.XEnd t) = Unit {0}
IsRecordAsked o shape (records.XAbort t) = Unit {0}
IsRecordAsked o shape (records.Depend t source) = Unit {0}
IsRecordAsked o shape (records.Publish t) = Unit {0}
IsRecordAsked o shape (records.DropSource t source) = Unit {0}

module _ {Shape State Op Undo : Type 0} (o : Object Shape State Op Undo) (place : Op → ℕ) where
  -- The Quick holds the brief of this boosted configuration.
  pub record IsHeldOf (v : Held Shape Op) (c : Config Op) : Type 0 where
    pub boosted : Boosted (rules_of o v.shape) place c
    pub is : brief place c ≡ v.brief

  -- The Quick of another configuration, with one record more.
  abbrev pub held_next : Held Shape Op → Config Op → Held Shape Op
  held_next v c = record { shape = v.shape; brief = brief place c; count = v.count + 1 }

  -- What taking a record returns. This is for each boosted configuration with the brief of the
  -- Quick. True means that every step of the record meets its criteria there, and the Quick then
  -- has the brief of the configuration after these steps. False means that one of the steps fails,
  -- and the Quick is unchanged.
  abbrev pub TakesIn : Held Shape Op → RunRecord Op → Bool → Held Shape Op → Front → Config Op →
      Type 0
  TakesIn v r true w f c =
      RunsFrom (rules_of o v.shape) c (expand place styles.Boosted f c r)
      × (w ≡ held_next v (after_from c (expand place styles.Boosted f c r)))
  TakesIn v r false w f c =
      (RunsFrom (rules_of o v.shape) c (expand place styles.Boosted f c r) → ⊥) × (w ≡ v)

  abbrev pub Takes : Held Shape Op → RunRecord Op → Bool → Held Shape Op → Type 0
  Takes v r answer w = (f : Front) (c : Config Op) → IsHeldOf v c → TakesIn v r answer w f c

  -- The Quick before the first record, after this start if there is one.
  abbrev pub held_first : Shape → Option (Start Op) → Held Shape Op
  held_first shape h = record { shape = shape; brief = brief place (first h); count = 0 }

  -- What starting returns. False means that the start fails, and the Quick is unchanged.
  abbrev pub Starts : Held Shape Op → Start Op → Bool → Held Shape Op → Type 0
  Starts v z true w =
      StartMeets (rules_of o v.shape) (Some z) × (w ≡ held_first v.shape (Some z))
  Starts v z false w = (StartMeets (rules_of o v.shape) (Some z) → ⊥) × (w ≡ v)

-- The record means this many steps, in each boosted configuration with this brief.
abbrev pub HasSteps : {Shape State Op Undo : Type 0} → Object Shape State Op Undo → (Op → ℕ) →
    Held Shape Op → RunRecord Op → ℕ → Type 0
HasSteps {Op = Op} o place v r n =
    (f : Front) (c : Config Op) → IsHeldOf o place v c →
    n ≡ length (expand place styles.Boosted f c r)

-- How many own operations an open transaction has.
abbrev pub own_count : {Op : Type 0} → Name → Brief Op → ℕ
own_count t B = length (own_list (brief_of t B.opened))

-- The most that taking a record costs, whether it is good or not. An operation is applied once,
-- and an abort or a retry takes each own operation back.
abbrev pub take_most : {Op : Type 0} → Brief Op → RunRecord Op → ℕ
take_most B (records.Plain step) = 0
take_most B (records.Op t id op) = 1
take_most B (records.Commit t) = 0
take_most B (records.Abort t) = own_count t B
take_most B (records.Retry t) = own_count t B
take_most B (records.Refresh t q) = 0
take_most B (records.XBegin t) = 0
take_most B (records.XEnd t) = 0
take_most B (records.XAbort t) = 0
take_most B (records.Depend t source) = 0
take_most B (records.Publish t) = 0
take_most B (records.DropSource t source) = 0

-- The cost of a good record.
abbrev pub GoodCosts : {Op : Type 0} → Brief Op → RunRecord Op → ℕ → ℕ → Type 0
GoodCosts B r old new = new ≡ old + take_most B r

-- The cost of taking a record, by whether it is good. A record that is not good costs nothing.
abbrev pub TakeCosts : {Op : Type 0} → Brief Op → RunRecord Op → Bool → ℕ → ℕ → Type 0
TakeCosts B r true old new = GoodCosts B r old new
TakeCosts B r false old new = new ≡ old
