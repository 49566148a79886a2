-- Meaning: the names, ids, operations and bodies that the steps of a run carry are those that its
-- records and its start carry.
use Rattle.std.specs.Prelude.{ℕ, List, Option, None, Some}
use Rattle.pp_core.specs.declared.call.Kind.{Kind}
use Rattle.pp_core.specs.declared.call.Style.{Style}
use Rattle.pp_model.specs.Body.{Tree}
use Rattle.pp_model.specs.Config.{Config, Start, Step, Begin, App, Unapp, Push, Unpush, Pull}
use Rattle.pp_model.specs.Config.{Unpull, Cmt, Quit, Note}
use Rattle.pp_model.specs.Lists.{Each}
use Rattle.pp_model.specs.Names.{Name}
use Rattle.pp_model.specs.Object.{Object}
use Rattle.pp_records.specs.Expansions.{expand}
use Rattle.pp_records.specs.Fronts.{Front}
use Rattle.pp_records.specs.Records.{RunRecord, Plain}
use Rattle.pp_records.specs.Records as records
use Rattle.pp_records.specs.Runs.{IsRun, LinedSteps, Records, bare}
use Rattle.pp_records.specs.Styles.{translation}

-- each id in a log of the configuration has the property
abbrev pub LogsCarry : {Op : Type 0} → (ℕ → Type 0) → Config Op → Type 0
LogsCarry OfId c =
    Each (λ g. OfId g.id) c.shared × Each (λ x. Each (λ e. OfId e.id) x.local) c.opened

-- Below, OfName, OfId, OfOp and OfBody are any properties: of names, ids and operations, and of a
-- body or none.
module _ {Op : Type 0} (OfName : Name → Type 0) (OfId : ℕ → Type 0) (OfOp : Op → Type 0)
    (OfBody : Option Tree → Type 0) where
  -- each name, id, operation and body of the step has its property
  abbrev pub Carries : Step Op → Type 0
  Carries (Begin t p b) = OfName t × OfName p × OfBody b
  Carries (App t id op) = OfName t × OfId id × OfOp op
  Carries (Unapp t id) = OfName t × OfId id
  Carries (Push t id) = OfName t × OfId id
  Carries (Unpush t id) = OfName t × OfId id
  Carries (Pull t id) = OfName t × OfId id
  Carries (Unpull t id) = OfName t × OfId id
  Carries (Cmt t) = OfName t
  Carries (Quit t) = OfName t
  Carries (Note t) = OfName t

  -- the same of a record
  abbrev pub RecordCarries : RunRecord Op → Type 0
  RecordCarries (Plain step) = Carries step
  RecordCarries (records.Op t id op) = OfName t × OfId id × OfOp op
  RecordCarries (records.Commit t) = OfName t
  RecordCarries (records.Abort t) = OfName t
  RecordCarries (records.Retry t) = OfName t
  RecordCarries (records.Refresh t o) = OfName t
  RecordCarries (records.XBegin t) = OfName t
  RecordCarries (records.XEnd t) = OfName t
  RecordCarries (records.XAbort t) = OfName t
  RecordCarries (records.Depend t source) = OfName t × OfName source
  RecordCarries (records.Publish t) = OfName t
  RecordCarries (records.DropSource t source) = OfName t × OfName source

  -- the same of a start if there is one
  abbrev pub StartCarries : Option (Start Op) → Type 0
  StartCarries None = Unit {0}
  StartCarries (Some z) = OfName z.tx × Each (λ p. OfId p.id × OfOp p.op) z.items

  -- Each step of a record carries what the record carries, or an id of a log. So each step of a run
  -- carries only what the records and the start carry.
  pub record CarriedLaw {State : Type 0} (O : Object Op State) : Type 0 where
    pub steps : (place : Op → ℕ) (style : Style) (f : Front) (c : Config Op) (r : RunRecord Op) →
        LogsCarry OfId c → RecordCarries r → Each Carries (expand place style f c r)
    pub run : (place : Op → ℕ) (style : Style) (ks : List Kind) (h : Option (Start Op))
        (rs : Records (RunRecord Op)) (run : LinedSteps Op) →
        IsRun O (translation place style ks) h rs run → Each RecordCarries (bare rs) →
        StartCarries h → Each Carries (bare run)
