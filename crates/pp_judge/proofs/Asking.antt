-- What was read may be asked of a machine.
use Rattle.std.specs.Prelude.{◌≡◌, ℕ, IsTrue, List}
use Rattle.std.proofs.Common.{sym, subst}
use Rattle.pp_core.specs.Catalogs.{Objects}
use Rattle.pp_core.specs.Steps.{Step, Begin, App, Unapp, Push, Unpush, Pull, Unpull, Cmt, Quit}
use Rattle.pp_core.specs.Steps.{Note}
use Rattle.pp_core.specs.Trees.{IsWithinLimits}
use Rattle.pp_core.specs.declared.call.Kind.{Kind}
use Rattle.pp_core.specs.declared.call.Style.{Style}
use Rattle.pp_records.specs.Carried.{Carries, LogsCarry, RecordCarries}
use Rattle.pp_records.proofs.Carrying.{each_in, expand_carry}
use Rattle.pp_records.specs.Expansions.{expand}
use Rattle.pp_records.specs.Fronts.{Front}
use Rattle.pp_records.specs.Records.{RunRecord, Plain}
use Rattle.pp_records.specs.Records as records
use Rattle.pp_format_read.specs.declared.header.Header.{Header}
use Rattle.pp_format_read.specs.Records.{IsReadable}
use Rattle.pp_format_read.specs.Rules.{IsReadableStep}
use Rattle.pp_model.specs.Config.{Config}
use Rattle.pp_model.specs.Lists.{In}
use Rattle.pp_model.specs.Names.{Name}
use Rattle.pp_model.proofs.Lists.{each_from}
use Rattle.pp_objects.specs.Objects.{kinds_of, objects, place_of}
use Rattle.pp_objects.specs.declared.act.Op.{Op}
use Rattle.pp_machine.specs.Machines.{Seen}
use Rattle.pp_machine.specs.Stepping.{IsAsked}
use Rattle.pp_styles.specs.AnyFronts.{any_state, any_style}
use Rattle.pp_styles.specs.declared.any_front.AnyFront.{AnyFront}
use Rattle.pp_judge.proofs.Driving.{steps_here}

-- any name
abbrev pub AnyName : Name → Type 0
AnyName t = Unit {0}

-- any id
abbrev pub AnyId : ℕ → Type 0
AnyId id = Unit {0}

-- In every configuration, each id in the logs meets the condition that every id meets.
pub logs_carry : (c : Config Op) → LogsCarry AnyId c
logs_carry c = (each_from _ c.shared (λ g i. tt), each_from _ c.opened (λ x i. each_from _ x.local (λ e j. tt)))

-- an operation of the objects, in the range of records
abbrev OfKinds : List Kind → Op → Type 0
OfKinds kinds op = IsTrue (objects.fits kinds op) × IsTrue (objects.ranged op)

-- what a step is to carry to be asked
abbrev StepCarries : List Kind → Step Op → Type 0
StepCarries kinds s = Carries AnyName AnyId (OfKinds kinds) IsWithinLimits s

carried_asked : (kinds : List Kind) (s : Step Op) → StepCarries kinds s → IsAsked objects kinds s
carried_asked kinds (Begin t p b) h = h.2
carried_asked kinds (App t id op) h = h.2
carried_asked kinds (Unapp t id) h = tt
carried_asked kinds (Push t id) h = tt
carried_asked kinds (Unpush t id) h = tt
carried_asked kinds (Pull t id) h = tt
carried_asked kinds (Unpull t id) h = tt
carried_asked kinds (Cmt t) h = tt
carried_asked kinds (Quit t) h = tt
carried_asked kinds (Note t) h = tt

read_carries : (catalog : Objects) (step : Step Op) → IsReadableStep catalog step → StepCarries (kinds_of catalog) step
read_carries catalog (Begin t p b) h = (tt, tt, h)
read_carries catalog (App t id op) h = (tt, tt, (h.1, h.2))
read_carries catalog (Unapp t id) h = (tt, tt)
read_carries catalog (Push t id) h = (tt, tt)
read_carries catalog (Unpush t id) h = (tt, tt)
read_carries catalog (Pull t id) h = (tt, tt)
read_carries catalog (Unpull t id) h = (tt, tt)
read_carries catalog (Cmt t) h = tt
read_carries catalog (Quit t) h = tt
read_carries catalog (Note t) h = tt

record_carries : (catalog : Objects) (r : RunRecord Op) → IsReadable catalog r → RecordCarries AnyName AnyId (OfKinds (kinds_of catalog)) IsWithinLimits r
record_carries catalog (Plain step) h = read_carries catalog step h
record_carries catalog (records.Op t id op) h = (tt, tt, (h.1, h.2))
record_carries catalog (records.Commit t) h = tt
record_carries catalog (records.Abort t) h = tt
record_carries catalog (records.Retry t) h = tt
record_carries catalog (records.Refresh t o) h = tt
record_carries catalog (records.XBegin t) h = tt
record_carries catalog (records.XEnd t) h = tt
record_carries catalog (records.XAbort t) h = tt
record_carries catalog (records.Depend t source) h = (tt, tt)
record_carries catalog (records.Publish t) h = tt
record_carries catalog (records.DropSource t source) h = (tt, tt)

-- each step that a record means may be asked
pub expansion_asked : (catalog : Objects) (style : Style) (f : Front) (c : Config Op) (r : RunRecord Op) → IsReadable catalog r → (step : Step Op) → In step (expand place_of style f c r)
    → IsAsked objects (kinds_of catalog) step
expansion_asked catalog style f c r readable step there =
    let kinds : List Kind = kinds_of catalog in
    let all = expand_carry AnyName AnyId (OfKinds kinds) IsWithinLimits place_of style f c r (logs_carry c) (record_carries catalog r readable) in
    carried_asked kinds step (each_in (StepCarries kinds) (expand place_of style f c r) all step there)

-- so may each step of a record that is taken here
pub steps_asked : (header : Header) (front : AnyFront) (machine : Seen (List Kind) Op) (r : RunRecord Op) (list : List (Step Op)) → machine.shape ≡ kinds_of header.catalog → IsReadable header.catalog r
    → list ≡ steps_here header front machine r → (step : Step Op) → In step list → IsAsked objects machine.shape step
steps_asked header front machine r list shape readable same step there =
    subst (λ (k : List Kind). IsAsked objects k step) (sym shape)
    (expansion_asked header.catalog (any_style front) (any_state (kinds_of header.catalog) front) machine.config r readable step (subst (λ (w : List (Step Op)). In step w) same there))
