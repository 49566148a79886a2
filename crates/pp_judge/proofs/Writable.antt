-- What was read can be written.
use Rattle.std.specs.Prelude.{List, [], ◌∷◌, Option, None, Some}
use Rattle.pp_core.specs.Catalogs.{Objects}
use Rattle.pp_core.specs.Steps.{Step, Begin, App, Unapp, Push, Unpush, Pull, Unpull, Cmt, Quit}
use Rattle.pp_core.specs.Steps.{Note}
use Rattle.pp_core.specs.Trees.{Tree}
use Rattle.pp_core.specs.declared.call.Kind.{Kind}
use Rattle.pp_core.specs.declared.entry.Item.{Item}
use Rattle.pp_records.specs.Carried.{Carries, RecordCarries}
use Rattle.pp_records.proofs.Carrying.{expand_carry}
use Rattle.pp_records.specs.Records.{RunRecord, Plain}
use Rattle.pp_records.specs.Records as records
use Rattle.pp_format_read.specs.declared.header.Header.{Header}
use Rattle.pp_format_read.specs.declared.start.Start.{Start as HeaderStart}
use Rattle.pp_format_write.specs.Statable.{AreWritable, CanStart, EachCall, IfGiven, IsId, IsKnown, IsOpOn}
use Rattle.pp_format_write.specs.Statable.{IsStatable, IsStatableBody, IsStatableRecord, IsWritable}
use Rattle.pp_format_write.specs.Statable.{IsWritableStart}
use Rattle.pp_format_write.proofs.Bodies.{each_known}
use Rattle.pp_model.specs.Lists.{Each}
use Rattle.pp_objects.specs.Objects.{kinds_of, place_of}
use Rattle.pp_objects.specs.declared.act.Op.{Op}
use Rattle.pp_machine.specs.Machines.{Seen}
use Rattle.pp_styles.specs.AnyFronts.{any_state, any_style}
use Rattle.pp_styles.specs.declared.any_front.AnyFront.{AnyFront}
use Rattle.pp_judge.proofs.Asking.{AnyId, AnyName, logs_carry}
use Rattle.pp_judge.proofs.Driving.{steps_here}

-- ---- the steps of a record that was read can be written

given_known : (catalog : Objects) (body : Option Tree) → IfGiven (IsStatableBody catalog) body → IfGiven (EachCall (IsKnown catalog)) body
given_known catalog None h = tt
given_known catalog (Some b) h = each_known catalog b h.calls

stated_written : (catalog : Objects) (step : Step Op) → IsStatable catalog step → IsWritable catalog step
stated_written catalog (Begin t p b) h = given_known catalog b h.2
stated_written catalog (App t id op) h = h.2
stated_written catalog (Unapp t id) h = tt
stated_written catalog (Push t id) h = tt
stated_written catalog (Unpush t id) h = tt
stated_written catalog (Pull t id) h = tt
stated_written catalog (Unpull t id) h = tt
stated_written catalog (Cmt t) h = tt
stated_written catalog (Quit t) h = tt
stated_written catalog (Note t) h = tt

-- what a step is to carry to be written: any name, any id, and the operations and bodies of the objects
abbrev AnyKnown : Objects → Option Tree → Type 0
AnyKnown catalog = IfGiven (EachCall (IsKnown catalog))

abbrev StepCarries : Objects → Step Op → Type 0
StepCarries catalog s = Carries AnyName AnyId (IsOpOn catalog) (AnyKnown catalog) s

carried_written : (catalog : Objects) (step : Step Op) → StepCarries catalog step → IsWritable catalog step
carried_written catalog (Begin t p b) h = h.2
carried_written catalog (App t id op) h = h.2
carried_written catalog (Unapp t id) h = tt
carried_written catalog (Push t id) h = tt
carried_written catalog (Unpush t id) h = tt
carried_written catalog (Pull t id) h = tt
carried_written catalog (Unpull t id) h = tt
carried_written catalog (Cmt t) h = tt
carried_written catalog (Quit t) h = tt
carried_written catalog (Note t) h = tt

written_carries : (catalog : Objects) (step : Step Op) → IsWritable catalog step → StepCarries catalog step
written_carries catalog (Begin t p b) h = (tt, tt, h)
written_carries catalog (App t id op) h = (tt, tt, h)
written_carries catalog (Unapp t id) h = (tt, tt)
written_carries catalog (Push t id) h = (tt, tt)
written_carries catalog (Unpush t id) h = (tt, tt)
written_carries catalog (Pull t id) h = (tt, tt)
written_carries catalog (Unpull t id) h = (tt, tt)
written_carries catalog (Cmt t) h = tt
written_carries catalog (Quit t) h = tt
written_carries catalog (Note t) h = tt

record_carries : (catalog : Objects) (r : RunRecord Op) → IsStatableRecord catalog r → RecordCarries AnyName AnyId (IsOpOn catalog) (AnyKnown catalog) r
record_carries catalog (Plain step) h = written_carries catalog step (stated_written catalog step h)
record_carries catalog (records.Op t id op) h = (tt, tt, h.2)
record_carries catalog (records.Commit t) h = tt
record_carries catalog (records.Abort t) h = tt
record_carries catalog (records.Retry t) h = tt
record_carries catalog (records.Refresh t o) h = tt
record_carries catalog (records.XBegin t) h = tt
record_carries catalog (records.XEnd t) h = tt
record_carries catalog (records.XAbort t) h = tt
record_carries catalog (records.Depend t source) h = (tt, tt)
record_carries catalog (records.Publish t) h = tt
record_carries catalog (records.DropSource t source) h = (tt, tt)

all_written : (catalog : Objects) (steps : List (Step Op)) → Each (StepCarries catalog) steps → Each (IsWritable catalog) steps
all_written catalog [] h = tt
all_written catalog (s ∷ ss) h = (carried_written catalog s h.0, all_written catalog ss h.1)

-- the steps of a record that can be stated
pub record_written : (header : Header) (front : AnyFront) (machine : Seen (List Kind) Op) (r : RunRecord Op) → IsStatableRecord header.catalog r → Each (IsWritable header.catalog) (steps_here header front machine r)
record_written header front machine r stated =
    let catalog = header.catalog in
    all_written catalog (steps_here header front machine r)
    (expand_carry AnyName AnyId (IsOpOn catalog) (AnyKnown catalog) place_of (any_style front) (any_state (kinds_of catalog) front) machine.config r (logs_carry machine.config) (record_carries catalog r stated))

-- ---- and so can a start

items_written : (catalog : Objects) (items : List (Item Op)) → Each (λ p. IsId p.id × IsOpOn catalog p.op) items → AreWritable catalog items
items_written catalog [] h = tt
items_written catalog (p ∷ items) h = (h.0.1, items_written catalog items h.1)

-- A start that the catalog can have can be written.
pub start_written : (catalog : Objects) (start : Option HeaderStart) → CanStart catalog start → IsWritableStart catalog start
start_written catalog None h = tt
start_written catalog (Some start) h = items_written catalog start.ops h.each
