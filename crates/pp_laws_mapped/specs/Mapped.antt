-- A run whose operations are mapped to other operations, and whose objects are numbered
-- anew.
use Rattle.std.specs.Prelude.{◌≡◌, ℕ, map, Option, None, Some}
use Rattle.pp_model.specs.Config.{Step, Start, Begin, App, Unapp, Push, Unpush, Pull, Unpull, Cmt}
use Rattle.pp_model.specs.Config.{Quit, Note}
use Rattle.pp_model.specs.Object.{Item}
use Rattle.pp_records.specs.Records.{RunRecord}
use Rattle.pp_records.specs.Records as records
use Rattle.pp_records.specs.Runs.{LinedSteps, Records}

-- an operation with its id
abbrev pub mapped_item : {A B : Type 0} → (A → B) → Item A → Item B
mapped_item f p = record { id = p.id; op = f p.op }

-- a start
abbrev pub mapped_start : {A B : Type 0} → (A → B) → Option (Start A) → Option (Start B)
mapped_start f None = None
mapped_start f (Some z) = Some (record { tx = z.tx; items = map (mapped_item f) z.items })

-- a step
abbrev pub mapped_step : {A B : Type 0} → (A → B) → Step A → Step B
mapped_step f (Begin t p b) = Begin t p b
mapped_step f (App t id op) = App t id (f op)
mapped_step f (Unapp t id) = Unapp t id
mapped_step f (Push t id) = Push t id
mapped_step f (Unpush t id) = Unpush t id
mapped_step f (Pull t id) = Pull t id
mapped_step f (Unpull t id) = Unpull t id
mapped_step f (Cmt t) = Cmt t
mapped_step f (Quit t) = Quit t
mapped_step f (Note t) = Note t

-- steps on their lines
abbrev pub mapped_steps : {A B : Type 0} → (A → B) → LinedSteps A → LinedSteps B
mapped_steps f ss = map (λ s. record { line = s.line; what = mapped_step f s.what }) ss

-- A record. The object p of a refresh is then the object n p.
abbrev pub mapped_record : {A B : Type 0} → (A → B) → (ℕ → ℕ) → RunRecord A → RunRecord B
mapped_record f n (records.Plain step) = records.Plain (mapped_step f step)
mapped_record f n (records.Op t id op) = records.Op t id (f op)
mapped_record f n (records.Commit t) = records.Commit t
mapped_record f n (records.Abort t) = records.Abort t
mapped_record f n (records.Retry t) = records.Retry t
mapped_record f n (records.Refresh t p) = records.Refresh t (n p)
mapped_record f n (records.XBegin t) = records.XBegin t
mapped_record f n (records.XEnd t) = records.XEnd t
mapped_record f n (records.XAbort t) = records.XAbort t
mapped_record f n (records.Depend t source) = records.Depend t source
mapped_record f n (records.Publish t) = records.Publish t
mapped_record f n (records.DropSource t source) = records.DropSource t source

-- records on their lines
abbrev pub mapped_records : {A B : Type 0} → (A → B) → (ℕ → ℕ) → Records (RunRecord A) →
    Records (RunRecord B)
mapped_records f n rs = map (λ r. record { line = r.line; what = mapped_record f n r.what }) rs

-- a begin has no body
abbrev pub StepHasNoBody : {Op : Type 0} → Step Op → Type 0
StepHasNoBody (Begin t p b) = b ≡ None
StepHasNoBody (App t id op) = Unit {0}
StepHasNoBody (Unapp t id) = Unit {0}
StepHasNoBody (Push t id) = Unit {0}
StepHasNoBody (Unpush t id) = Unit {0}
StepHasNoBody (Pull t id) = Unit {0}
StepHasNoBody (Unpull t id) = Unit {0}
StepHasNoBody (Cmt t) = Unit {0}
StepHasNoBody (Quit t) = Unit {0}
StepHasNoBody (Note t) = Unit {0}

-- the same of a record
abbrev pub HasNoBody : {Op : Type 0} → RunRecord Op → Type 0
HasNoBody (records.Plain step) = StepHasNoBody step
HasNoBody (records.Op t id op) = Unit {0}
HasNoBody (records.Commit t) = Unit {0}
HasNoBody (records.Abort t) = Unit {0}
HasNoBody (records.Retry t) = Unit {0}
HasNoBody (records.Refresh t p) = Unit {0}
HasNoBody (records.XBegin t) = Unit {0}
HasNoBody (records.XEnd t) = Unit {0}
HasNoBody (records.XAbort t) = Unit {0}
HasNoBody (records.Depend t source) = Unit {0}
HasNoBody (records.Publish t) = Unit {0}
HasNoBody (records.DropSource t source) = Unit {0}
