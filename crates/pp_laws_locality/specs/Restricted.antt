-- Meaning: the restriction of a run to an object. Its operations are left, and the bodies are not.
-- Below, o is the object.
use Rattle.std.specs.Prelude.{ℕ, List, ◌==◌, cond, [], ◌∷◌, filter, Option, None, Some}
use Rattle.pp_model.specs.Config.{Step, Start, Begin, App, Unapp, Push, Unpush, Pull, Unpull, Cmt}
use Rattle.pp_model.specs.Config.{Quit, Note}
use Rattle.pp_model.specs.Lists.{Each, In}
use Rattle.pp_records.specs.Records.{RunRecord}
use Rattle.pp_records.specs.Records as records
use Rattle.pp_records.specs.Runs.{Records}

-- A begin has no body.
abbrev pub without_body : {Op : Type 0} → Step Op → Step Op
without_body (Begin t p b) = Begin t p None
without_body (App t id op) = App t id op
without_body (Unapp t id) = Unapp t id
without_body (Push t id) = Push t id
without_body (Unpush t id) = Unpush t id
without_body (Pull t id) = Pull t id
without_body (Unpull t id) = Unpull t id
without_body (Cmt t) = Cmt t
without_body (Quit t) = Quit t
without_body (Note t) = Note t

-- A begin loses its body. An operation or a refresh of another object is left out, and every other
-- record stays. A record of one step stays too, of any object. In the styles of the law it is a
-- BEGIN.
abbrev pub restricted : {Op : Type 0} → (Op → ℕ) → ℕ → RunRecord Op → Option (RunRecord Op)
restricted place o (records.Plain step) = Some (records.Plain (without_body step))
restricted place o (records.Op t id op) = cond (place op == o) (Some (records.Op t id op)) None
restricted place o (records.Commit t) = Some (records.Commit t)
restricted place o (records.Abort t) = Some (records.Abort t)
restricted place o (records.Retry t) = Some (records.Retry t)
restricted place o (records.Refresh t p) = cond (p == o) (Some (records.Refresh t p)) None
restricted place o (records.XBegin t) = Some (records.XBegin t)
restricted place o (records.XEnd t) = Some (records.XEnd t)
restricted place o (records.XAbort t) = Some (records.XAbort t)
restricted place o (records.Depend t source) = Some (records.Depend t source)
restricted place o (records.Publish t) = Some (records.Publish t)
restricted place o (records.DropSource t source) = Some (records.DropSource t source)

-- one more record on this line, if there is one
abbrev pub with_record : {R : Type 0} → ℕ → Option R → Records R → Records R
with_record line None rs = rs
with_record line (Some r) rs = record { line = line; what = r } ∷ rs

-- The restriction of records. Those that stay keep their lines.
abbrev pub restricted_records : {Op : Type 0} → (Op → ℕ) → ℕ → Records (RunRecord Op) →
    Records (RunRecord Op)
restricted_records place o [] = []
restricted_records place o (r ∷ rs) =
    with_record r.line (restricted place o r.what) (restricted_records place o rs)

-- The restriction of the start.
abbrev pub restricted_start : {Op : Type 0} → (Op → ℕ) → ℕ → Option (Start Op) → Option (Start Op)
restricted_start place o None = None
restricted_start place o (Some z) =
    Some (record { tx = z.tx; items = filter (λ p. place p.op == o) z.items })

-- The record is on one of these objects, or on none.
abbrev pub IsOn : {Op : Type 0} → (Op → ℕ) → List ℕ → RunRecord Op → Type 0
IsOn place objects (records.Plain step) = Unit {0}
IsOn place objects (records.Op t id op) = In (place op) objects
IsOn place objects (records.Commit t) = Unit {0}
IsOn place objects (records.Abort t) = Unit {0}
IsOn place objects (records.Retry t) = Unit {0}
IsOn place objects (records.Refresh t o) = In o objects
IsOn place objects (records.XBegin t) = Unit {0}
IsOn place objects (records.XEnd t) = Unit {0}
IsOn place objects (records.XAbort t) = Unit {0}
IsOn place objects (records.Depend t source) = Unit {0}
IsOn place objects (records.Publish t) = Unit {0}
IsOn place objects (records.DropSource t source) = Unit {0}

-- The operations of the start are on these objects.
abbrev pub StartIsOn : {Op : Type 0} → (Op → ℕ) → List ℕ → Option (Start Op) → Type 0
StartIsOn place objects None = Unit {0}
StartIsOn place objects (Some z) = Each (λ p. In (place p.op) objects) z.items
