-- Runs of each style by hand, as the definitions compute them. Operations are numbers, all on the
-- object 0.
use Rattle.std.specs.Prelude.{◌≡◌, ℕ, List, [], ◌∷◌, None}
use Rattle.std.proofs.Common.{refl}
use Rattle.pp_core.specs.declared.call.Kind.{Kind}
use Rattle.pp_core.specs.declared.call.Kind.TheVariants as kinds
use Rattle.pp_core.specs.declared.call.Style.{Style}
use Rattle.pp_core.specs.declared.call.Style.TheVariants.{Boosted, Optimistic, Hardware, Dependent}
use Rattle.pp_model.specs.Config.{Step, Begin, App, Unapp, Push, Unpush, Pull, Unpull, Cmt, Quit}
use Rattle.pp_model.specs.Config.{Note}
use Rattle.pp_model.specs.Names.{Name}
use Rattle.pp_records.specs.Records.{RunRecord}
use Rattle.pp_records.specs.Records as records
use Rattle.pp_records.specs.Runs.{bare, joined_steps, outset}
use Rattle.pp_records.specs.Styles.{numbered, translation}

abbrev t1 : Name
t1 = 1 ∷ []

abbrev t2 : Name
t2 = 2 ∷ []

abbrev begin : Name → RunRecord ℕ
begin t = records.Plain (Begin t t None)

abbrev began : Name → Step ℕ
began t = Begin t t None

-- The steps of all records.
abbrev steps : Style → Kind → List (RunRecord ℕ) → List (Step ℕ)
steps style kind rs =
    let T = translation (λ (op : ℕ). 0) style (kind ∷ []) in
    bare (joined_steps T (outset T None) (numbered 1 rs))

-- an abort takes back pushed and pulled entries, from the end
boosted_row : steps Boosted kinds.KeySet (begin t1 ∷ records.Op t1 1 7 ∷ begin t2 ∷ records.Op t2 2 8 ∷ records.Commit t2 ∷ records.Op t1 3 9 ∷ records.Abort t1 ∷ [])
    ≡ began t1 ∷ App t1 1 7 ∷ Push t1 1 ∷ began t2 ∷ App t2 2 8 ∷ Push t2 2 ∷ Cmt t2 ∷ Pull t1 2 ∷ App t1 3 9 ∷ Push t1 3
    ∷ Unpush t1 3 ∷ Unapp t1 3 ∷ Unpull t1 2 ∷ Unpush t1 1 ∷ Unapp t1 1 ∷ Quit t1 ∷ []
boosted_row = refl

-- an operation on an object that L has seen does not refresh
optimistic_row : steps Optimistic kinds.Memory (begin t1 ∷ records.Op t1 1 7 ∷ begin t2 ∷ records.Op t2 2 8 ∷ records.Commit t2 ∷ records.Op t1 3 9 ∷ records.Refresh t1 0 ∷ records.Commit t1 ∷ [])
    ≡ began t1 ∷ App t1 1 7 ∷ began t2 ∷ App t2 2 8 ∷ Push t2 2 ∷ Cmt t2 ∷ App t1 3 9 ∷ Note t1 ∷ Pull t1 2 ∷ Push t1 1 ∷ Push t1 3 ∷ Cmt t1 ∷ []
optimistic_row = refl

-- a section that is taken back, and one that ends
hardware_row : steps Hardware kinds.Memory (begin t1 ∷ records.XBegin t1 ∷ records.Op t1 1 7 ∷ begin t2 ∷ records.Op t2 2 8 ∷ records.Commit t2 ∷ records.XAbort t1 ∷ records.XBegin t1 ∷ records.Op t1 3 9 ∷ records.XEnd t1 ∷ records.Commit t1 ∷ [])
    ≡ began t1 ∷ Note t1 ∷ App t1 1 7 ∷ began t2 ∷ App t2 2 8 ∷ Push t2 2 ∷ Cmt t2 ∷ Note t1 ∷ Unapp t1 1 ∷ Note t1 ∷ Pull t1 2 ∷ App t1 3 9 ∷ Note t1 ∷ Push t1 3 ∷ Cmt t1 ∷ []
hardware_row = refl

-- a source, followed and dropped
dependent_row : steps Dependent kinds.Counter (begin t1 ∷ records.Op t1 1 7 ∷ records.Publish t1 ∷ begin t2 ∷ records.Depend t2 t1 ∷ records.Op t2 2 8 ∷ records.DropSource t2 t1 ∷ records.Commit t2 ∷ records.Commit t1 ∷ [])
    ≡ began t1 ∷ App t1 1 7 ∷ Note t1 ∷ Push t1 1 ∷ began t2 ∷ Note t2 ∷ Pull t2 1 ∷ App t2 2 8 ∷ Note t2 ∷ Unpull t2 1 ∷ Push t2 2 ∷ Cmt t2 ∷ Cmt t1 ∷ []
dependent_row = refl

-- records of a transaction that is not open are one step each
unopened_row : steps Hardware kinds.Memory (records.Op t1 1 7 ∷ records.Commit t1 ∷ records.Abort t1 ∷ records.XEnd t1 ∷ [])
    ≡ App t1 1 7 ∷ Cmt t1 ∷ Quit t1 ∷ Note t1 ∷ []
unopened_row = refl
