-- What the front of style hardware keeps where a section begins.
use Rattle.std.proofs.Common.{◌≡◌, ℕ, [], length, Option, None, Some, Result, Ok, Err, OnOk}
use Rattle.std.proofs.Common.{ap, ◌∙◌}
use Rattle.std.specs.Map.{lookup}
use Rattle.std.specs.Option.{option_map}
use Rattle.std.specs.Str.{bytes_eq}
use Rattle.pp_model.specs.Config.{Config, Tx, tx}
use Rattle.pp_model.specs.Names.{Name}
use Rattle.pp_records.specs.Expansions.{LocalLog, changed_where_open, front_of_open}
use Rattle.pp_records.specs.Fronts.{Front, at_name, opened_at, with_section}
use Rattle.pp_styles.specs.declared.hardware.Hardware.{Hardware}
use Rattle.pp_styles.specs.States.{hardware_state}

-- where a transaction is open, the change is that for its local log
changed_there : {Op Shape : Type 0} (x : Option (Tx Op)) (shape : Shape) (local : Shape × LocalLog Op) (f : Front) (changed : LocalLog Op → Front)
    → Some local ≡ option_map (λ (y : Tx Op). (shape, y.local)) x → changed local.1 ≡ front_of_open x f changed
changed_there None shape local f changed is = absurd (let no : Some local ≡ None = is in cc)
changed_there {Op} {Shape} (Some y) shape local f changed is =
    let same : local ≡ (shape, y.local) = cc in
    ap (λ (p : Shape × LocalLog Op). changed p.1) same

-- a section of an open transaction that begins at the end of its local log
pub begun : {Op Shape E : Type 0} (r : Result (Unit {0}) E) (c : Config Op) (t : Name) (f g : Hardware) (shape : Shape) (local : Shape × LocalLog Op) (mark : ℕ)
    → Some local ≡ option_map (λ (y : Tx Op). (shape, y.local)) (tx t c.opened) → mark ≡ length local.1 → g.kinds ≡ f.kinds
    → OnOk r ((u : Name) → lookup (bytes_eq u) g.sections.entries ≡ at_name t (opened_at mark (lookup (bytes_eq t) f.sections.entries)) (λ v. lookup (bytes_eq v) f.sections.entries) u)
    → OnOk r (hardware_state g ≡ changed_where_open c t (hardware_state f) (λ l. with_section (hardware_state f) t (opened_at (length l) ((hardware_state f).section t))))
begun (Err e) c t f g shape local mark is size kinds sections = tt
begun {Op} (Ok _) c t f g shape local mark is size kinds sections =
    let begin : ℕ → Front = λ n. with_section (hardware_state f) t (opened_at n ((hardware_state f).section t)) in
    let here : hardware_state g ≡ begin mark = λ i. record { section = λ u. sections u i; sources = λ u. []; kinds = kinds i } in
    here ∙ ap begin size ∙ changed_there (tx t c.opened) shape local (hardware_state f) (λ (l : LocalLog Op). begin (length l)) is
