-- The search for the first zombie of the run of an input.
use Rattle.std.specs.Prelude.{not, ◌≡◌, ◌≤◌, ◌<◌, ◌+◌, List, [], ◌∷◌, length}
use Rattle.std.proofs.Common.{refl, sym, ap, ◌∙◌, subst, arith}
use Rattle.std.proofs.lemmas.List.{length-append}
use Rattle.pp_core.specs.Catalogs.{Objects}
use Rattle.pp_core.specs.declared.call.Kind.{Kind}
use Rattle.pp_core.specs.Steps.{Step, App}
use Rattle.pp_format_write.specs.Statable.{IsWritable}
use Rattle.pp_model.specs.Lists.{In}
use Rattle.pp_model.specs.Names.{Name}
use Rattle.pp_model.specs.Serial.{applied_items, has_id, own_of, unapplied_ids}
use Rattle.pp_model.proofs.Lists.{from_filter, in_left}
use Rattle.pp_attempts.proofs.Orders.{applied_there}
use mathlib.Core.Logic.{inl, inr}
use Rattle.pp_model.specs.Object.{Item}
use Rattle.pp_model.specs.Sound.{serial_ops}
use Rattle.pp_objects.specs.Objects.{kinds_of, objects}
use Rattle.pp_objects.specs.declared.act.Op.{Op}
use Rattle.pp_kind.specs.Object.{AllRanged}
use Rattle.pp_laws_opacity.specs.Zombies.{IsZombie}
use Rattle.pp_laws_opacity.proofs.Zombies.{at_app}
use Rattle.pp_machine.specs.Machines.{Seen}
use Rattle.pp_opacity.specs.Results.{IsRun, as_zombie}
use Rattle.pp_opacity.specs.declared.zombie.Zombie.{Zombie as Found}
use Rattle.pp_records.proofs.Carrying.{each_in}
use Rattle.pp_text.specs.Texts.{EachNamed, IsNamed}
use Rattle.pp_judge.specs.Objects.{object_of, start_of}
use Rattle.pp_judge.specs.Scans.{InputScan}
use Rattle.pp_judge.specs.declared.progress.Tally.{Tally}
use Rattle.pp_cmd_views.proofs.Telling.{committed, few_steps, holds, met}
use Rattle.pp_cmd_views.specs.Taken.{HasSteps}

each_named : (catalog : Objects) (items : List (Item Op)) → ((p : Item Op) → In p items → IsNamed catalog p.op) → EachNamed catalog items
each_named catalog [] all = tt
each_named catalog (x ∷ items) all = (all x (inl refl), each_named catalog items (λ p i. all p (inr i)))

-- an operation of an own list is one of an APP
owned_there : (t : Name) (p : Item Op) (ss : List (Step Op)) → In p (own_of t ss) → In (App t p.id p.op) ss
owned_there t p ss i = applied_there t p ss (from_filter (λ p. not (has_id p.id (unapplied_ids t ss))) p (applied_items t ss) i).0

module _ (sc : InputScan) (tally : Tally) (machine : Seen (List Kind) Op) (steps : List (Step Op)) (h : HasSteps sc tally machine steps)
    (ranged : AllRanged objects (serial_ops machine.config.done)) (few : length (serial_ops machine.config.done) ≤ 200_256) where
  -- The first zombie of the run may be looked for.
  pub run_searched : IsRun objects (kinds_of tally.header.catalog) (start_of tally.header) steps machine.config.done
  run_searched = record {
    met = met sc tally machine steps h;
    run = holds sc tally machine steps h;
    done = committed sc tally machine steps h;
    ranged = ranged;
    fine = λ t id op i. each_in (IsWritable tally.header.catalog) steps h.each (App t id op) i;
    few = let short = few_steps sc tally machine steps h in omega (arith, few, short);
  }

-- The operations of a zombie are on the objects of the header.
pub zombie_named : (sc : InputScan) (tally : Tally) (machine : Seen (List Kind) Op) (steps : List (Step Op)) (h : HasSteps sc tally machine steps)
    (z : Found Op) → IsZombie (object_of tally.header) (start_of tally.header) steps (as_zombie z) → EachNamed tally.header.catalog z.items
zombie_named sc tally machine steps h z is = each_named tally.header.catalog z.items (λ p i.
    let there = subst (λ (l : List (Item Op)). In p l) is.items i in
    let past = owned_there z.tx p is.past there in
    (each_in (IsWritable tally.header.catalog) steps h.each (App z.tx p.id p.op) (subst (λ (w : List (Step Op)). In (App z.tx p.id p.op) w) (sym (is.within).1) (in_left (App z.tx p.id p.op) is.past (is.within).0 past))).0)

-- The step of a zombie is one of the run.
pub zombie_within : (sc : InputScan) (tally : Tally) (machine : Seen (List Kind) Op) (steps : List (Step Op)) (h : HasSteps sc tally machine steps)
    (z : Found Op) → IsZombie (object_of tally.header) (start_of tally.header) steps (as_zombie z) → (0 < z.step) × (z.step ≤ length steps)
zombie_within sc tally machine steps h z is =
    let a = at_app (object_of tally.header) (start_of tally.header) (met sc tally machine steps h) steps (holds sc tally machine steps h) (as_zombie z) is in
    let s : Step Op = App z.tx a.1 a.2 in
    let number : z.step ≡ length a.0 + 1 = is.step ∙ ap (λ (w : List (Step Op)). length w) a.3 ∙ length-append a.0 (s ∷ []) in
    let rest = (is.within).0 in
    let all : length steps ≡ length is.past + length rest = ap (λ (w : List (Step Op)). length w) (is.within).1 ∙ length-append is.past rest in
    let past : z.step ≡ length is.past = is.step in
    (omega (arith, number), omega (arith, past, all))
