-- The first zombie of a run, and the text of a run.
use Rattle.std.specs.Prelude.{◌≡◌, ◌+◌, ℕ, List, [], ◌∷◌, ◌++◌, length, slice_get, Option, Some}
use Rattle.std.proofs.Common.{refl, sym, ap, ◌∙◌, subst, arith, append_assoc}
use Rattle.std.proofs.lemmas.List.{append-nil, length-append}
use Rattle.std.proofs.lemmas.Option.{same_Some}
use mathlib.Core.Logic.{inl, inr}
use Rattle.pp_core.specs.declared.status.Status.{Status}
use Rattle.pp_core.specs.declared.status.Status.TheVariants as statuses
use Rattle.pp_records.proofs.Ends.{heads, tails}
use Rattle.pp_records.specs.Runs.{Lined, LinedSteps, bare}
use Rattle.pp_format_read.specs.declared.header.Header.{Header}
use Rattle.pp_model.specs.Config.{Start, Step, Begin, App, Unapp, Push, Unpush, Pull, Unpull, Cmt, Quit, Note, first}
use Rattle.pp_model.specs.Names.{Name}
use Rattle.pp_model.specs.Object.{Object}
use Rattle.pp_model.specs.Rules.{RunsFrom, StartMeets}
use Rattle.pp_model.specs.Serial.{attempts, own_of}
use Rattle.pp_model.proofs.Lists.{not_empty}
use Rattle.pp_objects.specs.declared.act.Op.{Op}
use Rattle.pp_laws_opacity.specs.Opacity.{IsOpaqueAtApps, IsPrefix, SeesSome}
use Rattle.pp_laws_opacity.specs.Zombies.{IsZombie, Zombie}
use Rattle.pp_laws_opacity.proofs.Apps.{applied_open, from_apps, opaque_before, runs}
use Rattle.pp_laws_opacity.proofs.Prefixes.{began_open, prefix_cases}
use Rattle.pp_laws_opacity.proofs.Runs.{front}
use Rattle.pp_laws_opacity.proofs.Zombies.{at_app, not_opaque, one_zombie}
use Rattle.pp_opacity.proofs.Zombies.{opaque_first, opaque_next}
use Rattle.pp_opacity.specs.Results.{as_zombie}
use Rattle.pp_opacity.specs.declared.zombie.Zombie.{Zombie as Found}
use Rattle.pp_judge.specs.Objects.{object_of, start_of}
use Rattle.pp_cmd_opaque.specs.Outputs.{IsOpaqueText, IsRunOutput, IsStepOn, IsZombieText}
use Rattle.pp_cmd_opaque.specs.Texts.{opaque_text, zombie_text}

-- ---- lines

-- Each step of a run is on some line.
pub some_line : (run : LinedSteps Op) (before rest : List (Step Op)) (s : Step Op) → bare run ≡ before ++ s ∷ rest
    → (at_line : ℕ) × (slice_get run (length before) ≡ Some (record { line = at_line; what = s }))
some_line [] before rest s e = absurd (not_empty before rest s e)
some_line (x ∷ run) [] rest s e =
    let same : x.what ≡ s = heads x.what s (bare run) rest e in
    (x.line, ap (λ (w : Step Op). let l : Lined (Step Op) = record { line = x.line; what = w } in Some l) same)
some_line (x ∷ run) (b ∷ before) rest s e = some_line run before rest s (tails x.what b (bare run) (before ++ s ∷ rest) e)

-- A step is on one line.
pub one_line : (run : LinedSteps Op) (number a b : ℕ) → IsStepOn run number a → IsStepOn run number b → a ≡ b
one_line run number a b (i, s, n, there) (j, t, m, here) =
    let same : i ≡ j = omega (arith, n, m) in
    ap (λ (l : Lined (Step Op)). l.line)
    (same_Some (record { line = a; what = s }) (record { line = b; what = t }) (sym there ∙ ap (λ (k : ℕ). slice_get run k) same ∙ here))

-- ---- a run is opaque or has a first zombie

-- a zombie, as it is found
abbrev pub as_found : Zombie Op → Found Op
as_found z = record { step = z.step; tx = z.tx; least = z.least; most = z.most; items = z.items }

module _ {State : Type 0} (O : Object Op State) (h : Option (Start Op)) (met : StartMeets O h) where
  -- a run that is opaque so far has its first zombie after an APP whose transaction sees nothing
  zombie_after : (rest past : List (Step Op)) (u : Name) (id : ℕ) (op : Op) → RunsFrom O (first h) (past ++ App u id op ∷ rest) → IsOpaqueAtApps O h past
      → (SeesSome O h (past ++ App u id op ∷ []) u → ⊥) → (z : Zombie Op) × IsZombie O h (past ++ App u id op ∷ rest) z
  zombie_after rest past u id op run apps unseen =
      let s : Step Op = App u id op in
      let now : List (Step Op) = past ++ s ∷ [] in
      let within : IsPrefix now (past ++ s ∷ rest) = (rest, sym (append_assoc past (s ∷ []) rest)) in
      let runs_now = runs O h met (past ++ s ∷ rest) run now within in
      let open_now = applied_open O h met now runs_now past u id op runs_now in
      let began = began_open O h met u now runs_now open_now.0 in
      let z : Zombie Op = record { step = length now; tx = u; least = length (attempts h began.0); most = length (attempts h now); items = own_of u now } in (
        z,
        record {
          past = now;
          within = within;
          step = refl;
          opened = open_now.0;
          early = began.0;
          began = began.1;
          least = refl;
          most = refl;
          items = refl;
          some = open_now.1;
          unexplained = λ n low high sees. unseen (record { early = began.0; began = began.1; n = n; least = low; most = high; sees = sees });
          first = λ before b less. elim (prefix_cases before past s b) [
            | inl i ↦ opaque_before O h before past i (from_apps O h met past (front O h met past (s ∷ []) runs_now) apps)
            | inr e ↦ absurd (less e)
          ];
        },
      )

  -- a run that is opaque so far is opaque after one step more, or has a first zombie
  zombie_or_next : (s : Step Op) (rest past : List (Step Op)) → RunsFrom O (first h) (past ++ s ∷ rest) → IsOpaqueAtApps O h past
      → ((z : Zombie Op) → IsZombie O h (past ++ s ∷ rest) z → ⊥) → (IsOpaqueAtApps O h (past ++ s ∷ []) → ⊥) → ⊥
  zombie_or_next (App u id op) rest past run apps none next =
      let z = zombie_after rest past u id op run apps (λ sees. next (opaque_next O h past (App u id op) apps (λ t i q e.
      let same : u ≡ t = cc in
      subst (λ (w : Name). SeesSome O h (past ++ App u id op ∷ []) w) same sees))) in
      none z.0 z.1
  zombie_or_next (Begin t p b) rest past run apps none next = next (opaque_next O h past (Begin t p b) apps (λ u i q e. absurd (cc)))
  zombie_or_next (Unapp t id) rest past run apps none next = next (opaque_next O h past (Unapp t id) apps (λ u i q e. absurd (cc)))
  zombie_or_next (Push t id) rest past run apps none next = next (opaque_next O h past (Push t id) apps (λ u i q e. absurd (cc)))
  zombie_or_next (Unpush t id) rest past run apps none next = next (opaque_next O h past (Unpush t id) apps (λ u i q e. absurd (cc)))
  zombie_or_next (Pull t id) rest past run apps none next = next (opaque_next O h past (Pull t id) apps (λ u i q e. absurd (cc)))
  zombie_or_next (Unpull t id) rest past run apps none next = next (opaque_next O h past (Unpull t id) apps (λ u i q e. absurd (cc)))
  zombie_or_next (Cmt t) rest past run apps none next = next (opaque_next O h past (Cmt t) apps (λ u i q e. absurd (cc)))
  zombie_or_next (Quit t) rest past run apps none next = next (opaque_next O h past (Quit t) apps (λ u i q e. absurd (cc)))
  zombie_or_next (Note t) rest past run apps none next = next (opaque_next O h past (Note t) apps (λ u i q e. absurd (cc)))

  -- It is impossible that an accepted run is not opaque and has no first zombie.
  pub zombie_or_opaque : (rest past : List (Step Op)) → RunsFrom O (first h) (past ++ rest) → IsOpaqueAtApps O h past → ((z : Zombie Op) → IsZombie O h (past ++ rest) z → ⊥)
      → (IsOpaqueAtApps O h (past ++ rest) → ⊥) → ⊥
  zombie_or_opaque [] past run apps none whole = whole (subst (λ (w : List (Step Op)). IsOpaqueAtApps O h w) (sym (append-nil past)) apps)
  zombie_or_opaque (s ∷ rest) past run apps none whole =
      let is : (past ++ s ∷ []) ++ rest ≡ past ++ s ∷ rest = append_assoc past (s ∷ []) rest in
      zombie_or_next s rest past run apps none (λ more. zombie_or_opaque rest (past ++ s ∷ []) (subst (λ (w : List (Step Op)). RunsFrom O (first h) w) (sym is) run) more
      (λ z it. none z (subst (λ (w : List (Step Op)). IsZombie O h w z) is it)) (λ all. whole (subst (λ (w : List (Step Op)). IsOpaqueAtApps O h w) is all)))

-- ---- the output of an accepted run

module _ (header : Header) (run : LinedSteps Op) (met : StartMeets (object_of header) (start_of header)) (holds : RunsFrom (object_of header) (first (start_of header)) (bare run)) where
  one_zombie_text : (t u : List ℕ) → IsZombieText header run t → IsZombieText header run u → t ≡ u
  one_zombie_text t u (z, a, is, on, text) (w, b, it, at, other) =
      let same : as_zombie z ≡ as_zombie w = one_zombie (object_of header) (start_of header) met (bare run) holds (as_zombie z) (as_zombie w) is it in
      let found : z ≡ w = ap as_found same in
      let lines : a ≡ b = one_line run w.step a b (subst (λ (v : Found Op). IsStepOn run v.step a) found on) at in
      text ∙ ap (λ (v : Found Op). zombie_text header.catalog a v) found ∙ ap (λ (n : ℕ). zombie_text header.catalog n w) lines ∙ sym other

  -- A run is not both opaque and one with a first zombie.
  pub opaque_no_zombie : (t u : List ℕ) → IsOpaqueText header run t → IsZombieText header run u → ⊥
  opaque_no_zombie t u a (w, b, it, at, other) =
      not_opaque (object_of header) (start_of header) (bare run) (bare run) (as_zombie w) it it.within a.0

  -- An accepted run has one status and one text at most.
  pub one_run_output : (s s' : Status) (t t' : List ℕ) → IsRunOutput header run s t → IsRunOutput header run s' t' → (s ≡ s') × (t ≡ t')
  one_run_output s s' t t' (inl a) (inl b) = (a.0 ∙ sym b.0, a.1.1 ∙ sym b.1.1)
  one_run_output s s' t t' (inl a) (inr b) = absurd (opaque_no_zombie t t' a.1 b.1)
  one_run_output s s' t t' (inr a) (inl b) = absurd (opaque_no_zombie t' t b.1 a.1)
  one_run_output s s' t t' (inr a) (inr b) = (a.0 ∙ sym b.0, one_zombie_text t t' a.1 b.1)

  -- The step after which a zombie is there is on some line.
  pub zombie_on_line : (z : Zombie Op) → IsZombie (object_of header) (start_of header) (bare run) z → (at_line : ℕ) × IsStepOn run z.step at_line
  zombie_on_line z is =
      let a = at_app (object_of header) (start_of header) met (bare run) holds z is in
      let s : Step Op = App z.tx a.1 a.2 in
      let rest = (is.within).0 in
      let parts : bare run ≡ a.0 ++ s ∷ rest = (is.within).1 ∙ ap (λ (w : List (Step Op)). w ++ rest) a.3 ∙ append_assoc a.0 (s ∷ []) rest in
      let there = some_line run a.0 rest s parts in
      let number : z.step ≡ length a.0 + 1 = is.step ∙ ap (λ (w : List (Step Op)). length w) a.3 ∙ length-append a.0 (s ∷ []) in
      (there.0, (length a.0, s, omega (arith, number), there.1))

  -- It is impossible that an accepted run has no output.
  pub some_run_output : ((status : Status) (text : List ℕ) → IsRunOutput header run status text → ⊥) → ⊥
  some_run_output none =
      let O = object_of header in
      let h = start_of header in
      zombie_or_opaque O h met (bare run) [] holds (opaque_first O h)
      (λ z is.
      let line = zombie_on_line z is in
      none statuses.Rejected (zombie_text header.catalog line.0 (as_found z)) (inr (refl, (as_found z, line.0, is, line.1, refl))))
      (λ apps. none statuses.Accepted (opaque_text (length run) (length (attempts h (bare run)))) (inl (refl, (from_apps O h met (bare run) holds apps, refl))))
