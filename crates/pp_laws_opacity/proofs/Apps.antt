-- Proof machinery: what is seen changes at an APP alone.
use Rattle.std.specs.Prelude.{◌≡◌, ◌≢◌, ◌≤◌, ℕ, List, [], ◌∷◌, ◌++◌, length, take, Option}
use Rattle.std.proofs.Common.{refl, sym, ap, subst, ◌∙◌, arith}
use Rattle.std.proofs.lemmas.List.{take-append-le}
use Rattle.pp_model.specs.Config.{App, Config, LocalEntry, Start, Step, Tx, after, after_from, as_applied, first, then, tx}
use Rattle.pp_model.specs.Config.{relog}
use Rattle.pp_model.specs.Lists.{In}
use Rattle.pp_model.specs.Names.{Name}
use Rattle.pp_model.specs.Object.{Allowed, Item, Object, ops}
use Rattle.pp_model.specs.Rules.{RunsFrom, StartMeets}
use Rattle.pp_model.specs.Serial.{Attempt, attempts, own_of, serial}
use Rattle.pp_model.proofs.Lists.{not_empty}
use Rattle.pp_model.proofs.Logs.{found_tx, in_on_same}
use Rattle.pp_model.proofs.Steps.{there_holds}
use Rattle.pp_model.proofs.Trace.{own_app}
use Rattle.pp_laws_opacity.specs.Opacity.{Began, IsPrefix, IsOpaque, IsOpaqueAtApps, IsOpen, SeesSome}
use Rattle.pp_laws_opacity.proofs.Prefixes.{prefix_trans, ends, last_app}
use Rattle.pp_laws_opacity.proofs.Runs.{attempts_within, fewer_before, front, meets_at, traced_at}

-- The configuration after one more step is the one before it with the effect of the step.
pub after_step : {Op : Type 0} (c : Config Op) (past : List (Step Op)) (s : Step Op) → after_from c (past ++ s ∷ []) ≡ then (after_from c past) s
after_step c [] s = refl
after_step c (a ∷ past) s = after_step (then c a) past s

-- The first n elements are the same in a longer list.
pub fewer : {A : Type 0} (n : ℕ) (xs ys more : List A) → xs ≡ ys ++ more → n ≤ length ys → take n xs ≡ take n ys
fewer {A} n xs ys more e l = ap (λ (w : List A). take n w) e ∙ take-append-le n ys more l

-- The commits that t's attempt saw after `seen` it sees later, while its own list is the same.
pub seen_later : {Op State : Type 0} (O : Object Op State) (h : Option (Start Op)) (met : StartMeets O h) (seen past : List (Step Op)) (t : Name)
    → RunsFrom O (first h) past → IsPrefix seen past → own_of t seen ≡ own_of t past → ((early : List (Step Op)) → Began t early seen → Began t early past)
    → SeesSome O h seen t → SeesSome O h past t
seen_later {Op} O h met seen past t r b own later s =
    let more = attempts_within O h met seen past r b in
    let same = fewer s.n (attempts h past) (attempts h seen) more.0 more.1 s.most in
    let most = s.most in
    let fewer_there = fewer_before O h met seen past r b in
    let within : s.n ≤ length (attempts h past) = omega (arith, most, fewer_there) in
    record {
      early = s.early;
      began = later s.early s.began;
      n = s.n;
      least = s.least;
      most = within;
      sees = subst (λ (w : List (Attempt Op)). Allowed O (serial w ++ ops (own_of t past))) (sym same)
          (subst (λ (w : List (Item Op)). Allowed O (serial (take s.n (attempts h seen)) ++ ops w)) own s.sees);
    }

module _ {Op State : Type 0} (O : Object Op State) (h : Option (Start Op)) (met : StartMeets O h) (ss : List (Step Op)) (run : RunsFrom O (first h) ss) where
  -- Each prefix of an accepted run is accepted.
  pub runs : (past : List (Step Op)) → IsPrefix past ss → RunsFrom O (first h) past
  runs past b = front O h met past b.0 (subst (λ (w : List (Step Op)). RunsFrom O (first h) w) b.1 run)

  -- t is open after its APP, and its own list is not empty
  pub applied_open : (past : List (Step Op)) (t : Name) (id : ℕ) (op : Op) → RunsFrom O (first h) (past ++ App t id op ∷ [])
      → IsOpen h (past ++ App t id op ∷ []) t × (own_of t (past ++ App t id op ∷ []) ≢ [])
  applied_open past t id op r =
      let c = after h past in
      let q = there_holds (tx t c.opened) _ (meets_at O h met past [] (App t id op) r) in
      let x : Tx Op = q.0 in
      let g = found_tx t c.opened x q.1 in
      let add = λ (l : List (LocalEntry Op)). l ++ as_applied t id op ∷ [] in
      let traced = traced_at O h met past (front O h met past (App t id op ∷ []) r) in
      let more = own_app t id op past (λ i. q.2.0 (traced.drops t id i)) in (
        subst (λ (w : Config Op). (y : Tx Op) × In y w.opened × (y.name ≡ t)) (sym (after_step (first h) past (App t id op))) (relog add x, in_on_same t add x c.opened g.0 g.1, g.1),
        λ e. not_empty (own_of t past) [] (record { id = id; op = op }) (sym e ∙ more),
      )

  -- An opaque run is opaque after each of its APP steps.
  pub at_apps : IsOpaque O h ss → IsOpaqueAtApps O h ss
  at_apps opaque past t id op b =
      let a = applied_open past t id op (runs (past ++ App t id op ∷ []) b) in
      opaque (past ++ App t id op ∷ []) t b a.0 a.1

  -- A run that is opaque after each of its APP steps is opaque.
  pub from_apps : IsOpaqueAtApps O h ss → IsOpaque O h ss
  from_apps apps past t b open_there some =
      let e = ends (own_of t past) some in
      let r = runs past b in
      let a = last_app O h met t past r e.0 [] e.1 e.2 in
      let seen : List (Step Op) = a.0 ++ App t (e.1).id (e.1).op ∷ [] in
      let s = apps a.0 t (e.1).id (e.1).op (prefix_trans seen past ss a.1 b) in
      seen_later O h met seen past t r a.1 (a.2 ∙ sym e.2) a.3 s

-- If all prefixes of a run are opaque, so are those of a prefix.
pub opaque_before : {Op State : Type 0} (O : Object Op State) (h : Option (Start Op)) (past ss : List (Step Op)) → IsPrefix past ss → IsOpaque O h ss → IsOpaque O h past
opaque_before O h past ss b opaque early t i = opaque early t (prefix_trans early past ss i b)
