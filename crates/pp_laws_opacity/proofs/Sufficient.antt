-- Proof machinery: conditions under which runs are opaque.
use Rattle.std.specs.Prelude.{◌≡◌, ℕ, not, List, [], ◌∷◌, ◌++◌, filter, length, map, take, Option, Some}
use Rattle.std.proofs.Common.{refl, sym, ap, subst, ◌∙◌, arith, append_assoc}
use Rattle.std.proofs.lemmas.List.{append-nil, map-append, take_all}
use Rattle.pp_model.specs.Config.{App, CommittedTx, LocalEntry, Push, Pushed, Start, Step, Tx}
use Rattle.pp_model.specs.Config.{after, commit_effect, first, is_own, item}
use Rattle.pp_model.specs.Config.{local_ops, own, own_items, relog, set_mark, shared_ops, tx}
use Rattle.pp_model.specs.Config.{uncommitted}
use Rattle.pp_model.specs.Lists.{In, joined}
use Rattle.pp_model.specs.Names.{Name}
use Rattle.pp_model.specs.Object.{Allowed, Item, Object, ops}
use Rattle.pp_model.specs.Rules.{RunsFrom, StartMeets}
use Rattle.pp_model.specs.Serial.{Attempt, attempts, committed_tx, own_of, serial}
use Rattle.pp_model.specs.Sound.{serial_items, serial_ops}
use Rattle.pp_model.proofs.Commit.{committed_keeps}
use Rattle.pp_model.proofs.Logs.{found_tx, in_on_same}
use Rattle.pp_model.proofs.Parted.{views}
use Rattle.pp_model.proofs.Permute.{permuted}
use Rattle.pp_model.proofs.Serial.{allowed_front, may_run_serially}
use Rattle.pp_model.proofs.Steps.{there_holds}
use Rattle.pp_model.proofs.Trace.{own_quiet}
use Rattle.pp_laws_opacity.specs.Opacity.{IsPrefix, IsOpaque, IsOpaqueAtApps, IsOpen, SeesSome}
use Rattle.pp_laws_opacity.specs.Sufficient.{HasPushed, HasSnapshot, HasSnapshots, PushesAtOnce, pulled_items}
use Rattle.pp_laws_opacity.proofs.Apps.{applied_open, from_apps, runs}
use Rattle.pp_laws_opacity.proofs.AtOnce.{opened_by_push, pushed_after}
use Rattle.pp_laws_opacity.proofs.Prefixes.{began_some}
use Rattle.pp_laws_opacity.proofs.Runs.{attempts_step, fewer_before, meets_at, sound_at, traced_at}

same_serial : {Op : Type 0} (l : List (Attempt Op)) → serial_items (map committed_tx l) ≡ joined (map (λ (a : Attempt Op). a.items) l)
same_serial [] = refl
same_serial {Op} (a ∷ l) = ap (λ (w : List (Item Op)). a.items ++ w) (same_serial l)

serial_items-append : {Op : Type 0} (l k : List (CommittedTx Op)) → serial_items (l ++ k) ≡ serial_items l ++ serial_items k
serial_items-append [] k = refl
serial_items-append {Op} (d ∷ l) k = ap (λ (w : List (Item Op)). d.entries ++ w) (serial_items-append l k) ∙ sym (append_assoc d.entries (serial_items l) (serial_items k))

ops_of : {Op : Type 0} (l : List (LocalEntry Op)) → local_ops l ≡ ops (map item l)
ops_of [] = refl
ops_of {Op} (e ∷ l) = ap (λ (w : List Op). e.op ∷ w) (ops_of l)

module _ {Op State : Type 0} (O : Object Op State) (h : Option (Start Op)) (met : StartMeets O h) where
  -- a transaction that has pushed all could commit at once
  all_pushed : (ss : List (Step Op)) (t : Name) → RunsFrom O (first h) ss → (x : Tx Op) → In x (after h ss).opened → x.name ≡ t → HasPushed h ss t
      → Allowed O (serial (attempts h ss) ++ ops (own_of t ss))
  all_pushed ss t run x i n pushed =
      let c = after h ss in
      let s = committed_keeps O c (sound_at O h met ss run) t x i n (pushed x i n) in
      let c2 = commit_effect c t (Some x) in
      let new : CommittedTx Op = record { name = t; entries = own_items x.local } in
      let traced = traced_at O h met ss run in
      let shared : Allowed O (shared_ops c2.shared ++ []) = subst (λ (w : List Op). Allowed O w) (sym (append-nil (shared_ops c2.shared))) s.shared_allowed in
      let ran = may_run_serially O c2 s [] shared in
      let before : Allowed O (serial_ops (c.done ++ new ∷ [])) = allowed_front O O.start (serial_ops (c.done ++ new ∷ [])) (shared_ops (uncommitted c2.shared) ++ []) ran in
      let own : own_items x.local ≡ own_of t ss = traced.lists x i ∙ ap (λ (w : Name). own_of w ss) n in
      let parts : serial_ops (c.done ++ new ∷ []) ≡ serial_ops c.done ++ ops (own_items x.local) =
      ap (λ (w : List (Item Op)). ops w) (serial_items-append c.done (new ∷ []) ∙ ap (λ (w : List (Item Op)). serial_items c.done ++ w) (append-nil (own_items x.local)))
      ∙ map-append (λ (p : Item Op). p.op) (serial_items c.done) (own_items x.local) in
      let done : serial_ops c.done ≡ serial (attempts h ss) = ap (λ (w : List (CommittedTx Op)). serial_ops w) traced.done ∙ ap (λ (w : List (Item Op)). ops w) (same_serial (attempts h ss)) in
      subst (λ (w : List Op). Allowed O w) (parts ∙ ap (λ (w : List Op). w ++ ops (own_items x.local)) done ∙ ap (λ (w : List (Item Op)). serial (attempts h ss) ++ ops w) own) before

  -- The own list of a transaction that pushed all is allowed after all committed transactions.
  pub pushed_sees : (ss : List (Step Op)) (t : Name) → RunsFrom O (first h) ss → (x : Tx Op) → In x (after h ss).opened → x.name ≡ t → HasPushed h ss t
      → Allowed O (serial (take (length (attempts h ss)) (attempts h ss)) ++ ops (own_of t ss))
  pushed_sees ss t run x i n pushed =
      subst (λ (w : List (Attempt Op)). Allowed O (serial w ++ ops (own_of t ss))) (sym (take_all (length (attempts h ss)) (attempts h ss) (omega arith))) (all_pushed ss t run x i n pushed)

  -- t is open after its PUSH
  pushed_open : (past : List (Step Op)) (t : Name) (id : ℕ) → RunsFrom O (first h) (past ++ Push t id ∷ []) → IsOpen h (past ++ Push t id ∷ []) t
  pushed_open past t id run =
      let c = after h past in
      let q = there_holds (tx t c.opened) _ (meets_at O h met past [] (Push t id) run) in
      let x : Tx Op = q.0 in
      let g = found_tx t c.opened x q.1 in
      let mark = set_mark {Op = Op} id Pushed in
      subst (λ (w : List (Tx Op)). (y : Tx Op) × In y w × (y.name ≡ t)) (sym (opened_by_push O h met past t id run))
      (relog mark x, in_on_same t mark x c.opened g.0 g.1, g.1)

  module _ (ss : List (Step Op)) (run : RunsFrom O (first h) ss) where
    eager_apps : PushesAtOnce ss → IsOpaqueAtApps O h ss
    eager_apps eager past t id op b =
        let past1 : List (Step Op) = past ++ App t id op ∷ [] in
        let e = eager.app past b.0 t id op (b.1 ∙ append_assoc past (App t id op ∷ []) b.0) in
        let past2 : List (Step Op) = past1 ++ Push t id ∷ [] in
        let within : IsPrefix past2 ss = (e.0, b.1 ∙ ap (λ (w : List (Step Op)). past1 ++ w) e.1 ∙ sym (append_assoc past1 (Push t id ∷ []) e.0)) in
        let run2 = runs O h met ss run past2 within in
        let run1 = runs O h met ss run past1 b in
        let p = pushed_open past1 t id run2 in
        let sees = all_pushed past2 t run2 p.0 p.1 p.2 (pushed_after O h met ss run eager past1 t id within) in
        let some = applied_open O h met ss run past t id op run1 in
        let began = began_some O h met t past1 run1 some.1 in
        let A = attempts h past1 in
        let same : attempts h past2 ≡ A = attempts_step O h met past1 (Push t id) run2 ∙ append-nil A in
        let own : own_of t past2 ≡ own_of t past1 = own_quiet t past1 (Push t id) refl refl in
        record {
          early = began.0;
          began = began.1;
          n = length A;
          least = fewer_before O h met began.0 past1 run1 (began.1).within;
          most = omega arith;
          sees = subst (λ (w : List (Attempt Op)). Allowed O (serial w ++ ops (own_of t past1))) (sym (take_all (length A) A (omega arith)))
              (subst (λ (w : List (Attempt Op)). Allowed O (serial w ++ ops (own_of t past1))) same
              (subst (λ (w : List (Item Op)). Allowed O (serial (attempts h past2) ++ ops w)) own sees));
        }

    -- An accepted run that pushes each operation at once is opaque.
    pub eager_opaque : PushesAtOnce ss → IsOpaque O h ss
    eager_opaque eager = from_apps O h met ss run (eager_apps eager)

    snapshot_sees : (past : List (Step Op)) (t : Name) → RunsFrom O (first h) past → HasSnapshot O h past t → SeesSome O h past t
    snapshot_sees past t r s =
        let x : Tx Op = s.x in
        let pulled = filter (λ (e : LocalEntry Op). not (is_own e.mark)) x.local in
        let view = views O (after h past) (sound_at O h met past r) x s.opened in
        let own_is : local_ops (own x.local) ≡ ops (own_of t past) =
        ops_of (own x.local) ∙ ap (λ (w : List (Item Op)). ops w) ((traced_at O h met past r).lists x s.opened ∙ ap (λ (w : Name). own_of w past) s.name) in
        let front_then_own : Allowed O (ops (pulled_items x.local) ++ ops (own_of t past)) =
        subst (λ (w : List Op). Allowed O (w ++ ops (own_of t past))) (ops_of pulled) (subst (λ (w : List Op). Allowed O (local_ops pulled ++ w)) own_is view) in
        record {
          early = s.early;
          began = s.began;
          n = s.n;
          least = s.least;
          most = s.most;
          sees = permuted O (joined (map (λ (a : Attempt Op). a.items) (take s.n (attempts h past)))) (pulled_items x.local) [] (ops (own_of t past)) s.same front_then_own;
        }

    -- An accepted run whose attempts see snapshots is opaque.
    pub snapshots_opaque : HasSnapshots O h ss → IsOpaque O h ss
    snapshots_opaque all = from_apps O h met ss run (λ past t id op b.
        snapshot_sees (past ++ App t id op ∷ []) t (runs O h met ss run (past ++ App t id op ∷ []) b) (all past t id op b))
