-- Proof machinery: runs that are opaque so far, and their first zombie.
use Rattle.std.specs.Prelude.{◌≡◌, ◌≤◌, ◌+◌, ℕ, List, [], ◌∷◌, ◌++◌, length, Option, None, Some}
use Rattle.std.proofs.Common.{sym, ap, subst, ◌∙◌, append_assoc}
use Rattle.std.proofs.lemmas.List.{length-append}
use Rattle.std.proofs.lemmas.Option.{same_Some}
use mathlib.Core.Logic.{inl, inr}
use Rattle.pp_model.specs.Config.{App, CommittedTx, Start, Step, last}
use Rattle.pp_model.specs.Names.{Name}
use Rattle.pp_model.specs.Object as model
use Rattle.pp_model.specs.Object.{Item}
use Rattle.pp_model.proofs.Lists.{not_empty}
use Rattle.pp_kind.specs.Object.{Object, rules_of}
use Rattle.pp_laws_opacity.specs.Opacity.{IsOpaqueAtApps, SeesSome}
use Rattle.pp_laws_opacity.specs.Zombies.{IsZombie, Zombie}
use Rattle.pp_laws_opacity.proofs.Apps.{applied_open, from_apps, opaque_before}
use Rattle.pp_laws_opacity.proofs.Prefixes.{last_end, prefix_cases}
use Rattle.pp_opacity.specs.Attempts.{OpenAttempt, least_in, own_in}
use Rattle.pp_opacity.specs.Replays.{Follows, IsSeen}
use Rattle.pp_opacity.specs.Results.{IsRun, as_zombie}
use Rattle.pp_opacity.specs.declared.zombie.Zombie.{Zombie as Found}
use Rattle.pp_opacity.proofs.Replays.{began_after_app, now_runs, now_within, past_runs}

-- No step has no zombie.
pub opaque_first : {Op State : Type 0} (O : model.Object Op State) (h : Option (Start Op)) → IsOpaqueAtApps O h []
opaque_first {Op} O h past t id op b = absurd (not_empty past b.0 (App t id op) (b.1 ∙ append_assoc past (App t id op ∷ []) b.0))

-- A run that is opaque so far is opaque after a step that is no APP, or whose transaction sees what some commits left.
pub opaque_next : {Op State : Type 0} (O : model.Object Op State) (h : Option (Start Op)) (past : List (Step Op)) (s : Step Op)
    → IsOpaqueAtApps O h past → IsSeen O h past s None → IsOpaqueAtApps O h (past ++ s ∷ [])
opaque_next {Op} O h past s apps seen before t id op b = elim (prefix_cases (before ++ App t id op ∷ []) past s b) [
  | inl i ↦ apps before t id op i
  | inr e ↦
      let is : s ≡ App t id op = same_Some s (App t id op) (sym (last_end past s) ∙ ap (λ (w : List (Step Op)). last w) (sym e) ∙ last_end before (App t id op)) in
      subst (λ (w : List (Step Op)). SeesSome O h w t) (sym e) (seen t id op is)
]

module _ {Shape State Op Undo : Type 0} (o : Object Shape State Op Undo) (shape : Shape) (h : Option (Start Op)) (past rest : List (Step Op))
    (committed : List (CommittedTx Op)) (n : ℕ) (kept : List (Name × OpenAttempt Op)) (u : Name) where
  -- what is kept of a transaction, as a zombie after one step more
  abbrev here : Zombie Op
  here = record { step = length past + 1; tx = u; least = least_in u kept; most = n; items = own_in u kept }

  -- after an APP
  zombie_after_app : (id : ℕ) (op : Op) → IsRun o shape h (past ++ App u id op ∷ rest) committed → Follows o shape h (past ++ App u id op ∷ []) committed n kept
      → IsOpaqueAtApps (rules_of o shape) h past → (SeesSome (rules_of o shape) h (past ++ App u id op ∷ []) u → ⊥)
      → IsZombie (rules_of o shape) h (past ++ App u id op ∷ rest) here
  zombie_after_app id op r f apps unseen =
      let O = rules_of o shape in
      let s : Step Op = App u id op in
      let now : List (Step Op) = past ++ s ∷ [] in
      let runs = now_runs o shape h past rest s committed r in
      let open_now = applied_open O h r.met now runs past u id op runs in
      let began = began_after_app o shape h past rest u id op committed n kept r f in
      record {
        past = now;
        within = now_within o shape h past rest s committed r;
        step = sym (length-append past (s ∷ []));
        opened = open_now.0;
        early = began.0;
        began = began.1;
        least = f.least u began.0 began.1;
        most = f.count;
        items = f.own u;
        some = open_now.1;
        unexplained = λ k low high sees. unseen (record {
          early = began.0;
          began = began.1;
          n = k;
          least = subst (λ (i : ℕ). i ≤ k) (f.least u began.0 began.1) low;
          most = subst (λ (i : ℕ). k ≤ i) f.count high;
          sees = sees;
        });
        first = λ before b less. elim (prefix_cases before past s b) [
          | inl i ↦ opaque_before O h before past i (from_apps O h r.met past (past_runs o shape h past rest s committed r) apps)
          | inr e ↦ absurd (less e)
        ];
      }

  -- If a run is opaque so far, and a transaction sees nothing after its APP, it is the first zombie.
  pub zombie_there : (s : Step Op) → IsRun o shape h (past ++ s ∷ rest) committed → Follows o shape h (past ++ s ∷ []) committed n kept
      → IsOpaqueAtApps (rules_of o shape) h past → IsSeen (rules_of o shape) h past s (Some u) → IsZombie (rules_of o shape) h (past ++ s ∷ rest) here
  zombie_there s r f apps (id, op, is, unseen) =
      subst (λ (w : Step Op). IsZombie (rules_of o shape) h (past ++ w ∷ rest) here) (sym is)
      (zombie_after_app id op (subst (λ (w : Step Op). IsRun o shape h (past ++ w ∷ rest) committed) is r) (subst (λ (w : Step Op). Follows o shape h (past ++ w ∷ []) committed n kept) is f)
      apps (subst (λ (w : Step Op). SeesSome (rules_of o shape) h (past ++ w ∷ []) u → ⊥) is unseen))

  -- What is found is what is kept of the transaction.
  pub found_is : (z : Found Op) → z.step ≡ length past + 1 → z.tx ≡ u → z.least ≡ least_in u kept → z.most ≡ n → z.items ≡ own_in u kept → here ≡ as_zombie z
  found_is z a b c d e =
      sym (ap (λ (v : ℕ). the v z.tx z.least z.most z.items) a ∙ ap (λ (v : Name). the (length past + 1) v z.least z.most z.items) b
      ∙ ap (λ (v : ℕ). the (length past + 1) u v z.most z.items) c ∙ ap (λ (v : ℕ). the (length past + 1) u (least_in u kept) v z.items) d
      ∙ ap (λ (v : List (Item Op)). the (length past + 1) u (least_in u kept) n v) e)
    where
      the : ℕ → Name → ℕ → ℕ → List (Item Op) → Zombie Op
      the step tx least most items = record { step = step; tx = tx; least = least; most = most; items = items }
