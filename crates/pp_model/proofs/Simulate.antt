-- An accepted run is simulated by its committed transactions, one after another.
use Rattle.std.specs.Prelude.{◌≡◌, List, [], ◌∷◌, ◌++◌, map, Option, Some, None}
use Rattle.std.proofs.Common.{refl, sym, ap, subst, ◌∙◌, append_assoc}
use Rattle.std.proofs.lemmas.List.{map-append, append-nil}
use mathlib.Core.Logic.{inl, inr}
use Rattle.pp_model.specs.Lists.{In, joined}
use Rattle.pp_model.specs.Body.{IsWord}
use Rattle.pp_model.specs.Object.{Object, Allowed, AllowedFrom, Item, ops, state, state_from}
use Rattle.pp_model.specs.Object.{TellsStates}
use Rattle.pp_model.specs.Config.{CommittedTx, Config, Start, Step, then, first, after, after_from}
use Rattle.pp_model.specs.Config.{shared_ops, uncommitted}
use Rattle.pp_model.specs.Rules.{calls, StartMeets, RunsFrom}
use Rattle.pp_model.specs.Sound.{Sound, serial_items, serial_ops}
use Rattle.pp_model.specs.Serial.{Attempt, attempts, serial, committed_tx, AtomicRun, Simulated}
use Rattle.pp_model.proofs.Serial.{serial_law, ordered, same_state, allowed_front, allowed_back}
use Rattle.pp_model.proofs.Begin.{start_sound}
use Rattle.pp_model.proofs.Keeps.{step_keeps, run_keeps}
use Rattle.pp_model.proofs.Trace.{Traced}
use Rattle.pp_model.proofs.Follow.{follow}

start_traced : {Op State : Type 0} (O : Object Op State) (h : Option (Start Op)) → Traced O h [] (first h)
start_traced O None = record { lists = λ x i. absurd i; bodies = λ x i. absurd i; done = refl; words = λ a i. absurd i; fresh_list = λ t n. refl; fresh_bodies = λ t n. refl; drops = λ t i j. absurd j }
start_traced {Op} O (Some z) =
    record {
      lists = λ x i. absurd i;
      bodies = λ x i. absurd i;
      done = refl;
      words = λ a i. elim i [ inl e ↦ subst (λ (w : Attempt Op). IsWord w.body (calls O w.items)) (sym e) tt | inr j ↦ absurd j ];
      fresh_list = λ t n. refl;
      fresh_bodies = λ t n. refl;
      drops = λ t i j. absurd j;
    }

run_traced : {Op State : Type 0} (O : Object Op State) (h : Option (Start Op)) (ss past : List (Step Op)) (c : Config Op) → Sound O c → Traced O h past c → RunsFrom O c ss → Traced O h (past ++ ss) (after_from c ss)
run_traced {Op} O h [] past c s t r = subst (λ (w : List (Step Op)). Traced O h w c) (sym (append-nil past)) t
run_traced {Op} O h (a ∷ ss) past c s t r =
    subst (λ (w : List (Step Op)). Traced O h w (after_from (then c a) ss)) (append_assoc past (a ∷ []) ss)
    (run_traced O h ss (past ++ a ∷ []) (then c a) (step_keeps O c a s r.0) (follow O h past c a s t r.0) r.1)

same_items : {Op : Type 0} (l : List (Attempt Op)) → serial_items (map committed_tx l) ≡ joined (map (λ (a : Attempt Op). a.items) l)
same_items [] = refl
same_items {Op} (a ∷ l) = ap (λ (w : List (Item Op)). a.items ++ w) (same_items l)

state-append : {Op State : Type 0} (O : Object Op State) (s : State) (l k : List Op) → state_from O s (l ++ k) ≡ state_from O (state_from O s l) k
state-append O s [] k = refl
state-append O s (x ∷ l) k = state-append O (O.next s x) l k

atomically : {Op State : Type 0} (O : Object Op State) (l : List (Attempt Op)) (s : State) → ((a : Attempt Op) → In a l → IsWord a.body (calls O a.items)) → AllowedFrom O s (serial l) → AtomicRun O s l (state_from O s (serial l))
atomically O [] s w h = refl
atomically {Op} {State} O (a ∷ l) s w h =
    let e : serial (a ∷ l) ≡ ops a.items ++ serial l = map-append (λ (p : Item Op). p.op) a.items (joined (map (λ (b : Attempt Op). b.items) l)) in
    let h1 : AllowedFrom O s (ops a.items ++ serial l) = subst (λ (z : List Op). AllowedFrom O s z) e h in
    let m : State = state_from O s (ops a.items) in (
      m,
      (w a (inl refl), allowed_front O s (ops a.items) (serial l) h1, refl),
      subst (λ (z : State). AtomicRun O m l z) (sym (ap (λ (z : List Op). state_from O s z) e ∙ state-append O s (ops a.items) (serial l)))
          (atomically O l m (λ b i. w b (inr i)) (allowed_back O s (ops a.items) (serial l) h1)),
    )

module _ {Op State : Type 0} (O : Object Op State) (h : Option (Start Op)) (ss : List (Step Op)) (f : StartMeets O h) (r : RunsFrom O (first h) ss) where
  sound : Sound O (after h ss)
  sound = run_keeps O ss (first h) (start_sound O h f) r

  traced : Traced O h ss (after h ss)
  traced = run_traced O h ss [] (first h) (start_sound O h f) (start_traced O h) r

  -- The committed transactions after an accepted run are those of its attempts.
  pub finished_are : (after h ss).done ≡ map committed_tx (attempts h ss)
  finished_are = traced.done

  -- The calls of each committed attempt of an accepted run are a word of its body.
  pub all_words : (a : Attempt Op) → In a (attempts h ss) → IsWord a.body (calls O a.items)
  all_words = traced.words

  serial_is : serial_ops (after h ss).done ≡ serial (attempts h ss)
  serial_is = ap (λ (w : List (CommittedTx Op)). serial_ops w) finished_are ∙ ap (λ (w : List (Item Op)). ops w) (same_items (attempts h ss))

  serial_onto : (k : List Op) → Allowed O (shared_ops (after h ss).shared ++ k) → Allowed O (serial (attempts h ss) ++ (shared_ops (uncommitted (after h ss).shared) ++ k))
  serial_onto k a = subst (λ (w : List Op). Allowed O (w ++ (shared_ops (uncommitted (after h ss).shared) ++ k))) serial_is (serial_law O (after h ss).shared (after h ss).done k (ordered O (after h ss) sound) a)

  -- The serial run of an accepted run is allowed.
  pub serial_allowed : Allowed O (serial (attempts h ss))
  serial_allowed = allowed_front O O.start (serial (attempts h ss)) (shared_ops (uncommitted (after h ss).shared) ++ [])
      (serial_onto [] (subst (λ (w : List Op). Allowed O w) (sym (append-nil (shared_ops (after h ss).shared))) sound.shared_allowed))

  -- The serial run of an accepted run simulates it, if what may follow lists fixes their states.
  pub simulated : TellsStates O → Simulated O h ss
  simulated tells = record {
    done = finished_are;
    onto = serial_onto;
    allowed = serial_allowed;
    atomic = atomically O (attempts h ss) O.start all_words serial_allowed;
    same_state = same_state O tells (after h ss) sound ∙ ap (λ (w : List Op). state O w) serial_is;
  }
