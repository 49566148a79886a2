-- The entries of a log that are on one object.
use Rattle.std.specs.Prelude.{◌≡◌, ℕ, ◌==◌, Bool, true, false, cond, ◌&&◌, List, [], ◌∷◌, filter}
use Rattle.std.proofs.Common.{refl, ap, ◌∙◌}
use Rattle.std.proofs.lemmas.Bool.{and_parts, eqb-true, eq-eqb}
use mathlib.Core.Logic.{inl, inr}
use Rattle.pp_model.specs.Lists.{In}
use Rattle.pp_model.specs.Config.{Mark, Pulled, is_mark, LocalEntry, SharedEntry, shared_ops}
use Rattle.pp_model.proofs.Lists.{in_filter, from_filter}
use Rattle.pp_model.proofs.Logs.{is_mark-true}
use Rattle.pp_laws_summary.specs.Places.{ops_at}
use Rattle.pp_laws_summary.specs.Views.{done_at, pulled_at}
use Rattle.pp_laws_summary.proofs.Lookups.{and_true}

-- committed, and on the object
abbrev pub is_done_at : {Op : Type 0} → (Op → ℕ) → ℕ → SharedEntry Op → Bool
is_done_at place o g = g.committed && (place g.op == o)

-- pulled, and on the object
abbrev pub is_pulled_at : {Op : Type 0} → (Op → ℕ) → ℕ → LocalEntry Op → Bool
is_pulled_at place o e = is_mark e.mark Pulled && (place e.op == o)

-- A committed entry of an object is an entry of the shared log, committed, and on the object.
pub from_done : {Op : Type 0} (place : Op → ℕ) (o : ℕ) (G : List (SharedEntry Op)) (g : SharedEntry Op) → In g (done_at place o G) → In g G × (g.committed ≡ true) × (place g.op ≡ o)
from_done place o G g i =
    let f = from_filter (is_done_at place o) g G i in
    let b = and_parts g.committed (place g.op == o) f.1 in
    (f.0, b.0, eqb-true (place g.op) o b.1)

-- A committed entry on the object is one of them.
pub to_done : {Op : Type 0} (place : Op → ℕ) (o : ℕ) (G : List (SharedEntry Op)) (g : SharedEntry Op) → In g G → g.committed ≡ true → place g.op ≡ o → In g (done_at place o G)
to_done place o G g i u e = in_filter (is_done_at place o) g G i (and_true g.committed (place g.op == o) u (eq-eqb (place g.op) o e))

-- A pulled entry on an object is an entry of the local log, pulled, and on the object.
pub from_pulled : {Op : Type 0} (place : Op → ℕ) (o : ℕ) (l : List (LocalEntry Op)) (e : LocalEntry Op) → In e (pulled_at place o l) → In e l × (e.mark ≡ Pulled) × (place e.op ≡ o)
from_pulled place o l e i =
    let f = from_filter (is_pulled_at place o) e l i in
    let b = and_parts (is_mark e.mark Pulled) (place e.op == o) f.1 in
    (f.0, is_mark-true e.mark Pulled b.0, eqb-true (place e.op) o b.1)

-- A pulled entry on the object is one of them.
pub to_pulled : {Op : Type 0} (place : Op → ℕ) (o : ℕ) (l : List (LocalEntry Op)) (e : LocalEntry Op) → In e l → e.mark ≡ Pulled → place e.op ≡ o → In e (pulled_at place o l)
to_pulled place o l e i m n = in_filter (is_pulled_at place o) e l i (and_true (is_mark e.mark Pulled) (place e.op == o) (ap (λ (w : Mark). is_mark w Pulled) m) (eq-eqb (place e.op) o n))

-- Filtering a list twice is filtering it by both tests.
pub filter_twice : {A : Type 0} (p q : A → Bool) (l : List A) → filter p (filter q l) ≡ filter (λ x. q x && p x) l
filter_twice p q [] = refl
filter_twice {A} p q (x ∷ l) = by (q x) (filter_twice p q l)
  where
    by : (b : Bool) → filter p (filter q l) ≡ filter (λ x. q x && p x) l → filter p (cond b (x ∷ filter q l) (filter q l)) ≡ cond (b && p x) (x ∷ filter (λ x. q x && p x) l) (filter (λ x. q x && p x) l)
    by true h = ap (λ (w : List A). cond (p x) (x ∷ w) w) h
    by false h = h

-- the committed entries at a place, if all are committed
pub ops_done : {Op : Type 0} (place : Op → ℕ) (o : ℕ) (G : List (SharedEntry Op)) → ((g : SharedEntry Op) → In g G → g.committed ≡ true) → shared_ops (done_at place o G) ≡ ops_at place o (shared_ops G)
ops_done place o [] h = refl
ops_done {Op} place o (g ∷ G) h =
    ap (λ (b : Bool). shared_ops (cond (b && (place g.op == o)) (g ∷ done_at place o G) (done_at place o G))) (h g (inl refl))
    ∙ by (place g.op == o) ∙ ap (λ (w : List Op). cond (place g.op == o) (g.op ∷ w) w) (ops_done place o G (λ k i. h k (inr i)))
  where
    by : (b : Bool) → shared_ops (cond b (g ∷ done_at place o G) (done_at place o G)) ≡ cond b (g.op ∷ shared_ops (done_at place o G)) (shared_ops (done_at place o G))
    by true = refl
    by false = refl
