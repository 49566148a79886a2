-- Proof machinery: the questions of a run.
use Rattle.std.specs.Prelude.{◌≡◌, ◌≤◌, ℕ, Bool, true, false, ◌&&◌, cond, List, [], ◌∷◌, ◌++◌, length, Option, None, Some}
use Rattle.std.proofs.Common.{refl, sym, ap, subst, ◌∙◌, append_assoc}
use Rattle.std.proofs.lemmas.Bool.{and_parts}
use Rattle.std.proofs.lemmas.List.{append-nil}
use Rattle.std.proofs.lemmas.Option.{same_Some}
use mathlib.Core.Logic.{inl, inr}
use Rattle.pp_model.specs.Config.{Begin, App, Unapp, Push, Unpush, Pull, Unpull, Cmt, Quit, Note}
use Rattle.pp_model.specs.Config.{Start, Step, first}
use Rattle.pp_model.specs.Lists.{In}
use Rattle.pp_model.specs.Names.{Name}
use Rattle.pp_model.specs.Object.{Allowed, Item, Object, ops}
use Rattle.pp_model.specs.Rules.{RunsFrom, StartMeets}
use Rattle.pp_model.specs.Serial.{attempts, own_of}
use Rattle.pp_model.proofs.Names.{eq-names, names-true}
use Rattle.pp_laws_opacity.specs.Opacity.{Began, IsPrefix, IsOpaque, MayStart, SeesSome, Starts}
use Rattle.pp_laws_opacity.specs.Questions.{HasAnswer, Question, is_empty, least_after, least_of, may_start, question}
use Rattle.pp_laws_opacity.specs.Questions.{questions, questions_after, starts}
use Rattle.pp_laws_opacity.proofs.Apps.{applied_open, at_apps, from_apps, runs}
use Rattle.pp_laws_opacity.proofs.Prefixes.{began_new, began_one, began_some, prefix_cases, prefix_trans, last_end}
use Rattle.pp_laws_opacity.proofs.Orders.{seen_in_whole}

starts_true : {Op : Type 0} (t : Name) (past : List (Step Op)) (s : Step Op) → starts t (past ++ s ∷ []) s ≡ true → Starts t (past ++ s ∷ [])
starts_true {Op} t past s e =
    let b = and_parts (may_start t s) (is_empty (own_of t (past ++ s ∷ []))) e in
    (s, last_end past s, may s b.0, empty (own_of t (past ++ s ∷ [])) b.1)
  where
    may : (s : Step Op) → may_start t s ≡ true → MayStart t s
    may (Begin u p b) e = names-true u t e
    may (Unapp u id) e = names-true u t e
    may (App u id op) e = cc
    may (Push u id) e = cc
    may (Unpush u id) e = cc
    may (Pull u id) e = cc
    may (Unpull u id) e = cc
    may (Cmt u) e = cc
    may (Quit u) e = cc
    may (Note u) e = cc

    empty : (l : List (Item Op)) → is_empty l ≡ true → l ≡ []
    empty [] e = refl
    empty (x ∷ l) e = absurd (cc)

starts_false : {Op : Type 0} (t : Name) (past : List (Step Op)) (s : Step Op) → starts t (past ++ s ∷ []) s ≡ false → Starts t (past ++ s ∷ []) → ⊥
starts_false {Op} t past s e k =
    let is : k.0 ≡ s = same_Some k.0 s (sym k.1 ∙ last_end past s) in
    let a : may_start t s ≡ true = may s (subst (λ (w : Step Op). MayStart t w) is k.2) in
    let b : starts t (past ++ s ∷ []) s ≡ true = ap (λ (w : List (Item Op)). may_start t s && is_empty w) k.3 ∙ ap (λ (w : Bool). w && true) a in
    let z : true ≡ false = sym b ∙ e in
    cc
  where
    may : (s : Step Op) → MayStart t s → may_start t s ≡ true
    may (Begin u p b) e = eq-names u t e
    may (Unapp u id) e = eq-names u t e
    may (App u id op) e = absurd e
    may (Push u id) e = absurd e
    may (Unpush u id) e = absurd e
    may (Pull u id) e = absurd e
    may (Unpull u id) e = absurd e
    may (Cmt u) e = absurd e
    may (Quit u) e = absurd e
    may (Note u) e = absurd e

-- the count along one more step
least-append : {Op : Type 0} (h : Option (Start Op)) (t : Name) (n : ℕ) (past ss : List (Step Op)) (s : Step Op)
    → least_after h t n past (ss ++ s ∷ []) ≡ cond (starts t ((past ++ ss) ++ s ∷ []) s) (length (attempts h ((past ++ ss) ++ s ∷ []))) (least_after h t n past ss)
least-append {Op} h t n past [] s =
    ap (λ (w : List (Step Op)). cond (starts t (w ++ s ∷ []) s) (length (attempts h (w ++ s ∷ []))) n) (sym (append-nil past))
least-append {Op} h t n past (a ∷ ss) s =
    let m = cond (starts t (past ++ a ∷ []) a) (length (attempts h (past ++ a ∷ []))) n in
    least-append h t m (past ++ a ∷ []) ss s
    ∙ ap (λ (w : List (Step Op)). cond (starts t (w ++ s ∷ []) s) (length (attempts h (w ++ s ∷ []))) (least_after h t m (past ++ a ∷ []) ss)) (append_assoc past (a ∷ []) ss)

-- An attempt that did not begin with the last step began before it.
pub began_before : {Op : Type 0} (t : Name) (early past : List (Step Op)) (s : Step Op) → Began t early (past ++ s ∷ []) → (Starts t (past ++ s ∷ []) → ⊥) → Began t early past
began_before {Op} t early past s b n = record {
  starts = b.starts;
  within = elim (prefix_cases early past s b.within) [
    | inl i ↦ i
    | inr e ↦ absurd (n (subst (λ (w : List (Step Op)). Starts t w) e b.starts))
  ];
  last = λ later i k. b.last later (prefix_trans later past (past ++ s ∷ []) i (s ∷ [], refl)) k;
}

-- the steps from the first on, one at a time
from_first : {Op : Type 0} (P : List (Step Op) → Type 0) → P [] → ((past : List (Step Op)) (s : Step Op) → P past → P (past ++ s ∷ [])) → (past ss : List (Step Op)) → P past → P (past ++ ss)
from_first P z f past [] p = subst P (sym (append-nil past)) p
from_first P z f past (s ∷ ss) p = subst P (append_assoc past (s ∷ []) ss) (from_first P z f (past ++ s ∷ []) ss (f past s p))

abbrev IsLeast : {Op : Type 0} → Option (Start Op) → Name → List (Step Op) → Type 0
IsLeast {Op} h t past = (early : List (Step Op)) → Began t early past → least_of h t past ≡ length (attempts h early)

none_began : {Op : Type 0} (h : Option (Start Op)) (t : Name) → IsLeast {Op = Op} h t []
none_began {Op} h t early b = absurd (no early (b.within).0 (b.within).1 b.starts)
  where
    no : (early rest : List (Step Op)) → [] ≡ early ++ rest → Starts t early → ⊥
    no [] rest e k = let z : ◌≡◌ {A = Option (Step Op)} None (Some k.0) = k.1 in cc
    no (s ∷ early) rest e k = cc

least_step : {Op : Type 0} (h : Option (Start Op)) (t : Name) (past : List (Step Op)) (s : Step Op) → IsLeast h t past → IsLeast h t (past ++ s ∷ [])
least_step {Op} h t past s k early b = by (starts t (past ++ s ∷ []) s) refl
  where
    whole : least_of h t (past ++ s ∷ []) ≡ cond (starts t (past ++ s ∷ []) s) (length (attempts h (past ++ s ∷ []))) (least_of h t past)
    whole = least-append h t 0 [] past s

    by : (z : Bool) → starts t (past ++ s ∷ []) s ≡ z → least_of h t (past ++ s ∷ []) ≡ length (attempts h early)
    by true e =
        let same : past ++ s ∷ [] ≡ early = began_one t (past ++ s ∷ []) (past ++ s ∷ []) early (began_new t (past ++ s ∷ []) (starts_true t past s e)) b in
        whole ∙ ap (λ (w : Bool). cond w (length (attempts h (past ++ s ∷ []))) (least_of h t past)) e ∙ ap (λ (w : List (Step Op)). length (attempts h w)) same
    by false e =
        whole ∙ ap (λ (w : Bool). cond w (length (attempts h (past ++ s ∷ []))) (least_of h t past)) e ∙ k early (began_before t early past s b (starts_false t past s e))

-- The low end of a question's window is how many had committed when the attempt began.
pub least_is : {Op : Type 0} (h : Option (Start Op)) (t : Name) (past early : List (Step Op)) → Began t early past → least_of h t past ≡ length (attempts h early)
least_is {Op} h t past = from_first (λ (w : List (Step Op)). IsLeast h t w) (none_began h t) (λ p s k. least_step h t p s k) [] past (none_began h t)

abbrev IsAsked : {Op : Type 0} → Option (Start Op) → List (Step Op) → Question Op → Type 0
IsAsked {Op} h ss q =
    (mid : List (Step Op)) × (t : Name) × (id : ℕ) × (op : Op) × IsPrefix (mid ++ App t id op ∷ []) ss × (q ≡ question h t (mid ++ App t id op ∷ []))

asked_later : {Op : Type 0} (h : Option (Start Op)) (past : List (Step Op)) (s : Step Op) (ss : List (Step Op)) (q : Question Op) → IsAsked h ((past ++ s ∷ []) ++ ss) q → IsAsked h (past ++ s ∷ ss) q
asked_later {Op} h past s ss q k = subst (λ (w : List (Step Op)). IsAsked h w q) (append_assoc past (s ∷ []) ss) k

-- Each question is about the steps up to an APP.
asked : {Op : Type 0} (h : Option (Start Op)) (past ss : List (Step Op)) (q : Question Op) → In q (questions_after h past ss)
    → IsAsked h (past ++ ss) q
asked h past [] q i = absurd i
asked {Op} h past (App t id op ∷ ss) q (inl e) = (past, t, id, op, (ss, sym (append_assoc past (App t id op ∷ []) ss)), e)
asked {Op} h past (App t id op ∷ ss) q (inr i) = asked_later h past (App t id op) ss q (asked h (past ++ App t id op ∷ []) ss q i)
asked h past (s ∷ ss) q i = asked_later h past s ss q (asked h (past ++ s ∷ []) ss q i)

-- each APP has its question
asks_step : {Op : Type 0} (h : Option (Start Op)) (past ss : List (Step Op)) (s : Step Op) (q : Question Op) → In q (questions_after h (past ++ s ∷ []) ss) → In q (questions_after h past (s ∷ ss))
asks_step h past ss (App t id op) q i = inr i
asks_step h past ss _ q i = i

asks : {Op : Type 0} (h : Option (Start Op)) (past mid rest : List (Step Op)) (t : Name) (id : ℕ) (op : Op) → In (question h t ((past ++ mid) ++ App t id op ∷ [])) (questions_after h past (mid ++ App t id op ∷ rest))
asks {Op} h past [] rest t id op = inl (ap (λ (w : List (Step Op)). question h t (w ++ App t id op ∷ [])) (append-nil past))
asks {Op} h past (s ∷ mid) rest t id op =
    asks_step h past (mid ++ App t id op ∷ rest) s (question h t ((past ++ s ∷ mid) ++ App t id op ∷ []))
    (subst (λ (w : List (Step Op)). In (question h t (w ++ App t id op ∷ [])) (questions_after h (past ++ s ∷ []) (mid ++ App t id op ∷ rest))) (append_assoc past (s ∷ []) mid)
    (asks h (past ++ s ∷ []) mid rest t id op))

module _ {Op State : Type 0} (O : Object Op State) (h : Option (Start Op)) (met : StartMeets O h) (ss : List (Step Op)) (run : RunsFrom O (first h) ss) where
  answer : (past : List (Step Op)) (t : Name) → IsPrefix past ss → SeesSome O h past t → HasAnswer O h ss (question h t past)
  answer past t b s = (
    s.n,
    subst (λ (w : ℕ). w ≤ s.n) (sym (least_is h t past s.early s.began)) s.least,
    s.most,
    subst (λ (w : List Op). Allowed O (w ++ ops (own_of t past))) (sym (seen_in_whole O h met past ss t s.n run b s.most)) s.sees,
  )

  -- In an opaque run, each question has a number of commits that explains it.
  pub all_answered : IsOpaque O h ss → (q : Question Op) → In q (questions h ss) → HasAnswer O h ss q
  all_answered opaque q i =
      let r = asked h [] ss q i in
      let past : List (Step Op) = r.0 ++ App r.1 r.2 r.3 ∷ [] in
      subst (λ (w : Question Op). HasAnswer O h ss w) (sym r.5) (answer past r.1 r.4 (at_apps O h met ss run opaque r.0 r.1 r.2 r.3 r.4))

  -- A run in which each question has a number of commits that explains it is opaque.
  pub from_answers : ((q : Question Op) → In q (questions h ss) → HasAnswer O h ss q) → IsOpaque O h ss
  from_answers all = from_apps O h met ss run (λ past t id op b.
      let here : List (Step Op) = past ++ App t id op ∷ [] in
      let r = runs O h met ss run here b in
      let began = began_some O h met t here r (applied_open O h met ss run past t id op r).1 in
      let is : ss ≡ past ++ App t id op ∷ b.0 = b.1 ∙ append_assoc past (App t id op ∷ []) b.0 in
      let i : In (question h t here) (questions h ss) = subst (λ (w : List (Step Op)). In (question h t here) (questions h w)) (sym is) (asks h [] past b.0 t id op) in
      let a = all (question h t here) i in
      record {
        early = began.0;
        began = began.1;
        n = a.0;
        least = subst (λ (w : ℕ). w ≤ a.0) (least_is h t here began.0 began.1) a.1;
        most = a.2;
        sees = subst (λ (w : List Op). Allowed O (w ++ ops (own_of t here))) (seen_in_whole O h met here ss t a.0 run b a.2) a.3;
      })
