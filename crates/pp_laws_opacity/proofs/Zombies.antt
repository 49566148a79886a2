-- Proof machinery: the first own list that is not explained.
use Rattle.std.specs.Prelude.{◌≡◌, ◌≢◌, ◌⊎◌, ◌≤◌, ℕ, List, [], ◌∷◌, ◌++◌, length, Option}
use Rattle.std.proofs.Common.{refl, sym, ap, subst, ◌∙◌}
use Rattle.std.proofs.lemmas.List.{append-nil}
use Rattle.std.proofs.lemmas.Option.{same_Some}
use mathlib.Core.Logic.{inl, inr}
use Rattle.pp_model.specs.Config.{App, Start, Step, first, last}
use Rattle.pp_model.specs.Names.{Name}
use Rattle.pp_model.specs.Object.{Item, Object}
use Rattle.pp_model.specs.Rules.{RunsFrom, StartMeets}
use Rattle.pp_model.specs.Serial.{attempts, own_of}
use Rattle.pp_laws_opacity.specs.Opacity.{Began, IsOpaque, IsPrefix, SeesSome}
use Rattle.pp_laws_opacity.specs.Zombies.{IsZombie, Zombie}
use Rattle.pp_laws_opacity.proofs.Apps.{applied_open, runs, seen_later}
use Rattle.pp_laws_opacity.proofs.Prefixes.{began_one, ends, last_app, last_end, prefix_same, prefix_trans}

-- a prefix of a list is the whole list or not
prefix_whole : {Op : Type 0} (a b : List (Step Op)) → IsPrefix a b → (a ≡ b) ⊎ (a ≢ b)
prefix_whole a b ([], e) = inl (sym (append-nil a) ∙ sym e)
prefix_whole {Op} a b (x ∷ rest, e) = inr (λ same. longer a rest x (same ∙ e))
  where
    longer : (a rest : List (Step Op)) (x : Step Op) → a ≡ a ++ x ∷ rest → ⊥
    longer [] rest x e = cc
    longer (y ∷ a) rest x e = longer a rest x (let k : a ≡ a ++ x ∷ rest = cc in k)

-- One of two prefixes of a list is a prefix of the other.
one_within : {Op : Type 0} (a b ra rb : List (Step Op)) → a ++ ra ≡ b ++ rb → IsPrefix a b ⊎ IsPrefix b a
one_within [] b ra rb e = inl (b, refl)
one_within (x ∷ a) [] ra rb e = inr (x ∷ a, refl)
one_within {Op} (x ∷ a) (y ∷ b) ra rb e =
    let k : x ≡ y = cc in
    let m : a ++ ra ≡ b ++ rb = cc in
    elim (one_within a b ra rb m) [
      | inl p ↦ inl (p.0, ap (λ (w : Step Op). w ∷ b) (sym k) ∙ ap (λ (w : List (Step Op)). x ∷ w) p.1)
      | inr p ↦ inr (p.0, ap (λ (w : Step Op). w ∷ a) k ∙ ap (λ (w : List (Step Op)). y ∷ w) p.1)
    ]

same_zombie : {Op : Type 0} (z w : Zombie Op) → z.step ≡ w.step → z.tx ≡ w.tx → z.least ≡ w.least → z.most ≡ w.most → z.items ≡ w.items → z ≡ w
same_zombie {Op} z w a b c d e =
    ap (λ (v : ℕ). the v z.tx z.least z.most z.items) a ∙ ap (λ (v : Name). the w.step v z.least z.most z.items) b
    ∙ ap (λ (v : ℕ). the w.step w.tx v z.most z.items) c ∙ ap (λ (v : ℕ). the w.step w.tx w.least v z.items) d
    ∙ ap (λ (v : List (Item Op)). the w.step w.tx w.least w.most v) e
  where
    the : ℕ → Name → ℕ → ℕ → List (Item Op) → Zombie Op
    the step tx least most items = record { step = step; tx = tx; least = least; most = most; items = items }

module _ {Op State : Type 0} (O : Object Op State) (h : Option (Start Op)) where
  -- the own list of a zombie is not explained
  pub not_seen : (ss : List (Step Op)) (z : Zombie Op) (is : IsZombie O h ss z) → SeesSome O h is.past z.tx → ⊥
  not_seen ss z is s =
      let same = began_one z.tx is.past s.early is.early s.began is.began in
      is.unexplained s.n
      (subst (λ (k : ℕ). k ≤ s.n) (ap (λ (w : List (Step Op)). length (attempts h w)) same ∙ sym is.least) s.least)
      (subst (λ (k : ℕ). s.n ≤ k) (sym is.most) s.most) s.sees

  -- A run with a zombie is not opaque.
  pub not_opaque : (past ss : List (Step Op)) (z : Zombie Op) (is : IsZombie O h ss z) → IsPrefix is.past past → IsOpaque O h past → ⊥
  not_opaque past ss z is b opaque = not_seen ss z is (opaque is.past z.tx b is.opened is.some)

  module _ (met : StartMeets O h) (ss : List (Step Op)) (run : RunsFrom O (first h) ss) where
    -- a zombie is right after an APP of its transaction
    pub at_app : (z : Zombie Op) (is : IsZombie O h ss z) → (before : List (Step Op)) × (id : ℕ) × (op : Op) × (is.past ≡ before ++ App z.tx id op ∷ [])
    at_app z is =
        let t = z.tx in
        let past = is.past in
        let e = ends (own_of t past) is.some in
        let r = runs O h met ss run past is.within in
        let a = last_app O h met t past r e.0 [] e.1 e.2 in
        let seen : List (Step Op) = a.0 ++ App t (e.1).id (e.1).op ∷ [] in
        elim (prefix_whole seen past a.1) [
          | inl whole ↦ (a.0, (e.1).id, (e.1).op, sym whole)
          | inr less ↦
              let rs = runs O h met ss run seen (prefix_trans seen past ss a.1 is.within) in
              let there = applied_open O h met ss run a.0 t (e.1).id (e.1).op rs in
              let s = is.first seen a.1 less seen t (prefix_same seen) there.0 there.1 in
              absurd (not_seen ss z is (seen_later O h met seen past t r a.1 (a.2 ∙ sym e.2) a.3 s))
        ]

    -- two zombies are after the same steps
    same_past : (z w : Zombie Op) (is : IsZombie O h ss z) (it : IsZombie O h ss w) → IsPrefix is.past it.past → is.past ≡ it.past
    same_past z w is it b = elim (prefix_whole is.past it.past b) [
      | inl same ↦ same
      | inr less ↦ absurd (not_opaque is.past ss z is (prefix_same is.past) (it.first is.past b less))
    ]

    -- A run has at most one first zombie.
    pub one_zombie : (z w : Zombie Op) → IsZombie O h ss z → IsZombie O h ss w → z ≡ w
    one_zombie z w is it =
        let past : is.past ≡ it.past = elim (one_within is.past it.past (is.within).0 (it.within).0 (sym (is.within).1 ∙ (it.within).1)) [
          | inl b ↦ same_past z w is it b
          | inr b ↦ sym (same_past w z it is b)
        ] in
        let a = at_app z is in
        let b = at_app w it in
        let step : App z.tx a.1 a.2 ≡ App w.tx b.1 b.2 = same_Some (App z.tx a.1 a.2) (App w.tx b.1 b.2)
        (sym (last_end a.0 (App z.tx a.1 a.2)) ∙ ap (λ (v : List (Step Op)). last v) (sym a.3 ∙ past ∙ b.3) ∙ last_end b.0 (App w.tx b.1 b.2)) in
        let tx : z.tx ≡ w.tx = cc in
        let early : is.early ≡ it.early = began_one w.tx it.past is.early it.early
        (subst (λ (v : List (Step Op)). Began w.tx is.early v) past (subst (λ (v : Name). Began v is.early is.past) tx is.began)) it.began in
        same_zombie z w
        (is.step ∙ ap (λ (v : List (Step Op)). length v) past ∙ sym it.step)
        tx
        (is.least ∙ ap (λ (v : List (Step Op)). length (attempts h v)) early ∙ sym it.least)
        (is.most ∙ ap (λ (v : List (Step Op)). length (attempts h v)) past ∙ sym it.most)
        (is.items ∙ ap (λ (v : List (Step Op)). own_of z.tx v) past ∙ ap (λ (v : Name). own_of v it.past) tx ∙ sym it.items)
