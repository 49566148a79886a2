-- A list of PULL steps: their joint conditions, and the configuration after them.
use Rattle.std.specs.Prelude.{◌≡◌, ◌≢◌, true, false, List, [], ◌∷◌, ◌++◌, map, Option, Some}
use Rattle.std.proofs.Common.{refl, sym, ap, subst, ◌∙◌, append_assoc}
use Rattle.std.proofs.lemmas.List.{append-nil, map-append}
use mathlib.Core.Logic.{inl, inr}
use Rattle.pp_model.specs.Lists.{In, Before}
use Rattle.pp_model.specs.Names.{Name}
use Rattle.pp_model.specs.Object.{Object, Allowed, Swaps}
use Rattle.pp_model.specs.Config.{LocalEntry, SharedEntry, Tx, Config, Step, Pull, is_own, as_pulled, local_ops, shared_ops, tx, of_other, pull_effect, then, on_log, relog, after_from}
use Rattle.pp_model.specs.Rules.{Meets, RunsFrom}
use Rattle.pp_model.specs.Sound.{Sound}
use Rattle.pp_model.proofs.Lists.{in_left, in_cases}
use Rattle.pp_model.proofs.Logs.{found_tx}
use Rattle.pp_model.proofs.Alone.{there_is}
use Rattle.pp_model.proofs.Keeps.{step_keeps}
use Rattle.pp_model.proofs.Serial.{allowed_front}
use Rattle.pp_records.proofs.Taking.{tx_on}
use Rattle.pp_laws_summary.proofs.Lookups.{other_is, there_of}
use Rattle.pp_laws_summary.proofs.Relog.{relogged, on_log-fuse, on_log-same}

-- The entries M may be pulled by the open transaction x, as far as their ids and owners go.
pub record Pulling {Op State : Type 0} (O : Object Op State) (t : Name) (c : Config Op) (x : Tx Op) (M : List (SharedEntry Op)) : Type 0 where
  pub sound : Sound O c
  pub lookup : tx t c.opened ≡ Some x
  pub stand : (g : SharedEntry Op) → In g M → In g c.shared
  pub other : (g : SharedEntry Op) → In g M → g.owner ≢ t
  pub distinct : (g h : SharedEntry Op) → Before g h M → g.id ≢ h.id
  pub out : (g : SharedEntry Op) → In g M → (e : LocalEntry Op) → In e x.local → e.id ≢ g.id

-- The joint conditions of the steps.
pub record Asks {Op State : Type 0} (O : Object Op State) (x : Tx Op) (M : List (SharedEntry Op)) : Type 0 where
  pub allowed : Allowed O (local_ops x.local ++ shared_ops M)
  pub swaps : (a : LocalEntry Op) (g : SharedEntry Op) → In a x.local → is_own a.mark ≡ true → In g M → Swaps O a.op g.op

module _ {Op State : Type 0} (O : Object Op State) (t : Name) where
  -- PULL of each of the entries M
  abbrev pub pulls : List (SharedEntry Op) → List (Step Op)
  pulls M = map (λ g. Pull t g.id) M

  -- The steps meet their criteria exactly if their joint conditions are true, and then they lead to the log with M pulled.
  abbrev pub Goal : Config Op → Tx Op → List (SharedEntry Op) → Type 0
  Goal c x M = (Asks O x M → RunsFrom O c (pulls M)) × (RunsFrom O c (pulls M) → Asks O x M × (after_from c (pulls M) ≡ relogged c t (x.local ++ map as_pulled M)))

  module _ (c : Config Op) (x : Tx Op) (g : SharedEntry Op) (M : List (SharedEntry Op)) (p : Pulling O t c x (g ∷ M)) where
    ix : In x c.opened
    ix = (found_tx t c.opened x p.lookup).0

    nx : x.name ≡ t
    nx = (found_tx t c.opened x p.lookup).1

    -- The entry is found in G.
    pub found : of_other t g.id c.shared ≡ Some g
    found = other_is O c p.sound t g (p.stand g (inl refl)) (p.other g (inl refl))

    abbrev more : List (LocalEntry Op) → List (LocalEntry Op)
    more l = l ++ as_pulled g ∷ []

    -- the configuration after the first PULL
    abbrev pub c2 : Config Op
    c2 = record c { opened = on_log t (λ l. l ++ as_pulled g ∷ []) c.opened }

    -- the transaction after it
    abbrev pub x2 : Tx Op
    x2 = relog (λ l. l ++ as_pulled g ∷ []) x

    -- The first PULL leads there.
    pub to : then c (Pull t g.id) ≡ c2
    to = ap (λ (w : Option (SharedEntry Op)). pull_effect c t g.id w) found

    is_e : (a : LocalEntry Op) → In a (as_pulled g ∷ []) → a ≡ as_pulled g
    is_e a (inl k) = k
    is_e a (inr k) = elim k [ ]

    ops_more : local_ops (x.local ++ as_pulled g ∷ []) ++ shared_ops M ≡ local_ops x.local ++ (g.op ∷ shared_ops M)
    ops_more = ap (λ (w : List Op). w ++ shared_ops M) (map-append (λ (e : LocalEntry Op). e.op) x.local (as_pulled g ∷ [])) ∙ append_assoc (local_ops x.local) (g.op ∷ []) (shared_ops M)

    asked_first : Asks O x (g ∷ M) → Meets O c (Pull t g.id)
    asked_first a = there_is (tx t c.opened) _ x p.lookup (there_is (of_other t g.id c.shared) _ g found (
      p.out g (inl refl),
      (
        allowed_front O O.start (local_ops x.local ++ g.op ∷ []) (shared_ops M) (subst (λ (w : List Op). Allowed O w) (sym (append_assoc (local_ops x.local) (g.op ∷ []) (shared_ops M))) a.allowed),
        ((λ e i o. a.swaps e g i o (inl refl)), refl),
      ),
    ))

    asked_more : Asks O x (g ∷ M) → Asks O x2 M
    asked_more a = record {
      allowed = subst (λ (w : List Op). Allowed O w) (sym ops_more) a.allowed;
      swaps = λ e h i o j. elim (in_cases e x.local (as_pulled g ∷ []) i) [
        | inl k ↦ a.swaps e h k o (inr j)
        | inr k ↦ absurd (let z : false ≡ true = ap (λ (w : LocalEntry Op). is_own w.mark) (sym (is_e e k)) ∙ o in cc)
      ];
    }

    first_swaps : Meets O c (Pull t g.id) → (a : LocalEntry Op) → In a x.local → is_own a.mark ≡ true → Swaps O a.op g.op
    first_swaps h = (there_of (of_other t g.id c.shared) _ g found (there_of (tx t c.opened) _ x p.lookup h)).1.1.0

    joined : Meets O c (Pull t g.id) → Asks O x2 M → Asks O x (g ∷ M)
    joined h a = record {
      allowed = subst (λ (w : List Op). Allowed O w) ops_more a.allowed;
      swaps = λ e k i o j. elim j [
        | inl z ↦ subst (λ (w : SharedEntry Op). Swaps O e.op w.op) (sym z) (first_swaps h e i o)
        | inr z ↦ a.swaps e k (in_left e x.local (as_pulled g ∷ []) i) o z
      ];
    }

    -- The other entries may still be pulled.
    pub next : Meets O c (Pull t g.id) → Pulling O t c2 x2 M
    next h = record {
      sound = subst (λ (w : Config Op). Sound O w) to (step_keeps O c (Pull t g.id) p.sound h);
      lookup = tx_on t (λ l. l ++ as_pulled g ∷ []) c.opened x p.lookup;
      stand = λ k i. p.stand k (inr i);
      other = λ k i. p.other k (inr i);
      distinct = λ k m i. p.distinct k m (inr i);
      out = λ k i e j. elim (in_cases e x.local (as_pulled g ∷ []) j) [
        | inl z ↦ p.out k (inr i) e z
        | inr z ↦ λ n. p.distinct g k (inl (refl, i)) (ap (λ (w : LocalEntry Op). w.id) (sym (is_e e z)) ∙ n)
      ];
    }

    ends : relogged c2 t (x2.local ++ map as_pulled M) ≡ relogged c t (x.local ++ map as_pulled (g ∷ M))
    ends = ap (λ (w : List (Tx Op)). record c { opened = w })
        (on_log-fuse t (λ l. (x.local ++ as_pulled g ∷ []) ++ map as_pulled M) (λ l. l ++ as_pulled g ∷ []) c.opened
        ∙ ap (λ (w : List (LocalEntry Op)). on_log t (λ l. w) c.opened) (append_assoc x.local (as_pulled g ∷ []) (map as_pulled M)))

    by_first : (Pulling O t c2 x2 M → Goal c2 x2 M) → Goal c x (g ∷ M)
    by_first rec = (
      (λ a. let h = asked_first a in (h, subst (λ (w : Config Op). RunsFrom O w (pulls M)) (sym to) ((rec (next h)).0 (asked_more a)))),
      (λ r.
          let k = (rec (next r.0)).1 (subst (λ (w : Config Op). RunsFrom O w (pulls M)) to r.1) in
          (joined r.0 k.0, ap (λ (w : Config Op). after_from w (pulls M)) to ∙ k.1 ∙ ends)),
    )

  -- The goal is true of each list of entries that may be pulled.
  pub pulled : (M : List (SharedEntry Op)) (c : Config Op) (x : Tx Op) → Pulling O t c x M → Goal c x M
  pulled [] c x p =
      let f = found_tx t c.opened x p.lookup in (
        (λ a. tt),
        (λ r. (
          record {
            allowed = subst (λ (w : List Op). Allowed O w) (sym (append-nil (local_ops x.local))) (p.sound.local_allowed x f.0);
            swaps = λ a g i o j. absurd j;
          },
          sym (ap (λ (w : List (Tx Op)). record c { opened = w }) (ap (λ (w : List (LocalEntry Op)). on_log t (λ l. w) c.opened) (append-nil x.local) ∙ on_log-same O c p.sound t x f.0 f.1)),
        )),
      )
  pulled (g ∷ M) c x p = by_first c x g M p (λ q. pulled M _ _ q)
