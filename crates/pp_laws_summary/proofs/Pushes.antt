-- A pushall: the joint conditions of its steps, and the configuration after it.
use Rattle.std.specs.Prelude.{◌≡◌, ◌≢◌, Bool, true, false, cond, List, [], ◌∷◌, ◌++◌, map, Option, Some}
use Rattle.std.proofs.Common.{refl, sym, ap, subst, ◌∙◌, append_assoc}
use Rattle.std.proofs.lemmas.List.{append-nil, map-append}
use Rattle.std.proofs.lemmas.Bool.{eq-eqb}
use mathlib.Core.Logic.{inl, inr}
use Rattle.pp_model.specs.Lists.{In, Before}
use Rattle.pp_model.specs.Names.{Name}
use Rattle.pp_model.specs.Object.{Object, Allowed, Swaps}
use Rattle.pp_model.specs.Config.{Mark, Unpushed, Pushed, LocalEntry, SharedEntry, Tx, Config, Step, Push, item, as_shared, is_mark, local_ops, shared_ops, tx, at_mark, entry_of, push_effect, set_mark, then, on_log, relog, after_from}
use Rattle.pp_model.specs.Rules.{Meets, RunsFrom}
use Rattle.pp_model.specs.Sound.{Sound}
use Rattle.pp_model.proofs.Lists.{in_left, in_right, in_cases, before_cases, before_across, before_in_first, before_in_second, before_right}
use Rattle.pp_model.proofs.Logs.{found_tx, is_mark-true}
use Rattle.pp_model.proofs.Alone.{there_is}
use Rattle.pp_model.proofs.Keeps.{step_keeps}
use Rattle.pp_model.proofs.Serial.{allowed_front}
use Rattle.pp_model.proofs.Push.{remark, mark_at, marked_other}
use Rattle.pp_records.proofs.Taking.{tx_on}
use Rattle.pp_laws_summary.specs.LocalLogs.{as_pushed, posted, unpushed}
use Rattle.pp_laws_summary.proofs.Lookups.{mark_is, there_of}
use Rattle.pp_laws_summary.proofs.Relog.{on_log-fuse, on_log-same}

-- The log is P and then S. S is to be pushed, and P has no unpushed entry.
pub record Pushing {Op State : Type 0} (O : Object Op State) (t : Name) (c : Config Op) (x : Tx Op) (P S : List (LocalEntry Op)) : Type 0 where
  pub sound : Sound O c
  pub lookup : tx t c.opened ≡ Some x
  pub log : x.local ≡ P ++ S
  pub pushed : (a : LocalEntry Op) → In a P → a.mark ≢ Unpushed

-- The joint conditions of the pushes of these entries.
pub record PushAsks {Op State : Type 0} (O : Object Op State) (t : Name) (c : Config Op) (M : List (LocalEntry Op)) : Type 0 where
  pub passes : (e : LocalEntry Op) (u : SharedEntry Op) → In e M → In u c.shared → u.committed ≡ false → u.owner ≢ t → Swaps O u.op e.op
  pub allowed : Allowed O (shared_ops c.shared ++ local_ops M)

module _ {Op State : Type 0} (O : Object Op State) (t : Name) where
  -- PUSH of each of the entries M
  abbrev pub pushes : List (LocalEntry Op) → List (Step Op)
  pushes M = map (λ e. Push t e.id) M

  -- the configuration with this log of t and these entries after the shared ones
  abbrev pub led : Config Op → List (LocalEntry Op) → List (SharedEntry Op) → Config Op
  led c L H = record c { opened = on_log t (λ l. L) c.opened; shared = c.shared ++ H }

  -- The steps meet their criteria exactly if their joint conditions are true, and then they lead to the log with all pushed.
  abbrev pub Goal : Config Op → List (LocalEntry Op) → List (LocalEntry Op) → List (LocalEntry Op) → Type 0
  Goal c P S M =
      (PushAsks O t c M → RunsFrom O c (pushes M))
      × (RunsFrom O c (pushes M) → PushAsks O t c M × (after_from c (pushes M) ≡ led c (P ++ map as_pushed S) (posted t M)))

  module _ (c : Config Op) (x : Tx Op) (P : List (LocalEntry Op)) (e : LocalEntry Op) (S : List (LocalEntry Op)) (p : Pushing O t c x P (e ∷ S)) where
    ix : In x c.opened
    ix = (found_tx t c.opened x p.lookup).0

    nx : x.name ≡ t
    nx = (found_tx t c.opened x p.lookup).1

    ids : (a b : LocalEntry Op) → Before a b (P ++ e ∷ S) → a.id ≢ b.id
    ids a b i = p.sound.local_ids x ix a b (subst (λ (w : List (LocalEntry Op)). Before a b w) (sym p.log) i)

    module _ (m : e.mark ≡ Unpushed) where
      e_in : In e x.local
      e_in = subst (λ (w : List (LocalEntry Op)). In e w) (sym p.log) (in_right e P (e ∷ S) (inl refl))

      -- The entry is found in L.
      pub found : at_mark e.id Unpushed x.local ≡ Some e
      found = mark_is x.local (p.sound.local_ids x ix) e.id Unpushed e e_in refl m

      -- the configuration after the first PUSH
      abbrev pub c2 : Config Op
      c2 = record c { opened = on_log t (set_mark e.id Pushed) c.opened; shared = c.shared ++ as_shared t false (item e) ∷ [] }

      -- the transaction after it
      abbrev pub x2 : Tx Op
      x2 = relog (set_mark e.id Pushed) x

      -- The first PUSH leads there.
      pub to : then c (Push t e.id) ≡ c2
      to = ap (λ (w : Option (Tx Op)). push_effect c t e.id (entry_of e.id Unpushed w)) p.lookup ∙ ap (λ (w : Option (LocalEntry Op)). push_effect c t e.id w) found

      -- No unpushed entry comes before it.
      pub first_unpushed : (a : LocalEntry Op) → Before a e x.local → a.mark ≡ Unpushed → ⊥
      first_unpushed a i n = elim (before_cases a e P (e ∷ S) (subst (λ (w : List (LocalEntry Op)). Before a e w) p.log i)) [
        | inl j ↦ p.pushed a (before_in_first a e P j) n
        | inr (inl (inl j)) ↦ ids e e (before_right e e P (e ∷ S) (inl (refl, j.1))) refl
        | inr (inl (inr j)) ↦ ids e e (before_right e e P (e ∷ S) (inl (refl, before_in_second a e S j))) refl
        | inr (inr j) ↦ p.pushed a j.0 n
      ]

      first_holds : ((u : SharedEntry Op) → In u c.shared → u.committed ≡ false → u.owner ≢ t → Swaps O u.op e.op) → Allowed O (shared_ops c.shared ++ e.op ∷ []) → Meets O c (Push t e.id)
      first_holds w a = there_is (tx t c.opened) _ x p.lookup (there_is (at_mark e.id Unpushed x.local) _ e found (
        (λ b i n. absurd (first_unpushed b i n)),
        (w, (a, refl)),
      ))

      first_passes : Meets O c (Push t e.id) → (u : SharedEntry Op) → In u c.shared → u.committed ≡ false → u.owner ≢ t → Swaps O u.op e.op
      first_passes h = (there_of (at_mark e.id Unpushed x.local) _ e found (there_of (tx t c.opened) _ x p.lookup h)).1.0

      marked : set_mark e.id Pushed x.local ≡ (P ++ remark Pushed e ∷ []) ++ S
      marked = ap (set_mark e.id Pushed) p.log ∙ map-append (mark_at e.id Pushed) P (e ∷ S)
          ∙ ap (λ (w : List (LocalEntry Op)). w ++ mark_at e.id Pushed e ∷ set_mark e.id Pushed S) (marked_other e.id Pushed P (λ a i. ids a e (before_across a e P (e ∷ S) i (inl refl))))
          ∙ ap (λ (w : List (LocalEntry Op)). P ++ mark_at e.id Pushed e ∷ w) (marked_other e.id Pushed S (λ a i n. ids e a (before_right e a P (e ∷ S) (inl (refl, i))) (sym n)))
          ∙ ap (λ (z : Bool). P ++ cond z (remark Pushed e) e ∷ S) (eq-eqb e.id e.id refl)
          ∙ sym (append_assoc P (remark Pushed e ∷ []) S)

      -- The rest is to be pushed.
      pub next : Meets O c (Push t e.id) → Pushing O t c2 x2 (P ++ remark Pushed e ∷ []) S
      next h = record {
        sound = subst (λ (w : Config Op). Sound O w) to (step_keeps O c (Push t e.id) p.sound h);
        lookup = tx_on t (set_mark e.id Pushed) c.opened x p.lookup;
        log = marked;
        pushed = λ a i. elim (in_cases a P (remark Pushed e ∷ []) i) [
          | inl j ↦ p.pushed a j
          | inr (inl j) ↦ λ n. let z : Pushed ≡ Unpushed = ap (λ (w : LocalEntry Op). w.mark) (sym j) ∙ n in cc
          | inr (inr j) ↦ absurd j
        ];
      }

      ops_more : (M : List (LocalEntry Op)) → shared_ops (c.shared ++ as_shared t false (item e) ∷ []) ++ local_ops M ≡ shared_ops c.shared ++ (e.op ∷ local_ops M)
      ops_more M = ap (λ (w : List Op). w ++ local_ops M) (map-append (λ (g : SharedEntry Op). g.op) c.shared (as_shared t false (item e) ∷ [])) ∙ append_assoc (shared_ops c.shared) (e.op ∷ []) (local_ops M)

      front : (M : List (LocalEntry Op)) → Allowed O (shared_ops c.shared ++ (e.op ∷ local_ops M)) → Allowed O (shared_ops c.shared ++ e.op ∷ [])
      front M a = allowed_front O O.start (shared_ops c.shared ++ e.op ∷ []) (local_ops M) (subst (λ (w : List Op). Allowed O w) (sym (append_assoc (shared_ops c.shared) (e.op ∷ []) (local_ops M))) a)

      pushed_is : as_pushed e ≡ remark Pushed e
      pushed_is = ap (λ (w : Mark). cond (is_mark w Unpushed) (remark Pushed e) e) m

      ends : led c2 ((P ++ remark Pushed e ∷ []) ++ map as_pushed S) (posted t (unpushed S)) ≡ led c (P ++ map as_pushed (e ∷ S)) (posted t (e ∷ unpushed S))
      ends =
          ap (λ (w : List (Tx Op)). record c { opened = w; shared = (c.shared ++ as_shared t false (item e) ∷ []) ++ posted t (unpushed S) })
          (on_log-fuse t (λ l. (P ++ remark Pushed e ∷ []) ++ map as_pushed S) (set_mark e.id Pushed) c.opened
          ∙ ap (λ (w : List (LocalEntry Op)). on_log t (λ l. w) c.opened)
          (append_assoc P (remark Pushed e ∷ []) (map as_pushed S) ∙ ap (λ (w : LocalEntry Op). P ++ w ∷ map as_pushed S) (sym pushed_is)))
          ∙ ap (λ (w : List (SharedEntry Op)). record c { opened = on_log t (λ l. P ++ map as_pushed (e ∷ S)) c.opened; shared = w })
          (append_assoc c.shared (as_shared t false (item e) ∷ []) (posted t (unpushed S)))

      asks_more : PushAsks O t c (e ∷ unpushed S) → PushAsks O t c2 (unpushed S)
      asks_more a = record {
        passes = λ d u i j n k. elim (in_cases u c.shared (as_shared t false (item e) ∷ []) j) [
          | inl z ↦ a.passes d u (inr i) z n k
          | inr (inl z) ↦ absurd (k (ap (λ (w : SharedEntry Op). w.owner) z))
          | inr (inr z) ↦ absurd z
        ];
        allowed = subst (λ (w : List Op). Allowed O w) (sym (ops_more (unpushed S))) a.allowed;
      }

      asks_back : Meets O c (Push t e.id) → PushAsks O t c2 (unpushed S) → PushAsks O t c (e ∷ unpushed S)
      asks_back h a = record {
        passes = λ d u i j n k. elim i [
          | inl z ↦ subst (λ (w : LocalEntry Op). Swaps O u.op w.op) (sym z) (first_passes h u j n k)
          | inr z ↦ a.passes d u z (in_left u c.shared (as_shared t false (item e) ∷ []) j) n k
        ];
        allowed = subst (λ (w : List Op). Allowed O w) (ops_more (unpushed S)) a.allowed;
      }

      first_pushed : (Pushing O t c2 x2 (P ++ remark Pushed e ∷ []) S → Goal c2 (P ++ remark Pushed e ∷ []) S (unpushed S)) → Goal c P (e ∷ S) (e ∷ unpushed S)
      first_pushed rec = (
        (λ a.
            let h = first_holds (λ u i n k. a.passes e u (inl refl) i n k) (front (unpushed S) a.allowed) in
            (h, subst (λ (w : Config Op). RunsFrom O w (pushes (unpushed S))) (sym to) ((rec (next h)).0 (asks_more a)))),
        (λ r.
            let k = (rec (next r.0)).1 (subst (λ (w : Config Op). RunsFrom O w (pushes (unpushed S))) to r.1) in
            (asks_back r.0 k.0, ap (λ (w : Config Op). after_from w (pushes (unpushed S))) to ∙ k.1 ∙ ends)),
      )

    -- An entry that is not unpushed is passed over.
    pub passed : is_mark e.mark Unpushed ≡ false → Pushing O t c x (P ++ e ∷ []) S
    passed m =
        record {
          sound = p.sound;
          lookup = p.lookup;
          log = p.log ∙ sym (append_assoc P (e ∷ []) S);
          pushed = λ a i. elim (in_cases a P (e ∷ []) i) [
            | inl j ↦ p.pushed a j
            | inr (inl j) ↦ λ n. let z : true ≡ false = ap (λ (w : Mark). is_mark w Unpushed) (sym n ∙ ap (λ (w : LocalEntry Op). w.mark) j) ∙ m in cc
            | inr (inr j) ↦ absurd j
          ];
        }

    first_passed : is_mark e.mark Unpushed ≡ false → (Pushing O t c x (P ++ e ∷ []) S → Goal c (P ++ e ∷ []) S (unpushed S)) → Goal c P (e ∷ S) (unpushed S)
    first_passed m rec =
        let q = rec (passed m) in
        let same : (P ++ e ∷ []) ++ map as_pushed S ≡ P ++ map as_pushed (e ∷ S) = append_assoc P (e ∷ []) (map as_pushed S)
        ∙ ap (λ (b : Bool). P ++ cond b (remark Pushed e) e ∷ map as_pushed S) (sym m) in
        (q.0, (λ r. let k = q.1 r in (k.0, k.1 ∙ ap (λ (w : List (LocalEntry Op)). led c w (posted t (unpushed S))) same)))

    by_first : (b : Bool) → is_mark e.mark Unpushed ≡ b → ((c : Config Op) (x : Tx Op) (P : List (LocalEntry Op)) → Pushing O t c x P S → Goal c P S (unpushed S)) →
        Goal c P (e ∷ S) (cond b (e ∷ unpushed S) (unpushed S))
    by_first true m rec = first_pushed (is_mark-true e.mark Unpushed m) (λ q. rec _ _ _ q)
    by_first false m rec = first_passed m (λ q. rec _ _ _ q)

  -- The goal is true of the unpushed entries of each log.
  pub pushed_all : (S P : List (LocalEntry Op)) (c : Config Op) (x : Tx Op) → Pushing O t c x P S → Goal c P S (unpushed S)
  pushed_all [] P c x p =
      let f = found_tx t c.opened x p.lookup in (
        (λ a. tt),
        (λ r. (
          record {
            passes = λ e u i. absurd i;
            allowed = subst (λ (w : List Op). Allowed O w) (sym (append-nil (shared_ops c.shared))) p.sound.shared_allowed;
          },
          sym (ap (λ (w : List (Tx Op)). record c { opened = w; shared = c.shared ++ [] }) (ap (λ (w : List (LocalEntry Op)). on_log t (λ l. w) c.opened) (sym p.log) ∙ on_log-same O c p.sound t x f.0 f.1)
              ∙ ap (λ (w : List (SharedEntry Op)). record c { shared = w }) (append-nil c.shared)),
        )),
      )
  pushed_all (e ∷ S) P c x p = by_first c x P e S p (is_mark e.mark Unpushed) refl (λ d y Q q. pushed_all S Q d y q)
