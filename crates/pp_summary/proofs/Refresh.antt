-- A refresh, PULL by PULL.
use Rattle.std.specs.Prelude.{◌≡◌, ◌≢◌, ◌⊎◌, ℕ, ◌==◌, Bool, true, false, not, cond, ◌&&◌, List, [], ◌∷◌, ◌++◌, map, filter, Some}
use Rattle.std.proofs.Common.{refl, sym, ap, subst, ◌∙◌, append_assoc}
use Rattle.std.proofs.lemmas.List.{append-nil}
use Rattle.std.proofs.lemmas.Bool.{eqb-true, eq-eqb}
use mathlib.Core.Logic.{inl, inr}
use Rattle.pp_model.specs.Lists.{In, Before}
use Rattle.pp_model.specs.Names.{Name}
use Rattle.pp_model.specs.Object.{Object, Swaps}
use Rattle.pp_model.specs.Config.{Pulled, is_own, LocalEntry, SharedEntry, Tx, Config, Step, Pull, own_items, tx, then, on_log, relog, after_from}
use Rattle.pp_model.specs.Rules.{Meets, RunsFrom}
use Rattle.pp_model.proofs.Lists.{in_left, in_right, in_cases}
use Rattle.pp_model.proofs.Logs.{found_tx, in_on_same}
use Rattle.pp_model.proofs.Steps.{own_items-append}
use Rattle.pp_records.specs.Expansions.{stands_in}
use Rattle.pp_summary.specs.Boosted.{PlacesSwap, BoostedBut, IsDoneAt, IsOwnAt}
use Rattle.pp_summary.proofs.Pull.{pull_holds, pull_swaps, pull_then, pull_boosted_but}
use Rattle.std.proofs.lemmas.Bool.{and_parts}
use Rattle.pp_model.specs.Config.{as_pulled}
use Rattle.pp_laws_summary.proofs.Entries.{is_there, entry_in, stands_in-snoc, was_false, same_or_not}
use Rattle.pp_laws_summary.proofs.Lookups.{tx_is}
use Rattle.pp_laws_summary.proofs.Relog.{on_log-fuse, relogged}

-- The entry is committed, at the place o, and not in L.
abbrev pub is_missing : {Op : Type 0} → (Op → ℕ) → ℕ → List (LocalEntry Op) → SharedEntry Op → Bool
is_missing place o L g = (g.committed && (place g.op == o)) && not (stands_in L g.id)

-- A refresh of x0 at the place o began in c0 and is now at c, and the transaction is now x. The shared log is K ++ H, and the entries of K
-- are done.
pub record Refreshing {Op State : Type 0} (O : Object Op State) (place : Op → ℕ) (t : Name) (c0 : Config Op) (x0 : Tx Op) (o : ℕ) (K H : List (SharedEntry Op)) (c : Config Op) (x : Tx Op) : Type 0 where
  pub boosted_but : BoostedBut O place t c
  pub lookup : tx t c.opened ≡ Some x
  pub is : c ≡ relogged c0 t x.local
  pub shared : c.shared ≡ c0.shared
  pub ids : c.ids ≡ c0.ids
  pub body : x.body ≡ x0.body
  pub own : own_items x.local ≡ own_items x0.local
  pub cut : c.shared ≡ K ++ H
  pub kept : (a : LocalEntry Op) → In a x0.local → In a x.local
  pub added : (a : LocalEntry Op) → In a x.local → In a x0.local ⊎ ((a.mark ≡ Pulled) × (place a.op ≡ o))
  pub seen : (r : SharedEntry Op) → IsDoneAt place o K r → stands_in x.local r.id ≡ true
  pub ahead : (r : SharedEntry Op) → In r H → stands_in x.local r.id ≡ stands_in x0.local r.id

is_missing-false : {Op : Type 0} (place : Op → ℕ) (o : ℕ) (L : List (LocalEntry Op)) (g : SharedEntry Op) → g.committed ≡ true → place g.op ≡ o → is_missing place o L g ≡ false → stands_in L g.id ≡ true
is_missing-false place o L g u p e = go (stands_in L g.id) refl
  where
    go : (b : Bool) → stands_in L g.id ≡ b → stands_in L g.id ≡ true
    go true h = h
    go false h =
        let z : is_missing place o L g ≡ true = ap (λ (b : Bool). (b && (place g.op == o)) && not (stands_in L g.id)) u
        ∙ ap (λ (b : Bool). b && not (stands_in L g.id)) (eq-eqb (place g.op) o p) ∙ ap not h in
        absurd (let y : true ≡ false = sym z ∙ e in cc)

module _ {Op State : Type 0} (O : Object Op State) (place : Op → ℕ) (apart : PlacesSwap O place)
    (t : Name) (c0 : Config Op) (x0 : Tx Op) (o : ℕ) where
  -- The own entries of x0 at the place swap with each committed entry of H there that x0 does not have.
  abbrev pub Passing : List (SharedEntry Op) → Type 0
  Passing H = (a : LocalEntry Op) (p : SharedEntry Op) → IsOwnAt place o x0.local a → IsDoneAt place o H p → stands_in x0.local p.id ≡ false → Swaps O a.op p.op

  -- The refresh of the place has ended in this configuration: no entry is left.
  abbrev pub Ended : Config Op → Type 0
  Ended c = (K : List (SharedEntry Op)) × (x : Tx Op) × Refreshing O place t c0 x0 o K [] c x

  -- These steps meet their criteria exactly if `Passing H` is true, and the refresh has then ended.
  abbrev pub Goal : List (SharedEntry Op) → Config Op → List (Step Op) → Type 0
  Goal H c ss = (Passing H → RunsFrom O c ss) × (RunsFrom O c ss → Passing H × Ended (after_from c ss))

  -- A PULL of each of these entries.
  abbrev pub pulls : List (SharedEntry Op) → List (Step Op)
  pulls M = map (λ g. Pull t g.id) M

  -- The refresh after one more PULL.
  pulled_on : (c : Config Op) (x : Tx Op) (K H : List (SharedEntry Op)) (g : SharedEntry Op) → Refreshing O place t c0 x0 o K (g ∷ H) c x →
      place g.op ≡ o → BoostedBut O place t (record c { opened = on_log t (λ l. l ++ as_pulled g ∷ []) c.opened }) →
      Refreshing O place t c0 x0 o (K ++ g ∷ []) H (record c { opened = on_log t (λ l. l ++ as_pulled g ∷ []) c.opened }) (relog (λ l. l ++ as_pulled g ∷ []) x)
  pulled_on c x K H g r p b =
      record {
        boosted_but = b;
        lookup = tx_is O n b.sound t (relog more x) (in_on_same t more x c.opened f.0 f.1) f.1;
        is = ap (λ (w : Config Op). record w { opened = on_log t more w.opened }) r.is ∙ ap (λ (w : List (Tx Op)). record c0 { opened = w }) (on_log-fuse t more (λ l. x.local) c0.opened);
        shared = r.shared;
        ids = r.ids;
        body = r.body;
        own = own_items-append x.local (e ∷ []) ∙ append-nil (own_items x.local) ∙ r.own;
        cut = r.cut ∙ sym (append_assoc K (g ∷ []) H);
        kept = λ a i. in_left a x.local (e ∷ []) (r.kept a i);
        added = λ a i. elim (in_cases a x.local (e ∷ []) i) [
          | inl j ↦ r.added a j
          | inr j ↦ inr (ap (λ (w : LocalEntry Op). w.mark) (is_e a j), ap (λ (w : LocalEntry Op). place w.op) (is_e a j) ∙ p)
        ];
        seen = λ q d. elim (in_cases q K (g ∷ []) d.0) [
          | inl j ↦ let k = entry_in q.id x.local (r.seen q (j, d.1, d.2)) in is_there q.id (x.local ++ e ∷ []) k.0 (in_left k.0 x.local (e ∷ []) k.1) k.2
          | inr j ↦ is_there q.id (x.local ++ e ∷ []) e (in_right e x.local (e ∷ []) (inl refl)) (ap (λ (w : SharedEntry Op). w.id) (sym (is_g q j)))
        ];
        ahead = λ q i. stands_in-snoc q.id x.local e (distinct q i) ∙ r.ahead q (inr i);
      }
    where
      e : LocalEntry Op
      e = as_pulled g

      more : List (LocalEntry Op) → List (LocalEntry Op)
      more l = l ++ as_pulled g ∷ []

      n : Config Op
      n = record c { opened = on_log t (λ l. l ++ as_pulled g ∷ []) c.opened }

      f : In x c.opened × (x.name ≡ t)
      f = found_tx t c.opened x r.lookup

      is_e : (a : LocalEntry Op) → In a (as_pulled g ∷ []) → a ≡ as_pulled g
      is_e a (inl k) = k
      is_e a (inr k) = elim k [ ]

      is_g : (a : SharedEntry Op) → In a (g ∷ []) → a ≡ g
      is_g a (inl k) = k
      is_g a (inr k) = elim k [ ]

      distinct : (q : SharedEntry Op) → In q H → g.id ≢ q.id
      distinct q i = r.boosted_but.sound.shared_ids g q (subst (λ (w : List (SharedEntry Op)). Before g q w) (sym r.cut) (later K))
        where
          later : (K : List (SharedEntry Op)) → Before g q (K ++ g ∷ H)
          later [] = inl (refl, i)
          later (k ∷ K) = inr (later K)

  -- The refresh after one more entry that is not pulled.
  passed_on : (c : Config Op) (x : Tx Op) (K H : List (SharedEntry Op)) (g : SharedEntry Op) → Refreshing O place t c0 x0 o K (g ∷ H) c x →
      is_missing place o x0.local g ≡ false → Refreshing O place t c0 x0 o (K ++ g ∷ []) H c x
  passed_on c x K H g r m =
      record {
        boosted_but = r.boosted_but;
        lookup = r.lookup;
        is = r.is;
        shared = r.shared;
        ids = r.ids;
        body = r.body;
        own = r.own;
        cut = r.cut ∙ sym (append_assoc K (g ∷ []) H);
        kept = r.kept;
        added = r.added;
        seen = λ q d. elim (in_cases q K (g ∷ []) d.0) [
          | inl j ↦ r.seen q (j, d.1, d.2)
          | inr (inl j) ↦ subst (λ (w : SharedEntry Op). stands_in x.local w.id ≡ true) (sym j)
              (r.ahead g (inl refl) ∙ is_missing-false place o x0.local g (ap (λ (w : SharedEntry Op). w.committed) (sym j) ∙ d.1) (ap (λ (w : SharedEntry Op). place w.op) (sym j) ∙ d.2) m)
          | inr (inr j) ↦ absurd j
        ];
        ahead = λ q i. r.ahead q (inr i);
      }

  by_entry : (H K : List (SharedEntry Op)) (g : SharedEntry Op) (c : Config Op) (x : Tx Op) → Refreshing O place t c0 x0 o K (g ∷ H) c x →
      ((K : List (SharedEntry Op)) (c : Config Op) (x : Tx Op) → Refreshing O place t c0 x0 o K H c x → Goal H c (pulls (filter (is_missing place o x0.local) H))) →
      (z : Bool) → is_missing place o x0.local g ≡ z →
      Goal (g ∷ H) c (pulls (cond z (g ∷ filter (is_missing place o x0.local) H) (filter (is_missing place o x0.local) H)))
  by_entry H K g c x r rec false m =
      let go = rec (K ++ g ∷ []) c x (passed_on c x K H g r m) in (
        (λ h. go.0 (λ a p d q. h a p d (inr q.0, q.1, q.2))),
        (λ k. let e = go.1 k in ((λ a p d q n. with_g e.0 a p d q.0 q.1 q.2 n), e.1)),
      )
    where
      with_g : Passing H → (a : LocalEntry Op) (p : SharedEntry Op) → IsOwnAt place o x0.local a → In p (g ∷ H) → p.committed ≡ true → place p.op ≡ o → stands_in x0.local p.id ≡ false → Swaps O a.op p.op
      with_g h a p d (inr i) u q n = h a p d (i, u, q) n
      with_g h a p d (inl i) u q n =
          let k = is_missing-false place o x0.local p u q (ap (λ (w : SharedEntry Op). is_missing place o x0.local w) i ∙ m) in
          absurd (let z : true ≡ false = sym k ∙ n in cc)
  by_entry H K g c x r rec true m = (
    (λ h. let k = holds (λ a i w. own_passes h a i w) in (k, (on k).0 (λ a p d q. h a p d (inr q.0, q.1, q.2)))),
    (λ k. let e = (on k.0).1 k.1 in ((λ a p d q n. with_g e.0 (swap k.0) a p d q.0 q.1 q.2 n), e.1)),
  )
    where
      more : ((g.committed && (place g.op == o)) ≡ true) × (not (stands_in x0.local g.id) ≡ true)
      more = and_parts (g.committed && (place g.op == o)) (not (stands_in x0.local g.id)) m

      parts : (g.committed ≡ true) × ((place g.op == o) ≡ true)
      parts = and_parts g.committed (place g.op == o) more.0

      at_o : place g.op ≡ o
      at_o = eqb-true (place g.op) o parts.1

      out : stands_in x.local g.id ≡ false
      out = r.ahead g (inl refl) ∙ was_false (stands_in x0.local g.id) more.1

      seen : (q : SharedEntry Op) → IsDoneAt place (place g.op) K q → stands_in x.local q.id ≡ true
      seen q d = r.seen q (d.0, d.1, d.2 ∙ at_o)

      holds : ((a : LocalEntry Op) → In a x.local → is_own a.mark ≡ true → Swaps O a.op g.op) → Meets O c (Pull t g.id)
      holds = pull_holds O place apart t c r.boosted_but x r.lookup K H g r.cut parts.0 out seen

      swap : Meets O c (Pull t g.id) → (a : LocalEntry Op) → In a x.local → is_own a.mark ≡ true → Swaps O a.op g.op
      swap = pull_swaps O place apart t c r.boosted_but x r.lookup K H g r.cut parts.0 out seen

      on : Meets O c (Pull t g.id) → Goal H (then c (Pull t g.id)) (pulls (filter (is_missing place o x0.local) H))
      on h = subst (λ (w : Config Op). Goal H w (pulls (filter (is_missing place o x0.local) H)))
          (sym (pull_then O place apart t c r.boosted_but x r.lookup K H g r.cut parts.0 out seen))
          (rec (K ++ g ∷ []) (record c { opened = on_log t (λ l. l ++ as_pulled g ∷ []) c.opened }) (relog (λ l. l ++ as_pulled g ∷ []) x)
          (pulled_on c x K H g r at_o (pull_boosted_but O place apart t c r.boosted_but x r.lookup K H g r.cut parts.0 out seen h)))

      own_passes : Passing (g ∷ H) → (a : LocalEntry Op) → In a x.local → is_own a.mark ≡ true → Swaps O a.op g.op
      own_passes h a i w = elim (same_or_not (place a.op) o) [
        | inl p ↦ elim (r.added a i) [
          | inl j ↦ h a g (j, w, p) (inl refl, parts.0, at_o) (was_false (stands_in x0.local g.id) more.1)
          | inr j ↦ absurd (let z : false ≡ true = ap is_own (sym j.0) ∙ w in cc)
        ]
        | inr p ↦ apart.apart a.op g.op (λ e. p (e ∙ at_o))
      ]

      with_g : Passing H → ((a : LocalEntry Op) → In a x.local → is_own a.mark ≡ true → Swaps O a.op g.op) →
          (a : LocalEntry Op) (p : SharedEntry Op) → IsOwnAt place o x0.local a → In p (g ∷ H) → p.committed ≡ true → place p.op ≡ o → stands_in x0.local p.id ≡ false → Swaps O a.op p.op
      with_g h k a p d (inr i) u q n = h a p d (i, u, q) n
      with_g h k a p d (inl i) u q n = subst (λ (w : SharedEntry Op). Swaps O a.op w.op) (sym i) (k a (r.kept a d.0) d.1)

  -- The PULLs of all missing entries meet their criteria exactly if the own entries swap with them, and end the refresh.
  pub refreshed : (H K : List (SharedEntry Op)) (c : Config Op) (x : Tx Op) → Refreshing O place t c0 x0 o K H c x → Goal H c (pulls (filter (is_missing place o x0.local) H))
  refreshed [] K c x r = ((λ h. tt), (λ k. ((λ a p d q n. absurd q.0), (K, x, r))))
  refreshed (g ∷ H) K c x r = by_entry H K g c x r (λ L d y q. refreshed H L d y q) (is_missing place o x0.local g) refl
