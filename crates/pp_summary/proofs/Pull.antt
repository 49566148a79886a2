-- One PULL of a refresh.
use Rattle.std.specs.Prelude.{◌≡◌, ◌≢◌, ℕ, Bool, true, false, not, List, [], ◌∷◌, ◌++◌, Option, Some}
use Rattle.std.proofs.Common.{refl, sym, ap, subst, ◌∙◌}
use mathlib.Core.Logic.{inl, inr}
use Rattle.pp_model.specs.Lists.{In, Before}
use Rattle.pp_model.specs.Names.{Name}
use Rattle.pp_model.specs.Object.{Object, Swaps}
use Rattle.pp_model.specs.Config.{is_own, LocalEntry, SharedEntry, Tx, Config, Pull, item, as_shared, tx, then, pull_effect, on_log, of_other}
use Rattle.pp_model.specs.Rules.{Meets}
use Rattle.pp_model.specs.Sound.{Sound, StandsBefore}
use Rattle.pp_model.proofs.Lists.{in_right, in_cases, before_cases, before_left, before_across, before_in_first, before_in_second, in_filter, from_filter, before_from_filter, by_key}
use Rattle.pp_model.proofs.Logs.{found_tx, on_each}
use Rattle.pp_model.proofs.Alone.{there_is}
use Rattle.pp_model.proofs.Keeps.{step_keeps}
use Rattle.pp_records.specs.Expansions.{stands_in}
use Rattle.pp_summary.specs.Boosted.{PlacesSwap, Follows, BoostedBut, Anchored, IsDoneAt, ComesBefore, rest}
use Rattle.pp_summary.proofs.Front.{next_allowed}
use Rattle.pp_summary.proofs.Lookups.{open_before_done, in_first_part}
use Rattle.pp_model.specs.Config.{as_pulled}
use Rattle.pp_laws_summary.proofs.Entries.{is_there, entry_in, was_false, same_or_not}
use Rattle.pp_laws_summary.proofs.Lookups.{there_of, other_is, done_by_other}

module _ {Op State : Type 0} (O : Object Op State) (place : Op → ℕ) (apart : PlacesSwap O place)
    (t : Name) (c : Config Op) (b : BoostedBut O place t c) (x : Tx Op) (lookup : tx t c.opened ≡ Some x)
    (K H : List (SharedEntry Op)) (g : SharedEntry Op) (cut : c.shared ≡ K ++ g ∷ H) (u : g.committed ≡ true)
    (out : stands_in x.local g.id ≡ false)
    (seen : (r : SharedEntry Op) → IsDoneAt place (place g.op) K r → stands_in x.local r.id ≡ true) where
  ix : In x c.opened
  ix = (found_tx t c.opened x lookup).0

  nx : x.name ≡ t
  nx = (found_tx t c.opened x lookup).1

  ig : In g c.shared
  ig = subst (λ (w : List (SharedEntry Op)). In g w) (sym cut) (in_right g K (g ∷ H) (inl refl))

  in_K : (r : SharedEntry Op) → Before r g c.shared → In r K
  in_K r i = in_first_part K H g r (subst (λ (w : List (SharedEntry Op)). (p q : SharedEntry Op) → Before p q w → p.id ≢ q.id) cut b.sound.shared_ids)
      (subst (λ (w : List (SharedEntry Op)). Before r g w) cut i)

  found : of_other t g.id c.shared ≡ Some g
  found = other_is O c b.sound t g ig (λ e. done_by_other O c b.sound x ix g ig u (e ∙ sym nx))

  fresh : (e : LocalEntry Op) → In e x.local → e.id ≢ g.id
  fresh e i n = let z : true ≡ false = sym (is_there g.id x.local e i n) ∙ out in cc

  -- The entries of the rest before g swap with it.
  passes : (q : SharedEntry Op) → Before q g (rest x.local c.shared) → Swaps O q.op g.op
  passes q i = elim (same_or_not (place q.op) (place g.op)) [ inl p ↦ by q.committed refl p | inr p ↦ apart.apart q.op g.op p ]
    where
      test : SharedEntry Op → Bool
      test w = not (stands_in x.local w.id)

      before : Before q g c.shared
      before = before_from_filter test q g c.shared i

      by : (z : Bool) → q.committed ≡ z → place q.op ≡ place g.op → Swaps O q.op g.op
      by false v p = open_before_done O c b.sound q g before v u
      by true v p =
          let out_q = was_false (stands_in x.local q.id) (from_filter test q c.shared (before_in_first q g (rest x.local c.shared) i)).1 in
          let z : true ≡ false = sym (seen q (in_K q before, v, p)) ∙ out_q in
          absurd (cc)

  -- A PULL meets its criteria if each own entry swaps with the entry that it pulls.
  pub pull_holds : ((a : LocalEntry Op) → In a x.local → is_own a.mark ≡ true → Swaps O a.op g.op) → Meets O c (Pull t g.id)
  pull_holds sw = there_is (tx t c.opened) _ x lookup (there_is (of_other t g.id c.shared) _ g found (
    fresh,
    (
      next_allowed O place apart c b.sound x ix (b.follows x ix) g
          (in_filter (λ (w : SharedEntry Op). not (stands_in x.local w.id)) g c.shared ig (ap not out)) passes,
      (sw, refl),
    ),
  ))

  -- If a PULL meets its criteria, each own entry swaps with the entry that it pulls.
  pub pull_swaps : Meets O c (Pull t g.id) → (a : LocalEntry Op) → In a x.local → is_own a.mark ≡ true → Swaps O a.op g.op
  pull_swaps h = (there_of (of_other t g.id c.shared) _ g found (there_of (tx t c.opened) _ x lookup h)).1.1.0

  -- The local log with the pulled entry at its end.
  abbrev pub longer : List (LocalEntry Op) → List (LocalEntry Op)
  longer l = l ++ as_pulled g ∷ []

  -- The configuration after the PULL.
  abbrev pub next : Config Op
  next = record c { opened = on_log t (λ l. l ++ as_pulled g ∷ []) c.opened }

  -- A PULL adds the pulled entry to the local log of its transaction.
  pub pull_then : then c (Pull t g.id) ≡ next
  pull_then = ap (λ (w : Option (SharedEntry Op)). pull_effect c t g.id w) found

  is_new : (a : LocalEntry Op) → In a (as_pulled g ∷ []) → a ≡ as_pulled g
  is_new a (inl k) = k
  is_new a (inr k) = elim k [ ]

  lone : (p q : LocalEntry Op) → Before p q (as_pulled g ∷ []) → ⊥
  lone p q (inl k) = k.1
  lone p q (inr k) = k

  -- A local log that follows the shared log still follows it with the pulled entry.
  pub pull_follows : Follows O place c.shared (x.local ++ as_pulled g ∷ [])
  pull_follows =
      let f = b.follows x ix in
      record {
        own_pushed = λ a i o. elim (in_cases a x.local (as_pulled g ∷ []) i) [ inl j ↦ f.own_pushed a j o | inr j ↦ absurd (not_own a j o) ];
        own_order = λ p q i o r. elim (before_cases p q x.local (as_pulled g ∷ []) i) [
          | inl j ↦ f.own_order p q j o r
          | inr (inl j) ↦ absurd (lone p q j)
          | inr (inr j) ↦ absurd (not_own q j.1 r)
        ];
        pulled_stand = λ p i m. elim (in_cases p x.local (as_pulled g ∷ []) i) [
          | inl j ↦ f.pulled_stand p j m
          | inr j ↦ subst (λ (w : LocalEntry Op). In (as_shared w.owner true (item w)) c.shared) (sym (is_new p j))
              (subst (λ (z : Bool). In (record { id = g.id; owner = g.owner; committed = z; op = g.op }) c.shared) u ig)
        ];
        late = λ l r i d st un. elim (in_cases l x.local (as_pulled g ∷ []) i) [
          | inl j ↦ f.late l r j d st (λ z. un (z.0, z.1, before_left z.0 z.1 x.local (as_pulled g ∷ []) z.2, z.3, z.4))
          | inr j ↦ absurd (un (earlier l r (is_new l j) d st))
        ];
      }
    where
      not_own : (a : LocalEntry Op) → In a (as_pulled g ∷ []) → is_own a.mark ≡ true → ⊥
      not_own a i o = let z : false ≡ true = ap (λ (w : LocalEntry Op). is_own w.mark) (sym (is_new a i)) ∙ o in cc

      same : (p q : SharedEntry Op) → In p c.shared → In q c.shared → p.id ≡ q.id → p ≡ q
      same p q i j e = by_key (λ (w : SharedEntry Op). w.id) c.shared b.sound.shared_ids p q i j e

      earlier : (l : LocalEntry Op) (r : SharedEntry Op) → l ≡ as_pulled g → IsDoneAt place (place l.op) c.shared r → StandsBefore r.id l.id c.shared → ComesBefore r.id l.id (x.local ++ as_pulled g ∷ [])
      earlier l r e d st =
          let er : st.0 ≡ r = same st.0 r (before_in_first st.0 st.1 c.shared st.2) d.0 st.3 in
          let eg : st.1 ≡ g = same st.1 g (before_in_second st.0 st.1 c.shared st.2) ig (st.4 ∙ ap (λ (w : LocalEntry Op). w.id) e) in
          let rg : Before r g c.shared = subst (λ (w : SharedEntry Op). Before w g c.shared) er (subst (λ (w : SharedEntry Op). Before st.0 w c.shared) eg st.2) in
          let k = entry_in r.id x.local (seen r (in_K r rg, d.1, d.2 ∙ ap (λ (w : LocalEntry Op). place w.op) e)) in
          (k.0, as_pulled g, before_across k.0 (as_pulled g) x.local (as_pulled g ∷ []) k.1 (inl refl), k.2, ap (λ (w : LocalEntry Op). w.id) (sym e))

  -- A PULL of a refresh keeps a configuration boosted but for its transaction.
  pub pull_boosted_but : Meets O c (Pull t g.id) → BoostedBut O place t next
  pull_boosted_but h =
      record {
        sound = subst (λ (w : Config Op). Sound O w) pull_then (step_keeps O c (Pull t g.id) b.sound h);
        follows = on_each t longer c.opened (λ (w : Tx Op). Follows O place c.shared w.local)
            (λ w i n. subst (λ (z : Tx Op). Follows O place c.shared (z.local ++ as_pulled g ∷ [])) (by_key (λ (z : Tx Op). z.name) c.opened b.sound.open_names x w ix i (nx ∙ sym n)) pull_follows)
            (λ w i n. b.follows w i);
        anchored = on_each t longer c.opened (λ (w : Tx Op). w.name ≢ t → Anchored place w.local) (λ w i n k. absurd (k n)) (λ w i n k. b.anchored w i k);
      }
