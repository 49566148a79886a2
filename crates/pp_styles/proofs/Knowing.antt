-- What is known of transactions stays true from step to step.
use Rattle.std.proofs.Common.{◌≡◌, ◌≢◌, ◌⊎◌, ◌≤◌, ◌<◌, ◌+◌, ◌-◌, ◌==◌, ℕ, zero, suc, Bool, true}
use Rattle.std.proofs.Common.{false, List, [], ◌∷◌, ◌++◌, length, filter, drop, take, Option, None}
use Rattle.std.proofs.Common.{Some, refl, sym, ap, subst, ◌∙◌, arith, inl, inr, if◌then◌else◌}
use Rattle.std.specs.List.{slice_get}
use Rattle.std.proofs.lemmas.Bool.{cases_lt, eq-eqb}
use Rattle.std.proofs.lemmas.Option.{same_Some}
use Rattle.pp_core.specs.Steps.{Step, Begin, App, Unapp, Push, Unpush, Pull, Unpull, Cmt, Quit, Note}
use Rattle.pp_core.specs.declared.entry.CommittedTx.{CommittedTx}
use Rattle.pp_core.specs.declared.entry.LocalEntry.{LocalEntry}
use Rattle.pp_core.specs.declared.entry.SharedEntry.{SharedEntry}
use Rattle.pp_records.specs.Expansions.{stands_in, pushall}
use Rattle.pp_model.specs.Config.{Config, Tx, Unpushed, Pushed, is_mark, is_own, on_log, relog, set_mark, then}
use Rattle.pp_model.specs.Config.{push_effect, pull_effect, commit_effect, of_other, entry_of, but_last, last}
use Rattle.pp_model.specs.Config.{as_pulled, as_shared, tx, without_local, without_tx}
use Rattle.pp_model.specs.Lists.{Before, In}
use Rattle.pp_model.specs.Names.{Name, ◌=ⁿ◌}
use Rattle.pp_model.specs.Object.{Item, Object}
use Rattle.pp_model.specs.Rules.{IsLast, Meets}
use Rattle.pp_model.specs.Sound.{Sound}
use Rattle.pp_model.proofs.Lists.{by_key, from_filter, in_cases, in_filter, in_left, in_map, in_right}
use Rattle.pp_model.proofs.Logs.{found_tx, on_each}
use Rattle.pp_model.proofs.Names.{eq-names, names-true, names_tell}
use Rattle.pp_model.proofs.Push.{not_done}
use Rattle.pp_model.proofs.Steps.{only_one, there_holds}
use Rattle.pp_styles.specs.Knowing.{Forgets, ForgetsBefore, HasPushed, HasTaken, IsAllBut}
use Rattle.pp_styles.specs.Knowing.{IsTrueOf, IsUntaken, Knowledge, Lists, ListsAfter, ListsAll}
use Rattle.pp_styles.specs.Knowing.{PushesMore, TakesMore, ids_of, ids_on, last_of, local_place}
use Rattle.pp_styles.proofs.Counts.{pushed_fewer, pushed_longer, pushed_marked, pushed_none, pushed_rest}
use Rattle.pp_styles.proofs.Counts.{pushed_shorter, pushed_unmarked, pushed_without, taken_listed, taken_lower}
use Rattle.pp_styles.proofs.Counts.{taken_none, taken_onward, taken_without}
use Rattle.pp_styles.proofs.Ids.{in_drop_right, last_there, later_in, not_shorter, not_with, stands_marked}
use Rattle.pp_styles.proofs.Ids.{unapplied_entry}
use Rattle.pp_styles.proofs.Leaving.{IsAfterPushed, Lowers, after_pushed, lowers_pulled, lowers_to}

-- ---- a transaction

module _ {Op : Type 0} (place : Op → ℕ) where
  -- what is known, by transactions
  abbrev Listed : Knowledge → List (CommittedTx Op) → Type 0
  Listed k done = (d : CommittedTx Op) → In d done → (p : Item Op) → In p d.entries → In p.id (k.ids (place p.op))

  -- what is known of one is true
  record Holds (done : List (CommittedTx Op)) (k : Knowledge) (x : Tx Op) : Type 0 where
    taken : (o : ℕ) → HasTaken place o done (k.ids o) (k.taken x.name o) x.local
    pushed : HasPushed (k.pushed x.name) x.local

  on_there : (items : List (Item Op)) (p : Item Op) → In p items → In p.id (ids_on place (place p.op) items)
  on_there items p i =
      in_map (λ (q : Item Op). q.id) p (filter (λ (q : Item Op). place q.op == place p.op) items)
      (in_filter (λ (q : Item Op). place q.op == place p.op) p items i (eq-eqb (place p.op) (place p.op) refl))

  -- what the last one committed is among the ids of its object
  in_last : (done : List (CommittedTx Op)) (e : CommittedTx Op) (p : Item Op) → In p e.entries → In p.id (ids_of place (place p.op) (last_of (done ++ e ∷ [])))
  in_last done e p i = subst (λ (w : Option (CommittedTx Op)). In p.id (ids_of place (place p.op) w)) (sym (last_there done e)) (on_there e.entries p i)

  module _ (done : List (CommittedTx Op)) (k : Knowledge) where
    holds_longer : (r : List (LocalEntry Op)) (x : Tx Op) → Holds done k x → Holds done k (relog (λ l. l ++ r) x)
    holds_longer r x h =
        record {
          taken = λ o. taken_onward place o done (k.ids o) (k.taken x.name o) x.local (x.local ++ r) (λ d i p j. not_shorter x.local r p.id) (h.taken o);
          pushed = pushed_longer (k.pushed x.name) x.local r h.pushed;
        }

    holds_marked : (id : ℕ) (x : Tx Op) → Holds done k x → Holds done k (relog (set_mark id Pushed) x)
    holds_marked id x h =
        record {
          taken = λ o. taken_onward place o done (k.ids o) (k.taken x.name o) x.local (set_mark id Pushed x.local) (λ d i p j off. sym (stands_marked id Pushed x.local p.id) ∙ off) (h.taken o);
          pushed = pushed_marked (k.pushed x.name) id x.local h.pushed;
        }

    -- an own unpushed entry less, which no transaction committed
    holds_shorter : (e : LocalEntry Op) (x : Tx Op) → x.local ≡ but_last x.local ++ e ∷ [] → e.mark ≡ Unpushed →
        ((d : CommittedTx Op) → In d done → (p : Item Op) → In p d.entries → p.id ≢ e.id) → Holds done k x → Holds done k (relog but_last x)
    holds_shorter e x is unpushed apart h =
        record {
          taken = λ o. taken_onward place o done (k.ids o) (k.taken x.name o) x.local (but_last x.local)
              (λ d i p j off. subst (λ (w : List (LocalEntry Op)). stands_in w p.id ≡ false) (sym is) (not_with (but_last x.local) e p.id (λ same. apart d i p j (sym same)) off)) (h.taken o);
          pushed = pushed_shorter (k.pushed x.name) (but_last x.local) e unpushed (subst (λ (w : List (LocalEntry Op)). HasPushed (k.pushed x.name) w) is h.pushed);
        }

    -- where all is listed, nothing is enough
    holds_nothing : Listed k done → (x : Tx Op) → ((o : ℕ) → k.taken x.name o ≡ 0) → k.pushed x.name ≡ 0 → Holds done k x
    holds_nothing listed x taken pushed =
        record {
          taken = λ o. subst (λ (n : ℕ). HasTaken place o done (k.ids o) n x.local) (sym (taken o))
              (taken_none place o done (k.ids o) x.local (λ d i p j on. subst (λ (n : ℕ). In p.id (k.ids n)) on (listed d i p j)));
          pushed = subst (λ (n : ℕ). HasPushed n x.local) (sym pushed) (pushed_none x.local);
        }

  -- lower numbers
  module _ (done : List (CommittedTx Op)) (k new : Knowledge) (f : Lowers k new) where
    holds_lower : (x : Tx Op) → Holds done k x → Holds done new x
    holds_lower x h =
        record {
          taken = λ o. subst (λ (ids : List ℕ). HasTaken place o done ids (new.taken x.name o) x.local) (sym (f.ids o))
              (taken_lower place o done (k.ids o) (k.taken x.name o) (new.taken x.name o) x.local (f.taken x.name o) (h.taken o));
          pushed = pushed_fewer (k.pushed x.name) (new.pushed x.name) x.local (f.pushed x.name) h.pushed;
        }

    holds_unmarked : (id : ℕ) (x : Tx Op) → ((i : ℕ) (e : LocalEntry Op) → i < new.pushed x.name → slice_get x.local i ≡ Some e → (e.id == id) ≡ false) →
        Holds done k x → Holds done new (relog (set_mark id Unpushed) x)
    holds_unmarked id x other h =
        let low = holds_lower x h in
        record {
          taken = λ o. taken_onward place o done (new.ids o) (new.taken x.name o) x.local (set_mark id Unpushed x.local) (λ d i p j off. sym (stands_marked id Unpushed x.local p.id) ∙ off) (low.taken o);
          pushed = pushed_unmarked (new.pushed x.name) id x.local other low.pushed;
        }

    holds_without : (id : ℕ) (x : Tx Op) → new.pushed x.name ≤ k.pushed x.name - 1 → ((e f : LocalEntry Op) → Before e f x.local → e.id ≢ f.id) →
        ((o : ℕ) (d : CommittedTx Op) → In d done → (p : Item Op) → In p d.entries → place p.op ≡ o → p.id ≡ id → In p.id (drop (new.taken x.name o) (new.ids o))) →
        Holds done k x → Holds done new (relog (without_local id) x)
    holds_without id x fewer distinct again h =
        let low = holds_lower x h in
        record {
          taken = λ o. taken_without place o done (new.ids o) (new.taken x.name o) id x.local (again o) (low.taken o);
          pushed = pushed_fewer (k.pushed x.name - 1) (new.pushed x.name) (without_local id x.local) fewer (pushed_without (k.pushed x.name) id x.local distinct h.pushed);
        }

  module _ (done : List (CommittedTx Op)) (t : Name) (k new : Knowledge) (f : Forgets t k new) (listed : Listed k done) where
    still_listed : Listed new done
    still_listed d i p j = subst (λ (ids : List ℕ). In p.id ids) (sym (f.ids (place p.op))) (listed d i p j)

    -- nothing is known of this one
    holds_forgotten : (x : Tx Op) → x.name ≡ t → Holds done new x
    holds_forgotten x is =
        let here : (x.name =ⁿ t) ≡ true = eq-names x.name t is in
        holds_nothing done new still_listed x (λ o. f.taken x.name o ∙ ap (λ (b : Bool). if b then 0 else k.taken x.name o) here)
        (f.pushed x.name ∙ ap (λ (b : Bool). if b then 0 else k.pushed x.name) here)

    -- and as much as before of any other
    holds_other : (x : Tx Op) → x.name ≢ t → Holds done k x → Holds done new x
    holds_other x off h = elim (names_tell x.name t) [
      | inl same ↦ absurd (off same.1)
      | inr other ↦ record {
        taken = λ o. subst (λ (ids : List ℕ). HasTaken place o done ids (new.taken x.name o) x.local) (sym (f.ids o))
            (subst (λ (n : ℕ). HasTaken place o done (k.ids o) n x.local) (sym (f.taken x.name o ∙ ap (λ (b : Bool). if b then 0 else k.taken x.name o) other.0)) (h.taken o));
        pushed = subst (λ (n : ℕ). HasPushed n x.local) (sym (f.pushed x.name ∙ ap (λ (b : Bool). if b then 0 else k.pushed x.name) other.0)) h.pushed;
      }
    ]

    holds_still : (x : Tx Op) → Holds done k x → Holds done new x
    holds_still x h = elim (names_tell x.name t) [ inl same ↦ holds_forgotten x same.1 | inr other ↦ holds_other x other.1 h ]

  -- more ids do not matter
  module _ (done : List (CommittedTx Op)) (more : ℕ → List ℕ) (k new : Knowledge) (f : Lists more k new) (x : Tx Op) (h : Holds done k x) where
    listed_taken : (o : ℕ) → HasTaken place o done (k.ids o ++ more o) (new.taken x.name o) x.local
    listed_taken o =
        subst (λ (n : ℕ). HasTaken place o done (k.ids o ++ more o) n x.local) (sym (f.taken x.name o))
        (taken_listed place o done (k.ids o) (k.taken x.name o) (more o) x.local (h.taken o))

    listed_pushed : HasPushed (new.pushed x.name) x.local
    listed_pushed = subst (λ (n : ℕ). HasPushed n x.local) (sym (f.pushed x.name)) h.pushed

    holds_listed : Holds done new x
    holds_listed =
        record {
          taken = λ o. subst (λ (ids : List ℕ). HasTaken place o done ids (new.taken x.name o) x.local) (sym (f.ids o)) (listed_taken o);
          pushed = listed_pushed;
        }

    -- those of one more that is committed
    holds_more : (e : CommittedTx Op) → ((p : Item Op) → In p e.entries → In p.id (more (place p.op))) → Holds (done ++ e ∷ []) new x
    holds_more e all =
        record {
          taken = λ o. subst (λ (ids : List ℕ). HasTaken place o (done ++ e ∷ []) ids (new.taken x.name o) x.local) (sym (f.ids o))
              (record { within = let r = listed_taken o in r.within; rest = rest o });
          pushed = listed_pushed;
        }
      where
        rest : (o : ℕ) (d : CommittedTx Op) → In d (done ++ e ∷ []) → (p : Item Op) → In p d.entries → place p.op ≡ o → stands_in x.local p.id ≡ false → In p.id (drop (new.taken x.name o) (k.ids o ++ more o))
        rest o d i p j on off =
            let r = listed_taken o in
            let old = h.taken o in
            let low = old.within in
            let same = f.taken x.name o in
            elim (in_cases d done (e ∷ []) i) [
              | inl before ↦ r.rest d before p j on off
              | inr (inl here) ↦ in_drop_right (new.taken x.name o) (k.ids o) (more o) p.id (omega arith)
                  (subst (λ (n : ℕ). In p.id (more n)) on (all p (subst (λ (w : CommittedTx Op). In p w.entries) here j)))
              | inr (inr none) ↦ absurd none
            ]

-- ---- a configuration

module _ {Op : Type 0} (place : Op → ℕ) where
  abbrev AllHold : List (CommittedTx Op) → Knowledge → List (Tx Op) → Type 0
  AllHold done k xs = (x : Tx Op) → In x xs → Holds place done k x

  by_each : (k : Knowledge) (c : Config Op) → IsTrueOf place k c → AllHold c.done k c.opened
  by_each k c h x i = record { taken = h.taken x i; pushed = h.pushed x i }

  from_each : (k : Knowledge) (c : Config Op) → Listed place k c.done → AllHold c.done k c.opened → IsTrueOf place k c
  from_each k c listed all =
      record {
        listed = listed;
        taken = λ x i. let h = all x i in h.taken;
        pushed = λ x i. let h = all x i in h.pushed;
      }

  more_listed : (more : ℕ → List ℕ) (k new : Knowledge) → Lists more k new → (done : List (CommittedTx Op)) → Listed place k done → Listed place new done
  more_listed more k new f done h d i p j =
      subst (λ (ids : List ℕ). In p.id ids) (sym (f.ids (place p.op))) (in_left p.id (k.ids (place p.op)) (more (place p.op)) (h d i p j))

  last_listed : (k new : Knowledge) (done : List (CommittedTx Op)) (e : CommittedTx Op) → Lists (λ o. ids_of place o (last_of (done ++ e ∷ []))) k new → Listed place k done → Listed place new (done ++ e ∷ [])
  last_listed k new done e f h d i p j = elim (in_cases d done (e ∷ []) i) [
    | inl old ↦ more_listed (λ o. ids_of place o (last_of (done ++ e ∷ []))) k new f done h d old p j
    | inr (inl here) ↦
        subst (λ (ids : List ℕ). In p.id ids) (sym (f.ids (place p.op)))
        (in_right p.id (k.ids (place p.op)) (ids_of place (place p.op) (last_of (done ++ e ∷ [])))
        (in_last place done e p (subst (λ (w : CommittedTx Op). In p w.entries) here j)))
    | inr (inr none) ↦ absurd none
  ]

  -- one transaction more is listed
  next_done : (done : List (CommittedTx Op)) (i : ℕ) (e : CommittedTx Op) → slice_get done i ≡ Some e → take (suc i) done ≡ take i done ++ e ∷ []
  next_done [] i e here = absurd (cc)
  next_done (d ∷ done) zero e here = ap (λ (w : CommittedTx Op). w ∷ []) (same_Some d e here)
  next_done (d ∷ done) (suc i) e here = ap (λ (w : List (CommittedTx Op)). d ∷ w) (next_done done i e here)

  -- If one more committed transaction is listed, the ids of all up to it are.
  pub listed_next : (k new : Knowledge) (done : List (CommittedTx Op)) (i : ℕ) (e : CommittedTx Op) → slice_get done i ≡ Some e → ((o : ℕ) → new.ids o ≡ k.ids o ++ ids_on place o e.entries) →
      ((d : CommittedTx Op) → In d (take i done) → (p : Item Op) → In p d.entries → In p.id (k.ids (place p.op))) →
      (d : CommittedTx Op) → In d (take (i + 1) done) → (p : Item Op) → In p d.entries → In p.id (new.ids (place p.op))
  listed_next k new done i e here more h d j p q =
      elim (in_cases d (take i done) (e ∷ []) (subst (λ (w : List (CommittedTx Op)). In d w) (ap (λ (n : ℕ). take n done) one_more ∙ next_done done i e here) j)) [
        | inl old ↦ subst (λ (ids : List ℕ). In p.id ids) (sym (more (place p.op))) (in_left p.id (k.ids (place p.op)) (ids_on place (place p.op) e.entries) (h d old p q))
        | inr (inl same) ↦ subst (λ (ids : List ℕ). In p.id ids) (sym (more (place p.op)))
            (in_right p.id (k.ids (place p.op)) (ids_on place (place p.op) e.entries) (on_there place e.entries p (subst (λ (w : CommittedTx Op). In p w.entries) same q)))
        | inr (inr none) ↦ absurd none
      ]
    where
      one_more : i + 1 ≡ suc i
      one_more = omega arith

  -- ---- steps

  module _ (k : Knowledge) (c : Config Op) (h : IsTrueOf place k c) where
    -- what is forgotten
    pub forgets : (t : Name) (new : Knowledge) → Forgets t k new → IsTrueOf place new c
    forgets t new f =
        from_each new c (still_listed place c.done t k new f h.listed) (λ x i. holds_still place c.done t k new f h.listed x (by_each k c h x i))

    low_listed : (new : Knowledge) → Lowers k new → Listed place new c.done
    low_listed new f d i p j = subst (λ (ids : List ℕ). In p.id ids) (sym (f.ids (place p.op))) (h.listed d i p j)

    -- Facts about transactions stay true with lower numbers.
    pub lowers : (new : Knowledge) → Lowers k new → IsTrueOf place new c
    lowers new f = from_each new c (low_listed new f) (λ x i. holds_lower place c.done k new f x (by_each k c h x i))

    -- what is listed
    pub lists : (more : ℕ → List ℕ) (new : Knowledge) → Lists more k new → IsTrueOf place new c
    lists more new f =
        from_each new c (more_listed more k new f c.done h.listed) (λ x i. holds_listed place c.done more k new f x (by_each k c h x i))

    -- a local log is longer at its end
    longer : (t : Name) (r : List (LocalEntry Op)) → AllHold c.done k (on_log t (λ l. l ++ r) c.opened)
    longer t r =
        on_each t (λ (l : List (LocalEntry Op)). l ++ r) c.opened (Holds place c.done k) (λ x i is. holds_longer place c.done k r x (by_each k c h x i)) (λ x i off. by_each k c h x i)

    pulled : (t : Name) (id : ℕ) (o : Option (SharedEntry Op)) → IsTrueOf place k (pull_effect c t id o)
    pulled t id None = h
    pulled t id (Some g) = from_each k (pull_effect c t id (Some g)) h.listed (longer t (as_pulled g ∷ []))

    published : (t : Name) (id : ℕ) (o : Option (LocalEntry Op)) → IsTrueOf place k (push_effect c t id o)
    published t id None = h
    published t id (Some e) =
        from_each k (push_effect c t id (Some e)) h.listed
        (on_each t (set_mark id Pushed) c.opened (Holds place c.done k) (λ x i is. holds_marked place c.done k id x (by_each k c h x i)) (λ x i off. by_each k c h x i))

    module _ (t : Name) (new : Knowledge) (f : Forgets t k new) where
      begun : (y : Tx Op) → y.name ≡ t → AllHold c.done new (c.opened ++ y ∷ [])
      begun y is x i = elim (in_cases x c.opened (y ∷ []) i) [
        | inl old ↦ holds_still place c.done t k new f h.listed x (by_each k c h x old)
        | inr (inl here) ↦ holds_forgotten place c.done t k new f h.listed x (ap (λ (w : Tx Op). w.name) here ∙ is)
        | inr (inr none) ↦ absurd none
      ]

      fewer : AllHold c.done new (without_tx t c.opened)
      fewer x i = holds_still place c.done t k new f h.listed x (by_each k c h x (from_filter _ x c.opened i).0)

      all_listed : Listed place new c.done
      all_listed = still_listed place c.done t k new f h.listed

      committed : (last : Knowledge) (o : Option (Tx Op)) → Lists (λ p. ids_of place p (last_of (commit_effect c t o).done)) new last → IsTrueOf place last (commit_effect c t o)
      committed last None m =
          from_each last c (more_listed _ new last m c.done all_listed)
          (λ x i. holds_listed place c.done _ new last m x (holds_still place c.done t k new f h.listed x (by_each k c h x i)))
      committed last (Some y) m =
          from_each last (commit_effect c t (Some y)) (last_listed new last c.done _ m all_listed)
          (λ x i. holds_more place c.done _ new last m x (fewer x i) _ (in_last place c.done _))

    same : (new last : Knowledge) → new ≡ k → last ≡ new → (d : Config Op) → IsTrueOf place k d → IsTrueOf place last d
    same new last a b d g = subst (λ (w : Knowledge). IsTrueOf place w d) (sym (b ∙ a)) g

    same_last : (new last : Knowledge) → last ≡ new → (d : Config Op) → IsTrueOf place new d → IsTrueOf place last d
    same_last new last b d g = subst (λ (w : Knowledge). IsTrueOf place w d) (sym b) g

    -- ---- a local log loses an entry, or a mark

    module _ {State : Type 0} (O : Object Op State) (s : Sound O c) where
      shorter : (x : Tx Op) → In x c.opened → (id : ℕ) → IsLast id (last x.local) → Holds place c.done k (relog but_last x)
      shorter x i id is =
          let r = unapplied_entry x.local id is in
          holds_shorter place c.done k r.0 x r.1 r.3 (not_done O c s x i r.0 r.2 (ap is_own r.3)) (by_each k c h x i)

      unapplied : (t : Name) (id : ℕ) → Meets O c (Unapp t id) → AllHold c.done k (on_log t but_last c.opened)
      unapplied t id meets =
          let r = there_holds (tx t c.opened) _ meets in
          on_each t but_last c.opened (Holds place c.done k)
          (only_one O c s t r.0 r.1 (λ (w : Tx Op). Holds place c.done k (relog but_last w)) (shorter r.0 (found_tx t c.opened r.0 r.1).0 id r.2.0))
          (λ y i off. by_each k c h y i)

      module _ (t : Name) (id : ℕ) (new : Knowledge) (f : Lowers k new) (x : Tx Op) (open_is : tx t c.opened ≡ Some x) where
        unpublished : IsAfterPushed c t id new → AllHold c.done new (on_log t (set_mark id Unpushed) c.opened)
        unpublished after =
            let r = found_tx t c.opened x open_is in
            let other = subst (λ (u : Name). (i : ℕ) (e : LocalEntry Op) → i < new.pushed u → slice_get x.local i ≡ Some e → (e.id == id) ≡ false) (sym r.1) (after x open_is) in
            on_each t (set_mark id Unpushed) c.opened (Holds place c.done new)
            (only_one O c s t x open_is (λ (w : Tx Op). Holds place c.done new (relog (set_mark id Unpushed) w)) (holds_unmarked place c.done k new f id x other (by_each k c h x r.0)))
            (λ y i off. holds_lower place c.done k new f y (by_each k c h y i))

        again : IsUntaken place c.shared t id new → (o : ℕ) (d : CommittedTx Op) → In d c.done → (p : Item Op) → In p d.entries → place p.op ≡ o → p.id ≡ id → In p.id (drop (new.taken t o) (new.ids o))
        again untaken o d i p j on is =
            subst (λ (n : ℕ). In p.id (drop (new.taken t n) (new.ids n))) on
            (elim (untaken (as_shared d.name true p) (s.done_stand d i p j) is refl) [
              | inl none ↦ subst (λ (n : ℕ). In p.id (drop n (new.ids (place p.op)))) (sym none) (low_listed new f d i p j)
              | inr there ↦ subst (λ (n : ℕ). In n (drop (new.taken t (place p.op)) (new.ids (place p.op)))) (sym is) there
            ])

        unpulled : new.pushed t ≤ k.pushed t - 1 → IsUntaken place c.shared t id new → AllHold c.done new (on_log t (without_local id) c.opened)
        unpulled less untaken =
            let r = found_tx t c.opened x open_is in
            on_each t (without_local id) c.opened (Holds place c.done new)
            (only_one O c s t x open_is (λ (w : Tx Op). Holds place c.done new (relog (without_local id) w))
            (holds_without place c.done k new f id x (subst (λ (u : Name). new.pushed u ≤ k.pushed u - 1) (sym r.1) less) (s.local_ids x r.0)
            (λ o d i p j on is. subst (λ (u : Name). In p.id (drop (new.taken u o) (new.ids o))) (sym r.1) (again untaken o d i p j on is)) (by_each k c h x r.0)))
            (λ y i off. holds_lower place c.done k new f y (by_each k c h y i))

      -- what is known stays true where the step has its effect
      pub stays : (a : Step Op) → Meets O c a → (new last : Knowledge) → ForgetsBefore place a c k new → ListsAfter place a ((then) c a).done new last → IsTrueOf place last ((then) c a)
      stays (Begin t p b) meets new last f m =
          same_last new last m ((then) c (Begin t p b)) (from_each new ((then) c (Begin t p b)) (all_listed t new f) (begun t new f _ refl))
      stays (App t id op) meets new last f m = same new last f m ((then) c (App t id op)) (from_each k ((then) c (App t id op)) h.listed (longer t _))
      stays (Unapp t id) meets new last f m =
          same new last f m ((then) c (Unapp t id)) (from_each k ((then) c (Unapp t id)) h.listed (unapplied t id meets))
      stays (Push t id) meets new last f m = same new last f m ((then) c (Push t id)) (published t id (entry_of id Unpushed (tx t c.opened)))
      stays (Unpush t id) meets new last f m =
          let r = there_holds (tx t c.opened) _ meets in
          let low = lowers_to t (local_place id (tx t c.opened)) k new f in
          same_last new last m ((then) c (Unpush t id)) (from_each new ((then) c (Unpush t id)) (low_listed new low) (unpublished t id new low r.0 r.1 (after_pushed t id c k new f)))
      stays (Pull t id) meets new last f m = same new last f m ((then) c (Pull t id)) (pulled t id (of_other t id c.shared))
      stays (Unpull t id) meets new last f m =
          let r = there_holds (tx t c.opened) _ meets in
          let low = lowers_pulled place c.shared t id k new f in
          let less : new.pushed t ≡ k.pushed t - 1 = f.pushed t ∙ ap (λ (b : Bool). if b then k.pushed t - 1 else k.pushed t) (eq-names t t refl) in
          same_last new last m ((then) c (Unpull t id)) (from_each new ((then) c (Unpull t id)) (low_listed new low) (unpulled t id new low r.0 r.1 (omega (arith, less)) f.untaken))
      stays (Cmt t) meets new last f m = committed t new f last (tx t c.opened) m
      stays (Quit t) meets new last f m =
          same_last new last m ((then) c (Quit t)) (from_each new ((then) c (Quit t)) (all_listed t new f) (fewer t new f))
      stays (Note t) meets new last f m = same new last f m c h

    -- and where it has none
    pub waits : (a : Step Op) (done : List (CommittedTx Op)) (new last : Knowledge) → ForgetsBefore place a c k new → ListsAfter place a done new last → IsTrueOf place last c
    waits (Begin t p b) done new last f m = same_last new last m c (forgets t new f)
    waits (App t id op) done new last f m = same new last f m c h
    waits (Unapp t id) done new last f m = same new last f m c h
    waits (Push t id) done new last f m = same new last f m c h
    waits (Unpush t id) done new last f m = same_last new last m c (lowers new (lowers_to t (local_place id (tx t c.opened)) k new f))
    waits (Pull t id) done new last f m = same new last f m c h
    waits (Unpull t id) done new last f m = same_last new last m c (lowers new (lowers_pulled place c.shared t id k new f))
    waits (Cmt t) done new last f m =
        from_each last c (more_listed _ new last m c.done (all_listed t new f))
        (λ x i. holds_listed place c.done _ new last m x (holds_still place c.done t k new f h.listed x (by_each k c h x i)))
    waits (Quit t) done new last f m = same_last new last m c (forgets t new f)
    waits (Note t) done new last f m = same new last f m c h

    -- what is looked at
    module _ {State : Type 0} (O : Object Op State) (s : Sound O c) (t : Name) (x : Tx Op) (open_is : tx t c.opened ≡ Some x) where
      -- the open transaction of this name
      one : (y : Tx Op) → In y c.opened → (y.name =ⁿ t) ≡ true → y ≡ x
      one y i named =
          let r = found_tx t c.opened x open_is in
          by_key (λ (w : Tx Op). w.name) c.opened s.open_names y x i r.0 (names-true y.name t named ∙ sym r.1)

      from_here : (o : ℕ) (ids : List ℕ) (l : List (LocalEntry Op)) (old new : ℕ) → new ≤ length ids → ((i id : ℕ) → old ≤ i → i < new → slice_get ids i ≡ Some id → stands_in l id ≡ true) →
          HasTaken place o c.done ids old l → HasTaken place o c.done ids new l
      from_here o ids l old new within there known =
          record {
            within = within;
            rest = λ d i p j on off. later_in ids old new p.id (known.rest d i p j on off) (λ n above below at. no (sym (there n p.id above below at) ∙ off));
          }
        where
          no : true ≡ false → ⊥
          no e = cc

      pushed_here : (l : List (LocalEntry Op)) (old new : ℕ) → new ≤ length l → ((i : ℕ) (e : LocalEntry Op) → old ≤ i → i < new → slice_get l i ≡ Some e → is_mark e.mark Unpushed ≡ false) → HasPushed old l → HasPushed new l
      pushed_here l old new within none known =
          record {
            within = within;
            none = λ i e below at. elim (cases_lt i old) [ inl early ↦ known.none i e early at | inr late ↦ none i e late below at ];
          }

      -- Facts about transactions stay true if one is found to have more of the committed entries.
      pub takes : (new : Knowledge) → TakesMore t x.local k new → IsTrueOf place new c
      takes new f =
          record {
            listed = λ d i p j. subst (λ (ids : List ℕ). In p.id ids) (sym (f.ids (place p.op))) (h.listed d i p j);
            taken = λ y i o. subst (λ (ids : List ℕ). HasTaken place o c.done ids (new.taken y.name o) y.local) (sym (f.ids o)) (counted y i o (f.taken y.name o));
            pushed = λ y i. subst (λ (n : ℕ). HasPushed n y.local) (sym (f.pushed y.name)) (h.pushed y i);
          }
        where
          listed_on : (o : ℕ) (d : CommittedTx Op) → In d c.done → (p : Item Op) → In p d.entries → place p.op ≡ o → In p.id (k.ids o)
          listed_on o d i p j on = subst (λ (n : ℕ). In p.id (k.ids n)) on (h.listed d i p j)

          counted : (y : Tx Op) → In y c.opened → (o : ℕ) → (new.taken y.name o ≡ 0) ⊎ (new.taken y.name o ≡ k.taken y.name o)
              ⊎ (((y.name =ⁿ t) ≡ true) × (new.taken y.name o ≤ length (k.ids o))
              × ((i id : ℕ) → k.taken t o ≤ i → i < new.taken y.name o → slice_get (k.ids o) i ≡ Some id → stands_in x.local id ≡ true))
              → HasTaken place o c.done (k.ids o) (new.taken y.name o) y.local
          counted y i o (inl none) = subst (λ (n : ℕ). HasTaken place o c.done (k.ids o) n y.local) (sym none) (taken_none place o c.done (k.ids o) y.local (listed_on o))
          counted y i o (inr (inl old)) = subst (λ (n : ℕ). HasTaken place o c.done (k.ids o) n y.local) (sym old) (h.taken y i o)
          counted y i o (inr (inr more)) =
              let same_tx : y ≡ x = one y i more.0 in
              let named : y.name ≡ t = names-true y.name t more.0 in
              let before : HasTaken place o c.done (k.ids o) (k.taken t o) x.local =
              subst (λ (u : Name). HasTaken place o c.done (k.ids o) (k.taken u o) x.local) named
              (subst (λ (w : Tx Op). HasTaken place o c.done (k.ids o) (k.taken y.name o) w.local) same_tx (h.taken y i o)) in
              subst (λ (w : Tx Op). HasTaken place o c.done (k.ids o) (new.taken y.name o) w.local) (sym same_tx)
              (from_here o (k.ids o) x.local (k.taken t o) (new.taken y.name o) more.1 more.2 before)

      -- Facts about transactions stay true if more entries of one are found not to be unpushed.
      pub pushes : (new : Knowledge) → PushesMore t x.local k new → IsTrueOf place new c
      pushes new f =
          record {
            listed = λ d i p j. subst (λ (ids : List ℕ). In p.id ids) (sym (f.ids (place p.op))) (h.listed d i p j);
            taken = λ y i o. subst (λ (ids : List ℕ). HasTaken place o c.done ids (new.taken y.name o) y.local) (sym (f.ids o)) (subst (λ (n : ℕ). HasTaken place o c.done (k.ids o) n y.local) (sym (f.taken y.name o)) (h.taken y i o));
            pushed = λ y i. counted y i (f.pushed y.name);
          }
        where
          counted : (y : Tx Op) → In y c.opened → (new.pushed y.name ≡ 0) ⊎ (new.pushed y.name ≡ k.pushed y.name)
              ⊎ (((y.name =ⁿ t) ≡ true) × (new.pushed y.name ≤ length x.local)
              × ((i : ℕ) (e : LocalEntry Op) → k.pushed t ≤ i → i < new.pushed y.name → slice_get x.local i ≡ Some e → is_mark e.mark Unpushed ≡ false))
              → HasPushed (new.pushed y.name) y.local
          counted y i (inl none) = subst (λ (n : ℕ). HasPushed n y.local) (sym none) (pushed_none y.local)
          counted y i (inr (inl old)) = subst (λ (n : ℕ). HasPushed n y.local) (sym old) (h.pushed y i)
          counted y i (inr (inr more)) =
              let same_tx : y ≡ x = one y i more.0 in
              let named : y.name ≡ t = names-true y.name t more.0 in
              let before : HasPushed (k.pushed t) x.local =
              subst (λ (u : Name). HasPushed (k.pushed u) x.local) named
              (subst (λ (w : Tx Op). HasPushed (k.pushed y.name) w.local) same_tx (h.pushed y i)) in
              subst (λ (w : Tx Op). HasPushed (new.pushed y.name) w.local) (sym same_tx)
              (pushed_here x.local (k.pushed t) (new.pushed y.name) more.1 more.2 before)

      -- a committed entry that the transaction has not is not among those that it is known to have
      pub all_but : (o : ℕ) → IsAllBut place o c.shared x.local (drop (k.taken t o) (k.ids o))
      all_but o g i committed_is on missing =
          let r = found_tx t c.opened x open_is in
          let from = s.committed_from g i committed_is in
          let d = from.0 in
          let p = from.2 in
          let at : place p.op ≡ o = ap (λ (w : SharedEntry Op). place w.op) (sym from.4) ∙ on in
          let named : g.id ≡ p.id = ap (λ (w : SharedEntry Op). w.id) from.4 in
          let has : HasTaken place o c.done (k.ids o) (k.taken t o) x.local = subst (λ (u : Name). HasTaken place o c.done (k.ids o) (k.taken u o) x.local) r.1 (h.taken x r.0 o) in
          subst (λ (n : ℕ). In n (drop (k.taken t o) (k.ids o))) (sym named)
          (has.rest d from.1 p from.3 at (subst (λ (n : ℕ). stands_in x.local n ≡ false) named missing))

      -- A pushall of the entries after those known not to be unpushed is a pushall of all.
      pub known_pushed : (from : ℕ) → from ≤ k.pushed t → pushall t (drop from x.local) ≡ pushall t x.local
      known_pushed from low =
          let r = found_tx t c.opened x open_is in
          let p : HasPushed (k.pushed t) x.local = subst (λ (u : Name). HasPushed (k.pushed u) x.local) r.1 (h.pushed x r.0) in
          pushed_rest t x.local from (λ i e below at. p.none i e (omega arith) at)

  -- at first
  pub at_first : (k : Knowledge) (c : Config Op) → ListsAll place c.done k → IsTrueOf place k c
  at_first k c h =
      from_each k c h.listed (λ x i. holds_nothing place c.done k h.listed x (λ o. h.blank.taken x.name o) (h.blank.pushed x.name))
