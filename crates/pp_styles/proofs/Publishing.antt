-- What is known of published entries stays true from step to step.
use Rattle.std.proofs.Common.{◌≡◌, ◌≢◌, ◌⊎◌, ◌≤◌, ◌==◌, ℕ, zero, suc, Bool, true}
use Rattle.std.proofs.Common.{false, cond, not, List, [], ◌∷◌, ◌++◌, length, drop, Option, None}
use Rattle.std.proofs.Common.{Some, refl, sym, ap, subst, ◌∙◌, arith, inl, inr, if◌then◌else◌}
use Rattle.std.proofs.lemmas.Bool.{eq-eqb}
use Rattle.std.proofs.lemmas.Bool.Decides.{eqb_tells}
use Rattle.std.proofs.lemmas.List.{length-append}
use Rattle.pp_core.specs.Steps.{Step, Begin, App, Unapp, Push, Unpush, Pull, Unpull, Cmt, Quit, Note}
use Rattle.pp_core.specs.declared.entry.LocalEntry.{LocalEntry}
use Rattle.pp_core.specs.declared.entry.SharedEntry.{SharedEntry}
use Rattle.pp_records.specs.Expansions.{stands_in}
use Rattle.pp_model.specs.Config.{Config, Tx, Unpushed, Pushed, as_pulled, as_shared, but_last, commit_all, commit_effect}
use Rattle.pp_model.specs.Config.{entry_of, is_own, item, last, of_other, on_log, pull_effect, push_effect, set_mark, then}
use Rattle.pp_model.specs.Config.{tx, without_local, without_shared, without_tx}
use Rattle.pp_model.specs.Lists.{In}
use Rattle.pp_model.specs.Names.{Name, ◌=ⁿ◌}
use Rattle.pp_model.specs.Object.{Object}
use Rattle.pp_model.specs.Rules.{IsLast, Meets}
use Rattle.pp_model.specs.Sound.{Sound}
use Rattle.pp_model.proofs.Lists.{from_filter, from_map, in_cases, in_right}
use Rattle.pp_model.proofs.Logs.{found_tx, on_each}
use Rattle.pp_model.proofs.Names.{eq-names, names_tell}
use Rattle.pp_model.proofs.Push.{stands_pushed}
use Rattle.pp_model.proofs.Steps.{only_one, there_holds}
use Rattle.pp_styles.specs.Knowing.{last_of}
use Rattle.pp_styles.specs.Publishing.{AllListed, HasSkipped, Keeps, ListsLast, ListsPushed, PassesBack, Publications}
use Rattle.pp_styles.specs.Publishing.{TellsTrue, Unpasses, UnpassesBefore, listed_more}
use Rattle.pp_styles.proofs.Ids.{in_drop_left, in_drop_right, last_there, lower_in, not_shorter, not_with}
use Rattle.pp_styles.proofs.Ids.{stands_marked, stands_without, unapplied_entry}

-- ---- lists that grow

module _ {Op : Type 0} (place : Op → ℕ) where
  -- the list of an entry's owner and object has its id at the end
  pub listed_here : (g : SharedEntry Op) (old : Name → ℕ → List ℕ) → listed_more place (Some g) old g.owner (place g.op) ≡ old g.owner (place g.op) ++ g.id ∷ []
  listed_here g old =
      ap (λ (b : Bool). if b then (if g.owner =ⁿ g.owner then old g.owner (place g.op) ++ g.id ∷ [] else old g.owner (place g.op)) else old g.owner (place g.op)) (eq-eqb (place g.op) (place g.op) refl)
      ∙ ap (λ (b : Bool). if b then old g.owner (place g.op) ++ g.id ∷ [] else old g.owner (place g.op)) (eq-names g.owner g.owner refl)

  -- each list is as it was, or longer by an id
  pub record Grown (xs ys : List ℕ) : Type 0 where
    pub more : List ℕ
    pub is : ys ≡ xs ++ more

  stays_list : (xs : List ℕ) → Grown xs xs
  stays_list xs = record { more = []; is = nothing xs }
    where
      nothing : (zs : List ℕ) → zs ≡ zs ++ []
      nothing [] = refl
      nothing (z ∷ zs) = ap (λ (w : List ℕ). z ∷ w) (nothing zs)

  -- To list an entry makes each list stay the same or grow at its end.
  pub grown : (o : Option (SharedEntry Op)) (old : Name → ℕ → List ℕ) (v : Name) (p : ℕ) → Grown (old v p) (listed_more place o old v p)
  grown None old v p = stays_list (old v p)
  grown (Some g) old v p = elim (eqb_tells p (place g.op)) [
    | inl at ↦ subst (λ (b : Bool). Grown (old v p) (if b then (if v =ⁿ g.owner then old g.owner (place g.op) ++ g.id ∷ [] else old v (place g.op)) else old v p)) (sym at.0)
        (subst (λ (n : ℕ). Grown (old v n) (if v =ⁿ g.owner then old g.owner (place g.op) ++ g.id ∷ [] else old v (place g.op))) (sym at.1) (named (names_tell v g.owner)))
    | inr off ↦ subst (λ (b : Bool). Grown (old v p) (if b then (if v =ⁿ g.owner then old g.owner (place g.op) ++ g.id ∷ [] else old v (place g.op)) else old v p)) (sym off.0) (stays_list (old v p))
  ]
    where
      named : (((v =ⁿ g.owner) ≡ true) × (v ≡ g.owner)) ⊎ (((v =ⁿ g.owner) ≡ false) × (v ≢ g.owner)) → Grown (old v (place g.op)) (if v =ⁿ g.owner then old g.owner (place g.op) ++ g.id ∷ [] else old v (place g.op))
      named (inl same) = record {
        more = g.id ∷ [];
        is = ap (λ (b : Bool). if b then old g.owner (place g.op) ++ g.id ∷ [] else old v (place g.op)) same.0 ∙ ap (λ (u : Name). old u (place g.op) ++ g.id ∷ []) (sym same.1);
      }
      named (inr other) = subst (λ (b : Bool). Grown (old v (place g.op)) (if b then old g.owner (place g.op) ++ g.id ∷ [] else old v (place g.op))) (sym other.0) (stays_list (old v (place g.op)))

  grown_length : (xs ys : List ℕ) → Grown xs ys → length xs ≤ length ys
  grown_length xs ys h =
      let all = length-append xs h.more in
      let same : length ys ≡ length (xs ++ h.more) = ap (λ (w : List ℕ). length w) h.is in
      omega arith

  -- An id that is in a list after the first n is so in a longer one.
  pub grown_in : (xs ys : List ℕ) (n id : ℕ) → Grown xs ys → In id (drop n xs) → In id (drop n ys)
  grown_in xs ys n id h i = subst (λ (w : List ℕ). In id (drop n w)) (sym h.is) (in_drop_left n xs h.more id i)

  -- ---- a transaction

  -- each entry of one log is in another, with another mark of being committed perhaps
  abbrev Comes : List (SharedEntry Op) → List (SharedEntry Op) → Type 0
  Comes H G = (g : SharedEntry Op) → In g H → (h : SharedEntry Op) × In h G × (h.id ≡ g.id) × (h.owner ≡ g.owner) × (h.op ≡ g.op)

  comes_all : (G : List (SharedEntry Op)) → Comes G G
  comes_all G g i = (g, i, refl, refl, refl)

  module _ (p : Publications) where
    -- an entry's list, by another entry of the same id, owner and operation
    rest_at : (n : Name → ℕ → ℕ) (g h : SharedEntry Op) → h.id ≡ g.id → h.owner ≡ g.owner → h.op ≡ g.op → In h.id (drop (n h.owner (place h.op)) (p.ids h.owner (place h.op))) → In g.id (drop (n g.owner (place g.op)) (p.ids g.owner (place g.op)))
    rest_at n g h same_id same_owner same_op i =
        subst (λ (id : ℕ). In id (drop (n g.owner (place g.op)) (p.ids g.owner (place g.op)))) same_id
        (subst (λ (v : Name). In h.id (drop (n v (place g.op)) (p.ids v (place g.op)))) same_owner
        (subst (λ (op : Op). In h.id (drop (n h.owner (place op)) (p.ids h.owner (place op)))) same_op i))

    onward : (G H : List (SharedEntry Op)) (n : Name → ℕ → ℕ) (l m : List (LocalEntry Op)) → Comes H G → ((i : ℕ) → stands_in m i ≡ false → stands_in l i ≡ false) → HasSkipped place p n G l → HasSkipped place p n H m
    onward G H n l m comes less h =
        record {
          within = h.within;
          rest = λ g i off.
              let r = comes g i in
              rest_at n g r.0 r.2 r.3 r.4 (h.rest r.0 r.1 (subst (λ (id : ℕ). stands_in l id ≡ false) (sym r.2) (less g.id off)));
        }

    listed_onward : (G H : List (SharedEntry Op)) → Comes H G → AllListed place p G → AllListed place p H
    listed_onward G H comes h g i =
        let r = comes g i in
        rest_at (λ (v : Name) (o : ℕ). 0) g r.0 r.2 r.3 r.4 (h r.0 r.1)

  -- what has passed nothing
  none_passed : (p : Publications) (G : List (SharedEntry Op)) (n : Name → ℕ → ℕ) (l : List (LocalEntry Op)) → ((v : Name) (o : ℕ) → n v o ≡ 0) → AllListed place p G → HasSkipped place p n G l
  none_passed p G n l none all =
      record {
        within = λ v o. let zero_is = none v o in omega arith;
        rest = λ g i off. subst (λ (k : ℕ). In g.id (drop k (p.ids g.owner (place g.op)))) (sym (none g.owner (place g.op))) (all g i);
      }

  -- the same lists with the same numbers
  same_counts : (p q : Publications) (n m : Name → ℕ → ℕ) → ((v : Name) (o : ℕ) → m v o ≡ n v o) → ((v : Name) (o : ℕ) → q.ids v o ≡ p.ids v o) → (G : List (SharedEntry Op)) (l : List (LocalEntry Op)) → HasSkipped place p n G l → HasSkipped place q m G l
  same_counts p q n m same ids G l h =
      record {
        within = λ v o. subst (λ (k : ℕ). k ≤ length (q.ids v o)) (sym (same v o)) (subst (λ (w : List ℕ). n v o ≤ length w) (sym (ids v o)) (h.within v o));
        rest = λ g i missing.
            subst (λ (k : ℕ). In g.id (drop k (q.ids g.owner (place g.op)))) (sym (same g.owner (place g.op)))
            (subst (λ (w : List ℕ). In g.id (drop (n g.owner (place g.op)) w)) (sym (ids g.owner (place g.op))) (h.rest g i missing));
      }

  module _ (t : Name) (p q : Publications) (f : Unpasses t p q) where
    unlisted : (G : List (SharedEntry Op)) → AllListed place p G → AllListed place q G
    unlisted G all g i = subst (λ (ids : List ℕ). In g.id ids) (sym (f.ids g.owner (place g.op))) (all g i)

    gone_stays : (G : List (SharedEntry Op)) → HasSkipped place p p.gone G [] → HasSkipped place q q.gone G []
    gone_stays G h = same_counts p q p.gone q.gone f.gone f.ids G [] h

    forgotten : (G : List (SharedEntry Op)) (u : Name) (l : List (LocalEntry Op)) → u ≡ t → AllListed place p G → HasSkipped place q (q.passed u) G l
    forgotten G u l is all =
        none_passed q G (q.passed u) l (λ v o. f.passed u v o ∙ ap (λ (b : Bool). if b then 0 else p.passed u v o) (eq-names u t is)) (unlisted G all)

    untouched : (G : List (SharedEntry Op)) (u : Name) (l : List (LocalEntry Op)) → (u =ⁿ t) ≡ false → HasSkipped place p (p.passed u) G l → HasSkipped place q (q.passed u) G l
    untouched G u l off h =
        same_counts p q (p.passed u) (q.passed u) (λ v o. f.passed u v o ∙ ap (λ (b : Bool). if b then 0 else p.passed u v o) off) f.ids G l h

    still : (G : List (SharedEntry Op)) (u : Name) (l : List (LocalEntry Op)) → AllListed place p G → HasSkipped place p (p.passed u) G l → HasSkipped place q (q.passed u) G l
    still G u l all h = elim (names_tell u t) [
      | inl same ↦ forgotten G u l same.1 all
      | inr other ↦ untouched G u l other.0 h
    ]

  -- one entry more is listed, whether the log has it already or not
  module _ (p q : Publications) (kept : p.kept ≡ true) (last : Option (SharedEntry Op)) (ids : (v : Name) (o : ℕ) → q.ids v o ≡ listed_more place last p.ids v o) where
    longer_list : (v : Name) (o : ℕ) → Grown (p.ids v o) (q.ids v o)
    longer_list v o = subst (λ (w : List ℕ). Grown (p.ids v o) w) (sym (ids v o)) (grown last p.ids v o)

    listed_still : (G : List (SharedEntry Op)) → AllListed place p G → AllListed place q G
    listed_still G all g i = grown_in (p.ids g.owner (place g.op)) (q.ids g.owner (place g.op)) 0 g.id (longer_list g.owner (place g.op)) (all g i)

    passed_still : (n m : Name → ℕ → ℕ) → ((v : Name) (o : ℕ) → m v o ≡ n v o) → (G : List (SharedEntry Op)) (l : List (LocalEntry Op)) → HasSkipped place p n G l → HasSkipped place q m G l
    passed_still n m passed G l h =
        record {
          within = λ v o.
              let low = h.within v o in
              let more = grown_length (p.ids v o) (q.ids v o) (longer_list v o) in
              let same = passed v o in
              omega arith;
          rest = λ g i off.
              subst (λ (k : ℕ). In g.id (drop k (q.ids g.owner (place g.op)))) (sym (passed g.owner (place g.op)))
              (grown_in (p.ids g.owner (place g.op)) (q.ids g.owner (place g.op)) (n g.owner (place g.op)) g.id (longer_list g.owner (place g.op)) (h.rest g i off));
        }

  module _ (p q : Publications) (g : SharedEntry Op) (ids : (v : Name) (o : ℕ) → q.ids v o ≡ listed_more place (Some g) p.ids v o) where
    here_at_end : q.ids g.owner (place g.op) ≡ p.ids g.owner (place g.op) ++ g.id ∷ []
    here_at_end = ids g.owner (place g.op) ∙ listed_here g p.ids

    listed_new : (G : List (SharedEntry Op)) → AllListed place q G → AllListed place q (G ++ g ∷ [])
    listed_new G all e i = elim (in_cases e G (g ∷ []) i) [
      | inl old ↦ all e old
      | inr (inl same) ↦ subst (λ (w : SharedEntry Op). In w.id (q.ids w.owner (place w.op))) (sym same)
          (subst (λ (w : List ℕ). In g.id w) (sym here_at_end) (in_right g.id (p.ids g.owner (place g.op)) (g.id ∷ []) (inl refl)))
      | inr (inr none) ↦ absurd none
    ]

    passed_new : (n m : Name → ℕ → ℕ) → n g.owner (place g.op) ≤ length (p.ids g.owner (place g.op)) → m g.owner (place g.op) ≡ n g.owner (place g.op) → (G : List (SharedEntry Op)) (l : List (LocalEntry Op)) → HasSkipped place q m G l → HasSkipped place q m (G ++ g ∷ []) l
    passed_new n m low same_count G l h =
        record {
          within = h.within;
          rest = λ e i off. elim (in_cases e G (g ∷ []) i) [
            | inl old ↦ h.rest e old off
            | inr (inl same) ↦ subst (λ (w : SharedEntry Op). In w.id (drop (m w.owner (place w.op)) (q.ids w.owner (place w.op)))) (sym same)
                (subst (λ (w : List ℕ). In g.id (drop (m g.owner (place g.op)) w)) (sym here_at_end)
                (subst (λ (k : ℕ). In g.id (drop k (p.ids g.owner (place g.op) ++ g.id ∷ []))) (sym same_count)
                (in_drop_right (n g.owner (place g.op)) (p.ids g.owner (place g.op)) (g.id ∷ []) g.id low (inl refl))))
            | inr (inr none) ↦ absurd none
          ];
        }

  -- ---- a configuration

  abbrev AllPassed : Publications → List (SharedEntry Op) → List (Tx Op) → Type 0
  AllPassed p G xs = (x : Tx Op) → In x xs → HasSkipped place p (p.passed x.name) G x.local

  committed_mark : (t : Name) (b : Bool) (g : SharedEntry Op) → ((cond b (record g { committed = true }) g).id ≡ g.id) × ((cond b (record g { committed = true }) g).owner ≡ g.owner) × ((cond b (record g { committed = true }) g).op ≡ g.op)
  committed_mark t true g = (refl, refl, refl)
  committed_mark t false g = (refl, refl, refl)

  comes_committed : (t : Name) (G : List (SharedEntry Op)) → Comes (commit_all t G) G
  comes_committed t G g i =
      let r = from_map (λ (e : SharedEntry Op). cond (e.owner =ⁿ t) (record e { committed = true }) e) g G i in
      let m = committed_mark t ((r.0).owner =ⁿ t) r.0 in (
        r.0,
        r.1,
        sym (ap (λ (w : SharedEntry Op). w.id) r.2 ∙ m.0),
        sym (ap (λ (w : SharedEntry Op). w.owner) r.2 ∙ m.1),
        sym (ap (λ (w : SharedEntry Op). w.op) r.2 ∙ m.2),
      )

  comes_without : (id : ℕ) (G : List (SharedEntry Op)) → Comes (without_shared id G) G
  comes_without id G g i = (g, (from_filter (λ (e : SharedEntry Op). not (e.id == id)) g G i).0, refl, refl, refl)

  module _ (p : Publications) (c : Config Op) (h : TellsTrue place p c) where
    -- a local log is longer at its end
    longer : (t : Name) (r : List (LocalEntry Op)) → p.kept ≡ true → AllPassed p c.shared (on_log t (λ l. l ++ r) c.opened)
    longer t r kept =
        on_each t (λ (l : List (LocalEntry Op)). l ++ r) c.opened (λ (x : Tx Op). HasSkipped place p (p.passed x.name) c.shared x.local)
        (λ x i is. onward p c.shared c.shared (p.passed x.name) x.local (x.local ++ r) (comes_all c.shared) (not_shorter x.local r) (h.passed kept x i)) (λ x i off. h.passed kept x i)

    marked : (t : Name) (id : ℕ) → p.kept ≡ true → AllPassed p c.shared (on_log t (set_mark id Pushed) c.opened)
    marked t id kept =
        on_each t (set_mark id Pushed) c.opened (λ (x : Tx Op). HasSkipped place p (p.passed x.name) c.shared x.local)
        (λ x i is. onward p c.shared c.shared (p.passed x.name) x.local (set_mark id Pushed x.local) (comes_all c.shared) (λ j off. sym (stands_marked id Pushed x.local j) ∙ off) (h.passed kept x i)) (λ x i off. h.passed kept x i)

    same : (q r : Publications) → q ≡ p → r ≡ q → (d : Config Op) → TellsTrue place p d → TellsTrue place r d
    same q r a b d g = subst (λ (w : Publications). TellsTrue place w d) (sym (b ∙ a)) g

    same_last : (q r : Publications) → r ≡ q → (d : Config Op) → TellsTrue place q d → TellsTrue place r d
    same_last q r b d g = subst (λ (w : Publications). TellsTrue place w d) (sym b) g

    pulled : (t : Name) (id : ℕ) (o : Option (SharedEntry Op)) → TellsTrue place p (pull_effect c t id o)
    pulled t id None = h
    pulled t id (Some g) = record { listed = h.listed; gone = h.gone; passed = longer t (as_pulled g ∷ []) }

    -- the last entry is listed once more
    again_listed : (q : Publications) → ListsLast place c.shared p q → TellsTrue place q c
    again_listed q f =
        record {
          listed = λ kept. let before = sym f.kept ∙ kept in listed_still p q before (last_of c.shared) (f.ids before) c.shared (h.listed before);
          gone = λ kept. let before = sym f.kept ∙ kept in passed_still p q before (last_of c.shared) (f.ids before) p.gone q.gone f.gone c.shared [] (h.gone before);
          passed = λ kept x i. let before = sym f.kept ∙ kept in passed_still p q before (last_of c.shared) (f.ids before) (p.passed x.name) (q.passed x.name) (f.passed x.name) c.shared x.local (h.passed before x i);
        }

    published : (t : Name) (id : ℕ) (o : Option (LocalEntry Op)) (q : Publications) → ListsLast place (push_effect c t id o).shared p q → TellsTrue place q (push_effect c t id o)
    published t id None q f = again_listed q f
    published t id (Some e) q f =
        let g : SharedEntry Op = as_shared t false (item e) in
        let with_g : p.kept ≡ true → (v : Name) (o : ℕ) → q.ids v o ≡ listed_more place (Some g) p.ids v o =
        λ before v o. f.ids before v o ∙ ap (λ (w : Option (SharedEntry Op)). listed_more place w p.ids v o) (last_there c.shared g) in
        record {
          listed = λ kept.
              let before = sym f.kept ∙ kept in
              listed_new p q g (with_g before) c.shared (listed_still p q before (Some g) (with_g before) c.shared (h.listed before));
          gone = λ kept.
              let before = sym f.kept ∙ kept in
              let has = h.gone before in
              passed_new p q g (with_g before) p.gone q.gone (has.within g.owner (place g.op)) (f.gone g.owner (place g.op)) c.shared []
              (passed_still p q before (Some g) (with_g before) p.gone q.gone f.gone c.shared [] has);
          passed = λ kept x i.
              let before = sym f.kept ∙ kept in
              let x_has = marked t id before x i in
              passed_new p q g (with_g before) (p.passed x.name) (q.passed x.name) (x_has.within g.owner (place g.op)) (f.passed x.name g.owner (place g.op)) c.shared x.local
              (passed_still p q before (Some g) (with_g before) (p.passed x.name) (q.passed x.name) (f.passed x.name) c.shared x.local x_has);
        }

    module _ (t : Name) (q : Publications) (f : Unpasses t p q) where
      forgets : TellsTrue place q c
      forgets =
          record {
            listed = λ kept. let before = sym f.kept ∙ kept in unlisted t p q f c.shared (h.listed before);
            gone = λ kept. gone_stays t p q f c.shared (h.gone (sym f.kept ∙ kept));
            passed = λ kept x i. let before = sym f.kept ∙ kept in still t p q f c.shared x.name x.local (h.listed before) (h.passed before x i);
          }

      listed_on : (G : List (SharedEntry Op)) → Comes G c.shared → q.kept ≡ true → AllListed place q G
      listed_on G comes kept = listed_onward q c.shared G comes (unlisted t p q f c.shared (h.listed (sym f.kept ∙ kept)))

      gone_on : (G : List (SharedEntry Op)) → Comes G c.shared → q.kept ≡ true → HasSkipped place q q.gone G []
      gone_on G comes kept = onward q c.shared G q.gone [] [] comes (λ j missing. missing) (gone_stays t p q f c.shared (h.gone (sym f.kept ∙ kept)))

      begun : (y : Tx Op) → y.name ≡ t → q.kept ≡ true → AllPassed q c.shared (c.opened ++ y ∷ [])
      begun y is kept x i =
          let before = sym f.kept ∙ kept in
          elim (in_cases x c.opened (y ∷ []) i) [
            | inl old ↦ still t p q f c.shared x.name x.local (h.listed before) (h.passed before x old)
            | inr (inl here) ↦ forgotten t p q f c.shared x.name x.local (ap (λ (w : Tx Op). w.name) here ∙ is) (h.listed before)
            | inr (inr none) ↦ absurd none
          ]

      fewer : (G : List (SharedEntry Op)) → Comes G c.shared → q.kept ≡ true → AllPassed q G (without_tx t c.opened)
      fewer G comes kept x i =
          let before = sym f.kept ∙ kept in
          onward q c.shared G (q.passed x.name) x.local x.local comes (λ j missing. missing)
          (still t p q f c.shared x.name x.local (h.listed before) (h.passed before x (from_filter _ x c.opened i).0))

      committed : (o : Option (Tx Op)) → TellsTrue place q (commit_effect c t o)
      committed None = forgets
      committed (Some y) =
          record {
            listed = listed_on (commit_all t c.shared) (comes_committed t c.shared);
            gone = gone_on (commit_all t c.shared) (comes_committed t c.shared);
            passed = fewer (commit_all t c.shared) (comes_committed t c.shared);
          }

    -- an own entry of a transaction leaves the shared log, or changes its mark
    unpublished : (t : Name) (id : ℕ) → p.kept ≡ true → AllPassed p (without_shared id c.shared) (on_log t (set_mark id Unpushed) c.opened)
    unpublished t id kept =
        on_each t (set_mark id Unpushed) c.opened (λ (x : Tx Op). HasSkipped place p (p.passed x.name) (without_shared id c.shared) x.local)
        (λ x i is. onward p c.shared (without_shared id c.shared) (p.passed x.name) x.local (set_mark id Unpushed x.local) (comes_without id c.shared) (λ j off. sym (stands_marked id Unpushed x.local j) ∙ off) (h.passed kept x i))
        (λ x i off. onward p c.shared (without_shared id c.shared) (p.passed x.name) x.local x.local (comes_without id c.shared) (λ j missing. missing) (h.passed kept x i))

    -- a pulled entry leaves a local log
    module _ (t : Name) (id : ℕ) (q : Publications) (f : PassesBack place c.shared t id p q) where
      -- no number is higher than before
      low : (u v : Name) (o : ℕ) → q.passed u v o ≤ p.passed u v o
      low u v o = elim (f.passed u v o) [ inl same ↦ omega (arith, same) | inr lower ↦ lower.2 ]

      low_listed : q.kept ≡ true → AllListed place q c.shared
      low_listed kept g i = subst (λ (ids : List ℕ). In g.id ids) (sym (f.ids g.owner (place g.op))) (h.listed (sym f.kept ∙ kept) g i)

      low_passed : q.kept ≡ true → (x : Tx Op) → In x c.opened → HasSkipped place q (q.passed x.name) c.shared x.local
      low_passed kept x i =
          let old = h.passed (sym f.kept ∙ kept) x i in
          record {
            within = λ v o. subst (λ (ids : List ℕ). q.passed x.name v o ≤ length ids) (sym (f.ids v o)) (let less = low x.name v o in let within = old.within v o in omega (arith, less, within));
            rest = λ g j off. subst (λ (ids : List ℕ). In g.id (drop (q.passed x.name g.owner (place g.op)) ids)) (sym (f.ids g.owner (place g.op)))
                (lower_in (p.ids g.owner (place g.op)) (p.passed x.name g.owner (place g.op)) (q.passed x.name g.owner (place g.op)) g.id (low x.name g.owner (place g.op)) (old.rest g j off));
          }

      low_gone : q.kept ≡ true → HasSkipped place q q.gone c.shared []
      low_gone kept = same_counts p q p.gone q.gone f.gone f.ids c.shared [] (h.gone (sym f.kept ∙ kept))

      lowered : TellsTrue place q c
      lowered = record { listed = low_listed; gone = low_gone; passed = low_passed }

      again : q.kept ≡ true → (g : SharedEntry Op) → In g c.shared → g.id ≡ id → In g.id (drop (q.passed t g.owner (place g.op)) (q.ids g.owner (place g.op)))
      again kept g i is = elim (f.away (sym f.kept ∙ kept) g i is) [
        | inl none ↦ subst (λ (n : ℕ). In g.id (drop n (q.ids g.owner (place g.op)))) (sym none) (low_listed kept g i)
        | inr there ↦ subst (λ (ids : List ℕ). In g.id (drop (q.passed t g.owner (place g.op)) ids)) (sym (f.ids g.owner (place g.op)))
            (subst (λ (n : ℕ). In n (drop (q.passed t g.owner (place g.op)) (p.ids g.owner (place g.op)))) (sym is) there)
      ]

      unpulled : q.kept ≡ true → AllPassed q c.shared (on_log t (without_local id) c.opened)
      unpulled kept =
          on_each t (without_local id) c.opened (λ (x : Tx Op). HasSkipped place q (q.passed x.name) c.shared x.local)
          (λ x i named. let has = low_passed kept x i in record {
            within = has.within;
            rest = λ g j off. elim (eqb_tells g.id id) [
              | inl same ↦ subst (λ (u : Name). In g.id (drop (q.passed u g.owner (place g.op)) (q.ids g.owner (place g.op)))) (sym named) (again kept g j same.1)
              | inr other ↦ has.rest g j (sym (stands_without id x.local g.id other.1) ∙ off)
            ];
          })
          (λ x i off. low_passed kept x i)

    -- ---- steps

    module _ {State : Type 0} (O : Object Op State) (s : Sound O c) where
      shorter : p.kept ≡ true → (x : Tx Op) → In x c.opened → (id : ℕ) → IsLast id (last x.local) → HasSkipped place p (p.passed x.name) c.shared (but_last x.local)
      shorter kept x i id is =
          let r = unapplied_entry x.local id is in
          let old = h.passed kept x i in
          record {
            within = old.within;
            rest = λ g j off. old.rest g j (subst (λ (w : List (LocalEntry Op)). stands_in w g.id ≡ false) (sym r.1)
                (not_with (but_last x.local) r.0 g.id (λ same. not_pushed (sym r.3 ∙ stands_pushed O c s x i r.0 r.2 (ap is_own r.3) (g, j, sym same))) off));
          }
        where
          not_pushed : Unpushed ≡ Pushed → ⊥
          not_pushed e = cc

      unapplied : (t : Name) (id : ℕ) → Meets O c (Unapp t id) → p.kept ≡ true → AllPassed p c.shared (on_log t but_last c.opened)
      unapplied t id meets kept =
          let r = there_holds (tx t c.opened) _ meets in
          on_each t but_last c.opened (λ (x : Tx Op). HasSkipped place p (p.passed x.name) c.shared x.local)
          (only_one O c s t r.0 r.1 (λ (w : Tx Op). HasSkipped place p (p.passed w.name) c.shared (but_last w.local)) (shorter kept r.0 (found_tx t c.opened r.0 r.1).0 id r.2.0))
          (λ x i off. h.passed kept x i)

      -- what is known stays true where the step has its effect
      pub stays : (a : Step Op) → Meets O c a → (q r : Publications) → UnpassesBefore place a c.shared p q → ListsPushed place a ((then) c a).shared q r → TellsTrue place r ((then) c a)
      stays (Begin t n b) meets q r f m =
          same_last q r m ((then) c (Begin t n b)) (record { listed = listed_on t q f c.shared (comes_all c.shared); gone = gone_on t q f c.shared (comes_all c.shared); passed = begun t q f _ refl })
      stays (App t id op) meets q r f m = same q r f m ((then) c (App t id op)) (record { listed = h.listed; gone = h.gone; passed = longer t _ })
      stays (Unapp t id) meets q r f m = same q r f m ((then) c (Unapp t id)) (record { listed = h.listed; gone = h.gone; passed = unapplied t id meets })
      stays (Push t id) meets q r f m =
          published t id (entry_of id Unpushed (tx t c.opened)) r (subst (λ (w : Publications). ListsLast place ((then) c (Push t id)).shared w r) f m)
      stays (Unpush t id) meets q r f m =
          same q r f m ((then) c (Unpush t id)) (record {
            listed = λ kept. listed_onward p c.shared (without_shared id c.shared) (comes_without id c.shared) (h.listed kept);
            gone = λ kept. onward p c.shared (without_shared id c.shared) p.gone [] [] (comes_without id c.shared) (λ j missing. missing) (h.gone kept);
            passed = unpublished t id;
          })
      stays (Pull t id) meets q r f m = same q r f m ((then) c (Pull t id)) (pulled t id (of_other t id c.shared))
      stays (Unpull t id) meets q r f m =
          same_last q r m ((then) c (Unpull t id)) (record { listed = low_listed t id q f; gone = low_gone t id q f; passed = unpulled t id q f })
      stays (Cmt t) meets q r f m = same_last q r m ((then) c (Cmt t)) (committed t q f (tx t c.opened))
      stays (Quit t) meets q r f m =
          same_last q r m ((then) c (Quit t)) (record { listed = listed_on t q f c.shared (comes_all c.shared); gone = gone_on t q f c.shared (comes_all c.shared); passed = fewer t q f c.shared (comes_all c.shared) })
      stays (Note t) meets q r f m = same q r f m c h

    -- and where it has none
    pub waits : (a : Step Op) (q r : Publications) → UnpassesBefore place a c.shared p q → ListsPushed place a c.shared q r → TellsTrue place r c
    waits (Begin t n b) q r f m = same_last q r m c (forgets t q f)
    waits (App t id op) q r f m = same q r f m c h
    waits (Unapp t id) q r f m = same q r f m c h
    waits (Push t id) q r f m = again_listed r (subst (λ (w : Publications). ListsLast place c.shared w r) f m)
    waits (Unpush t id) q r f m = same q r f m c h
    waits (Pull t id) q r f m = same q r f m c h
    waits (Unpull t id) q r f m = same_last q r m c (lowered t id q f)
    waits (Cmt t) q r f m = same_last q r m c (forgets t q f)
    waits (Quit t) q r f m = same_last q r m c (forgets t q f)
    waits (Note t) q r f m = same q r f m c h

    -- lists begin to be kept
    pub keeps : (q : Publications) → Keeps place c.shared p q → TellsTrue place q c
    keeps q (inl as_it_was) = subst (λ (w : Publications). TellsTrue place w c) (sym as_it_was) h
    keeps q (inr (inl none)) = record { listed = λ kept. absurd (no (sym kept ∙ none)); gone = λ kept. absurd (no (sym kept ∙ none)); passed = λ kept x i. absurd (no (sym kept ∙ none)) }
      where
        no : true ≡ false → ⊥
        no e = cc
    keeps q (inr (inr all)) =
        record {
          listed = λ kept. all.0;
          gone = λ kept. none_passed q c.shared q.gone [] all.1 all.0;
          passed = λ kept x i. none_passed q c.shared (q.passed x.name) x.local (all.2 x.name) all.0;
        }

  -- at first none are kept
  pub none_kept : (p : Publications) (c : Config Op) → p.kept ≡ false → TellsTrue place p c
  none_kept p c none = record { listed = λ kept. absurd (no (sym kept ∙ none)); gone = λ kept. absurd (no (sym kept ∙ none)); passed = λ kept x i. absurd (no (sym kept ∙ none)) }
    where
      no : true ≡ false → ⊥
      no e = cc
