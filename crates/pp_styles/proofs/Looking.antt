-- What a transaction may lack of what its sources published.
use Rattle.std.proofs.Common.{◌≡◌, ◌⊎◌, ◌≤◌, ◌<◌, ◌+◌, ◌==◌, ◌||◌, ℕ, zero, suc, Bool, true}
use Rattle.std.proofs.Common.{false, List, [], ◌∷◌, ◌++◌, length, drop, max, take, Option, None, Some, is_some, get_or, if◌then◌else◌, Result, Ok, Err, OnOk}
use Rattle.std.proofs.Common.{position, refl, sym, ap, subst, ◌∙◌, arith, inl, inr, take-suc}
use Rattle.std.specs.List.{slice_get}
use Rattle.std.proofs.lemmas.Bool.{cases_lt, eq-eqb}
use Rattle.std.proofs.lemmas.Option.{get_or_from_slice_get, slice_get_within}
use Rattle.pp_core.specs.declared.entry.LocalEntry.{LocalEntry}
use Rattle.pp_core.specs.declared.entry.SharedEntry.{SharedEntry}
use Rattle.pp_records.specs.Expansions.{stands_in}
use Rattle.pp_records.specs.Fronts.{has_name}
use Rattle.pp_model.specs.Config.{Config, Tx, tx}
use Rattle.pp_model.specs.Lists.{In}
use Rattle.pp_model.specs.Names.{Name, ◌=ⁿ◌}
use Rattle.pp_model.specs.Object.{Object}
use Rattle.pp_model.specs.Sound.{Sound}
use Rattle.pp_model.proofs.Finding.{any_in, find_nowhere, place_none}
use Rattle.pp_model.proofs.Lists.{by_key, in_cases}
use Rattle.pp_model.proofs.Logs.{found_tx}
use Rattle.pp_model.proofs.Names.{eq-names, names-true}
use Rattle.pp_styles.specs.Knowing.{IsAllBut, IsFollowedBut}
use Rattle.pp_styles.specs.Publishing.{Adds, LooksFurther, SkipsAt, Publications, TellsTrue}
use Rattle.pp_styles.specs.Publishing.{Unpasses, ids_of, listed_more}
use Rattle.pp_styles.specs.Noting.{kept_ids}
use Rattle.std.specs.Map.{keys_of, lookup}
use Rattle.std.specs.Str.{bytes_eq}
use Rattle.std.proofs.Math.Bool.{or-true}
use Rattle.pp_styles.proofs.Ids.{in_drop_max, in_from_drop, later_in, none_after}
use Rattle.pp_styles.proofs.Publishing.{grown, grown_in, listed_here}

no : true ≡ false → ⊥
no e = cc

-- A fact that follows from another one if a result is `Ok` is true if it is.
pub on_ok : {A E : Type 0} {P Q : Type 0} (r : Result A E) → OnOk r P → (P → Q) → OnOk r Q
on_ok (Ok x) p f = f p
on_ok (Err e) p f = tt

-- What is not some is none.
pub none_if : {A : Type 0} (r : Option A) → is_some r ≡ false → r ≡ None
none_if None is = refl
none_if (Some x) is = absurd (no is)

-- If a fact is true of the id at the next position, it is true of each id up to it.
pub true_next : (P : ℕ → Type 0) (ids : List ℕ) (from at d : ℕ) → P (get_or ids at d) → ((i id : ℕ) → from ≤ i → i < at → slice_get ids i ≡ Some id → P id) → (i id : ℕ) → from ≤ i → i < at + 1 → slice_get ids i ≡ Some id → P id
true_next P ids from at d is before i id above below here = elim (cases_lt i at) [
  | inl early ↦ before i id above early here
  | inr late ↦
      let same : i ≡ at = omega arith in
      let read : get_or ids at d ≡ id = ap (λ (n : ℕ). get_or ids n d) (sym same) ∙ get_or_from_slice_get ids i id d here in
      subst P read is
]

module _ {Op : Type 0} (l : List (LocalEntry Op)) (G : List (SharedEntry Op)) where
  -- an id needs no further look
  abbrev pub NeedsNoLook : ℕ → Type 0
  NeedsNoLook id = (stands_in l id ≡ true) ⊎ (position (λ (e : SharedEntry Op). e.id == id) G ≡ None)

  not_gone : (g : SharedEntry Op) → In g G → stands_in l g.id ≡ false → NeedsNoLook g.id → ⊥
  not_gone g i off (inl there) = no (sym there ∙ off)
  not_gone g i off (inr none) =
      no (sym (eq-eqb g.id g.id refl) ∙ find_nowhere (λ (e : SharedEntry Op). e.id == g.id) G (place_none (λ (e : SharedEntry Op). e.id == g.id) G none) g i)

  -- Ids that are gone are passed over.
  pub skips_gone : (ids : List ℕ) (from at : ℕ) → ((i id : ℕ) → from ≤ i → i < at → slice_get ids i ≡ Some id → position (λ (e : SharedEntry Op). e.id == id) G ≡ None) → Adds l G ids from from (drop at ids)
  skips_gone ids from at gone g i off there again =
      later_in ids from at g.id there (λ j above below here. not_gone g i off (inr (gone j g.id above below here)))

  -- Ids that are gone are passed over, and then ids that need no further look.
  pub skips : (ids : List ℕ) (from gone least at : ℕ) → ((i id : ℕ) → gone ≤ i → i < least → slice_get ids i ≡ Some id → position (λ (e : SharedEntry Op). e.id == id) G ≡ None) →
      ((i id : ℕ) → max from least ≤ i → i < at → slice_get ids i ≡ Some id → NeedsNoLook id) → Adds l G ids gone from (drop at ids)
  skips ids from gone least at before after g i off there again =
      let beyond = skips_gone ids gone least before g i off there there in
      later_in ids (max from least) at g.id (in_drop_max ids from least g.id again beyond) (λ j above below here. not_gone g i off (after j g.id above below here))

  module _ (o : ℕ) (ids : Name → List ℕ) where
    -- Numbers that stay the same pass nothing more.
    pub passes_same : (gone a : Name → ℕ → ℕ) → SkipsAt l G o ids gone a a
    passes_same gone a v p = inl refl

    -- A number that is set for an owner passes only ids that are gone or need no further look.
    pub passes_set : (owner : Name) (at : ℕ) (gone a b : Name → ℕ → ℕ) → ((v : Name) (p : ℕ) → (b v p ≡ 0) ⊎ (b v p ≡ a v p) ⊎ (((v =ⁿ owner) ≡ true) × (p ≡ o) × (b v p ≡ at))) →
        at ≤ length (ids owner) → Adds l G (ids owner) (gone owner o) (a owner o) (drop at (ids owner)) → SkipsAt l G o ids gone a b
    passes_set owner at gone a b each low adds v p = elim (each v p) [
      | inl none ↦ inr (inl none)
      | inr (inl same) ↦ inl same
      | inr (inr set) ↦
          let named : v ≡ owner = names-true v owner set.0 in
          let there : (p ≡ o) × (at ≤ length (ids v)) × Adds l G (ids v) (gone v o) (a v o) (drop at (ids v)) =
          subst (λ (u : Name). (p ≡ o) × (at ≤ length (ids u)) × Adds l G (ids u) (gone u o) (a u o) (drop at (ids u))) (sym named) (set.1, low, adds) in
          inr (inr (subst (λ (n : ℕ). (p ≡ o) × (n ≤ length (ids v)) × Adds l G (ids v) (gone v p) (a v p) (drop n (ids v))) (sym set.2)
          (subst (λ (n : ℕ). (p ≡ o) × (at ≤ length (ids v)) × Adds l G (ids v) (gone v n) (a v n) (drop at (ids v))) (sym set.1) there)))
    ]

    -- what was neither gone nor passed is not passed, if it is missing
    pub passes_in : (gone a b : Name → ℕ → ℕ) → SkipsAt l G o ids gone a b → (v : Name) (p : ℕ) → Adds l G (ids v) (gone v p) (a v p) (drop (b v p) (ids v))
    passes_in gone a b h v p g i off out there = elim (h v p) [
      | inl same ↦ subst (λ (n : ℕ). In g.id (drop n (ids v))) (sym same) there
      | inr (inl none) ↦ subst (λ (n : ℕ). In g.id (drop n (ids v))) (sym none) (in_from_drop (a v p) (ids v) g.id there)
      | inr (inr more) ↦ more.2 g i off out there
    ]

-- of the entries of a shared log, with the ids that are gone
module _ {Op : Type 0} (G : List (SharedEntry Op)) (o : ℕ) (ids : Name → List ℕ) (gone more : Name → ℕ → ℕ) (moved : SkipsAt [] G o ids gone gone more) where
  -- An id that was not gone is not gone yet, if its entry is there.
  pub not_gone_yet : (v : Name) (p : ℕ) (g : SharedEntry Op) → In g G → In g.id (drop (gone v p) (ids v)) → In g.id (drop (more v p) (ids v))
  not_gone_yet v p g i out = passes_in [] G o ids gone gone more moved v p g i refl out out

  -- Numbers that pass twice only what is gone or needs no further look do so together.
  pub passes_on : (l : List (LocalEntry Op)) (a b c : Name → ℕ → ℕ) → SkipsAt l G o ids gone a b → SkipsAt l G o ids more b c → SkipsAt l G o ids gone a c
  passes_on l a b c first second v p = elim (second v p) [
    | inl same ↦ elim (first v p) [
      | inl before ↦ inl (same ∙ before)
      | inr (inl none) ↦ inr (inl (same ∙ none))
      | inr (inr far) ↦ inr (inr (subst (λ (n : ℕ). (p ≡ o) × (n ≤ length (ids v)) × Adds l G (ids v) (gone v p) (a v p) (drop n (ids v))) (sym same) far))
    ]
    | inr (inl none) ↦ inr (inl none)
    | inr (inr far) ↦ inr (inr (far.0, far.1, λ g i off out there. far.2 g i off (not_gone_yet v p g i out) (passes_in l G o ids gone a b first v p g i off out there)))
  ]

-- what a number passes at most, with other names for all numbers
at_other : {Op : Type 0} (l : List (LocalEntry Op)) (G : List (SharedEntry Op)) (ids jds : List ℕ) (g h n k m r : ℕ) → ids ≡ jds → g ≡ h → n ≡ k → m ≡ r →
    (m ≤ length ids) × Adds l G ids g n (drop m ids) → (r ≤ length jds) × Adds l G jds h k (drop r jds)
at_other l G ids jds g h n k m r ids_is gone_is from_is to_is far =
    subst (λ (w : List ℕ). (r ≤ length w) × Adds l G w h k (drop r w)) ids_is
    (subst (λ (j : ℕ). (r ≤ length ids) × Adds l G ids j k (drop r ids)) gone_is
    (subst (λ (j : ℕ). (r ≤ length ids) × Adds l G ids g j (drop r ids)) from_is
    (subst (λ (j : ℕ). (j ≤ length ids) × Adds l G ids g n (drop j ids)) to_is far)))

module _ {Op : Type 0} (l : List (LocalEntry Op)) (G : List (SharedEntry Op)) where
  -- of no ids
  pub adds_none : (n m : ℕ) (more : List ℕ) → Adds l G [] n m more
  adds_none zero m more g i off out there = absurd out
  adds_none (suc n) m more g i off out there = absurd out

  -- of ids that are all passed
  pub adds_past : (ids : List ℕ) (n m : ℕ) (more : List ℕ) → length ids ≤ m → Adds l G ids n m more
  adds_past ids n m more past g i off out there = absurd (none_after ids m g.id past there)

  -- what is known of a transaction is taken out, goes further, and is put back
  pub looks_further : (t : Name) (o : ℕ) (p mid q : Publications) (a b : Name → ℕ → ℕ) (more : Name → ℕ → ℕ) → ((v : Name) (n : ℕ) → a v n ≡ p.passed t v n) → Unpasses t p mid →
      SkipsAt [] G o (λ v. mid.ids v o) mid.gone mid.gone more → SkipsAt l G o (λ v. mid.ids v o) mid.gone a b → q.kept ≡ mid.kept → ((v : Name) (n : ℕ) → q.ids v n ≡ mid.ids v n) → ((v : Name) (n : ℕ) → q.gone v n ≡ more v n) →
      ((u v : Name) (n : ℕ) → (q.passed u v n ≡ mid.passed u v n) ⊎ (((u =ⁿ t) ≡ true) × (q.passed u v n ≡ b v n))) → LooksFurther t o l G p q
  looks_further t o p mid q a b more taken f moved further kept ids gone put =
      record {
        kept = kept ∙ f.kept;
        ids = λ v n. ids v n ∙ f.ids v n;
        gone = λ v n. elim (moved v n) [
          | inl same ↦ inl (gone v n ∙ same ∙ f.gone v n)
          | inr (inl none) ↦ inr (inl (gone v n ∙ none))
          | inr (inr far) ↦
              let is_far = at_other [] G (mid.ids v o) (p.ids v o) (mid.gone v n) (p.gone v n) (mid.gone v n) (p.gone v n) (more v n) (q.gone v n) (f.ids v o) (f.gone v n) (f.gone v n) (sym (gone v n)) (far.1, far.2) in
              inr (inr (far.0, is_far.0, is_far.1))
        ];
        passed = λ u v n. elim (put u v n) [
          | inl out ↦ out_of u v n (u =ⁿ t) (out ∙ f.passed u v n)
          | inr back ↦ back_at u v n back.0 (names-true u t back.0) back.1 (further v n)
        ];
      }
    where
      Further : Name → Name → ℕ → Type 0
      Further u v n = (q.passed u v n ≡ p.passed u v n) ⊎ (q.passed u v n ≡ 0)
          ⊎ (((u =ⁿ t) ≡ true) × (n ≡ o) × (q.passed u v n ≤ length (p.ids v n)) × Adds l G (p.ids v n) (p.gone v n) (p.passed t v n) (drop (q.passed u v n) (p.ids v n)))

      out_of : (u v : Name) (n : ℕ) (b : Bool) → q.passed u v n ≡ (if b then 0 else p.passed u v n) → Further u v n
      out_of u v n true is = inr (inl is)
      out_of u v n false is = inl is

      back_at : (u v : Name) (n : ℕ) → (u =ⁿ t) ≡ true → u ≡ t → q.passed u v n ≡ b v n →
          (b v n ≡ a v n) ⊎ (b v n ≡ 0) ⊎ ((n ≡ o) × (b v n ≤ length (mid.ids v o)) × Adds l G (mid.ids v o) (mid.gone v n) (a v n) (drop (b v n) (mid.ids v o))) → Further u v n
      back_at u v n named same is (inl before) = inl (is ∙ before ∙ taken v n ∙ ap (λ (w : Name). p.passed w v n) (sym same))
      back_at u v n named same is (inr (inl none)) = inr (inl (is ∙ none))
      back_at u v n named same is (inr (inr far)) =
          let at_o : mid.ids v o ≡ p.ids v n = f.ids v o ∙ ap (λ (m : ℕ). p.ids v m) (sym far.0) in
          let is_far = at_other l G (mid.ids v o) (p.ids v n) (mid.gone v n) (p.gone v n) (a v n) (p.passed t v n) (b v n) (q.passed u v n) at_o (f.gone v n) (taken v n) (sym is) (far.1, far.2) in
          inr (inr (named, far.0, is_far.0, is_far.1))

-- one element more of a list
pub in_next : {A : Type 0} (x : A) (xs : List A) (i : ℕ) (y : A) → slice_get xs i ≡ Some y → In x (take (i + 1) xs) → In x (take i xs) ⊎ (x ≡ y)
in_next {A} x xs i y here there = elim (in_cases x (take i xs) (y ∷ []) (subst (λ (w : List A). In x w) next there)) [
  | inl early ↦ inl early
  | inr (inl same) ↦ inr same
  | inr (inr none) ↦ absurd none
]
  where
    one_more : i + 1 ≡ suc i
    one_more = omega arith

    next : take (i + 1) xs ≡ take i xs ++ y ∷ []
    next =
        ap (λ (n : ℕ). take n xs) one_more ∙ take-suc xs i y (slice_get_within xs i y here)
        ∙ ap (λ (w : A). take i xs ++ w ∷ []) (get_or_from_slice_get xs i y y here)

-- a name that is one of some is found among them
pub is_found : (v : Name) (us : List Name) → In v us → has_name v us ≡ true
is_found v [] there = absurd there
is_found v (u ∷ us) (inl same) = ap (λ (b : Bool). b || has_name v us) (eq-names u v (sym same))
is_found v (u ∷ us) (inr later) = ap (λ (b : Bool). (u =ⁿ v) || b) (is_found v us later) ∙ or-true (u =ⁿ v)

-- a name has a list, or it has none
pub has_list : (v : Name) (owners : List (Name × List ℕ)) → In v (keys_of owners) ⊎ (ids_of v owners ≡ [])
has_list v [] = inr refl
has_list v (e ∷ owners) = by (bytes_eq v e.0) refl (has_list v owners)
  where
    by : (b : Bool) → bytes_eq v e.0 ≡ b → In v (keys_of owners) ⊎ (ids_of v owners ≡ []) → In v (keys_of (e ∷ owners)) ⊎ (ids_of v (e ∷ owners) ≡ [])
    by true is rest = inl (inl (names-true v e.0 is))
    by false is (inl there) = inl (inr there)
    by false is (inr none) = inr (ap (λ (b : Bool). kept_ids (if b then Some e.1 else lookup (bytes_eq v) owners)) is ∙ none)

-- one entry more is listed
pub list_next : {Op : Type 0} (place : Op → ℕ) (old new : Name → ℕ → List ℕ) (G : List (SharedEntry Op)) (i : ℕ) (g : SharedEntry Op) → slice_get G i ≡ Some g →
    ((v : Name) (o : ℕ) → new v o ≡ listed_more place (Some g) old v o) → ((e : SharedEntry Op) → In e (take i G) → In e.id (old e.owner (place e.op))) →
    (e : SharedEntry Op) → In e (take (i + 1) G) → In e.id (new e.owner (place e.op))
list_next {Op} place old new G i g here is before e there = elim (in_next e G i g here there) [
  | inl early ↦ subst (λ (w : List ℕ). In e.id w) (sym (is e.owner (place e.op))) (grown_in place (old e.owner (place e.op)) (listed_more place (Some g) old e.owner (place e.op)) 0 e.id (grown place (Some g) old e.owner (place e.op)) (before e early))
  | inr same ↦ subst (λ (w : SharedEntry Op). In w.id (new w.owner (place w.op))) (sym same)
      (subst (λ (w : List ℕ). In g.id w) (sym (is g.owner (place g.op) ∙ listed_here place g old)) (at_end (old g.owner (place g.op))))
]
  where
    at_end : (ids : List ℕ) → In g.id (ids ++ g.id ∷ [])
    at_end [] = inl refl
    at_end (j ∷ ids) = inr (at_end ids)

-- ---- a configuration

module _ {Op State : Type 0} (place : Op → ℕ) (p : Publications) (c : Config Op) (h : TellsTrue place p c) (O : Object Op State) (s : Sound O c) (t : Name) (x : Tx Op) (open_is : tx t c.opened ≡ Some x) where
  -- the open transaction of this name
  one : (y : Tx Op) → In y c.opened → (y.name =ⁿ t) ≡ true → y ≡ x
  one y i named =
      let r = found_tx t c.opened x open_is in
      by_key (λ (w : Tx Op). w.name) c.opened s.open_names y x i r.0 (names-true y.name t named ∙ sym r.1)

  -- what it has not passed has all that it misses
  rest_here : p.kept ≡ true → (g : SharedEntry Op) → In g c.shared → stands_in x.local g.id ≡ false → In g.id (drop (p.passed t g.owner (place g.op)) (p.ids g.owner (place g.op)))
  rest_here kept g i off =
      let r = found_tx t c.opened x open_is in
      let has = h.passed kept x r.0 in
      subst (λ (u : Name). In g.id (drop (p.passed u g.owner (place g.op)) (p.ids g.owner (place g.op)))) r.1 (has.rest g i off)

  -- and what is not gone has all
  all_here : p.kept ≡ true → (g : SharedEntry Op) → In g c.shared → In g.id (drop (p.gone g.owner (place g.op)) (p.ids g.owner (place g.op)))
  all_here kept g i = let has = h.gone kept in has.rest g i refl

  -- Facts about published entries stay true after a transaction looked further.
  pub looks : (o : ℕ) (q : Publications) → LooksFurther t o x.local c.shared p q → TellsTrue place q c
  looks o q f =
      record {
        listed = λ kept g i. subst (λ (w : List ℕ). In g.id w) (sym (f.ids g.owner (place g.op))) (h.listed (sym f.kept ∙ kept) g i);
        gone = λ kept. record {
          within = λ v n. subst (λ (w : List ℕ). q.gone v n ≤ length w) (sym (f.ids v n)) (gone_within (sym f.kept ∙ kept) v n);
          rest = λ g j off. subst (λ (w : List ℕ). In g.id (drop (q.gone g.owner (place g.op)) w)) (sym (f.ids g.owner (place g.op))) (gone_rest (sym f.kept ∙ kept) g j);
        };
        passed = λ kept y i. record {
          within = λ v n. subst (λ (w : List ℕ). q.passed y.name v n ≤ length w) (sym (f.ids v n)) (within (sym f.kept ∙ kept) y i v n);
          rest = λ g j off. subst (λ (w : List ℕ). In g.id (drop (q.passed y.name g.owner (place g.op)) w)) (sym (f.ids g.owner (place g.op))) (rest (sym f.kept ∙ kept) y i g j off);
        };
      }
    where
      gone_within : p.kept ≡ true → (v : Name) (n : ℕ) → q.gone v n ≤ length (p.ids v n)
      gone_within kept v n =
          let has = h.gone kept in
          elim (f.gone v n) [
            | inl same ↦ subst (λ (m : ℕ). m ≤ length (p.ids v n)) (sym same) (has.within v n)
            | inr (inl none) ↦ subst (λ (m : ℕ). m ≤ length (p.ids v n)) (sym none) (omega arith)
            | inr (inr more) ↦ subst (λ (m : ℕ). q.gone v n ≤ length (p.ids v m)) (sym more.0) more.1
          ]

      gone_rest : p.kept ≡ true → (g : SharedEntry Op) → In g c.shared → In g.id (drop (q.gone g.owner (place g.op)) (p.ids g.owner (place g.op)))
      gone_rest kept g j = elim (f.gone g.owner (place g.op)) [
        | inl same ↦ subst (λ (m : ℕ). In g.id (drop m (p.ids g.owner (place g.op)))) (sym same) (all_here kept g j)
        | inr (inl none) ↦ subst (λ (m : ℕ). In g.id (drop m (p.ids g.owner (place g.op)))) (sym none) (h.listed kept g j)
        | inr (inr more) ↦
            subst (λ (m : ℕ). In g.id (drop (p.gone g.owner (place g.op)) (p.ids g.owner m)) → In g.id (drop (q.gone g.owner (place g.op)) (p.ids g.owner m))) (sym more.0)
            (λ there. more.2 g j refl there there) (all_here kept g j)
      ]

      within : p.kept ≡ true → (y : Tx Op) → In y c.opened → (v : Name) (n : ℕ) → q.passed y.name v n ≤ length (p.ids v n)
      within kept y i v n =
          let has = h.passed kept y i in
          elim (f.passed y.name v n) [
            | inl same ↦ subst (λ (m : ℕ). m ≤ length (p.ids v n)) (sym same) (has.within v n)
            | inr (inl none) ↦ subst (λ (m : ℕ). m ≤ length (p.ids v n)) (sym none) (omega arith)
            | inr (inr more) ↦ more.2
          ]

      rest : p.kept ≡ true → (y : Tx Op) → In y c.opened → (g : SharedEntry Op) → In g c.shared → stands_in y.local g.id ≡ false → In g.id (drop (q.passed y.name g.owner (place g.op)) (p.ids g.owner (place g.op)))
      rest kept y i g j off =
          let has = h.passed kept y i in
          elim (f.passed y.name g.owner (place g.op)) [
            | inl same ↦ subst (λ (m : ℕ). In g.id (drop m (p.ids g.owner (place g.op)))) (sym same) (has.rest g j off)
            | inr (inl none) ↦ subst (λ (m : ℕ). In g.id (drop m (p.ids g.owner (place g.op)))) (sym none) (h.listed kept g j)
            | inr (inr more) ↦
                let missing : stands_in x.local g.id ≡ false = subst (λ (w : Tx Op). stands_in w.local g.id ≡ false) (one y i more.0) off in
                more.3 g j missing (all_here kept g j) (rest_here kept g j missing)
          ]

  -- ids of all that is committed, with those of what the sources published
  pub followed_but : (o : ℕ) (sources : List Name) (old ids : List ℕ) → p.kept ≡ true → IsAllBut place o c.shared x.local old → ((i : ℕ) → In i old → In i ids) →
      ((v : Name) → In v sources → Adds x.local c.shared (p.ids v o) (p.gone v o) (p.passed t v o) ids) → IsFollowedBut place o sources c.shared x.local ids
  followed_but o sources old ids kept all more added g i followed on off = by g.committed refl
    where
      by : (b : Bool) → g.committed ≡ b → In g.id ids
      by true is = more g.id (all g i is on off)
      by false is =
          let named = any_in (λ (v : Name). v =ⁿ g.owner) sources (sym (ap (λ (b : Bool). b || has_name g.owner sources) is) ∙ followed) in
          let owner : named.0 ≡ g.owner = names-true named.0 g.owner named.2 in
          added g.owner (subst (λ (u : Name). In u sources) owner named.1) g i off
          (subst (λ (n : ℕ). In g.id (drop (p.gone g.owner n) (p.ids g.owner n))) on (all_here kept g i))
          (subst (λ (n : ℕ). In g.id (drop (p.passed t g.owner n) (p.ids g.owner n))) on (rest_here kept g i off))
