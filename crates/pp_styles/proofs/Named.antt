-- Which names are among some: after one is added, and after one is removed.
use Rattle.std.proofs.Common.{◌≡◌, Bool, true, false, not, ◌||◌, cond, List, [], ◌∷◌, ◌++◌}
use Rattle.std.proofs.Common.{if◌then◌else◌, refl, sym, ap, ◌∙◌, inl, inr}
use Rattle.std.specs.List.{list_any}
use Rattle.std.specs.Str.{bytes_eq}
use Rattle.std.proofs.Math.Bool.{or-false}
use Rattle.std.proofs.lemmas.Cmp.{nat_list_eq_equiv}
use Rattle.std.proofs.lemmas.List.Folds.{list_any-append}
use Rattle.indexmap.specs.IndexSet.{insert_key}
use Rattle.pp_model.specs.Names.{Name, ◌=ⁿ◌}
use Rattle.pp_model.proofs.Names.{names-true}
use Rattle.pp_records.specs.Fronts.{has_name, with_source, without_source}

-- a name that is looked up is one of them
pub looked_up : (u : Name) (us : List Name) → list_any (bytes_eq u) us ≡ has_name u us
looked_up u [] = refl
looked_up u (v ∷ us) = λ i. (nat_list_eq_equiv.symm u v i) || (looked_up u us i)

-- a name that is inserted
pub with_inserted : (u : Name) (us : List Name) → insert_key bytes_eq us u ≡ with_source u us
with_inserted u us = ap (λ (b : Bool). if b then us else us ++ u ∷ []) (looked_up u us)

-- A name is in a list without u if it is not u and is in the list.
pub without_named : (u v : Name) (us : List Name) → has_name v (without_source u us) ≡ cond (bytes_eq u v) false (has_name v us)
without_named u v [] = none (bytes_eq u v)
  where
    none : (b : Bool) → false ≡ cond b false false
    none true = refl
    none false = refl
without_named u v (w ∷ us) = by (w =ⁿ u) refl (bytes_eq u v) refl (without_named u v us)
  where
    by : (a : Bool) → (w =ⁿ u) ≡ a → (b : Bool) → bytes_eq u v ≡ b → has_name v (without_source u us) ≡ cond (bytes_eq u v) false (has_name v us)
        → has_name v (cond (not (w =ⁿ u)) (w ∷ without_source u us) (without_source u us)) ≡ cond (bytes_eq u v) false ((w =ⁿ v) || has_name v us)
    by true a true b rest =
        ap (λ (z : Bool). has_name v (cond (not z) (w ∷ without_source u us) (without_source u us))) a ∙ rest
        ∙ ap (λ (z : Bool). cond z false (has_name v us)) b ∙ sym (ap (λ (z : Bool). cond z false ((w =ⁿ v) || has_name v us)) b)
    by true a false b rest =
        let other : (w =ⁿ v) ≡ false = ap (λ (z : Name). z =ⁿ v) (names-true w u a) ∙ b in
        ap (λ (z : Bool). has_name v (cond (not z) (w ∷ without_source u us) (without_source u us))) a ∙ rest
        ∙ sym (ap (λ (z : Bool). cond (bytes_eq u v) false (z || has_name v us)) other)
    by false a true b rest =
        let other : (w =ⁿ v) ≡ false = sym (ap (λ (z : Name). w =ⁿ z) (names-true u v b)) ∙ a in
        ap (λ (z : Bool). has_name v (cond (not z) (w ∷ without_source u us) (without_source u us))) a
        ∙ ap (λ (z : Bool). z || has_name v (without_source u us)) other ∙ rest
        ∙ sym (ap (λ (z : Bool). cond (bytes_eq u v) false (z || has_name v us)) other)
    by false a false b rest =
        ap (λ (z : Bool). has_name v (cond (not z) (w ∷ without_source u us) (without_source u us))) a
        ∙ ap (λ (z : Bool). (w =ⁿ v) || z) (rest ∙ ap (λ (z : Bool). cond z false (has_name v us)) b)
        ∙ sym (ap (λ (z : Bool). cond z false ((w =ⁿ v) || has_name v us)) b)

-- A name is in a list with u if it is in the list or is u.
with_named : (u v : Name) (us : List Name) → has_name v (with_source u us) ≡ (has_name v us || (u =ⁿ v))
with_named u v us = by (has_name u us) refl
  where
    last : has_name v (us ++ u ∷ []) ≡ (has_name v us || (u =ⁿ v))
    last = list_any-append (λ w. w =ⁿ v) us (u ∷ []) ∙ ap (λ (b : Bool). has_name v us || b) (or-false (u =ⁿ v))

    there : (b : Bool) → (u =ⁿ v) ≡ b → has_name u us ≡ true → has_name v us ≡ (has_name v us || b)
    there true same is =
        let here : has_name v us ≡ true = sym (ap (λ (z : Name). has_name z us) (names-true u v same)) ∙ is in
        here ∙ sym (ap (λ (z : Bool). z || true) here)
    there false same is = sym (or-false (has_name v us))

    by : (b : Bool) → has_name u us ≡ b → has_name v (with_source u us) ≡ (has_name v us || (u =ⁿ v))
    by true is = ap (λ (z : Bool). has_name v (if z then us else us ++ u ∷ [])) is ∙ there (u =ⁿ v) refl is
    by false is = ap (λ (z : Bool). has_name v (if z then us else us ++ u ∷ [])) is ∙ last

-- If two lists have the same names, so have the two with a name more.
pub added_same : (u : Name) (us vs : List Name) → ((v : Name) → has_name v us ≡ has_name v vs) → (v : Name) → has_name v (with_source u us) ≡ has_name v (with_source u vs)
added_same u us vs same v = with_named u v us ∙ ap (λ (b : Bool). b || (u =ⁿ v)) (same v) ∙ sym (with_named u v vs)

-- If two lists have the same names, so have the two without a name.
pub dropped_same : (u : Name) (us vs : List Name) → ((v : Name) → has_name v us ≡ has_name v vs) → (v : Name) → has_name v (without_source u us) ≡ has_name v (without_source u vs)
dropped_same u us vs same v = without_named u v us ∙ ap (λ (b : Bool). cond (bytes_eq u v) false b) (same v) ∙ sym (without_named u v vs)

-- If u alone is looked up no more, the names are those without u.
pub without_removed : (u : Name) (us vs : List Name) → ((v : Name) → list_any (bytes_eq v) vs ≡ cond (bytes_eq u v) false (list_any (bytes_eq v) us))
    → (v : Name) → has_name v vs ≡ has_name v (without_source u us)
without_removed u us vs updates v =
    sym (looked_up v vs) ∙ updates v ∙ ap (λ (b : Bool). cond (bytes_eq u v) false b) (looked_up v us) ∙ sym (without_named u v us)
