-- The objects of more ids.
use Rattle.std.specs.Prelude.{◌≡◌, ℕ, nat_eq, Bool, true, false, cond, is_some, List, [], ◌∷◌, ◌++◌, Option, None, Some}
use Rattle.std.specs.Option.{option_or}
use Rattle.std.proofs.Common.{refl, sym, ap, ◌∙◌, subst, append_assoc}
use mathlib.Core.Logic.{inl, inr}
use Rattle.std.proofs.lemmas.Bool.Decides.{eqb_tells}
use Rattle.pp_core.specs.Values.{HasSameValues, Updates, value_of}
use Rattle.pp_core.specs.declared.entry.Item.{Item}
use Rattle.pp_core.specs.declared.id_map.IdMap.{IdMap}
use Rattle.pp_records.specs.Records.{RunRecord}
use Rattle.pp_records.specs.Runs.{Lined, Records}
use Rattle.pp_objects.specs.Objects.{place_of}
use Rattle.pp_objects.specs.declared.act.Op.{Op}
use Rattle.pp_format_read.specs.declared.header.Header.{Header}
use Rattle.pp_cmd_focus.specs.Known.{KnowMore}
use Rattle.pp_cmd_focus.specs.Records.{applied, applied_by, known, object_of_id, split_last, start_items, with_first}

-- an alternative that is empty changes nothing
pub or_none : (o : Option ℕ) → option_or o None ≡ o
or_none None = refl
or_none (Some x) = refl

-- the first of three alternatives is the same in whatever way they are grouped
pub or_assoc : (a b c : Option ℕ) → option_or (option_or a b) c ≡ option_or a (option_or b c)
or_assoc None b c = refl
or_assoc (Some x) b c = refl

-- an alternative for one id, and for others
cond_or : (b : Bool) (x c : Option ℕ) (y : ℕ) → option_or (cond b (Some y) x) c ≡ cond b (Some y) (option_or x c)
cond_or true x c y = refl
cond_or false x c y = refl

-- The object of an id among more operations.
pub more_ids : (a b : List (Item Op)) (id : ℕ) → object_of_id (a ++ b) id ≡ option_or (object_of_id a id) (object_of_id b id)
more_ids [] b id = refl
more_ids (p ∷ a) b id = ap (λ (w : Option ℕ). cond (nat_eq p.id id) (Some (place_of p.op)) w) (more_ids a b id) ∙ sym (cond_or (nat_eq p.id id) (object_of_id a id) (object_of_id b id) (place_of p.op))

same_id : (a b : ℕ) → nat_eq a b ≡ true → a ≡ b
same_id a b is = elim (eqb_tells a b) [
  | inl h ↦ h.1
  | inr h ↦ absurd (cc (is, h.0))
]

module _ (old new : IdMap ℕ) (p : Item Op) where
  kept_value : (v : Option ℕ) (b : Bool) → (b ≡ true → is_some v ≡ true) → v ≡ option_or v (cond b (Some (place_of p.op)) None)
  kept_value (Some x) b is = refl
  kept_value None false is = refl
  kept_value None true is = absurd (cc (is refl))

  -- An id that has an object keeps it.
  pub known_stays : is_some (value_of old p.id) ≡ true → KnowMore old old (p ∷ [])
  known_stays there id = kept_value (value_of old id) (nat_eq p.id id) (λ is. subst (λ (n : ℕ). is_some (value_of old n) ≡ true) (same_id p.id id is) there)

  set_value : (v w : Option ℕ) (b : Bool) → w ≡ cond b (Some (place_of p.op)) v → (b ≡ true → v ≡ None) → w ≡ option_or v (cond b (Some (place_of p.op)) None)
  set_value v w true e none = e ∙ sym (ap (λ (u : Option ℕ). option_or u (Some (place_of p.op))) (none refl))
  set_value v w false e none = e ∙ sym (or_none v)

  -- An id that has none gets that of the operation.
  pub known_set : (room : IdMap ℕ) → HasSameValues old room → value_of old p.id ≡ None → Updates room new p.id (Some (place_of p.op)) → KnowMore old new (p ∷ [])
  known_set room same none set id =
      set_value (value_of old id) (value_of new id) (nat_eq p.id id)
      (set id ∙ ap (λ (v : Option ℕ). cond (nat_eq p.id id) (Some (place_of p.op)) v) (same id))
      (λ is. subst (λ (n : ℕ). value_of old n ≡ None) (same_id p.id id is) none)

-- Nothing more is known of nothing.
pub know_nothing : (m : IdMap ℕ) → KnowMore m m []
know_nothing m id = sym (or_none (value_of m id))

-- What is known of some operations and then of more is known of all.
pub know_both : (old mid new : IdMap ℕ) (a b : List (Item Op)) → KnowMore old mid a → KnowMore mid new b → KnowMore old new (a ++ b)
know_both old mid new a b first then id =
    then id ∙ ap (λ (v : Option ℕ). option_or v (object_of_id b id)) (first id)
    ∙ or_assoc (value_of old id) (object_of_id a id) (object_of_id b id)
    ∙ ap (λ (v : Option ℕ). option_or (value_of old id) v) (sym (more_ids a b id))

-- ---- records

applied_more : (before : Records (RunRecord Op)) (r : Lined (RunRecord Op)) → applied (before ++ r ∷ []) ≡ applied before ++ applied_by r.what
applied_more [] r = append_nil' (applied_by r.what)
  where
    append_nil' : (xs : List (Item Op)) → xs ++ [] ≡ xs
    append_nil' [] = refl
    append_nil' (x ∷ xs) = ap (λ (l : List (Item Op)). x ∷ l) (append_nil' xs)
applied_more (x ∷ before) r = ap (λ (l : List (Item Op)). applied_by x.what ++ l) (applied_more before r) ∙ sym (append_assoc (applied_by x.what) (applied before) (applied_by r.what))

-- The objects of ids after one record more.
pub known_more : (header : Header) (before : Records (RunRecord Op)) (r : Lined (RunRecord Op)) (id : ℕ) → known header (before ++ r ∷ []) id ≡ option_or (known header before id) (object_of_id (applied_by r.what) id)
known_more header before r id =
    ap (λ (l : List (Item Op)). object_of_id (start_items header.start ++ l) id) (applied_more before r)
    ∙ ap (λ (l : List (Item Op)). object_of_id l id) (sym (append_assoc (start_items header.start) (applied before) (applied_by r.what)))
    ∙ more_ids (start_items header.start ++ applied before) (applied_by r.what) id

-- The objects of ids after the header.
pub known_first : (header : Header) (id : ℕ) → known header [] id ≡ object_of_id (start_items header.start) id
known_first header id = more_ids (start_items header.start) [] id ∙ or_none (object_of_id (start_items header.start) id)

-- The last of some records and one more is that one.
pub split_more : (before : Records (RunRecord Op)) (r : Lined (RunRecord Op)) → split_last (before ++ r ∷ []) ≡ Some (before, r)
split_more [] r = refl
split_more (x ∷ before) r = ap (λ (s : Option (Records (RunRecord Op) × Lined (RunRecord Op))). with_first x s) (split_more before r)
