-- A header that was read can be stated.
use Rattle.std.proofs.Common.{◌≡◌, ◌≤◌, ◌+◌, ◌⊎◌, ℕ, zero, suc, List, [], ◌∷◌, ◌++◌, length, slice_get, Option, Some, None}
use Rattle.std.proofs.Common.{Ok, ok_or, nat_lt, is_some, refl, sym, ap, ◌∙◌, arith, inl, inr, length-append}
use Rattle.std.specs.Prelude.{IfOk}
use Rattle.std.specs.List.{All}
use Rattle.std.specs.Map.{keys_of}
use Rattle.std.proofs.lemmas.Result.{IfOk-at_ok, IfOk-weaker}
use Rattle.serde_json.specs.Data.{Data, Items, no_items, item, null, boolean, number, string, array, object}
use Rattle.serde_json.specs.Find.{as_object, get}
use Rattle.pp_core.specs.Catalogs.{Objects, place_of, HasNames, HasDistinctNames}
use Rattle.pp_core.proofs.Places.{with_named}
use Rattle.pp_core.specs.Names.{IsName}
use Rattle.pp_core.specs.Words.{member_word, named, kind_word, kinds, style_word, styles}
use Rattle.pp_core.specs.declared.call.Kind.{Kind}
use Rattle.pp_core.specs.declared.limits.TheConstants.{MOST_OBJECTS}
use Rattle.pp_core.specs.declared.member.Member.TheVariants as members
use Rattle.pp_model.specs.Lists.{Each}
use Rattle.pp_format_read.specs.declared.fault.RecordFault.TheVariants.{WrongType, RepeatedObject, UnknownKind}
use Rattle.pp_format_read.specs.declared.fault.RecordFault.TheVariants.{TooManyObjects, UnknownStyle}
use Rattle.pp_format_read.specs.declared.header.Header.{Header}
use Rattle.pp_format_read.specs.Reading.{◌>>=◌, fault_if}
use Rattle.pp_format_read.specs.Members.{object_of, text_of, name_of, array_of, count}
use Rattle.pp_format_read.specs.Items.{IsReadableItem}
use Rattle.pp_format_read.specs.Starts.{ops_of, start_from, start_given, optional_start, AreReadable}
use Rattle.pp_format_read.specs.Headers.{object_in, with_object, objects_in, catalog_of, version_of, versioned_start, header_of}
use Rattle.pp_format_read.proofs.ReadableStarts.{behind, behind_any, within, readable_ops, in_either_version}
use Rattle.pp_format_write.specs.Statable.{IsCatalog, IsId, IsOpOn, IsStatableStart, CanStart}
use Rattle.pp_format_write.proofs.NamesBack.{found}
use Rattle.pp_format_write.proofs.StepsRead.{name_read}

-- ---- one more object, with a name of its own
place : (before : Objects) (e : List ℕ × Kind) (i : ℕ) (name : List ℕ) → slice_get (keys_of (before ++ e ∷ [])) i ≡ Some name
    → (slice_get (keys_of before) i ≡ Some name) ⊎ ((i ≡ length before) × (e.0 ≡ name))
place [] e zero name at = inr (refl, cc)
place [] e (suc i) name at = absurd (cc)
place (x ∷ xs) e zero name at = inl at
place (x ∷ xs) e (suc i) name at = elim (place xs e i name at) [ inl h ↦ inl h | inr h ↦ inr (ap suc h.0, h.1) ]

not_there : (before : Objects) (name : List ℕ) (i : ℕ) → place_of name before ≡ None → slice_get (keys_of before) i ≡ Some name → ⊥
not_there before name i new at = let f = found (keys_of before) i name at in let first = f.1.first in absurd (cc)

still_distinct : (before : Objects) (e : List ℕ × Kind) → HasDistinctNames before → place_of e.0 before ≡ None → HasDistinctNames (before ++ e ∷ [])
still_distinct before e distinct new name i j at_i at_j = by (place before e i name at_i) (place before e j name at_j)
  where
    fresh : e.0 ≡ name → place_of name before ≡ None
    fresh same = ap (λ n. place_of n before) (sym same) ∙ new

    by : (slice_get (keys_of before) i ≡ Some name) ⊎ ((i ≡ length before) × (e.0 ≡ name)) → (slice_get (keys_of before) j ≡ Some name) ⊎ ((j ≡ length before) × (e.0 ≡ name)) → i ≡ j
    by (inl a) (inl b) = distinct name i j a b
    by (inl a) (inr b) = absurd (not_there before name i (fresh b.1) a)
    by (inr a) (inl b) = absurd (not_there before name j (fresh a.1) b)
    by (inr a) (inr b) = a.0 ∙ sym b.0

-- ---- the objects
record AreMore (n : ℕ) (catalog : Objects) : Type 0 where
  many : length catalog ≡ n
  distinct : HasDistinctNames catalog
  named : HasNames catalog

new : (o : Option ℕ) → IfOk (fault_if (is_some o) RepeatedObject) (λ _. o ≡ None)
new None = refl
new (Some i) = tt

object_read : (before : Objects) (value : Data) → IfOk (object_in before value) (λ e. IsName e.0 × (place_of e.0 before ≡ None))
unfolding object_in
object_read before value =
    behind_any (ok_or (as_object value) (WrongType members.Objects)) _ _ (λ inside.
    behind (name_of members.Name value) _ IsName _ (name_read members.Name value) (λ name h.
    behind (fault_if (is_some (place_of name before)) RepeatedObject) _ (λ _. place_of name before ≡ None) _ (new (place_of name before)) (λ _ fresh.
    behind_any (text_of members.Kind value) _ _ (λ word.
    behind_any (ok_or (named kind_word kinds word) UnknownKind) _ _ (λ kind. (h, fresh))))))

one_more : (n : ℕ) (before : Objects) (value : Data) → AreMore n before → IfOk (with_object before value) (AreMore (n + 1))
unfolding with_object
one_more n before value h =
    behind (object_in before value) _ (λ e. IsName e.0 × (place_of e.0 before ≡ None)) _ (object_read before value) (λ e k. record {
      many = omega (arith, h.many, length-append before (e ∷ []));
      distinct = still_distinct before e h.distinct k.1;
      named = with_named before e h.named k.0;
    })

all_more : (n : ℕ) (before : Objects) (values : Items) → AreMore n before → IfOk (objects_in before values) (AreMore (n + count values))
unfolding objects_in
all_more n before no_items h = record { many = omega (arith, h.many); distinct = h.distinct; named = h.named }
all_more n before (item value values) h =
    behind (with_object before value) _ (AreMore (n + 1)) _ (one_more n before value h) (λ longer k.
    IfOk-weaker (objects_in longer values) (AreMore (n + 1 + count values)) (AreMore (n + suc (count values)))
    (λ c more. record { many = omega (arith, more.many); distinct = more.distinct; named = more.named }) (all_more (n + 1) longer values k))

none_at_first : AreMore 0 []
none_at_first = record { many = refl; distinct = λ name i j at also. absurd (cc); named = tt }

catalog_read : (value : Data) → IfOk (catalog_of value) IsCatalog
unfolding catalog_of
catalog_read value =
    behind_any (array_of members.Objects value) _ _ (λ values.
    behind (fault_if (nat_lt MOST_OBJECTS (count values)) TooManyObjects) _ (λ _. count values ≤ MOST_OBJECTS) _ (within MOST_OBJECTS (count values) TooManyObjects) (λ _ few.
    IfOk-weaker (objects_in [] values) (AreMore (0 + count values)) IsCatalog
    (λ c more. record { few = omega (arith, few, more.many); distinct = more.distinct; named = more.named }) (all_more 0 [] values none_at_first)))

-- ---- the start
each_of : {A : Type 0} (P Q : A → Type 0) → ((x : A) → P x → Q x) → (xs : List A) → All P xs → Each Q xs
each_of P Q f [] h = tt
each_of P Q f (x ∷ xs) h = (f x (h 0 x (omega arith)), each_of P Q f xs (λ k d lt. h (suc k) d (omega arith)))

module _ (catalog : Objects) where
  one_start : (value : Data) → IfOk (start_from catalog value >>= λ start. Ok (Some start)) (CanStart catalog)
  unfolding start_from
  one_start value =
      behind (start_from catalog value) _ (IsStatableStart catalog) _
      (behind_any (ok_or (as_object value) (WrongType members.Start)) _ _ (λ inside.
      behind (name_of members.Tx value) _ IsName _ (name_read members.Tx value) (λ tx name.
      behind (ops_of catalog value) _ (AreReadable catalog) _ (readable_ops catalog value)
      (λ ops h. record { named = name; few = h.few; each = each_of (IsReadableItem catalog) (λ p. IsId p.id × IsOpOn catalog p.op) (λ p k. (k.0, (k.1, k.2))) ops h.each }))))
      (λ start h. h)

  given : (o : Option Data) → IfOk (start_given catalog o) (CanStart catalog)
  given None = tt
  given (Some null) = tt
  given (Some (boolean b)) = one_start (boolean b)
  given (Some (number n)) = one_start (number n)
  given (Some (string s)) = one_start (string s)
  given (Some (array ds)) = one_start (array ds)
  given (Some (object ms)) = one_start (object ms)

  start_read : (value : Data) → IfOk (optional_start catalog value) (CanStart catalog)
  unfolding optional_start
  start_read value = given (get (member_word members.Start) value)

-- ---- the header
header_read : (line : List ℕ) → IfOk (header_of line) (λ h. IsCatalog h.catalog × CanStart h.catalog h.start)
unfolding header_of
header_read line =
    behind_any (object_of line) _ _ (λ value.
    behind_any (version_of value) _ _ (λ version.
    behind_any (text_of members.Style value) _ _ (λ word.
    behind_any (ok_or (named style_word styles word) UnknownStyle) _ _ (λ style.
    behind (catalog_of value) _ IsCatalog _ (catalog_read value) (λ catalog h.
    behind (versioned_start version catalog value) _ (CanStart catalog) _ (in_either_version (CanStart catalog) version catalog value tt (start_read catalog value)) (λ start k. (h, k)))))))

-- If a header is read, it has at most 256 objects, each with a name that no other has.
pub is_catalog : (line : List ℕ) (header : Header) → header_of line ≡ Ok header → IsCatalog header.catalog
is_catalog line header read = (IfOk-at_ok (λ h. IsCatalog h.catalog × CanStart h.catalog h.start) read (header_read line)).0

-- If a header is read and has a start, the start can be stated.
pub can_start : (line : List ℕ) (header : Header) → header_of line ≡ Ok header → CanStart header.catalog header.start
can_start line header read = (IfOk-at_ok (λ h. IsCatalog h.catalog × CanStart h.catalog h.start) read (header_read line)).1
