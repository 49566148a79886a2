-- A run is on the objects of its header, and each of them has a name.
use Rattle.std.specs.Prelude.{◌≡◌, ◌<◌, ◌⊎◌, ℕ, zero, suc, List, [], ◌∷◌, length, slice_get, Option, None, Some}
use Rattle.std.specs.Map.{keys_of}
use Rattle.std.proofs.Common.{refl, sym, ap, subst, ◌∙◌, arith}
use mathlib.Core.Logic.{inl, inr}
use Rattle.pp_core.specs.Catalogs.{HasDistinctNames, Objects, place_of as place_named}
use Rattle.pp_core.specs.declared.entry.Item.{Item}
use Rattle.pp_model.specs.Lists.{Each, In}
use Rattle.pp_model.proofs.Lists.{each_from, from_map}
use Rattle.pp_records.specs.Expansions.{IsOfStyle}
use Rattle.pp_records.specs.Records.{RunRecord}
use Rattle.pp_records.specs.Records as records
use Rattle.pp_records.specs.Runs.{Lined, Records, bare}
use Rattle.pp_objects.specs.Objects.{place_of}
use Rattle.pp_objects.specs.declared.act.Op.{Op}
use Rattle.pp_input.specs.declared.limits.Limits.{Limits}
use Rattle.pp_format_read.specs.declared.header.Header.{Header}
use Rattle.pp_format_read.specs.declared.start.Start.{Start}
use Rattle.pp_format_write.specs.Statable.{CanStart, IsId, IsOpOn}
use Rattle.pp_format_write.proofs.HeadersRead.{can_start, is_catalog}
use Rattle.pp_format_write.proofs.NamesBack.{found}
use Rattle.pp_format_write.proofs.Operations.{below}
use Rattle.pp_laws_locality.specs.Restricted.{IsOn, StartIsOn}
use Rattle.pp_judge.specs.Inputs.{scan_within}
use Rattle.pp_judge.specs.Objects.{start_of}
use Rattle.pp_laws_runs.proofs.ScannedRecords.{scan_styled}
use Rattle.pp_laws_focus.proofs.PlacedRecords.{HasObject, HasPlace, fits_place, record_placed}
use Rattle.pp_laws_focus.proofs.ScannedLines.{scan_header_read, scan_record_read}

-- the numbers below n
abbrev pub numbers_below : ℕ → List ℕ
numbers_below zero = []
numbers_below (suc n) = n ∷ numbers_below n

same_or_less : (i j : ℕ) → i < suc j → (i ≡ j) ⊎ (i < j)
same_or_less zero zero h = inl refl
same_or_less zero (suc j) h = inr (omega arith)
same_or_less (suc i) zero h = absurd (omega (arith, h))
same_or_less (suc i) (suc j) h = elim (same_or_less i j (omega (arith, h))) [ inl e ↦ inl (ap suc e) | inr k ↦ inr (omega (arith, k)) ]

in_below : (n p : ℕ) → p < n → In p (numbers_below n)
in_below zero p lt = absurd (omega (arith, lt))
in_below (suc n) p lt = elim (same_or_less p n lt) [ inl e ↦ inl e | inr k ↦ inr (in_below n p k) ]

from_below : (n p : ℕ) → In p (numbers_below n) → p < n
from_below zero p i = absurd i
from_below (suc n) p (inl e) = omega (arith, e)
from_below (suc n) p (inr i) = let lt = from_below n p i in omega (arith, lt)

-- the places of a catalog
abbrev pub places_of : Objects → List ℕ
places_of catalog = numbers_below (length catalog)

-- An object of a catalog is at one of its places.
pub placed : (catalog : Objects) (p : ℕ) → HasPlace catalog p → In p (places_of catalog)
placed catalog p h = in_below (length catalog) p (below catalog p h.0 h.1)

-- The object at a place is found by a name.
pub record IsNamed (catalog : Objects) (p : ℕ) : Type 0 where
  pub name : List ℕ
  pub found : place_named name catalog ≡ Some p

entry_there : (catalog : Objects) (p : ℕ) → p < length catalog → (name : List ℕ) × (slice_get (keys_of catalog) p ≡ Some name)
entry_there [] p lt = absurd (omega (arith, lt))
entry_there (e ∷ es) zero lt = (e.0, refl)
entry_there (e ∷ es) (suc p) lt = entry_there es p (omega (arith, lt))

-- If a name has a place in a catalog, an object is there.
pub kind_at : (catalog : Objects) (p : ℕ) (name : List ℕ) → slice_get (keys_of catalog) p ≡ Some name → HasPlace catalog p
kind_at [] p name at = absurd (cc)
kind_at (e ∷ es) zero name at = (e.1, refl)
kind_at (e ∷ es) (suc p) name at = kind_at es p name at

named : (catalog : Objects) → HasDistinctNames catalog → (p : ℕ) → In p (places_of catalog) → IsNamed catalog p
named catalog distinct p i =
    let e = entry_there catalog p (from_below (length catalog) p i) in
    let f = found (keys_of catalog) p e.0 e.1 in
    record { name = e.0; found = f.1.first ∙ ap (λ (q : ℕ). Some q) (distinct e.0 f.0 p f.1.at e.1) }

-- ---- an input

is_on : (catalog : Objects) (r : RunRecord Op) → HasObject catalog r → IsOn place_of (places_of catalog) r
is_on catalog (records.Plain step) h = tt
is_on catalog (records.Op t id op) h = placed catalog op.object h
is_on catalog (records.Commit t) h = tt
is_on catalog (records.Abort t) h = tt
is_on catalog (records.Retry t) h = tt
is_on catalog (records.Refresh t p) h = placed catalog p h
is_on catalog (records.XBegin t) h = tt
is_on catalog (records.XEnd t) h = tt
is_on catalog (records.XAbort t) h = tt
is_on catalog (records.Depend t source) h = tt
is_on catalog (records.Publish t) h = tt
is_on catalog (records.DropSource t source) h = tt

items_on : (catalog : Objects) (items : List (Item Op)) → Each (λ p. IsId p.id × IsOpOn catalog p.op) items → Each (λ p. In (place_of p.op) (places_of catalog)) items
items_on catalog [] h = tt
items_on catalog (p ∷ ps) h = (placed catalog p.op.object (fits_place catalog p.op h.0.1.0), items_on catalog ps h.1)

start_on : (header : Header) → CanStart header.catalog header.start → StartIsOn place_of (places_of header.catalog) (start_of header)
start_on header h = by header.start h
  where
    by : (s : Option Start) → CanStart header.catalog s → StartIsOn place_of (places_of header.catalog) (start_of (record { style = header.style; catalog = header.catalog; start = s }))
    by None k = tt
    by (Some z) k = items_on header.catalog z.ops k.each

module _ (limits : Limits) (bytes : List ℕ) (header : Lined Header) (there : (scan_within limits bytes).header ≡ Some header) where
  abbrev read_records : Records (RunRecord Op)
  read_records = (scan_within limits bytes).records

  -- a property of the records of an input is one of the records without lines
  each_bare : (P : RunRecord Op → Type 0) → ((r : Lined (RunRecord Op)) → In r read_records → P r.what) → Each P (bare read_records)
  each_bare P h = each_from P (bare read_records) (λ x i. let m = from_map (λ (r : Lined (RunRecord Op)). r.what) x read_records i in subst P (sym m.2) (h m.0 m.1))

  -- The records of an input are of its style.
  pub all_styled : Each (IsOfStyle header.what.style) (bare read_records)
  all_styled = each_bare (IsOfStyle header.what.style) (λ r i. scan_styled limits bytes header there r i)

  -- Each is on an object of its header, or on none.
  pub all_placed : Each (HasObject header.what.catalog) (bare read_records)
  all_placed = each_bare (HasObject header.what.catalog) (λ r i. let l = scan_record_read limits bytes header there r i in record_placed header.what l.0 r.what l.1)

  -- They are on the objects of its header.
  pub all_on : Each (IsOn place_of (places_of header.what.catalog)) (bare read_records)
  all_on =
      each_bare (IsOn place_of (places_of header.what.catalog))
      (λ r i. let l = scan_record_read limits bytes header there r i in is_on header.what.catalog r.what (record_placed header.what l.0 r.what l.1))

  -- So is its start.
  pub start_is_on : StartIsOn place_of (places_of header.what.catalog) (start_of header.what)
  start_is_on = let l = scan_header_read limits bytes header there in start_on header.what (can_start l.0 header.what l.1)

  -- The start can be stated.
  pub start_stated : CanStart header.what.catalog header.what.start
  start_stated = let l = scan_header_read limits bytes header there in can_start l.0 header.what l.1

  -- Each of these objects has a name.
  pub all_named : (p : ℕ) → In p (places_of header.what.catalog) → IsNamed header.what.catalog p
  all_named p i = let l = scan_header_read limits bytes header there in named header.what.catalog (is_catalog l.0 header.what l.1).distinct p i
