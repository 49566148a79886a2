-- A run without bodies has the same verdict when its operations are mapped to operations
-- that are allowed alike.
use Rattle.std.specs.Prelude.{◌≡◌, ◌↔◌, ◌==◌, ℕ, List, map, Option, slice_get}
use Rattle.pp_core.specs.declared.call.Kind.{Kind}
use Rattle.pp_core.specs.declared.call.Style.{Style}
use Rattle.pp_model.specs.Config.{Start}
use Rattle.pp_model.specs.Lists.{Each}
use Rattle.pp_model.specs.Object.{Allowed, Object, Swaps}
use Rattle.pp_model.specs.Rules.{IsVerdict, Verdict}
use Rattle.pp_records.specs.Fronts.{is_memory}
use Rattle.pp_records.specs.Records.{RunRecord}
use Rattle.pp_records.specs.Runs.{LinedSteps, Records, bare, joined_steps, outset}
use Rattle.pp_records.specs.Styles.{translation}
use Rattle.pp_laws_mapped.specs.Mapped.{HasNoBody, mapped_records, mapped_start, mapped_steps}

-- The operations are allowed alike, and the same pairs swap.
pub record MapsObjects {A B S T : Type 0} (O : Object A S) (Q : Object B T) (f : A → B) :
    Type 0 where
  pub only : (a b : A) → f a ≡ f b → a ≡ b
  pub allowed : (l : List A) → Allowed O l ↔ Allowed Q (map f l)
  pub swaps : (a b : A) → Swaps O a b ↔ Swaps Q (f a) (f b)

-- The object of an operation is numbered anew, no other object gets its number, and it is a memory
-- exactly if it was one.
pub record MapsPlaces {A B : Type 0} (f : A → B) (n : ℕ → ℕ) (place : A → ℕ) (at : B → ℕ)
    (ks hs : List Kind) : Type 0 where
  pub anew : (a : A) → at (f a) ≡ n (place a)
  pub same : (a : A) (p : ℕ) → (at (f a) == n p) ≡ (place a == p)
  pub memory : (a : A) →
      is_memory (slice_get hs (at (f a))) ≡ is_memory (slice_get ks (place a))

-- the steps of the records after this start
abbrev pub steps_from : {Op : Type 0} → (Op → ℕ) → Style → List Kind → Option (Start Op) →
    Records (RunRecord Op) → LinedSteps Op
steps_from place style ks h rs =
    joined_steps (translation place style ks) (outset (translation place style ks) h) rs

-- A run and the mapped run have the same steps on the same lines, and the same verdict.
pub record IsAlike {A B S T : Type 0} (O : Object A S) (Q : Object B T) (f : A → B) (n : ℕ → ℕ)
    (place : A → ℕ) (at : B → ℕ) (style : Style) (ks hs : List Kind) (h : Option (Start A))
    (rs : Records (RunRecord A)) : Type 0 where
  pub steps : steps_from at style hs (mapped_start f h) (mapped_records f n rs)
      ≡ mapped_steps f (steps_from place style ks h rs)
  pub verdict : (v : Verdict) →
      IsVerdict O h (bare (steps_from place style ks h rs)) v
      ↔ IsVerdict Q (mapped_start f h)
      (bare (steps_from at style hs (mapped_start f h) (mapped_records f n rs))) v

-- The law of mapped runs.
abbrev pub MappedLaw : {A B S T : Type 0} → Object A S → Object B T → Type 0
MappedLaw {A} {B} O Q =
    (f : A → B) (n : ℕ → ℕ) (place : A → ℕ) (at : B → ℕ) (style : Style) (ks hs : List Kind) →
    MapsObjects O Q f → MapsPlaces f n place at ks hs → (h : Option (Start A))
    (rs : Records (RunRecord A)) → Each HasNoBody (bare rs) →
    IsAlike O Q f n place at style ks hs h rs
