-- Proof machinery: how many of some entries have which number, by their owners and forms.
use Rattle.std.specs.Prelude.{◌≡◌, ◌+◌, ◌-◌, ◌<◌, ℕ, ℤ, Bool, true, cond, nat_eq, ◌&&◌, List, []}
use Rattle.std.specs.Prelude.{◌∷◌, Option, None, Some, filter, length}
use Rattle.std.specs.Map.{count_at, lookup}
use Rattle.std.specs.Option.{option_eq}
use Rattle.std.specs.Ordering.{int_eq}
use Rattle.std.specs.Str.{bytes_eq}
use Rattle.pp_core.specs.declared.entry.SharedEntry.{SharedEntry}
use Rattle.pp_model.specs.Names.{Name}
use Rattle.pp_kind.specs.declared.label.Label.{Label}
use Rattle.pp_kind.specs.Object.{Object, Swaps}
use Rattle.pp_log_shared.specs.declared.numbers.Holder.{Holder}

-- The counts of some entries: how many have each number, and how many there are.
pub record Counted : Type 0 where
  pub numbers : List (ℤ × ℕ)
  pub size : ℕ

-- no counts
abbrev pub none_counted : Counted
none_counted = record { numbers = []; size = 0 }

-- the counts, or none
abbrev pub counted_of : Option Counted → Counted
counted_of None = none_counted
counted_of (Some counted) = counted

-- how many have a number, or how many there are if no number is required
abbrev pub amount : Option ℤ → Counted → ℕ
amount None counted = counted.size
amount (Some n) counted = count_at (λ m. lookup (int_eq m) counted.numbers) n

-- it is the number, if one is required
abbrev pub is_number : Option ℤ → ℤ → Bool
is_number None m = true
is_number (Some n) m = int_eq m n

-- one if it is so, and else none
abbrev pub one_if : Bool → ℕ
one_if b = cond b 1 0

-- owners and forms, each with what is counted
abbrev pub TallyList : Type 0
TallyList = List (Holder × Counted)

-- the owners and the forms are the same
abbrev pub same_holder : Holder → Holder → Bool
same_holder h k = option_eq bytes_eq h.owner k.owner && nat_eq h.form k.form

-- the owner, with the form of the label
abbrev pub holder_at : Option Name → Label → Holder
holder_at owner label = record { owner = owner; form = label.form }

-- how many are counted of an owner and a form
abbrev pub held : TallyList → Holder → Option ℤ → ℕ
held tallies h q = amount q (counted_of (lookup (same_holder h) tallies))

-- one more is counted of this owner, form and number
abbrev pub Gains : TallyList → TallyList → Option Name → Label → Type 0
Gains old new owner label = (h : Holder) (q : Option ℤ) → held new h q ≡ held old h q
    + one_if (same_holder (holder_at owner label) h && is_number q label.number)

-- one less is counted of this owner, form and number
abbrev pub Loses : TallyList → TallyList → Option Name → Label → Type 0
Loses old new owner label = (h : Holder) (q : Option ℤ) → held new h q ≡ held old h q
    - one_if (same_holder (holder_at owner label) h && is_number q label.number)

module _ {Op : Type 0} (view : Name → Option Name) (label_of : Op → Label) where
  -- the entry is of an owner and a form, and has a number, if its owner is seen
  abbrev pub is_held_at : Holder → Option ℤ → SharedEntry Op → Bool
  is_held_at h q e = same_holder (holder_at (view e.owner) (label_of e.op)) h
      && is_number q (label_of e.op).number

  -- how many of the entries are and have
  abbrev pub times : Holder → Option ℤ → List (SharedEntry Op) → ℕ
  times h q x = length (filter (is_held_at h q) x)

  -- All are counted, and no others.
  pub record Counts (tallies : TallyList) (x : List (SharedEntry Op)) : Type 0 where
    pub counts : (h : Holder) (q : Option ℤ) → held tallies h q ≡ times h q x

-- The counts of all entries together, and of each owner.
pub record NumberList : Type 0 where
  pub all : TallyList
  pub own : TallyList

-- all owners are seen as one
abbrev pub as_one : Name → Option Name
as_one owner = None

module _ {Op : Type 0} (label_of : Op → Label) where
  -- The entries are counted together, and by their owners.
  pub record CountsAll (numbers : NumberList) (x : List (SharedEntry Op)) : Type 0 where
    pub all : Counts as_one label_of numbers.all x
    pub own : Counts Some label_of numbers.own x

  -- The same, if numbers are kept.
  abbrev pub CountsAllOf : Option NumberList → List (SharedEntry Op) → Type 0
  CountsAllOf None x = Unit {0}
  CountsAllOf (Some numbers) x = CountsAll numbers x

  -- this entry is counted once more
  abbrev pub GainsEntry : NumberList → NumberList → SharedEntry Op → Type 0
  GainsEntry old new e = Gains old.all new.all None (label_of e.op)
      × Gains old.own new.own (Some e.owner) (label_of e.op)

  -- this entry is counted once less
  abbrev pub LosesEntry : NumberList → NumberList → SharedEntry Op → Type 0
  LosesEntry old new e = Loses old.all new.all None (label_of e.op)
      × Loses old.own new.own (Some e.owner) (label_of e.op)

-- the form of an owner
abbrev pub holder_of : Name → ℕ → Holder
holder_of owner form = record { owner = Some owner; form = form }

-- More are counted than the own ones of an owner and a form, also at this number.
pub record HasOthers (own : TallyList) (owner : Name) (form : ℕ) (counted : Counted) (n : ℤ)
    : Type 0 where
  pub size : held own (holder_of owner form) None < counted.size
  pub number : held own (holder_of owner form) (Some n) < amount (Some n) counted

module _ {Shape State Op Undo : Type 0} (o : Object Shape State Op Undo) (label_of : Op → Label)
    (owner : Name) (b : Op) (own : TallyList) where
  -- Each operation of this form with a number that others than the owner have swaps with b after
  -- it.
  abbrev pub FormSwaps : Holder × Counted → Type 0
  FormSwaps e = (a : Op) → (label_of a).form ≡ e.0.form →
      HasOthers own owner e.0.form e.1 (label_of a).number → Swaps o a b

  -- So it is of each form.
  abbrev pub AllFormsSwap : TallyList → Type 0
  AllFormsSwap [] = Unit {0}
  AllFormsSwap (e ∷ all) = FormSwaps e × AllFormsSwap all
