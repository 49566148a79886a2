-- Proof machinery: a refresh record, by what is kept.
use Rattle.std.specs.Prelude.{◌≡◌, ◌⊎◌, ◌+◌, ◌<◌, ◌^◌, ℕ, cond, nat_eq, Bool, true, false, List}
use Rattle.std.specs.Prelude.{◌++◌, drop, length, take, Some}
use Rattle.std.specs.Map.{lookup, set_value}
use Rattle.pp_core.specs.declared.entry.Item.{Item}
use Rattle.pp_kind.specs.Object.{IsAllowed, Object, Swaps, SwapsNowhere}
use Rattle.pp_model.specs.Lists.{In}
use Rattle.pp_model.specs.Names.{Name, ◌=ⁿ◌}
use Rattle.pp_model.specs.Object.{ops}
use Rattle.pp_laws_summary.specs.Places.{ops_at}
use Rattle.pp_summary.specs.Shown.{open_in}
use Rattle.pp_summary.specs.declared.parts.OpenTx.{OpenTx}
use Rattle.pp_snapshots.specs.declared.past.Past.{Past}
use Rattle.pp_snapshots.specs.Past.{IsPast, made_at}
use Rattle.pp_snapshots.specs.Shown.{Kept, seen_in}

module _ {Shape State Op Undo : Type 0} (o : Object Shape State Op Undo) where
  -- Each of the operations swaps with b.
  abbrev pub SwapsAll : List Op → Op → Type 0
  SwapsAll own b = (a : Op) → In a own → Swaps o a b

  -- One of them does not, in each shape that both fit.
  abbrev pub StaysOf : List Op → Op → Type 0
  StaysOf own b = (a : Op) × In a own × SwapsNowhere o a b

  -- Each of them lets each of the later ones pass.
  abbrev pub AllSwap : List Op → List Op → Type 0
  AllSwap own later = (b : Op) → In b later → SwapsAll own b

  -- One of them does not let one of the later ones pass.
  abbrev pub OneStays : List Op → List Op → Type 0
  OneStays own later = (b : Op) × In b later × StaysOf own b

  module _ (place : Op → ℕ) where
    -- What is returned: whether these own operations, which come after the first n at a place, swap
    -- with the later ones there, and all of these are allowed after them.
    abbrev pub LaterTold : Shape → (ℕ → List Op) → ℕ → ℕ → List Op → Bool → Type 0
    LaterTold shape h p n own true =
        AllSwap own (drop n (h p)) × IsAllowed o shape (take n (h p) ++ (own ++ drop n (h p)))
    LaterTold shape h p n own false =
        OneStays own (drop n (h p)) ⊎
        (IsAllowed o shape (take n (h p) ++ (own ++ drop n (h p))) → ⊥)

    -- It returns that, and all that was applied still is.
    abbrev pub TellsLater : Past State Op Undo → ℕ → ℕ → List Op → Bool → Past State Op Undo →
        Type 0
    TellsLater v p n own answer w =
        (shape : Shape) (h : ℕ → List Op) → IsPast o place shape v h →
        LaterTold shape h p n own answer × IsPast o place shape w h

    -- what the transaction has missed of a place
    abbrev pub later_at : (ℕ → List Op) → ℕ → OpenTx (List (Item Op)) → List Op
    later_at h p x = drop (seen_in x.seen.entries p) (h p)

    -- It may take a new snapshot of the place.
    pub record MayRefresh (shape : Shape) (h : ℕ → List Op) (p : ℕ)
        (x : OpenTx (List (Item Op))) : Type 0 where
      pub swaps : AllSwap (ops_at place p (ops x.own)) (later_at h p x)
      pub allowed : IsAllowed o shape
          (take (seen_in x.seen.entries p) (h p) ++ (ops_at place p (ops x.own) ++ later_at h p x))

    -- It may not: an own operation stays, or not all are allowed.
    pub record MayNot (shape : Shape) (h : ℕ → List Op) (p : ℕ) (x : OpenTx (List (Item Op))) :
        Type 0 where
      pub never : OneStays (ops_at place p (ops x.own)) (later_at h p x) ⊎
          (IsAllowed o shape
          (take (seen_in x.seen.entries p) (h p) ++ (ops_at place p (ops x.own) ++ later_at h p x))
          → ⊥)

    -- What is returned: whether it may take a new snapshot of the place.
    abbrev pub RefreshTold : Shape → (ℕ → List Op) → ℕ → OpenTx (List (Item Op)) → Bool → Type 0
    RefreshTold shape h p x true = MayRefresh shape h p x
    RefreshTold shape h p x false = MayNot shape h p x

    -- It returns that, and all that was applied still is.
    abbrev pub TellsRefresh : Past State Op Undo → ℕ → OpenTx (List (Item Op)) → Bool →
        Past State Op Undo → Type 0
    TellsRefresh v p x answer w =
        (shape : Shape) (h : ℕ → List Op) → IsPast o place shape v h →
        RefreshTold shape h p x answer × IsPast o place shape w h

module _ {Shape State Op Undo : Type 0} where
  -- the transaction is open
  pub record MaySee (v : Kept Shape State Op Undo) (t : Name) : Type 0 where
    pub it : OpenTx (List (Item Op))
    pub found : open_in t v.slots.entries ≡ Some it
    pub few : v.count < 2 ^ 32

  -- what it is that it has seen all commits at the place
  pub record SeesAll (v : Kept Shape State Op Undo) (t : Name) (p : ℕ)
      (w : Kept Shape State Op Undo) : Type 0 where
    pub it : OpenTx (List (Item Op))
    pub found : open_in t v.slots.entries ≡ Some it
    pub after : OpenTx (List (Item Op))
    pub thread : after.thread ≡ it.thread
    pub walk : after.walk ≡ it.walk
    pub own : after.own ≡ it.own
    pub seen : (q : ℕ) → lookup (nat_eq q) after.seen.entries
        ≡ cond (nat_eq p q) (Some (length (made_at p v.past.places.items)))
        (lookup (nat_eq q) it.seen.entries)
    pub slots : w.slots.entries ≡ set_value (λ m. t =ⁿ m) v.slots.entries (Some after)
    pub threads : w.threads.keys ≡ v.threads.keys
    pub ids : w.ids ≡ v.ids
    pub shape : w.shape ≡ v.shape
    pub past : w.past ≡ v.past
    pub by_part : w.by_part ≡ v.by_part
    pub committed : w.committed ≡ v.committed
    pub count : w.count ≡ v.count + 1
