-- Proof machinery: what the parts of the search return.
use Rattle.std.specs.Prelude.{◌≡◌, ◌==◌, ◌||◌, ℕ, zero, not, Bool, true, List, [], ◌∷◌, ◌++◌}
use Rattle.std.specs.Prelude.{map, take, slice_get, Option, None, Some}
use Rattle.std.specs.List.{list_any}
use Rattle.pp_core.specs.declared.call.Kind.{Kind}
use Rattle.pp_core.specs.declared.call.Style.TheVariants.{Optimistic}
use Rattle.pp_core.specs.declared.entry.CommittedTx.{CommittedTx}
use Rattle.pp_core.specs.declared.entry.Item.{Item}
use Rattle.pp_core.specs.declared.entry.SharedEntry.{SharedEntry}
use Rattle.pp_core.specs.declared.step.Rule.TheVariants as rules
use Rattle.pp_model.specs.Config.{as_shared}
use Rattle.pp_model.specs.Object.{ops}
use Rattle.pp_kind.specs.Object.{IsAllowed, Object, rules_of}
use Rattle.pp_machine.specs.Evidence.{gives_behind}
use Rattle.pp_laws_evidence.specs.Details.{record_details}
use Rattle.pp_laws_summary.specs.Failures.{record_asks}
use Rattle.pp_laws_summary.specs.LocalLogs.{serial_at}
use Rattle.pp_laws_summary.specs.Summary.{Held}
use Rattle.pp_records.specs.Records.{RunRecord}
use Rattle.pp_snapshots.specs.Shown.{Kept, seen_in, shown}
use Rattle.pp_summary.specs.Shown.{items_at}
use Rattle.pp_summary.specs.declared.parts.OpenTx.{OpenTx}
use Rattle.pp_violations.specs.Asks.{Finds}
use Rattle.pp_violations.specs.declared.violation.Violation.{Violation}

-- When an operation of an optimistic run is pushed: at the commit.
abbrev pub at_commit : Option Held
at_commit = Some (record { own = zero; seen = λ p. zero })

-- What the transaction has of a place: the first commits there that it has seen, and then its own
-- operations.
abbrev pub view_items : {Shape State Op Undo : Type 0} → (Op → ℕ) → ℕ →
    Kept Shape State Op Undo → OpenTx (List (Item Op)) → List (Item Op)
view_items place q v x =
    take (seen_in x.seen.entries q) (serial_at place q v.committed) ++ items_at place q x.own

-- the entries of the shared log at a place, which are committed
abbrev pub shared_at : {Op : Type 0} → (Op → ℕ) → ℕ → List (CommittedTx Op) →
    List (SharedEntry Op)
shared_at place q [] = []
shared_at place q (d ∷ D) =
    map (as_shared d.name true) (items_at place q d.entries) ++ shared_at place q D

-- whether the transaction has commits of a place or own operations there
abbrev pub has_of : {Op : Type 0} → (Op → ℕ) → ℕ → OpenTx (List (Item Op)) → Bool
has_of place q x =
    not (seen_in x.seen.entries q == zero) || list_any (λ p. place p.op == q) x.own

module _ {Shape State Op Undo : Type 0} (o : Object Shape State Op Undo) where
  -- These operations are allowed after those before them.
  abbrev pub ArePushed : Shape → List Op → List (Item Op) → Type 0
  ArePushed shape before own = IsAllowed o shape (before ++ ops own)

  -- This is the first PUSH that is not allowed.
  pub record FailsPush (shape : Shape) (before : List Op) (own : List (Item Op))
      (x : Violation Op) : Type 0 where
    pub item : Item Op
    pub there : slice_get own x.offset ≡ Some item
    pub pushed : ArePushed shape before (take x.offset own)
    pub refused : IsAllowed o shape ((before ++ ops (take x.offset own)) ++ item.op ∷ []) → ⊥
    pub rule : x.rule ≡ rules.Push
    pub criterion : x.criterion ≡ 5
    pub detail : x.detail
        ≡ gives_behind o shape item.id (before ++ ops (take x.offset own)) item.op

  -- What a search through PUSHes returns: the first that is not allowed, or none.
  abbrev pub SearchesPushes : Shape → List Op → List (Item Op) → Option (Violation Op) → Type 0
  SearchesPushes shape before own None = ArePushed shape before own
  SearchesPushes shape before own (Some x) = FailsPush shape before own x

  module _ (place : Op → ℕ) where
    -- what a search for the first violated criterion of the steps of a record returns
    abbrev pub SearchesShown : Kept Shape State Op Undo → RunRecord Op → Option (Violation Op) →
        Type 0
    SearchesShown v r x =
        (ks : List Kind) →
        Finds (record_asks Optimistic (rules_of o v.shape) place (shown ks v) r)
        (record_details o v.shape place Optimistic (shown ks v) r) x
