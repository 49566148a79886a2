-- Proof machinery: a list of operations, replayed one by one.
use Rattle.std.proofs.Common.{◌≡◌, ◌<◌, ◌+◌, List, [], ◌∷◌, ◌++◌, length, refl, sym, ◌∙◌}
use Rattle.std.proofs.Common.{ap, subst, arith}
use Rattle.std.proofs.lemmas.List.{length-append}
use Rattle.pp_kind.specs.declared.range.TheConstants.{MOST_OPERATIONS}
use Rattle.pp_kind.specs.Object.{Object, AllowedFrom, IsAllowed, AllRanged, IsLog, IsLawful}
use Rattle.pp_kind.specs.Object.{state_from, state_after}
use Rattle.pp_kind.proofs.Lists.{log_grows, allowed-first, ranged-first}

-- In the state s, of which a run is known, the rest of a list may follow, and leads to the state t.
pub record IsReplaying {Shape State Op Undo : Type 0} (o : Object Shape State Op Undo)
    (t s : State) (rest : List Op) : Type 0 where
  pub allowed : AllowedFrom o s rest
  pub ranged : AllRanged o rest
  pub leads : state_from o s rest ≡ t
  pub before : List Op
  pub log : IsLog o s before
  pub few : length before + length rest < MOST_OPERATIONS

module _ {Shape State Op Undo : Type 0} (o : Object Shape State Op Undo) where
  -- The first part of an allowed list is allowed.
  pub allowed_front : (s : State) (x y l : List Op) → l ≡ x ++ y → AllowedFrom o s l
      → AllowedFrom o s x
  allowed_front s x y l e h = allowed-first o s x y
      (subst (λ (w : List Op). AllowedFrom o s w) e h)

  -- The first part of a ranged list is ranged.
  pub ranged_front : (x y l : List Op) → l ≡ x ++ y → AllRanged o l → AllRanged o x
  ranged_front x y l e h = ranged-first o x y (subst (λ (w : List Op). AllRanged o w) e h)

module _ {Shape State Op Undo : Type 0} (o : Object Shape State Op Undo) (laws : IsLawful o) where
  -- The replay of an allowed list begins at the empty state, with the whole list left.
  pub begins : (sh : Shape) (l : List Op) (s : State) → s ≡ o.start sh → IsAllowed o sh l
      → AllRanged o l → length l < MOST_OPERATIONS → IsReplaying o (state_after o sh l) s l
  begins sh l s e h r few = record {
    allowed = subst (λ (u : State). AllowedFrom o u l) (sym e) h;
    ranged = r;
    leads = ap (λ (u : State). state_from o u l) e;
    before = [];
    log = record {
      allowed = tt;
      is = e ∙ ap o.start (sym (ap o.shape e ∙ laws.start_shape sh));
      ranged = tt;
    };
    few = omega (arith, few);
  }

  -- A replay goes on: after the next operation, the rest is left in the state after it.
  pub goes_on : (t s u : State) (x : Op) (rest : List Op) → IsReplaying o t s (x ∷ rest)
      → u ≡ o.next s x → IsReplaying o t u rest
  goes_on t s u x rest k q =
      let legal = k.allowed.0 in
      subst (λ (v : State). IsReplaying o t v rest) (sym q) (record {
        allowed = k.allowed.1;
        ranged = k.ranged.1;
        leads = k.leads;
        before = k.before ++ x ∷ [];
        log = log_grows o s k.before x k.log legal k.ranged.0 (laws.next_shape s x legal);
        few = omega (arith, k.few, length-append k.before (x ∷ []));
      })

  -- so do several at once
  pub goes_on_by : (t s u : State) (x rest : List Op) → IsReplaying o t s (x ++ rest)
      → u ≡ state_from o s x → IsReplaying o t u rest
  goes_on_by t s u [] rest k q = subst (λ (v : State). IsReplaying o t v rest) (sym q) k
  goes_on_by t s u (a ∷ x) rest k q =
      goes_on_by t (o.next s a) u x rest (goes_on t s (o.next s a) a (x ++ rest) k refl) q
