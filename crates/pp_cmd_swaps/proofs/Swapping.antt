-- Proof machinery: an input has one output.
use Rattle.std.proofs.Common.{◌≡◌, ℕ, List, sym, subst, ◌∙◌, arith, inl, inr}
use Rattle.pp_core.specs.Catalogs.{Objects}
use Rattle.pp_core.specs.declared.status.Status.{Status}
use Rattle.pp_core.specs.declared.status.Status.TheVariants as statuses
use Rattle.pp_records.specs.Runs.{bare}
use Rattle.pp_model.specs.Config.{Config, after}
use Rattle.pp_objects.specs.declared.act.Op.{Op}
use Rattle.pp_judge.specs.Inputs.{scan}
use Rattle.pp_judge.specs.Objects.{start_of}
use Rattle.pp_judge.specs.Scans.{InputScan}
use Rattle.pp_judge.proofs.Concluding.{one_certified, only_run}
use Rattle.pp_cmd_swaps.specs.Swaps.{IsSwaps, IsSwapsOf, IsTold, config_of}

one_told : (catalog : Objects) (c : Config Op) (s s' : Status) (t t' : List ℕ) → IsTold catalog c s t → IsTold catalog c s' t' → (s ≡ s') × (t ≡ t')
one_told catalog c s s' t t' (inl a) (inl b) = (a.1 ∙ sym b.1, a.2 ∙ sym b.2)
one_told catalog c s s' t t' (inl a) (inr b) = absurd (omega (arith, a.0, b.0))
one_told catalog c s s' t t' (inr a) (inl b) = absurd (omega (arith, a.0, b.0))
one_told catalog c s s' t t' (inr a) (inr b) = (a.1 ∙ sym b.1, a.2 ∙ sym b.2)

one_of : (sc : InputScan) (how : Status) (r q : List ℕ) (s s' : Status) (t t' : List ℕ) → r ≡ q → IsSwapsOf sc how r s t → IsSwapsOf sc how q s' t' → (s ≡ s') × (t ≡ t')
one_of sc statuses.Accepted r q s s' t t' same a b =
    one_told b.0.header.what.catalog (config_of b.0) s s' t t' (only_run sc a.0 b.0 (λ head run. IsTold head.what.catalog (after (start_of head.what) (bare run)) s t) a.1) b.1
one_of sc statuses.Rejected r q s s' t t' same a b = (a.0 ∙ sym b.0, a.1 ∙ same ∙ sym b.1)
one_of sc statuses.InputFault r q s s' t t' same a b = (a.0 ∙ sym b.0, a.1 ∙ same ∙ sym b.1)
one_of sc statuses.BadWords r q s s' t t' same a b = absurd a
one_of sc statuses.ReadFault r q s s' t t' same a b = absurd a
one_of sc statuses.WriteFault r q s s' t t' same a b = absurd a
one_of sc statuses.OutOfMemory r q s s' t t' same a b = absurd a
one_of sc statuses.TooLarge r q s s' t t' same a b = absurd a

-- An input has one status and one text at most.
pub one_swaps : (bytes : List ℕ) (s s' : Status) (t t' : List ℕ) → IsSwaps bytes s t → IsSwaps bytes s' t' → (s ≡ s') × (t ≡ t')
one_swaps bytes s s' t t' a b =
    let one = one_certified bytes a.0 b.0 a.1 b.1 a.2 b.2 in
    one_of (scan bytes) b.0 a.1 b.1 s s' t t' one.1 (subst (λ (w : Status). IsSwapsOf (scan bytes) w a.1 s t) one.0 a.3) b.3
