-- Proof machinery: a gate of a kind's operations is one of acts, since those of other kinds swap.
use Rattle.std.proofs.Common.{◌≡◌, ℕ, Bool, true, false, IsTrue, refl, sym, subst}
use Rattle.pp_core.specs.declared.call.Kind.{Kind}
use Rattle.pp_kind.specs.Object.{Swaps}
use Rattle.pp_kind.specs.declared.gate.Gate.{Gate}
use Rattle.pp_kind.specs.Gates.{passes}
use Rattle.pp_kind.specs.Parts.{IsGate}
use Rattle.pp_objects.specs.declared.act.Act.{Act}
use Rattle.pp_objects.specs.One.{one}
use Rattle.pp_objects.specs.Parts.{act_label}
use Rattle.pp_objects.specs.laws.Kinds.{Ops, act_of, each_act, object_of, only_kind}
use Rattle.pp_objects.specs.laws.Acts.{swaps_in}
use Rattle.pp_objects.specs.laws.One.{reached_shape, others_swap}

module _ (form : ℕ) (gate : Gate) (k : Kind) (b : Ops k) where
  -- if it is of the form and its number passes, it swaps
  abbrev Swaps_by : Act → Type 0
  Swaps_by a = (act_label a).form ≡ form → IsTrue (passes gate (act_label a).number)
      → Swaps one a (act_of k b)

  of_kind : IsGate (object_of k) (λ a. act_label (act_of k a)) form b gate → (q : Kind) (a : Ops q)
      (t : Bool) → one.fits q (act_of k b) ≡ t → Swaps_by (act_of q a)
  of_kind lets q a true e =
      subst (λ (r : Kind). (c : Ops r) → Swaps_by (act_of r c)) (sym (only_kind k q b e))
      (λ c here passed. swaps_in k reached_shape c b (lets c here passed)) a
  of_kind lets q a false e = λ here passed. others_swap q a (act_of k b) e

  -- the act x is the operation b
  pub gate_in : (x : Act) → x ≡ act_of k b
      → IsGate (object_of k) (λ a. act_label (act_of k a)) form b gate
      → IsGate one act_label form x gate
  gate_in x is lets a here passed =
      subst (λ (y : Act). Swaps one a y) (sym is)
      (each_act Swaps_by (λ q c. of_kind lets q c (one.fits q (act_of k b)) refl) a here passed)
