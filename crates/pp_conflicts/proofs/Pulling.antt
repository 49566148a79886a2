-- The PULLs of an operation and of a refresh, as a summary asks for them.
use Rattle.std.proofs.Common.{◌≡◌, ◌+◌, ℕ, suc, List, [], ◌∷◌, ◌++◌, length, map}
use Rattle.std.proofs.Common.{refl, sym, subst, arith}
use Rattle.pp_core.specs.declared.entry.Item.{Item}
use Rattle.pp_model.specs.Config.{SharedEntry, Unpushed}
use Rattle.pp_model.specs.Lists.{In}
use Rattle.pp_model.specs.Names.{Name}
use Rattle.pp_kind.specs.Object.{Object, rules_of}
use Rattle.pp_machine.specs.declared.detail.Detail.{Detail}
use Rattle.pp_laws_evidence.specs.Details.{none_of, pull_details}
use Rattle.pp_laws_summary.specs.Failures.{Asked, pull_asks, safe}
use Rattle.pp_laws_summary.specs.Summary.{OpenSummary, Summary, summary_view}
use Rattle.pp_violations.specs.Asks.{AllTrue, Fails}
use Rattle.pp_violations.specs.Searches.{ArePulled, FailsPull}
use Rattle.pp_violations.specs.Summarised.{marked_entry}
use Rattle.pp_violations.specs.declared.violation.Violation.{Violation}
use Rattle.pp_violations.proofs.Finds.{detail_left, false_left, rule_left}
use Rattle.pp_violations.proofs.Pulls.{pulls_false, pulls_rule, pulls_shown, pulls_true}

module _ {Op : Type 0} where
  -- The first of some steps that fails is the first of them with more steps after them.
  pub fails_left : (qs more : List (Asked Op)) (ds rest : List (List (Detail Op))) (x : Violation Op) → Fails qs ds x → Fails (qs ++ more) (ds ++ rest) x
  fails_left qs more ds rest x k =
      record {
        number = k.number;
        is_false = false_left qs more x.offset k.number k.is_false;
        rule = rule_left qs more x.offset x.rule k.rule;
        criterion = k.criterion;
        detail = detail_left ds rest x.offset k.number x.detail k.detail;
      }

  -- After one step that cannot fail, it has the next number.
  pub fails_after : (qs : List (Asked Op)) (ds : List (List (Detail Op))) (x y : Violation Op) → y ≡ record x { offset = x.offset + 1 } → Fails qs ds x → Fails (safe 1 ++ qs) (none_of 1 ++ ds) y
  fails_after qs ds x y is k = subst (λ (z : Violation Op). Fails (safe 1 ++ qs) (none_of 1 ++ ds) z) (sym is)
      (let e : suc x.offset ≡ x.offset + 1 = omega arith in
      subst (λ (n : ℕ). Fails (safe 1 ++ qs) (none_of 1 ++ ds) (record x { offset = n })) e
      (record { number = k.number; is_false = (refl, k.is_false); rule = k.rule; criterion = k.criterion; detail = k.detail }))

module _ {Shape State Op Undo : Type 0} (o : Object Shape State Op Undo) (place : Op → ℕ) (shape : Shape) (B : Summary Op) (t : Name) (x : OpenSummary Op) (q : ℕ) (own : List (Item Op)) (own_is : x.own ≡ map (marked_entry Unpushed t) own)
    (view : List Op) (view_is : view ≡ summary_view place q B.done x) (M : List (SharedEntry Op)) (M_at : (g : SharedEntry Op) → In g M → place g.op ≡ q) where
  abbrev Pulls : List (Asked Op)
  Pulls = pull_asks (rules_of o shape) place B t x q [] M

  abbrev Shown : List (List (Detail Op))
  Shown = pull_details o shape place B x q [] M

  -- A PULL that fails is the first step that fails.
  pub pulls_fail : (r : Violation Op) → FailsPull o place shape view own M r → Fails (pull_asks (rules_of o shape) place B t x q [] M) (pull_details o shape place B x q [] M) r
  pulls_fail r f =
      let k = subst (λ (w : List Op). FailsPull o place shape w own M r) view_is f in
      record {
        number = k.breaks.number;
        is_false = pulls_false o place shape B t x q own Unpushed own_is [] M r.offset k.breaks.number k.entry M_at k.there k.pulled k.breaks.is_false;
        rule = pulls_rule o place shape B t x q own Unpushed own_is [] M r.offset k.entry r.rule k.rule k.there;
        criterion = k.breaks.criterion;
        detail = (_, pulls_shown o place shape B t x q own Unpushed own_is [] M r.offset k.entry k.there, k.breaks.detail);
      }

  -- If none fails, each criterion is true.
  pub pulls_pass : ArePulled o place shape view own M (length M) → AllTrue (pull_asks (rules_of o shape) place B t x q [] M)
  pulls_pass p = pulls_true o place shape B t x q own Unpushed own_is [] M M_at (subst (λ (w : List Op). ArePulled o place shape w own M (length M)) view_is p)
