use Rattle.std.proofs.Common.{◌∙◌, sym, IsSome, Some, None, w64, rules, to_z, of_z, FitsSigned}
use Rattle.std.proofs.Common.{refl, subst, ap, arith}
use Rattle.std.proofs.lemmas.Int.{to_z-of_z}
use Rattle.std.proofs.lemmas.Grind.{common_steps}
use Rattle.pp_kind_keyed.proofs.Entries.{got_seen, inserted_seen, kept_seen, is_other, is_asked}
use Rattle.pp_kind_keyed.proofs.cells.Cells.replace.Goals as goal

pub returns-then-ne-clause-found : goal.returns-then-ne-clause-found
returns-then-ne-clause-found c =
    let fits : FitsSigned w64 c.args.key = search rules in
    let number_fits : FitsSigned w64 c.in-Some.present.now = search rules in
    let stands = got_seen c.self.inside.entries.entries c.args.self.now c.args.key
    (to_z w64 (of_z w64 c.args.key)) (Some c.in-Some.present.now) c.self.view_is
    (to_z-of_z w64 c.args.key fits) c.in-Some.ensures.value in (
      λ e. cc,
      λ h. absurd (is_other c.args.was _ c.if-ne.ensures
          (sym h ∙ sym stands ∙ ap (λ n. Some n) (sym (to_z-of_z w64 c.in-Some.present.now number_fits)))),
    )

pub returns-then-ne-clause-no : goal.returns-then-ne-clause-no
returns-then-ne-clause-no c = λ e. kept_seen c.self.inside.entries.entries _ c.args.self.now
    (to_z w64 (of_z w64 c.args.key)) c.in-Some.present.now c.self.view_is c.in-Some.ensures.value
    (c.get_mut.follows.holds c.in-Some.present.now).0

pub returns-in-Some-clause-found : goal.returns-in-Some-clause-found
returns-in-Some-clause-found c =
    let fits : FitsSigned w64 c.args.key = search rules in
    let number_fits : FitsSigned w64 c.in-Some.present.now = search rules in
    let stands = got_seen c.self.inside.entries.entries c.args.self.now c.args.key
    (to_z w64 (of_z w64 c.args.key)) (Some c.in-Some.present.now) c.self.view_is
    (to_z-of_z w64 c.args.key fits) c.in-Some.ensures.value in (
      λ e. sym (is_asked c.args.was _ c.if-ne.ensures
          ∙ ap (λ n. Some n) (to_z-of_z w64 c.in-Some.present.now number_fits) ∙ stands),
      λ h. refl,
    )

pub returns-in-Some-clause-yes : goal.returns-in-Some-clause-yes
returns-in-Some-clause-yes c = λ e.
    let fits : FitsSigned w64 c.args.key = search rules in
    let number_fits : FitsSigned w64 c.args.number = search rules in
    let number = to_z w64 (of_z w64 c.args.number) in
    let written = (c.get_mut.follows.holds number).3
    (subst (λ s. IsSome s) c.in-Some.ensures.value refl) in
    inserted_seen c.self.inside.entries.entries _ c.args.self.now c.args.key
    (to_z w64 (of_z w64 c.args.key)) c.args.number number c.self.view_is
    (to_z-of_z w64 c.args.key fits) (to_z-of_z w64 c.args.number number_fits) written.0

pub returns-then-is_some-clause-found : goal.returns-then-is_some-clause-found
returns-then-is_some-clause-found c =
    let fits : FitsSigned w64 c.args.key = search rules in
    let stands = got_seen c.self.inside.entries.entries c.args.self.now c.args.key
    (to_z w64 (of_z w64 c.args.key)) None c.self.view_is
    (to_z-of_z w64 c.args.key fits) c.in_default.ensures.value in
    grind (arith, common_steps)

pub returns-clause-found : goal.returns-clause-found
returns-clause-found c =
    let fits : FitsSigned w64 c.args.key = search rules in
    let stands = got_seen c.self.inside.entries.entries c.args.self.now c.args.key
    (to_z w64 (of_z w64 c.args.key)) None c.self.view_is
    (to_z-of_z w64 c.args.key fits) c.in_default.ensures.value in
    grind (arith, common_steps)
