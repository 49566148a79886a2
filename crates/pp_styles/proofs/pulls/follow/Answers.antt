use Rattle.std.proofs.Common.{◌≡◌, ◌<◌, ◌≤◌, ◌+◌, ◌++◌, Some, suc, length, refl, sym, ap, subst, ◌∙◌, arith}
use Rattle.std.specs.List.{slice_get}
use Rattle.std.specs.Option.{option_copied}
use Rattle.std.proofs.lemmas.List.{take_all}
use Rattle.std.proofs.lemmas.Option.{slice_get_read, slice_get_within}
use Rattle.pp_records.specs.Expansions.{follow}
use Rattle.pp_styles.specs.Meanings.{meanings}
use Rattle.pp_styles.specs.Sources.{kept_sources}
use Rattle.pp_styles.proofs.Growing.{grown}
use Rattle.pp_styles.proofs.Pulling.{follow_next, follow_rest}
use Rattle.pp_styles.proofs.pulls.follow.Goals as goal

pub bounds-entries-at : goal.bounds-entries-at
bounds-entries-at g c =
    let is : c.entries-entries.result.now ≡ c.args.shared.now.1 = c.entries-entries.ensures in
    let found = c.in-Some.ensures.found in
    let within = slice_get_within c.args.shared.now.1 c.in-Some.at found.entry found.is in
    subst (λ w. c.in-Some.at < length w) (sym is) within

pub pulls-preserved : goal.pulls-preserved
pulls-preserved g c =
    let G = c.args.shared.now.1 in
    let at = c.in-Some.at in
    let entry = c.index-entries-at.result in
    let is : c.entries-entries.result.now ≡ G = c.entries-entries.ensures in
    let found = c.in-Some.ensures.found in
    let within = slice_get_within G at found.entry found.is in
    let below : at < length c.entries-entries.result.now = subst (λ w. at < length w) (sym is) within in
    let here : slice_get G at ≡ Some entry =
    subst (λ w. slice_get w at ≡ Some entry) is (slice_get_read c.entries-entries.result.now (length c.entries-entries.result.now) at entry refl below c.index-entries-at.is) in
    let next : at + 1 ≡ suc at = omega arith in (
      omega (arith, below),
      grown _ _ _ c.in_ok-pull_followed.ensures c.pulls.invariant.1
          (follow_next g.S.Placed.place_of c.args.tx.now c.args.object G c.args.local.now.1 at (at + 1) next c.pulls.from entry here (kept_sources (option_copied c.args.sources)) found),
    )

pub returns-in_default : goal.returns-in_default
returns-in_default g c =
    let G = c.args.shared.now.1 in
    let within : c.pulls.from ≤ length G = subst (λ w. c.pulls.from ≤ length w) c.entries-entries.ensures c.pulls.invariant.0 in
    c.pulls.invariant.1
    ∙ ap (λ w. meanings c.args.list.now ++ w) (follow_rest g.S.Placed.place_of c.args.tx.now c.args.object G c.args.local.now.1 c.pulls.from within (kept_sources (option_copied c.args.sources)) c.in_default.ensures.none)

pub returns : goal.returns
returns g c =
    let G = c.args.shared.now.1 in
    let behind : length c.entries-entries.result.now ≤ c.pulls.from = omega arith in
    let past : length G ≤ c.pulls.from = subst (λ w. length w ≤ c.pulls.from) c.entries-entries.ensures behind in
    c.pulls.invariant.1
    ∙ ap (λ w. meanings c.args.list.now ++ follow g.S.Placed.place_of c.args.tx.now c.args.object (kept_sources (option_copied c.args.sources)) w c.args.local.now.1) (take_all c.pulls.from G past)
