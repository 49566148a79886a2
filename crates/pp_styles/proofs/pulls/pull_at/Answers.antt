use Rattle.std.proofs.Common.{◌≡◌, ◌≢◌, ◌≤◌, ◌<◌, ◌+◌, ◌++◌, ◌∙◌, ap, append-nil, arith, get_or, length, refl, subst, sym, take}
use Rattle.std.specs.List.{slice_get}
use Rattle.std.specs.Option.{option_copied}
use Rattle.std.proofs.lemmas.List.{get_or_default}
use Rattle.std.proofs.lemmas.Option.{slice_get_within}
use Rattle.pp_records.specs.Expansions.{follow}
use Rattle.pp_log_shared.proofs.Nexts.{read}
use Rattle.pp_styles.specs.Meanings.{meanings}
use Rattle.pp_styles.specs.Sources.{kept_sources}
use Rattle.pp_styles.proofs.Growing.{grown}
use Rattle.pp_styles.proofs.Taking.{Left, all_left, all_taken, passed, pulls_here, taken_here}
use Rattle.pp_styles.proofs.pulls.pull_at.Goals as goal
use Rattle.pp_styles.proofs.pulls.pull_at.Goals.{then-position-from+then-position-entries+in_ok-pull_on, else-position-from, else-position-from-via-then-position-from+else-position-entries, else-position-from-via-else-position-from}

pub loop-position-init : goal.loop-position-init
loop-position-init g c = (
  all_left g.S.Placed.place_of c.args.tx.now c.args.object (kept_sources (option_copied c.args.sources)) c.args.shared.now.1 c.args.local.now.1 c.args.at.now c.requires.all,
  sym (append-nil (meanings c.args.list.now)),
)

pub loop-position-preserved : goal.loop-position-preserved
loop-position-preserved g c =
    let P = g.S.Placed.place_of in
    let t = c.args.tx.now in
    let o = c.args.object in
    let us = kept_sources (option_copied c.args.sources) in
    let G = c.args.shared.now.1 in
    let l = c.args.local.now.1 in
    let at = c.args.at.now in
    let i = c.loop-position.position-index in
    let from = c.loop-position.from in
    let p = get_or at i 0 in
    let below = c.loop-position-test.true in
    let is_p : p ≡ get_or at i p = get_or_default at i 0 p below in
    let size_is : c.entries-entries.result.now ≡ G = c.entries-entries.ensures in
    let left = c.loop-position.invariant.0 in
    let said = c.loop-position.invariant.1 in
    elim c.if-position-from.branch [
      | then-position-from+then-position-entries+in_ok-pull_on w ↦
          let above = w.if-position-from.true in
          let size = subst (λ z. p < length z) size_is w.if-position-entries.true in
          let here = read c.entries-entries.result.now G p w.index-entries-position.result size_is size w.index-entries-position.is in (
            subst (λ n. Left P t o us G l at (i + 1) n) (sym w.from-is) (taken_here P t o us G l at i from (i + 1) refl below left p is_p size above),
            subst (λ n. meanings c.if-position-from.list ≡ meanings c.args.list.now ++ follow P t o us (take n G) l) (sym w.from-is)
                (grown _ _ _ (ap (λ z. meanings z) w.list-is ∙ w.in_ok-pull_on.ensures) said (pulls_here P t o us G l at i from (i + 1) refl below left p is_p c.requires.sorted above w.index-entries-position.result here)),
          )
      | else-position-from w ↦
          let other : (k : _) (e : _) → from ≤ k → slice_get G k ≡ _ → k ≢ p = elim w.else-position-from.branch [
            | else-position-from-via-then-position-from+else-position-entries u ↦ λ k e high there same.
                let size = subst (λ z. length z ≤ p) size_is (omega (arith, u.if-position-entries.false)) in
                let within = slice_get_within G k e there in
                omega arith
            | else-position-from-via-else-position-from u ↦ λ k e high there same. let less = u.if-position-from.false in omega arith
          ] in (
            subst (λ n. Left P t o us G l at (i + 1) n) (sym w.from-is) (passed P t o us G l at i from (i + 1) refl below left p is_p other),
            subst (λ n. meanings c.if-position-from.list ≡ meanings c.args.list.now ++ follow P t o us (take n G) l) (sym w.from-is) (ap (λ z. meanings z) w.list-is ∙ said),
          )
    ]

pub returns : goal.returns
returns g c =
    c.loop-position.invariant.1
    ∙ ap (λ w. meanings c.args.list.now ++ w)
    (all_taken g.S.Placed.place_of c.args.tx.now c.args.object (kept_sources (option_copied c.args.sources)) c.args.shared.now.1 c.args.local.now.1 c.args.at.now c.loop-position.position-index c.loop-position.from (omega (arith, c.loop-position-test.false)) c.loop-position.invariant.0)
