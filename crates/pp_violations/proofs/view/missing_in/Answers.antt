use Rattle.std.proofs.Common.{◌≡◌, ◌∙◌, ◌<◌, [], ap, filter, sym, arith, length, take}
use Rattle.std.proofs.Math.Seq.{take-length}
use Rattle.pp_violations.specs.Searches.{is_lacking}
use Rattle.pp_violations.proofs.Views.{filter_no, filter_yes}
use Rattle.pp_violations.proofs.view.missing_in.Goals as goal
use Rattle.pp_violations.proofs.view.missing_in.Goals.{then-is_missing+in_ok-push, else-is_missing}

pub loop-entry-preserved : goal.loop-entry-preserved
loop-entry-preserved g c =
    let lt : c.loop-entry.entry-index < length c.args.entries.now = omega arith in
    elim c.if-is_missing.branch [
      | then-is_missing+in_ok-push w ↦
          filter_yes (is_lacking g.S.Placed.place_of c.args.place c.args.seen.now) c.args.entries.now c.loop-entry.list.items c.if-is_missing.list.items c.loop-entry.entry-index c.entry-item.result lt c.entry-item.is
          (sym c.is_missing.ensures ∙ w.if-is_missing.true) [] c.loop-entry.invariant (ap (λ z. z.items) w.list-is ∙ w.in_ok-push.ensures.items)
      | else-is_missing w ↦
          ap (λ z. z.items) w.list-is
          ∙ filter_no (is_lacking g.S.Placed.place_of c.args.place c.args.seen.now) c.args.entries.now c.loop-entry.list.items c.loop-entry.entry-index c.entry-item.result lt c.entry-item.is
          (sym c.is_missing.ensures ∙ w.if-is_missing.false) [] c.loop-entry.invariant
    ]

pub returns : goal.returns
returns g c =
    let end : c.loop-entry.entry-index ≡ length c.args.entries.now = omega arith in
    c.loop-entry.invariant ∙ ap (λ n. filter (is_lacking g.S.Placed.place_of c.args.place c.args.seen.now) (take n c.args.entries.now)) end
    ∙ ap (λ l. filter (is_lacking g.S.Placed.place_of c.args.place c.args.seen.now) l) (take-length c.args.entries.now)
