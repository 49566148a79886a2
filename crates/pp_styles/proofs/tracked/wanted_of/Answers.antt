use Rattle.std.proofs.Common.{[], subst, sym}
use Rattle.std.specs.Option.{option_copied}
use Rattle.pp_styles.specs.Knowing.{IsFollowedBut}
use Rattle.pp_styles.specs.Noting.{known}
use Rattle.pp_styles.specs.Publishing.{publications}
use Rattle.pp_styles.specs.Sources.{kept_sources}
use Rattle.pp_styles.proofs.Tracking.{alone_here, followed_here, keeps_here, looks_here}
use Rattle.pp_styles.proofs.tracked.wanted_of.Goals as goal

pub returns-in_default-sources-clause-ids : goal.returns-in_default-sources-clause-ids
returns-in_default-sources-clause-ids g c = λ x open_is.
    let P = g.S.Placed.place_of in
    let v = c.args.machine.now in
    subst (λ us. IsFollowedBut P c.args.object (kept_sources (option_copied us)) v.config.shared x.local c.in_ok-ids.ids.items) (sym c.in_default-sources.is)
    (alone_here g.S.Spec.object P (known c.args.notes.now) (publications c.args.published.now) v c.requires.noted c.requires.listed c.count-sound.ensures.sound c.args.tx.now c.in-Some.local.now c.in-Some.ensures
    c.args.object c.unknown.result.now [] c.in_ok-ids.ids.items c.unknown.ensures c.in_ok-ids.ensures x open_is)

pub returns-in_err-keep-clause-listed : goal.returns-in_err-keep-clause-listed
returns-in_err-keep-clause-listed g c =
    keeps_here g.S.Spec.object g.S.Placed.place_of (known c.args.notes.now) (publications c.args.published.now) c.args.machine.now c.requires.noted c.requires.listed
    c.shared-shared.result.now c.shared-shared.ensures (publications c.keep.new.self) c.keep.ensures.lists

pub returns-then-is_walk_shorter-clause-listed : goal.returns-then-is_walk_shorter-clause-listed
returns-then-is_walk_shorter-clause-listed g c =
    keeps_here g.S.Spec.object g.S.Placed.place_of (known c.args.notes.now) (publications c.args.published.now) c.args.machine.now c.requires.noted c.requires.listed
    c.shared-shared.result.now c.shared-shared.ensures (publications c.keep.new.self) c.keep.ensures.lists

pub returns-in_err-ids-2-clause-listed : goal.returns-in_err-ids-2-clause-listed
returns-in_err-ids-2-clause-listed g c =
    keeps_here g.S.Spec.object g.S.Placed.place_of (known c.args.notes.now) (publications c.args.published.now) c.args.machine.now c.requires.noted c.requires.listed
    c.shared-shared.result.now c.shared-shared.ensures (publications c.keep.new.self) c.keep.ensures.lists

pub returns-in_err-add_missing-clause-listed : goal.returns-in_err-add_missing-clause-listed
returns-in_err-add_missing-clause-listed g c =
    let P = g.S.Placed.place_of in
    let k = known c.args.notes.now in
    let v = c.args.machine.now in
    let kept = keeps_here g.S.Spec.object P k (publications c.args.published.now) v c.requires.noted c.requires.listed
    c.shared-shared.result.now c.shared-shared.ensures (publications c.keep.new.self) c.keep.ensures.lists in
    looks_here g.S.Spec.object P k (publications c.keep.new.self) v c.requires.noted kept c.count-sound.ensures.sound c.args.tx.now c.in-Some.local.now c.in-Some.ensures
    c.args.object c.shared-shared.result.now c.shared-shared.ensures (publications c.add_missing.new.self) c.add_missing.ensures.passed

pub returns-clause-listed : goal.returns-clause-listed
returns-clause-listed g c =
    let P = g.S.Placed.place_of in
    let k = known c.args.notes.now in
    let v = c.args.machine.now in
    let kept = keeps_here g.S.Spec.object P k (publications c.args.published.now) v c.requires.noted c.requires.listed
    c.shared-shared.result.now c.shared-shared.ensures (publications c.keep.new.self) c.keep.ensures.lists in
    looks_here g.S.Spec.object P k (publications c.keep.new.self) v c.requires.noted kept c.count-sound.ensures.sound c.args.tx.now c.in-Some.local.now c.in-Some.ensures
    c.args.object c.shared-shared.result.now c.shared-shared.ensures (publications c.add_missing.new.self) c.add_missing.ensures.passed

pub returns-clause-ids : goal.returns-clause-ids
returns-clause-ids g c = λ x open_is.
    let P = g.S.Placed.place_of in
    let k = known c.args.notes.now in
    let v = c.args.machine.now in
    let kept = keeps_here g.S.Spec.object P k (publications c.args.published.now) v c.requires.noted c.requires.listed
    c.shared-shared.result.now c.shared-shared.ensures (publications c.keep.new.self) c.keep.ensures.lists in
    subst (λ us. IsFollowedBut P c.args.object (kept_sources (option_copied us)) v.config.shared x.local c.add_missing.new.ids.items) (sym c.in-Some-sources.is)
    (followed_here g.S.Spec.object P k (publications c.keep.new.self) v c.requires.noted kept c.count-sound.ensures.sound c.args.tx.now c.in-Some.local.now c.in-Some.ensures
    c.args.object c.unknown-2.result.now [] c.in_ok-ids-2.ids.items c.unknown-2.ensures c.in_ok-ids-2.ensures
    c.shared-shared.result.now c.shared-shared.ensures c.in_ok-keep.ensures.kept c.in-Some-sources.sources.now.keys c.add_missing.new.ids.items c.in_ok-add_missing.ensures.kept c.in_ok-add_missing.ensures.added x open_is)
