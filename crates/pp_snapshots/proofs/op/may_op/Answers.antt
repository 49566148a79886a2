use Rattle.std.proofs.Common.{◌≡◌, ◌*◌, ◌+◌, ◌≤◌, ◌++◌, ◌∷◌, [], ap, sym, ◌∙◌, subst, take, ◌==◌}
use Rattle.std.specs.List.{list_any}
use Rattle.pp_body.specs.Walks.{TellsBegins}
use Rattle.pp_kind.specs.Object.{IsAllowed}
use Rattle.pp_laws_summary.specs.Places.{ops_at}
use Rattle.pp_model.specs.Object.{ops}
use Rattle.pp_summary.specs.Shown.{calls_of}
use Rattle.pp_snapshots.specs.Ops.{MayHave, op_most, snapshot_at, snapshot_of, tried_after}
use Rattle.pp_snapshots.specs.Shown.{seen_in}
use Rattle.pp_snapshots.proofs.Apart.{snapshot_have}
use Rattle.pp_snapshots.proofs.Asking.{count_is, snapshot_here}
use Rattle.pp_snapshots.proofs.op.may_op.Goals as goal

pub ask-requires-clause-have : goal.ask-requires-clause-have
ask-requires-clause-have g c =
    let o = g.S.Spec.object in
    let place = g.S.Placed.place_of in
    let part = g.S.Parted.part_of in
    let silent = g.S.PartByPart.silent_of in
    let past = c.args.past.now in
    let x = c.args.it.now in
    let op = c.args.op.now in
    let seen = c.snapshot-seen.result in
    let n = snapshot_here place past op x c.place-place.result seen c.seen_at.result c.count_at-all.result c.has_own_at.result c.place-place.ensures c.snapshot-seen.ensures c.seen_at.ensures
    (c.has_own_at.ensures ∙ ap (λ l. list_any (λ e. place e.op == c.place-place.result) l) c.as_slice-own.ensures) c.count_at-all.ensures in
    subst (λ l. MayHave o place past (place op) seen (ops l)) (sym c.as_slice-own.ensures)
    (snapshot_have o place g.S.Placed.SameAt g.met.S.Spec.lawful g.met.S.Placed.placed part g.met.S.Parted.parted g.met.S.PartByPart.alone past x op seen c.requires.has n)

pub returns-in_err-ask-clause-bound : goal.returns-in_err-ask-clause-bound
returns-in_err-ask-clause-bound g c =
    let o = g.S.Spec.object in
    let place = g.S.Placed.place_of in
    let part = g.S.Parted.part_of in
    let silent = g.S.PartByPart.silent_of in
    let past = c.args.past.now in
    let x = c.args.it.now in
    let op = c.args.op.now in
    let seen = c.snapshot-seen.result in
    let n = snapshot_here place past op x c.place-place.result seen c.seen_at.result c.count_at-all.result c.has_own_at.result c.place-place.ensures c.snapshot-seen.ensures c.seen_at.ensures
    (c.has_own_at.ensures ∙ ap (λ l. list_any (λ e. place e.op == c.place-place.result) l) c.as_slice-own.ensures) c.count_at-all.ensures in
    let most : 2 * (tried_after place part silent past seen (ops c.as_slice-own.result.now) op + 1) ≡ op_most place part silent past x op =
    ap (λ l. 2 * (tried_after place part silent past seen (ops l) op + 1)) c.as_slice-own.ensures ∙ ap (λ m. 2 * (tried_after place part silent past m (ops x.own) op + 1)) n in
    subst (λ m. c.ask.new.ticks ≤ c.args.ticks.now + m) most c.ask.ensures.bound

pub returns-then-not-branch-clause-tells : goal.returns-then-not-branch-clause-tells
returns-then-not-branch-clause-tells g c = λ shape h is.
    let o = g.S.Spec.object in
    let place = g.S.Placed.place_of in
    let part = g.S.Parted.part_of in
    let silent = g.S.PartByPart.silent_of in
    let past = c.args.past.now in
    let x = c.args.it.now in
    let op = c.args.op.now in
    let seen = c.snapshot-seen.result in
    let n = snapshot_here place past op x c.place-place.result seen c.seen_at.result c.count_at-all.result c.has_own_at.result c.place-place.ensures c.snapshot-seen.ensures c.seen_at.ensures
    (c.has_own_at.ensures ∙ ap (λ l. list_any (λ e. place e.op == c.place-place.result) l) c.as_slice-own.ensures) c.count_at-all.ensures in
    let told = c.in_ok-ask.ensures.tells shape h is in
    let same : take seen (h (place op)) ++ (ops_at place (place op) (ops c.as_slice-own.result.now) ++ op ∷ []) ≡ take (snapshot_of o place h op x) (h (place op)) ++ (ops_at place (place op) (ops x.own) ++ op ∷ []) =
    ap (λ l. take seen (h (place op)) ++ (ops_at place (place op) (ops l) ++ op ∷ [])) c.as_slice-own.ensures
    ∙ ap (λ m. take m (h (place op)) ++ (ops_at place (place op) (ops x.own) ++ op ∷ []))
    (n ∙ ap (λ m. snapshot_at (seen_in x.seen.entries (place op)) (ops_at place (place op) (ops x.own)) m) (count_is o place shape past h is (place op))) in
    ((λ good. let yes = told.0.1 (subst (IsAllowed o shape) (sym same) good.allowed) in let off = c.if-not-branch.true in absurd (cc)), told.1)

pub returns-then-not-branch-clause-bound : goal.returns-then-not-branch-clause-bound
returns-then-not-branch-clause-bound g c =
    let o = g.S.Spec.object in
    let place = g.S.Placed.place_of in
    let part = g.S.Parted.part_of in
    let silent = g.S.PartByPart.silent_of in
    let past = c.args.past.now in
    let x = c.args.it.now in
    let op = c.args.op.now in
    let seen = c.snapshot-seen.result in
    let n = snapshot_here place past op x c.place-place.result seen c.seen_at.result c.count_at-all.result c.has_own_at.result c.place-place.ensures c.snapshot-seen.ensures c.seen_at.ensures
    (c.has_own_at.ensures ∙ ap (λ l. list_any (λ e. place e.op == c.place-place.result) l) c.as_slice-own.ensures) c.count_at-all.ensures in
    let most : 2 * (tried_after place part silent past seen (ops c.as_slice-own.result.now) op + 1) ≡ op_most place part silent past x op =
    ap (λ l. 2 * (tried_after place part silent past seen (ops l) op + 1)) c.as_slice-own.ensures ∙ ap (λ m. 2 * (tried_after place part silent past m (ops x.own) op + 1)) n in
    subst (λ m. c.ask.new.ticks ≤ c.args.ticks.now + m) most c.ask.ensures.bound

pub returns-clause-tells : goal.returns-clause-tells
returns-clause-tells g c = λ shape h is.
    let o = g.S.Spec.object in
    let place = g.S.Placed.place_of in
    let part = g.S.Parted.part_of in
    let silent = g.S.PartByPart.silent_of in
    let past = c.args.past.now in
    let x = c.args.it.now in
    let op = c.args.op.now in
    let seen = c.snapshot-seen.result in
    let n = snapshot_here place past op x c.place-place.result seen c.seen_at.result c.count_at-all.result c.has_own_at.result c.place-place.ensures c.snapshot-seen.ensures c.seen_at.ensures
    (c.has_own_at.ensures ∙ ap (λ l. list_any (λ e. place e.op == c.place-place.result) l) c.as_slice-own.ensures) c.count_at-all.ensures in
    let told = c.in_ok-ask.ensures.tells shape h is in
    let same : take seen (h (place op)) ++ (ops_at place (place op) (ops c.as_slice-own.result.now) ++ op ∷ []) ≡ take (snapshot_of o place h op x) (h (place op)) ++ (ops_at place (place op) (ops x.own) ++ op ∷ []) =
    ap (λ l. take seen (h (place op)) ++ (ops_at place (place op) (ops l) ++ op ∷ [])) c.as_slice-own.ensures
    ∙ ap (λ m. take m (h (place op)) ++ (ops_at place (place op) (ops x.own) ++ op ∷ []))
    (n ∙ ap (λ m. snapshot_at (seen_in x.seen.entries (place op)) (ops_at place (place op) (ops x.own)) m) (count_is o place shape past h is (place op))) in
    let begins = subst (λ z. TellsBegins x.walk z c.can.result) c.call.ensures c.can.ensures in (
      (
        record {
          new = sym c.contains.ensures ∙ c.if-contains.false;
          begins = (begins (calls_of o x.own) c.requires.taken).0 c.if-not-can.false;
          allowed = subst (IsAllowed o shape) same (told.0.0 c.if-not-branch.false);
        },
        n ∙ ap (λ m. snapshot_at (seen_in x.seen.entries (place op)) (ops_at place (place op) (ops x.own)) m) (count_is o place shape past h is (place op)),
      ),
      told.1,
    )

pub returns-clause-bound : goal.returns-clause-bound
returns-clause-bound g c =
    let o = g.S.Spec.object in
    let place = g.S.Placed.place_of in
    let part = g.S.Parted.part_of in
    let silent = g.S.PartByPart.silent_of in
    let past = c.args.past.now in
    let x = c.args.it.now in
    let op = c.args.op.now in
    let seen = c.snapshot-seen.result in
    let n = snapshot_here place past op x c.place-place.result seen c.seen_at.result c.count_at-all.result c.has_own_at.result c.place-place.ensures c.snapshot-seen.ensures c.seen_at.ensures
    (c.has_own_at.ensures ∙ ap (λ l. list_any (λ e. place e.op == c.place-place.result) l) c.as_slice-own.ensures) c.count_at-all.ensures in
    let most : 2 * (tried_after place part silent past seen (ops c.as_slice-own.result.now) op + 1) ≡ op_most place part silent past x op =
    ap (λ l. 2 * (tried_after place part silent past seen (ops l) op + 1)) c.as_slice-own.ensures ∙ ap (λ m. 2 * (tried_after place part silent past m (ops x.own) op + 1)) n in
    subst (λ m. c.ask.new.ticks ≤ c.args.ticks.now + m) most c.ask.ensures.bound
