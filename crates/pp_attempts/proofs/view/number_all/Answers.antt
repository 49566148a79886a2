use Rattle.std.proofs.Common.{◌≡◌, ◌≤◌, ◌+◌, List, length, take, arith, rules, subst, sym, ap, ◌∙◌, refl}
use Rattle.std.proofs.lemmas.List.{length-append}
use Rattle.pp_model.specs.Object.{Item, ops}
use Rattle.pp_model.specs.Sound.{serial_ops}
use Rattle.pp_model.proofs.Lengths.{length-ops}
use Rattle.pp_kind.specs.Object.{rules_of, state_from, AllowedFrom}
use Rattle.pp_attempts.specs.Peaks.{operations}
use Rattle.pp_attempts.specs.Trying.{AreCandidates, IsStateAt, IsUntried, MayFollow}
use Rattle.pp_attempts.specs.Views.{IsViewBelow, Pairwise, View}
use Rattle.pp_attempts.proofs.Leaving.{all_numbered, first_candidates}
use Rattle.pp_attempts.proofs.Rounds.{may_be_numbered}
use Rattle.pp_attempts.proofs.Viewing.{cost_so_far, first_state, next_allowed, next_may, next_state, one_round_more, pairwise_as, pairwise_long}
use Rattle.pp_attempts.proofs.Viewing.{serial_next, serial_within, untried_below}
use Rattle.pp_attempts.proofs.view.number_all.Goals.{then-stale+then-number-due+in_ok-candidates-2, else-stale}
use Rattle.pp_attempts.proofs.view.number_all.Goals as goal

-- ---- before any transaction

pub try_all-requires-clause-candidates : goal.try_all-requires-clause-candidates
try_all-requires-clause-candidates g c =
    let o = g.S.Spec.object in
    let ps = c.args.peaks.now in
    let vs = c.args.views.now.items in
    let long = pairwise_long IsUntried ps vs c.requires.untried in (
      ps,
      may_be_numbered o c.args.shape.now c.args.committed.now 0 c.in_ok-state.state
          (first_state o g.met.S.Spec.lawful c.args.shape.now c.args.committed.now c.in_ok-state.state c.in_ok-state.ensures) ps c.requires.runs vs c.in_ok-candidates.candidates long
          (first_candidates ps vs c.in_ok-candidates.candidates long c.in_ok-candidates.ensures),
    )

pub returns-in_err-stale-clause-bound : goal.returns-in_err-stale-clause-bound
returns-in_err-stale-clause-bound g c =
    let o = g.S.Spec.object in
    let D = c.args.committed.now in
    let ps = c.args.peaks.now in
    let vs = c.args.views.now.items in
    let long = pairwise_long IsUntried ps vs c.requires.untried in
    let bound = c.in_err-stale.ensures.bound ps (may_be_numbered o c.args.shape.now D 0 c.in_ok-state.state
    (first_state o g.met.S.Spec.lawful c.args.shape.now D c.in_ok-state.state c.in_ok-state.ensures) ps c.requires.runs vs c.in_ok-candidates.candidates long
    (first_candidates ps vs c.in_ok-candidates.candidates long c.in_ok-candidates.ensures)) in
    cost_so_far c.args.ticks.now c.try_all.new.ticks 0 (length (serial_ops D)) 0 (length D) (operations ps) (omega (arith, bound)) (omega arith) (omega arith)

pub loop-transaction-init : goal.loop-transaction-init
loop-transaction-init g c =
    let o = g.S.Spec.object in
    let D = c.args.committed.now in
    let O = rules_of o c.args.shape.now in
    let ps = c.args.peaks.now in
    let vs = c.args.views.now.items in
    let long = pairwise_long IsUntried ps vs c.requires.untried in
    let at = first_state o g.met.S.Spec.lawful c.args.shape.now D c.in_ok-state.state c.in_ok-state.ensures in
    let may = may_be_numbered o c.args.shape.now D 0 c.in_ok-state.state at ps c.requires.runs vs c.in_ok-candidates.candidates long (first_candidates ps vs c.in_ok-candidates.candidates long c.in_ok-candidates.ensures) in
    let rises = c.in_ok-stale.ensures.rises in
    let bound = c.in_ok-stale.ensures.bound ps may in
    record {
      number = refl;
      state = subst (λ s. IsStateAt o c.args.shape.now D 0 s) (sym c.in_ok-stale.ensures.same) at;
      empty = c.in_ok-stale.ensures.empty;
      views = c.in_ok-stale.ensures.tried ps c.args.shape.now D may at (pairwise_as IsUntried (IsViewBelow 0 O D) (untried_below O D) ps vs c.requires.untried);
      candidates = c.in_ok-stale.ensures.candidates ps may;
      rises = rises;
      cost = omega (arith, bound);
    }

-- ---- the peaks that have no number

pub without_numbered-requires-clause-long : goal.without_numbered-requires-clause-long
without_numbered-requires-clause-long g c =
    ap (λ (w : List View). length w) c.as_slice.ensures.value ∙ pairwise_long _ c.args.peaks.now c.loop-transaction.views.items c.loop-transaction.invariant.views

pub returns-in_err-candidates-2-clause-bound : goal.returns-in_err-candidates-2-clause-bound
returns-in_err-candidates-2-clause-bound g c =
    let D = c.args.committed.now in
    let i = c.loop-transaction.transaction-index in
    cost_so_far c.args.ticks.now c.loop-transaction.ticks (length (serial_ops (take i D))) (length (serial_ops D)) i (length D) (operations c.args.peaks.now)
    c.loop-transaction.invariant.cost (serial_within D i) (omega (arith, c.loop-transaction-test.true))

pub returns-then-len-eq0-clause-views : goal.returns-then-len-eq0-clause-views
returns-then-len-eq0-clause-views g c =
    let D = c.args.committed.now in
    let ps = c.args.peaks.now in
    let vs = c.loop-transaction.views.items in
    let i = c.loop-transaction.transaction-index in
    let candidates : AreCandidates ps vs c.if-stale.candidates = elim c.if-stale.branch [
      | then-stale+then-number-due+in_ok-candidates-2 w ↦
          subst (λ l. AreCandidates ps vs l) (sym w.candidates-is) (subst (λ (v : List View). AreCandidates ps v w.in_ok-candidates-2.candidates) w.as_slice.ensures.value w.in_ok-candidates-2.ensures.candidates)
      | else-stale w ↦ subst (λ l. AreCandidates ps vs l) (sym w.candidates-is) c.loop-transaction.invariant.candidates
    ] in
    let empty : length c.if-stale.candidates.list.items ≡ 0 = let len : c.len.result ≡ length c.if-stale.candidates.list.items = search rules in sym len ∙ c.if-len-eq0.true in
    let le : i + 1 ≤ length D + 1 = omega (arith, c.loop-transaction-test.true) in
    all_numbered g.S.Spec.object ps c.args.shape.now D (i + 1) (length D + 1) vs c.if-stale.candidates empty le candidates c.loop-transaction.invariant.views

pub returns-then-len-eq0-clause-bound : goal.returns-then-len-eq0-clause-bound
returns-then-len-eq0-clause-bound g c =
    let D = c.args.committed.now in
    let i = c.loop-transaction.transaction-index in
    cost_so_far c.args.ticks.now c.loop-transaction.ticks (length (serial_ops (take i D))) (length (serial_ops D)) i (length D) (operations c.args.peaks.now)
    c.loop-transaction.invariant.cost (serial_within D i) (omega (arith, c.loop-transaction-test.true))

-- ---- a transaction

pub try_behind-requires-clause-may : goal.try_behind-requires-clause-may
try_behind-requires-clause-may g c =
    let o = g.S.Spec.object in
    let d = c.transaction-item.result in
    subst (λ (w : List (Item _)). MayFollow o c.loop-transaction.state (ops w)) (sym c.as_slice-entries.ensures)
    (next_may o c.args.shape.now c.args.committed.now c.loop-transaction.transaction-index c.loop-transaction.state c.loop-transaction.invariant.state
    g.met.S.Spec.lawful d c.loop-transaction-test.true c.transaction-item.is c.requires.runs.allowed c.requires.runs.ranged c.requires.runs.few)

pub try_behind-requires-clause-allowed : goal.try_behind-requires-clause-allowed
try_behind-requires-clause-allowed g c =
    let o = g.S.Spec.object in
    let d = c.transaction-item.result in
    subst (λ (w : List (Item _)). AllowedFrom o c.loop-transaction.state (ops w)) (sym c.as_slice-entries.ensures)
    (next_allowed o c.args.shape.now c.args.committed.now c.loop-transaction.transaction-index c.loop-transaction.state c.loop-transaction.invariant.state
    g.met.S.Spec.lawful d c.loop-transaction-test.true c.transaction-item.is c.requires.runs.allowed c.requires.runs.ranged)

pub try_behind-requires-clause-candidates : goal.try_behind-requires-clause-candidates
try_behind-requires-clause-candidates g c =
    let o = g.S.Spec.object in
    let D = c.args.committed.now in
    let ps = c.args.peaks.now in
    let vs = c.loop-transaction.views.items in
    let i = c.loop-transaction.transaction-index in
    let d = c.transaction-item.result in
    let s = state_from o c.loop-transaction.state (ops c.as_slice-entries.result.now) in
    let at = next_state o c.args.shape.now D i c.loop-transaction.state c.loop-transaction.invariant.state
    g.met.S.Spec.lawful d c.loop-transaction-test.true c.transaction-item.is c.requires.runs.allowed c.requires.runs.ranged s
    (ap (λ (w : List (Item _)). state_from o c.loop-transaction.state (ops w)) c.as_slice-entries.ensures) in
    let candidates : AreCandidates ps vs c.if-stale.candidates = elim c.if-stale.branch [
      | then-stale+then-number-due+in_ok-candidates-2 w ↦
          subst (λ l. AreCandidates ps vs l) (sym w.candidates-is) (subst (λ (v : List View). AreCandidates ps v w.in_ok-candidates-2.candidates) w.as_slice.ensures.value w.in_ok-candidates-2.ensures.candidates)
      | else-stale w ↦ subst (λ l. AreCandidates ps vs l) (sym w.candidates-is) c.loop-transaction.invariant.candidates
    ] in
    let may = may_be_numbered o c.args.shape.now D (i + 1) s at ps c.requires.runs vs c.if-stale.candidates (pairwise_long _ ps vs c.loop-transaction.invariant.views) candidates in
    (ps, may)

pub returns-in_err-more-clause-bound : goal.returns-in_err-more-clause-bound
returns-in_err-more-clause-bound g c =
    let o = g.S.Spec.object in
    let D = c.args.committed.now in
    let ps = c.args.peaks.now in
    let vs = c.loop-transaction.views.items in
    let i = c.loop-transaction.transaction-index in
    let d = c.transaction-item.result in
    let s = state_from o c.loop-transaction.state (ops c.as_slice-entries.result.now) in
    let at = next_state o c.args.shape.now D i c.loop-transaction.state c.loop-transaction.invariant.state
    g.met.S.Spec.lawful d c.loop-transaction-test.true c.transaction-item.is c.requires.runs.allowed c.requires.runs.ranged s
    (ap (λ (w : List (Item _)). state_from o c.loop-transaction.state (ops w)) c.as_slice-entries.ensures) in
    let candidates : AreCandidates ps vs c.if-stale.candidates = elim c.if-stale.branch [
      | then-stale+then-number-due+in_ok-candidates-2 w ↦
          subst (λ l. AreCandidates ps vs l) (sym w.candidates-is) (subst (λ (v : List View). AreCandidates ps v w.in_ok-candidates-2.candidates) w.as_slice.ensures.value w.in_ok-candidates-2.ensures.candidates)
      | else-stale w ↦ subst (λ l. AreCandidates ps vs l) (sym w.candidates-is) c.loop-transaction.invariant.candidates
    ] in
    let may = may_be_numbered o c.args.shape.now D (i + 1) s at ps c.requires.runs vs c.if-stale.candidates (pairwise_long _ ps vs c.loop-transaction.invariant.views) candidates in
    let long = ap (λ (w : List (Item _)). length w) c.as_slice-entries.ensures in
    let next = ap (λ (w : List _). length w) (serial_next D i d c.loop-transaction-test.true c.transaction-item.is) ∙ length-append (serial_ops (take i D)) (ops d.entries) in
    let so_far = c.loop-transaction.invariant.cost in
    let more = c.in_err-more.ensures.bound ps may in
    cost_so_far c.args.ticks.now c.try_behind.new.ticks (length (serial_ops (take (i + 1) D))) (length (serial_ops D)) (i + 1) (length D) (operations ps)
    (omega (arith, so_far, more, long, next, length-ops d.entries, one_round_more i (operations ps))) (serial_within D (i + 1)) (omega (arith, c.loop-transaction-test.true))

pub loop-transaction-preserved : goal.loop-transaction-preserved
loop-transaction-preserved g c =
    let o = g.S.Spec.object in
    let D = c.args.committed.now in
    let ps = c.args.peaks.now in
    let vs = c.loop-transaction.views.items in
    let i = c.loop-transaction.transaction-index in
    let d = c.transaction-item.result in
    let s = state_from o c.loop-transaction.state (ops c.as_slice-entries.result.now) in
    let at = next_state o c.args.shape.now D i c.loop-transaction.state c.loop-transaction.invariant.state
    g.met.S.Spec.lawful d c.loop-transaction-test.true c.transaction-item.is c.requires.runs.allowed c.requires.runs.ranged s
    (ap (λ (w : List (Item _)). state_from o c.loop-transaction.state (ops w)) c.as_slice-entries.ensures) in
    let candidates : AreCandidates ps vs c.if-stale.candidates = elim c.if-stale.branch [
      | then-stale+then-number-due+in_ok-candidates-2 w ↦
          subst (λ l. AreCandidates ps vs l) (sym w.candidates-is) (subst (λ (v : List View). AreCandidates ps v w.in_ok-candidates-2.candidates) w.as_slice.ensures.value w.in_ok-candidates-2.ensures.candidates)
      | else-stale w ↦ subst (λ l. AreCandidates ps vs l) (sym w.candidates-is) c.loop-transaction.invariant.candidates
    ] in
    let may = may_be_numbered o c.args.shape.now D (i + 1) s at ps c.requires.runs vs c.if-stale.candidates (pairwise_long _ ps vs c.loop-transaction.invariant.views) candidates in
    let long = ap (λ (w : List (Item _)). length w) c.as_slice-entries.ensures in
    let next = ap (λ (w : List _). length w) (serial_next D i d c.loop-transaction-test.true c.transaction-item.is) ∙ length-append (serial_ops (take i D)) (ops d.entries) in
    let so_far = c.loop-transaction.invariant.cost in
    let rises = c.loop-transaction.invariant.rises in
    let number = c.loop-transaction.invariant.number in
    let more = c.in_ok-more.ensures.bound ps may in
    let higher = c.in_ok-more.ensures.rises in
    let O = rules_of o c.args.shape.now in
    let one : c.loop-transaction.number + 1 ≡ i + 1 = omega (arith, number) in
    record {
      number = one;
      state = subst (λ w. IsStateAt o c.args.shape.now D (i + 1) w) (sym c.in_ok-more.ensures.state) at;
      empty = c.in_ok-more.ensures.empty;
      views = subst (λ n. Pairwise (IsViewBelow (n + 1) O D) ps c.try_behind.new.views.items) one
          (c.in_ok-more.ensures.tried ps c.args.shape.now D i may one c.loop-transaction.invariant.state (subst (λ n. IsStateAt o c.args.shape.now D n s) (sym one) at)
          (subst (λ n. Pairwise (IsViewBelow n O D) ps vs) (sym one) c.loop-transaction.invariant.views));
      candidates = c.in_ok-more.ensures.candidates ps may;
      rises = omega (arith, rises, higher);
      cost = omega (arith, so_far, more, long, next, length-ops d.entries, one_round_more i (operations ps));
    }

-- ---- all of them

pub returns-clause-views : goal.returns-clause-views
returns-clause-views g c =
    let o = g.S.Spec.object in
    let D = c.args.committed.now in
    let all : c.loop-transaction.transaction-index ≡ length D = omega (arith, c.loop-transaction-test.false, c.loop-transaction.auto.transaction-index-end) in
    subst (λ n. Pairwise (IsViewBelow (n + 1) (rules_of o c.args.shape.now) D) c.args.peaks.now c.loop-transaction.views.items) all c.loop-transaction.invariant.views

pub returns-clause-bound : goal.returns-clause-bound
returns-clause-bound g c =
    let D = c.args.committed.now in
    let i = c.loop-transaction.transaction-index in
    let all : i ≤ length D = omega (arith, c.loop-transaction.auto.transaction-index-end) in
    cost_so_far c.args.ticks.now c.loop-transaction.ticks (length (serial_ops (take i D))) (length (serial_ops D)) i (length D) (operations c.args.peaks.now)
    c.loop-transaction.invariant.cost (serial_within D i) all
