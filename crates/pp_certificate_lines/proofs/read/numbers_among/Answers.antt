use Rattle.std.proofs.Common.{ℕ, List, [], ◌∷◌, length, sym, ap, arith}
use Rattle.std.proofs.lemmas.List.{length-append}
use Rattle.pp_certificate_lines.proofs.Parsed.{goes_on}
use Rattle.pp_certificate_lines.proofs.read.numbers_among.Goals as goal

pub loop-value-preserved : goal.loop-value-preserved
loop-value-preserved c =
    let list = c.loop-value.list in
    let n = c.in-Some.number in
    let longer = c.in_ok-push-in-Some.ensures.ok in
    record {
      rest = goes_on list c.push.new.self c.args.values.now c.loop-value.value-index n
          c.value-item.result _ c.loop-value-test.true c.value-item.is (sym c.in-Some.ensures)
          longer c.loop-value.invariant.rest;
      so_many = omega (
        arith,
        ap (λ (l : List ℕ). length l) longer,
        length-append list (n ∷ []),
        c.loop-value.invariant.so_many,
      );
    }
