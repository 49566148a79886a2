use Rattle.std.specs.Io.KnownBytes.{Consumes, IsAtEnd}
use Rattle.std.proofs.Common.{◌≡◌, ◌<◌, ◌≤◌, ◌-◌, ◌^◌, ℕ, List, [], ◌++◌, ap, ◌∙◌, length, inl, inr}
use Rattle.std.proofs.Common.{refl, length-append, take, drop, arith, rules, subst, sym}
use Rattle.std.proofs.lemmas.Bool.Decides.{leb_tells}
use Rattle.std.proofs.KnownBytes.{Consumes-kept}
use Rattle.std.proofs.Math.Seq.{take-append_seam}
use Rattle.std.proofs.lemmas.List.{append-nil, length-take}
use Rattle.std.proofs.lemmas.Result.{err_from_is_err_and}
use Rattle.pp_input.specs.Overruns.{early_lines, scanned_lines}
use Rattle.pp_input_reader.specs.Takers.{CountsTo, HasInputFault}
use Rattle.pp_input_reader.proofs.Takers.{at_bytes, at_sound, consumes_more, counts_all, counts_early}
use Rattle.pp_input_reader.proofs.Takers.{if_input_fault, no_read_fault, taken_all, taken_fault, taken_lines}
use Rattle.pp_input_reader.proofs.read.read_lines.Goals as goal

-- a count that rises behind one that did not fall
risen : (a b c m : ℕ) → b ≡ a → (b < m → b < c) → b ≤ c → a < m → a < c
risen a b c m kept rises more below =
    elim (leb_tells m b) [
      | inl over ↦ omega (arith, over.1)
      | inr under ↦ omega (arith, rises under.1)
    ]

-- what a read put into the whole buffer
filled : (len : ℕ) (into rest : List ℕ) → length into ≡ len → take len (into ++ rest) ≡ into
filled len into rest full = ap (λ (n : ℕ). take n (into ++ rest)) (sym full) ∙ take-append_seam into rest

pub pieces-preserved : goal.pieces-preserved
pieces-preserved g c =
    let at = c.pieces.invariant.at in
    let old = g.S.Source.left c.pieces.source in
    let new = g.S.Source.left c.read.new.self in
    let piece = take c.in-Ok.n c.deref.result.now in
    let full : length c.read.new.into ≡ c.pieces.buffer.len = search rules in
    let same : c.deref.result.now ≡ c.read.new.into = c.deref.ensures.value ∙ filled c.pieces.buffer.len c.read.new.into (drop (length c.read.new.into) c.pieces.buffer.items) full in
    let read : Consumes old new piece = subst (λ (bs : List ℕ). Consumes old new (take c.in-Ok.n bs)) (sym same) c.in-Ok.ensures.bytes.0 in
    record {
      room = search rules;
      at = (at.0 ++ piece, c.in_ok-taker.ensures.ok c.args.ticks.now at.0 at.1, consumes_more (g.S.Source.left c.args.source.now) old new at.0 piece at.2 read);
      given = c.in_ok-taker.ensures.given ∙ c.pieces.invariant.given;
      count = c.in-Ok.ensures.faultless ∙ c.pieces.invariant.count;
    }

pub pieces-smaller : goal.pieces-smaller
pieces-smaller g c =
    let first = c.args.ticks.now in
    let R = g.T.TakesLines.reading first in
    let at = c.pieces.invariant.at in
    let piece = take c.in-Ok.n c.deref.result.now in
    let full : length c.read.new.into ≡ c.pieces.buffer.len = search rules in
    let same : c.deref.result.now ≡ c.read.new.into = c.deref.ensures.value ∙ filled c.pieces.buffer.len c.read.new.into (drop (length c.read.new.into) c.pieces.buffer.items) full in
    let size : length c.deref.result.now ≡ length c.read.new.into = ap (λ (bs : List ℕ). length bs) same in
    let old = at_bytes R at.0 c.pieces.lines (c.pieces.taker, c.pieces.ticks) at.1 in
    let new = at_bytes R (at.0 ++ piece) c.take_piece.new.lines (c.in_ok-taker.taker, c.take_piece.new.ticks) (c.in_ok-taker.ensures.ok first at.0 at.1) in
    omega (arith, old.0, new.0, new.1, length-append at.0 piece, length-take c.in-Ok.n c.deref.result.now, size, c.in-Ok.ensures.bound, c.if-n-eq0.false)

-- a line of a piece has a fault, or the piece passes a limit
pub returns-in_err-taker-clause-stop : goal.returns-in_err-taker-clause-stop
returns-in_err-taker-clause-stop g c =
    let at = c.pieces.invariant.at in
    let old = g.S.Source.left c.pieces.source in
    let new = g.S.Source.left c.read.new.self in
    let piece = take c.in-Ok.n c.deref.result.now in
    let full : length c.read.new.into ≡ c.pieces.buffer.len = search rules in
    let same : c.deref.result.now ≡ c.read.new.into = c.deref.ensures.value ∙ filled c.pieces.buffer.len c.read.new.into (drop (length c.read.new.into) c.pieces.buffer.items) full in
    let read : Consumes old new piece = subst (λ (bs : List ℕ). Consumes old new (take c.in-Ok.n bs)) (sym same) c.in-Ok.ensures.bytes.0 in
    let p = err_from_is_err_and c.from_residual-in_err-taker.result c.from_residual-in_err-taker.ensures.1 in
    rw (p.1, p.2) (if_input_fault c.in_err-taker.field-0.0 _ _
    (λ at' fault faulty bytes is. taken_fault (g.T.TakesLines.reading c.args.ticks.now) (g.S.Source.left c.args.source.now) new (at.0 ++ piece) bytes at' fault
    (consumes_more (g.S.Source.left c.args.source.now) old new at.0 piece at.2 read) is (faulty at.0 at.1))
    (c.in_err-taker.ensures.stop c.args.ticks.now))

-- such a stop is no failed read
pub returns-in_err-taker-clause-read_fault : goal.returns-in_err-taker-clause-read_fault
returns-in_err-taker-clause-read_fault g c =
    let p = err_from_is_err_and c.from_residual-in_err-taker.result c.from_residual-in_err-taker.ensures.1 in
    rw (p.1, p.2) (λ told. absurd (no_read_fault c.in_err-taker.field-0.0 _ (c.in_err-taker.ensures.stop c.args.ticks.now) _ refl told))

pub returns-in_err-take_rest-clause-read_fault : goal.returns-in_err-take_rest-clause-read_fault
returns-in_err-take_rest-clause-read_fault g c =
    let p = err_from_is_err_and c.from_residual-in_err-take_rest.result c.from_residual-in_err-take_rest.ensures.1 in
    rw (p.1, p.2) (λ told. absurd (no_read_fault c.in_err-take_rest.field-0.0 _ (c.in_err-take_rest.ensures.stop c.args.ticks.now) _ refl told))

-- a read failed
pub returns-in_default-clause-read_fault : goal.returns-in_default-clause-read_fault
returns-in_default-clause-read_fault g c = λ failed.
    let at = c.pieces.invariant.at in (
      λ below. risen (g.S.Source.faults c.args.source.now) (g.S.Source.faults c.pieces.source) (g.S.Source.faults c.read.new.self) (2 ^ 64 - 1) c.pieces.invariant.count c.in_default.ensures.failed c.read.ensures.count below,
      at_sound (g.T.TakesLines.reading c.args.ticks.now) (g.S.Source.left c.args.source.now) (g.S.Source.left c.read.new.self) at.0 c.pieces.lines (c.pieces.taker, c.pieces.ticks)
          (Consumes-kept (g.S.Source.left c.args.source.now) (g.S.Source.left c.pieces.source) (g.S.Source.left c.read.new.self) at.0 at.2 c.in_default.ensures.bytes) at.1,
    )

-- the last line has a fault
pub returns-in_err-take_rest-clause-stop : goal.returns-in_err-take_rest-clause-stop
returns-in_err-take_rest-clause-stop g c =
    let at = c.pieces.invariant.at in
    let p = err_from_is_err_and c.from_residual-in_err-take_rest.result c.from_residual-in_err-take_rest.ensures.1 in
    let room : 0 < length c.read.new.into = search rules in
    let none : Consumes (g.S.Source.left c.pieces.source) (g.S.Source.left c.read.new.self) [] =
    subst (λ (k : ℕ). Consumes (g.S.Source.left c.pieces.source) (g.S.Source.left c.read.new.self) (take k c.read.new.into)) c.if-n-eq0.true c.in-Ok.ensures.bytes.0 in
    let end : IsAtEnd (g.S.Source.left c.read.new.self) = c.in-Ok.ensures.bytes.1 c.if-n-eq0.true room in
    rw (p.1, p.2) (if_input_fault c.in_err-take_rest.field-0.0 _ _
    (λ at' fault faulty bytes is.
    let all = taken_all (g.S.Source.left c.args.source.now) (g.S.Source.left c.read.new.self) (at.0 ++ []) bytes
    (consumes_more (g.S.Source.left c.args.source.now) (g.S.Source.left c.pieces.source) (g.S.Source.left c.read.new.self) at.0 [] at.2 none) end is in
    subst (λ bs. HasInputFault (g.T.TakesLines.reading c.args.ticks.now) bs at' fault) (sym (append-nil at.0) ∙ all) (faulty at.0 at.1))
    (c.in_err-take_rest.ensures.stop c.args.ticks.now))

pub take_piece-requires : goal.take_piece-requires
take_piece-requires g c = (c.args.ticks.now, c.pieces.invariant.at.0, c.pieces.invariant.at.1)

pub take_rest-requires : goal.take_rest-requires
take_rest-requires g c = (c.args.ticks.now, c.pieces.invariant.at.0, c.pieces.invariant.at.1)

-- ---- what the counter shows

pub returns-in_err-buffer-clause-cost : goal.returns-in_err-buffer-clause-cost
returns-in_err-buffer-clause-cost g c = λ bytes is. ([], scanned_lines (g.T.TakesLines.reading c.args.ticks.now).limits bytes, refl, inl (c.args.taker, c.requires))

pub returns-in_default-clause-cost : goal.returns-in_default-clause-cost
returns-in_default-clause-cost g c = λ bytes is.
    let R = g.T.TakesLines.reading c.args.ticks.now in
    let at = c.pieces.invariant.at in
    let now = c.pieces.ticks in
    let old = g.S.Source.left c.args.source.now in
    let new = g.S.Source.left c.pieces.source in
    taken_lines R.limits old new at.0 bytes (λ ls. CountsTo R ls now) at.2 is (counts_early R at.0 now (counts_all R (early_lines R.limits at.0) c.pieces.taker now at.1.leads))

pub returns-in_err-taker-clause-cost : goal.returns-in_err-taker-clause-cost
returns-in_err-taker-clause-cost g c = λ bytes is.
    let R = g.T.TakesLines.reading c.args.ticks.now in
    let at = c.pieces.invariant.at in
    let first = g.S.Source.left c.args.source.now in
    let old = g.S.Source.left c.pieces.source in
    let new = g.S.Source.left c.read.new.self in
    let piece = take c.in-Ok.n c.deref.result.now in
    let full : length c.read.new.into ≡ c.pieces.buffer.len = search rules in
    let same : c.deref.result.now ≡ c.read.new.into = c.deref.ensures.value ∙ filled c.pieces.buffer.len c.read.new.into (drop (length c.read.new.into) c.pieces.buffer.items) full in
    let read : Consumes old new piece = subst (λ (bs : List ℕ). Consumes old new (take c.in-Ok.n bs)) (sym same) c.in-Ok.ensures.bytes.0 in
    taken_lines R.limits first new (at.0 ++ piece) bytes (λ ls. CountsTo R ls c.take_piece.new.ticks) (consumes_more first old new at.0 piece at.2 read) is (c.in_err-taker.ensures.cost c.args.ticks.now at.0 at.1)

pub returns-in_err-take_rest-clause-cost : goal.returns-in_err-take_rest-clause-cost
returns-in_err-take_rest-clause-cost g c = λ bytes is.
    let R = g.T.TakesLines.reading c.args.ticks.now in
    let at = c.pieces.invariant.at in
    let first = g.S.Source.left c.args.source.now in
    let old = g.S.Source.left c.pieces.source in
    let new = g.S.Source.left c.read.new.self in
    let room : 0 < length c.read.new.into = search rules in
    let none : Consumes old new [] = subst (λ (k : ℕ). Consumes old new (take k c.read.new.into)) c.if-n-eq0.true c.in-Ok.ensures.bytes.0 in
    let end : IsAtEnd new = c.in-Ok.ensures.bytes.1 c.if-n-eq0.true room in
    let all = taken_all first new (at.0 ++ []) bytes (consumes_more first old new at.0 [] at.2 none) end is in
    subst (λ bs. CountsTo R (scanned_lines R.limits bs) c.take_rest.new.ticks) (sym (append-nil at.0) ∙ all) (c.in_err-take_rest.ensures.cost c.args.ticks.now at.0 at.1)

pub returns-clause-cost : goal.returns-clause-cost
returns-clause-cost g c = λ bytes is.
    let R = g.T.TakesLines.reading c.args.ticks.now in
    let at = c.pieces.invariant.at in
    let first = g.S.Source.left c.args.source.now in
    let old = g.S.Source.left c.pieces.source in
    let new = g.S.Source.left c.read.new.self in
    let room : 0 < length c.read.new.into = search rules in
    let none : Consumes old new [] = subst (λ (k : ℕ). Consumes old new (take k c.read.new.into)) c.if-n-eq0.true c.in-Ok.ensures.bytes.0 in
    let end : IsAtEnd new = c.in-Ok.ensures.bytes.1 c.if-n-eq0.true room in
    let all = taken_all first new (at.0 ++ []) bytes (consumes_more first old new at.0 [] at.2 none) end is in
    subst (λ bs. CountsTo R (scanned_lines R.limits bs) c.take_rest.new.ticks) (sym (append-nil at.0) ∙ all) (counts_all R (scanned_lines R.limits at.0) _ c.take_rest.new.ticks (c.in_ok-take_rest.ensures.ok c.args.ticks.now at.0 at.1))
