use Rattle.std.proofs.Common.{◌∙◌, arith, sym}
use Rattle.pp_run.proofs.Numbers.{equal_words, no_number, number_is, number_is_text, other_words, outside}
use Rattle.pp_run.proofs.Numbers.{unlike, unread}
use Rattle.pp_run.proofs.words.drill_number.Goals as goal
use Rattle.pp_run.proofs.words.drill_number.Goals.{then-n-eq0-via-then-n-eq0, then-n-eq0-via-else-n-eq0+then-n-gt20000}

-- the argument is not UTF-8
pub returns-in_default : goal.returns-in_default
returns-in_default c = sym (no_number c.args.word.now (λ n is. c.in_default.ensures.cases.0 (number_is_text c.args.word.now n is)))

-- it is read as no number
pub returns-in_default-parse : goal.returns-in_default-parse
returns-in_default-parse c = sym (unread c.args.word.now c.in-Ok.text.now c.in-Ok.ensures.cases.0 c.parse.result c.parse.ensures.value.0 c.in_default-parse.field-0 c.in_default-parse.is)

-- it is read as a number out of range
pub returns-then-n-eq0 : goal.returns-then-n-eq0
returns-then-n-eq0 c =
    sym (outside c.args.word.now c.in-Ok.text.now c.in-Ok.ensures.cases.0 c.parse.result c.parse.ensures.value.0 c.in-Ok-parse.n c.in-Ok-parse.is (λ low high.
    elim c.then-n-eq0.branch [ then-n-eq0-via-then-n-eq0 w ↦ omega (arith, low, w.if-n-eq0.true) | then-n-eq0-via-else-n-eq0+then-n-gt20000 w ↦ omega (arith, high, w.if-n-gt20000.true) ]))

-- it is the decimal text of the number that is read
pub returns-then-eq : goal.returns-then-eq
returns-then-eq c =
    let written = equal_words c.eq.result c.as_bytes.result.now c.args.word.now c.eq.ensures c.if-eq.true in
    sym (number_is c.args.word.now c.in-Ok-parse.n (sym written ∙ c.as_bytes.ensures.value ∙ c.format.ensures.text, omega (arith, c.if-n-eq0.false), omega (arith, c.if-n-gt20000.false)))

-- it is written in another way
pub returns-else-eq : goal.returns-else-eq
returns-else-eq c =
    sym (unlike c.args.word.now c.in-Ok.text.now c.in-Ok.ensures.cases.0 c.parse.result c.parse.ensures.value.0 c.in-Ok-parse.n c.in-Ok-parse.is (λ is.
    other_words c.eq.result c.as_bytes.result.now c.args.word.now c.eq.ensures c.if-eq.false (c.as_bytes.ensures.value ∙ c.format.ensures.text ∙ sym is)))
