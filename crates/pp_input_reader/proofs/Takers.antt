-- Lines that come in pieces, taken one after another.
use Rattle.std.specs.Prelude.{◌≡◌, ◌≤◌, ℕ, ◌+◌, List, [], ◌∷◌, ◌++◌, length, map, Option, None, Some}
use Rattle.std.specs.Prelude.{Result, Ok, Err, IfOk, IsErrOf, OnErr, OnOk}
use Rattle.std.specs.Io.KnownBytes.{Consumes, IsAtEnd}
use Rattle.std.proofs.Common.{refl, sym, ap, ◌∙◌, subst, arith, append_assoc, lit≤}
use Rattle.std.proofs.lemmas.List.{append-nil, length-append}
use mathlib.Core.Logic.{inl, inr}
use Rattle.pp_input.specs.declared.fault.LineFault.{LineFault}
use Rattle.pp_input.specs.declared.limits.Limits.{Limits}
use Rattle.pp_input.specs.declared.reach.Reach.{Reach}
use Rattle.pp_input.specs.Held.{Held, after_first, after_next, fed, finished, first_of, next_line}
use Rattle.pp_input.specs.Limits.{HasNext}
use Rattle.pp_input.specs.Lines.{NumberedLine, numbered_from, unended, without_return}
use Rattle.pp_input.specs.Overruns.{early_lines, overrun, scanned_lines}
use Rattle.pp_input.specs.Reaches.{overrun_from}
use Rattle.pp_input.specs.Taken.{Hands, Took}
use Rattle.pp_input.proofs.Overruns.{within_all}
use Rattle.pp_input.proofs.Reading.{hands_all, hands_finished, hands_front, hands_next, overrun_kept}
use Rattle.pp_input.proofs.Reading.{scanned_front, scanned_kept, took_bytes, took_fed, took_overrun}
use Rattle.pp_input_reader.specs.declared.stop.Failure.TheVariants as failures
use Rattle.pp_input_reader.specs.declared.stop.Stop.{Stop}
use Rattle.pp_input_reader.specs.declared.stop.Stop.TheVariants as stops
use Rattle.pp_input_reader.specs.Limits.{limit_fault}
use Rattle.pp_input_reader.specs.Takers.{CountsEarly, CountsTo, Follows, HasEarlyFault, HasFaultBehind}
use Rattle.pp_input_reader.specs.Takers.{HasInputFault, IfFault, IfInputFault, IsAt, IsLimitFault, IsNext, LeadsOn}
use Rattle.pp_input_reader.specs.Takers.{PassesLimit, Reading, ReadsSoFar, StopsWith}

-- ---- the limits

-- a number that is within the lines of the same limits
pub within_lines : (from to : Reach) (limits : Limits) (n : ℕ) → from ≡ to → to.limits ≡ limits → n ≤ from.limits.lines → n ≤ limits.lines
within_lines from to limits n same is le = subst (λ (l : Limits). n ≤ l.lines) (ap (λ (r : Reach). r.limits) same ∙ is) le

-- ---- line by line

number_at : (handed : ℕ) (whole : List (List ℕ)) (line : NumberedLine) → first_of handed whole ≡ Some line → line.0 ≡ handed + 1
number_at handed [] line h = absurd (cc)
number_at handed (x ∷ xs) line h = let e : (handed + 1, x) ≡ line = cc in ap (λ (l : NumberedLine). l.0) (sym e)

module _ {T F : Type 0} (R : Reading T F) (all : List NumberedLine) (held : Held) (taker : T) (f : Follows R all held taker) where
  -- the next line is the one behind those that were taken
  pub follows_is_next : (line : NumberedLine) → next_line held ≡ Some line → line.0 ≤ R.limits.lines → HasNext line.0 → IsNext R taker line
  follows_is_next line h few next = (f.0, f.2, omega (arith, number_at held.handed held.whole line h, f.1.handed), few, next)

  -- it is taken
  pub follows_next : (line : NumberedLine) (next : T) → next_line held ≡ Some line → LeadsOn R taker line next → Follows R all (after_next held) next
  follows_next line next h on = (f.0 ++ line ∷ [], hands_next all f.0 line held f.1 h, on f.0 f.2)

  -- it has a fault
  pub follows_fault : (line : NumberedLine) (at : ℕ) (fault : F) → next_line held ≡ Some line → ((lines : List NumberedLine) → R.Leads lines taker → HasFaultBehind R (lines ++ line ∷ []) at fault) → HasFaultBehind R all at fault
  follows_fault line at fault h faulty more =
      let front = hands_front all f.0 line held f.1 h in
      let is : all ++ more ≡ (f.0 ++ line ∷ []) ++ front.0 ++ more =
      ap (λ (ls : List NumberedLine). ls ++ more) (front.1 ∙ sym (append_assoc f.0 (line ∷ []) front.0)) in
      let apart : (f.0 ++ line ∷ []) ++ front.0 ++ more ≡ (f.0 ++ line ∷ []) ++ (front.0 ++ more) = append_assoc (f.0 ++ line ∷ []) front.0 more in
      subst (λ (ls : List NumberedLine). R.HasFault ls at fault) (sym (is ∙ apart)) (faulty f.0 f.2 (front.0 ++ more))

  -- there is none
  pub follows_all : next_line held ≡ None → f.0 ≡ all
  follows_all none = hands_all all f.0 held f.1 none

  -- If no line is held, all lines led to here.
  pub follows_done : next_line held ≡ None → R.Leads all taker
  follows_done none = subst (λ ls. R.Leads ls taker) (follows_all none) f.2

-- ---- what the counter shows

module _ {T F : Type 0} (R : Reading (T × ℕ) F) where
  -- all of them were taken
  pub counts_all : (lines : List NumberedLine) (taker : T) (now : ℕ) → R.Leads lines (taker, now) → CountsTo R lines now
  counts_all lines taker now leads = (lines, [], sym (append-nil lines), inl (taker, leads))

  -- the next one is not taken
  pub follows_stop : (all : List NumberedLine) (held : Held) (taker : T × ℕ) (line : NumberedLine) (new : ℕ) → Follows R all held taker → next_line held ≡ Some line → StopsWith R taker line new → CountsTo R all new
  follows_stop all held taker line new f h stops =
      let front = hands_front all f.0 line held f.1 h in
      (f.0 ++ line ∷ [], front.0, front.1 ∙ sym (append_assoc f.0 (line ∷ []) front.0), inr (stops f.0 f.2))

  counts_more : (lines more : List NumberedLine) (new : ℕ) → CountsTo R lines new → CountsTo R (lines ++ more) new
  counts_more lines more new c = (c.0, c.1 ++ more, ap (λ (ls : List NumberedLine). ls ++ more) c.2 ∙ append_assoc c.0 c.1 more, c.3)

  -- A count after lines that no further byte can change is one of the input, whatever bytes follow.
  pub counts_early : (bytes : List ℕ) (new : ℕ) → CountsTo R (early_lines R.limits bytes) new → CountsEarly R bytes new
  counts_early bytes new c left =
      let front = scanned_front R.limits bytes left in
      subst (λ (ls : List NumberedLine). CountsTo R ls new) (sym front.1) (counts_more (early_lines R.limits bytes) front.0 new c)

  -- of more bytes only those before them were taken
  pub counts_before : (bytes piece : List ℕ) (new : ℕ) → CountsEarly R bytes new → CountsEarly R (bytes ++ piece) new
  counts_before bytes piece new c left = subst (λ (bs : List ℕ). CountsTo R (scanned_lines R.limits bs) new) (sym (append_assoc bytes piece left)) (c (piece ++ left))

-- ---- what was taken

-- If a source yields some bytes and then others, it yields both in turn.
pub consumes_more : (a b c : Option (List ℕ)) (x y : List ℕ) → Consumes a b x → Consumes b c y → Consumes a c (x ++ y)
consumes_more None b c x y h k = tt
consumes_more (Some a) None c x y h k = absurd h
consumes_more (Some a) (Some b) None x y h k = absurd k
consumes_more (Some a) (Some b) (Some c) x y h k = h ∙ ap (λ zs. x ++ zs) k ∙ sym (append_assoc x y c)

-- what was taken is at the front of what was left
pub consumed_front : (a b : Option (List ℕ)) (taken bytes : List ℕ) → Consumes a b taken → a ≡ Some bytes → (left : List ℕ) × (bytes ≡ taken ++ left)
consumed_front None b taken bytes h is = absurd (cc)
consumed_front (Some a) None taken bytes h is = absurd h
consumed_front (Some a) (Some b) taken bytes h is = let e : a ≡ bytes = cc in (b, sym e ∙ h)

-- what was taken is all
pub taken_all : (a b : Option (List ℕ)) (taken bytes : List ℕ) → Consumes a b taken → IsAtEnd b → a ≡ Some bytes → taken ≡ bytes
taken_all None b taken bytes h end is = absurd (cc)
taken_all (Some a) None taken bytes h end is = absurd h
taken_all (Some a) (Some b) taken bytes h end is = let e : a ≡ bytes = cc in sym (append-nil taken) ∙ ap (λ zs. taken ++ zs) (sym end) ∙ sym h ∙ e

-- what holds of the lines whatever comes behind what was taken
pub taken_lines : (L : Limits) (a b : Option (List ℕ)) (taken bytes : List ℕ) (P : List NumberedLine → Type 0) → Consumes a b taken → a ≡ Some bytes → ((left : List ℕ) → P (scanned_lines L (taken ++ left))) → P (scanned_lines L bytes)
taken_lines L a b taken bytes P h is f =
    let front = consumed_front a b taken bytes h is in
    subst (λ (bs : List ℕ). P (scanned_lines L bs)) (sym front.1) (f front.0)

-- ---- piece by piece

module _ {T F : Type 0} (R : Reading T F) where
  module _ (bytes piece : List ℕ) (held : Held) (taker : T) (at : IsAt R bytes held taker) where
    -- a piece was fed
    pub piece_follows : Follows R (early_lines R.limits (bytes ++ piece)) (fed held piece) taker
    piece_follows = (early_lines R.limits bytes, (took_fed R.limits bytes piece (early_lines R.limits bytes) held at.took at.sound).hands, at.leads)

    -- with the same limits
    pub piece_limits : (fed held piece).reach.limits ≡ R.limits
    piece_limits = ap (λ (r : Reach). r.limits) (took_fed R.limits bytes piece (early_lines R.limits bytes) held at.took at.sound).reach

    -- and each line that it ends was taken
    pub piece_taken : (new : Held) (next : T) → overrun_from held.reach piece ≡ None → Follows R (early_lines R.limits (bytes ++ piece)) new next
        → next_line new ≡ None → new.rest ≡ (fed held piece).rest → new.reach ≡ (fed held piece).reach → new.fault ≡ (fed held piece).fault → new.closed ≡ (fed held piece).closed → IsAt R (bytes ++ piece) new next
    piece_taken new next none follows left rest reach fault closed =
        let took = took_fed R.limits bytes piece (early_lines R.limits bytes) held at.took at.sound in
        let all = follows_all R (early_lines R.limits (bytes ++ piece)) new next follows left in
        record {
          took = record {
            hands = subst (λ ls. Hands (early_lines R.limits (bytes ++ piece)) ls new) all follows.1;
            rest = rest ∙ took.rest;
            reach = reach ∙ took.reach;
            fault = fault ∙ took.fault;
            unclosed = closed ∙ took.unclosed;
          };
          sound = fault ∙ none;
          leads = follows_done R (early_lines R.limits (bytes ++ piece)) new next follows left;
        }

    -- the piece passes a limit, and the lines before have no fault
    pub piece_passes : (next : T) (limit : LineFault) (line : ℕ) (fault : F) → overrun_from held.reach piece ≡ Some limit → IsLimitFault R (Some limit) line fault
        → R.Leads (early_lines R.limits (bytes ++ piece)) next → HasEarlyFault R (bytes ++ piece) line fault
    piece_passes next limit line fault passes is leads =
        let over : overrun R.limits (bytes ++ piece) ≡ Some limit = sym (took_overrun R.limits bytes piece (early_lines R.limits bytes) held at.took at.sound) ∙ passes in
        inr (next, leads, (is.0, ap limit_fault over ∙ is.1, is.2))

  -- ---- faults

  limit_is_final : (bytes left : List ℕ) (at : ℕ) (fault : F) (o : Option LineFault) → overrun R.limits bytes ≡ o → PassesLimit R (early_lines R.limits bytes) o at fault → PassesLimit R (scanned_lines R.limits (bytes ++ left)) (overrun R.limits (bytes ++ left)) at fault
  limit_is_final bytes left at fault None is (taker, leads, caused) = absurd (cc)
  limit_is_final bytes left at fault (Some passed) is (taker, leads, caused) = (
    taker,
    subst (λ ls. R.Leads ls taker) (sym (scanned_kept R.limits bytes left passed is)) leads,
    (caused.0, ap limit_fault (overrun_kept R.limits bytes left passed is) ∙ caused.1, caused.2),
  )

  -- an early fault is the fault of the whole input
  early_is_final : (bytes left : List ℕ) (at : ℕ) (fault : F) → HasEarlyFault R bytes at fault → HasInputFault R (bytes ++ left) at fault
  early_is_final bytes left at fault (inl faulty) =
      let front = scanned_front R.limits bytes left in
      inl (subst (λ ls. R.HasFault ls at fault) (sym front.1) (faulty front.0))
  early_is_final bytes left at fault (inr limit) = inr (limit_is_final bytes left at fault (overrun R.limits bytes) refl limit)

  -- a fault in what was taken
  pub taken_fault : (a b : Option (List ℕ)) (taken bytes : List ℕ) (at : ℕ) (fault : F) → Consumes a b taken → a ≡ Some bytes → HasEarlyFault R taken at fault → HasInputFault R bytes at fault
  taken_fault a b taken bytes at fault h is early =
      let front = consumed_front a b taken bytes h is in
      subst (λ (bs : List ℕ). HasInputFault R bs at fault) (sym front.1) (early_is_final taken front.0 at fault early)

  -- nothing was wrong so far
  pub at_sound : (old new : Option (List ℕ)) (bytes : List ℕ) (held : Held) (taker : T) → Consumes old new bytes → IsAt R bytes held taker → ReadsSoFar R old new
  at_sound old new bytes held taker read at = (bytes, read, sym at.took.fault ∙ at.sound, (taker, at.leads))

  -- ---- the end

  -- At the end of the input, the limits are those of the reading.
  pub rest_limits : (bytes : List ℕ) (held : Held) (taker : T) → IsAt R bytes held taker → (finished held).reach.limits ≡ R.limits
  rest_limits bytes held taker at = ap (λ (r : Reach). r.limits) at.took.reach

  -- At the end of the input, the lines that were taken and those that are held are the lines that are examined.
  pub rest_follows : (bytes : List ℕ) (held : Held) (taker : T) → IsAt R bytes held taker → Follows R (scanned_lines R.limits bytes) (finished held) taker
  rest_follows bytes held taker at = (early_lines R.limits bytes, hands_finished R.limits bytes (early_lines R.limits bytes) held at.took at.sound, at.leads)

  -- a fault that a line has with nothing behind it
  pub fault_here : (lines : List NumberedLine) (at : ℕ) (fault : F) → HasFaultBehind R lines at fault → R.HasFault lines at fault
  fault_here lines at fault faulty = subst (λ ls. R.HasFault ls at fault) (append-nil lines) (faulty [])

  -- the bytes so far are counted
  pub at_bytes : (bytes : List ℕ) (held : Held) (taker : T) → IsAt R bytes held taker → (held.reach.bytes ≡ length bytes) × (length bytes ≤ R.limits.bytes)
  at_bytes bytes held taker at =
      let none : overrun R.limits bytes ≡ None = sym at.took.fault ∙ at.sound in
      let count : held.reach.bytes ≡ length bytes = ap (λ (r : Reach). r.bytes) at.took.reach ∙ ap (λ (bs : List ℕ). length bs) (within_all R.limits bytes none) in
      (count, omega (arith, count, took_bytes R.limits bytes (early_lines R.limits bytes) held at.took))

-- ---- what stays

kept_by : (held : Held) (whole : List (List ℕ)) → ((after_first held whole).rest ≡ held.rest) × ((after_first held whole).reach ≡ held.reach) × ((after_first held whole).fault ≡ held.fault) × ((after_first held whole).closed ≡ held.closed)
kept_by held [] = (refl, refl, refl, refl)
kept_by held (line ∷ lines) = (refl, refl, refl, refl)

-- Handing out the next line changes neither the rest, the reach, the fault nor whether the input is at its end.
pub next_keeps : (held : Held) → ((after_next held).rest ≡ held.rest) × ((after_next held).reach ≡ held.reach) × ((after_next held).fault ≡ held.fault) × ((after_next held).closed ≡ held.closed)
next_keeps held = kept_by held held.whole

none_by : (held : Held) (whole : List (List ℕ)) → first_of held.handed whole ≡ None → after_first held whole ≡ held
none_by held [] h = refl
none_by held (line ∷ lines) h = absurd (cc)

-- If no line is held, handing out the next one changes nothing.
pub none_left : (held : Held) → next_line held ≡ None → after_next held ≡ held
none_left held h = none_by held held.whole h

-- ---- the last line

-- no line is held once all of them were handed out
none_held : (lines : List NumberedLine) (number : ℕ) (whole : List (List ℕ)) → lines ++ numbered_from number whole ≡ lines → whole ≡ []
none_held lines number [] e = refl
none_held lines number (x ∷ xs) e =
    let more = numbered_from (number + 1) xs in
    let count : length (lines ++ (number, x) ∷ more) ≡ length lines = ap (λ (ls : List NumberedLine). length ls) e in
    absurd (omega (arith, count, length-append lines ((number, x) ∷ more)))

-- of one held line none is left behind it
none_behind : (held : Held) (whole : List (List ℕ)) → length whole ≤ 1 → held.whole ≡ whole → next_line (after_first held whole) ≡ None
none_behind held [] few e = ap (first_of held.handed) e
none_behind held (x ∷ []) few e = refl
none_behind held (x ∷ y ∷ xs) few e = absurd (omega (arith, few))

few_unended : (rest : List ℕ) → length (map without_return (unended rest)) ≤ 1
few_unended [] = lit≤ tt
few_unended (byte ∷ rest) = lit≤ tt

-- what follows the last line end is one line at most
pub one_rest_line : (L : Limits) (bytes : List ℕ) (held : Held) → Took L bytes (early_lines L bytes) held → next_line (after_next (finished held)) ≡ None
one_rest_line L bytes held took =
    let none : held.whole ≡ [] = none_held (early_lines L bytes) (held.handed + 1) held.whole took.hands.order in
    let is : (finished held).whole ≡ map without_return (unended held.rest) = ap (λ (ls : List (List ℕ)). ls ++ map without_return (unended held.rest)) none in
    none_behind (finished held) (finished held).whole (subst (λ (ls : List (List ℕ)). length ls ≤ 1) (sym is) (few_unended held.rest)) refl

-- ---- stops

-- If every fault of which P is true is one of which Q is true, a stop with P is one with Q.
pub if_fault : {F : Type 0} (stop : Stop F) (P Q : ℕ → F → Type 0) → ((at : ℕ) (fault : F) → P at fault → Q at fault) → IfFault stop P → IfFault stop Q
if_fault (stops.Fault at fault) P Q f h = f at fault h
if_fault (stops.Failure failure) P Q f h = h

-- a stop of a line is no failed read
pub if_input_fault : {F : Type 0} (stop : Stop F) (P Q : ℕ → F → Type 0) → ((at : ℕ) (fault : F) → P at fault → Q at fault) → IfFault stop P → IfInputFault stop Q
if_input_fault (stops.Fault at fault) P Q f h = f at fault h
if_input_fault (stops.Failure failure) P Q f h = tt

-- A result that stops at a fault or out of memory does not stop at a read fault.
pub no_read_fault : {T F : Type 0} (stop : Stop F) (P : ℕ → F → Type 0) → IfFault stop P → (r : Result T (Stop F)) → r ≡ Err stop → IsErrOf r (stops.Failure failures.ReadFault) → ⊥
no_read_fault (stops.Fault at fault) P h r is told = let same : r ≡ Err (stops.Failure failures.ReadFault) = told in cc
no_read_fault (stops.Failure failure) P h r is told = let refused : failure ≡ failures.OutOfMemory = h in let same : r ≡ Err (stops.Failure failures.ReadFault) = told in cc

-- If P of a value and Q imply R of it, then from P of an Ok value, and Q for an Ok result, follows R of the value.
pub if_ok_and : {T E : Type 0} (r : Result T E) (P : T → Type 0) (Q : Type 0) (R : T → Type 0) → ((x : T) → P x → Q → R x) → IfOk r P → OnOk r Q → IfOk r R
if_ok_and (Ok x) P Q R f p q = f x p q
if_ok_and (Err e) P Q R f p q = tt

-- two facts of one answer
pub if_ok_two : {T E : Type 0} (r : Result T E) (P Q R : T → Type 0) → ((x : T) → P x → Q x → R x) → IfOk r P → IfOk r Q → IfOk r R
if_ok_two (Ok x) P Q R f p q = f x p q
if_ok_two (Err e) P Q R f p q = tt

-- If P is true of every value, it is true of an Ok value.
pub if_ok_all : {T E : Type 0} (r : Result T E) (P : T → Type 0) → ((x : T) → P x) → IfOk r P
if_ok_all (Ok x) P f = f x
if_ok_all (Err e) P f = tt

-- What is true is also true for an Ok result.
pub on_ok : {T E : Type 0} (r : Result T E) (P : Type 0) → P → OnOk r P
on_ok (Ok x) P p = p
on_ok (Err e) P p = tt

-- What is true is also true for an error.
pub on_err : {T E : Type 0} (r : Result T E) (P : Type 0) → P → OnErr r P
on_err (Ok x) P p = tt
on_err (Err e) P p = p
