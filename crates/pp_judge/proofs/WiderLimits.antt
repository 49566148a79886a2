-- An input that has not too many lines, bytes or transactions is scanned the same under wider limits.
use Rattle.std.specs.Prelude.{◌≡◌, ◌≤◌, ◌⊎◌, ℕ, zero, suc, ◌+◌, ◌-◌, ◌==◌, ◌&&◌, not, nat_le, Bool, true, false}
use Rattle.std.specs.Prelude.{List, [], ◌∷◌, ◌++◌, drop, take, cond, Option, None, Some}
use Rattle.std.specs.Option.{option_or}
use Rattle.std.proofs.Common.{refl, sym, ap, ◌∙◌, subst, arith}
use Rattle.std.proofs.lemmas.Bool.{leb-false, leb-true}
use Rattle.std.proofs.lemmas.List.{take-append-drop}
use mathlib.Core.Logic.{inl, inr}
use Rattle.pp_input.specs.declared.fault.LineFault.{LineFault}
use Rattle.pp_input.specs.declared.fault.LineFault.TheVariants as limits
use Rattle.pp_input.specs.declared.limits.Limits.{Limits}
use Rattle.pp_input.specs.declared.reach.Reach.{Reach}
use Rattle.pp_input.specs.Lines.{NumberedLine, ended_lines, numbered_lines}
use Rattle.pp_input.specs.Overruns.{line_of, lines_before, overrun}
use Rattle.pp_input.specs.Reaches.{overrun_from, passed}
use Rattle.pp_input.proofs.Overruns.{start_overrun}
use Rattle.pp_input_reader.specs.declared.cause.Cause.{Cause}
use Rattle.pp_input_reader.specs.declared.cause.Cause.TheVariants.{TooLong, TooManyLines}
use Rattle.pp_input_reader.specs.Limits.{limit_fault}
use Rattle.pp_judge.specs.Inputs.{early_scan_within, no_header, or_fault, scan_within}
use Rattle.pp_judge.specs.Scans.{InputScan, nothing, scan_lines}
use Rattle.pp_judge.specs.WiderLimits.{AreWider, HasAllowedBegins, HasAllowedSize}
use Rattle.pp_judge.specs.WiderLimits.{IsSizeLimit, WiderLimitsLaw}
use Rattle.pp_judge.proofs.MoreBegins.{HasTooMany, lines_agree}
use Rattle.pp_judge.proofs.Widening.{widens_fault, widens_lines}

-- ---- the limit that is passed first

-- how far bytes reach, by their numbers
abbrev reach_at : Limits → (bytes lines column : ℕ) → Reach
reach_at limits bytes lines column = record {
  limits = limits;
  bytes = bytes;
  lines = lines;
  column = column;
}

-- the limit on the lines or the bytes of an input
abbrev IsOfInput : LineFault → Type 0
IsOfInput (limits.TooLong line) = Unit
IsOfInput (limits.TooManyLines line) = Unit
IsOfInput (limits.LineTooLong line) = ⊥
IsOfInput limits.OutOfMemory = ⊥

-- no limit is passed before this line
abbrev IsPassedFrom : ℕ → Option LineFault → Type 0
IsPassedFrom line None = Unit
IsPassedFrom line (Some fault) = line ≤ line_of fault

-- the limits that an input passes first under narrow and under wide limits
abbrev Compares : Option LineFault → Option LineFault → Type 0
Compares narrow wide =
    (wide ≡ narrow)
    ⊎ ((fault : LineFault) × (narrow ≡ Some fault) × IsOfInput fault × IsPassedFrom (line_of fault) wide)

same_line : (n : ℕ) → n ≤ n
same_line n = omega arith

passed_here : (a b c : Bool) (n : ℕ) (more : Option LineFault) → IsPassedFrom n more
    → IsPassedFrom n (option_or (cond a (Some (limits.TooLong n)) (cond b (Some (limits.TooManyLines n)) (cond c (Some (limits.LineTooLong n)) None))) more)
passed_here true b c n more h = same_line n
passed_here false true c n more h = same_line n
passed_here false false true n more h = same_line n
passed_here false false false n more h = h

passed_later : (n m : ℕ) (o : Option LineFault) → n ≤ m → IsPassedFrom m o → IsPassedFrom n o
passed_later n m None le h = tt
passed_later n m (Some fault) le h = by (line_of fault) h
  where
    by : (k : ℕ) → m ≤ k → n ≤ k
    by k x = omega (arith, le, x)

-- a limit is passed on the line after those that ended, or later
passed_from : (L : Limits) (n l c : ℕ) (bytes : List ℕ) → IsPassedFrom (l + 1) (overrun_from (reach_at L n l c) bytes)
passed_from L n l c [] = tt
passed_from L n l c (x ∷ xs) =
    passed_here (nat_le L.bytes n) (nat_le L.lines l) (not (x == 10) && nat_le L.line_bytes c) (l + 1) _
    (elim (x == 10) as (λ v. IsPassedFrom (l + 1) (overrun_from (cond {A = Reach} v (reach_at L (n + 1) (l + 1) 0) (reach_at L (n + 1) l (c + 1))) xs)) [
      | true ↦ passed_later (l + 1) (l + 1 + 1) (overrun_from (reach_at L (n + 1) (l + 1) 0) xs) (omega arith) (passed_from L (n + 1) (l + 1) 0 xs)
      | false ↦ passed_from L (n + 1) l (c + 1) xs
    ])

-- a limit that is not passed is not passed if it is wider
not_passed : (narrow wide n : ℕ) → narrow ≤ wide → nat_le narrow n ≡ false → nat_le wide n ≡ false
not_passed narrow wide n le h = by (nat_le wide n) refl
  where
    by : (v : Bool) → nat_le wide n ≡ v → v ≡ false
    by false is = refl
    by true is = absurd (omega (arith, le, leb-false narrow n h, leb-true wide n is))

-- the limit that a byte passes, by which limits it passes, on this line
abbrev of_line : Bool → ℕ → Option LineFault
of_line v line = cond v (Some (limits.LineTooLong line)) None

abbrev of_input : (a b v : Bool) → ℕ → Option LineFault
of_input a b v line = cond a (Some (limits.TooLong line)) (cond b (Some (limits.TooManyLines line)) (of_line v line))

by_line : (v : Bool) (line : ℕ) (more less : Option LineFault) → Compares more less → Compares (option_or (of_line v line) more) (option_or (of_line v line) less)
by_line true line more less same = inl refl
by_line false line more less same = same

-- the narrow limits are passed if the wide ones are
passed_compare : (a b v a' b' : Bool) (line : ℕ) (more less : Option LineFault) → Compares more less → (a ≡ false → a' ≡ false) → (b ≡ false → b' ≡ false)
    → IsPassedFrom line (option_or (of_input a' b' v line) less) → Compares (option_or (of_input a b v line) more) (option_or (of_input a' b' v line) less)
passed_compare true b v a' b' line more less same f g later = inr (limits.TooLong line, refl, tt, later)
passed_compare false true v a' b' line more less same f g later = inr (limits.TooManyLines line, refl, tt, later)
passed_compare false false v a' b' line more less same f g later = rw (f refl, g refl) (by_line v line more less same)

module _ (narrow wide : Limits) (w : AreWider narrow wide) where
  -- a byte passes the same limit, or a narrow limit of the input, or none
  first_compares : (n l c x : ℕ) (more less : Option LineFault) → Compares more less
      → IsPassedFrom (l + 1) (option_or (passed (reach_at wide n l c) x) less)
      → Compares (option_or (passed (reach_at narrow n l c) x) more) (option_or (passed (reach_at wide n l c) x) less)
  first_compares n l c x more less same later =
      let line_same : (not (x == 10) && nat_le narrow.line_bytes c) ≡ (not (x == 10) && nat_le wide.line_bytes c) = ap (λ (k : ℕ). not (x == 10) && nat_le k c) w.line_bytes in
      rw line_same
      (passed_compare (nat_le narrow.bytes n) (nat_le narrow.lines l) (not (x == 10) && nat_le wide.line_bytes c) (nat_le wide.bytes n) (nat_le wide.lines l) (l + 1) more less same
      (not_passed narrow.bytes wide.bytes n w.bytes) (not_passed narrow.lines wide.lines l w.lines) later)

  overruns_compare : (n l c : ℕ) (bytes : List ℕ) → Compares (overrun_from (reach_at narrow n l c) bytes) (overrun_from (reach_at wide n l c) bytes)
  overruns_compare n l c [] = inl refl
  overruns_compare n l c (x ∷ xs) =
      first_compares n l c x _ _
      (elim (x == 10) as (λ v. Compares (overrun_from (cond {A = Reach} v (reach_at narrow (n + 1) (l + 1) 0) (reach_at narrow (n + 1) l (c + 1))) xs) (overrun_from (cond {A = Reach} v (reach_at wide (n + 1) (l + 1) 0) (reach_at wide (n + 1) l (c + 1))) xs)) [
        | true ↦ overruns_compare (n + 1) (l + 1) 0 xs
        | false ↦ overruns_compare (n + 1) l (c + 1) xs
      ])
      (passed_from wide n l c (x ∷ xs))

  -- Under wider limits an input first passes the same limit, or none before the line where it passed that of its lines or bytes.
  pub overrun_compares : (bytes : List ℕ) → Compares (overrun narrow bytes) (overrun wide bytes)
  overrun_compares bytes = rw (← start_overrun narrow bytes, ← start_overrun wide bytes) (overruns_compare 0 0 0 bytes)

-- ---- the lines before it

-- fewer of the lines are at the front of more of them
front_of : {A : Type 0} (n m : ℕ) (xs : List A) → n ≤ m → (more : List A) × (take m xs ≡ take n xs ++ more)
front_of {A = A} n m xs le = (drop n (take m xs), sym (take-append-drop n (take m xs)) ∙ ap (λ (l : List A). l ++ drop n (take m xs)) (shorter n m xs le))
  where
    shorter : (n m : ℕ) (xs : List A) → n ≤ m → take n (take m xs) ≡ take n xs
    shorter zero m xs le = refl
    shorter (suc n) zero xs le = absurd (omega (arith, le))
    shorter (suc n) (suc m) [] le = refl
    shorter (suc n) (suc m) (x ∷ xs) le = ap (λ (l : List A). x ∷ l) (shorter n m xs (omega (arith, le)))

lines_front : (fault : LineFault) (wide : Option LineFault) (lines : List NumberedLine) → IsPassedFrom (line_of fault) wide
    → (more : List NumberedLine) × (lines_before wide lines ≡ lines_before (Some fault) lines ++ more)
lines_front fault None lines h = (drop (line_of fault - 1) lines, sym (take-append-drop (line_of fault - 1) lines))
lines_front fault (Some other) lines h = front_of (line_of fault - 1) (line_of other - 1) lines (omega (arith, h))

-- ---- the scans

-- a passed limit of the input is the fault of the input, if no line has one
abbrev Ends : (Option LineFault → InputScan → Option (ℕ × Cause)) → Type 0
Ends end = (fault : LineFault) (sc : InputScan) → IsOfInput fault → (line : ℕ) × (cause : Cause) × IsSizeLimit cause × (end (Some fault) sc ≡ Some (line, cause))

-- the lines before a limit that is passed, and the fault if no line has one
abbrev scan_of_limit : ℕ → (Option LineFault → InputScan → Option (ℕ × Cause)) → List NumberedLine → Option LineFault → InputScan
scan_of_limit most end lines o = let sc = scan_lines most (lines_before o lines) in or_fault sc (end o sc)

same_scan : (most : ℕ) (end : Option LineFault → InputScan → Option (ℕ × Cause)) (lines : List NumberedLine) (narrow wide : Option LineFault) → Ends end → Compares narrow wide
    → HasAllowedSize (scan_of_limit most end lines narrow) → scan_of_limit most end lines wide ≡ scan_of_limit most end lines narrow
same_scan most end lines narrow wide ends (inl same) allowed = ap (scan_of_limit most end lines) same
same_scan most end lines narrow wide ends (inr (fault, is, kind, later)) allowed = rw is (by_fault (scan_lines most (lines_before (Some fault) lines)).fault refl)
  where
    allowed_here : HasAllowedSize (scan_of_limit most end lines (Some fault))
    allowed_here = subst (λ (o : Option LineFault). HasAllowedSize (scan_of_limit most end lines o)) is allowed

    by_fault : (o : Option (ℕ × Cause)) → (scan_lines most (lines_before (Some fault) lines)).fault ≡ o → scan_of_limit most end lines wide ≡ scan_of_limit most end lines (Some fault)
    by_fault None none =
        let sc : InputScan = scan_lines most (lines_before (Some fault) lines) in
        let passes = ends fault sc kind in
        absurd (allowed_here passes.0 passes.1 passes.2 (ap (λ (o : Option (ℕ × Cause)). option_or o (end (Some fault) sc)) none ∙ passes.3))
    by_fault (Some x) faulty =
        let sc : InputScan = scan_lines most (lines_before (Some fault) lines) in
        let front = lines_front fault wide lines later in
        let wider : scan_lines most (lines_before wide lines) ≡ sc =
        ap (scan_lines most) front.1 ∙ (widens_lines most (lines_before (Some fault) lines) front.0).fault x faulty in
        let left : scan_of_limit most end lines wide ≡ or_fault sc (end wide sc) =
        ap (λ (s : InputScan). or_fault s (end wide s)) wider in
        left ∙ (widens_fault sc (end wide sc)).fault x faulty
        ∙ sym ((widens_fault sc (end (Some fault) sc)).fault x faulty)

abbrev early_end : Option LineFault → InputScan → Option (ℕ × Cause)
early_end o sc = limit_fault o

abbrev whole_end : List ℕ → Option LineFault → InputScan → Option (ℕ × Cause)
whole_end bytes o sc = option_or (limit_fault o) (no_header bytes sc.header)

early_ends : Ends early_end
early_ends (limits.TooLong line) sc h = (line, TooLong, inr refl, refl)
early_ends (limits.TooManyLines line) sc h = (line, TooManyLines, inl refl, refl)
early_ends (limits.LineTooLong line) sc h = absurd h
early_ends limits.OutOfMemory sc h = absurd h

whole_ends : (bytes : List ℕ) → Ends (whole_end bytes)
whole_ends bytes (limits.TooLong line) sc h = (line, TooLong, inr refl, refl)
whole_ends bytes (limits.TooManyLines line) sc h = (line, TooManyLines, inl refl, refl)
whole_ends bytes (limits.LineTooLong line) sc h = absurd h
whole_ends bytes limits.OutOfMemory sc h = absurd h

-- if more transactions are allowed, a scan that does not begin too many is the same
same_begins : (narrow wide : Limits) (end : Option LineFault → InputScan → Option (ℕ × Cause)) (lines : List NumberedLine) (o : Option LineFault) → narrow.transactions ≤ wide.transactions
    → HasAllowedBegins narrow wide (scan_of_limit narrow.transactions end lines o) → scan_of_limit wide.transactions end lines o ≡ scan_of_limit narrow.transactions end lines o
same_begins narrow wide end lines o le (inl same) = ap (λ (most : ℕ). scan_of_limit most end lines o) (sym same)
same_begins narrow wide end lines o le (inr few) = by (lines_agree narrow.transactions wide.transactions le nothing (lines_before o lines) (omega arith))
  where
    by : HasTooMany (scan_lines narrow.transactions (lines_before o lines)) ⊎ (scan_lines wide.transactions (lines_before o lines) ≡ scan_lines narrow.transactions (lines_before o lines))
        → scan_of_limit wide.transactions end lines o ≡ scan_of_limit narrow.transactions end lines o
    by (inl many) = absurd (few many.0 (ap (λ (w : Option (ℕ × Cause)). option_or w (end o (scan_lines narrow.transactions (lines_before o lines)))) many.1))
    by (inr same) = ap (λ (s : InputScan). or_fault s (end o s)) same

same_limits : (narrow wide : Limits) (end : Option LineFault → InputScan → Option (ℕ × Cause)) (lines : List NumberedLine) (less more : Option LineFault) → Ends end → AreWider narrow wide
    → Compares less more → HasAllowedSize (scan_of_limit narrow.transactions end lines less) → HasAllowedBegins narrow wide (scan_of_limit narrow.transactions end lines less)
    → scan_of_limit wide.transactions end lines more ≡ scan_of_limit narrow.transactions end lines less
same_limits narrow wide end lines less more ends w compares allowed few =
    let same : scan_of_limit narrow.transactions end lines more ≡ scan_of_limit narrow.transactions end lines less = same_scan narrow.transactions end lines less more ends compares allowed in
    same_begins narrow wide end lines more w.transactions (subst (λ (s : InputScan). HasAllowedBegins narrow wide s) (sym same) few) ∙ same

-- an input that has not too many lines, bytes or transactions is the same under wider limits
pub same_under_wider : (narrow wide : Limits) (bytes : List ℕ) → AreWider narrow wide → HasAllowedSize (scan_within narrow bytes) → HasAllowedBegins narrow wide (scan_within narrow bytes) → scan_within wide bytes ≡ scan_within narrow bytes
same_under_wider narrow wide bytes w allowed few = same_limits narrow wide (whole_end bytes) (numbered_lines bytes) (overrun narrow bytes) (overrun wide bytes) (whole_ends bytes) w (overrun_compares narrow wide w bytes) allowed few

-- so is what no further byte can change of it
pub early_same_under_wider : (narrow wide : Limits) (bytes : List ℕ) → AreWider narrow wide → HasAllowedSize (early_scan_within narrow bytes) → HasAllowedBegins narrow wide (early_scan_within narrow bytes) → early_scan_within wide bytes ≡ early_scan_within narrow bytes
early_same_under_wider narrow wide bytes w allowed few = same_limits narrow wide early_end (ended_lines bytes) (overrun narrow bytes) (overrun wide bytes) early_ends w (overrun_compares narrow wide w bytes) allowed few

-- Inputs that have not too many lines, bytes or transactions are the same under wider limits.
pub wider_limits : WiderLimitsLaw
wider_limits = record { scan = same_under_wider; early = early_same_under_wider }
