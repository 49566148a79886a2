-- No input has too many bytes for `judge`.
use Rattle.std.specs.Prelude.{◌≡◌, ◌≤◌, ◌<◌, ◌+◌, ◌*◌, ◌==◌, ◌&&◌, not, nat_le, ℕ, Bool, true, false}
use Rattle.std.specs.Prelude.{List, [], ◌∷◌, cond, Option, None, Some, Ok}
use Rattle.std.specs.Option.{option_or}
use Rattle.std.proofs.Common.{refl, arith, lit≤}
use Rattle.std.proofs.lemmas.Bool.{leb-false, leb-true}
use Rattle.pp_input.specs.declared.fault.LineFault.{LineFault}
use Rattle.pp_input.specs.declared.fault.LineFault.TheVariants as limits
use Rattle.pp_input.specs.declared.reach.Reach.{Reach}
use Rattle.pp_input.specs.Overruns.{overrun}
use Rattle.pp_input.specs.Reaches.{overrun_from}
use Rattle.pp_input.proofs.Overruns.{start_overrun}
use Rattle.pp_format_read.specs.declared.fault.RecordFault.{RecordFault}
use Rattle.pp_format_read.specs.declared.fault.RecordFault.TheVariants as faults
use Rattle.pp_input_reader.specs.declared.cause.Cause.TheVariants as causes
use Rattle.pp_input_reader.specs.Limits.{limit_fault}
use Rattle.pp_judge.specs.Causes.{cause_of}
use Rattle.pp_cmd_judge.specs.Inputs.{judge_limits, judge_scan}
use Rattle.pp_cmd_judge.specs.Judgements.{IsJudgeFault}
use Rattle.pp_cmd_judge.proofs.OtherCauses.{IsApart, IsOther, never, none_other, not_faulty, some_other}

-- ---- the limit that is passed

abbrev reach_at : (bytes lines column : ℕ) → Reach
reach_at bytes lines column = record {
  limits = judge_limits;
  bytes = bytes;
  lines = lines;
  column = column;
}

abbrev NotLong : Option LineFault → Type 0
NotLong o = (line : ℕ) → o ≡ Some (limits.TooLong line) → ⊥

-- So many lines have so many bytes at most, each with its end.
abbrev Fits : (bytes lines column : ℕ) → Type 0
Fits n l c = (n ≤ l * 65_537 + c) × (c ≤ 65_536) × (l ≤ judge_limits.lines)

room : (n l c : ℕ) → Fits n l c → nat_le judge_limits.bytes n ≡ false
room n l c fits = by (nat_le judge_limits.bytes n) refl
  where
    few : (bytes : ℕ) → 18_446_744_073_709_551_615 ≤ bytes → bytes ≤ l * 65_537 + c → c ≤ 65_536 → l ≤ 4_294_967_295 → ⊥
    few bytes a b d e = omega (arith, a, b, d, e)

    lines : (m : ℕ) → l ≤ m → m ≤ 4_294_967_295 → l ≤ 4_294_967_295
    lines m a b = omega (arith, a, b)

    by : (v : Bool) → nat_le judge_limits.bytes n ≡ v → v ≡ false
    by false is = refl
    by true is = absurd (few n (leb-true judge_limits.bytes n is) fits.0 fits.1 (lines judge_limits.lines fits.2 (lit≤ tt)))

-- the limits that a byte may pass otherwise
abbrev rest_of : (b c : Bool) (line : ℕ) → Option LineFault
rest_of b c line = cond b (Some (limits.TooManyLines line)) (cond c (Some (limits.LineTooLong line)) None)

not_long : (b c : Bool) (line : ℕ) (more : Option LineFault) → (b ≡ false → c ≡ false → NotLong more) → NotLong (option_or (rest_of b c line) more)
not_long true c line more h at is = absurd (cc)
not_long false true line more h at is = absurd (cc)
not_long false false line more h at is = h refl refl at is

end_fits : (n l c most : ℕ) → n ≤ l * 65_537 + c → c ≤ 65_536 → l < most → (n + 1 ≤ (l + 1) * 65_537 + 0) × (l + 1 ≤ most)
end_fits n l c most a b d = (omega (arith, a, b), omega (arith, d))

more_fits : (n l c : ℕ) → n ≤ l * 65_537 + c → c < 65_536 → (n + 1 ≤ l * 65_537 + (c + 1)) × (c + 1 ≤ 65_536)
more_fits n l c a b = (omega (arith, a), omega (arith, b))

next_not_long : (v : Bool) (n l c : ℕ) (xs : List ℕ) → (l < judge_limits.lines → NotLong (overrun_from (reach_at (n + 1) (l + 1) 0) xs))
    → (c < judge_limits.line_bytes → NotLong (overrun_from (reach_at (n + 1) l (c + 1)) xs))
    → l < judge_limits.lines → (not v && nat_le judge_limits.line_bytes c) ≡ false
    → NotLong (overrun_from (cond {A = Reach} v (reach_at (n + 1) (l + 1) 0) (reach_at (n + 1) l (c + 1))) xs)
next_not_long true n l c xs ended more lines column = ended lines
next_not_long false n l c xs ended more lines column = more (leb-false judge_limits.line_bytes c column)

overrun_not_long : (n l c : ℕ) (bytes : List ℕ) → Fits n l c → NotLong (overrun_from (reach_at n l c) bytes)
overrun_not_long n l c [] fits = λ line is. absurd (cc)
overrun_not_long n l c (x ∷ xs) fits =
    rw (room n l c fits)
    (not_long (nat_le judge_limits.lines l) (not (x == 10) && nat_le judge_limits.line_bytes c) (l + 1) _ (λ lines column.
    next_not_long (x == 10) n l c xs
    (λ few.
    let k = end_fits n l c judge_limits.lines fits.0 fits.1 few in
    overrun_not_long (n + 1) (l + 1) 0 xs (k.0, lit≤ tt, k.1))
    (λ short.
    let k = more_fits n l c fits.0 short in
    overrun_not_long (n + 1) l (c + 1) xs (k.0, k.1, fits.2))
    (leb-false judge_limits.lines l lines) column))

limit_any : (bytes : List ℕ) → NotLong (overrun judge_limits bytes)
limit_any bytes = rw (← start_overrun judge_limits bytes) (overrun_not_long 0 0 0 bytes (lit≤ tt, lit≤ tt, lit≤ tt))

limit_fault_any : (o : Option LineFault) → NotLong o → IsOther causes.TooLong (limit_fault o)
limit_fault_any None h = none_other causes.TooLong
limit_fault_any (Some (limits.TooLong at)) h = λ line is. h at refl
limit_fault_any (Some (limits.TooManyLines at)) h = some_other causes.TooLong at causes.TooManyLines (λ no. absurd (cc))
limit_fault_any (Some (limits.LineTooLong at)) h = some_other causes.TooLong at causes.LineTooLong (λ no. absurd (cc))
limit_fault_any (Some limits.OutOfMemory) h = none_other causes.TooLong

-- ---- the faults of lines

cause_any : (fault : RecordFault) → cause_of fault ≡ Ok causes.TooLong → ⊥
cause_any faults.NotJson h = absurd (cc)
cause_any faults.NotObject h = absurd (cc)
cause_any (faults.Missing member) h = absurd (cc)
cause_any (faults.WrongType member) h = absurd (cc)
cause_any (faults.OutOfRange member) h = absurd (cc)
cause_any (faults.BadName member) h = absurd (cc)
cause_any faults.UnknownStyle h = absurd (cc)
cause_any faults.UnknownKind h = absurd (cc)
cause_any faults.RepeatedObject h = absurd (cc)
cause_any faults.TooManyObjects h = absurd (cc)
cause_any faults.TooManyStart h = absurd (cc)
cause_any faults.UnknownObject h = absurd (cc)
cause_any faults.UnknownCall h = absurd (cc)
cause_any faults.UnknownStep h = absurd (cc)
cause_any faults.BodyBad h = absurd (cc)
cause_any faults.BodyTooLarge h = absurd (cc)
cause_any faults.OutOfMemory h = absurd (cc)

apart : IsApart causes.TooLong
apart = record {
  read = cause_any;
  many = λ no. absurd (cc);
  header = λ no. absurd (cc);
}

-- the fault of an input is never that it has too many bytes
pub any_length : (bytes : List ℕ) (line : ℕ) → IsJudgeFault (judge_scan bytes) (Some (line, causes.TooLong)) → ⊥
any_length bytes = not_faulty (judge_scan bytes) causes.TooLong (λ no. absurd (cc)) (never causes.TooLong apart bytes (limit_fault_any (overrun judge_limits bytes) (limit_any bytes)))
