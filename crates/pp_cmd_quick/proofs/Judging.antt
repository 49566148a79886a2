-- What the summary as a judge concludes from a start and from one more record.
use Rattle.std.specs.Prelude.{◌≡◌, ◌≤◌, ◌<◌, ◌+◌, ℕ, length, true, false, List, [], ◌∷◌, ◌++◌, filter, cond, Bool, Option, None, Some}
use Rattle.std.proofs.Common.{refl, lit≤, sym, ap, ◌∙◌, subst, arith}
use Rattle.std.proofs.lemmas.List.{length-append}
use Rattle.std.proofs.lemmas.List.Elements.{filter-append}
use mathlib.Core.Logic.{inl, inr}
use Rattle.pp_core.specs.declared.call.Kind.{Kind}
use Rattle.pp_core.specs.declared.call.Style.TheVariants.{Boosted}
use Rattle.pp_records.specs.Records.{RunRecord}
use Rattle.pp_records.specs.Runs.{Lined, Records, bare}
use Rattle.pp_records.proofs.Ends.{bare_append, heads, tails}
use Rattle.pp_format_read.specs.declared.header.Header.{Header}
use Rattle.pp_objects.specs.declared.act.Op.{Op}
use Rattle.pp_objects.specs.Objects.{kinds_of, objects, place_of}
use Rattle.pp_summary.specs.Brief.{Brief}
use Rattle.pp_summary.specs.Held.{Held, TakeCosts, Takes, held_first, take_most}
use Rattle.pp_summary.specs.Runs.{IsBoosted, brief_after}
use Rattle.pp_summary.specs.Sums.{AreTried, count_ops, is_op, records_most}
use Rattle.pp_summary.proofs.Sums.{sum_law}
use Rattle.pp_input_reader.specs.declared.cause.Cause.{Cause}
use Rattle.pp_input_reader.specs.declared.cause.Cause.TheVariants.{NotBoosted}
use Rattle.pp_judge.specs.Costs.{start_at_most, start_length}
use Rattle.pp_judge.specs.Judging.{CostsAtMostThere, Judges, MayTake}
use Rattle.pp_judge.specs.Objects.{object_of, start_of}
use Rattle.pp_judge.specs.Tallies.{headed, one_more, scan_of}
use Rattle.pp_judge.specs.declared.judge.Judged.TheVariants.{Good, Rejected}
use Rattle.pp_judge.proofs.Starting.{start_twice}
use Rattle.pp_cmd_quick.specs.Costs.{OfTaken, RecordsCostAtMost, TakenCostAtLeast, first_brief, tried_most}
use Rattle.pp_cmd_quick.specs.DeciderLaws.{Least, boosted_is}
use Rattle.pp_cmd_quick.specs.Decisions.{is_boosted, quick_fault}
use Rattle.pp_cmd_quick.specs.Taking.{AreGoodBehind, StartsQuick, quick_judging}
use Rattle.pp_cmd_quick.specs.declared.decider.Decider.{Decider}
use Rattle.pp_cmd_quick.proofs.Readers.{all_tried, brief_is, fails_next, good_runs, reads}

-- ---- numbers

tried_next : (old now new s m t u n : ℕ) → now ≤ old + (s + m) → m + u ≤ n → t ≡ u → new ≤ now + t → new ≤ old + (s + n)
tried_next old now new s m t u n x y e z = omega (arith, x, y, e, z)

ops_next : (old now new a b : ℕ) → old + a ≤ now → now + b ≤ new + a → old + b ≤ new
ops_next old now new a b x y = omega (arith, x, y)

fewer_ops : (old now new a b : ℕ) → old + a ≤ now → now ≤ new → b ≤ a → old + b ≤ new
fewer_ops old now new a b x y e = omega (arith, x, y, e)

no_ops : (old new : ℕ) → old ≤ new → old + 0 ≤ new
no_ops old new x = omega (arith, x)

with_none : (old new s : ℕ) → new ≤ old + s → new ≤ old + (s + 0)
with_none old new s x = omega (arith, x)

-- ---- the start

-- No record of an empty list fails.
no_parts : {A : Type 0} (b z : List A) (x : A) → [] ≡ b ++ x ∷ z → ⊥
no_parts [] z x e = absurd (cc)
no_parts (y ∷ b) z x e = absurd (cc)

module _ (line : ℕ) (h : Header) where
  -- If the header is not boosted, that is the fault of its line.
  pub not_boosted : is_boosted h.style ≡ false → quick_fault (scan_of (headed line h) []) ≡ Some (line, NotBoosted)
  not_boosted is = ap (λ (b : Bool). let o : Option (ℕ × Cause) = cond b None (Some (line, NotBoosted)) in o) is

  module _ (boosted : is_boosted h.style ≡ true) where
    -- A boosted header without records is good if its start meets its criteria.
    pub begun_good : (quick : Held (List Kind) Op) → StartsQuick h true quick → quick_judging.IsGood (headed line h) [] (record { quick = quick })
    begun_good quick s =
        let kinds : List Kind = kinds_of h.catalog in
        let good : AreGoodBehind h [] (held_first objects place_of kinds (start_of h)) = record {
          style = boosted_is h.style boosted;
          shape = refl;
          few = lit≤ tt;
          read = (reads kinds (start_of h)).nothing kinds s.0;
        } in
        subst (λ (q : Held (List Kind) Op). AreGoodBehind h [] q) (sym s.1) good

    -- A boosted header without records is rejected on its line if its start does not meet its criteria.
    pub begun_bad : (quick : Held (List Kind) Op) → StartsQuick h false quick → quick_judging.IsRejectedBy (headed line h) [] (record { line = line })
    begun_bad quick s = (boosted_is h.style boosted, inl (s, refl))

  -- If a counter rises by at most the cost of the start, it is within the upper bound of a header without records.
  pub begun_twice : (old new : ℕ) → new ≤ old + start_at_most (start_of h) → RecordsCostAtMost (scan_of (headed line h) []) old new
  begun_twice old new cost tried k = subst (λ (l : List (RunRecord Op)). new ≤ old + tried_most h l) (sym k) (with_none old new (start_at_most (start_of h)) cost)

  -- A counter that rises by at most the length of the start is within the upper bound of a header without records.
  pub begun_most : (old new : ℕ) → new ≤ old + start_length (start_of h) → RecordsCostAtMost (scan_of (headed line h) []) old new
  begun_most old new cost = begun_twice old new (start_twice old new (start_of h) cost)

  -- A counter that does not fall meets the lower bound of an accepted header without records.
  pub begun_good_least : (old new : ℕ) → old ≤ new → quick_judging.GoodAtLeast (scan_of (headed line h) []) old new
  begun_good_least old new rises = no_ops old new rises

  -- Any counter meets the lower bound of a rejected header without records.
  pub begun_bad_least : (old new : ℕ) → TakenCostAtLeast (scan_of (headed line h) []) old new
  begun_bad_least old new r f = absurd (no_parts f.before f.behind r f.parts)

-- ---- a record

abbrev on_line : ℕ → RunRecord Op → Lined (RunRecord Op)
on_line line r = record { line = line; what = r }

-- More records have at least as many operations.
ops_append : (xs ys : List (RunRecord Op)) → count_ops xs ≤ count_ops (xs ++ ys)
ops_append xs ys =
    let all = ap (λ (z : List (RunRecord Op)). length z) (filter-append is_op xs ys) in
    let both = length-append (filter is_op xs) (filter is_op ys) in
    omega (arith, all, both)

-- What is before an element of `xs ++ y ∷ []` is the beginning of `xs`.
front_of : {A : Type 0} (xs b z : List A) (y x : A) → xs ++ y ∷ [] ≡ b ++ x ∷ z → (w : List A) × (xs ≡ b ++ w)
front_of xs [] z y x e = (xs, refl)
front_of [] (d ∷ b) z y x e = absurd (no_parts b z x (tails y d [] (b ++ x ∷ z) e))
front_of {A} (g ∷ xs) (d ∷ b) z y x e =
    let k = front_of xs b z y x (tails g d (xs ++ y ∷ []) (b ++ x ∷ z) e) in
    (k.0, ap (λ (w : List A). g ∷ w) k.1 ∙ ap (λ (w : A). w ∷ (b ++ k.0)) (heads g d (xs ++ y ∷ []) (b ++ x ∷ z) e))

ops_before : (rs before behind : Records (RunRecord Op)) (it r : Lined (RunRecord Op)) → rs ++ it ∷ [] ≡ before ++ r ∷ behind → count_ops (bare before) ≤ count_ops (bare rs)
ops_before rs before behind it r e =
    let k = front_of rs before behind it r e in
    let same = ap (λ (z : Records (RunRecord Op)). count_ops (bare z)) k.1 in
    let parted = ap (λ (z : List (RunRecord Op)). count_ops z) (bare_append before k.0) in
    omega (arith, same, parted, ops_append (bare before) (bare k.0))

-- If the counter rose by one for each operation of some records, it is within the lower bound of these and one that fails.
pub failed_least : (header : Lined Header) (rs : Records (RunRecord Op)) (it : Lined (RunRecord Op)) (old now new : ℕ) → old + count_ops (bare rs) ≤ now → now ≤ new → OfTaken (Some header) (rs ++ it ∷ []) (Least old new)
failed_least header rs it old now new least rises r f =
    fewer_ops old now new (count_ops (bare rs)) (count_ops (bare f.before)) least rises (ops_before rs f.before f.behind it r f.parts)

-- A run may have one more record.
pub below_most : (h : Header) (judge : Decider) → MayTake quick_judging h judge → judge.quick.count < 4_294_967_294
below_most h judge may = let room : length may.1 + 1 < 200_001 = may.3 in omega (arith, may.2.read.count, room)

module _ (h : Header) (judge : Decider) (r : RunRecord Op) (line now new : ℕ) where
  -- If the counter rises by at most the cost of taking a record, it is within the upper bound of the record.
  pub judges_most : new ≤ now + take_most judge.quick.brief r → CostsAtMostThere quick_judging h judge r line now new
  judges_most cost at rs c old most tried k =
      let B = first_brief h in
      let it : Lined (RunRecord Op) = record { line = line; what = r } in
      let here : now ≤ old + tried_most h (bare rs) = most (bare rs) (all_tried h rs judge.quick c) in
      let same : take_most judge.quick.brief r ≡ take_most (brief_after place_of B (bare rs)) r = ap (λ (b : Brief Op). take_most b r) (brief_is h rs judge.quick c) in
      let parted = subst (λ (l : List (RunRecord Op)). AreTried (object_of h) place_of B l tried) (bare_append rs (it ∷ [])) k in
      let law = (sum_law (object_of h) place_of).next B (bare rs) [] tried r (good_runs h rs judge.quick c) parted in
      tried_next old now new (start_at_most (start_of h)) (records_most place_of B (bare rs)) (take_most judge.quick.brief r) (take_most (brief_after place_of B (bare rs)) r) (records_most place_of B tried) here law same cost

  -- If a record is taken, it is judged to be good.
  pub judges_good : (next : Held (List Kind) Op) → judge.quick.count < 4_294_967_294 → IsBoosted r → Takes objects place_of judge.quick r true next → next.shape ≡ judge.quick.shape → TakeCosts judge.quick.brief r true now new
      → Judges quick_judging h judge r line (Good (record { quick = next })) now new
  judges_good next below boosted takes shape cost = record {
    is = λ at rs c.
        let read_next = (reads (kinds_of h.catalog) (start_of h)).more rs (record { line = line; what = r }) judge.quick next boosted c.read takes in
        record {
          style = c.style;
          shape = shape ∙ c.shape;
          few = omega (arith, below, c.read.count, read_next.count, length-append rs (on_line line r ∷ []));
          read = read_next;
        };
    least = λ at rs c old least.
        let more = (sum_law (object_of h) place_of).least judge.quick.brief (bare rs) r now new cost in
        let same : count_ops (bare (one_more rs line r)) ≡ count_ops (bare rs ++ r ∷ []) = ap (λ (l : List (RunRecord Op)). count_ops l) (bare_append rs (record { line = line; what = r } ∷ [])) in
        subst (λ (n : ℕ). old + n ≤ new) (sym same) (ops_next old now new (count_ops (bare rs)) (count_ops (bare rs ++ r ∷ [])) least more);
  }

  -- If a record is not taken, it is judged to be the one that is rejected.
  pub judges_bad : (next : Held (List Kind) Op) → Takes objects place_of judge.quick r false next → now ≤ new → Judges quick_judging h judge r line (Rejected (record { line = line })) now new
  judges_bad next takes rises = record {
    is = λ at rs c. (c.style, inr (record { line = line; what = r }, fails_next h rs judge.quick c (record { line = line; what = r }) next takes, refl));
    least = λ at rs c old least. failed_least (headed at h) rs (record { line = line; what = r }) old now new least rises;
  }
