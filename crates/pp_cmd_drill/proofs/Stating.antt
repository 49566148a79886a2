-- The run can be stated, and so its text is read back as its steps.
use Rattle.std.proofs.Common.{◌≡◌, ℕ, zero, suc, ◌+◌, ◌*◌, ◌/◌, ◌%◌, ◌^◌, ◌<◌, ◌≤◌, pos, Bool, true, false, cond, ◌&&◌, List, [], ◌∷◌, ◌++◌, map, codes, slice_get, Some, None, Result, Ok, refl, sym, ap, subst, ◌∙◌, arith}
use Rattle.std.proofs.lemmas.Bool.Decides.{nat_tests}
use Rattle.std.proofs.lemmas.Fmt.{decimal_by_steps, length-decimal-le}
use Rattle.std.proofs.lemmas.List.Folds.{list_all-append}
use Rattle.std.proofs.lemmas.List.Recursion.{is_count_by}
use Rattle.std.specs.Fmt.{decimal}
use Rattle.std.specs.List.{count_by, list_all}
use Rattle.std.specs.Map.{keys_of}
use Rattle.pp_core.specs.Catalogs.{HasDistinctNames, place_of}
use Rattle.pp_core.specs.Names.{IsName, is_name_byte}
use Rattle.pp_core.specs.Steps.{Step}
use Rattle.pp_records.specs.Records.{RunRecord, Plain}
use Rattle.pp_format_read.specs.Records.{record_of}
use Rattle.pp_format_read.specs.declared.fault.RecordFault.{RecordFault}
use Rattle.pp_format_write.specs.Statable.{IsCatalog, IsId, IsStatable, IsStatableRun, is_begin}
use Rattle.pp_format_write.specs.Steps.{step_bytes}
use Rattle.pp_model.specs.Lists.{Each}
use Rattle.pp_format_write.proofs.HeadersBack as headers
use Rattle.pp_format_write.proofs.RunTexts.{all_show, text_passes, text_scanned, text_short}
use Rattle.pp_format_write.proofs.StepsBack as steps
use Rattle.pp_kind.specs.Numbers.{in_range}
use Rattle.pp_objects.specs.declared.act.Op.{Op}
use Rattle.pp_cmd_drill.specs.Drill.{drill_catalog, drill_steps, name_of, first_thread, second_thread, id_of, pulls, first_apps, second_apps, endings, ending, pair, pairs, unpaired, left_over}
use Rattle.pp_cmd_drill.specs.Text.{drill_header, IsReadBack}
use Rattle.pp_cmd_drill.proofs.Lengths.{drill_length}
use Rattle.pp_judge.proofs.Stating.{each_append}

-- Each of these steps can be stated.
abbrev pub AreStatable : List (Step Op) → Type 0
AreStatable steps = Each (IsStatable drill_catalog) steps

-- Names.
digit_byte : (d : ℕ) → d < 10 → is_name_byte (48 + d) ≡ true
digit_byte d h = grind (arith, nat_tests)

digit_bytes : (k : ℕ) → k < 2 ^ 64 → list_all is_name_byte (decimal k) ≡ true
digit_bytes k h =
    decimal_by_steps (λ n ds. list_all is_name_byte ds ≡ true)
    (λ n j. ap (λ (b : Bool). b && true) (digit_byte n j))
    (λ n ds j e. list_all-append is_name_byte ds ((48 + n % 10) ∷ []) ∙ ap (λ (b : Bool). b && (is_name_byte (48 + n % 10) && true)) e ∙ ap (λ (b : Bool). b && true) (digit_byte (n % 10) (omega arith)))
    k h

-- The names of the transactions up to 20,000 are names.
pub is_name : (k : ℕ) → k ≤ 20000 → IsName (name_of k)
is_name k h =
    record {
      some = omega arith;
      few = let l = length-decimal-le 5 k (omega arith) (omega arith) (omega arith) in omega arith;
      bytes = digit_bytes k (omega arith);
    }

-- Numbers.
is_ranged : (v : ℕ) → v ≤ 20000 → in_range (pos v) ≡ true
is_ranged v h = grind (arith, nat_tests)

is_id : (k i : ℕ) → k ≤ 20000 → i ≤ 4 → IsId (id_of k i)
is_id k i h j = omega arith

-- The steps of two transactions can be stated.
pulls_stated : (p a : ℕ) → a ≡ 2 * p + 1 → a ≤ 20000 → AreStatable (pulls p a)
pulls_stated zero a e h = tt
pulls_stated (suc q) a e h = ((is_name a h, is_id (2 * q + 1) 2 (omega arith) (omega arith)), tt)

first_stated : (p a : ℕ) → suc p ≤ a → a ≤ 20000 → AreStatable (first_apps p a)
first_stated p a l h =
    let n = is_name a h in
    let few : in_range (pos (a % 7)) ≡ true = is_ranged (a % 7) (let m : a % 7 < 7 = omega arith in omega arith) in (
      (n, is_id a 1 h (omega arith), (refl, is_ranged p (omega arith))),
      (
        (n, is_id a 2 h (omega arith), (refl, is_ranged (suc p) (omega arith))),
        (
          (n, is_id a 3 h (omega arith), (refl, few)),
          ((n, is_id a 4 h (omega arith), (refl, is_ranged a h)), tt),
        ),
      ),
    )

second_stated : (b : ℕ) → b ≤ 20000 → AreStatable (second_apps b)
second_stated b h =
    let n = is_name b h in
    let few : in_range (pos (b % 7)) ≡ true = is_ranged (b % 7) (let m : b % 7 < 7 = omega arith in omega arith) in
    ((n, is_id b 1 h (omega arith), (refl, few)), ((n, is_id b 2 h (omega arith), (refl, is_ranged b h)), tt))

endings_stated : (a b : ℕ) → a ≤ 20000 → b ≤ 20000 → AreStatable (endings a b)
endings_stated a b h k =
    let n = is_name a h in
    let m = is_name b k in
    let i : (j : ℕ) → j ≤ 4 → IsId (id_of a j) = λ j. is_id a j h in
    let o : (j : ℕ) → j ≤ 4 → IsId (id_of b j) = λ j. is_id b j k in
    ((n, i 1 (omega arith)), ((m, o 1 (omega arith)), ((n, i 2 (omega arith)), ((m, o 2 (omega arith)), ((n, i 3 (omega arith)), ((n, i 4 (omega arith)), (m, (n, tt))))))))

ending_stated : (a : ℕ) → a ≤ 20000 → AreStatable (ending a)
ending_stated a h =
    let n = is_name a h in
    let i : (j : ℕ) → j ≤ 4 → IsId (id_of a j) = λ j. is_id a j h in
    ((n, i 1 (omega arith)), ((n, i 2 (omega arith)), ((n, i 3 (omega arith)), ((n, i 4 (omega arith)), (n, tt)))))

-- The name of the first thread is a name.
pub first_is_name : IsName first_thread
first_is_name = record { some = omega arith; few = omega arith; bytes = refl }

-- The name of the second thread is a name.
pub second_is_name : IsName second_thread
second_is_name = record { some = omega arith; few = omega arith; bytes = refl }

pair_stated : (p a b : ℕ) → a ≡ 2 * p + 1 → b ≡ 2 * p + 2 → b ≤ 20000 → AreStatable (pair p a b)
pair_stated p a b e f h =
    let k : a ≤ 20000 = omega arith in
    let P = IsStatable drill_catalog in (
      (is_name a k, first_is_name, tt),
      (
        (is_name b h, second_is_name, tt),
        each_append P (pulls p a) (first_apps p a ++ (second_apps b ++ endings a b)) (pulls_stated p a e k)
            (each_append P (first_apps p a) (second_apps b ++ endings a b) (first_stated p a (omega arith) k)
            (each_append P (second_apps b) (endings a b) (second_stated b h) (endings_stated a b k h))),
      ),
    )

unpaired_stated : (p a : ℕ) → a ≡ 2 * p + 1 → a ≤ 20000 → AreStatable (unpaired p a)
unpaired_stated p a e h =
    let P = IsStatable drill_catalog in (
      (is_name a h, first_is_name, tt),
      each_append P (pulls p a) (first_apps p a ++ ending a) (pulls_stated p a e h) (each_append P (first_apps p a) (ending a) (first_stated p a (omega arith) h) (ending_stated a h)),
    )

pairs_stated : (p : ℕ) → 2 * p ≤ 20000 → AreStatable (pairs p)
pairs_stated zero h = tt
pairs_stated (suc p) h = each_append (IsStatable drill_catalog) (pairs p) (pair p (2 * p + 1) (2 * p + 2)) (pairs_stated p (omega arith)) (pair_stated p (2 * p + 1) (2 * p + 2) refl refl (omega arith))

left_stated : (r p : ℕ) → 2 * p + r ≤ 20000 → AreStatable (left_over r p)
left_stated zero p h = tt
left_stated (suc r) p h = unpaired_stated p (2 * p + 1) refl (omega arith)

-- For n up to 20,000, each step of the run can be stated.
pub steps_stated : (n : ℕ) → n ≤ 20000 → AreStatable (drill_steps n)
steps_stated n high =
    let q = n / 2 in
    let r = n % 2 in
    each_append (IsStatable drill_catalog) (pairs q) (left_over r q) (pairs_stated q (omega arith)) (left_stated r q (omega arith))

-- How many of the steps begin a transaction.
abbrev pub begins : List (Step Op) → ℕ
begins [] = 0
begins (s ∷ ss) = cond (is_begin s) (1 + begins ss) (begins ss)

-- The two counts of the steps that begin a transaction are equal.
pub begins_are : (ss : List (Step Op)) → begins ss ≡ count_by is_begin ss
begins_are ss = is_count_by begins is_begin refl (λ s ss. refl) ss

one_more_begun : (b : Bool) (n m k : ℕ) → n ≡ m + k → cond b (1 + n) n ≡ cond b (1 + m) m + k
one_more_begun true n m k e = omega arith
one_more_begun false n m k e = e

begins_both : (ss ts : List (Step Op)) → begins (ss ++ ts) ≡ begins ss + begins ts
begins_both [] ts = omega arith
begins_both (s ∷ ss) ts = one_more_begun (is_begin s) (begins (ss ++ ts)) (begins ss) (begins ts) (begins_both ss ts)

pair_begins : (p a b : ℕ) → begins (pair p a b) ≡ 2
pair_begins zero a b = refl
pair_begins (suc q) a b = refl

unpaired_begins : (p a : ℕ) → begins (unpaired p a) ≡ 1
unpaired_begins zero a = refl
unpaired_begins (suc q) a = refl

pairs_begin : (p : ℕ) → begins (pairs p) ≡ 2 * p
pairs_begin zero = refl
pairs_begin (suc p) =
    let e = begins_both (pairs p) (pair p (2 * p + 1) (2 * p + 2)) in
    let f = pair_begins p (2 * p + 1) (2 * p + 2) in
    let g = pairs_begin p in omega arith

left_begins : (r p : ℕ) → r < 2 → begins (left_over r p) ≡ r
left_begins zero p h = refl
left_begins (suc r) p h = let e = unpaired_begins p (2 * p + 1) in omega arith

drill_begins : (n : ℕ) → count_by is_begin (drill_steps n) ≡ n
drill_begins n =
    let q = n / 2 in
    let r = n % 2 in
    let e = begins_both (pairs q) (left_over r q) in
    let f = pairs_begin q in
    let g = left_begins r q (omega arith) in
    let h = begins_are (drill_steps n) in
    omega arith

-- The objects of the catalog.
found_at : (i : ℕ) (name : List ℕ) → slice_get (keys_of drill_catalog) i ≡ Some name → place_of name drill_catalog ≡ Some i
found_at zero name e = let f : codes "m" ≡ name = cc in subst (λ (x : List ℕ). place_of x drill_catalog ≡ Some 0) f refl
found_at (suc zero) name e = let f : codes "c" ≡ name = cc in subst (λ (x : List ℕ). place_of x drill_catalog ≡ Some 1) f refl
found_at (suc (suc zero)) name e = let f : codes "s" ≡ name = cc in subst (λ (x : List ℕ). place_of x drill_catalog ≡ Some 2) f refl
found_at (suc (suc (suc i))) name e = absurd (let f : None ≡ Some name = e in cc)

distinct : HasDistinctNames drill_catalog
distinct name i j e f = let g : Some i ≡ Some j = sym (found_at i name e) ∙ found_at j name f in cc

short_name : (b : ℕ) → is_name_byte b ≡ true → IsName (b ∷ [])
short_name b h = record { some = omega arith; few = omega arith; bytes = ap (λ (x : Bool). x && true) h }

-- The name m is a name.
pub m_is_name : IsName (codes "m")
m_is_name = short_name 109 refl

-- The name c is a name.
pub c_is_name : IsName (codes "c")
c_is_name = short_name 99 refl

-- The name s is a name.
pub s_is_name : IsName (codes "s")
s_is_name = short_name 115 refl

is_catalog : IsCatalog drill_catalog
is_catalog = record { few = omega arith; distinct = distinct; named = (m_is_name, (c_is_name, (s_is_name, tt))) }

drill_statable : (n : ℕ) → 1 ≤ n → n ≤ 20000 → IsStatableRun drill_catalog None (drill_steps n)
drill_statable n low high =
    record {
      over = is_catalog;
      begun = tt;
      each = steps_stated n high;
      few = let l = drill_length n low in omega arith;
      begins = let b = drill_begins n in omega arith;
    }

-- The lines of the steps are read back one by one.
read_in_turn : (ss : List (Step Op)) → AreStatable ss → map (record_of drill_header) (map (step_bytes drill_catalog) ss) ≡ map (λ step. Ok (Plain step)) ss
read_in_turn [] h = refl
read_in_turn (s ∷ ss) h =
    ap (λ (r : Result (RunRecord Op) RecordFault). r ∷ map (record_of drill_header) (map (step_bytes drill_catalog) ss)) (steps.reads_back drill_header s refl is_catalog h.0)
    ∙ ap (λ (rs : List (Result (RunRecord Op) RecordFault)). Ok (Plain s) ∷ rs) (read_in_turn ss h.1)

-- For n from 1 to 20,000, the text is read back as the steps of the run, within all limits.
pub drill_reads : (n : ℕ) → 1 ≤ n → n ≤ 20000 → IsReadBack n
drill_reads n low high =
    let h = drill_statable n low high in
    let ss = drill_steps n in
    record {
      statable = h;
      begun = drill_begins n;
      within = text_passes drill_catalog None ss h;
      short = text_short drill_catalog None ss h;
      lines = text_scanned drill_catalog None ss h;
      shown = all_show drill_catalog None ss;
      header = headers.reads_back drill_catalog None is_catalog tt;
      records = read_in_turn ss h.each;
    }
