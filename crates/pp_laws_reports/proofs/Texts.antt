-- The committed transactions can be read back from the report.
use Rattle.std.proofs.Common.{◌≡◌, ◌<◌, ℕ, ◌^◌, ◌==◌, Bool, true, false, List, [], ◌∷◌, ◌++◌}
use Rattle.std.proofs.Common.{subst, length, decimal, codes, flat_map, refl, sym, ap, ◌∙◌, arith, append_assoc}
use Rattle.std.specs.Map.{keys_of}
use Rattle.std.proofs.lemmas.List.{append_cancel_left}
use Rattle.std.proofs.lemmas.Fmt.{decimal_injective}
use Rattle.pp_core.specs.Catalogs.{Objects, HasDistinctNames, HasNames}
use Rattle.pp_core.specs.Names.{IsName, is_name_byte}
use Rattle.pp_core.specs.declared.entry.CommittedTx.{CommittedTx}
use Rattle.pp_core.specs.declared.entry.Item.{Item}
use Rattle.pp_format_write.specs.Statable.{IsId, IsOpOn}
use Rattle.pp_model.specs.Lists.{Each}
use Rattle.pp_objects.specs.declared.act.Op.{Op}
use Rattle.pp_objects.specs.declared.states.ObjectState.{ObjectState}
use Rattle.pp_text.specs.Lines.{op_line, state_lines}
use Rattle.pp_text.specs.Texts.{op_bytes}
use Rattle.pp_report.specs.Reports.{accepted_text, all_tx_lines}
use Rattle.pp_cmd_quick.specs.Reports.{quick_accepted_text}
use Rattle.pp_laws_reports.specs.Readable.{ArePrintable, IsPrintable, IsReadable, IsUnbroken, TextLaw, text_with}
use Rattle.pp_laws_reports.proofs.Splits.{Only, Stops, all_only, only_all, only_append, only_other, other_than, split}
use Rattle.pp_laws_reports.proofs.Numbers.{decimal_only, is_digit}
use Rattle.pp_laws_reports.proofs.Operations.{same_op}
use Rattle.pp_laws_reports.proofs.States.{same_names, states_stop}

-- the first byte of an `op` line, and the first byte of a `tx` line
abbrev is_o : ℕ → Bool
is_o b = b == 111

abbrev is_t : ℕ → Bool
is_t b = b == 116

not_here : {A : Type 0} (c : ℕ) (u w : List ℕ) → Stops (λ b. b == c) u → (c == c) ≡ true → u ≡ c ∷ w → A
not_here c [] w stops same e = absurd (cc)
not_here c (b ∷ u) w stops same e =
    let first : b ≡ c = cc in
    absurd (let one : (b == c) ≡ (c == c) = ap (λ (n : ℕ). n == c) first in let all : false ≡ true = sym stops ∙ one ∙ same in cc)

-- ---- operations

abbrev after_id : Objects → Item Op → List ℕ → List ℕ
after_id catalog p rest = op_bytes catalog p.op ++ 10 ∷ rest

abbrev after_o : Objects → Item Op → List ℕ → List ℕ
after_o catalog p rest = 112 ∷ 32 ∷ (decimal p.id ++ 32 ∷ after_id catalog p rest)

grouped : (id : ℕ) (text rest : List ℕ) → codes "op " ++ decimal id ++ codes " " ++ text ++ codes "\n" ++ rest ≡ 111 ∷ 112 ∷ 32 ∷ (decimal id ++ 32 ∷ (text ++ 10 ∷ rest))
grouped id text rest = simp append_assoc

op_regrouped : (catalog : Objects) (p : Item Op) (rest : List ℕ) → op_line catalog p ++ rest ≡ 111 ∷ after_o catalog p rest
op_regrouped catalog p rest = grouped p.id (op_bytes catalog p.op) rest

abbrev ops_then : Objects → List (Item Op) → List ℕ → List ℕ
ops_then catalog ps rest = flat_map (op_line catalog) ps ++ rest

ops_regrouped : (catalog : Objects) (p : Item Op) (ps : List (Item Op)) (rest : List ℕ) → ops_then catalog (p ∷ ps) rest ≡ 111 ∷ after_o catalog p (ops_then catalog ps rest)
ops_regrouped catalog p ps rest = append_assoc (op_line catalog p) (flat_map (op_line catalog) ps) rest ∙ op_regrouped catalog p (ops_then catalog ps rest)

abbrev IsPrintableItem : Objects → Item Op → Type 0
IsPrintableItem catalog p = IsId p.id × IsOpOn catalog p.op

small_id : (id : ℕ) → IsId id → id < 2 ^ 64
small_id id h = omega arith

abbrev after_t : Objects → CommittedTx Op → List ℕ → List ℕ
after_t catalog tx rest = 120 ∷ 32 ∷ (tx.name ++ 10 ∷ ops_then catalog tx.entries rest)

abbrev txs_then : Objects → List (CommittedTx Op) → List ℕ → List ℕ
txs_then catalog txs rest = all_tx_lines catalog txs ++ rest

txs_regrouped : (catalog : Objects) (tx : CommittedTx Op) (txs : List (CommittedTx Op)) (rest : List ℕ) → txs_then catalog (tx ∷ txs) rest ≡ 116 ∷ after_t catalog tx (txs_then catalog txs rest)
txs_regrouped catalog tx txs rest = simp append_assoc

txs_stop : (catalog : Objects) (txs : List (CommittedTx Op)) (rest : List ℕ) → Stops is_o rest → Stops is_o (txs_then catalog txs rest)
txs_stop catalog [] rest h = h
txs_stop catalog (tx ∷ txs) rest h = refl

name_only : (name : List ℕ) → IsName name → Only (other_than 10) name
name_only name h = only_other is_name_byte 10 refl name (only_all is_name_byte name h.bytes)

abbrev an_item : ℕ → Op → Item Op
an_item id op = record { id = id; op = op }

both_of_item : (i j : ℕ) (x y : Op) → i ≡ j → x ≡ y → an_item i x ≡ an_item j y
both_of_item i j x y same_id same = ap (λ (n : ℕ). an_item n x) same_id ∙ ap (λ (z : Op). an_item j z) same

abbrev a_tx : List ℕ → List (Item Op) → CommittedTx Op
a_tx name entries = record { name = name; entries = entries }

both_of_tx : (m n : List ℕ) (ps qs : List (Item Op)) → m ≡ n → ps ≡ qs → a_tx m ps ≡ a_tx n qs
both_of_tx m n ps qs same_name same = ap (λ (w : List ℕ). a_tx w ps) same_name ∙ ap (λ (w : List (Item Op)). a_tx n w) same

cons_same : {A : Type 0} (x y : A) (xs ys : List A) → x ≡ y → xs ≡ ys → x ∷ xs ≡ y ∷ ys
cons_same x y xs ys head tails = cc

-- The two reports may be about different objects. The names of the objects come last in a report, so
-- until then each result has the premise that the names are the same.
module _ (catalog other : Objects) (names : HasNames catalog) (others : HasNames other) (distinct : HasDistinctNames catalog) where
  abbrev WithNames : Type 0 → Type 0
  WithNames P = keys_of catalog ≡ keys_of other → P

  same_item : (p q : Item Op) (u v : List ℕ) → IsPrintableItem catalog p → IsPrintableItem other q → after_o catalog p u ≡ after_o other q v → WithNames (p ≡ q) × (u ≡ v)
  same_item p q u v h k e =
      let ids : decimal p.id ++ 32 ∷ after_id catalog p u ≡ decimal q.id ++ 32 ∷ after_id other q v = cc in
      let two = split is_digit (decimal p.id) (decimal q.id) (32 ∷ after_id catalog p u) (32 ∷ after_id other q v) (decimal_only p.id) (decimal_only q.id) refl refl ids in
      let id : p.id ≡ q.id = decimal_injective p.id q.id (small_id p.id h.0) (small_id q.id k.0) two.0 in
      let bare : after_id catalog p u ≡ after_id other q v = let rest = two.1 in cc in
      let ops = same_op catalog other names others distinct p.op q.op u v h.1 k.1 bare in
      (λ keys. both_of_item p.id q.id p.op q.op id (ops.0 keys), ops.1)

  same_items : (ps qs : List (Item Op)) (u v : List ℕ) → Each (IsPrintableItem catalog) ps → Each (IsPrintableItem other) qs → Stops is_o u → Stops is_o v → ops_then catalog ps u ≡ ops_then other qs v → WithNames (ps ≡ qs) × (u ≡ v)
  same_items [] [] u v h k stops_u stops_v e = (λ keys. refl, e)
  same_items [] (q ∷ qs) u v h k stops_u stops_v e = not_here 111 u (after_o other q (ops_then other qs v)) stops_u refl (e ∙ ops_regrouped other q qs v)
  same_items (p ∷ ps) [] u v h k stops_u stops_v e = not_here 111 v (after_o catalog p (ops_then catalog ps u)) stops_v refl (sym e ∙ ops_regrouped catalog p ps u)
  same_items (p ∷ ps) (q ∷ qs) u v h k stops_u stops_v e =
      let heads : 111 ∷ after_o catalog p (ops_then catalog ps u) ≡ 111 ∷ after_o other q (ops_then other qs v) = sym (ops_regrouped catalog p ps u) ∙ e ∙ ops_regrouped other q qs v in
      let first = same_item p q (ops_then catalog ps u) (ops_then other qs v) h.0 k.0 (cc) in
      let more = same_items ps qs u v h.1 k.1 stops_u stops_v first.1 in
      (λ keys. cons_same p q ps qs (first.0 keys) (more.0 keys), more.1)

  same_tx : (x y : CommittedTx Op) (u v : List ℕ) → IsPrintable catalog x → IsPrintable other y → Stops is_o u → Stops is_o v → after_t catalog x u ≡ after_t other y v → WithNames (x ≡ y) × (u ≡ v)
  same_tx x y u v h k stops_u stops_v e =
      let named : x.name ++ 10 ∷ ops_then catalog x.entries u ≡ y.name ++ 10 ∷ ops_then other y.entries v = cc in
      let two = split (other_than 10) x.name y.name (10 ∷ ops_then catalog x.entries u) (10 ∷ ops_then other y.entries v) (name_only x.name h.named) (name_only y.name k.named) refl refl named in
      let bare : ops_then catalog x.entries u ≡ ops_then other y.entries v = let rest = two.1 in cc in
      let items = same_items x.entries y.entries u v h.each k.each stops_u stops_v bare in
      (λ keys. both_of_tx x.name y.name x.entries y.entries two.0 (items.0 keys), items.1)

  same_txs : (xs ys : List (CommittedTx Op)) (u v : List ℕ) → ArePrintable catalog xs → ArePrintable other ys → Stops is_o u → Stops is_o v → Stops is_t u → Stops is_t v → txs_then catalog xs u ≡ txs_then other ys v → WithNames (xs ≡ ys) × (u ≡ v)
  same_txs [] [] u v h k o_u o_v t_u t_v e = (λ keys. refl, e)
  same_txs [] (y ∷ ys) u v h k o_u o_v t_u t_v e = not_here 116 u (after_t other y (txs_then other ys v)) t_u refl (e ∙ txs_regrouped other y ys v)
  same_txs (x ∷ xs) [] u v h k o_u o_v t_u t_v e = not_here 116 v (after_t catalog x (txs_then catalog xs u)) t_v refl (sym e ∙ txs_regrouped catalog x xs u)
  same_txs (x ∷ xs) (y ∷ ys) u v h k o_u o_v t_u t_v e =
      let heads : 116 ∷ after_t catalog x (txs_then catalog xs u) ≡ 116 ∷ after_t other y (txs_then other ys v) = sym (txs_regrouped catalog x xs u) ∙ e ∙ txs_regrouped other y ys v in
      let first = same_tx x y (txs_then catalog xs u) (txs_then other ys v) h.0 k.0 (txs_stop catalog xs u o_u) (txs_stop other ys v o_v) (cc) in
      let more = same_txs xs ys u v h.1 k.1 o_u o_v t_u t_v first.1 in
      (λ keys. cons_same x y xs ys (first.0 keys) (more.0 keys), more.1)

-- ---- the whole text

text_regrouped : (first : List ℕ) (catalog : Objects) (a : List (CommittedTx Op)) (s : List ObjectState) → text_with first catalog a s ≡ first ++ 10 ∷ txs_then catalog a (state_lines catalog s)
text_regrouped first catalog a s = simp append_assoc

-- The committed transactions can be read back from the text of a report.
pub text_law : TextLaw
text_law catalog other first next a b s t here there unbroken whole h k e =
    let after_a = txs_then catalog a (state_lines catalog s) in
    let after_b = txs_then other b (state_lines other t) in
    let lines : first ++ 10 ∷ after_a ≡ next ++ 10 ∷ after_b = sym (text_regrouped first catalog a s) ∙ e ∙ text_regrouped next other b t in
    let two = split (other_than 10) first next (10 ∷ after_a) (10 ∷ after_b) (only_all (other_than 10) first unbroken) (only_all (other_than 10) next whole) refl refl lines in
    let bare : after_a ≡ after_b = let rest = two.1 in cc in
    let txs = same_txs catalog other here.named there.named here.distinct a b (state_lines catalog s) (state_lines other t) h k (states_stop catalog is_o s refl) (states_stop other is_o t refl) (states_stop catalog is_t s refl) (states_stop other is_t t refl) bare in
    let keys = same_names catalog other here.named there.named s t txs.1 in
    record { line = two.0; names = keys; committed = txs.0 keys }

-- ---- the reports of commands

-- a first line with this front, and with two numbers
abbrev first_of : List ℕ → ℕ → ℕ → List ℕ
first_of front m count = front ++ decimal m ++ codes " committed " ++ decimal count

abbrev after_number : ℕ → List ℕ
after_number count = 32 ∷ 99 ∷ 111 ∷ 109 ∷ 109 ∷ 105 ∷ 116 ∷ 116 ∷ 101 ∷ 100 ∷ 32 ∷ decimal count

first_regrouped : (front : List ℕ) (m count : ℕ) → first_of front m count ≡ front ++ (decimal m ++ after_number count)
first_regrouped front m count = simp append_assoc

first_unbroken : (front : List ℕ) (m count : ℕ) → IsUnbroken front → IsUnbroken (first_of front m count)
first_unbroken front m count unbroken =
    let p = other_than 10 in
    let number : Only p (decimal m) = only_other is_digit 10 refl (decimal m) (decimal_only m) in
    let counted : Only p (decimal count) = only_other is_digit 10 refl (decimal count) (decimal_only count) in
    let behind : Only p (after_number count) = only_append p (codes " committed ") (decimal count) (only_all p (codes " committed ") refl) counted in
    let all : Only p (front ++ (decimal m ++ after_number count)) = only_append p front (decimal m ++ after_number count) (only_all p front unbroken) (only_append p (decimal m) (after_number count) number behind) in
    subst IsUnbroken (sym (first_regrouped front m count)) (all_only p (front ++ (decimal m ++ after_number count)) all)

same_count : (front : List ℕ) (m n j k : ℕ) → first_of front m j ≡ first_of front n k → m < 2 ^ 64 → n < 2 ^ 64 → m ≡ n
same_count front m n j k e small_m small_n =
    let whole : front ++ (decimal m ++ after_number j) ≡ front ++ (decimal n ++ after_number k) = sym (first_regrouped front m j) ∙ e ∙ first_regrouped front n k in
    let numbers : decimal m ++ after_number j ≡ decimal n ++ after_number k = append_cancel_left front (decimal m ++ after_number j) (decimal n ++ after_number k) whole in
    let two = split is_digit (decimal m) (decimal n) (after_number j) (after_number k) (decimal_only m) (decimal_only n) refl refl numbers in
    decimal_injective m n small_m small_n two.0

-- a report whose first line has this front
abbrev report_with : List ℕ → Objects → ℕ → List (CommittedTx Op) → List ObjectState → List ℕ
report_with front catalog m a s = text_with (first_of front m (length a)) catalog a s

with_front : (front : List ℕ) → IsUnbroken front → IsReadable (report_with front)
with_front front unbroken catalog other m n a b s t here there h k e =
    let first = first_of front m (length a) in
    let next = first_of front n (length b) in
    let law = text_law catalog other first next a b s t here there (first_unbroken front m (length a) unbroken) (first_unbroken front n (length b) unbroken) h k e in
    record { names = law.names; committed = law.committed; count = same_count front m n (length a) (length b) law.line }

-- The committed transactions can be read back from an accepted report of `certify`.
pub certify_readable : IsReadable accepted_text
certify_readable = with_front (codes "accepted steps ") refl

-- The committed transactions can be read back from an accepted report of `quick`.
pub quick_readable : IsReadable quick_accepted_text
quick_readable = with_front (codes "quick accepted records ") refl
