-- Proof machinery: the operations that were applied, part by part.
use Rattle.std.proofs.Common.{◌≡◌, ◌≢◌, ◌||◌, ◌+◌, ◌<◌, ◌≤◌, ℕ, Bool, true, false, cond, nat_eq, nat_le, suc, zero, List, [], ◌∷◌, ◌++◌, drop, filter, get_or, length, take, Some}
use Rattle.std.proofs.Common.{refl, sym, ap, ◌∙◌, inl, inr, arith, append_assoc, append-nil, eq-eqb}
use Rattle.std.specs.Map.{lookup}
use Rattle.std.proofs.lemmas.Bool.{le-leb, lt-leb}
use Rattle.std.proofs.lemmas.List.{drop_more, length-append, length-take-le, take-append-drop, take-append-le, take_all}
use Rattle.std.proofs.lemmas.List.Elements.{filter-append}
use Rattle.pp_model.specs.Lists.{In}
use Rattle.pp_kind.specs.declared.part.Part.{Part}
use Rattle.pp_kind.specs.Object.{Object}
use Rattle.pp_kind_parts.specs.Alone.{PartsStandAlone, same_part}
use Rattle.pp_kind_parts.proofs.Alone.{same_part_is}
use Rattle.pp_laws_summary.proofs.Entries.{same_or_not}
use Rattle.pp_laws_summary.proofs.Parts.{not_eq}
use Rattle.pp_snapshots.specs.declared.by_part.ByPart.{ByPart}
use Rattle.pp_snapshots.specs.declared.by_part.Numbered.{Numbered}
use Rattle.pp_snapshots.specs.declared.by_part.PartOps.{PartOps}
use Rattle.pp_snapshots.specs.ByPart.{AddsListed, IsListed, IsListedOf, listed_in, listed_of, numbered, numbered_of}
use Rattle.pp_snapshots.specs.Costs.{has_part, ops_of_part}
use Rattle.pp_snapshots.specs.Many.{AreThere}
use Rattle.pp_snapshots.specs.Shown.{count_or_none, seen_in}
use Rattle.pp_snapshots.proofs.Kept.{head_is, some_not_none, tail_is}
use Rattle.pp_snapshots.proofs.Manies.{in_dropped}

-- The numbers of two lists are those of the first, and then those of the second.
numbered_append : {Op : Type 0} (n : ℕ) (x y : List Op) → numbered n (x ++ y) ≡ numbered n x ++ numbered (n + length x) y
numbered_append n [] y = let e : n ≡ n + zero = omega arith in ap (λ (m : ℕ). numbered m y) e
numbered_append {Op} n (a ∷ x) y =
    let e : suc n + length x ≡ n + suc (length x) = omega arith in
    ap (λ (w : List (Numbered Op)). record { number = n; op = a } ∷ w)
    (numbered_append (suc n) x y ∙ ap (λ (m : ℕ). numbered (suc n) x ++ numbered m y) e)

-- A list that is not longer than 0 is empty.
pub none_left : {A : Type 0} (l : List A) → length l ≤ 0 → l ≡ []
none_left [] le = refl
none_left (a ∷ l) le = absurd (omega (arith, le))

-- those whose numbers are less, up to the first whose number is not
abbrev pub firsts : {Op : Type 0} → ℕ → List (Numbered Op) → List Op
firsts n [] = []
firsts n (e ∷ l) = cond (nat_le n e.number) [] (e.op ∷ firsts n l)

-- The first that are listed stop at an element whose number is not less.
pub firsts_stop : {Op : Type 0} (n : ℕ) (l : List (Numbered Op)) (k : ℕ) (e : Numbered Op) → k < length l → e ≡ get_or l k e → n ≤ e.number → firsts n (drop k l) ≡ []
firsts_stop {Op} n l k e lt is le =
    ap (firsts n) (drop_more l k e lt ∙ ap (λ (x : Numbered Op). x ∷ drop (k + 1) l) (sym is)) ∙ ap (λ (b : Bool). cond b [] (e.op ∷ firsts n (drop (k + 1) l))) (le-leb n e.number le)

-- They go on with an element whose number is less.
pub firsts_go : {Op : Type 0} (n : ℕ) (l : List (Numbered Op)) (k : ℕ) (e : Numbered Op) → k < length l → e ≡ get_or l k e → e.number < n → firsts n (drop k l) ≡ e.op ∷ firsts n (drop (k + 1) l)
firsts_go {Op} n l k e lt is le =
    ap (firsts n) (drop_more l k e lt ∙ ap (λ (x : Numbered Op). x ∷ drop (k + 1) l) (sym is)) ∙ ap (λ (b : Bool). cond b [] (e.op ∷ firsts n (drop (k + 1) l))) (lt-leb n e.number le)

module _ {Op : Type 0} (part : Op → Part) where
  -- The operations of a part in two lists are those of the first, and then those of the second.
  pub of_append : (a : Op) (n : ℕ) (x y : List Op) → numbered_of part a n (x ++ y) ≡ numbered_of part a n x ++ numbered_of part a (n + length x) y
  of_append a n x y =
      ap (λ (w : List (Numbered Op)). filter (λ e. same_part (part e.op) (part a)) w) (numbered_append n x y)
      ∙ filter-append (λ (e : Numbered Op). same_part (part e.op) (part a)) (numbered n x) (numbered (n + length x) y)

  -- A list with no operation of a part has none of it.
  of_others : (a : Op) (n : ℕ) (l : List Op) → ((b : Op) → In b l → same_part (part b) (part a) ≡ false) → numbered_of part a n l ≡ []
  of_others a n [] h = refl
  of_others a n (b ∷ l) h =
      ap (λ (c : Bool). cond c (record { number = n; op = b } ∷ numbered_of part a (suc n) l) (numbered_of part a (suc n) l)) (h b (inl refl))
      ∙ of_others a (suc n) l (λ c i. h c (inr i))

  -- One more operation is listed of its part.
  pub added : (op : Op) (k : Part) (old new : List (Part × PartOps Op)) (n : ℕ) (s : PartOps Op) → k ≡ part op → ((q : Part) → lookup (same_part q) new ≡ cond (same_part k q) (Some s) (lookup (same_part q) old))
      → s.ops.items ≡ listed_of k old ++ record { number = n; op = op } ∷ [] → AddsListed part old n (op ∷ []) new
  added op k old new n s here is items a = ap listed_in (is (part a)) ∙ by (same_part k (part a)) refl
    where
      by : (b : Bool) → same_part k (part a) ≡ b → listed_in (cond b (Some s) (lookup (same_part (part a)) old)) ≡ listed_of (part a) old ++ cond (same_part (part op) (part a)) (record { number = n; op = op } ∷ []) []
      by true e =
          items
          ∙ ap (λ (p : Part). listed_of p old ++ record { number = n; op = op } ∷ []) (same_part_is k (part a) e)
          ∙ ap (λ (b : Bool). listed_of (part a) old ++ cond b (record { number = n; op = op } ∷ []) []) (sym (ap (λ (p : Part). same_part p (part a)) (sym here) ∙ e))
      by false e =
          sym (append-nil (listed_of (part a) old))
          ∙ ap (λ (b : Bool). listed_of (part a) old ++ cond b (record { number = n; op = op } ∷ []) []) (sym (ap (λ (p : Part). same_part p (part a)) (sym here) ∙ e))

  -- Adding nothing leaves the lists.
  pub adds_none : (old : List (Part × PartOps Op)) (n : ℕ) → AddsListed part old n [] old
  adds_none old n a = sym (append-nil (listed_of (part a) old))

  -- Operations are added, and then more.
  pub adds_more : (old mid new : List (Part × PartOps Op)) (n : ℕ) (x y : List Op) → AddsListed part old n x mid → AddsListed part mid (n + length x) y new → AddsListed part old n (x ++ y) new
  adds_more old mid new n x y first then a =
      then a
      ∙ ap (λ (w : List (Numbered Op)). w ++ numbered_of part a (n + length x) y) (first a)
      ∙ append_assoc (listed_of (part a) old) (numbered_of part a n x) (numbered_of part a (n + length x) y)
      ∙ ap (λ (w : List (Numbered Op)). listed_of (part a) old ++ w) (sym (of_append a n x y))

  module _ (op : Op) where
    abbrev L : ℕ → List Op → List (Numbered Op)
    L m H = numbered_of part op m H

    -- with one more operation before the others
    abbrev next_of : Bool → ℕ → Op → List Op → List (Numbered Op)
    next_of b m a H = cond b (record { number = m; op = a } ∷ L (suc m) H) (L (suc m) H)

    -- The numbers are at least the first.
    number_ge : (m : ℕ) (H : List Op) (front : List (Numbered Op)) (e : Numbered Op) → L m H ≡ front ++ e ∷ [] → m ≤ e.number
    number_ge m [] front e is = absurd (some_not_none front e (sym is))
    number_ge m (a ∷ H) front e is = by (same_part (part a) (part op)) front is (λ f i. number_ge (suc m) H f e i)
      where
        by : (b : Bool) (front : List (Numbered Op)) → next_of b m a H ≡ front ++ e ∷ [] → ((f : List (Numbered Op)) → L (suc m) H ≡ f ++ e ∷ [] → suc m ≤ e.number) → m ≤ e.number
        by true [] is more = let k : m ≡ e.number = ap (λ (x : Numbered Op). x.number) (head_is is) in omega (arith, k)
        by true (c ∷ front) is more = let k = more front (tail_is is) in omega (arith, k)
        by false front is more = let k = more front is in omega (arith, k)

    -- Nothing is listed of a part that no operation is of.
    none_of : (m : ℕ) (H : List Op) → L m H ≡ [] → has_part part op H ≡ false
    none_of m [] is = refl
    none_of m (a ∷ H) is = by (same_part (part a) (part op)) refl is (λ i. none_of (suc m) H i)
      where
        by : (b : Bool) → same_part (part a) (part op) ≡ b → next_of b m a H ≡ [] → (L (suc m) H ≡ [] → has_part part op H ≡ false) → has_part part op (a ∷ H) ≡ false
        by true e is more = absurd (cc)
        by false e is more = ap (λ (b : Bool). b || has_part part op H) e ∙ more is

    -- If no operation of a list is of a part, none is without the first ones.
    none_later : (n : ℕ) (H : List Op) → has_part part op H ≡ false → has_part part op (drop n H) ≡ false
    none_later zero H is = is
    none_later (suc n) [] is = refl
    none_later (suc n) (a ∷ H) is = by (same_part (part a) (part op)) is (λ i. none_later n H i)
      where
        by : (b : Bool) → (b || has_part part op H) ≡ false → (has_part part op H ≡ false → has_part part op (drop n H) ≡ false) → has_part part op (drop n H) ≡ false
        by true is more = absurd (cc)
        by false is more = more is

    -- If nothing is listed of a part, no operation is of it.
    pub unlisted : (m n : ℕ) (H : List Op) → L m H ≡ [] → has_part part op (drop n H) ≡ false
    unlisted m n H is = none_later n H (none_of m H is)

    last_tells : (m n : ℕ) (H : List Op) (front : List (Numbered Op)) (e : Numbered Op) → L m H ≡ front ++ e ∷ [] → has_part part op (drop n H) ≡ nat_le (m + n) e.number
    last_tells m n [] front e is = absurd (some_not_none front e (sym is))
    last_tells m n (a ∷ H) front e is = by (same_part (part a) (part op)) refl n front is (λ k f i. last_tells (suc m) k H f e i)
      where
        More : Type 0
        More = (k : ℕ) (f : List (Numbered Op)) → L (suc m) H ≡ f ++ e ∷ [] → has_part part op (drop k H) ≡ nat_le (suc m + k) e.number

        next : (n : ℕ) → nat_le (suc m + n) e.number ≡ nat_le (m + suc n) e.number
        next n = let k : suc m + n ≡ m + suc n = omega arith in ap (λ (i : ℕ). nat_le i e.number) k

        by : (b : Bool) → same_part (part a) (part op) ≡ b → (n : ℕ) (front : List (Numbered Op)) → next_of b m a H ≡ front ++ e ∷ [] → More → has_part part op (drop n (a ∷ H)) ≡ nat_le (m + n) e.number
        by true f zero [] is more =
            let k : m ≡ e.number = ap (λ (x : Numbered Op). x.number) (head_is is) in
            ap (λ (b : Bool). b || has_part part op H) f ∙ sym (le-leb (m + zero) e.number (omega (arith, k)))
        by true f zero (c ∷ front) is more =
            let k = number_ge (suc m) H front e (tail_is is) in
            ap (λ (b : Bool). b || has_part part op H) f ∙ sym (le-leb (m + zero) e.number (omega (arith, k)))
        by true f (suc n) [] is more =
            let k : m ≡ e.number = ap (λ (x : Numbered Op). x.number) (head_is is) in
            unlisted (suc m) n H (tail_is is) ∙ sym (lt-leb (m + suc n) e.number (omega (arith, k)))
        by true f (suc n) (c ∷ front) is more = more n front (tail_is is) ∙ next n
        by false f zero front is more =
            let k = number_ge (suc m) H front e is in
            ap (λ (b : Bool). b || has_part part op H) f ∙ more zero front is
            ∙ le-leb (suc m + zero) e.number (omega (arith, k)) ∙ sym (le-leb (m + zero) e.number (omega (arith, k)))
        by false f (suc n) front is more = more n front is ∙ next n

    -- The last that is listed of a part says whether an operation but the first ones is of it.
    pub last_says : (n : ℕ) (H : List Op) (front : List (Numbered Op)) (e : Numbered Op) → L 0 H ≡ front ++ e ∷ [] → has_part part op (drop n H) ≡ nat_le n e.number
    last_says n H front e is = let k : 0 + n ≡ n = omega arith in last_tells 0 n H front e is ∙ ap (λ (i : ℕ). nat_le i e.number) k

    firsts_none : (m k : ℕ) (H : List Op) → k ≤ m → firsts k (L m H) ≡ []
    firsts_none m k [] le = refl
    firsts_none m k (a ∷ H) le = by (same_part (part a) (part op)) (firsts_none (suc m) k H (omega (arith, le)))
      where
        by : (b : Bool) → firsts k (L (suc m) H) ≡ [] → firsts k (next_of b m a H) ≡ []
        by true more = ap (λ (b : Bool). cond b [] (a ∷ firsts k (L (suc m) H))) (le-leb k m le)
        by false more = more

    firsts_are : (m n : ℕ) (H : List Op) → firsts (m + n) (L m H) ≡ ops_of_part part op (take n H)
    firsts_are m zero H = firsts_none m (m + zero) H (omega arith)
    firsts_are m (suc n) [] = refl
    firsts_are m (suc n) (a ∷ H) =
        by (same_part (part a) (part op)) (let k : m + suc n ≡ suc m + n = omega arith in ap (λ (i : ℕ). firsts i (L (suc m) H)) k ∙ firsts_are (suc m) n H)
      where
        by : (b : Bool) → firsts (m + suc n) (L (suc m) H) ≡ ops_of_part part op (take n H) → firsts (m + suc n) (next_of b m a H) ≡ cond b (a ∷ ops_of_part part op (take n H)) (ops_of_part part op (take n H))
        by true more =
            ap (λ (b : Bool). cond b [] (a ∷ firsts (m + suc n) (L (suc m) H))) (lt-leb (m + suc n) m (omega arith))
            ∙ ap (λ (w : List Op). a ∷ w) more
        by false more = more

    -- The first that are listed of a part are its operations among the first ones.
    pub firsts_of : (n : ℕ) (H : List Op) (l : List (Numbered Op)) → l ≡ L 0 H → firsts n l ≡ ops_of_part part op (take n H)
    firsts_of n H l is = let k : 0 + n ≡ n = omega arith in ap (firsts n) is ∙ ap (λ (i : ℕ). firsts i (L 0 H)) (sym k) ∙ firsts_are 0 n H

  module _ {Shape State Undo : Type 0} (o : Object Shape State Op Undo) (place : Op → ℕ) (alone : PartsStandAlone o place part) where
    -- Operations of two places are of two parts.
    other_part : (a b : Op) → place b ≢ place a → same_part (part b) (part a) ≡ false
    other_part a b n = by (same_part (part b) (part a)) refl
      where
        by : (c : Bool) → same_part (part b) (part a) ≡ c → c ≡ false
        by true e = absurd (n (sym (alone.placed b) ∙ ap (λ (p : Part). p.object) (same_part_is (part b) (part a) e) ∙ alone.placed a))
        by false e = refl

    module _ (h : ℕ → List Op) (p : ℕ) (there : AreThere place p (h p)) (v w : ByPart Op) (listed : IsListed place part v h) (adds : AddsListed part v.lists.entries (seen_in v.counts.entries p) (drop (seen_in v.counts.entries p) (h p)) w.lists.entries)
        (counts : (q : ℕ) → lookup (nat_eq q) w.counts.entries ≡ cond (nat_eq p q) (Some (length (h p))) (lookup (nat_eq q) v.counts.entries)) where
      -- how many are counted at the place, and at others
      pub count_here : (q : ℕ) → p ≡ q → seen_in w.counts.entries q ≡ length (h q)
      count_here q e =
          ap count_or_none (counts q ∙ ap (λ (b : Bool). cond b (Some (length (h p))) (lookup (nat_eq q) v.counts.entries)) (eq-eqb p q e))
          ∙ ap (λ (r : ℕ). length (h r)) e

      count_there : (q : ℕ) → p ≢ q → seen_in w.counts.entries q ≡ seen_in v.counts.entries q
      count_there q n = ap count_or_none (counts q ∙ ap (λ (b : Bool). cond b (Some (length (h p))) (lookup (nat_eq q) v.counts.entries)) (not_eq p q n))

      lists_are : (a : Op) → listed_of (part a) w.lists.entries ≡ numbered_of part a 0 (take (seen_in w.counts.entries (place a)) (h (place a)))
      lists_are a = elim (same_or_not p (place a)) [ inl e ↦ here (place a) e refl | inr n ↦ off n ]
        where
          here : (q : ℕ) → p ≡ q → place a ≡ q → listed_of (part a) w.lists.entries ≡ numbered_of part a 0 (take (seen_in w.counts.entries (place a)) (h (place a)))
          here q e at =
              let H = h p in
              let n = seen_in v.counts.entries p in
              let is : place a ≡ p = at ∙ sym e in
              let few : n ≤ length H = listed.few p in
              let k = length-take-le n H few in
              let cut : 0 + length (take n H) ≡ n = omega (arith, k) in
              let all : length (h (place a)) ≤ seen_in w.counts.entries (place a) = let c = count_here (place a) (sym is) in omega (arith, c) in
              adds a
              ∙ ap (λ (l : List (Numbered Op)). l ++ numbered_of part a n (drop n H)) (listed.lists a ∙ ap (λ (r : ℕ). numbered_of part a 0 (take (seen_in v.counts.entries r) (h r))) is)
              ∙ ap (λ (m : ℕ). numbered_of part a 0 (take n H) ++ numbered_of part a m (drop n H)) (sym cut)
              ∙ sym (of_append a 0 (take n H) (drop n H))
              ∙ ap (numbered_of part a 0) (take-append-drop n H ∙ ap h (sym is) ∙ sym (take_all (seen_in w.counts.entries (place a)) (h (place a)) all))

          off : p ≢ place a → listed_of (part a) w.lists.entries ≡ numbered_of part a 0 (take (seen_in w.counts.entries (place a)) (h (place a)))
          off n =
              let k = seen_in v.counts.entries p in
              adds a
              ∙ ap (λ (l : List (Numbered Op)). listed_of (part a) v.lists.entries ++ l)
              (of_others a k (drop k (h p)) (λ b i. other_part a b (λ e. n (sym (there b (in_dropped (h p) k b i)) ∙ e))))
              ∙ append-nil (listed_of (part a) v.lists.entries)
              ∙ listed.lists a
              ∙ ap (λ (m : ℕ). numbered_of part a 0 (take m (h (place a)))) (sym (count_there (place a) n))

      counts_few : (q : ℕ) → seen_in w.counts.entries q ≤ length (h q)
      counts_few q = elim (same_or_not p q) [
        | inl e ↦ let c = count_here q e in omega (arith, c)
        | inr n ↦ let c = count_there q n in let f = listed.few q in omega (arith, c, f)
      ]

      -- All operations of the place are listed then.
      pub caught : IsListed place part w h
      caught = record { lists = lists_are; few = counts_few }

    -- If all operations of a place are listed, all of a part there are.
    pub listed_all : (h : ℕ → List Op) (v : ByPart Op) (a : Op) → IsListed place part v h → length (h (place a)) ≤ seen_in v.counts.entries (place a) → IsListedOf place part v h a
    listed_all h v a listed all = listed.lists a ∙ ap (numbered_of part a 0) (take_all (seen_in v.counts.entries (place a)) (h (place a)) all)

  -- What is listed of some operations is listed of those with more after them.
  pub still_listed : (place : Op → ℕ) (v : ByPart Op) (h k : ℕ → List Op) → IsListed place part v h → ((q : ℕ) → (l : List Op) × (k q ≡ h q ++ l)) → IsListed place part v k
  still_listed place v h k listed more =
      record {
        lists = λ a.
            let q = place a in
            listed.lists a
            ∙ ap (numbered_of part a 0) (sym (ap (take (seen_in v.counts.entries q)) (more q).1 ∙ take-append-le (seen_in v.counts.entries q) (h q) (more q).0 (listed.few q)));
        few = λ q. let e = ap (λ (l : List Op). length l) (more q).1 ∙ length-append (h q) (more q).0 in let f = listed.few q in omega (arith, e, f);
      }
