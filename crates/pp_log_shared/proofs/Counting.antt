-- The numbers of entries that become more or less, and what they say of operations.
use Rattle.std.proofs.Common.{◌≡◌, ◌≢◌, ℕ, ◌+◌, ◌<◌, ◌≤◌, ℤ, Bool, true, false, cond, nat_le}
use Rattle.std.proofs.Common.{◌&&◌, ◌||◌, ◌==◌, filter, List, [], ◌∷◌, ◌++◌, length, Option, None, Some}
use Rattle.std.proofs.Common.{IsTrue, refl, sym, ◌∙◌, ap, subst, arith, inl, inr}
use Rattle.std.specs.List.{list_all}
use Rattle.std.specs.Map.{count_at, keys_of, lookup}
use Rattle.std.specs.Option.{option_eq, unwrap_or}
use Rattle.std.specs.Ordering.{int_eq}
use Rattle.std.specs.Str.{bytes_eq}
use Rattle.std.proofs.lemmas.Bool.{and_parts}
use Rattle.std.proofs.lemmas.List.{length-append}
use Rattle.std.proofs.lemmas.List.Elements.{filter-append}
use Rattle.std.proofs.lemmas.Bool.Decides.{Decides-eqb, Decides-int_eq, nat_tests}
use Rattle.pp_core.specs.declared.entry.SharedEntry.{SharedEntry}
use Rattle.pp_model.specs.Lists.{In}
use Rattle.pp_model.specs.Names.{Name}
use Rattle.pp_model.proofs.Names.{names-true}
use Rattle.pp_kind.specs.declared.label.Label.{Label}
use Rattle.pp_kind.specs.Object.{Object, Swaps}
use Rattle.pp_kind.specs.declared.gate.Gate.{Gate}
use Rattle.pp_kind.specs.Gates.{passes}
use Rattle.pp_log_shared.specs.declared.numbers.Holder.{Holder}
use Rattle.pp_log_shared.specs.Numbers.{Counted, amount, counted_of, is_number, one_if, TallyList}
use Rattle.pp_log_shared.specs.Numbers.{same_holder, holder_at, held, Gains, Loses, is_held_at, times}
use Rattle.pp_log_shared.specs.Numbers.{Counts, NumberList, as_one, CountsAll, GainsEntry, LosesEntry}
use Rattle.pp_log_shared.specs.Numbers.{HasOthers, FormSwaps, AllFormsSwap}
use Rattle.pp_log_shared.specs.Uncommitted.{LosesOne}

-- one more that passes a test, or does not
one_longer : {E : Type 0} (b : Bool) (a : E) (x : List E) → length (cond b (a ∷ x) x) ≡ length x + one_if b
one_longer true a x = omega arith
one_longer false a x = omega arith

-- How many pass a test, of one list after another.
pass_both : {E : Type 0} (test : E → Bool) (x y : List E) → length (filter test (x ++ y)) ≡ length (filter test x) + length (filter test y)
pass_both test x y = ap length (filter-append test x y) ∙ length-append (filter test x) (filter test y)

-- how many pass, with one in their midst
filter_with : {E : Type 0} (test : E → Bool) (u v : List E) (e : E) → length (filter test (u ++ e ∷ v)) ≡ length (filter test (u ++ v)) + one_if (test e)
filter_with test u v e =
    let with_it = pass_both test u (e ∷ v) in
    let without = pass_both test u v in
    let one = one_longer (test e) e (filter test v) in
    omega arith

-- If all that pass one test pass another, and one passes the other alone.
one_at_most : (b c : Bool) → (b ≡ true → c ≡ true) → one_if b ≤ one_if c
one_at_most true c h = let one : one_if c ≡ 1 = ap one_if (h refl) in omega arith
one_at_most false c h = omega arith

filter_at_most : {E : Type 0} (few more : E → Bool) → ((d : E) → few d ≡ true → more d ≡ true) → (x : List E) → length (filter few x) ≤ length (filter more x)
filter_at_most few more all [] = omega arith
filter_at_most few more all (a ∷ x) =
    let left = one_longer (few a) a (filter few x) in
    let right = one_longer (more a) a (filter more x) in
    let one = one_at_most (few a) (more a) (all a) in
    let rest = filter_at_most few more all x in
    omega arith

filter_fewer : {E : Type 0} (few more : E → Bool) → ((d : E) → few d ≡ true → more d ≡ true) → (x : List E) (e : E) → In e x → few e ≡ false → more e ≡ true → length (filter few x) < length (filter more x)
filter_fewer few more all [] e there out inside = absurd there
filter_fewer few more all (a ∷ x) e (inl here) out inside =
    let left = one_longer (few a) a (filter few x) in
    let right = one_longer (more a) a (filter more x) in
    let none : one_if (few a) ≡ 0 = ap one_if (ap few (sym here) ∙ out) in
    let one : one_if (more a) ≡ 1 = ap one_if (ap more (sym here) ∙ inside) in
    let rest = filter_at_most few more all x in
    omega arith
filter_fewer few more all (a ∷ x) e (inr later) out inside =
    let left = one_longer (few a) a (filter few x) in
    let right = one_longer (more a) a (filter more x) in
    let one = one_at_most (few a) (more a) (all a) in
    let rest = filter_fewer few more all x e later out inside in
    omega arith

-- two that are the same
owners-true : (a b : Option Name) → option_eq bytes_eq a b ≡ true → a ≡ b
owners-true None None h = refl
owners-true None (Some b) h = cc
owners-true (Some a) None h = cc
owners-true (Some a) (Some b) h = ap (λ (n : Name). Some n) (names-true a b h)

same_holder-true : (h k : Holder) → same_holder h k ≡ true → (h.owner ≡ k.owner) × (h.form ≡ k.form)
same_holder-true h k t =
    let both = and_parts (option_eq bytes_eq h.owner k.owner) (h.form == k.form) t in
    (owners-true h.owner k.owner both.0, (Decides-eqb h.form k.form).0 both.1)

same_holder-is : (h k : Holder) → same_holder h k ≡ true → h ≡ k
same_holder-is h k t =
    let both = same_holder-true h k t in
    let change : h ≡ record { owner = k.owner; form = h.form } = ap (λ (n : Option Name). let r : Holder = record { owner = n; form = h.form } in r) both.0 in
    change ∙ ap (λ (m : ℕ). let r : Holder = record { owner = k.owner; form = m } in r) both.1

-- numbers that change by f at one owner and form, and those of others, which stay
twice : {A : Type 0} (b : Bool) (v u w : A) → cond b v (cond b u w) ≡ cond b v w
twice true v u w = refl
twice false v u w = refl

-- A tally that is set twice for one holder has the last value for it, and else the old ones.
pub set_twice : (k : Holder) (old mid new : TallyList) (now then : Option Counted)
    → ((h : Holder) → lookup (same_holder h) mid ≡ cond (same_holder k h) then (lookup (same_holder h) old))
    → ((h : Holder) → lookup (same_holder h) new ≡ cond (same_holder k h) now (lookup (same_holder h) mid))
    → (h : Holder) → lookup (same_holder h) new ≡ cond (same_holder k h) now (lookup (same_holder h) old)
set_twice k old mid new now then before behind h =
    behind h ∙ ap (λ (t : Option Counted). cond (same_holder k h) now t) (before h) ∙ twice (same_holder k h) now then (lookup (same_holder h) old)

-- If one count changes by f in a tally, all numbers that are held change by f there alone.
pub changed : (f : ℕ → ℕ → ℕ) → ((a : ℕ) → f a 0 ≡ a) → (owner : Option Name) (label : Label) (old new : TallyList) (now : Option Counted)
    → ((h : Holder) → lookup (same_holder h) new ≡ cond (same_holder (holder_at owner label) h) now (lookup (same_holder h) old))
    → ((q : Option ℤ) → amount q (counted_of now) ≡ f (amount q (counted_of (lookup (same_holder (holder_at owner label)) old))) (one_if (is_number q label.number)))
    → (h : Holder) (q : Option ℤ) → held new h q ≡ f (held old h q) (one_if (same_holder (holder_at owner label) h && is_number q label.number))
changed f still owner label old new now is counts h q = at (same_holder (holder_at owner label) h) refl
  where
    at : (b : Bool) → same_holder (holder_at owner label) h ≡ b → held new h q ≡ f (held old h q) (one_if (same_holder (holder_at owner label) h && is_number q label.number))
    at true same =
        let one : holder_at owner label ≡ h = same_holder-is (holder_at owner label) h same in
        let found : lookup (same_holder h) new ≡ now = is h ∙ ap (λ (b : Bool). cond b now (lookup (same_holder h) old)) same in
        ap (λ (t : Option Counted). amount q (counted_of t)) found ∙ counts q
        ∙ ap (λ (g : Holder). f (held old g q) (one_if (is_number q label.number))) one
        ∙ ap (λ (b : Bool). f (held old h q) (one_if (b && is_number q label.number))) (sym same)
    at false other =
        let found : lookup (same_holder h) new ≡ lookup (same_holder h) old = is h ∙ ap (λ (b : Bool). cond b now (lookup (same_holder h) old)) other in
        ap (λ (t : Option Counted). amount q (counted_of t)) found ∙ sym (still (held old h q))
        ∙ ap (λ (b : Bool). f (held old h q) (one_if (b && is_number q label.number))) (sym other)

-- If a disjunction is true and its second part is not, its first part is.
or_left : (a b : Bool) → (a || b) ≡ true → (b ≡ true → ⊥) → a ≡ true
or_left true b h never = refl
or_left false b h never = absurd (never h)

not_above : (a b : ℕ) → b < a → nat_le a b ≡ true → ⊥
not_above a b h t = let le : a ≤ b = grind (arith, nat_tests) in omega arith

passes_here : (gate : Gate) (own : Counted) (n : ℤ) (e : ℤ × ℕ) (rest : List (ℤ × ℕ)) (b : Bool) → int_eq n e.0 ≡ b → (passes gate e.0 || nat_le e.1 (amount (Some e.0) own)) ≡ true
    → (amount (Some n) own < count_at (λ m. lookup (int_eq m) rest) n → IsTrue (passes gate n)) → amount (Some n) own < unwrap_or (cond b (Some e.1) (lookup (int_eq n) rest)) 0 → IsTrue (passes gate n)
passes_here gate own n e rest true is here later more =
    let same : n ≡ e.0 = (Decides-int_eq n e.0).0 is in
    let above : amount (Some e.0) own < e.1 = subst (λ (m : ℤ). amount (Some m) own < e.1) same more in
    subst (λ (m : ℤ). IsTrue (passes gate m)) (sym same) (or_left (passes gate e.0) (nat_le e.1 (amount (Some e.0) own)) here (not_above e.1 (amount (Some e.0) own) above))
passes_here gate own n e rest false is here later more = later more

-- If all numbers that others have pass a gate, a number with more counts than own ones passes.
pub all_pass : (gate : Gate) (own : Counted) (numbers : List (ℤ × ℕ)) → list_all (λ e. passes gate e.0 || nat_le e.1 (amount (Some e.0) own)) numbers ≡ true
    → (n : ℤ) → amount (Some n) own < count_at (λ m. lookup (int_eq m) numbers) n → IsTrue (passes gate n)
all_pass gate own [] all n more = absurd (omega arith)
all_pass gate own (e ∷ numbers) all n more =
    let both = and_parts (passes gate e.0 || nat_le e.1 (amount (Some e.0) own)) (list_all (λ d. passes gate d.0 || nat_le d.1 (amount (Some d.0) own)) numbers) all in
    passes_here gate own n e numbers (int_eq n e.0) refl both.0 (all_pass gate own numbers both.1 n) more

-- If all numbers pass a gate, each passes it or is counted no more than own.
pub each_passes : (gate : Gate) (own : Counted) (numbers : List (ℤ × ℕ)) → list_all (passes gate) (keys_of numbers) ≡ true → list_all (λ e. passes gate e.0 || nat_le e.1 (amount (Some e.0) own)) numbers ≡ true
each_passes gate own [] all = refl
each_passes gate own (e ∷ numbers) all =
    let both = and_parts (passes gate e.0) (list_all (passes gate) (keys_of numbers)) all in
    let others = list_all (λ d. passes gate d.0 || nat_le d.1 (amount (Some d.0) own)) numbers in
    ap (λ (b : Bool). (b || nat_le e.1 (amount (Some e.0) own)) && others) both.0 ∙ each_passes gate own numbers both.1

-- all are counted of no entries, of one more and of one less
module _ {Op : Type 0} (view : Name → Option Name) (label_of : Op → Label) where
  counts_none : Counts view label_of [] []
  counts_none = record { counts = λ h q. none h q }
    where
      none : (h : Holder) (q : Option ℤ) → held [] h q ≡ 0
      none h None = refl
      none h (Some n) = refl

  counts_more : (old new : TallyList) (x : List (SharedEntry Op)) (e : SharedEntry Op)
      → Gains old new (view e.owner) (label_of e.op) → Counts view label_of old x → Counts view label_of new (x ++ e ∷ [])
  counts_more old new x e gains counts = record {
    counts = λ h q.
        let was = counts.counts h q in
        let is = gains h q in
        let test = is_held_at view label_of h q in
        let both = pass_both test x (e ∷ []) in
        let one = one_longer (test e) e [] in
        omega arith;
  }

  counts_less : (old new : TallyList) (x y : List (SharedEntry Op)) (e : SharedEntry Op)
      → Loses old new (view e.owner) (label_of e.op) → Counts view label_of old x → LosesOne e x y → Counts view label_of new y
  counts_less old new x y e loses counts lost = record {
    counts = λ h q.
        let was = counts.counts h q in
        let is = loses h q in
        let test = is_held_at view label_of h q in
        let before : times view label_of h q x ≡ length (filter test (lost.0 ++ e ∷ lost.1)) = ap (λ (z : List (SharedEntry Op)). length (filter test z)) lost.2 in
        let behind : times view label_of h q y ≡ length (filter test (lost.0 ++ lost.1)) = ap (λ (z : List (SharedEntry Op)). length (filter test z)) lost.3 in
        let with_it = filter_with test lost.0 lost.1 e in
        omega arith;
  }

module _ {Op : Type 0} (label_of : Op → Label) where
  -- Empty tallies count an empty list of entries.
  pub counts_all_none : CountsAll label_of (record { all = []; own = [] }) []
  counts_all_none = record { all = counts_none as_one label_of; own = counts_none Some label_of }

  -- Tallies that gain an entry count the list with this entry at its end.
  pub counts_all_more : (old new : NumberList) (x : List (SharedEntry Op)) (e : SharedEntry Op)
      → GainsEntry label_of old new e → CountsAll label_of old x → CountsAll label_of new (x ++ e ∷ [])
  counts_all_more old new x e gains counts = record {
    all = counts_more as_one label_of old.all new.all x e gains.0 counts.all;
    own = counts_more Some label_of old.own new.own x e gains.1 counts.own;
  }

  -- Tallies that lose an entry count the list without it.
  pub counts_all_less : (old new : NumberList) (x y : List (SharedEntry Op)) (e : SharedEntry Op)
      → LosesEntry label_of old new e → CountsAll label_of old x → LosesOne e x y → CountsAll label_of new y
  counts_all_less old new x y e loses counts lost = record {
    all = counts_less as_one label_of old.all new.all x y e loses.0 counts.all lost;
    own = counts_less Some label_of old.own new.own x y e loses.1 counts.own lost;
  }

  -- an entry of another owner is more than the own ones
  module _ (owner : Name) (x : List (SharedEntry Op)) (e : SharedEntry Op) (q : Option ℤ) where
    own_one : SharedEntry Op → Bool
    own_one = is_held_at Some label_of (record { owner = Some owner; form = (label_of e.op).form }) q

    any_one : SharedEntry Op → Bool
    any_one = is_held_at as_one label_of (record { owner = None; form = (label_of e.op).form }) q

    each_own : (d : SharedEntry Op) → own_one d ≡ true → any_one d ≡ true
    unfolding own_one any_one
    each_own d t =
        let outer = and_parts (bytes_eq d.owner owner && ((label_of d.op).form == (label_of e.op).form)) (is_number q (label_of d.op).number) t in
        let inner = and_parts (bytes_eq d.owner owner) ((label_of d.op).form == (label_of e.op).form) outer.0 in
        ap (λ (b : Bool). b && is_number q (label_of d.op).number) inner.1 ∙ outer.1

    not_own : e.owner ≢ owner → (b : Bool) → own_one e ≡ b → own_one e ≡ false
    unfolding own_one
    not_own other true t =
        let outer = and_parts (bytes_eq e.owner owner && ((label_of e.op).form == (label_of e.op).form)) (is_number q (label_of e.op).number) t in
        let inner = and_parts (bytes_eq e.owner owner) ((label_of e.op).form == (label_of e.op).form) outer.0 in
        absurd (other (names-true e.owner owner inner.0))
    not_own other false t = t

    one_of_all : is_number q (label_of e.op).number ≡ true → any_one e ≡ true
    unfolding any_one
    one_of_all number =
        ap (λ (b : Bool). b && is_number q (label_of e.op).number) ((Decides-eqb (label_of e.op).form (label_of e.op).form).1 refl) ∙ number

    -- If an entry has another owner, more entries of its form are counted than own ones.
    pub more_than_own : (numbers : NumberList) → CountsAll label_of numbers x → In e x → e.owner ≢ owner → is_number q (label_of e.op).number ≡ true
        → held numbers.own (record { owner = Some owner; form = (label_of e.op).form }) q < held numbers.all (record { owner = None; form = (label_of e.op).form }) q
    unfolding own_one any_one
    more_than_own numbers counts there other number =
        let fewer = filter_fewer own_one any_one each_own x e there (not_own other (own_one e) refl) (one_of_all number) in
        let own = counts.own.counts (record { owner = Some owner; form = (label_of e.op).form }) q in
        let all = counts.all.counts (record { owner = None; form = (label_of e.op).form }) q in
        omega arith

module _ {Shape State Op Undo : Type 0} (o : Object Shape State Op Undo) (label_of : Op → Label) (owner : Name) (b : Op) (own : TallyList) where
  form_at : (h : Holder) (e : Holder × Counted) (rest : TallyList) (a : Op) (same : Bool) → same_holder h e.0 ≡ same → (label_of a).form ≡ h.form → FormSwaps o label_of owner b own e
      → (HasOthers own owner h.form (counted_of (lookup (same_holder h) rest)) (label_of a).number → Swaps o a b)
      → HasOthers own owner h.form (counted_of (cond same (Some e.1) (lookup (same_holder h) rest))) (label_of a).number → Swaps o a b
  form_at h e rest a true is form here later others =
      let parts = same_holder-true h e.0 is in
      here a (form ∙ parts.1) (subst (λ (f : ℕ). HasOthers own owner f e.1 (label_of a).number) parts.1 others)
  form_at h e rest a false is form here later others = later others

  -- The operations of a form that others have swap with the operation.
  held_swaps : (all : TallyList) (h : Holder) (a : Op) → AllFormsSwap o label_of owner b own all → (label_of a).form ≡ h.form
      → HasOthers own owner h.form (counted_of (lookup (same_holder h) all)) (label_of a).number → Swaps o a b
  held_swaps [] h a swaps form others = let none = others.size in absurd (omega arith)
  held_swaps (e ∷ all) h a swaps form others =
      form_at h e all a (same_holder h e.0) refl form swaps.0 (λ more. held_swaps all h a swaps.1 form more) others

-- so does each entry of another owner that is counted
pub entry_swaps : {Shape State Op Undo : Type 0} (o : Object Shape State Op Undo) (label_of : Op → Label) (owner : Name) (b : Op) (numbers : NumberList) (x : List (SharedEntry Op)) (e : SharedEntry Op)
    → AllFormsSwap o label_of owner b numbers.own numbers.all → CountsAll label_of numbers x → In e x → e.owner ≢ owner → Swaps o e.op b
entry_swaps o label_of owner b numbers x e swaps counts there other =
    held_swaps o label_of owner b numbers.own numbers.all (record { owner = None; form = (label_of e.op).form }) e.op swaps refl
    (record {
      size = more_than_own label_of owner x e None numbers counts there other refl;
      number = more_than_own label_of owner x e (Some (label_of e.op).number) numbers counts there other ((Decides-int_eq (label_of e.op).number (label_of e.op).number).1 refl);
    })
