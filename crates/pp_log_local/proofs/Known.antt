-- The own entries of a local log, as the log changes.
use Rattle.std.proofs.Common.{◌≡◌, ◌≢◌, ◌⊎◌, ◌&&◌, ℕ, zero, suc, ◌<◌, ◌≤◌, ◌+◌, Bool, true, false}
use Rattle.std.proofs.Common.{cond, List, [], ◌∷◌, ◌++◌, length, Option, Some, None, is_some}
use Rattle.std.proofs.Common.{refl, sym, ◌∙◌, ap, subst, arith, inl, inr}
use Rattle.std.specs.List.{slice_get, slice_set, remove}
use Rattle.std.proofs.lemmas.Bool.{cases_lt}
use Rattle.std.proofs.lemmas.List.{length_push}
use Rattle.std.proofs.lemmas.List.Edits.{length-remove}
use Rattle.std.proofs.lemmas.Option.{slice_get_within}
use Rattle.pp_core.specs.declared.entry.LocalEntry.{LocalEntry}
use Rattle.pp_model.specs.Config.{Mark, Unpushed, Pushed, Pulled, is_mark, is_own, item, own}
use Rattle.pp_model.specs.Lists.{In}
use Rattle.pp_model.proofs.Lists.{in_cases}
use Rattle.pp_model.proofs.Finding.{stands_in}
use Rattle.pp_kind.specs.Object.{Object}
use Rattle.pp_kind.specs.Parts.{Covers, SampleList}
use Rattle.pp_log.specs.declared.place.Removed.{Removed}
use Rattle.pp_log.specs.declared.place.Removed.TheVariants.{Done, Differs}
use Rattle.pp_log.specs.Logs.{RemovesEntry}
use Rattle.pp_log.proofs.Lists.{before_stays, front_stays, set_other}
use Rattle.pp_log_local.specs.Known.{KnowsOwn, NonePushedBut, NonePushedFrom, NoneUnpushedBefore}
use Rattle.pp_log_local.specs.Known.{NoneUnpushedBut}

none_plus : (n : ℕ) → n ≡ 0 + n
none_plus n = omega arith

-- How many entries are own: the first, and those after it.
counted_head : {Op : Type 0} (e : LocalEntry Op) (x : List (LocalEntry Op)) (b : Bool) → length (cond b (e ∷ own x) (own x)) ≡ length (cond b (e ∷ []) []) + length (own x)
counted_head e x true = one_plus (length (own x))
  where
    one_plus : (n : ℕ) → suc n ≡ 1 + n
    one_plus n = omega arith
counted_head e x false = none_plus (length (own x))

count_head : {Op : Type 0} (e : LocalEntry Op) (x : List (LocalEntry Op)) → length (own (e ∷ x)) ≡ length (own (e ∷ [])) + length (own x)
count_head e x = counted_head e x (is_own e.mark)

added_up : (p q r s t u : ℕ) → p ≡ q + r → r ≡ s + t → u ≡ q + s → p ≡ u + t
added_up p q r s t u h k l = omega arith

taken_off : (p q r s t u : ℕ) → p ≡ q + r → r + s ≡ t → u ≡ q + t → p + s ≡ u
taken_off p q r s t u h k l = omega arith

-- one more entry
pub count_added : {Op : Type 0} (x : List (LocalEntry Op)) (e : LocalEntry Op) → length (own (x ++ e ∷ [])) ≡ length (own x) + length (own (e ∷ []))
count_added [] e = none_plus (length (own (e ∷ [])))
count_added (a ∷ x) e =
    added_up (length (own (a ∷ (x ++ e ∷ [])))) (length (own (a ∷ []))) (length (own (x ++ e ∷ []))) (length (own x)) (length (own (e ∷ []))) (length (own (a ∷ x)))
    (count_head a (x ++ e ∷ [])) (count_added x e) (count_head a x)

-- one less
pub count_removed : {Op : Type 0} (x : List (LocalEntry Op)) (i : ℕ) (e : LocalEntry Op) → slice_get x i ≡ Some e → length (own (remove x i)) + length (own (e ∷ [])) ≡ length (own x)
count_removed [] i e at = absurd (cc)
count_removed {Op} (a ∷ x) zero e at =
    let same : e ≡ a = cc in
    let head = count_head a x in
    ap (λ (d : LocalEntry Op). length (own x) + length (own (d ∷ []))) same
    ∙ turned (length (own (a ∷ []))) (length (own x)) ∙ sym head
  where
    turned : (n m : ℕ) → m + n ≡ n + m
    turned n m = omega arith
count_removed (a ∷ x) (suc i) e at =
    taken_off (length (own (a ∷ remove x i))) (length (own (a ∷ []))) (length (own (remove x i))) (length (own (e ∷ []))) (length (own x)) (length (own (a ∷ x)))
    (count_head a (remove x i)) (count_removed x i e at) (count_head a x)

-- one that stays own, or another's
alone : {Op : Type 0} (d e : LocalEntry Op) (b c : Bool) → b ≡ c → length (cond b (d ∷ []) []) ≡ length (cond c (e ∷ []) [])
alone d e true true h = refl
alone d e false false h = refl
alone d e true false h = cc
alone d e false true h = cc

-- To set an entry leaves the number of own entries, if it is own exactly if the old one was.
pub count_set : {Op : Type 0} (x : List (LocalEntry Op)) (i : ℕ) (e d : LocalEntry Op) → slice_get x i ≡ Some e → is_own d.mark ≡ is_own e.mark → length (own (slice_set x i d)) ≡ length (own x)
count_set [] i e d at h = absurd (cc)
count_set {Op} (a ∷ x) zero e d at h =
    let same : a ≡ e = cc in
    count_head d x
    ∙ ap (λ (n : ℕ). n + length (own x)) (alone d a (is_own d.mark) (is_own a.mark) (h ∙ ap (λ (f : LocalEntry Op). is_own f.mark) (sym same)))
    ∙ sym (count_head a x)
count_set (a ∷ x) (suc i) e d at h =
    count_head a (slice_set x i d)
    ∙ ap (λ (n : ℕ). length (own (a ∷ [])) + n) (count_set x i e d at h)
    ∙ sym (count_head a x)

-- an own entry is counted
pub some_own : {Op : Type 0} (x : List (LocalEntry Op)) (e : LocalEntry Op) → In e x → is_own e.mark ≡ true → 0 < length (own x)
some_own [] e i h = elim i [ ]
some_own {Op} (a ∷ x) e (inl same) h =
    let head = count_head a x in
    let one = ap (λ (b : Bool). length (cond b (a ∷ []) [])) (ap (λ (d : LocalEntry Op). is_own d.mark) (sym same) ∙ h) in
    at_least (length (own (a ∷ x))) (length (own (a ∷ []))) (length (own x)) head one
  where
    at_least : (p q r : ℕ) → p ≡ q + r → q ≡ 1 → 0 < p
    at_least p q r u v = omega arith
some_own (a ∷ x) e (inr i) h =
    at_least (length (own (a ∷ x))) (length (own (a ∷ []))) (length (own x)) (count_head a x) (some_own x e i h)
  where
    at_least : (p q r : ℕ) → p ≡ q + r → 0 < r → 0 < p
    at_least p q r u v = omega arith

-- the entries of a list with one set, or with one less
in_set : {A : Type 0} (x : List A) (i : ℕ) (d a : A) → In a (slice_set x i d) → (a ≡ d) ⊎ In a x
in_set [] i d a h = elim h [ ]
in_set (b ∷ x) zero d a (inl same) = inl same
in_set (b ∷ x) zero d a (inr h) = inr (inr h)
in_set (b ∷ x) (suc i) d a (inl same) = inr (inl same)
in_set (b ∷ x) (suc i) d a (inr h) = elim (in_set x i d a h) [ inl same ↦ inl same | inr there ↦ inr (inr there) ]

in_removed : {A : Type 0} (x : List A) (i : ℕ) (a : A) → In a (remove x i) → In a x
in_removed [] zero a h = elim h [ ]
in_removed [] (suc i) a h = elim h [ ]
in_removed (b ∷ x) zero a h = inr h
in_removed (b ∷ x) (suc i) a (inl same) = inl same
in_removed (b ∷ x) (suc i) a (inr h) = inr (in_removed x i a h)

behind_stays : {A : Type 0} (x : List A) (i j : ℕ) → i ≤ j → slice_get (remove x i) j ≡ slice_get x (suc j)
behind_stays [] zero j h = refl
behind_stays [] (suc i) j h = refl
behind_stays (a ∷ x) zero j h = refl
behind_stays (a ∷ x) (suc i) zero h = absurd (omega arith)
behind_stays (a ∷ x) (suc i) (suc j) h = behind_stays x i j (omega arith)

module _ {Op : Type 0} (x : List (LocalEntry Op)) where
  -- The frontiers if nothing is said of an entry that was added.
  added_at : (e : LocalEntry Op) (j : ℕ) (d : LocalEntry Op) → j ≢ length x → slice_get (x ++ e ∷ []) j ≡ Some d → slice_get x j ≡ Some d
  added_at e j d other at =
      let size = length_push x e in
      let within = slice_get_within (x ++ e ∷ []) j d at in
      sym (front_stays x (e ∷ []) j (omega arith)) ∙ at

  -- A position with no unpushed entry before it stays one, but for the entry that was added.
  pub unpushed_added : (e : LocalEntry Op) (k : ℕ) → NoneUnpushedBefore x k → NoneUnpushedBut (length x) (x ++ e ∷ []) k
  unpushed_added e k h j d other lt at = h j d lt (added_at e j d other at)

  -- A position with no pushed entry from it on stays one, but for the entry that was added.
  pub pushed_added : (e : LocalEntry Op) (k : ℕ) → NonePushedFrom x k → NonePushedBut (length x) (x ++ e ∷ []) k
  pushed_added e k h j d other le at = h j d le (added_at e j d other at)

  -- or of one that was set
  pub unpushed_set : (i : ℕ) (e : LocalEntry Op) (k : ℕ) → NoneUnpushedBefore x k → NoneUnpushedBut i (slice_set x i e) k
  unpushed_set i e k h j d other lt at = h j d lt (sym (set_other x i j e (λ s. other (sym s))) ∙ at)

  -- A position with no pushed entry from it on stays one, but for the entry that was set.
  pub pushed_set : (i : ℕ) (e : LocalEntry Op) (k : ℕ) → NonePushedFrom x k → NonePushedBut i (slice_set x i e) k
  pushed_set i e k h j d other le at = h j d le (sym (set_other x i j e (λ s. other (sym s))) ∙ at)

  -- the frontiers without an entry
  pub unpushed_removed : (i k m : ℕ) → (i < k → m + 1 ≡ k) → (k ≤ i → m ≡ k) → NoneUnpushedBefore x k → NoneUnpushedBefore (remove x i) m
  unpushed_removed i k m less same h j d lt at = elim (cases_lt i k) [
    | inl l ↦ let one = less l in elim (cases_lt j i) [
      | inl f ↦ h j d (omega arith) (sym (before_stays x i j f) ∙ at)
      | inr f ↦ h (suc j) d (omega arith) (sym (behind_stays x i j f) ∙ at)
    ]
    | inr l ↦ let one = same l in let f : j < i = omega arith in h j d (omega arith) (sym (before_stays x i j f) ∙ at)
  ]

  -- A position with no pushed entry from it on stays one if an entry is removed.
  pub pushed_removed : (i k m : ℕ) → (i < k → m + 1 ≡ k) → (k ≤ i → m ≡ k) → NonePushedFrom x k → NonePushedFrom (remove x i) m
  pushed_removed i k m less same h j d le at = elim (cases_lt i k) [
    | inl l ↦ let one = less l in let f : i ≤ j = omega arith in h (suc j) d (omega arith) (sym (behind_stays x i j f) ∙ at)
    | inr l ↦ let one = same l in elim (cases_lt j i) [
      | inl f ↦ h j d (omega arith) (sym (before_stays x i j f) ∙ at)
      | inr f ↦ h (suc j) d (omega arith) (sym (behind_stays x i j f) ∙ at)
    ]
  ]

  within_removed : (i k m : ℕ) → i < length x → (i < k → m + 1 ≡ k) → (k ≤ i → m ≡ k) → k ≤ length x → m ≤ length (remove x i)
  within_removed i k m inside less same h =
      let size = length-remove x i inside in
      elim (cases_lt i k) [
        | inl l ↦ let one = less l in omega arith
        | inr l ↦ let one = same l in omega arith
      ]

  -- at most so many are own as are counted
  pub own_counted : (C : Op → Type 0) (i : ℕ) (e : LocalEntry Op) (n from to : ℕ) → Some e ≡ slice_get x i → KnowsOwn C x n from to → length (own (e ∷ [])) ≤ n
  own_counted C i e n from to there k =
      at_most (length (own (remove x i))) (length (own (e ∷ []))) (length (own x)) n (count_removed x i e (sym there)) k.counted
    where
      at_most : (p q r s : ℕ) → p + q ≡ r → s ≡ r → q ≤ s
      at_most p q r s h l = omega arith

  -- The known facts about the own entries stay true when an entry is taken out.
  pub known_removed : (C D : Op → Type 0) (i : ℕ) (e : LocalEntry Op) (n m from start to end : ℕ) → Some e ≡ slice_get x i →
      (0 < m → (b : Op) → C b → D b) → m + length (own (e ∷ [])) ≡ n →
      (i < from → start + 1 ≡ from) → (from ≤ i → start ≡ from) →
      (i < to → end + 1 ≡ to) → (to ≤ i → end ≡ to) →
      KnowsOwn C x n from to → KnowsOwn D (remove x i) m start end
  known_removed C D i e n m from start to end there keeps count less same lower stays k =
      let at : slice_get x i ≡ Some e = sym there in
      let inside = slice_get_within x i e at in
      let left : m ≡ length (own (remove x i)) = same_rest m n (length (own (remove x i))) (length (own (e ∷ []))) (length (own x)) count k.counted (count_removed x i e at) in
      record {
        covered = λ d stands is. keeps (subst (λ (q : ℕ). 0 < q) (sym left) (some_own (remove x i) d stands is)) d.op (k.covered d (in_removed x i d stands) is);
        counted = left;
        from_within = within_removed i from start inside less same k.from_within;
        unpushed = unpushed_removed i from start less same k.unpushed;
        to_within = within_removed i to end inside lower stays k.to_within;
        pushed = pushed_removed i to end lower stays k.pushed;
      }
    where
      same_rest : (p q r s t : ℕ) → p + s ≡ q → q ≡ t → r + s ≡ t → p ≡ r
      same_rest p q r s t u v w = omega arith

  -- The operations of the log with one more entry are covered, if the new one's is.
  pub covered_added : (C D : Op → Type 0) (e : LocalEntry Op) → ((b : Op) → C b → D b) → (is_own e.mark ≡ true → D e.op) →
      ((d : LocalEntry Op) → In d x → is_own d.mark ≡ true → C d.op) →
      (d : LocalEntry Op) → In d (x ++ e ∷ []) → is_own d.mark ≡ true → D d.op
  covered_added C D e keeps covers h d there is = elim (in_cases d x (e ∷ []) there) [
    | inl i ↦ keeps d.op (h d i is)
    | inr i ↦ elim i [
      | inl same ↦ let back : e ≡ d = sym same in subst (λ (f : LocalEntry Op). is_own f.mark ≡ true → D f.op) back covers is
      | inr never ↦ elim never [ ]
    ]
  ]

  -- and of the log in which one was set
  pub covered_set : (C : Op → Type 0) (i : ℕ) (e f : LocalEntry Op) → slice_get x i ≡ Some e → f.op ≡ e.op → is_own e.mark ≡ true →
      ((d : LocalEntry Op) → In d x → is_own d.mark ≡ true → C d.op) →
      (d : LocalEntry Op) → In d (slice_set x i f) → is_own d.mark ≡ true → C d.op
  covered_set C i e f at op own_too h d there is = elim (in_set x i f d there) [
    | inl same ↦ subst C (sym (ap (λ (g : LocalEntry Op). g.op) same ∙ op)) (h e (stands_in x i e at) own_too)
    | inr k ↦ h d k is
  ]

-- an entry whose pair swaps is none that is looked for
pub swapping_unpushed : {A : Type 0} (m : Mark) (r : Option A) → (is_own m ≡ true → r ≡ None) → (is_mark m Unpushed && is_some r) ≡ false
swapping_unpushed Unpushed r h = ap is_some (h refl)
swapping_unpushed Pushed r h = refl
swapping_unpushed Pulled r h = refl

-- If no own entry is refuted, an entry is not found as a pushed one that is refuted.
pub swapping_pushed : {A : Type 0} (m : Mark) (r : Option A) → (is_own m ≡ true → r ≡ None) → (is_mark m Pushed && is_some r) ≡ false
swapping_pushed Unpushed r h = refl
swapping_pushed Pushed r h = ap is_some (h refl)
swapping_pushed Pulled r h = refl

-- If no own entry is refuted, an entry is not found as an own one that is refuted.
pub swapping_own : {A : Type 0} (m : Mark) (r : Option A) → (is_own m ≡ true → r ≡ None) → (is_own m && is_some r) ≡ false
swapping_own Unpushed r h = ap is_some (h refl)
swapping_own Pushed r h = ap is_some (h refl)
swapping_own Pulled r h = refl

-- nor is one of another mark
pub other_mark : (b c : Bool) → b ≡ false → (b && c) ≡ false
other_mark true c h = cc
other_mark false c h = refl

-- The same, with other names for its parts.
module _ {Shape State Op Undo : Type 0} (o : Object Shape State Op Undo) where
  -- All that is known of the own entries of a log is known under equal names of its parts.
  pub known_moved : (x y : List (LocalEntry Op)) (s t : SampleList Op) (n m from start to end : ℕ) → y ≡ x → t ≡ s → m ≡ n → start ≡ from → end ≡ to → KnowsOwn (Covers o s) x n from to → KnowsOwn (Covers o t) y m start end
  known_moved x y s t n m from start to end a b c d e k =
      subst (λ (z : List (LocalEntry Op)). KnowsOwn (Covers o t) z m start end) (sym a)
      (subst (λ (z : SampleList Op). KnowsOwn (Covers o z) x m start end) (sym b)
      (subst (λ (z : ℕ). KnowsOwn (Covers o s) x z start end) (sym c)
      (subst (λ (z : ℕ). KnowsOwn (Covers o s) x n z end) (sym d)
      (subst (λ (z : ℕ). KnowsOwn (Covers o s) x n from z) (sym e) k))))

  -- the entries that a removal leaves
  pub removed_done : (old new : Shape × List (LocalEntry Op)) (i : ℕ) (removed : Removed) → removed ≡ Done → RemovesEntry o item old i new removed → new.1 ≡ remove old.1 i
  removed_done old new i Done e h = ap (λ (z : Shape × List (LocalEntry Op)). z.1) h.0
  removed_done old new i (Differs id answer) e h = absurd (cc)

  -- A removal that is not done leaves the entries as they were.
  pub removed_not : (old new : Shape × List (LocalEntry Op)) (i : ℕ) (removed : Removed) → (removed ≡ Done → ⊥) → RemovesEntry o item old i new removed → new.1 ≡ old.1
  removed_not old new i Done n h = absurd (n refl)
  removed_not old new i (Differs id answer) n h = ap (λ (z : Shape × List (LocalEntry Op)). z.1) h.0

-- no more entries are own than there are
few_head : (n m : ℕ) (b : Bool) → n ≤ m → cond b (suc n) n ≤ suc m
few_head n m true h = omega arith
few_head n m false h = omega arith

length_head : {A : Type 0} (a : A) (x : List A) (b : Bool) → length (cond b (a ∷ x) x) ≡ cond b (suc (length x)) (length x)
length_head a x true = refl
length_head a x false = refl

-- A log has at most as many own entries as entries.
pub few_own : {Op : Type 0} (x : List (LocalEntry Op)) → length (own x) ≤ length x
few_own [] = omega arith
few_own (a ∷ x) =
    subst (λ (n : ℕ). n ≤ suc (length x)) (sym (length_head a (own x) (is_own a.mark))) (few_head (length (own x)) (length x) (is_own a.mark) (few_own x))

-- a mark that is not pulled is own
pub own_mark : (m : Mark) → m ≢ Pulled → is_own m ≡ true
own_mark Unpushed n = refl
own_mark Pushed n = refl
own_mark Pulled n = absurd (n refl)

module _ {Shape Op : Type 0} (old new : Shape × List (LocalEntry Op)) (z : List (LocalEntry Op)) (list : z ≡ new.1) (e : LocalEntry Op) where
  -- The known facts about the own entries of the log with one more entry.
  module _ (is : new ≡ (old.0, old.1 ++ e ∷ [])) where
    grown : z ≡ old.1 ++ e ∷ []
    grown = list ∙ ap (λ (p : Shape × List (LocalEntry Op)). p.1) is

    -- In the log with an added entry, no other entry before the frontier is unpushed.
    pub unpushed_grown : (i k : ℕ) → i ≡ length old.1 → NoneUnpushedBefore old.1 k → NoneUnpushedBut i z k
    unpushed_grown i k at h =
        subst (λ (l : List (LocalEntry Op)). NoneUnpushedBut i l k) (sym grown)
        (subst (λ (n : ℕ). NoneUnpushedBut n (old.1 ++ e ∷ []) k) (sym at) (unpushed_added old.1 e k h))

    -- In the log with an added entry, no other entry from the frontier on is pushed.
    pub pushed_grown : (i k : ℕ) → i ≡ length old.1 → NonePushedFrom old.1 k → NonePushedBut i z k
    pushed_grown i k at h =
        subst (λ (l : List (LocalEntry Op)). NonePushedBut i l k) (sym grown)
        (subst (λ (n : ℕ). NonePushedBut n (old.1 ++ e ∷ []) k) (sym at) (pushed_added old.1 e k h))

    -- The facts about the own entries stay true with one more entry, if its operation is covered.
    pub known_grown : (C D : Op → Type 0) (n m from start to end : ℕ) →
        ((b : Op) → C b → D b) → (is_own e.mark ≡ true → D e.op) → m ≡ n + length (own (e ∷ [])) →
        start ≤ length z → NoneUnpushedBefore z start → end ≤ length z → NonePushedFrom z end →
        KnowsOwn C old.1 n from to → KnowsOwn D new.1 m start end
    known_grown C D n m from start to end keeps covers count within unpushed inside pushed k =
        subst (λ (l : List (LocalEntry Op)). KnowsOwn D l m start end) list (record {
          covered = subst (λ (l : List (LocalEntry Op)). (d : LocalEntry Op) → In d l → is_own d.mark ≡ true → D d.op) (sym grown) (covered_added old.1 C D e keeps covers k.covered);
          counted = count ∙ ap (λ (q : ℕ). q + length (own (e ∷ []))) k.counted ∙ sym (count_added old.1 e) ∙ ap (λ (l : List (LocalEntry Op)). length (own l)) (sym grown);
          from_within = within;
          unpushed = unpushed;
          to_within = inside;
          pushed = pushed;
        })

  -- The known facts about the own entries stay true when a mark is set.
  pub known_marked : (C : Op → Type 0) (i : ℕ) (d : LocalEntry Op) (n from start to end : ℕ) → new ≡ (old.0, slice_set old.1 i e) →
      Some d ≡ slice_get old.1 i → e.op ≡ d.op → is_own d.mark ≡ true → is_own e.mark ≡ true →
      start ≤ length z → NoneUnpushedBefore z start → end ≤ length z → NonePushedFrom z end →
      KnowsOwn C old.1 n from to → KnowsOwn C new.1 n start end
  known_marked C i d n from start to end is there op before behind within unpushed inside pushed k =
      let marked : z ≡ slice_set old.1 i e = list ∙ ap (λ (p : Shape × List (LocalEntry Op)). p.1) is in
      subst (λ (l : List (LocalEntry Op)). KnowsOwn C l n start end) list (record {
        covered = subst (λ (l : List (LocalEntry Op)). (b : LocalEntry Op) → In b l → is_own b.mark ≡ true → C b.op) (sym marked) (covered_set old.1 C i d e (sym there) op before k.covered);
        counted = k.counted ∙ sym (count_set old.1 i d e (sym there) (behind ∙ sym before)) ∙ ap (λ (l : List (LocalEntry Op)). length (own l)) (sym marked);
        from_within = within;
        unpushed = unpushed;
        to_within = inside;
        pushed = pushed;
      })
