-- The uncommitted entries of a log that changes.
use Rattle.std.proofs.Common.{◌≡◌, ◌≢◌, ℕ, zero, suc, ◌+◌, ◌≤◌, Bool, true, false, not, cond}
use Rattle.std.proofs.Common.{◌&&◌, ◌==◌, filter, List, [], ◌∷◌, ◌++◌, length, Option, None, Some, refl}
use Rattle.std.proofs.Common.{sym, ◌∙◌, ap, subst, arith, inl, inr, length-append}
use Rattle.std.specs.List.{slice_get, slice_set, remove}
use Rattle.std.specs.Map.{lookup}
use Rattle.std.specs.Ordering.{int_eq}
use Rattle.std.proofs.lemmas.Bool.{and_parts}
use Rattle.std.proofs.lemmas.Bool.Decides.{Decides-eqb, Decides-int_eq}
use Rattle.std.proofs.lemmas.List.{append-nil, length_push}
use Rattle.std.proofs.lemmas.List.Elements.{filter-append}
use Rattle.pp_core.specs.declared.entry.SharedEntry.{SharedEntry}
use Rattle.pp_model.specs.Lists.{In}
use Rattle.pp_model.specs.Names.{Name}
use Rattle.pp_model.proofs.Commit.{as_committed}
use Rattle.pp_model.proofs.Lists.{in_cases, in_filter, in_left, in_right}
use Rattle.pp_kind.specs.declared.label.Label.{Label}
use Rattle.pp_kind.specs.declared.part.Part.{Part}
use Rattle.pp_kind.specs.Parts.{Covers, PartsSwap, SampleList}
use Rattle.pp_kind.specs.Object.{Object, Swaps}
use Rattle.pp_log_shared.specs.declared.open_parts.OpenPart.{OpenPart}
use Rattle.pp_log_shared.specs.Blocking.{AllGiveWay}
use Rattle.pp_log_shared.specs.Numbers.{CountsAllOf, NumberList}
use Rattle.pp_log_shared.specs.Uncommitted.{same_part, is_open_in, open_in, Tells, TellsOf}
use Rattle.pp_log_shared.specs.Uncommitted.{KeepsOpen, LosesOne, LosesAt, LeavesOut}

-- two parts that are the same
pub same_part-true : (p q : Part) → same_part p q ≡ true → p ≡ q
same_part-true p q h =
    let both = and_parts (p.object == q.object) (int_eq p.key q.key) h in
    let object : p.object ≡ q.object = (Decides-eqb p.object q.object).0 both.0 in
    let key : p.key ≡ q.key = (Decides-int_eq p.key q.key).0 both.1 in
    let change : p ≡ record { object = q.object; key = p.key } = ap (λ (n : ℕ). let r : Part = record { object = n; key = p.key } in r) object in
    change ∙ ap (λ (k : _). let r : Part = record { object = q.object; key = k } in r) key

-- A part is the same as itself.
pub same_part-itself : (p : Part) → same_part p p ≡ true
same_part-itself p =
    ap (λ (b : Bool). b && int_eq p.key p.key) ((Decides-eqb p.object p.object).1 refl) ∙ (Decides-int_eq p.key p.key).1 refl

-- Those that pass a test, of a list with one more after it.
pub filter_push : {E : Type 0} (test : E → Bool) (x : List E) (e : E) (b : Bool) → test e ≡ b → filter test (x ++ e ∷ []) ≡ filter test x ++ cond b (e ∷ []) []
filter_push {E} test x e b h = filter-append test x (e ∷ []) ∙ ap (λ (c : Bool). filter test x ++ cond c (e ∷ []) []) h

-- If the entry does not pass the test, those that pass are the same.
pub filter_push-false : {E : Type 0} (test : E → Bool) (x : List E) (e : E) → test e ≡ false → filter test (x ++ e ∷ []) ≡ filter test x
filter_push-false test x e h = filter_push test x e false h ∙ append-nil (filter test x)

-- a list without one
pub loses_first : {E : Type 0} (b : Bool) (a : E) (x : List E) → LosesAt a b (cond b (a ∷ x) x) x
loses_first true a x = ([], x, refl, refl)
loses_first false a x = refl

-- A list that loses an entry loses it too with one more element before it.
pub loses_later : {E : Type 0} (e : E) (b c : Bool) (a : E) (x y : List E) → LosesAt e b x y → LosesAt e b (cond c (a ∷ x) x) (cond c (a ∷ y) y)
loses_later {E} e true true a x y h = (a ∷ h.0, h.1, ap (λ (z : List E). a ∷ z) h.2, ap (λ (z : List E). a ∷ z) h.3)
loses_later e true false a x y h = h
loses_later {E} e false c a x y h = ap (λ (z : List E). cond c (a ∷ z) z) h

loses_removed : {E : Type 0} (test : E → Bool) (x : List E) (i : ℕ) (e : E) → slice_get x i ≡ Some e → LosesAt e (test e) (filter test x) (filter test (remove x i))
loses_removed test [] i e at = cc
loses_removed {E} test (a ∷ x) zero e at =
    let same : a ≡ e = cc in
    subst (λ (d : E). LosesAt d (test d) (filter test (a ∷ x)) (filter test x)) same (loses_first (test a) a (filter test x))
loses_removed test (a ∷ x) (suc i) e at = loses_later e (test e) (test a) a (filter test x) (filter test (remove x i)) (loses_removed test x i e at)

loses_set : {E : Type 0} (test : E → Bool) (x : List E) (i : ℕ) (e d : E) → test d ≡ false → slice_get x i ≡ Some e → LosesAt e (test e) (filter test x) (filter test (slice_set x i d))
loses_set test [] i e d out at = cc
loses_set {E} test (a ∷ x) zero e d out at =
    let same : a ≡ e = cc in
    let gone : filter test (d ∷ x) ≡ filter test x = ap (λ (b : Bool). cond b (d ∷ filter test x) (filter test x)) out in
    subst (λ (z : List E). LosesAt e (test e) (filter test (a ∷ x)) z) (sym gone)
    (subst (λ (f : E). LosesAt f (test f) (filter test (a ∷ x)) (filter test x)) same (loses_first (test a) a (filter test x)))
loses_set test (a ∷ x) (suc i) e d out at = loses_later e (test e) (test a) a (filter test x) (filter test (slice_set x i d)) (loses_set test x i e d out at)

-- it is one shorter, and has no others
pub one_less : {E : Type 0} (e : E) (x y : List E) → LosesOne e x y → length x ≡ length y + 1
one_less {E} e x y h =
    let more : length (h.0 ++ e ∷ h.1) ≡ length h.0 + length (e ∷ h.1) = length-append h.0 (e ∷ h.1) in
    let fewer : length (h.0 ++ h.1) ≡ length h.0 + length h.1 = length-append h.0 h.1 in
    let before : length x ≡ length (h.0 ++ e ∷ h.1) = ap length h.2 in
    let behind : length y ≡ length (h.0 ++ h.1) = ap length h.3 in
    omega arith

-- An element of a list that has lost one entry was in the list.
pub was_there : {E : Type 0} (e : E) (x y : List E) → LosesOne e x y → (d : E) → In d y → In d x
was_there {E} e x y h d there =
    subst (λ (z : List E). In d z) (sym h.2) (elim (in_cases d h.0 h.1 (subst (λ (z : List E). In d z) h.3 there)) [
      | inl before ↦ in_left d h.0 (e ∷ h.1) before
      | inr behind ↦ in_right d h.0 (e ∷ h.1) (inr behind)
    ])

-- To remove the entry at a position leaves it out at each part.
pub leaves_removed : {Op : Type 0} (part_of : Op → Part) (x : List (SharedEntry Op)) (i : ℕ) (e : SharedEntry Op) → slice_get x i ≡ Some e → LeavesOut part_of e x (remove x i)
leaves_removed part_of x i e at p = loses_removed (is_open_in part_of p) x i e at

-- To commit the entry at a position leaves it out at each part of the uncommitted entries.
pub leaves_committed : {Op : Type 0} (part_of : Op → Part) (x : List (SharedEntry Op)) (i : ℕ) (e : SharedEntry Op) → slice_get x i ≡ Some e → LeavesOut part_of e x (slice_set x i (as_committed e))
leaves_committed part_of x i e at p = loses_set (is_open_in part_of p) x i e (as_committed e) refl at

one_longer : {E : Type 0} (b : Bool) (a : E) (y z : List E) → length y ≤ length z → length (cond b (a ∷ y) y) ≤ length (a ∷ z)
one_longer true a y z h = omega arith
one_longer false a y z h = omega arith

shorter : {E : Type 0} (test : E → Bool) (z : List E) → length (filter test z) ≤ length z
shorter test [] = omega arith
shorter test (a ∷ z) = one_longer (test a) a (filter test z) z (shorter test z)

none_of : {E : Type 0} (x : List E) → 0 ≡ length x → x ≡ []
none_of [] h = refl
none_of (a ∷ x) h = absurd (omega arith)

module _ {Shape State Op Undo : Type 0} (o : Object Shape State Op Undo) (label_of : Op → Label) where
  -- the only entry of a part
  pub tells_first : (slot : OpenPart (SampleList Op)) (e : SharedEntry Op) → slot.count ≡ 1 → slot.owner ≡ e.owner → Covers o slot.samples e.op → slot.numbers ≡ None → Tells o label_of slot (e ∷ [])
  tells_first slot e count owner covers none =
      record {
        count = count;
        alone = λ _ f h. elim h [ inl same ↦ ap (λ (d : SharedEntry Op). d.owner) same ∙ sym owner | inr none ↦ absurd none ];
        covers = λ f h. elim h [ inl same ↦ subst (λ (d : SharedEntry Op). Covers o slot.samples d.op) (sym same) covers | inr none ↦ absurd none ];
        numbers = subst (λ (n : Option NumberList). CountsAllOf label_of n (e ∷ [])) (sym none) tt;
      }

  -- one more entry
  pub tells_more : (old new : OpenPart (SampleList Op)) (x : List (SharedEntry Op)) (e : SharedEntry Op) → new.count ≡ old.count + 1 → new.owner ≡ old.owner → (new.alone ≡ true → (old.alone ≡ true) × (e.owner ≡ old.owner)) → ((b : Op) → Covers o old.samples b → Covers o new.samples b) → Covers o new.samples e.op → (CountsAllOf label_of old.numbers x → CountsAllOf label_of new.numbers (x ++ e ∷ [])) → Tells o label_of old x → Tells o label_of new (x ++ e ∷ [])
  tells_more old new x e count owner alone keeps covers numbers told =
      let size = length_push x e in
      let was = told.count in
      record {
        count = omega arith;
        alone = λ all f h. let was_alone = alone all in elim (in_cases f x (e ∷ []) h) [
          | inl before ↦ told.alone was_alone.0 f before ∙ sym owner
          | inr last ↦ elim last [ inl same ↦ ap (λ (d : SharedEntry Op). d.owner) same ∙ was_alone.1 ∙ sym owner | inr none ↦ absurd none ]
        ];
        covers = λ f h. elim (in_cases f x (e ∷ []) h) [
          | inl before ↦ keeps f.op (told.covers f before)
          | inr last ↦ elim last [ inl same ↦ subst (λ (d : SharedEntry Op). Covers o new.samples d.op) (sym same) covers | inr none ↦ absurd none ]
        ];
        numbers = numbers told.numbers;
      }

  -- one entry less
  pub tells_less : (old new : OpenPart (SampleList Op)) (x y : List (SharedEntry Op)) (e : SharedEntry Op) (n : ℕ) → new.count ≡ n → n + 1 ≡ old.count → new.owner ≡ old.owner → new.alone ≡ old.alone → new.samples ≡ old.samples → (CountsAllOf label_of old.numbers x → CountsAllOf label_of new.numbers y) → Tells o label_of old x → LosesOne e x y → Tells o label_of new y
  tells_less old new x y e n count less owner alone samples numbers told lost =
      let was = told.count in
      let size = one_less e x y lost in
      record {
        count = omega arith;
        alone = λ all f h. told.alone (sym alone ∙ all) f (was_there e x y lost f h) ∙ sym owner;
        covers = λ f h. subst (λ (s : SampleList Op). Covers o s f.op) (sym samples) (told.covers f (was_there e x y lost f h));
        numbers = numbers told.numbers;
      }

  -- other numbers
  pub tells_numbers : (old new : OpenPart (SampleList Op)) (x : List (SharedEntry Op)) → new.count ≡ old.count → new.owner ≡ old.owner → new.alone ≡ old.alone → new.samples ≡ old.samples → CountsAllOf label_of new.numbers x → Tells o label_of old x → Tells o label_of new x
  tells_numbers old new x count owner alone samples numbers told =
      record {
        count = count ∙ told.count;
        alone = λ all f h. told.alone (sym alone ∙ all) f h ∙ sym owner;
        covers = λ f h. subst (λ (s : SampleList Op). Covers o s f.op) (sym samples) (told.covers f h);
        numbers = numbers;
      }

  module _ (part_of : Op → Part) where
    -- An empty table is true of an empty log: it has no uncommitted entries.
    pub tells_nothing : KeepsOpen o label_of part_of [] []
    tells_nothing = record { told = λ p. refl }

    -- The facts that the log keeps about a part are true for the entries of the part.
    pub told_at : (slots : List (Part × OpenPart (SampleList Op))) (x : List (SharedEntry Op)) (p : Part) (r : Option (OpenPart (SampleList Op))) → lookup (same_part p) slots ≡ r → KeepsOpen o label_of part_of slots x → TellsOf o label_of r (open_in part_of p x)
    told_at slots x p r is kept = subst (λ (s : Option (OpenPart (SampleList Op))). TellsOf o label_of s (open_in part_of p x)) is (kept.told p)

    -- there are no more of them than entries
    pub counted : (slots : List (Part × OpenPart (SampleList Op))) (x : List (SharedEntry Op)) (p : Part) (slot : OpenPart (SampleList Op)) → lookup (same_part p) slots ≡ Some slot → KeepsOpen o label_of part_of slots x → slot.count ≤ length x
    counted slots x p slot is kept =
        let told = told_at slots x p (Some slot) is kept in
        let count = told.count in
        let fewer = shorter (is_open_in part_of p) x in
        omega arith

    -- a part whose entries are one more
    pub kept_more : (old new : List (Part × OpenPart (SampleList Op))) (x : List (SharedEntry Op)) (e : SharedEntry Op) (slot : OpenPart (SampleList Op)) → e.committed ≡ false
        → ((q : Part) → lookup (same_part q) new ≡ cond (same_part (part_of e.op) q) (Some slot) (lookup (same_part q) old))
        → Tells o label_of slot (open_in part_of (part_of e.op) x ++ e ∷ []) → KeepsOpen o label_of part_of old x → KeepsOpen o label_of part_of new (x ++ e ∷ [])
    kept_more old new x e slot uncommitted is told kept =
        record { told = λ p. at p (same_part (part_of e.op) p) refl }
      where
        at : (p : Part) (b : Bool) → same_part (part_of e.op) p ≡ b → TellsOf o label_of (lookup (same_part p) new) (open_in part_of p (x ++ e ∷ []))
        at p true same =
            let here : part_of e.op ≡ p = same_part-true (part_of e.op) p same in
            let counts : is_open_in part_of p e ≡ true = ap (λ (b : Bool). not b && same_part (part_of e.op) p) uncommitted ∙ same in
            let found : lookup (same_part p) new ≡ Some slot = is p ∙ ap (λ (b : Bool). cond b (Some slot) (lookup (same_part p) old)) same in
            let there : Tells o label_of slot (open_in part_of p x ++ e ∷ []) = subst (λ (q : Part). Tells o label_of slot (open_in part_of q x ++ e ∷ [])) here told in
            let all : Tells o label_of slot (open_in part_of p (x ++ e ∷ [])) = subst (Tells o label_of slot) (sym (filter_push (is_open_in part_of p) x e true counts)) there in
            subst (λ (s : Option (OpenPart (SampleList Op))). TellsOf o label_of s (open_in part_of p (x ++ e ∷ []))) (sym found) all
        at p false other =
            let counts : is_open_in part_of p e ≡ false = ap (λ (b : Bool). not b && same_part (part_of e.op) p) uncommitted ∙ other in
            let found : lookup (same_part p) new ≡ lookup (same_part p) old = is p ∙ ap (λ (b : Bool). cond b (Some slot) (lookup (same_part p) old)) other in
            subst (λ (z : List (SharedEntry Op)). TellsOf o label_of (lookup (same_part p) new) z) (sym (filter_push-false (is_open_in part_of p) x e counts))
            (subst (λ (s : Option (OpenPart (SampleList Op))). TellsOf o label_of s (open_in part_of p x)) (sym found) (kept.told p))

    -- a part whose entries are one less
    pub kept_less : (old new : List (Part × OpenPart (SampleList Op))) (x y : List (SharedEntry Op)) (e : SharedEntry Op) (r : Option (OpenPart (SampleList Op))) → e.committed ≡ false
        → ((q : Part) → lookup (same_part q) new ≡ cond (same_part (part_of e.op) q) r (lookup (same_part q) old))
        → (LosesOne e (open_in part_of (part_of e.op) x) (open_in part_of (part_of e.op) y) → TellsOf o label_of r (open_in part_of (part_of e.op) y)) → KeepsOpen o label_of part_of old x → LeavesOut part_of e x y → KeepsOpen o label_of part_of new y
    kept_less old new x y e r uncommitted is told kept out =
        record { told = λ p. at p (same_part (part_of e.op) p) refl }
      where
        at : (p : Part) (b : Bool) → same_part (part_of e.op) p ≡ b → TellsOf o label_of (lookup (same_part p) new) (open_in part_of p y)
        at p true same =
            let here : part_of e.op ≡ p = same_part-true (part_of e.op) p same in
            let counts : is_open_in part_of p e ≡ true = ap (λ (b : Bool). not b && same_part (part_of e.op) p) uncommitted ∙ same in
            let found : lookup (same_part p) new ≡ r = is p ∙ ap (λ (b : Bool). cond b r (lookup (same_part p) old)) same in
            let lost : LosesOne e (open_in part_of p x) (open_in part_of p y) = subst (λ (b : Bool). LosesAt e b (open_in part_of p x) (open_in part_of p y)) counts (out p) in
            let there : TellsOf o label_of r (open_in part_of p y) = subst (λ (q : Part). LosesOne e (open_in part_of q x) (open_in part_of q y) → TellsOf o label_of r (open_in part_of q y)) here told lost in
            subst (λ (s : Option (OpenPart (SampleList Op))). TellsOf o label_of s (open_in part_of p y)) (sym found) there
        at p false other =
            let counts : is_open_in part_of p e ≡ false = ap (λ (b : Bool). not b && same_part (part_of e.op) p) uncommitted ∙ other in
            let found : lookup (same_part p) new ≡ lookup (same_part p) old = is p ∙ ap (λ (b : Bool). cond b r (lookup (same_part p) old)) other in
            let same : open_in part_of p y ≡ open_in part_of p x = subst (λ (b : Bool). LosesAt e b (open_in part_of p x) (open_in part_of p y)) counts (out p) in
            subst (λ (z : List (SharedEntry Op)). TellsOf o label_of (lookup (same_part p) new) z) (sym same)
            (subst (λ (s : Option (OpenPart (SampleList Op))). TellsOf o label_of s (open_in part_of p x)) (sym found) (kept.told p))

    -- the same, at a part that is the entry's
    pub more_at : (k : Part) (old new : List (Part × OpenPart (SampleList Op))) (x : List (SharedEntry Op)) (e : SharedEntry Op) (slot : OpenPart (SampleList Op)) → k ≡ part_of e.op → e.committed ≡ false
        → ((q : Part) → lookup (same_part q) new ≡ cond (same_part k q) (Some slot) (lookup (same_part q) old))
        → Tells o label_of slot (open_in part_of k x ++ e ∷ []) → KeepsOpen o label_of part_of old x → KeepsOpen o label_of part_of new (x ++ e ∷ [])
    more_at k old new x e slot here uncommitted is told kept =
        subst (λ (p : Part). ((q : Part) → lookup (same_part q) new ≡ cond (same_part p q) (Some slot) (lookup (same_part q) old)) → Tells o label_of slot (open_in part_of p x ++ e ∷ []) → KeepsOpen o label_of part_of new (x ++ e ∷ [])) (sym here)
        (λ is2 told2. kept_more old new x e slot uncommitted is2 told2 kept) is told

    -- If the part of a lost entry is known without it, all parts are known without it.
    pub less_at : (k : Part) (old new : List (Part × OpenPart (SampleList Op))) (x y : List (SharedEntry Op)) (e : SharedEntry Op) (r : Option (OpenPart (SampleList Op))) → k ≡ part_of e.op → e.committed ≡ false
        → ((q : Part) → lookup (same_part q) new ≡ cond (same_part k q) r (lookup (same_part q) old))
        → (LosesOne e (open_in part_of k x) (open_in part_of k y) → TellsOf o label_of r (open_in part_of k y)) → KeepsOpen o label_of part_of old x → LeavesOut part_of e x y → KeepsOpen o label_of part_of new y
    less_at k old new x y e r here uncommitted is told kept out =
        subst (λ (p : Part). ((q : Part) → lookup (same_part q) new ≡ cond (same_part p q) r (lookup (same_part q) old)) → (LosesOne e (open_in part_of p x) (open_in part_of p y) → TellsOf o label_of r (open_in part_of p y)) → KeepsOpen o label_of part_of new y) (sym here)
        (λ is2 told2. kept_less old new x y e r uncommitted is2 told2 kept out) is told

    -- The other known facts about a part whose entries stay.
    pub kept_at : (k : Part) (old new : List (Part × OpenPart (SampleList Op))) (x : List (SharedEntry Op)) (slot : OpenPart (SampleList Op))
        → ((q : Part) → lookup (same_part q) new ≡ cond (same_part k q) (Some slot) (lookup (same_part q) old))
        → Tells o label_of slot (open_in part_of k x) → KeepsOpen o label_of part_of old x → KeepsOpen o label_of part_of new x
    kept_at k old new x slot is told kept =
        record { told = λ p. at p (same_part k p) refl }
      where
        at : (p : Part) (b : Bool) → same_part k p ≡ b → TellsOf o label_of (lookup (same_part p) new) (open_in part_of p x)
        at p true same =
            let found : lookup (same_part p) new ≡ Some slot = is p ∙ ap (λ (b : Bool). cond b (Some slot) (lookup (same_part p) old)) same in
            let there : Tells o label_of slot (open_in part_of p x) = subst (λ (q : Part). Tells o label_of slot (open_in part_of q x)) (same_part-true k p same) told in
            subst (λ (s : Option (OpenPart (SampleList Op))). TellsOf o label_of s (open_in part_of p x)) (sym found) there
        at p false other =
            let found : lookup (same_part p) new ≡ lookup (same_part p) old = is p ∙ ap (λ (b : Bool). cond b (Some slot) (lookup (same_part p) old)) other in
            subst (λ (s : Option (OpenPart (SampleList Op))). TellsOf o label_of s (open_in part_of p x)) (sym found) (kept.told p)

    -- nothing was known of the part
    pub kept_unknown : (slots : List (Part × OpenPart (SampleList Op))) (x y : List (SharedEntry Op)) (e : SharedEntry Op) → e.committed ≡ false → lookup (same_part (part_of e.op)) slots ≡ None → KeepsOpen o label_of part_of slots x → LeavesOut part_of e x y → KeepsOpen o label_of part_of slots y
    kept_unknown slots x y e uncommitted none kept out =
        kept_less slots slots x y e None uncommitted (λ q. is q (same_part (part_of e.op) q) refl)
        (λ lost. let size = one_less e (open_in part_of (part_of e.op) x) (open_in part_of (part_of e.op) y) lost in
        let empty : length (open_in part_of (part_of e.op) x) ≡ 0 = ap length (told_at slots x (part_of e.op) None none kept) in
        absurd (omega arith))
        kept out
      where
        is : (q : Part) (b : Bool) → same_part (part_of e.op) q ≡ b → lookup (same_part q) slots ≡ cond b None (lookup (same_part q) slots)
        is q true same = ap (λ (p : Part). lookup (same_part p) slots) (sym (same_part-true (part_of e.op) q same)) ∙ none
        is q false other = refl

    -- nothing is known of committed entries
    pub kept_committed : (slots : List (Part × OpenPart (SampleList Op))) (x y : List (SharedEntry Op)) (e : SharedEntry Op) → e.committed ≡ true → KeepsOpen o label_of part_of slots x → LeavesOut part_of e x y → KeepsOpen o label_of part_of slots y
    kept_committed slots x y e committed kept out =
        record {
          told = λ p.
              let counts : is_open_in part_of p e ≡ false = ap (λ (b : Bool). not b && same_part (part_of e.op) p) committed in
              let same : open_in part_of p y ≡ open_in part_of p x = subst (λ (b : Bool). LosesAt e b (open_in part_of p x) (open_in part_of p y)) counts (out p) in
              subst (λ (z : List (SharedEntry Op)). TellsOf o label_of (lookup (same_part p) slots) z) (sym same) (kept.told p);
        }

    -- If each entry of the operation's part swaps with it, all entries commute with it.
    pub part_gives_way : PartsSwap o part_of → (owner : Name) (op : Op) (x : List (SharedEntry Op)) → ((e : SharedEntry Op) → In e (open_in part_of (part_of op) x) → e.owner ≢ owner → Swaps o e.op op) → AllGiveWay o owner op x
    part_gives_way apart owner op x way e inside uncommitted other = at (same_part (part_of e.op) (part_of op)) refl
      where
        at : (b : Bool) → same_part (part_of e.op) (part_of op) ≡ b → Swaps o e.op op
        at true same =
            let counts : is_open_in part_of (part_of op) e ≡ true = ap (λ (b : Bool). not b && same_part (part_of e.op) (part_of op)) uncommitted ∙ same in
            way e (in_filter (is_open_in part_of (part_of op)) e x inside counts) other
        at false differ =
            apart e.op op
            (λ is. let one : same_part (part_of e.op) (part_of op) ≡ true = subst (λ (p : Part). same_part (part_of e.op) p ≡ true) is (same_part-itself (part_of e.op)) in
            let no : true ≡ false = sym one ∙ differ in cc)

    none_there : PartsSwap o part_of → (owner : Name) (op : Op) (x : List (SharedEntry Op)) → open_in part_of (part_of op) x ≡ [] → AllGiveWay o owner op x
    none_there apart owner op x empty = part_gives_way apart owner op x (λ e inside. absurd (subst (λ (z : List (SharedEntry Op)). In e z) empty inside))

    -- If nothing is known of the part of an operation, all entries commute with it.
    pub none_in_the_way : PartsSwap o part_of → (owner : Name) (op : Op) (slots : List (Part × OpenPart (SampleList Op))) (x : List (SharedEntry Op)) → lookup (same_part (part_of op)) slots ≡ None → KeepsOpen o label_of part_of slots x → AllGiveWay o owner op x
    none_in_the_way apart owner op slots x none kept = none_there apart owner op x (told_at slots x (part_of op) None none kept)

    -- If the part of an operation has no uncommitted entries, all entries commute with it.
    pub none_left : PartsSwap o part_of → (owner : Name) (op : Op) (slots : List (Part × OpenPart (SampleList Op))) (x : List (SharedEntry Op)) (slot : OpenPart (SampleList Op)) → lookup (same_part (part_of op)) slots ≡ Some slot → slot.count ≡ 0 → KeepsOpen o label_of part_of slots x → AllGiveWay o owner op x
    none_left apart owner op slots x slot is count kept =
        let told = told_at slots x (part_of op) (Some slot) is kept in
        none_there apart owner op x (none_of (open_in part_of (part_of op) x) (sym count ∙ told.count))

    -- If all entries of the part of an operation have its owner, all entries commute with it.
    pub owner_alone : PartsSwap o part_of → (owner : Name) (op : Op) (slots : List (Part × OpenPart (SampleList Op))) (x : List (SharedEntry Op)) (slot : OpenPart (SampleList Op)) → lookup (same_part (part_of op)) slots ≡ Some slot → slot.alone ≡ true → slot.owner ≡ owner → KeepsOpen o label_of part_of slots x → AllGiveWay o owner op x
    owner_alone apart owner op slots x slot is alone same kept =
        let told = told_at slots x (part_of op) (Some slot) is kept in
        part_gives_way apart owner op x (λ e inside other. absurd (other (told.alone alone e inside ∙ same)))

    -- If the samples of the part of an operation swap with it, all entries commute with it.
    pub samples_swap : PartsSwap o part_of → (owner : Name) (op : Op) (slots : List (Part × OpenPart (SampleList Op))) (x : List (SharedEntry Op)) (slot : OpenPart (SampleList Op)) → lookup (same_part (part_of op)) slots ≡ Some slot → ((b : Op) → Covers o slot.samples b → Swaps o b op) → KeepsOpen o label_of part_of slots x → AllGiveWay o owner op x
    samples_swap apart owner op slots x slot is swaps kept =
        let told = told_at slots x (part_of op) (Some slot) is kept in
        part_gives_way apart owner op x (λ e inside _. swaps e.op (told.covers e inside))

    -- If the counted entries of other owners swap with an operation, all entries commute with it.
    pub numbers_swap : PartsSwap o part_of → (owner : Name) (op : Op) (slots : List (Part × OpenPart (SampleList Op))) (x : List (SharedEntry Op)) (slot : OpenPart (SampleList Op)) → lookup (same_part (part_of op)) slots ≡ Some slot
        → ((y : List (SharedEntry Op)) → CountsAllOf label_of slot.numbers y → (e : SharedEntry Op) → In e y → e.owner ≢ owner → Swaps o e.op op) → KeepsOpen o label_of part_of slots x → AllGiveWay o owner op x
    numbers_swap apart owner op slots x slot is swaps kept =
        let told = told_at slots x (part_of op) (Some slot) is kept in
        part_gives_way apart owner op x (swaps (open_in part_of (part_of op) x) told.numbers)
