-- One transaction with another log, and lists that are filtered and mapped.
use Rattle.std.specs.Prelude.{◌≡◌, Bool, true, false, not, cond, List, [], ◌∷◌, map, filter}
use Rattle.std.proofs.Common.{refl, sym, ap, ◌∙◌}
use mathlib.Core.Logic.{inl, inr}
use Rattle.pp_model.specs.Lists.{In}
use Rattle.pp_model.specs.Names.{Name, ◌=ⁿ◌}
use Rattle.pp_model.specs.Object.{Object}
use Rattle.pp_model.specs.Config.{LocalEntry, Tx, Config, on_log, relog, without_tx}
use Rattle.pp_model.specs.Sound.{Sound}
use Rattle.pp_model.proofs.Lists.{by_key}
use Rattle.pp_model.proofs.Logs.{at_tx, off_tx}
use Rattle.pp_model.proofs.Names.{names_tell}
use Rattle.pp_model.proofs.Trace.{map_same}

-- Two maps in turn are one.
pub map_map : {A B C : Type 0} (g : B → C) (f : A → B) (l : List A) → map g (map f l) ≡ map (λ x. g (f x)) l
map_map g f [] = refl
map_map {A} {B} {C} g f (x ∷ l) = ap (λ (w : List C). g (f x) ∷ w) (map_map g f l)

-- A map that changes no element changes nothing.
pub map_id : {A : Type 0} (f : A → A) (l : List A) → ((x : A) → In x l → f x ≡ x) → map f l ≡ l
map_id f [] h = refl
map_id {A} f (x ∷ l) h = ap (λ (w : A). w ∷ map f l) (h x (inl refl)) ∙ ap (λ (w : List A). x ∷ w) (map_id f l (λ y i. h y (inr i)))

-- Two truth values are equal if each follows from the other.
pub same_bool : (a b : Bool) → (a ≡ true → b ≡ true) → (b ≡ true → a ≡ true) → a ≡ b
same_bool true b f g = sym (f refl)
same_bool false true f g = g refl
same_bool false false f g = refl

-- Tests that agree on a list pass the same elements.
pub filter_same : {A : Type 0} (p q : A → Bool) (l : List A) → ((x : A) → In x l → p x ≡ q x) → filter p l ≡ filter q l
filter_same p q [] h = refl
filter_same {A} p q (x ∷ l) h = ap (λ (b : Bool). cond b (x ∷ filter p l) (filter p l)) (h x (inl refl))
    ∙ ap (λ (w : List A). cond (q x) (x ∷ w) w) (filter_same p q l (λ y i. h y (inr i)))

-- A test that no element passes leaves none.
pub filter_none : {A : Type 0} (p : A → Bool) (l : List A) → ((x : A) → In x l → p x ≡ false) → filter p l ≡ []
filter_none p [] h = refl
filter_none {A} p (x ∷ l) h = ap (λ (b : Bool). cond b (x ∷ filter p l) (filter p l)) (h x (inl refl)) ∙ filter_none p l (λ y i. h y (inr i))

-- If all that passes p passes q, filtering by q and then by p is filtering by p.
pub filter_within : {A : Type 0} (p q : A → Bool) (l : List A) → ((x : A) → In x l → p x ≡ true → q x ≡ true) → filter p (filter q l) ≡ filter p l
filter_within p q [] h = refl
filter_within {A} p q (x ∷ l) h = by (q x) refl (p x) refl (filter_within p q l (λ y i. h y (inr i)))
  where
    by : (b : Bool) → q x ≡ b → (a : Bool) → p x ≡ a → filter p (filter q l) ≡ filter p l → filter p (cond b (x ∷ filter q l) (filter q l)) ≡ cond (p x) (x ∷ filter p l) (filter p l)
    by true e a d rest = ap (λ (w : List A). cond (p x) (x ∷ w) w) rest
    by false e true d rest = absurd (let z : true ≡ false = sym (h x (inl refl) d) ∙ e in cc)
    by false e false d rest = rest ∙ sym (ap (λ (z : Bool). cond z (x ∷ filter p l) (filter p l)) d)

-- A filter of a map is a map of a filter.
pub filter_map : {A B : Type 0} (p : B → Bool) (f : A → B) (l : List A) → filter p (map f l) ≡ map f (filter (λ x. p (f x)) l)
filter_map p f [] = refl
filter_map {A} {B} p f (x ∷ l) = ap (λ (w : List B). cond (p (f x)) (f x ∷ w) w) (filter_map p f l) ∙ sym (pushed_in (p (f x)) (filter (λ x. p (f x)) l))
  where
    pushed_in : (b : Bool) (w : List A) → map f (cond b (x ∷ w) w) ≡ cond b (f x ∷ map f w) (map f w)
    pushed_in true w = refl
    pushed_in false w = refl

-- the transaction t has the log L
abbrev pub relogged : {Op : Type 0} → Config Op → Name → List (LocalEntry Op) → Config Op
relogged c t L = record c { opened = on_log t (λ l. L) c.opened }

-- the log that it has
pub on_log-same : {Op State : Type 0} (O : Object Op State) (c : Config Op) → Sound O c → (t : Name) (x : Tx Op) → In x c.opened → x.name ≡ t → on_log t (λ l. x.local) c.opened ≡ c.opened
on_log-same {Op} O c s t x ix nx = map_id (λ (w : Tx Op). cond (w.name =ⁿ t) (relog (λ l. x.local) w) w) c.opened
    (λ w i. elim (names_tell w.name t) [
      | inl r ↦ at_tx t (λ l. x.local) w r.1 ∙ ap (λ (z : Tx Op). record { name = w.name; thread = w.thread; body = w.body; local = z.local }) (by_key (λ (z : Tx Op). z.name) c.opened s.open_names x w ix i (nx ∙ sym r.1))
      | inr r ↦ off_tx t (λ l. x.local) w r.1
    ])

-- A change of the log of t does not show once t is taken out.
pub without_on : {Op : Type 0} (t : Name) (f : List (LocalEntry Op) → List (LocalEntry Op)) (xs : List (Tx Op)) → without_tx t (on_log t f xs) ≡ without_tx t xs
without_on t f [] = refl
without_on {Op} t f (x ∷ xs) = one (x.name =ⁿ t) refl (without_on t f xs)
  where
    one : (b : Bool) → (x.name =ⁿ t) ≡ b → without_tx t (on_log t f xs) ≡ without_tx t xs → without_tx t (cond b (relog f x) x ∷ on_log t f xs) ≡ without_tx t (x ∷ xs)
    one true e h = ap (λ (z : Bool). cond (not z) (relog f x ∷ without_tx t (on_log t f xs)) (without_tx t (on_log t f xs))) e ∙ h
        ∙ sym (ap (λ (z : Bool). cond (not z) (x ∷ without_tx t xs) (without_tx t xs)) e)
    one false e h = ap (λ (w : List (Tx Op)). cond (not (x.name =ⁿ t)) (x ∷ w) w) h

-- a change of the log of t, after another
pub on_log-fuse : {Op : Type 0} (t : Name) (f g : List (LocalEntry Op) → List (LocalEntry Op)) (xs : List (Tx Op)) →
    on_log t f (on_log t g xs) ≡ on_log t (λ l. f (g l)) xs
on_log-fuse {Op} t f g xs =
    map_map (λ (w : Tx Op). cond (w.name =ⁿ t) (relog f w) w) (λ (w : Tx Op). cond (w.name =ⁿ t) (relog g w) w) xs
    ∙ map_same (λ (w : Tx Op). cond ((cond (w.name =ⁿ t) (relog g w) w).name =ⁿ t) (relog f (cond (w.name =ⁿ t) (relog g w) w)) (cond (w.name =ⁿ t) (relog g w) w))
    (λ (w : Tx Op). cond (w.name =ⁿ t) (relog (λ l. f (g l)) w) w) xs (λ w i. one w (w.name =ⁿ t) refl)
  where
    one : (w : Tx Op) (b : Bool) → (w.name =ⁿ t) ≡ b → cond ((cond b (relog g w) w).name =ⁿ t) (relog f (cond b (relog g w) w)) (cond b (relog g w) w) ≡ cond b (relog (λ l. f (g l)) w) w
    one w true e = ap (λ (z : Bool). cond z (relog f (relog g w)) (relog g w)) e
    one w false e = ap (λ (z : Bool). cond z (relog f w) w) e

-- A change of the log of t that leads to K is the change that puts K there.
pub on_log-is : {Op State : Type 0} (O : Object Op State) (c : Config Op) → Sound O c → (t : Name) (x : Tx Op) → In x c.opened → x.name ≡ t → (f : List (LocalEntry Op) → List (LocalEntry Op)) (K : List (LocalEntry Op)) →
    f x.local ≡ K → on_log t f c.opened ≡ on_log t (λ l. K) c.opened
on_log-is {Op} O c s t x ix nx f K e = map_same (λ (w : Tx Op). cond (w.name =ⁿ t) (relog f w) w) (λ (w : Tx Op). cond (w.name =ⁿ t) (relog (λ l. K) w) w) c.opened
    (λ w i. elim (names_tell w.name t) [
      | inl r ↦ at_tx t f w r.1
          ∙ ap (λ (z : List (LocalEntry Op)). record { name = w.name; thread = w.thread; body = w.body; local = z }) (ap (λ (z : Tx Op). f z.local) (by_key (λ (z : Tx Op). z.name) c.opened s.open_names w x i ix (r.1 ∙ sym nx)) ∙ e)
          ∙ sym (at_tx t (λ l. K) w r.1)
      | inr r ↦ off_tx t f w r.1 ∙ sym (off_tx t (λ l. K) w r.1)
    ])
