-- Lists that are mapped: what is found in them, and what is true of their elements.
use Rattle.std.specs.Prelude.{◌≡◌, ◌↔◌, ◌||◌, Bool, true, false, cond, List, [], ◌∷◌, ◌++◌, find, filter, map, reverse, Option, Some, option_map}
use Rattle.std.specs.List.{list_any}
use Rattle.std.proofs.Common.{refl, sym, ap, subst, ◌∙◌}
use Rattle.std.proofs.lemmas.List.{map-append, reverse-append}
use Rattle.pp_model.specs.Config.{but_last, last}
use Rattle.pp_model.specs.Lists.{Before, Each, In}
use Rattle.pp_model.proofs.Lists.{before_from_map, before_map, from_map, in_map}

-- Two maps may be turned.
pub maps_turned : {X Y Z W : Type 0} (g : X → Y) (k : X → Z) (g' : Z → W) (k' : Y → W) (xs : List X) → ((x : X) → k' (g x) ≡ g' (k x)) → map k' (map g xs) ≡ map g' (map k xs)
maps_turned g k g' k' [] h = refl
maps_turned {W = W} g k g' k' (x ∷ xs) h = ap (λ (w : W). w ∷ map k' (map g xs)) (h x) ∙ ap (λ (l : List W). g' (k x) ∷ l) (maps_turned g k g' k' xs h)

-- The first image that passes a test is the image of the first element that passes it.
pub find_mapped : {X Y : Type 0} (g : X → Y) (p : Y → Bool) (xs : List X) → find p (map g xs) ≡ option_map g (find (λ x. p (g x)) xs)
find_mapped g p [] = refl
find_mapped {X} {Y} g p (x ∷ xs) = ap (λ (w : Option Y). cond (p (g x)) (Some (g x)) w) (find_mapped g p xs) ∙ by (p (g x))
  where
    by : (b : Bool) → cond b (Some (g x)) (option_map g (find (λ y. p (g y)) xs)) ≡ option_map g (cond b (Some x) (find (λ y. p (g y)) xs))
    by true = refl
    by false = refl

-- If the images pass a test alike, some image passes it exactly if some element does.
pub any_mapped : {X Y : Type 0} (g : X → Y) (p : Y → Bool) (q : X → Bool) (xs : List X) → ((x : X) → p (g x) ≡ q x) → list_any p (map g xs) ≡ list_any q xs
any_mapped g p q [] h = refl
any_mapped g p q (x ∷ xs) h = ap (λ (b : Bool). b || list_any p (map g xs)) (h x) ∙ ap (λ (b : Bool). q x || b) (any_mapped g p q xs h)

-- the same of lists without their last element, and of the last element
pub but_last_mapped : {X Y : Type 0} (g : X → Y) (xs : List X) → but_last (map g xs) ≡ map g (but_last xs)
but_last_mapped g [] = refl
but_last_mapped g (x ∷ []) = refl
but_last_mapped {Y = Y} g (x ∷ y ∷ xs) = ap (λ (l : List Y). g x ∷ l) (but_last_mapped g (y ∷ xs))

pub last_mapped : {X Y : Type 0} (g : X → Y) (xs : List X) → last (map g xs) ≡ option_map g (last xs)
last_mapped g [] = refl
last_mapped g (x ∷ []) = refl
last_mapped g (x ∷ y ∷ xs) = last_mapped g (y ∷ xs)

-- A turned list is mapped.
pub reverse_mapped : {X Y : Type 0} (g : X → Y) (xs : List X) → reverse (map g xs) ≡ map g (reverse xs)
reverse_mapped g [] = refl
reverse_mapped {X} {Y} g (x ∷ xs) =
    reverse-append (g x ∷ []) (map g xs) ∙ ap (λ (l : List Y). l ++ g x ∷ []) (reverse_mapped g xs)
    ∙ sym (ap (map g) (reverse-append (x ∷ []) xs) ∙ map-append g (reverse xs) (x ∷ []))

-- ---- what is true of each element

pub each_append : {X : Type 0} (P : X → Type 0) (xs ys : List X) → Each P xs → Each P ys → Each P (xs ++ ys)
each_append P [] ys h k = k
each_append P (x ∷ xs) ys h k = (h.0, each_append P xs ys h.1 k)

pub each_map : {X Y : Type 0} (P : Y → Type 0) (g : X → Y) (xs : List X) → ((x : X) → P (g x)) → Each P (map g xs)
each_map P g [] h = tt
each_map P g (x ∷ xs) h = (h x, each_map P g xs h)

-- A map that keeps a property of elements keeps it of all.
pub each_kept : {X : Type 0} (P : X → Type 0) (g : X → X) (xs : List X) → ((x : X) → P x → P (g x)) → Each P xs → Each P (map g xs)
each_kept P g [] h e = tt
each_kept P g (x ∷ xs) h e = (h x e.0, each_kept P g xs h e.1)

pub each_filter : {X : Type 0} (P : X → Type 0) (p : X → Bool) (xs : List X) → Each P xs → Each P (filter p xs)
each_filter P p [] e = tt
each_filter {X} P p (x ∷ xs) e = by (p x) (each_filter P p xs e.1)
  where
    by : (b : Bool) → Each P (filter p xs) → Each P (cond b (x ∷ filter p xs) (filter p xs))
    by true more = (e.0, more)
    by false more = more

pub each_found : {X : Type 0} (P : X → Type 0) (p : X → Bool) (xs : List X) (y : X) → Each P xs → find p xs ≡ Some y → P y
each_found P p [] y e f = absurd (cc)
each_found {X} P p (x ∷ xs) y e f = by (p x) f (each_found P p xs y e.1)
  where
    by : (b : Bool) → cond b (Some x) (find p xs) ≡ Some y → (find p xs ≡ Some y → P y) → P y
    by true k more = let same : x ≡ y = cc in subst P same e.0
    by false k more = more k

-- What is true of all elements is true of all images, if it is of each image.
pub all_mapped : {X Y : Type 0} (g : X → Y) (xs : List X) (P : X → Type 0) (R : Y → Type 0) → ((x : X) → P x ↔ R (g x)) → ((x : X) → In x xs → P x) ↔ ((y : Y) → In y (map g xs) → R y)
all_mapped {X} {Y} g xs P R h = (
  (λ k y i. let m = from_map g y xs i in subst R (sym m.2) ((h m.0).0 (k m.0 m.1))),
  (λ k x i. (h x).1 (k (g x) (in_map g x xs i))),
)

-- The same of the elements before one, and after one.
pub before_mapped : {X Y : Type 0} (g : X → Y) → ((x y : X) → g x ≡ g y → x ≡ y) → (xs : List X) (e : X) (P : X → Type 0) (R : Y → Type 0) → ((x : X) → P x ↔ R (g x)) →
    ((x : X) → Before x e xs → P x) ↔ ((y : Y) → Before y (g e) (map g xs) → R y)
before_mapped {X} {Y} g only xs e P R h = (
  (λ k y b. let m = before_from_map g y (g e) xs b in subst R (sym m.3) ((h m.0).0 (k m.0 (subst (λ (w : X). Before m.0 w xs) (sym (only e m.1 m.4)) m.2)))),
  (λ k x b. (h x).1 (k (g x) (before_map g x e xs b))),
)

pub after_mapped : {X Y : Type 0} (g : X → Y) → ((x y : X) → g x ≡ g y → x ≡ y) → (xs : List X) (e : X) (P : X → Type 0) (R : Y → Type 0) → ((x : X) → P x ↔ R (g x)) →
    ((x : X) → Before e x xs → P x) ↔ ((y : Y) → Before (g e) y (map g xs) → R y)
after_mapped {X} {Y} g only xs e P R h = (
  (λ k y b. let m = before_from_map g (g e) y xs b in subst R (sym m.4) ((h m.1).0 (k m.1 (subst (λ (w : X). Before w m.1 xs) (sym (only e m.0 m.3)) m.2)))),
  (λ k x b. (h x).1 (k (g x) (before_map g e x xs b))),
)
