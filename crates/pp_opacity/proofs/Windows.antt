-- Proof machinery: the numbers of a window, from the high end down.
use Rattle.std.specs.Prelude.{◌≡◌, ◌⊎◌, ◌↔◌, ◌<◌, ◌≤◌, ◌+◌, ◌*◌, ℕ, suc, Bool, true, false, cond, IsTrue, List, ◌++◌, take, Option, None, Some}
use Rattle.std.proofs.Common.{refl, sym, ap, subst, ◌∙◌, arith, inl, inr, append_assoc}
use Rattle.std.proofs.Math.Nat.{mul-le-mul_right, suc-mul}
use Rattle.std.proofs.lemmas.List.{map-append}
use Rattle.pp_model.specs.Config.{CommittedTx}
use Rattle.pp_model.specs.Object.{Allowed, Item, Object, ops}
use Rattle.pp_model.specs.Sound.{serial_ops}
use Rattle.pp_model.proofs.Serial.{allowed_front}
use Rattle.pp_attempts.specs.Views.{Explains}
use Rattle.pp_attempts.proofs.Viewing.{below_next}
use Rattle.pp_opacity.specs.Attempts.{Excluded, excludes_none}
use Rattle.pp_opacity.specs.Trials.{AreExcluded, IsGreatest}

-- One number more costs the items twice more.
pub one_more : (n w : ℕ) → 2 * ((n + 1) * w) ≡ 2 * (n * w) + 2 * w
one_more n w = let e : (n + 1) * w ≡ n * w + w = ap (λ (k : ℕ). k * w) (let z : n + 1 ≡ suc n = omega arith in z) ∙ suc-mul n w in omega (arith, e)

-- Fewer numbers cost the items no more.
pub fewer_products : (i n w : ℕ) → i ≤ n → i * w ≤ n * w
fewer_products i n w less = mul-le-mul_right w less

module _ {Op State : Type 0} (O : Object Op State) (committed : List (CommittedTx Op)) (items : List (Item Op)) where
  -- No number above the next one down explains the items, if the number itself does not.
  pub none_above : (n m high : ℕ) (found : Bool) → m + 1 ≡ n → IsTrue found ↔ Explains O committed items n → (IsTrue found → ⊥)
      → ((k : ℕ) → n < k → k ≤ high → Explains O committed items k → ⊥)
      → (k : ℕ) → m < k → k ≤ high → Explains O committed items k → ⊥
  none_above n m high found e here not above k less within h = elim (below_next n k (omega (arith, e, less))) [
    | inl lower ↦ above k lower within h
    | inr same ↦ not (here.1 (subst (λ (i : ℕ). Explains O committed items i) (sym same) h))
  ]

  -- In the end the answer is that of the window.
  pub greatest_or_none : (n low high : ℕ) (found : Bool) → low ≤ n → n ≤ high → (n ≤ low ⊎ IsTrue found)
      → IsTrue found ↔ Explains O committed items n
      → AreExcluded O committed items (record { after = n; up_to = high })
      → IsGreatest O committed items low high (cond found (Some n) None)
  greatest_or_none n low high true above below end here none = (above, below, here.0 refl, none)
  greatest_or_none n low high false above below end here none = λ e. elim end [
    | inl least ↦ elim (below_next n e.0 (omega (arith, least, e.1))) [
      | inl lower ↦ none e.0 lower e.2 e.3
      | inr same ↦ let z : false ≡ true = here.1 (subst (λ (i : ℕ). Explains O committed items i) (sym same) e.3) in cc
    ]
    | inr found ↦ let z : false ≡ true = found in cc
  ]

  -- If a number explains no items, the answer for those below it is that for those up to it.
  pub greatest_below : (low n high : ℕ) (found : Option ℕ) → n + 1 ≡ high → (Explains O committed items high → ⊥) → IsGreatest O committed items low n found → IsGreatest O committed items low high found
  greatest_below low n high None e none g = λ k. elim (below_next k.0 high (let within = k.2 in omega (arith, within))) [
    | inl lower ↦ g (k.0, k.1, omega (arith, lower, e), k.3)
    | inr same ↦ none (subst (λ (i : ℕ). Explains O committed items i) same k.3)
  ]
  greatest_below low n high (Some m) e none g = (
    g.0,
    let within = g.1 in omega (arith, within, e),
    g.2,
    λ k after up_to h. elim (below_next k high (omega (arith, up_to))) [
      | inl lower ↦ g.3 k after (omega (arith, lower, e)) h
      | inr same ↦ none (subst (λ (i : ℕ). Explains O committed items i) same h)
    ],
  )

  -- No number below the lowest explains the items.
  pub none_lower : (low high : ℕ) → high ≡ low → (Explains O committed items high → ⊥) → IsGreatest O committed items low high None
  none_lower low high e none = λ k.
      let same : k.0 ≡ high = omega (arith, e, k.1, k.2) in
      none (subst (λ (i : ℕ). Explains O committed items i) same k.3)

  -- No number that is excluded explains more items.
  pub excluded_longer : (more : List (Item Op)) (excluded : Excluded) → AreExcluded O committed items excluded → AreExcluded O committed (items ++ more) excluded
  excluded_longer more excluded none n after up_to e =
      let x = serial_ops (take n committed) in
      let same : x ++ ops (items ++ more) ≡ (x ++ ops items) ++ ops more = ap (λ (w : List Op). x ++ w) (map-append (λ (p : Item Op). p.op) items more) ∙ sym (append_assoc x (ops items) (ops more)) in
      none n after up_to (allowed_front O O.start (x ++ ops items) (ops more) (subst (λ (w : List Op). Allowed O w) same e))

  -- No numbers are excluded at first.
  pub none_excluded : AreExcluded O committed items excludes_none
  none_excluded n after up_to e =
      let some : 0 < n = after in
      let none : n ≤ 0 = up_to in
      omega (arith, some, none)

  -- Equal numbers are excluded of equal items.
  pub excluded_same : (more : List (Item Op)) (a b : Excluded) → more ≡ items → b ≡ a → AreExcluded O committed items a → AreExcluded O committed more b
  excluded_same more a b same equal none =
      subst (λ (w : List (Item Op)). AreExcluded O committed w b) (sym same) (subst (λ (w : Excluded). AreExcluded O committed items w) (sym equal) none)

-- The answer for equal items and an equal window is the same.
pub greatest_same : {Op State : Type 0} (O : Object Op State) (committed : List (CommittedTx Op)) (items own : List (Item Op)) (low least n m : ℕ) (found other : Option ℕ)
    → items ≡ own → low ≡ least → n ≡ m → found ≡ other → IsGreatest O committed items low n found → IsGreatest O committed own least m other
greatest_same {Op} O committed items own low least n m found other a b e k g =
    subst (λ (w : List (Item Op)). IsGreatest O committed w least m other) a (subst (λ (i : ℕ). IsGreatest O committed items i m other) b
    (subst (λ (i : ℕ). IsGreatest O committed items low i other) e (subst (λ (z : Option ℕ). IsGreatest O committed items low n z) k g)))
