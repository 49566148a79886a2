-- The entries that are none of some items, which stand in their order.
use Rattle.std.proofs.Common.{◌≡◌, ℕ, ◌<◌, ◌≤◌, ◌+◌, Bool, true, false, cond, not, ◌⊎◌, List, [], ◌∷◌, ◌++◌}
use Rattle.std.proofs.Common.{length, map, take, drop, get_or, refl, sym, ◌∙◌, ap, subst, arith, inl, inr, Some, None}
use Rattle.std.proofs.Common.{append_assoc, append-nil, length-append}
use Rattle.std.specs.List.{slice_get, slice_set}
use Rattle.std.proofs.Math.Seq.{get_or-append_seam, set-append_seam, take-append_seam}
use Rattle.std.proofs.lemmas.List.{get_or_default, length-drop, length-map, length-take-le, take-append-drop, take-map, take_all, take_more}
use Rattle.std.proofs.lemmas.Option.{get_or_from_slice_get, slice_get-get_or, slice_get_within}
use Rattle.std.proofs.Math.ListN.{get_or-map}
use Rattle.pp_core.specs.declared.entry.Item.{Item}
use Rattle.pp_model.specs.Lists.{Before, In}
use Rattle.pp_model.specs.Serial.{has_id}
use Rattle.pp_model.proofs.Lists.{before_across, before_right, by_key, in_cases, in_map, in_left, in_right, not_both}
use Rattle.pp_log.specs.Leaves.{HasIdAt, StandFrom}
use Rattle.pp_log.specs.Leaving.{without_items}
use Rattle.pp_log.specs.Room.{ids_of}
use Rattle.pp_log.specs.TakesOut.{itself}
use Rattle.std.proofs.lemmas.List.Elements.{filter-append}
use Rattle.pp_log.proofs.Leaving.{filter_all, has_none, has_one, without_none}
use Rattle.pp_log.proofs.Lists.{cut_there, drop_there}

first_or_behind : {A : Type 0} (x : List A) (a b : A) → slice_get x 0 ≡ Some a → In b x → (b ≡ a) ⊎ Before a b x
first_or_behind [] a b first inside = absurd inside
first_or_behind (c ∷ x) a b first inside =
    let same : c ≡ a = cc in
    elim inside [ inl here ↦ inl (here ∙ same) | inr later ↦ inr (inl (sym same, later)) ]

-- Which of the items stand before a position, and which from it on.
pub record IsAt {Op : Type 0} (own log : List (Item Op)) (at next : ℕ) : Type 0 where
  pub done : (p : Item Op) → In p (take next own) → In p (take at log)
  pub left : (p : Item Op) → In p (drop next own) → In p (drop at log)

module _ {Op : Type 0} (own log : List (Item Op)) (from : ℕ) (st : StandFrom own log from) where
  one : (p q : Item Op) → In p log → In q log → p.id ≡ q.id → p ≡ q
  one p q i j e = by_key (λ (r : Item Op). r.id) log st.distinct p q i j e

  in_back : (k : ℕ) (p : Item Op) → In p (drop k log) → In p log
  in_back k p i = subst (In p) (take-append-drop k log) (in_right p (take k log) (drop k log) i)

  -- An item before a position is in order with each item from the position on.
  pub across : (k : ℕ) (p q : Item Op) → In p (take k log) → In q (drop k log) → Before p q log
  across k p q i j = subst (Before p q) (take-append-drop k log) (before_across p q (take k log) (drop k log) i j)

  never : (k : ℕ) (p q : Item Op) → In p (take k log) → In q (drop k log) → p.id ≡ q.id → ⊥
  never k p q i j e = st.distinct p q (across k p q i j) e

  first_left : (p : Item Op) → In p own → In p (drop from log)
  first_left p i =
      let within = slice_get_within log from st.first st.first_there in
      let parts = drop_there log from st.first within (sym (get_or_from_slice_get log from st.first st.first st.first_there)) in
      let here : In st.first (drop from log) = subst (In st.first) (sym parts) (inl refl) in
      elim (first_or_behind own st.first p st.first_own i) [
        | inl e ↦ subst (λ (r : Item Op). In r (drop from log)) (sym e) here
        | inr b ↦ elim (in_cases p (take from log) (drop from log) (subst (In p) (sym (take-append-drop from log)) (st.stand p i))) [
          | inl f ↦ absurd (not_both (λ (r : Item Op). r.id) log st.distinct st.first p (st.order st.first p b) (across from p st.first f here))
          | inr l ↦ l
        ]
      ]

  -- At the first own item, no own item is before the position, and all are from it on.
  pub at_first_own : IsAt own log from 0
  at_first_own = record { done = λ p i. absurd i; left = first_left }

  -- No entry before the first own item has the id of an own item.
  pub none_before : (d : Item Op) → In d (take from log) → has_id d.id (ids_of own) ≡ false
  none_before d i = has_none d.id own (λ p j e. never from d p i (first_left p j) (sym e))

  module _ (at next : ℕ) (here : IsAt own log at next) (d : Item Op) (within : at < length log) (is : d ≡ get_or log at d) where
    -- The entries from the position on are the one there and those after it.
    pub rest : drop at log ≡ d ∷ drop (at + 1) log
    rest = drop_there log at d within is

    -- The entries up to and with the position are those before it and the one there.
    pub front : take (at + 1) log ≡ take at log ++ d ∷ []
    front = take_more log at d within ∙ ap (λ (r : Item Op). take at log ++ r ∷ []) (sym is)

    -- The entry at the position is among those from the position on.
    pub d_there : In d (drop at log)
    d_there = subst (In d) (sym rest) (inl refl)

    in_more : (p : Item Op) → In p (take at log) → In p (take (at + 1) log)
    in_more p i = subst (In p) (sym front) (in_left p (take at log) (d ∷ []) i)

    d_more : In d (take (at + 1) log)
    d_more = subst (In d) (sym front) (in_right d (take at log) (d ∷ []) (inl refl))

    -- it is the next one
    module _ (h : HasIdAt own next d.id) where
      own_within : next < length own
      own_within = slice_get_within own next h.0 h.1

      own_is : h.0 ≡ get_or own next h.0
      own_is = sym (get_or_from_slice_get own next h.0 h.0 h.1)

      own_rest : drop next own ≡ h.0 ∷ drop (next + 1) own
      own_rest = drop_there own next h.0 own_within own_is

      -- The own items up to and with the next one are those before it and this one.
      pub own_front : take (next + 1) own ≡ take next own ++ h.0 ∷ []
      own_front = take_more own next h.0 own_within ∙ ap (λ (r : Item Op). take next own ++ r ∷ []) (sym own_is)

      own_cut : own ≡ take next own ++ h.0 ∷ drop (next + 1) own
      own_cut = cut_there own next h.0 own_within own_is

      p_own : In h.0 own
      p_own = subst (In h.0) (sym own_cut) (in_right h.0 (take next own) (h.0 ∷ drop (next + 1) own) (inl refl))

      -- The next own item, if it has the id of the entry at the position, is that entry's item.
      pub same : h.0 ≡ d
      same = one h.0 d (st.stand h.0 p_own) (in_back at d d_there) h.2

      -- An entry with the id of the next own item has an id of the own items.
      pub has_it : has_id d.id (ids_of own) ≡ true
      has_it = has_one d.id own h.0 p_own h.2

      -- After the next own item, one more own item is before the next position.
      pub at_next_own : IsAt own log (at + 1) (next + 1)
      at_next_own = record {
        done = λ q i. elim (in_cases q (take next own) (h.0 ∷ []) (subst (In q) own_front i)) [
          | inl f ↦ in_more q (here.done q f)
          | inr l ↦ elim l [ inl e ↦ subst (λ (r : Item Op). In r (take (at + 1) log)) (sym (e ∙ same)) d_more | inr n ↦ absurd n ]
        ];
        left = λ q i. elim (subst (In q) rest (here.left q (subst (In q) (sym own_rest) (inr i)))) [
          | inl e ↦ absurd (st.distinct h.0 q (st.order h.0 q (subst (Before h.0 q) (sym own_cut) (before_right h.0 q (take next own) (h.0 ∷ drop (next + 1) own) (inl (refl, i))))) (h.2 ∙ ap (λ (r : Item Op). r.id) (sym e)))
          | inr l ↦ l
        ];
      }

    -- it is none
    module _ (n : HasIdAt own next d.id → ⊥) where
      none : (p : Item Op) → In p own → p.id ≡ d.id → ⊥
      none p i e =
          let same : p ≡ d = one p d (st.stand p i) (in_back at d d_there) e in
          elim (in_cases p (take next own) (drop next own) (subst (In p) (sym (take-append-drop next own)) i)) [
            | inl f ↦ never at p d (here.done p f) d_there e
            | inr l ↦ by (drop next own) refl l same
          ]
        where
          by : (y : List (Item Op)) → drop next own ≡ y → In p y → p ≡ d → ⊥
          by [] k j same = j
          by (q ∷ y) k j same =
              let lt : next < length own = (let size = ap length k ∙ refl in let m = length-drop next own in omega arith) in
              let at_q : slice_get own next ≡ Some q = slice_get-get_or own next q lt ∙ ap (λ (r : Item Op). Some r) (first_is (drop_there own next (get_or own next q) lt (get_or_default own next q (get_or own next q) lt)) k) in
              let cut_q = cut_there own next q lt (sym (get_or_from_slice_get own next q q at_q)) in
              let y_is : y ≡ drop (next + 1) own = rest_is (drop_there own next q lt (sym (get_or_from_slice_get own next q q at_q))) k in
              let q_left : In q (drop at log) = here.left q (subst (In q) (sym k) (inl refl)) in
              elim j [
                | inl e' ↦ n (q, at_q, ap (λ (r : Item Op). r.id) (sym e') ∙ e)
                | inr later ↦
                    let b = st.order q p (subst (Before q p) (sym cut_q) (before_right q p (take next own) (q ∷ drop (next + 1) own) (inl (refl, subst (In p) y_is later)))) in
                    elim (subst (In q) rest q_left) [
                      | inl e' ↦ n (q, at_q, ap (λ (r : Item Op). r.id) e')
                      | inr l ↦
                          let after : Before d q log = subst (Before d q) (sym (cut_there log at d within is)) (before_right d q (take at log) (d ∷ drop (at + 1) log) (inl (refl, l))) in
                          not_both (λ (r : Item Op). r.id) log st.distinct d q after (subst (λ (r : Item Op). Before q r log) same b)
                    ]
              ]
            where
              first_is : {u v : Item Op} {x y : List (Item Op)} → drop next own ≡ u ∷ x → drop next own ≡ v ∷ y → u ≡ v
              first_is {u} {v} {x} {y} a b = let c : u ∷ x ≡ v ∷ y = sym a ∙ b in cc

              rest_is : {u : Item Op} {x y : List (Item Op)} → drop next own ≡ u ∷ x → drop next own ≡ u ∷ y → y ≡ x
              rest_is {u} {x} {y} a b = let c : u ∷ x ≡ u ∷ y = sym a ∙ b in cc

      -- An entry that is not the next own item has no id of the own items.
      pub has_not_it : has_id d.id (ids_of own) ≡ false
      has_not_it = has_none d.id own none

      -- If the entry is not the next own item, no more own items are before the next position.
      pub at_same_own : IsAt own log (at + 1) next
      at_same_own = record {
        done = λ q i. in_more q (here.done q i);
        left = λ q i. elim (subst (In q) rest (here.left q i)) [
          | inl e ↦ absurd (none q (subst (In q) (take-append-drop next own) (in_right q (take next own) (drop next own) i)) (ap (λ (r : Item Op). r.id) e))
          | inr l ↦ l
        ];
      }

module _ {Op E : Type 0} (f : E → Item Op) (own : List (Item Op)) (x : List E) (from : ℕ) (st : StandFrom own (map f x) from) where
  abbrev stays : E → Bool
  stays e = not (has_id (f e).id (ids_of own))

  abbrev kept_of : List E → List E
  kept_of z = without_items f own z

  -- The entries before a position were gone through, and those of them that stay stand in one_more.
  pub record IsKeeping (at kept next : ℕ) (now : List E) : Type 0 where
    pub here : IsAt own (map f x) at next
    pub within : at ≤ length x
    pub gap : List E
    pub now_is : now ≡ kept_of (take at x) ++ (gap ++ drop at x)
    pub kept_is : kept ≡ length (kept_of (take at x))
    pub gap_size : kept + length gap ≡ at

  from_within : from < length x
  from_within = let w = slice_get_within (map f x) from st.first st.first_there in let m = length-map x f in omega arith

  front_stays : (e : E) → In e (take from x) → stays e ≡ true
  front_stays e i = ap not (none_before own (map f x) from st (f e) (subst (In (f e)) (sym (take-map f from x)) (in_map f e (take from x) i)))

  front_kept : kept_of (take from x) ≡ take from x
  front_kept = filter_all stays (take from x) front_stays

  -- At the first own item nothing has been left out yet.
  pub keeping_first : IsKeeping from from 0 x
  keeping_first = record {
    here = at_first_own own (map f x) from st;
    within = let w = from_within in omega arith;
    gap = [];
    now_is = sym (take-append-drop from x) ∙ ap (λ (z : List E). z ++ drop from x) (sym front_kept);
    kept_is = let w = from_within in sym (length-take-le from x (omega arith)) ∙ ap length (sym front_kept);
    gap_size = omega arith;
  }

  module _ (at kept next : ℕ) (now : List E) (h : IsKeeping at kept next now) where
    -- The list that is written over keeps its length.
    pub now_size : length now ≡ length x
    now_size =
        let a = ap length h.now_is ∙ length-append (kept_of (take at x)) (h.gap ++ drop at x) in
        let b = length-append h.gap (drop at x) in
        let c = length-drop at x in
        let w = h.within in
        let k = h.kept_is in
        let g = h.gap_size in
        omega arith

    -- The position to write at is not past the position to read from.
    pub kept_before : kept ≤ at
    kept_before = let g = h.gap_size in omega arith

    -- At the end of the list, the entries before the position to write at are those that stay.
    pub keeping_last : length x ≤ at → take kept now ≡ kept_of x
    keeping_last all =
        let whole = take_all at x all in
        ap (λ (z : List E). take kept z) h.now_is ∙ ap (λ (k : ℕ). take k (kept_of (take at x) ++ (h.gap ++ drop at x))) h.kept_is
        ∙ take-append_seam (kept_of (take at x)) (h.gap ++ drop at x) ∙ ap kept_of whole

    module _ (e : E) (lt : at < length x) (is : e ≡ get_or now at e) where
      front_size : length (kept_of (take at x) ++ h.gap) ≡ at
      front_size = length-append (kept_of (take at x)) h.gap ∙ (let k = h.kept_is in let g = h.gap_size in omega arith)

      rest_first : drop at x ≡ get_or x at e ∷ drop (at + 1) x
      rest_first = drop_there x at (get_or x at e) lt (get_or_default x at e (get_or x at e) lt)

      e_is : e ≡ get_or x at e
      e_is = is ∙ ap (λ (z : List E). get_or z at e) (h.now_is ∙ ap (λ (z : List E). kept_of (take at x) ++ (h.gap ++ z)) rest_first
          ∙ sym (append_assoc (kept_of (take at x)) h.gap (get_or x at e ∷ drop (at + 1) x)))
          ∙ ap (λ (n : ℕ). get_or ((kept_of (take at x) ++ h.gap) ++ get_or x at e ∷ drop (at + 1) x) n e) (sym front_size)
          ∙ get_or-append_seam (kept_of (take at x) ++ h.gap) (get_or x at e) (drop (at + 1) x) e

      left_rest : drop at x ≡ e ∷ drop (at + 1) x
      left_rest = rest_first ∙ ap (λ (d : E). d ∷ drop (at + 1) x) (sym e_is)

      one_more : kept_of (take (at + 1) x) ≡ kept_of (take at x) ++ kept_of (e ∷ [])
      one_more = ap kept_of (take_more x at e lt ∙ ap (λ (d : E). take at x ++ d ∷ []) (sym e_is)) ∙ filter-append stays (take at x) (e ∷ [])

      item_lt : at < length (map f x)
      item_lt = let m = length-map x f in omega arith

      item_is : f e ≡ get_or (map f x) at (f e)
      item_is = ap f e_is ∙ sym (get_or-map f x at e)

      more : at + 1 ≤ length x
      more = omega arith

      -- If the entry at the position is own, it is skipped, and nothing is written.
      pub keeping_skip : HasIdAt own next (f e).id → IsKeeping (at + 1) kept (next + 1) now
      keeping_skip has =
          let out : kept_of (e ∷ []) ≡ [] = ap (λ (b : Bool). cond (not b) (e ∷ []) []) (has_it own (map f x) from st at next h.here (f e) item_lt item_is has) in
          let same : kept_of (take (at + 1) x) ≡ kept_of (take at x) = one_more ∙ ap (λ (z : List E). kept_of (take at x) ++ z) out ∙ append-nil (kept_of (take at x)) in
          record {
            here = at_next_own own (map f x) from st at next h.here (f e) item_lt item_is has;
            within = more;
            gap = h.gap ++ e ∷ [];
            now_is = h.now_is ∙ ap (λ (z : List E). kept_of (take at x) ++ (h.gap ++ z)) left_rest
                ∙ ap (λ (z : List E). kept_of (take at x) ++ z) (sym (append_assoc h.gap (e ∷ []) (drop (at + 1) x)))
                ∙ ap (λ (z : List E). z ++ ((h.gap ++ e ∷ []) ++ drop (at + 1) x)) (sym same);
            kept_is = h.kept_is ∙ ap length (sym same);
            gap_size = let g = h.gap_size in let l = length-append h.gap (e ∷ []) in omega arith;
          }

      -- If the entry at the position is not own, it is kept: it is written after those that stay.
      pub keeping_keep : (HasIdAt own next (f e).id → ⊥) → IsKeeping (at + 1) (kept + 1) next (slice_set now kept e)
      keeping_keep none =
          let into : kept_of (e ∷ []) ≡ e ∷ [] = ap (λ (b : Bool). cond (not b) (e ∷ []) []) (has_not_it own (map f x) from st at next h.here (f e) item_lt item_is none) in
          let grown : kept_of (take (at + 1) x) ≡ kept_of (take at x) ++ e ∷ [] = one_more ∙ ap (λ (z : List E). kept_of (take at x) ++ z) into in
          let written = ap (λ (z : List E). slice_set z kept e) (h.now_is ∙ ap (λ (z : List E). kept_of (take at x) ++ (h.gap ++ z)) left_rest)
          ∙ ap (λ (n : ℕ). slice_set (kept_of (take at x) ++ (h.gap ++ e ∷ drop (at + 1) x)) n e) h.kept_is in
          let s = over h.gap in
          record {
            here = at_same_own own (map f x) from st at next h.here (f e) item_lt item_is none;
            within = more;
            gap = s.0;
            now_is = written ∙ s.1 ∙ ap (λ (z : List E). z ++ (s.0 ++ drop (at + 1) x)) (sym grown);
            kept_is = (let k = h.kept_is in let l = length-append (kept_of (take at x)) (e ∷ []) in let g = ap length grown in omega arith);
            gap_size = let g = h.gap_size in let l = s.2 in omega arith;
          }
        where
          -- what is written over is the first of the gap, where there is one
          over : (g : List E) → (g' : List E) × (slice_set (kept_of (take at x) ++ (g ++ e ∷ drop (at + 1) x)) (length (kept_of (take at x))) e ≡ (kept_of (take at x) ++ e ∷ []) ++ (g' ++ drop (at + 1) x)) × (length g' ≡ length g)
          over [] = ([], set-append_seam (kept_of (take at x)) e (drop (at + 1) x) e ∙ sym (append_assoc (kept_of (take at x)) (e ∷ []) (drop (at + 1) x)), refl)
          over (d ∷ g) = (
            g ++ e ∷ [],
            set-append_seam (kept_of (take at x)) d (g ++ e ∷ drop (at + 1) x) e
                ∙ ap (λ (z : List E). kept_of (take at x) ++ e ∷ z) (sym (append_assoc g (e ∷ []) (drop (at + 1) x)))
                ∙ sym (append_assoc (kept_of (take at x)) (e ∷ []) ((g ++ e ∷ []) ++ drop (at + 1) x)),
            (let l = length-append g (e ∷ []) in omega arith),
          )

-- where there are no items, nothing is left out
pub without_nothing : {Op E : Type 0} (f : E → Item Op) (own : List (Item Op)) (x : List E) → slice_get own 0 ≡ None → without_items f own x ≡ x
without_nothing f [] x h = without_none f x
without_nothing f (p ∷ own) x h = cc

-- the items of what is left
pub without_mapped : {Op E : Type 0} (f : E → Item Op) (own : List (Item Op)) (x : List E) → map f (without_items f own x) ≡ without_items itself own (map f x)
without_mapped f own [] = refl
without_mapped {Op} {E} f own (e ∷ x) = by (not (has_id (f e).id (ids_of own))) (without_mapped f own x)
  where
    by : (b : Bool) → map f (without_items f own x) ≡ without_items itself own (map f x) → map f (cond b (e ∷ without_items f own x) (without_items f own x)) ≡ cond b (f e ∷ without_items itself own (map f x)) (without_items itself own (map f x))
    by true h = ap (λ (z : List (Item Op)). f e ∷ z) h
    by false h = h
