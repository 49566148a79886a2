-- Items that leave a log, a batch after another.
use Rattle.std.proofs.Common.{◌≡◌, ◌==◌, ℕ, ◌≤◌, ◌-◌, Bool, true, false, not, ◌||◌, List, [], ◌∷◌, ◌++◌, take, drop}
use Rattle.std.proofs.Common.{refl, sym, ◌∙◌, ap, subst, arith, inl, inr}
use Rattle.std.proofs.Math.Bool.{or_assoc}
use Rattle.std.proofs.lemmas.Bool.{not-true}
use Rattle.std.proofs.lemmas.List.{drop-drop, take-append-drop}
use Rattle.pp_core.specs.declared.entry.Item.{Item}
use Rattle.pp_model.specs.Lists.{Before, In}
use Rattle.pp_model.specs.Object.{HasDistinctIds}
use Rattle.pp_model.specs.Serial.{has_id}
use Rattle.pp_model.proofs.Lists.{before_across, before_filter, before_from_filter, before_in_first, before_in_second, before_left, before_right}
use Rattle.pp_model.proofs.Lists.{by_key, from_filter, in_cases, in_filter, in_left, in_right, not_both}
use Rattle.pp_kind.specs.Object.{Object}
use Rattle.pp_log.specs.declared.index.Index.{Index}
use Rattle.pp_log.specs.declared.place.Place.{Place}
use Rattle.pp_log.specs.Keeps.{KeepsAll}
use Rattle.pp_log.specs.Leaves.{AllLeave}
use Rattle.pp_log.specs.Leaving.{MayLeave, without_items}
use Rattle.pp_log.specs.Room.{ids_of}
use Rattle.pp_log.specs.TakesOut.{itself}
use Rattle.pp_log.proofs.Leaves.{HaveLeft}
use Rattle.pp_log.proofs.Leaving.{filter_twice, has_none, has_not, neither}

-- The last items have left the list, and a batch right before them is to leave.
module _ {Shape State Op Undo : Type 0} (o : Object Shape State Op Undo) (own log : List (Item Op)) (distinct : HasDistinctIds log) (may : MayLeave o own log)
    (front batch last : List (Item Op)) (cut : own ≡ front ++ (batch ++ last)) where
  -- The log without the last items.
  abbrev pub now_of : List (Item Op)
  now_of = without_items itself last log

  own_of : (p : Item Op) → In p (batch ++ last) → In p own
  own_of p i = subst (In p) (sym cut) (in_right p front (batch ++ last) i)

  in_order : (p q : Item Op) → Before p q (batch ++ last) → Before p q log
  in_order p q w = may.order p q (subst (Before p q) (sym cut) (before_right p q front (batch ++ last) w))

  stays : (p : Item Op) → In p batch → not (has_id p.id (ids_of last)) ≡ true
  stays p i = ap not (has_none p.id last (λ q j k. distinct p q (in_order p q (before_across p q batch last i j)) (sym k)))

  -- An entry after one of the batch, that has not left and is not of the batch, is none of the items that leave.
  no_other : (p q : Item Op) → In p batch → Before p q log → not (has_id q.id (ids_of last)) ≡ true → has_id q.id (ids_of batch) ≡ false → has_id q.id (ids_of own) ≡ false
  no_other p q i w left_in other = has_none q.id own (λ e j k.
      let one : e ≡ q = by_key (λ (d : Item Op). d.id) log distinct e q (may.stand e j) (before_in_second p q log w) k in
      elim (in_cases e front (batch ++ last) (subst (In e) cut j)) [
        | inl f ↦ not_both (λ (d : Item Op). d.id) log distinct p q w (subst (λ (d : Item Op). Before d p log) one
            (may.order e p (subst (Before e p) (sym cut) (before_across e p front (batch ++ last) f (in_left p batch last i)))))
        | inr r ↦ elim (in_cases e batch last r) [
          | inl m ↦ has_not q.id batch other e m k
          | inr l ↦ has_not q.id last (not-true (has_id q.id (ids_of last)) left_in) e l k
        ]
      ])

  -- The batch may leave what is left after the last items have left.
  pub may_now : MayLeave o batch now_of
  may_now = record {
    stand = λ p i. in_filter (λ (d : Item Op). not (has_id d.id (ids_of last))) p log (may.stand p (own_of p (in_left p batch last i))) (stays p i);
    order = λ p q w. before_filter (λ (d : Item Op). not (has_id d.id (ids_of last))) p q log (in_order p q (before_left p q batch last w)) (stays p (before_in_first p q batch w)) (stays q (before_in_second p q batch w));
    pass = λ p q i w other.
        let b = before_from_filter (λ (d : Item Op). not (has_id d.id (ids_of last))) p q log w in
        let left_in = (from_filter (λ (d : Item Op). not (has_id d.id (ids_of last))) q log (before_in_second p q now_of w)).1 in
        may.pass p q (own_of p (in_left p batch last i)) b (no_other p q i b left_in other);
  }

  has_of_both : (j : ℕ) (x y : List (Item Op)) → has_id j (ids_of (x ++ y)) ≡ (has_id j (ids_of x) || has_id j (ids_of y))
  has_of_both j [] y = refl
  has_of_both j (d ∷ x) y = ap (λ (v : Bool). (d.id == j) || v) (has_of_both j x y) ∙ sym (or_assoc (d.id == j) (has_id j (ids_of x)) (has_id j (ids_of y)))

  -- To leave out a batch and the last items is to leave the batch out of what is left.
  pub gone_next : without_items itself (batch ++ last) log ≡ without_items itself batch now_of
  gone_next = sym (filter_twice (λ (d : Item Op). not (has_id d.id (ids_of batch))) (λ (d : Item Op). not (has_id d.id (ids_of last))) (λ (d : Item Op). not (has_id d.id (ids_of (batch ++ last)))) log
      (λ d i. neither (has_id d.id (ids_of last)) (has_id d.id (ids_of batch)) ∙ ap not (sym (has_of_both d.id batch last))))

-- The own items from the k-th on have left, and those from the i-th on are next.
module _ {Shape State Op Undo : Type 0} (o : Object Shape State Op Undo) (place : Op → ℕ) (own : List (Item Op)) (s : State) (ps : List (Place Undo)) (ids : Index)
    (i k : ℕ) (within : i ≤ k) (t : State) (qs : List (Place Undo)) (js : Index) (left : HaveLeft o place own s ps ids k t qs js) where
  -- The items from the i-th to before the k-th.
  abbrev pub batch_of : List (Item Op)
  batch_of = take (k - i) (drop i own)

  cut_off : drop i own ≡ batch_of ++ drop k own
  cut_off = sym (take-append-drop (k - i) (drop i own)) ∙ ap (λ (l : List (Item Op)). batch_of ++ l) (drop-drop (k - i) i own ∙ ap (λ (n : ℕ). drop n own) (omega arith))

  cut_own : own ≡ take i own ++ (batch_of ++ drop k own)
  cut_own = sym (take-append-drop i own) ∙ ap (λ (l : List (Item Op)). take i own ++ l) cut_off

  module _ (log : List (Item Op)) (h : KeepsAll o place s log ps ids) (may : MayLeave o own log) where
    -- The log without the items from the k-th on.
    abbrev pub log_now : List (Item Op)
    log_now = without_items itself (drop k own) log

    -- Once the items from the k-th on have left, the log keeps what is left, in its shape.
    pub keeps_now : KeepsAll o place t log_now qs js × (o.shape t ≡ o.shape s)
    keeps_now = left.keeps log h may

    -- The next batch of own items may leave what is left.
    pub batch_may : MayLeave o batch_of log_now
    batch_may = may_now o own log h.keeps.distinct may (take i own) batch_of (drop k own) cut_own

    -- To leave the next batch out of what is left leaves out the own items from the i-th on.
    pub batch_gone : without_items itself (drop i own) log ≡ without_items itself batch_of log_now
    batch_gone = ap (λ (l : List (Item Op)). without_items itself l log) cut_off ∙ gone_next o own log h.keeps.distinct may (take i own) batch_of (drop k own) cut_own

  -- If the next batch leaves what is left, the own items from the i-th on have left.
  pub left_before : (u : State) (rs : List (Place Undo)) (ls : Index) → AllLeave o place batch_of t qs js u rs ls → HaveLeft o place own s ps ids i u rs ls
  left_before u rs ls leaves = record {
    keeps = λ log h may.
        let now = keeps_now log h may in
        let gone = leaves (log_now log h may) now.0 (batch_may log h may) in (
          subst (λ (l : List (Item Op)). KeepsAll o place u l rs ls) (sym (batch_gone log h may)) gone.0,
          gone.1 ∙ now.1,
        );
  }
