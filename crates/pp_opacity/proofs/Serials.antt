-- Proof machinery: the serial run of the committed transactions, after any number of them.
use Rattle.std.specs.Prelude.{◌≡◌, ◌↔◌, ◌<◌, ◌+◌, ◌-◌, ℕ, Bool, true, false, cond, IsTrue, List, [], ◌∷◌, ◌++◌, length, take, drop, ◌≤◌}
use Rattle.std.proofs.Common.{sym, ap, subst, ◌∙◌, arith, append_assoc, get_or, inl, inr}
use Rattle.std.proofs.Math.Seq.{take-length}
use Rattle.std.proofs.lemmas.List.{append-nil, length-append, length-drop, map-append, take-append-drop, take-take, take_all}
use Rattle.pp_model.specs.Config.{CommittedTx}
use Rattle.pp_model.specs.Lists.{Each}
use Rattle.pp_model.specs.Object.{Item, ops}
use Rattle.pp_model.specs.Sound.{serial_ops}
use Rattle.pp_model.proofs.Lengths.{length-ops}
use Rattle.pp_kind.specs.Object.{Object, AllowedFrom, AllRanged, IsAllowed, IsLawful, IsLog, rules_of}
use Rattle.pp_kind.proofs.Lists.{allowed-first, ranged-append, ranged-first}
use Rattle.pp_attempts.specs.Trying.{IsTrail, MayFollow}
use Rattle.pp_attempts.specs.Views.{Explains, MayBeTried}
use Rattle.pp_attempts.proofs.Trails.{may-first}
use Rattle.pp_attempts.proofs.Viewing.{allowed_fit, serial_cut, serial_next, serial_within}
use Rattle.pp_opacity.specs.Attempts.{Excluded}
use Rattle.pp_opacity.specs.Trials.{IsAppliedIf, IsAt, IsSerial, IsTried, IsWith, MayExtend, Serial}

-- what is true of each element of two lists is true of each of them joined
each_both : {A : Type 0} (P : A → Type 0) (x y : List A) → Each P x → Each P y → Each P (x ++ y)
each_both P [] y h k = k
each_both P (a ∷ x) y h k = (h.0, each_both P x y h.1 k)

module _ {Shape State Op Undo : Type 0} (o : Object Shape State Op Undo) (laws : IsLawful o) where
  -- no operation was applied in the empty state
  start_log : (shape : Shape) → IsLog o (o.start shape) []
  start_log shape = record { allowed = tt; is = ap o.start (sym (laws.start_shape shape)); ranged = tt }

  -- operations that may follow the empty state
  may_start : (shape : Shape) (y : List Op) → Each (λ a. IsTrue (o.fits shape a)) y → AllRanged o y → length y < 1_000_000 → MayFollow o (o.start shape) y
  may_start shape y fit ranged few = record {
    before = [];
    log = start_log shape;
    fit = subst (λ (w : Shape). Each (λ a. IsTrue (o.fits w a)) y) (sym (laws.start_shape shape)) fit;
    ranged = ranged;
    few = omega (arith, few);
  }

  module _ (shape : Shape) (D : List (CommittedTx Op)) (run : IsSerial o shape D) where
    front_allowed : (n : ℕ) → IsAllowed o shape (serial_ops (take n D))
    front_allowed n = allowed-first o (o.start shape) (serial_ops (take n D)) (serial_ops (drop n D)) (subst (λ (w : List Op). IsAllowed o shape w) (serial_cut D n) run.allowed)

    front_ranged : (n : ℕ) → AllRanged o (serial_ops (take n D))
    front_ranged n = ranged-first o (serial_ops (take n D)) (serial_ops (drop n D)) (subst (λ (w : List Op). AllRanged o w) (serial_cut D n) run.ranged)

    front_fits : (n : ℕ) → Each (λ a. IsTrue (o.fits shape a)) (serial_ops (take n D))
    front_fits n = subst (λ (w : Shape). Each (λ a. IsTrue (o.fits w a)) (serial_ops (take n D))) (laws.start_shape shape) (allowed_fit o laws (o.start shape) (serial_ops (take n D)) (front_allowed n))

    -- The operations of the first transactions may follow the empty state.
    pub may_front : (n : ℕ) → MayFollow o (o.start shape) (serial_ops (take n D))
    may_front n = may_start shape (serial_ops (take n D)) (front_fits n) (front_ranged n) (let few = run.few in omega (arith, few, serial_within D n))

    -- Items that are asked about may follow the first transactions.
    pub may_asked : (n : ℕ) (items : List (Item Op)) → MayBeTried o shape (length (serial_ops D)) items → MayFollow o (o.start shape) (serial_ops (take n D) ++ ops items)
    may_asked n items may =
        let x = serial_ops (take n D) in
        may_start shape (x ++ ops items) (each_both (λ a. IsTrue (o.fits shape a)) x (ops items) (front_fits n) may.fit) (ranged-append o x (ops items) (front_ranged n) may.ranged)
        (let few = may.few in omega (arith, few, serial_within D n, length-append x (ops items), length-ops items))

    module _ (i : ℕ) (d : CommittedTx Op) (there : i < length D) (is : d ≡ get_or D i d) where
      -- The operations of the next transaction may follow those before it.
      pub may_next : MayFollow o (o.start shape) (serial_ops (take i D) ++ ops d.entries)
      may_next = subst (λ (w : List Op). MayFollow o (o.start shape) w) (serial_next D i d there is) (may_front (i + 1))

      -- After the next transaction was applied as far as it is allowed, one transaction more was applied.
      pub advanced : (all : Bool) (us : List Undo) (t : State) → IsTried o (o.start shape) (serial_ops (take i D)) (ops d.entries) all us t
          → IsTrail o (o.start shape) (serial_ops (take (i + 1) D)) us t
      advanced all us t h = elim h.whole [
        | inl w ↦ subst (λ (v : List Op). IsTrail o (o.start shape) v us t)
            (ap (λ (v : List Op). serial_ops (take i D) ++ v) (ap (λ (n : ℕ). take n (ops d.entries)) w.1 ∙ take-length (ops d.entries)) ∙ sym (serial_next D i d there is)) h.trail
        | inr w ↦ absurd (w.1 (subst (λ (v : List Op). AllowedFrom o (o.start shape) v) (serial_next D i d there is) (front_allowed (i + 1))))
      ]

      -- The operations of the first i + 1 transactions end with those of the last one.
      pub with_last : (us : List Undo) (t : State) → IsTrail o (o.start shape) (serial_ops (take (i + 1) D)) us t
          → IsTrail o (o.start shape) (serial_ops (take i D) ++ ops d.entries) us t
      with_last us t h = subst (λ (v : List Op). IsTrail o (o.start shape) v us t) (serial_next D i d there is) h

-- The serial run of fewer transactions is no longer.
pub serial_shorter : {Op : Type 0} (D : List (CommittedTx Op)) (i n : ℕ) → i ≤ n → length (serial_ops (take i D)) ≤ length (serial_ops (take n D))
serial_shorter {Op} D i n less = subst (λ (w : List (CommittedTx Op)). length (serial_ops w) ≤ length (serial_ops (take n D))) (take-take i n D less) (serial_within (take n D) i)

-- The serial run of i + 1 transactions is longer by the operations of the last one.
pub longer_by : {Op : Type 0} (D : List (CommittedTx Op)) (i : ℕ) (d : CommittedTx Op) → i < length D → d ≡ get_or D i d
    → length (serial_ops (take (i + 1) D)) ≡ length (serial_ops (take i D)) + length d.entries
longer_by {Op} D i d there is =
    let all = ap (λ (w : List Op). length w) (serial_next D i d there is) in
    omega (arith, all, length-append (serial_ops (take i D)) (ops d.entries), length-ops d.entries)

-- The items from a position on, all of them.
pub rest_of : {Op : Type 0} (first : ℕ) (items : List (Item Op)) → take (length items - first) (drop first items) ≡ drop first items
rest_of first items = let all = length-drop first items in take_all (length items - first) (drop first items) (omega (arith, all))

-- Items are the first of them, and then the others.
pub cut_ops : {Op : Type 0} (x : List Op) (first : ℕ) (items : List (Item Op)) → x ++ ops items ≡ (x ++ ops (take first items)) ++ ops (drop first items)
cut_ops {Op} x first items =
    ap (λ (w : List (Item Op)). x ++ ops w) (sym (take-append-drop first items)) ∙ ap (λ (w : List Op). x ++ w) (map-append (λ (p : Item Op). p.op) (take first items) (drop first items))
    ∙ sym (append_assoc x (ops (take first items)) (ops (drop first items)))

module _ {Shape State Op Undo : Type 0} (o : Object Shape State Op Undo) where
  -- The operations from a position on were applied after the others, if they are allowed there.
  pub extended : (s t : State) (x : List Op) (first : ℕ) (items : List (Item Op)) (yes : Bool) (us : List Undo) → IsAppliedIf o s (x ++ ops (take first items)) (ops (drop first items)) yes us t
      → IsTrail o s (x ++ ops (cond yes items (take first items))) us t
  extended s t x first items true us h = subst (λ (w : List Op). IsTrail o s w us t) (sym (cut_ops x first items)) h.trail
  extended s t x first items false us h = subst (λ (w : List Op). IsTrail o s w us t) (append-nil (x ++ ops (take first items))) h.trail

  module _ (laws : IsLawful o) (shape : Shape) (D : List (CommittedTx Op)) (first : ℕ) (items : List (Item Op)) (excluded : Excluded) (serial : Serial State Undo)
      (m : MayExtend o shape D items first excluded serial) where
    abbrev before : List Op
    before = serial_ops (take serial.count D)

    -- The operations from a position on may follow those before it.
    pub may_extend : MayFollow o (o.start shape) ((before ++ ops (take first items)) ++ ops (drop first items))
    may_extend = subst (λ (w : List Op). MayFollow o (o.start shape) w) (cut_ops before first items) (may_asked o laws shape D m.run serial.count items m.may)

    -- Those before it may follow the first transactions.
    pub may_begin : MayFollow o (o.start shape) (before ++ ops (take first items))
    may_begin = may-first o (o.start shape) (before ++ ops (take first items)) (ops (drop first items)) may_extend

    -- Whether they are applied says whether the items are explained.
    pub extends_explained : (yes : Bool) (us : List Undo) (t : State) → IsAppliedIf o (o.start shape) (before ++ ops (take first items)) (ops (drop first items)) yes us t
        → IsTrue yes ↔ Explains (rules_of o shape) D items serial.count
    extends_explained all us t h = (
      λ k. subst (λ (w : List Op). AllowedFrom o (o.start shape) w) (sym (cut_ops before first items)) (h.decides.0 k),
      λ k. h.decides.1 (subst (λ (w : List Op). AllowedFrom o (o.start shape) w) (cut_ops before first items) k),
    )

module _ {Shape State Op Undo : Type 0} (o : Object Shape State Op Undo) (shape : Shape) (D : List (CommittedTx Op)) (serial : Serial State Undo) where
  -- If nothing is applied after the serial run, it is there alone.
  pub alone : IsWith o shape D [] serial → IsAt o shape D serial
  alone w = record { within = w.within; trail = subst (λ (x : List Op). IsTrail o (o.start shape) x serial.undos.items serial.state) (append-nil (serial_ops (take serial.count D))) w.trail }

  -- A serial run alone is one after which nothing is applied.
  pub with_none : IsAt o shape D serial → IsWith o shape D [] serial
  with_none w = record { within = w.within; trail = subst (λ (x : List Op). IsTrail o (o.start shape) x serial.undos.items serial.state) (sym (append-nil (serial_ops (take serial.count D)))) w.trail }

  -- Equal items and numbers may be asked about.
  pub asked_same : (items own : List (Item Op)) (known excluded : Excluded) (first : ℕ) → items ≡ own → known ≡ excluded → MayExtend o shape D own first excluded serial → MayExtend o shape D items first known serial
  asked_same items own known excluded first a b m = subst (λ (w : List (Item Op)). MayExtend o shape D w first known serial) (sym a) (subst (λ (w : Excluded). MayExtend o shape D own first w serial) (sym b) m)
