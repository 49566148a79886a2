-- Proof machinery: the peak of a committed transaction after which it undid nothing.
use Rattle.std.specs.Prelude.{◌≡◌, ◌≤◌, ◌<◌, ◌+◌, ◌⊎◌, ℕ, suc, zero, Bool, true, false, cond, not, List, []}
use Rattle.std.specs.Prelude.{◌∷◌, ◌++◌, filter, length, map, take, Option, None, Some}
use Rattle.std.proofs.Common.{refl, sym, ap, subst, ◌∙◌, arith, append_assoc}
use Rattle.std.proofs.lemmas.List.{append-nil, length-append, length-map, map-append}
use mathlib.Core.Logic.{inl, inr}
use Rattle.pp_model.specs.Config.{CommittedTx, Start, Step, Begin, App, Unapp, Push, Unpush, Pull, Unpull, Cmt, Quit, Note}
use Rattle.pp_model.specs.Config.{after, first, tx}
use Rattle.pp_model.specs.Lists.{In, joined}
use Rattle.pp_model.specs.Names.{Name}
use Rattle.pp_model.specs.Object.{Allowed, Item, Object, ops}
use Rattle.pp_model.specs.Rules.{RunsFrom, StartMeets}
use Rattle.pp_model.specs.Serial.{Attempt, applied_items, attempt_of, attempts, commits, committed_tx}
use Rattle.pp_model.specs.Serial.{has_id, own_of, start_attempts, unapplied_ids}
use Rattle.pp_model.specs.Sound.{serial_items, serial_ops}
use Rattle.pp_model.proofs.Lists.{from_filter, from_map, in_cases, in_left, in_map, in_order, in_right}
use Rattle.pp_model.proofs.Logs.{found_tx}
use Rattle.pp_model.proofs.Names.{names_tell}
use Rattle.pp_model.proofs.Serial.{allowed_front}
use Rattle.pp_model.proofs.Simulate.{serial_allowed}
use Rattle.pp_model.proofs.Steps.{there_holds}
use Rattle.pp_model.proofs.Trace.{applied-append, dropped-append}
use Rattle.pp_attempts.specs.Laws.{IsKeptPeak, SeesKeptPeaks, peak_behind}
use Rattle.pp_attempts.specs.Lists.{peak_at}
use Rattle.pp_attempts.specs.Peaks.{IdsTell, IsOrderly, Peak, goes_on, peaks_behind, peaks}
use Rattle.pp_attempts.specs.Tops.{is_top}
use Rattle.pp_attempts.specs.Views.{Explains, IsLeastBelow}
use Rattle.pp_attempts.proofs.Collecting.{peaks_step}
use Rattle.pp_attempts.proofs.Orders.{applied_there, own_short}
use Rattle.pp_attempts.proofs.Runs.{front_runs, met_there, sound_there, traced_there}
use Rattle.pp_attempts.proofs.Viewing.{serial-append}

-- a transaction that goes on with nothing and undoes nothing applies nothing
idle : {Op : Type 0} (t : Name) (ss : List (Step Op)) → goes_on t ss ≡ false → unapplied_ids t ss ≡ [] → applied_items t ss ≡ []
idle t [] g u = refl
idle {Op} t (App v id op ∷ ss) g u = elim (names_tell v t) [
  | inl r ↦ absurd (let e = subst (λ (b : Bool). cond b true (goes_on t ss) ≡ false) r.0 g in cc)
  | inr r ↦ ap (λ (b : Bool). cond b (record { id = id; op = op } ∷ applied_items t ss) (applied_items t ss)) r.0
      ∙ idle t ss (subst (λ (b : Bool). cond b true (goes_on t ss) ≡ false) r.0 g) u
]
idle {Op} t (Unapp v id ∷ ss) g u = elim (names_tell v t) [
  | inl r ↦ absurd (let e = subst (λ (b : Bool). cond b (id ∷ unapplied_ids t ss) (unapplied_ids t ss) ≡ []) r.0 u in cc)
  | inr r ↦ idle t ss (subst (λ (b : Bool). cond b false (goes_on t ss) ≡ false) r.0 g)
      (subst (λ (b : Bool). cond b (id ∷ unapplied_ids t ss) (unapplied_ids t ss) ≡ []) r.0 u)
]
idle t (s ∷ ss) g u = idle t ss g u

own_idle : {Op : Type 0} (t : Name) (xs rest : List (Step Op)) → applied_items t rest ≡ [] → unapplied_ids t rest ≡ [] → own_of t (xs ++ rest) ≡ own_of t xs
own_idle {Op} t xs rest a u =
    ap (λ (w : List ℕ). filter (λ (p : Item Op). not (has_id p.id w)) (applied_items t (xs ++ rest)))
    (dropped-append t xs rest ∙ ap (λ (w : List ℕ). unapplied_ids t xs ++ w) u ∙ append-nil (unapplied_ids t xs))
    ∙ ap (λ (w : List (Item Op)). filter (λ (p : Item Op). not (has_id p.id (unapplied_ids t xs))) w)
    (applied-append t xs rest ∙ ap (λ (w : List (Item Op)). applied_items t xs ++ w) a ∙ append-nil (applied_items t xs))

-- A peak right after a step: it is an APP, and the peak is its transaction's own list.
peak_there : {Op : Type 0} (top : Bool) (s : Step Op) (own : Name → List (Item Op)) (q : Peak Op) → In q (peak_at top s own)
    → (id : ℕ) × (op : Op) × (s ≡ App q.tx id op) × (q.ops ≡ own q.tx)
peak_there {Op} true (App t id op) own q (inl e) =
    let n : q.tx ≡ t = ap (λ (w : Peak Op). w.tx) e in
    (id, op, ap (λ (w : Name). App w id op) (sym n), ap (λ (w : Peak Op). w.ops) e ∙ ap own (sym n))
peak_there true (App t id op) own q (inr never) = absurd never
peak_there false (App t id op) own q never = absurd never
peak_there top (Unapp t id) own q never = absurd never
peak_there top (Begin t p b) own q never = absurd never
peak_there top (Push t id) own q never = absurd never
peak_there top (Unpush t id) own q never = absurd never
peak_there top (Pull t id) own q never = absurd never
peak_there top (Unpull t id) own q never = absurd never
peak_there top (Cmt t) own q never = absurd never
peak_there top (Quit t) own q never = absurd never
peak_there top (Note t) own q never = absurd never

-- The peaks after a step: the one right after it, if one is there, or one after a later step.
peak_cases : {Op : Type 0} (past : List (Step Op)) (s : Step Op) (ss : List (Step Op)) (q : Peak Op) → In q (peaks_behind past (s ∷ ss))
    → In q (peak_at (is_top s ss) s (λ u. own_of u (past ++ s ∷ []))) ⊎ In q (peaks_behind (past ++ s ∷ []) ss)
peak_cases {Op} past s ss q i = in_cases q (peak_at (is_top s ss) s (λ u. own_of u (past ++ s ∷ []))) (peaks_behind (past ++ s ∷ []) ss)
    (subst (λ (w : List (Peak Op)). In q w) (peaks_step past s ss) i)

both_none : {A : Type 0} (xs ys : List A) → xs ++ ys ≡ [] → (xs ≡ []) × (ys ≡ [])
both_none [] ys e = (refl, e)
both_none (x ∷ xs) ys e = absurd (let n : x ∷ (xs ++ ys) ≡ [] = e in cc)

-- a transaction that applies nothing has no peak
no_peaks : {Op : Type 0} (t : Name) (past ss : List (Step Op)) → applied_items t ss ≡ [] → (q : Peak Op) → In q (peaks_behind past ss) → q.tx ≡ t → ⊥
no_peaks t past [] none q i e = i
no_peaks {Op} t past (s ∷ ss) none q i e =
    let parts = both_none (applied_items t (s ∷ [])) (applied_items t ss) (sym (applied-append t (s ∷ []) ss) ∙ none) in
    elim (peak_cases past s ss q i) [
      | inl here ↦
          let p = peak_there (is_top s ss) s (λ u. own_of u (past ++ s ∷ [])) q here in
          let is : s ≡ App t p.0 p.1 = p.2 ∙ ap (λ (w : Name). App w p.0 p.1) e in
          applies p.0 p.1 (subst (λ (w : Step Op). applied_items t (w ∷ []) ≡ []) is parts.0)
      | inr behind ↦ no_peaks t (past ++ s ∷ []) ss parts.1 q behind e
    ]
  where
    applies : (id : ℕ) (op : Op) → applied_items t (App t id op ∷ []) ≡ [] → ⊥
    applies id op n = elim (names_tell t t) [
      | inl r ↦ (let item : Item Op = record { id = id; op = op } in
          let e : item ∷ [] ≡ [] = subst (λ (b : Bool). cond b (item ∷ []) [] ≡ []) r.0 n in cc)
      | inr r ↦ r.1 refl
    ]

-- The operations of a peak were applied.
applied_within : {Op : Type 0} (past ss : List (Step Op)) (p : Peak Op) (i : Item Op) → In p (peaks_behind past ss) → In i p.ops → In (App p.tx i.id i.op) (past ++ ss)
applied_within past [] p i n m = absurd n
applied_within {Op} past (s ∷ ss) p i n m =
    subst (λ (w : List (Step Op)). In (App p.tx i.id i.op) w) (append_assoc past (s ∷ []) ss)
    (elim (peak_cases past s ss p n) [
      | inl here ↦
          let r = peak_there (is_top s ss) s (λ u. own_of u (past ++ s ∷ [])) p here in
          let own : In i (own_of p.tx (past ++ s ∷ [])) = subst (λ (w : List (Item Op)). In i w) r.3 m in
          in_left (App p.tx i.id i.op) (past ++ s ∷ []) ss (applied_there p.tx i (past ++ s ∷ []) (from_filter _ i (applied_items p.tx (past ++ s ∷ [])) own).0)
      | inr behind ↦ applied_within (past ++ s ∷ []) ss p i behind m
    ])

-- Each operation of an attempt was applied by its transaction.
pub applied : {Op : Type 0} (ss : List (Step Op)) (p : Peak Op) (i : Item Op) → In p (peaks ss) → In i p.ops → In (App p.tx i.id i.op) ss
applied ss p i n m = applied_within [] ss p i n m

-- If the steps are orderly, entries of attempts with one id are equal.
pub ids_tell : {Op : Type 0} (ss : List (Step Op)) → IsOrderly ss → IdsTell (peaks ss)
ids_tell {Op} ss orderly p q i j of_p of_q in_p in_q same =
    let first = applied ss p i of_p in_p in
    let second = subst (λ (n : ℕ). In (App q.tx n j.op) ss) (sym same) (applied ss q j of_q in_q) in
    elim (in_order (App p.tx i.id i.op) (App q.tx i.id j.op) ss first second) [
      | inl e ↦ alike i.id j.id i.op j.op same (ops_alike p.tx q.tx i.id i.op j.op e)
      | inr apart ↦ elim apart [ inl b ↦ absurd (orderly.once p.tx q.tx i.id i.op j.op b) | inr b ↦ absurd (orderly.once q.tx p.tx i.id j.op i.op b) ]
    ]
  where
    ops_alike : (t u : Name) (n : ℕ) (a b : Op) → App t n a ≡ App u n b → a ≡ b
    ops_alike t u n a b e = cc

    alike : (n m : ℕ) (a b : Op) → n ≡ m → a ≡ b → ◌≡◌ {A = Item Op} (record { id = n; op = a }) (record { id = m; op = b })
    alike n m a b e f = cc

-- a peak has no more operations than the run has steps
short_within : {Op : Type 0} (past ss : List (Step Op)) (p : Peak Op) → In p (peaks_behind past ss) → length p.ops ≤ length past + length ss
short_within past [] p n = absurd n
short_within {Op} past (s ∷ ss) p n =
    let grown = length-append past (s ∷ []) in
    elim (peak_cases past s ss p n) [
      | inl here ↦
          let r = peak_there (is_top s ss) s (λ u. own_of u (past ++ s ∷ [])) p here in
          let own = ap (λ (w : List (Item Op)). length w) r.3 in
          let short = own_short p.tx (past ++ s ∷ []) in
          omega (arith, own, short, grown)
      | inr behind ↦ let rest = short_within (past ++ s ∷ []) ss p behind in omega (arith, rest, grown)
    ]

-- An attempt has at most as many operations as the run has steps.
pub peak_short : {Op : Type 0} (ss : List (Step Op)) (p : Peak Op) → In p (peaks ss) → length p.ops ≤ length ss
peak_short ss p n = let short = short_within [] ss p n in omega (arith, short)

-- The peak right after an APP step is among the peaks, if the transaction does not go on.
stands : {Op : Type 0} (t : Name) (id : ℕ) (op : Op) (before xs rest : List (Step Op)) → goes_on t rest ≡ false
    → (front : List (Peak Op)) × (peaks_behind before (xs ++ App t id op ∷ rest)
    ≡ front ++ peak_behind t ((before ++ xs) ++ App t id op ∷ []) ∷ peaks_behind ((before ++ xs) ++ App t id op ∷ []) rest)
stands {Op} t id op before [] rest top =
    let past = before ++ App t id op ∷ [] in (
      [],
      ap (λ (b : Bool). cond b (peaks_behind past rest) (peak_behind t past ∷ peaks_behind past rest)) top
          ∙ ap (λ (w : List (Step Op)). peak_behind t (w ++ App t id op ∷ []) ∷ peaks_behind (w ++ App t id op ∷ []) rest) (sym (append-nil before)),
    )
stands {Op} t id op before (s ∷ xs) rest top =
    let r = stands t id op (before ++ s ∷ []) xs rest top in
    let here = peak_at (is_top s (xs ++ App t id op ∷ rest)) s (λ u. own_of u (before ++ s ∷ [])) in
    let past = ((before ++ s ∷ []) ++ xs) ++ App t id op ∷ [] in (
      here ++ r.0,
      peaks_step before s (xs ++ App t id op ∷ rest)
          ∙ ap (λ (w : List (Peak Op)). here ++ w) r.1
          ∙ sym (append_assoc here r.0 (peak_behind t past ∷ peaks_behind past rest))
          ∙ ap (λ (w : List (Step Op)). (here ++ r.0) ++ peak_behind t (w ++ App t id op ∷ []) ∷ peaks_behind (w ++ App t id op ∷ []) rest) (append_assoc before (s ∷ []) xs),
    )

-- the serial run of attempts
same_serial : {Op : Type 0} (l : List (Attempt Op)) → serial_items (map committed_tx l) ≡ joined (map (λ (a : Attempt Op). a.items) l)
same_serial [] = refl
same_serial {Op} (a ∷ l) = ap (λ (w : List (Item Op)). a.items ++ w) (same_serial l)

front_of : {A : Type 0} (xs ys : List A) → take (length xs) (xs ++ ys) ≡ xs
front_of [] ys = refl
front_of {A} (x ∷ xs) ys = ap (λ (w : List A). x ∷ w) (front_of xs ys)

-- the least number that explains is at most one that does
at_most : (m : ℕ) (P : ℕ → Type 0) (found : Option ℕ) (k : ℕ) → IsLeastBelow m P found → k < m → P k → (n : ℕ) × (found ≡ Some n) × (n ≤ k)
at_most m P None k h below p = absurd (h k below p)
at_most m P (Some n) k h below p = elim (apart n k) [ inl le ↦ (n, refl, le) | inr lt ↦ absurd (h.2 k lt p) ]
  where
    apart : (n k : ℕ) → (n ≤ k) ⊎ (k < n)
    apart zero k = inl (omega arith)
    apart (suc n) zero = inr (omega arith)
    apart (suc n) (suc k) = elim (apart n k) [ inl le ↦ inl (omega arith) | inr lt ↦ inr (omega arith) ]

-- There is only one least number below a bound with a property.
pub one_least : (m : ℕ) (P : ℕ → Type 0) (v w : Option ℕ) → IsLeastBelow m P v → IsLeastBelow m P w → v ≡ w
one_least m P None None h k = refl
one_least m P None (Some n) h k = absurd (h n k.0 k.1)
one_least m P (Some n) None h k = absurd (k n h.0 h.1)
one_least m P (Some n) (Some o) h k =
    let a = at_most m P (Some n) o h k.0 k.1 in
    let b = at_most m P (Some o) n k h.0 h.1 in
    ap (λ (i : ℕ). Some i) (let first : n ≤ o = lower n a.0 o a.1 a.2 in let second : o ≤ n = lower o b.0 n b.1 b.2 in omega (arith, first, second))
  where
    lower : (n i o : ℕ) → ◌≡◌ {A = Option ℕ} (Some n) (Some i) → i ≤ o → n ≤ o
    lower n i o e l = let same : n ≡ i = cc in omega (arith, same, l)

module _ {Op State : Type 0} (O : Object Op State) (h : Option (Start Op)) (met : StartMeets O h) (ss : List (Step Op)) (run : RunsFrom O (first h) ss) where
  -- an attempt of a transaction that applied something is not the start's
  attempt_is : (past rest : List (Step Op)) (t : Name) (id : ℕ) (op : Op) (a : Attempt Op) → ss ≡ past ++ App t id op ∷ rest → In a (attempts h ss) → a.name ≡ t → a ≡ attempt_of ss t
  attempt_is past rest t id op a there i n = elim (in_cases a (start_attempts h) (map (attempt_of ss) (commits ss)) i) [
    | inl j ↦
        let past_runs = front_runs O h met ss past rest (App t id op) run there in
        let s = sound_there O h met past past_runs in
        let e = there_holds (tx t (after h past).opened) _ (met_there O h met ss past rest (App t id op) run there) in
        let x = found_tx t (after h past).opened e.0 e.1 in
        let done : In (committed_tx a) (after h past).done = subst (λ (w : List (CommittedTx Op)). In (committed_tx a) w) (sym (traced_there O h met past past_runs).done)
        (in_map committed_tx a (attempts h past) (in_left a (start_attempts h) (map (attempt_of past) (commits past)) j)) in
        absurd (s.apart e.0 (committed_tx a) x.0 done (x.1 ∙ sym n))
    | inr j ↦
        let m = from_map (attempt_of ss) a (commits ss) j in
        m.2 ∙ ap (λ (w : Name). attempt_of ss w) (sym (ap (λ (w : Attempt Op). w.name) m.2) ∙ n)
  ]

  explained : (past rest : List (Step Op)) (t : Name) (id : ℕ) (op : Op) (earlier later : List (Attempt Op)) (a : Attempt Op) → IsKeptPeak ss past rest t id op
      → attempts h ss ≡ earlier ++ a ∷ later → a.name ≡ t
      → Explains O (map committed_tx (attempts h ss)) (own_of t (past ++ App t id op ∷ [])) (length earlier)
  explained past rest t id op earlier later a kept place n =
      let items = own_of t (past ++ App t id op ∷ []) in
      let early = map committed_tx earlier in
      let late = map committed_tx later in
      let D = map committed_tx (attempts h ss) in
      let is = attempt_is past rest t id op a kept.there (subst (λ (w : List (Attempt Op)). In a w) (sym place) (in_right a earlier (a ∷ later) (inl refl))) n in
      let own : a.items ≡ items = ap (λ (w : Attempt Op). w.items) is ∙ ap (λ (w : List (Step Op)). own_of t w) (kept.there ∙ sym (append_assoc past (App t id op ∷ []) rest))
      ∙ own_idle t (past ++ App t id op ∷ []) rest (idle t rest kept.top kept.kept) kept.kept in
      let cut : D ≡ early ++ committed_tx a ∷ late = ap (λ (w : List (Attempt Op)). map committed_tx w) place ∙ map-append committed_tx earlier (a ∷ later) in
      let front : take (length earlier) D ≡ early = ap (λ (w : List (CommittedTx Op)). take (length earlier) w) cut
      ∙ ap (λ (k : ℕ). take k (early ++ committed_tx a ∷ late)) (sym (length-map earlier committed_tx)) ∙ front_of early (committed_tx a ∷ late) in
      let whole : Allowed O (serial_ops D) = subst (λ (w : List (Item Op)). Allowed O (ops w)) (sym (same_serial (attempts h ss))) (serial_allowed O h ss met run) in
      let split : serial_ops D ≡ (serial_ops early ++ ops a.items) ++ serial_ops late =
      ap (λ (w : List (CommittedTx Op)). serial_ops w) cut ∙ serial-append early (committed_tx a ∷ late)
      ∙ ap (λ (w : List Op). serial_ops early ++ w) (map-append (λ (p : Item Op). p.op) a.items (serial_items late))
      ∙ sym (append_assoc (serial_ops early) (ops a.items) (serial_ops late)) in
      let allowed : Allowed O (serial_ops early ++ ops a.items) = allowed_front O O.start (serial_ops early ++ ops a.items) (serial_ops late) (subst (λ (w : List Op). Allowed O w) split whole) in
      subst (λ (w : List (CommittedTx Op)). Allowed O (serial_ops w ++ ops items)) (sym front)
      (subst (λ (w : List (Item Op)). Allowed O (serial_ops early ++ ops w)) own allowed)

  -- An attempt after which a committed transaction undid nothing is its last, and has a view.
  pub kept_peak : SeesKeptPeaks O h ss
  kept_peak past rest t id op earlier later a kept place n = (
    (let r = stands t id op [] past rest kept.top in
        record {
          before = r.0;
          behind = peaks_behind (past ++ App t id op ∷ []) rest;
          there = ap (λ (w : List (Step Op)). peaks w) kept.there ∙ r.1;
          last = no_peaks t (past ++ App t id op ∷ []) rest (idle t rest kept.top kept.kept);
        }),
    λ found least.
        let long = ap (λ (w : List (Attempt Op)). length w) place ∙ length-append earlier (a ∷ later) in
        at_most (length (attempts h ss) + 1) _ found (length earlier) least (omega (arith, long)) (explained past rest t id op earlier later a kept place n),
  )
