-- Proof machinery: opacity, and one sequence of all transactions.
use Rattle.std.specs.Prelude.{◌≡◌, ◌≢◌, ◌⊎◌, ◌≤◌, ◌<◌, ◌+◌, ℕ, suc, List, [], ◌∷◌, ◌++◌, length, map, take, Option}
use Rattle.std.proofs.Common.{refl, sym, ap, subst, ◌∙◌, arith, append_assoc}
use Rattle.std.proofs.lemmas.List.{append-nil, length-append, length-map, map-append}
use mathlib.Core.Logic.{inl, inr}
use Rattle.pp_model.specs.Config.{Cmt, CommittedTx, Start, Step, Unapp, first}
use Rattle.pp_model.specs.Lists.{Before, In, joined}
use Rattle.pp_model.specs.Names.{Name}
use Rattle.pp_model.specs.Object.{Allowed, Item, Object, ops}
use Rattle.pp_model.specs.Rules.{RunsFrom, StartMeets}
use Rattle.pp_model.specs.Serial.{Attempt, attempt_of, attempts, commits, start_attempts, committed_tx, own_of, serial}
use Rattle.pp_model.proofs.Lists.{before_across, before_map, before_right, in_cases, in_left, in_map, in_order, in_right}
use Rattle.pp_model.proofs.Lists.{from_map, not_both, split_at}
use Rattle.pp_model.proofs.Serial.{allowed_front}
use Rattle.pp_model.proofs.Simulate.{serial_allowed}
use Rattle.pp_laws_opacity.specs.Opacity.{Began, IsPrefix, IsOpaque, IsOpen, SeesSome}
use Rattle.pp_laws_opacity.specs.Orders.{BeganWith, Committed, HasEnded, IsUncommitted, Execution, HasOpaqueOrders, IsOpaqueOrder, Uncommitted}
use Rattle.pp_laws_opacity.specs.Orders.{committed_in, items_of}
use Rattle.pp_laws_opacity.proofs.Apps.{fewer, runs}
use Rattle.pp_laws_opacity.proofs.Prefixes.{began_one, began_some, prefix_same, prefix_trans}
use Rattle.pp_laws_opacity.proofs.Inserting.{Place, base_split, built, built_apart, built_committed}
use Rattle.pp_laws_opacity.proofs.Inserting.{built_in, from_committed, in_built, part, split_cases, to_committed}
use Rattle.pp_laws_opacity.proofs.Inserting.{two_committed, two_parts}
use Rattle.pp_laws_opacity.proofs.Runs.{attempts_within, fewer_before, front, not_committed, sound_at, traced_at}
use Rattle.pp_laws_opacity.proofs.Unfinished.{Unfinished, are_unfinished, prefix_length, prefix_shorter, unfinished, unfinished_apart, unfinished_are}
use Rattle.pp_laws_opacity.proofs.Unfinished.{unfinished_sorted, unfinished_at}

-- The serial run of joined attempts is that of the first, then that of the second.
pub serial-append : {Op : Type 0} (xs ys : List (Attempt Op)) → serial (xs ++ ys) ≡ serial xs ++ serial ys
serial-append [] ys = refl
serial-append {Op} (a ∷ xs) ys =
    let items = λ (b : Attempt Op). b.items in
    let op = λ (p : Item Op). p.op in
    map-append op a.items (joined (map items (xs ++ ys)))
    ∙ ap (λ (w : List Op). ops a.items ++ w) (serial-append xs ys)
    ∙ sym (append_assoc (ops a.items) (serial xs) (serial ys))
    ∙ ap (λ (w : List Op). w ++ serial ys) (sym (map-append op a.items (joined (map items xs))))

front_of : {A : Type 0} (xs ys : List A) → take (length xs) (xs ++ ys) ≡ xs
front_of [] ys = refl
front_of {A} (x ∷ xs) ys = ap (λ (w : List A). x ∷ w) (front_of xs ys)

committed-append : {Op : Type 0} (l k : List (Execution Op)) → committed_in (l ++ k) ≡ committed_in l ++ committed_in k
committed-append [] k = refl
committed-append {Op} (Committed a ∷ l) k = ap (λ (w : List (Attempt Op)). a ∷ w) (committed-append l k)
committed-append (Uncommitted t s ∷ l) k = committed-append l k

in_committed : {Op : Type 0} (a : Attempt Op) (l : List (Execution Op)) → In a (committed_in l) → In (Committed a) l
in_committed a [] i = absurd i
in_committed {Op} a (Committed b ∷ l) (inl e) = inl (ap (λ (w : Attempt Op). Committed w) e)
in_committed a (Committed b ∷ l) (inr i) = inr (in_committed a l i)
in_committed a (Uncommitted t s ∷ l) i = inr (in_committed a l i)

-- a prefix of a list is no longer than what comes before an element, or it has the element
first_parts : {A : Type 0} (E more cb cr : List A) (a : A) → E ++ more ≡ cb ++ a ∷ cr → (length E ≤ length cb) ⊎ In a E
first_parts [] more cb cr a e = inl (omega arith)
first_parts (x ∷ E) more [] cr a e = inr (inl (let k : a ≡ x = cc in k))
first_parts (x ∷ E) more (y ∷ cb) cr a e =
    let k : E ++ more ≡ cb ++ a ∷ cr = cc in
    elim (first_parts E more cb cr a k) [ inl l ↦ inl (omega (arith, l)) | inr i ↦ inr (inr i) ]

-- A run has as many attempts as commits, and that of the start, if there is one.
pub counted : {Op : Type 0} (h : Option (Start Op)) (past : List (Step Op)) → length (attempts h past) ≡ length (start_attempts h) + length (commits past)
counted {Op} h past =
    let all : length (attempts h past) ≡ length (start_attempts h) + length (map (attempt_of past) (commits past)) = length-append (start_attempts h) (map (attempt_of past) (commits past)) in
    let later : length (map (attempt_of past) (commits past)) ≡ length (commits past) = length-map (commits past) (attempt_of past) in
    omega (arith, all, later)

abbrev unfinished_of : {Op : Type 0} → Place Op → Unfinished Op
unfinished_of d = unfinished_at d.tx d.seen

module _ {Op State : Type 0} (O : Object Op State) where
  -- Each element of the order that is built returns its recorded results.
  built_legal : (A : List (Attempt Op)) → Allowed O (serial A) → (N : List (Place Op))
      → ((c : Place Op) → In c N → Allowed O (serial (take c.n A) ++ ops (own_of c.tx c.seen)))
      → (before rest : List (Execution Op)) (p : Execution Op) → built A N ≡ before ++ p ∷ rest
      → Allowed O (serial (committed_in before) ++ ops (items_of p))
  built_legal A all [] each before rest p e =
      let r = base_split A before rest p e in
      let a : Attempt Op = r.0 in
      let cb = committed_in before in
      let whole : serial A ≡ (serial cb ++ ops a.items) ++ serial r.1 =
      ap (λ (w : List (Attempt Op)). serial w) r.3
      ∙ serial-append cb (a ∷ r.1)
      ∙ ap (λ (w : List Op). serial cb ++ w) (map-append (λ (p : Item Op). p.op) a.items (joined (map (λ (b : Attempt Op). b.items) r.1)))
      ∙ sym (append_assoc (serial cb) (ops a.items) (serial r.1)) in
      subst (λ (w : Execution Op). Allowed O (serial cb ++ ops (items_of w))) (sym r.2)
      (allowed_front O O.start (serial cb ++ ops a.items) (serial r.1) (subst (λ (w : List Op). Allowed O w) whole all))
  built_legal A all (c ∷ N) each before rest p e = elim (split_cases c.tx c.seen c.n (built A N) before rest p e) [
    | inl r ↦
        let is : committed_in before ≡ take c.n A = r.1 ∙ ap (λ (w : List (Attempt Op)). take c.n w) (built_committed A N) in
        subst (λ (w : Execution Op). Allowed O (serial (committed_in before) ++ ops (items_of w))) (sym r.0)
        (subst (λ (w : List (Attempt Op)). Allowed O (serial w ++ ops (own_of c.tx c.seen))) (sym is) (each c (inl refl)))
    | inr r ↦
        subst (λ (w : List (Attempt Op)). Allowed O (serial w ++ ops (items_of p))) r.3
        (built_legal A all N (λ d i. each d (inr i)) r.0 r.1 p r.2)
  ]

  module _ (h : Option (Start Op)) (met : StartMeets O h) where
    -- The first n attempts of a run have the same serial run as in a prefix with n of them.
    pub seen_in_whole : (past ss : List (Step Op)) (t : Name) (n : ℕ) → RunsFrom O (first h) ss → IsPrefix past ss → n ≤ length (attempts h past)
        → serial (take n (attempts h ss)) ≡ serial (take n (attempts h past))
    seen_in_whole past ss t n run b l =
        let m = attempts_within O h met past ss run b in
        ap (λ (w : List (Attempt Op)). serial w) (fewer n (attempts h ss) (attempts h past) m.0 m.1 l)

    -- the places of attempts that see something
    abbrev placed : (l : List (Unfinished Op)) → ((p : Unfinished Op) → In p l → SeesSome O h p.seen p.tx) → List (Place Op)
    placed [] f = []
    placed (p ∷ l) f = record { n = (f p (inl refl)).n; tx = p.tx; seen = p.seen } ∷ placed l (λ q i. f q (inr i))

    placed_unfinished : (l : List (Unfinished Op)) (f : (p : Unfinished Op) → In p l → SeesSome O h p.seen p.tx) → map unfinished_of (placed l f) ≡ l
    placed_unfinished [] f = refl
    placed_unfinished (p ∷ l) f = ap (λ (w : List (Unfinished Op)). p ∷ w) (placed_unfinished l (λ q i. f q (inr i)))

    placed_see : (l : List (Unfinished Op)) (f : (p : Unfinished Op) → In p l → SeesSome O h p.seen p.tx) (d : Place Op) → In d (placed l f) → (s : SeesSome O h d.seen d.tx) × (d.n ≡ s.n)
    placed_see [] f d i = absurd i
    placed_see (p ∷ l) f d (inl e) = subst (λ (w : Place Op). (s : SeesSome O h w.seen w.tx) × (w.n ≡ s.n)) (sym e) (f p (inl refl), refl)
    placed_see (p ∷ l) f d (inr i) = placed_see l (λ q i. f q (inr i)) d i

    -- an opaque run: the sequence of a prefix
    module _ (past : List (Step Op)) (run : RunsFrom O (first h) past) (all : (p : Unfinished Op) → In p (unfinished O h met past run) → SeesSome O h p.seen p.tx) where
      abbrev A : List (Attempt Op)
      A = attempts h past

      abbrev T : List (Unfinished Op)
      T = unfinished O h met past run

      abbrev N : List (Place Op)
      N = placed T all

      within : (d : Place Op) → In d N → IsUncommitted h past d.tx d.seen
      within d i = unfinished_are O h met past run (unfinished_of d) (subst (λ (w : List (Unfinished Op)). In (unfinished_of d) w) (placed_unfinished T all) (in_map unfinished_of d N i))

      begins : (t : Name) (seen : List (Step Op)) → IsUncommitted h past t seen → IsPrefix seen past
      begins t seen k = elim k.2 [
        | inl e ↦ subst (λ (w : List (Step Op)). IsPrefix w past) (sym e) (prefix_same past)
        | inr u ↦ prefix_trans seen (seen ++ Unapp t u.0 ∷ []) past (Unapp t u.0 ∷ [], refl) u.1
      ]

      run_at : (seen : List (Step Op)) → IsPrefix seen past → RunsFrom O (first h) seen
      run_at seen b = front O h met seen b.0 (subst (λ (w : List (Step Op)). RunsFrom O (first h) w) b.1 run)

      most : (d : Place Op) → In d N → d.n ≤ length A
      most d i =
          let s = placed_see T all d i in
          let l = (s.0).most in
          let k = fewer_before O h met d.seen past run (begins d.tx d.seen (within d i)) in
          let e : d.n ≡ (s.0).n = s.1 in
          omega (arith, l, k, e)

      legal : (d : Place Op) → In d N → Allowed O (serial (take d.n A) ++ ops (own_of d.tx d.seen))
      legal d i =
          let s = placed_see T all d i in
          let m = attempts_within O h met d.seen past run (begins d.tx d.seen (within d i)) in
          let same : take (s.0).n A ≡ take (s.0).n (attempts h d.seen) = fewer (s.0).n A (attempts h d.seen) m.0 m.1 (s.0).most in
          subst (λ (w : ℕ). Allowed O (serial (take w A) ++ ops (own_of d.tx d.seen))) (sym s.1)
          (subst (λ (w : List (Attempt Op)). Allowed O (serial w ++ ops (own_of d.tx d.seen))) (sym same) (s.0).sees)

      names_apart : (a b : Attempt Op) → Before a b A → a.name ≢ b.name
      names_apart a b i = (sound_at O h met past run).done_names (committed_tx a) (committed_tx b)
          (subst (λ (w : List (CommittedTx Op)). Before (committed_tx a) (committed_tx b) w) (sym (traced_at O h met past run).done) (before_map committed_tx a b A i))

      places_apart : (c d : Place Op) → Before c d N → part c ≢ part d
      places_apart c d b e =
          unfinished_apart O h met past run (unfinished_of c) (unfinished_of d) (subst (λ (w : List (Unfinished Op)). Before (unfinished_of c) (unfinished_of d) w) (placed_unfinished T all) (before_map unfinished_of c d N b))
          (one c d e)
        where
          one : (c d : Place Op) → part c ≡ part d → unfinished_of c ≡ unfinished_of d
          one c d e = let n : c.tx ≡ d.tx = cc in let s : c.seen ≡ d.seen = cc in ap (λ (w : Name). unfinished_at w c.seen) n ∙ ap (λ (w : List (Step Op)). unfinished_at d.tx w) s

      -- one of them had ended when the other began
      in_time : (c d : Place Op) → In c N → In d N → length c.seen < length d.seen → Before c d N
      in_time c d i j l = elim (in_order c d N i j) [
        | inl e ↦ absurd (let same : length c.seen ≡ length d.seen = ap (λ (w : Place Op). length w.seen) e in omega (arith, l, same))
        | inr (inl b) ↦ b
        | inr (inr b) ↦ absurd (let k = unfinished_sorted O h met past run (unfinished_of d) (unfinished_of c) (subst (λ (w : List (Unfinished Op)). Before (unfinished_of d) (unfinished_of c) w) (placed_unfinished T all) (before_map unfinished_of d c N b)) in omega (arith, l, k))
      ]

      -- a commit comes after those before it
      commits_after : (b : Attempt Op) (seen : List (Step Op)) → In b A → IsPrefix (seen ++ Cmt b.name ∷ []) past
          → (m1 m2 : List (Attempt Op)) × (A ≡ (attempts h seen ++ m1) ++ b ∷ m2)
      commits_after b seen i k =
          let r = run_at (seen ++ Cmt b.name ∷ []) k in
          let m = attempts_within O h met seen past run (prefix_trans seen (seen ++ Cmt b.name ∷ []) past (Cmt b.name ∷ [], refl) k) in
          elim (in_cases b (attempts h seen) m.0 (subst (λ (w : List (Attempt Op)). In b w) m.1 i)) [
            | inl j ↦ absurd (not_committed O h met seen (Cmt b.name) r b j refl)
            | inr j ↦
                let s = split_at b m.0 j in
                (s.0, s.1, m.1 ∙ ap (λ (w : List (Attempt Op)). attempts h seen ++ w) s.2 ∙ sym (append_assoc (attempts h seen) s.0 (b ∷ s.1)))
          ]

      -- the four cases of real time
      after_commit : (p : Execution Op) (b : Attempt Op) (early : List (Step Op)) → In p (built A N) → In b A → BeganWith (Committed b) early past → HasEnded h p early → Before p (Committed b) (built A N)
      after_commit p b early i j began ended =
          let seen : List (Step Op) = began.0 in
          let m = commits_after b seen j began.1 in
          let seen_in : IsPrefix seen past = prefix_trans seen (seen ++ Cmt b.name ∷ []) past (Cmt b.name ∷ [], refl) began.1 in
          let within_seen : IsPrefix early seen = (began.2).within in
          let runs_seen = run_at seen seen_in in
          elim (in_built A N p i) [
            | inl r ↦
                let a : Attempt Op = r.0 in
                let then : In a (attempts h early) = subst (λ (w : Execution Op). HasEnded h w early) r.2 ended in
                let e = attempts_within O h met early seen runs_seen within_seen in
                let here : In a (attempts h seen) = subst (λ (w : List (Attempt Op)). In a w) (sym e.1) (in_left a (attempts h early) e.0 then) in
                let pair : Before a b A = subst (λ (w : List (Attempt Op)). Before a b w) (sym m.2)
                (before_across a b (attempts h seen ++ m.0) (b ∷ m.1) (in_left a (attempts h seen) m.0 here) (inl refl)) in
                subst (λ (w : Execution Op). Before w (Committed b) (built A N)) (sym r.2) (two_committed A N a b pair)
            | inr r ↦
                let c : Place Op = r.0 in
                let u : (id : ℕ) × IsPrefix (c.seen ++ Unapp c.tx id ∷ []) early = subst (λ (w : Execution Op). HasEnded h w early) r.2 ended in
                let s = placed_see T all c r.1 in
                let l = (s.0).most in
                let given : IsPrefix c.seen seen = prefix_trans c.seen early seen (prefix_trans c.seen (c.seen ++ Unapp c.tx u.0 ∷ []) early (Unapp c.tx u.0 ∷ [], refl) u.1) within_seen in
                let k = fewer_before O h met c.seen seen runs_seen given in
                let e : c.n ≡ (s.0).n = s.1 in
                let count : length (attempts h seen ++ m.0) ≡ length (attempts h seen) + length m.0 = length-append (attempts h seen) m.0 in
                let place : c.n ≤ length (attempts h seen ++ m.0) = omega (arith, l, k, e, count) in
                subst (λ (w : Execution Op). Before w (Committed b) (built A N)) (sym r.2)
                (subst (λ (w : List (Attempt Op)). Before (part c) (Committed b) (built w N)) (sym m.2) (to_committed (attempts h seen ++ m.0) b m.1 N c r.1 place))
          ]

      after_try : (p : Execution Op) (d : Place Op) (early : List (Step Op)) → In p (built A N) → In d N → Began d.tx early d.seen → HasEnded h p early → Before p (part d) (built A N)
      after_try p d early i j began ended =
          let s = placed_see T all d j in
          let same : (s.0).early ≡ early = began_one d.tx d.seen (s.0).early early (s.0).began began in
          let least : length (attempts h early) ≤ (s.0).n = subst (λ (w : List (Step Op)). length (attempts h w) ≤ (s.0).n) same (s.0).least in
          let e : d.n ≡ (s.0).n = s.1 in
          let seen_in = begins d.tx d.seen (within d j) in
          let early_in : IsPrefix early past = prefix_trans early d.seen past began.within seen_in in
          elim (in_built A N p i) [
            | inl r ↦
                let a : Attempt Op = r.0 in
                let then : In a (attempts h early) = subst (λ (w : Execution Op). HasEnded h w early) r.2 ended in
                let cut = split_at a (attempts h early) then in
                let m = attempts_within O h met early past run early_in in
                let is : A ≡ cut.0 ++ a ∷ (cut.1 ++ m.0) = m.1 ∙ ap (λ (w : List (Attempt Op)). w ++ m.0) cut.2 ∙ append_assoc cut.0 (a ∷ cut.1) m.0 in
                let count : length (attempts h early) ≡ length cut.0 + suc (length cut.1) = ap (λ (w : List (Attempt Op)). length w) cut.2 ∙ length-append cut.0 (a ∷ cut.1) in
                let place : length cut.0 < d.n = omega (arith, least, e, count) in
                subst (λ (w : Execution Op). Before w (part d) (built A N)) (sym r.2)
                (subst (λ (w : List (Attempt Op)). Before (Committed a) (part d) (built w N)) (sym is) (from_committed cut.0 a (cut.1 ++ m.0) N d j place))
            | inr r ↦
                let c : Place Op = r.0 in
                let u : (id : ℕ) × IsPrefix (c.seen ++ Unapp c.tx id ∷ []) early = subst (λ (w : Execution Op). HasEnded h w early) r.2 ended in
                let q = placed_see T all c r.1 in
                let l = (q.0).most in
                let f : c.n ≡ (q.0).n = q.1 in
                let given : IsPrefix c.seen early = prefix_trans c.seen (c.seen ++ Unapp c.tx u.0 ∷ []) early (Unapp c.tx u.0 ∷ [], refl) u.1 in
                let k = fewer_before O h met c.seen early (run_at early early_in) given in
                let place : c.n ≤ d.n = omega (arith, l, k, least, e, f) in
                let shorter = prefix_shorter c.seen early (Unapp c.tx u.0) u.1 in
                let longer = prefix_length early d.seen began.within in
                let time = in_time c d r.1 j (omega (arith, shorter, longer)) in
                subst (λ (w : Execution Op). Before w (part d) (built A N)) (sym r.2) (two_parts A N most c d time place)
          ]

      -- An accepted run all of whose unfinished attempts see some commits has an opaque order.
      pub ordered_prefix : (order : List (Execution Op)) × IsOpaqueOrder O h past order
      ordered_prefix = (
        built A N,
        record {
          committed = built_committed A N;
          uncommitted = λ t seen. (
            (λ i. elim (in_built A N (Uncommitted t seen) i) [
              | inl r ↦ absurd (differ t seen r.0 r.2)
              | inr r ↦ subst (λ (w : Unfinished Op). IsUncommitted h past w.tx w.seen) (same t seen r.0 r.2) (within r.0 r.1)
            ]),
            (λ k.
                let i = are_unfinished O h met past run t seen k in
                let m = from_map unfinished_of (unfinished_at t seen) N (subst (λ (w : List (Unfinished Op)). In (unfinished_at t seen) w) (sym (placed_unfinished T all)) i) in
                subst (λ (w : Unfinished Op). In (Uncommitted w.tx w.seen) (built A N)) (sym m.2) (built_in A N m.0 m.1)),
          );
          once = built_apart A N (λ a b i e. names_apart a b i (ap (λ (w : Attempt Op). w.name) e)) places_apart;
          legal = built_legal A (serial_allowed O h past met run) N legal;
          real_time = λ p q early i j began ended. elim (in_built A N q j) [
            | inl r ↦ subst (λ (w : Execution Op). Before p w (built A N)) (sym r.2) (after_commit p r.0 early i r.1 (subst (λ (w : Execution Op). BeganWith w early past) r.2 began) ended)
            | inr r ↦ subst (λ (w : Execution Op). Before p w (built A N)) (sym r.2) (after_try p r.0 early i r.1 (subst (λ (w : Execution Op). BeganWith w early past) r.2 began) ended)
          ];
        },
      )
        where
          differ : (t : Name) (seen : List (Step Op)) (a : Attempt Op) → Uncommitted t seen ≡ Committed a → ⊥
          differ t seen a e = cc

          same : (t : Name) (seen : List (Step Op)) (d : Place Op) → Uncommitted t seen ≡ part d → unfinished_of d ≡ unfinished_at t seen
          same t seen d e = let n : d.tx ≡ t = cc in let s : d.seen ≡ seen = cc in ap (λ (w : Name). unfinished_at w d.seen) n ∙ ap (λ (w : List (Step Op)). unfinished_at t w) s

    -- An opaque order has an execution for each open attempt.
    pub seen_some : (past : List (Step Op)) → RunsFrom O (first h) past → (order : List (Execution Op)) → IsOpaqueOrder O h past order → (t : Name) → IsOpen h past t → own_of t past ≢ [] → SeesSome O h past t
    seen_some past run order s t open_there some =
        let p : Execution Op = Uncommitted t past in
        let there : In p order = (s.uncommitted t past).1 (open_there, some, inl refl) in
        let cut = split_at p order there in
        let cb = committed_in cut.0 in
        let cr = committed_in cut.1 in
        let A = attempts h past in
        let is : A ≡ cb ++ cr = sym s.committed ∙ ap (λ (w : List (Execution Op)). committed_in w) cut.2 ∙ committed-append cut.0 (p ∷ cut.1) in
        let b = began_some O h met t past run some in
        let m = attempts_within O h met b.0 past run (b.1).within in
        let E = attempts h b.0 in
        let count : length A ≡ length cb + length cr = ap (λ (w : List (Attempt Op)). length w) is ∙ length-append cb cr in
        let total : length A ≡ length E + length m.0 = ap (λ (w : List (Attempt Op)). length w) m.1 ∙ length-append E m.0 in
        let early : (a : Attempt Op) → In a E → In a cr → ⊥ = λ a i j.
        let ended = s.real_time (Committed a) p b.0
        (subst (λ (w : List (Execution Op)). In (Committed a) w) (sym cut.2) (in_right (Committed a) cut.0 (p ∷ cut.1) (inr (in_committed a cut.1 j))))
        there b.1 i in
        let other = subst (λ (w : List (Execution Op)). Before p (Committed a) w) (sym cut.2) (before_right p (Committed a) cut.0 (p ∷ cut.1) (inl (refl, in_committed a cut.1 j))) in
        not_both (λ (w : Execution Op). w) order (λ q r k e. s.once q r k e) p (Committed a) other ended in
        record {
          early = b.0;
          began = b.1;
          n = length cb;
          least = least E m.0 cb cr (sym m.1 ∙ is) early;
          most = omega (arith, count);
          sees = subst (λ (w : List (Attempt Op)). Allowed O (serial w ++ ops (own_of t past))) (sym (ap (λ (w : List (Attempt Op)). take (length cb) w) is ∙ front_of cb cr)) (s.legal cut.0 cut.1 p cut.2);
        }
      where
        least : (E more cb cr : List (Attempt Op)) → E ++ more ≡ cb ++ cr → ((a : Attempt Op) → In a E → In a cr → ⊥) → length E ≤ length cb
        least E more cb [] e f = let k : length E + length more ≡ length cb = sym (length-append E more) ∙ ap (λ (w : List (Attempt Op)). length w) (e ∙ append-nil cb) in omega (arith, k)
        least E more cb (a ∷ cr) e f = elim (first_parts E more cb cr a e) [ inl l ↦ l | inr i ↦ absurd (f a i (inl refl)) ]

  module _ (h : Option (Start Op)) (met : StartMeets O h) (ss : List (Step Op)) (run : RunsFrom O (first h) ss) where
    -- An opaque run has an opaque order after each prefix.
    pub ordered : IsOpaque O h ss → HasOpaqueOrders O h ss
    ordered opaque past b =
        let r = runs O h met ss run past b in
        ordered_prefix h met past r (λ p i.
        let k = unfinished_are O h met past r p i in
        opaque p.seen p.tx (prefix_trans p.seen past ss (begins_at p.tx p.seen past k.2) b) k.0 k.1)
      where
        begins_at : (t : Name) (seen past : List (Step Op)) → (seen ≡ past) ⊎ ((id : ℕ) × IsPrefix (seen ++ Unapp t id ∷ []) past) → IsPrefix seen past
        begins_at t seen past (inl e) = subst (λ (w : List (Step Op)). IsPrefix w past) (sym e) (prefix_same past)
        begins_at t seen past (inr u) = prefix_trans seen (seen ++ Unapp t u.0 ∷ []) past (Unapp t u.0 ∷ [], refl) u.1

    -- A run with an opaque order after each prefix is opaque.
    pub opaque : HasOpaqueOrders O h ss → IsOpaque O h ss
    opaque all past t b open_there some =
        let s = all past b in
        seen_some h met past (runs O h met ss run past b) s.0 s.1 t open_there some
