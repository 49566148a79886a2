-- Proof machinery: what is kept follows the steps of an accepted run.
use Rattle.std.specs.Prelude.{◌≡◌, ◌≢◌, ◌≤◌, ◌+◌, ◌-◌, ℕ, Bool, false, cond, not, IsTrue, List, [], ◌∷◌, ◌++◌}
use Rattle.std.specs.Prelude.{length, map, take, Option, None, Some}
use Rattle.std.proofs.Common.{refl, sym, ap, subst, ◌∙◌, arith, append_assoc}
use Rattle.std.proofs.lemmas.List.{append-nil, length-append, length-map, take-map}
use Rattle.std.proofs.lemmas.Option.{same_Some}
use mathlib.Core.Logic.{inl, inr}
use Rattle.pp_model.specs.Config.{Begin, App, Unapp}
use Rattle.pp_model.specs.Body.{Tree}
use Rattle.pp_model.specs.Config.{CommittedTx, Start, Step, first}
use Rattle.pp_model.specs.Lists.{Each, In, joined}
use Rattle.pp_model.specs.Names.{Name, ◌=ⁿ◌}
use Rattle.pp_model.specs.Object as model
use Rattle.pp_model.specs.Object.{Allowed, Item, ops}
use Rattle.pp_model.specs.Rules.{RunsFrom}
use Rattle.pp_model.specs.Serial.{Attempt, attempt_of, attempts, applied_items, commits, committed_tx, has_id, own_of, serial as serial_list, start_attempts, unapplied_ids}
use Rattle.pp_model.specs.Sound.{serial_items, serial_ops}
use Rattle.pp_model.proofs.Lists.{from_filter, in_left, not_empty}
use Rattle.pp_model.proofs.Names.{names_tell}
use Rattle.pp_model.proofs.Simulate.{serial_allowed}
use Rattle.pp_kind.specs.Object.{AllRanged, IsAllowed, Object, rules_of}
use Rattle.pp_attempts.specs.Lists.{own_after}
use Rattle.pp_attempts.specs.Views.{MayBeTried}
use Rattle.pp_attempts.proofs.Orders.{applied_there, own_grows, own_short}
use Rattle.pp_attempts.proofs.Runs.{orderly}
use Rattle.pp_laws_opacity.specs.Opacity.{Began, IsPrefix, MayStart, SeesSome, Starts}
use Rattle.pp_laws_opacity.proofs.Apps.{applied_open, runs}
use Rattle.pp_laws_opacity.proofs.Orders.{seen_in_whole}
use Rattle.pp_laws_opacity.proofs.Prefixes.{began_new, began_one, began_some, empty_or_not, last_end}
use Rattle.pp_laws_opacity.proofs.Questions.{began_before}
use Rattle.pp_laws_opacity.proofs.Runs.{attempts_step, fewer_before, front, meets_at, own_undone, traced_at}
use Rattle.pp_opacity.specs.Attempts.{Excluded, OpenAttempt, excluded_in, excludes_none, least_in, own_in}
use Rattle.pp_opacity.specs.Replays.{Follows, applied_in}
use Rattle.pp_opacity.specs.Results.{IsRun}
use Rattle.pp_opacity.specs.Trials.{AreExcluded, IsExplained, IsSerial}
use Rattle.pp_opacity.proofs.Windows.{excluded_longer, excluded_same, none_excluded}

-- a step that is no BEGIN or UNAPP of t begins no attempt of t
quiet_began : {Op : Type 0} (t : Name) (early past : List (Step Op)) (s : Step Op) → Began t early (past ++ s ∷ []) → (MayStart t s → ⊥) → Began t early past
quiet_began {Op} t early past s b n = began_before t early past s b (λ k. n (subst (λ (w : Step Op). MayStart t w) (same_Some k.0 s (sym k.1 ∙ last_end past s)) k.2))

same_items : {Op : Type 0} (l : List (Attempt Op)) → serial_items (map committed_tx l) ≡ joined (map (λ (a : Attempt Op). a.items) l)
same_items [] = refl
same_items {Op} (a ∷ l) = ap (λ (w : List (Item Op)). a.items ++ w) (same_items l)

-- The serial run of the first committed attempts is that of their transactions.
pub serial_of : {Op : Type 0} (n : ℕ) (l : List (Attempt Op)) → serial_ops (take n (map committed_tx l)) ≡ serial_list (take n l)
serial_of {Op} n l = ap (λ (w : List (CommittedTx Op)). serial_ops w) (take-map committed_tx n l) ∙ ap (λ (w : List (Item Op)). ops w) (same_items (take n l))

-- each item of an own list is in an APP of its transaction
owned_there : {Op : Type 0} (t : Name) (p : Item Op) (ss : List (Step Op)) → In p (own_of t ss) → In (App t p.id p.op) ss
owned_there t p ss i = applied_there t p ss (from_filter (λ p. not (has_id p.id (unapplied_ids t ss))) p (applied_items t ss) i).0

module _ {Shape State Op Undo : Type 0} (o : Object Shape State Op Undo) (shape : Shape) (h : Option (Start Op)) (ss : List (Step Op)) (committed : List (CommittedTx Op)) (r : IsRun o shape h ss committed) where
  serial_is : serial_ops committed ≡ serial_list (attempts h ss)
  serial_is = ap (λ (w : List (CommittedTx Op)). serial_ops w) r.done ∙ ap (λ (w : List (Item Op)). ops w) (same_items (attempts h ss))

  -- The committed transactions of a run may be run one after another.
  pub run_serial : IsSerial o shape committed
  run_serial = record {
    allowed = subst (λ (w : List Op). IsAllowed o shape w) (sym serial_is) (serial_allowed (rules_of o shape) h ss r.met r.run);
    ranged = r.ranged;
    few = let few = r.few in omega (arith, few);
  }

  -- There are as many committed transactions as attempts in the end.
  pub all_committed : length committed ≡ length (attempts h ss)
  all_committed = ap (λ (w : List (CommittedTx Op)). length w) r.done ∙ length-map (attempts h ss) committed_tx

  on_objects : (items : List (Item Op)) → ((p : Item Op) → In p items → IsTrue (o.fits shape p.op) × IsTrue (o.ranged p.op))
      → Each (λ op. IsTrue (o.fits shape op)) (ops items) × AllRanged o (ops items)
  on_objects [] all = (tt, tt)
  on_objects (x ∷ items) all =
      let here = all x (inl refl) in
      let rest = on_objects items (λ p i. all p (inr i)) in
      ((here.0, rest.0), (here.1, rest.1))

  -- An own list of the run may be tried.
  pub own_tried : (t : Name) (past : List (Step Op)) → IsPrefix past ss → MayBeTried o shape (length (serial_ops committed)) (own_of t past)
  own_tried t past b =
      let fine = on_objects (own_of t past) (λ p i. r.fine t p.id p.op
      (subst (λ (w : List (Step Op)). In (App t p.id p.op) w) (sym b.1) (in_left (App t p.id p.op) past b.0 (owned_there t p past i)))) in
      record {
        fit = fine.0;
        ranged = fine.1;
        few =
            let few = r.few in
            let all = ap (λ (w : List (Step Op)). length w) b.1 in
            omega (arith, few, all, length-append past b.0, own_short t past);
      }

module _ {Shape State Op Undo : Type 0} (o : Object Shape State Op Undo) (shape : Shape) (h : Option (Start Op)) (past rest : List (Step Op)) (s : Step Op)
    (committed : List (CommittedTx Op)) (r : IsRun o shape h (past ++ s ∷ rest) committed) where
  -- the steps so far are a prefix of the run
  pub now_within : IsPrefix (past ++ s ∷ []) (past ++ s ∷ rest)
  now_within = (rest, sym (append_assoc past (s ∷ []) rest))

  -- The steps so far are accepted.
  pub now_runs : RunsFrom (rules_of o shape) (first h) (past ++ s ∷ [])
  now_runs = runs (rules_of o shape) h r.met (past ++ s ∷ rest) r.run (past ++ s ∷ []) now_within

  -- So are those before them.
  pub past_runs : RunsFrom (rules_of o shape) (first h) past
  past_runs = front (rules_of o shape) h r.met past (s ∷ []) now_runs

  grows : (t : Name) → own_of t (past ++ s ∷ []) ≡ own_after t s (own_of t past)
  grows t = own_grows past rest s (orderly (rules_of o shape) h r.met (past ++ s ∷ rest) r.run) t

  -- A step adds as many attempts as it commits.
  pub count_step : length (attempts h (past ++ s ∷ [])) ≡ length (attempts h past) + length (commits (s ∷ []))
  count_step =
      let one = map (attempt_of (past ++ s ∷ [])) (commits (s ∷ [])) in
      ap (λ (w : List (Attempt Op)). length w) (attempts_step (rules_of o shape) h r.met past s now_runs)
      ∙ length-append (attempts h past) one ∙ ap (λ (n : ℕ). length (attempts h past) + n) (length-map (commits (s ∷ [])) (attempt_of (past ++ s ∷ [])))

  -- No more have committed so far than in the end.
  pub now_fewer : length (attempts h (past ++ s ∷ [])) ≤ length committed
  now_fewer =
      let all = all_committed o shape h (past ++ s ∷ rest) committed r in
      let fewer = fewer_before (rules_of o shape) h r.met (past ++ s ∷ []) (past ++ s ∷ rest) r.run now_within in
      omega (arith, all, fewer)

  -- what is kept follows one more step
  follows_next : (n m : ℕ) (kept more : List (Name × OpenAttempt Op)) → Follows o shape h past committed n kept → m ≡ n + length (commits (s ∷ []))
      → ((t : Name) → own_in t more ≡ own_after t s (own_in t kept))
      → ((t : Name) (early : List (Step Op)) → Began t early (past ++ s ∷ []) → least_in t more ≡ length (attempts h early))
      → ((t : Name) → AreExcluded (rules_of o shape) committed (own_in t more) (excluded_in t more))
      → Follows o shape h (past ++ s ∷ []) committed m more
  follows_next n m kept more f count own least excluded = record {
    count = count ∙ ap (λ (n : ℕ). n + length (commits (s ∷ []))) f.count ∙ sym count_step;
    own = λ t. own t ∙ ap (λ (w : List (Item Op)). own_after t s w) (f.own t) ∙ sym (grows t);
    least = least;
    excluded = excluded;
  }

  -- It follows a step that begins no attempt and changes no own list.
  pub follows_quiet : (n m : ℕ) (kept : List (Name × OpenAttempt Op)) → Follows o shape h past committed n kept
      → ((t : Name) → MayStart t s → ⊥) → ((t : Name) (l : List (Item Op)) → own_after t s l ≡ l)
      → m ≡ n + length (commits (s ∷ []))
      → Follows o shape h (past ++ s ∷ []) committed m kept
  follows_quiet n m kept f still same count =
      follows_next n m kept kept f count (λ t. sym (same t (own_in t kept)))
      (λ t early b. f.least t early (quiet_began t early past s b (still t))) f.excluded

  -- a transaction that begins an attempt now began it with all steps so far
  now_began : (t : Name) (early : List (Step Op)) → Began t early (past ++ s ∷ []) → Starts t (past ++ s ∷ []) → past ++ s ∷ [] ≡ early
  now_began t early b k = began_one t (past ++ s ∷ []) (past ++ s ∷ []) early (began_new t (past ++ s ∷ []) k) b

module _ {Shape State Op Undo : Type 0} (o : Object Shape State Op Undo) (shape : Shape) (h : Option (Start Op)) (past rest : List (Step Op))
    (committed : List (CommittedTx Op)) (n : ℕ) (kept more : List (Name × OpenAttempt Op)) (f : Follows o shape h past committed n kept) where
  -- the numbers that are excluded of t, after a step of u that excludes none of u
  excluded_anew : (u t : Name) → excluded_in t more ≡ cond (u =ⁿ t) excludes_none (excluded_in t kept) → ((u =ⁿ t) ≡ false → own_in t more ≡ own_in t kept)
      → AreExcluded (rules_of o shape) committed (own_in t more) (excluded_in t more)
  excluded_anew u t excluded others = elim (names_tell u t) [
    | inl e ↦
        let none = excluded ∙ ap (λ (z : Bool). cond z excludes_none (excluded_in t kept)) e.0 in
        subst (λ (w : Excluded). AreExcluded (rules_of o shape) committed (own_in t more) w) (sym none) (none_excluded (rules_of o shape) committed (own_in t more))
    | inr e ↦
        let same = excluded ∙ ap (λ (z : Bool). cond z excludes_none (excluded_in t kept)) e.0 in
        excluded_same (rules_of o shape) committed (own_in t kept) (own_in t more) (excluded_in t kept) (excluded_in t more) (others e.0) same (f.excluded t)
  ]

  -- What is kept follows a BEGIN.
  pub follows_begin : (u p : Name) (b : Option Tree) → IsRun o shape h (past ++ Begin u p b ∷ rest) committed
      → ((t : Name) → own_in t more ≡ cond (u =ⁿ t) [] (own_in t kept)) → ((t : Name) → least_in t more ≡ cond (u =ⁿ t) n (least_in t kept))
      → ((t : Name) → excluded_in t more ≡ cond (u =ⁿ t) excludes_none (excluded_in t kept))
      → Follows o shape h (past ++ Begin u p b ∷ []) committed n more
  follows_begin u p b r own least excluded =
      follows_next o shape h past rest s committed r n n kept more f (omega arith) own_next least_next
      (λ t. excluded_anew u t (excluded t) (λ n. own t ∙ ap (λ (z : Bool). cond z [] (own_in t kept)) n))
    where
      s : Step Op
      s = Begin u p b

      fresh : own_of u past ≡ []
      fresh = (traced_at (rules_of o shape) h r.met past (past_runs o shape h past rest s committed r)).fresh_list u
          (meets_at (rules_of o shape) h r.met past [] s (now_runs o shape h past rest s committed r)).0

      own_next : (t : Name) → own_in t more ≡ own_in t kept
      own_next t = elim (names_tell u t) [
        | inl e ↦ own t ∙ ap (λ (z : Bool). cond z [] (own_in t kept)) e.0 ∙ sym (f.own t ∙ ap (λ (w : Name). own_of w past) (sym e.1) ∙ fresh)
        | inr e ↦ own t ∙ ap (λ (z : Bool). cond z [] (own_in t kept)) e.0
      ]

      own_now : own_of u (past ++ s ∷ []) ≡ []
      own_now = grows o shape h past rest s committed r u ∙ fresh

      least_next : (t : Name) (early : List (Step Op)) → Began t early (past ++ s ∷ []) → least_in t more ≡ length (attempts h early)
      least_next t early began = elim (names_tell u t) [
        | inl e ↦
            let starts : Starts t (past ++ s ∷ []) = (s, last_end past s, e.1, ap (λ (w : Name). own_of w (past ++ s ∷ [])) (sym e.1) ∙ own_now) in
            let same = now_began o shape h past rest s committed r t early began starts in
            let step = count_step o shape h past rest s committed r in
            let count = f.count in
            let here : n ≡ length (attempts h (past ++ s ∷ [])) = omega (arith, step, count) in
            least t ∙ ap (λ (z : Bool). cond z n (least_in t kept)) e.0 ∙ here ∙ ap (λ (w : List (Step Op)). length (attempts h w)) same
        | inr e ↦ least t ∙ ap (λ (z : Bool). cond z n (least_in t kept)) e.0 ∙ f.least t early (quiet_began t early past s began (λ m. e.1 m))
      ]

  -- What is kept follows an APP.
  pub follows_app : (u : Name) (id : ℕ) (op : Op) → IsRun o shape h (past ++ App u id op ∷ rest) committed
      → ((t : Name) → own_in t more ≡ cond (u =ⁿ t) (own_in t kept ++ record { id = id; op = op } ∷ []) (own_in t kept)) → ((t : Name) → least_in t more ≡ least_in t kept)
      → ((t : Name) → excluded_in t more ≡ excluded_in t kept)
      → Follows o shape h (past ++ App u id op ∷ []) committed n more
  follows_app u id op r own least excluded =
      follows_next o shape h past rest (App u id op) committed r n n kept more f (omega arith) own
      (λ t early b. least t ∙ f.least t early (quiet_began t early past (App u id op) b (λ m. m))) excluded_more
    where
      item : Item Op
      item = record { id = id; op = op }

      excluded_more : (t : Name) → AreExcluded (rules_of o shape) committed (own_in t more) (excluded_in t more)
      excluded_more t = elim (names_tell u t) [
        | inl e ↦
            let grown = own t ∙ ap (λ (z : Bool). cond z (own_in t kept ++ item ∷ []) (own_in t kept)) e.0 in
            excluded_same (rules_of o shape) committed (own_in t kept ++ item ∷ []) (own_in t more) (excluded_in t kept) (excluded_in t more) grown (excluded t)
            (excluded_longer (rules_of o shape) committed (own_in t kept) (item ∷ []) (excluded_in t kept) (f.excluded t))
        | inr e ↦
            let same = own t ∙ ap (λ (z : Bool). cond z (own_in t kept ++ item ∷ []) (own_in t kept)) e.0 in
            excluded_same (rules_of o shape) committed (own_in t kept) (own_in t more) (excluded_in t kept) (excluded_in t more) same (excluded t) (f.excluded t)
      ]

  -- What is kept follows the same steps after a question about one transaction, which may exclude numbers.
  pub follows_asked : (u : Name)
      → ((t : Name) → own_in t more ≡ own_in t kept) → ((t : Name) → least_in t more ≡ least_in t kept)
      → ((t : Name) → (u =ⁿ t) ≡ false → excluded_in t more ≡ excluded_in t kept)
      → AreExcluded (rules_of o shape) committed (own_in u kept) (excluded_in u more)
      → Follows o shape h past committed n more
  follows_asked u own least others excluded = record {
    count = f.count;
    own = λ t. own t ∙ f.own t;
    least = λ t early b. least t ∙ f.least t early b;
    excluded = λ t. elim (names_tell u t) [
      | inl e ↦
          let same : own_in t more ≡ own_in u kept = own t ∙ ap (λ (w : Name). own_in w kept) (sym e.1) in
          excluded_same (rules_of o shape) committed (own_in u kept) (own_in t more) (excluded_in u more) (excluded_in t more) same (ap (λ (w : Name). excluded_in w more) (sym e.1)) excluded
      | inr e ↦ excluded_same (rules_of o shape) committed (own_in t kept) (own_in t more) (excluded_in t kept) (excluded_in t more) (own t) (others t e.0) (f.excluded t)
    ];
  }

  -- What is kept follows an UNAPP.
  pub follows_unapp : (u : Name) (id : ℕ) → IsRun o shape h (past ++ Unapp u id ∷ rest) committed
      → ((t : Name) → own_in t more ≡ cond (u =ⁿ t) (take (length (own_in t kept) - 1) (own_in t kept)) (own_in t kept))
      → ((t : Name) → (u =ⁿ t) ≡ false → least_in t more ≡ least_in t kept)
      → (own_in u more ≢ [] → least_in u more ≡ least_in u kept) → (own_in u kept ≢ [] → own_in u more ≡ [] → least_in u more ≡ n)
      → ((t : Name) → excluded_in t more ≡ cond (u =ⁿ t) excludes_none (excluded_in t kept))
      → Follows o shape h (past ++ Unapp u id ∷ []) committed n more
  follows_unapp u id r own others still begins excluded =
      follows_next o shape h past rest s committed r n n kept more f (omega arith) own least_next
      (λ t. excluded_anew u t (excluded t) (λ n. own t ∙ ap (λ (z : Bool). cond z (take (length (own_in t kept) - 1) (own_in t kept)) (own_in t kept)) n))
    where
      s : Step Op
      s = Unapp u id

      own_now : own_in u more ≡ own_of u (past ++ s ∷ [])
      own_now = own u ∙ ap (λ (w : List (Item Op)). own_after u s w) (f.own u) ∙ sym (grows o shape h past rest s committed r u)

      some : own_in u kept ≢ []
      some e =
          let p = own_undone (rules_of o shape) h r.met u past id (now_runs o shape h past rest s committed r) in
          not_empty (own_of u (past ++ s ∷ [])) [] p.0 (sym e ∙ f.own u ∙ p.1)

      least_here : (early : List (Step Op)) → Began u early (past ++ s ∷ []) → least_in u more ≡ length (attempts h early)
      least_here early began = elim (empty_or_not (own_of u (past ++ s ∷ []))) [
        | inl none ↦
            let starts : Starts u (past ++ s ∷ []) = (s, last_end past s, refl, none) in
            let same = now_began o shape h past rest s committed r u early began starts in
            let step = count_step o shape h past rest s committed r in
            let count = f.count in
            let here : n ≡ length (attempts h (past ++ s ∷ [])) = omega (arith, step, count) in
            begins some (own_now ∙ none) ∙ here ∙ ap (λ (w : List (Step Op)). length (attempts h w)) same
        | inr left ↦ still (λ e. left (sym own_now ∙ e)) ∙ f.least u early (began_before u early past s began (λ k. left k.3))
      ]

      least_next : (t : Name) (early : List (Step Op)) → Began t early (past ++ s ∷ []) → least_in t more ≡ length (attempts h early)
      least_next t early = elim (names_tell u t) [
        | inl e ↦ subst (λ (w : Name). Began w early (past ++ s ∷ []) → least_in w more ≡ length (attempts h early)) e.1 (least_here early)
        | inr e ↦ (λ began. others t e.0 ∙ f.least t early (quiet_began t early past s began (λ m. e.1 m)))
      ]

-- after an APP, what is asked of its transaction
module _ {Shape State Op Undo : Type 0} (o : Object Shape State Op Undo) (shape : Shape) (h : Option (Start Op)) (past rest : List (Step Op)) (u : Name) (id : ℕ) (op : Op)
    (committed : List (CommittedTx Op)) (n : ℕ) (kept : List (Name × OpenAttempt Op)) (r : IsRun o shape h (past ++ App u id op ∷ rest) committed)
    (f : Follows o shape h (past ++ App u id op ∷ []) committed n kept) where
  abbrev s : Step Op
  s = App u id op

  abbrev now : List (Step Op)
  now = past ++ s ∷ []

  abbrev O : model.Object Op State
  O = rules_of o shape

  runs_now : RunsFrom O (first h) now
  runs_now = now_runs o shape h past rest s committed r

  -- The attempt of the transaction of an APP began.
  pub began_after_app : (early : List (Step Op)) × Began u early now
  began_after_app = began_some O h r.met u now runs_now (applied_open O h r.met now runs_now past u id op runs_now).1

  -- The window of an attempt begins no later than now.
  pub low_within : least_in u kept ≤ n
  low_within =
      let low = f.least u began_after_app.0 began_after_app.1 in
      let fewer = fewer_before O h r.met began_after_app.0 now runs_now (began_after_app.1).within in
      let high = f.count in
      omega (arith, low, fewer, high)

  -- The own list may be tried.
  pub may_try : MayBeTried o shape (length (serial_ops committed)) (own_in u kept)
  may_try = subst (λ (w : List (Item Op)). MayBeTried o shape (length (serial_ops committed)) w) (sym (f.own u))
      (own_tried o shape h (past ++ s ∷ rest) committed r u now (now_within o shape h past rest s committed r))

  serial_now : (k : ℕ) → k ≤ length (attempts h now) → serial_ops (take k committed) ≡ serial_list (take k (attempts h now))
  serial_now k within =
      ap (λ (w : List (CommittedTx Op)). serial_ops (take k w)) r.done ∙ serial_of k (attempts h (past ++ s ∷ rest))
      ∙ seen_in_whole O h r.met now (past ++ s ∷ rest) u k r.run (now_within o shape h past rest s committed r) within

  -- What is explained by a number in the window is seen.
  pub explained_sees : IsExplained O committed (own_in u kept) (least_in u kept) n → SeesSome O h now u
  explained_sees e =
      let most : e.0 ≤ length (attempts h now) = subst (λ (n : ℕ). e.0 ≤ n) f.count e.2 in
      record {
        early = began_after_app.0;
        began = began_after_app.1;
        n = e.0;
        least = subst (λ (n : ℕ). n ≤ e.0) (f.least u began_after_app.0 began_after_app.1) e.1;
        most = most;
        sees = subst (λ (w : List Op). Allowed O (w ++ ops (own_of u now))) (serial_now e.0 most) (subst (λ (w : List (Item Op)). Allowed O (serial_ops (take e.0 committed) ++ ops w)) (f.own u) e.3);
      }

  -- What is seen is explained by a number in the window.
  pub sees_explained : SeesSome O h now u → IsExplained O committed (own_in u kept) (least_in u kept) n
  sees_explained k = (
    k.n,
    subst (λ (n : ℕ). n ≤ k.n) (sym (f.least u k.early k.began)) k.least,
    subst (λ (n : ℕ). k.n ≤ n) (sym f.count) k.most,
    subst (λ (w : List (Item Op)). Allowed O (serial_ops (take k.n committed) ++ ops w)) (sym (f.own u)) (subst (λ (w : List Op). Allowed O (w ++ ops (own_of u now))) (sym (serial_now k.n k.most)) k.sees),
  )

-- What is applied after the serial run may be tried.
pub applied_tried : {Shape State Op Undo : Type 0} (o : Object Shape State Op Undo) (shape : Shape) (h : Option (Start Op)) (past ss : List (Step Op)) (committed : List (CommittedTx Op)) → IsRun o shape h ss committed
    → IsPrefix past ss → (n : ℕ) (kept : List (Name × OpenAttempt Op)) → Follows o shape h past committed n kept → (applied : Option Name)
    → MayBeTried o shape (length (serial_ops committed)) (applied_in applied kept)
applied_tried o shape h past ss committed r within n kept f None = record { fit = tt; ranged = tt; few = let few = r.few in omega (arith, few) }
applied_tried {Shape} {State} {Op} o shape h past ss committed r within n kept f (Some t) =
    subst (λ (w : List (Item Op)). MayBeTried o shape (length (serial_ops committed)) w) (sym (f.own t)) (own_tried o shape h ss committed r t past within)

-- no attempt began before the first step
no_began : {Op : Type 0} (t : Name) (early : List (Step Op)) → Began t early [] → ⊥
no_began {Op} t early b = none early (b.within).0 (b.within).1 b.starts
  where
    none : (early rest : List (Step Op)) → [] ≡ early ++ rest → Starts t early → ⊥
    none [] rest e k = let z : ◌≡◌ {A = Option (Step Op)} None (Some k.0) = k.1 in cc
    none (s ∷ early) rest e k = cc

module _ {Shape State Op Undo : Type 0} (o : Object Shape State Op Undo) (shape : Shape) (h : Option (Start Op)) (ss : List (Step Op)) (committed : List (CommittedTx Op)) (r : IsRun o shape h ss committed) where
  -- What the start commits is no more than what has committed in the end.
  pub given_within : (given : ℕ) → given ≡ length (start_attempts h) → given ≤ length committed
  given_within given e =
      let all = all_committed o shape h ss committed r in
      omega (arith, e, all, length-append (start_attempts h) (map (attempt_of ss) (commits ss)))

  -- What is kept follows no step.
  pub follows_first : (given : ℕ) → given ≡ length (start_attempts h) → (n : ℕ) (kept : List (Name × OpenAttempt Op)) → n ≡ given → kept ≡ []
      → Follows o shape h [] committed n kept
  follows_first given e n kept count none = record {
    count = count ∙ e ∙ ap (λ (w : List (Attempt Op)). length w) (sym (append-nil (start_attempts h)));
    own = λ t. ap (λ (w : List (Name × OpenAttempt Op)). own_in t w) none;
    least = λ t early b. absurd (no_began t early b);
    excluded = λ t. subst (λ (w : List (Name × OpenAttempt Op)). AreExcluded (rules_of o shape) committed (own_in t w) (excluded_in t w)) (sym none) (none_excluded (rules_of o shape) committed []);
  }
