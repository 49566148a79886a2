-- Proof machinery: candidates, and operations that are tried from a state, and taken back.
use Rattle.std.specs.Prelude.{◌≡◌, ◌<◌, ◌≤◌, ◌+◌, ◌-◌, ℕ, suc, zero, IsTrue, List, [], ◌∷◌, length}
use Rattle.std.specs.Prelude.{map, take, drop, get_or, None, sum_by}
use Rattle.pp_model.specs.Config.{CommittedTx}
use Rattle.pp_model.specs.Lists.{Each, In}
use Rattle.pp_model.specs.Object.{Item, ops}
use Rattle.pp_model.specs.Sound.{serial_ops}
use Rattle.pp_kind.specs.Object.{Object, AllowedFrom, AllRanged, IsAllowed, IsLog, state_from}
pub use Rattle.pp_attempts.specs.declared.candidates.Candidate.{Candidate}
pub use Rattle.pp_attempts.specs.declared.candidates.Candidates.{Candidates}
pub use Rattle.pp_attempts.specs.declared.trial.AppliedOp.{AppliedOp}
use Rattle.pp_attempts.specs.Peaks.{Peak, operations}
use Rattle.pp_attempts.specs.Views.{MayBeTried, View}

-- It reports the peak's transaction and how many operations it has, and no number yet.
pub record IsUntried {Op : Type 0} (p : Peak Op) (v : View) : Type 0 where
  pub tx : v.tx ≡ p.tx
  pub ops : v.ops ≡ length p.ops
  pub after : v.after ≡ None

-- no position is twice among these
abbrev pub AreApart : List ℕ → Type 0
AreApart [] = Unit {0}
AreApart (i ∷ is) = (In i is → ⊥) × AreApart is

-- how many operations the peak at a position has
abbrev pub length_at : {Op : Type 0} → List (Peak Op) → ℕ → ℕ
length_at [] i = 0
length_at (p ∷ ps) zero = length p.ops
length_at (p ∷ ps) (suc i) = length_at ps i

-- the positions of the first n peaks, each once; `cost` counts the operations of these peaks
pub record ArePositions {Op : Type 0} (ps : List (Peak Op)) (n : ℕ) (is : List ℕ) : Type 0 where
  pub apart : AreApart is
  pub within : (i : ℕ) → In i is → i < n
  pub all : (i : ℕ) → i < n → In i is
  pub cost : sum_by (length_at ps) is ≡ operations (take n ps)

-- x is at this position
abbrev pub StandsAt : {A : Type 0} → List A → ℕ → A → Type 0
StandsAt xs i x = (i < length xs) × (x ≡ get_or xs i x)

-- the first n are the same
abbrev pub Share : {A : Type 0} → ℕ → List A → List A → Type 0
Share n xs ys = take n xs ≡ take n ys

-- Each candidate's peak shares what the candidate says with the peak of the one before it, the
-- first with `before`; and the last, or `before` if there is none, shares n with `after`.
abbrev pub AreAlikeTo : {Op : Type 0} → List (Peak Op) → List (Item Op) → List Candidate → ℕ
    → List (Item Op) → Type 0
AreAlikeTo ps before [] n behind = Share n before behind
AreAlikeTo {Op} ps before (c ∷ cs) n behind =
    (p : Peak Op) → StandsAt ps c.position p → Share c.shared before p.ops
    × AreAlikeTo ps p.ops cs n behind

-- there is no condition on the last one
abbrev pub AreAlike : {Op : Type 0} → List (Peak Op) → List (Item Op) → List Candidate → Type 0
AreAlike ps before cs = AreAlikeTo ps before cs 0 []

-- The operations of these items that the candidate does not share are at its positions among those
-- of the candidates.
pub record HasRest {Op : Type 0} (l : List Op) (c : Candidate) (items : List (Item Op)) : Type 0
  where
    pub shared : c.shared ≤ length items
    pub before : c.from ≤ c.to
    pub within : c.to ≤ length l
    pub rest : take (c.to - c.from) (drop c.from l) ≡ ops (drop c.shared items)

-- HasRest of each candidate and its peak.
abbrev pub HaveRests : {Op : Type 0} → List (Peak Op) → List Op → List Candidate → Type 0
HaveRests {Op} ps l cs =
    (c : Candidate) (p : Peak Op) → In c cs → StandsAt ps c.position p → HasRest l c p.ops

-- the positions of some candidates
abbrev pub positions_of : List Candidate → List ℕ
positions_of cs = map (λ c. c.position) cs

-- all peaks are candidates
pub record AreAllCandidates {Op : Type 0} (ps : List (Peak Op)) (candidates : Candidates Op)
    : Type 0 where
  pub positions : ArePositions ps (length ps) (positions_of candidates.list.items)
  pub alike : AreAlike ps [] candidates.list.items
  pub rests : HaveRests ps candidates.ops.items candidates.list.items

-- candidates of the peaks: all whose views have no number are among them, and others may be; `cost`
-- bounds their operations
pub record AreCandidates {Op : Type 0} (ps : List (Peak Op)) (views : List View)
    (candidates : Candidates Op) : Type 0 where
  pub apart : AreApart (positions_of candidates.list.items)
  pub within : (i : ℕ) → In i (positions_of candidates.list.items) → i < length ps
  pub all : (i : ℕ) (v : View) → StandsAt views i v → v.after ≡ None
      → In i (positions_of candidates.list.items)
  pub alike : AreAlike ps [] candidates.list.items
  pub rests : HaveRests ps candidates.ops.items candidates.list.items
  pub cost : sum_by (length_at ps) (positions_of candidates.list.items) ≤ operations ps

-- the view of no candidate has a number
abbrev pub HaveNoNumber : {Op : Type 0} → List View → Candidates Op → Type 0
HaveNoNumber views candidates =
    (i : ℕ) (v : View) → In i (positions_of candidates.list.items) → StandsAt views i v
    → v.after ≡ None

-- the operations that were applied
abbrev pub applied : {Op Undo : Type 0} → List (AppliedOp Op Undo) → List Op
applied done = map (λ d. d.op) done

module _ {Shape State Op Undo : Type 0} (o : Object Shape State Op Undo) where
  -- the undo values of these operations, one after another from the state s
  abbrev pub kept_from : State → List Op → List Undo
  kept_from s [] = []
  kept_from s (a ∷ x) = o.upkeep.kept s a ∷ kept_from (o.next s a) x

  -- The operations are allowed from the state s and lead to t, and these were kept.
  pub record IsTrail (s : State) (x : List Op) (undos : List Undo) (t : State) : Type 0 where
    pub allowed : AllowedFrom o s x
    pub kept : undos ≡ kept_from s x
    pub leads : t ≡ state_from o s x

  -- The applied operations led from the state s to t, and can be taken back.
  abbrev pub Stands : State → List (AppliedOp Op Undo) → State → Type 0
  Stands s done t = IsTrail s (applied done) (map (λ d. d.undo) done) t

  -- The applied operations are the beginning of the list, as far as it is allowed from the state s,
  -- and led to t.
  pub record IsFurthest (s : State) (l : List Op) (done : List (AppliedOp Op Undo))
      (t : State) : Type 0 where
    pub stands : Stands s done t
    pub within : length done ≤ length l
    pub front : applied done ≡ take (length done) l
    pub stops : length done < length l → AllowedFrom o s (take (length done + 1) l) → ⊥

  -- A log led to the state, and the operations may be tried from it: they are of its shape and
  -- ranged, and all together are fewer than a million.
  pub record MayFollow (s : State) (l : List Op) : Type 0 where
    pub before : List Op
    pub log : IsLog o s before
    pub fit : Each (λ op. IsTrue (o.fits (o.shape s) op)) l
    pub ranged : AllRanged o l
    pub few : length before + length l < 1_000_000

  -- The peaks may be tried from the state, and the candidates numbered.
  pub record MayBeNumbered (s : State) (ps : List (Peak Op)) (views : List View)
      (candidates : Candidates Op) : Type 0 where
    pub long : length views ≡ length ps
    pub are : AreCandidates ps views candidates
    pub reached : MayFollow s []
    pub may : (p : Peak Op) → In p ps → MayFollow s (ops p.ops)

  -- The first n committed transactions led to the state, from the empty one of this shape.
  pub record IsStateAt (shape : Shape) (committed : List (CommittedTx Op)) (n : ℕ)
      (s : State) : Type 0 where
    pub log : IsLog o s (serial_ops (take n committed))
    pub same : o.shape s ≡ shape

  -- The committed transactions may be gone through, and the peaks tried after each of them.
  pub record MayRun (shape : Shape) (committed : List (CommittedTx Op))
      (ps : List (Peak Op)) : Type 0 where
    pub allowed : IsAllowed o shape (serial_ops committed)
    pub ranged : AllRanged o (serial_ops committed)
    pub few : length (serial_ops committed) < 1_000_000
    pub may : (p : Peak Op) → In p ps
        → MayBeTried o shape (length (serial_ops committed)) p.ops
