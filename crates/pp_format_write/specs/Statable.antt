-- Meaning: what a line can be written of, and what is read back from it.
use Rattle.std.specs.Prelude.{◌≡◌, ◌≤◌, ℕ, ℤ, pos, nat_lt, IsTrue, if◌then◌else◌, Option}
use Rattle.std.specs.Prelude.{Some, None, Bool, true, false, List, length, slice_get, count_by}
use Rattle.pp_core.specs.Catalogs.{Objects, AreFew, HasDistinctNames, HasNames}
use Rattle.pp_core.specs.Names.{IsName}
use Rattle.pp_core.specs.Steps.{Step, Begin, App, Unapp, Push, Unpush, Pull, Unpull, Cmt, Quit}
use Rattle.pp_core.specs.Steps.{Note}
use Rattle.pp_core.specs.Trees.{Tree, Trees, Skip, One, Seq, Alt, Star, NoPart, Part, IsWithin}
use Rattle.pp_core.specs.declared.body.Pattern.{Pattern}
use Rattle.pp_core.specs.declared.call.Kind.{Kind}
use Rattle.pp_core.specs.declared.entry.Item.{Item}
use Rattle.pp_core.specs.declared.limits.TheConstants.{MOST_START, MOST_STEPS}
use Rattle.pp_core.specs.declared.limits.TheConstants.{MOST_TRANSACTIONS}
use Rattle.pp_records.specs.Carried.{Carries, RecordCarries}
use Rattle.pp_records.specs.Records.{RunRecord}
use Rattle.pp_model.specs.Lists.{Each}
use Rattle.pp_objects.specs.Calls.{HasMethod, arity_of}
use Rattle.pp_objects.specs.Objects.{objects, kinds_of}
use Rattle.pp_objects.specs.declared.act.Op.{Op}
use Rattle.pp_format_read.specs.declared.start.Start.{Start}
use Rattle.pp_kind.specs.Found.{is_ranged_found}

-- The objects of a run: there are at most 256, and each has a name, which no other has.
pub record IsCatalog (catalog : Objects) : Type 0 where
  pub few : AreFew catalog
  pub distinct : HasDistinctNames catalog
  pub named : HasNames catalog

-- an operation on an object of the run, with numbers in the range of records
abbrev pub IsOpOn : Objects → Op → Type 0
IsOpOn catalog op = IsTrue (objects.fits (kinds_of catalog) op) × IsTrue (objects.ranged op)

-- each call of a body has a property
abbrev mutual
  -- each call of a body has a property
  pub EachCall : (Pattern → Type 0) → Tree → Type 0
  EachCall P Skip = Unit {0}
  EachCall P (One p) = P p
  EachCall P (Seq bs) = EachCallIn P bs
  EachCall P (Alt bs) = EachCallIn P bs
  EachCall P (Star b) = EachCall P b

  -- each call of some bodies has a property
  pub EachCallIn : (Pattern → Type 0) → Trees → Type 0
  EachCallIn P NoPart = Unit {0}
  EachCallIn P (Part b bs) = EachCall P b × EachCallIn P bs

-- the object is of this kind, which has the method
pub record IsCallOn (catalog : Objects) (p : Pattern) (kind : Kind) : Type 0 where
  pub there : slice_get (kinds_of catalog) p.object ≡ Some kind
  pub method : HasMethod kind p.method

-- the calls of a pattern are calls of its object's kind
abbrev pub IsKnown : Objects → Pattern → Type 0
IsKnown catalog p = (kind : Kind) × IsCallOn catalog p kind

-- an argument if it is used, and else 0
abbrev pub if_wanted : ℕ → ℕ → Option ℤ → Option ℤ
if_wanted i arity n = if nat_lt i arity then n else Some (pos 0)

-- An argument can be stated: it is any number or one in the range of records, and 0 if it is not
-- used.
pub record IsWanted (i arity : ℕ) (n : Option ℤ) : Type 0 where
  pub ranged : IsTrue (is_ranged_found n)
  pub used : if_wanted i arity n ≡ n

-- the pattern can be stated for objects of this kind
pub record IsPatternOn (catalog : Objects) (p : Pattern) (kind : Kind) : Type 0 where
  pub call : IsCallOn catalog p kind
  pub first : IsWanted 0 (arity_of kind p.method) p.first
  pub second : IsWanted 1 (arity_of kind p.method) p.second
  pub third : IsWanted 2 (arity_of kind p.method) p.third

-- the pattern can be stated for the objects of the run
abbrev pub IsStatablePattern : Objects → Pattern → Type 0
IsStatablePattern catalog p = (kind : Kind) × IsPatternOn catalog p kind

-- each choice in a body has a part
abbrev mutual
  -- each choice in a body has a part
  pub HasChoices : Tree → Type 0
  HasChoices Skip = Unit {0}
  HasChoices (One p) = Unit {0}
  HasChoices (Seq bs) = HaveChoices bs
  HasChoices (Alt NoPart) = ⊥
  HasChoices (Alt (Part b bs)) = HasChoices b × HaveChoices bs
  HasChoices (Star b) = HasChoices b

  -- each choice in some bodies has a part
  pub HaveChoices : Trees → Type 0
  HaveChoices NoPart = Unit {0}
  HaveChoices (Part b bs) = HasChoices b × HaveChoices bs

-- The body can be stated: each of its calls can, each of its choices has a part, and it is within
-- the limits.
pub record IsStatableBody (catalog : Objects) (b : Tree) : Type 0 where
  pub calls : EachCall (IsStatablePattern catalog) b
  pub choices : HasChoices b
  pub small : IsWithin b

-- a property of the body, if one was given
abbrev pub IfGiven : (Tree → Type 0) → Option Tree → Type 0
IfGiven P None = Unit {0}
IfGiven P (Some b) = P b

-- an id of a record
abbrev pub IsId : ℕ → Type 0
IsId id = id ≤ 999_999_999

-- the names of a step are names
abbrev pub IsNamed : Step Op → Type 0
IsNamed (Begin tx thread body) = IsName tx × IsName thread
IsNamed (App tx id op) = IsName tx
IsNamed (Unapp tx id) = IsName tx
IsNamed (Push tx id) = IsName tx
IsNamed (Unpush tx id) = IsName tx
IsNamed (Pull tx id) = IsName tx
IsNamed (Unpull tx id) = IsName tx
IsNamed (Cmt tx) = IsName tx
IsNamed (Quit tx) = IsName tx
IsNamed (Note tx) = IsName tx

-- The step can be written: its operation is one on an object of the run, and each call of its body
-- is one of its object's kind.
abbrev pub IsWritable : Objects → Step Op → Type 0
IsWritable catalog (Begin tx thread body) = IfGiven (EachCall (IsKnown catalog)) body
IsWritable catalog (App tx id op) = IsOpOn catalog op
IsWritable catalog (Unapp tx id) = Unit {0}
IsWritable catalog (Push tx id) = Unit {0}
IsWritable catalog (Unpush tx id) = Unit {0}
IsWritable catalog (Pull tx id) = Unit {0}
IsWritable catalog (Unpull tx id) = Unit {0}
IsWritable catalog (Cmt tx) = Unit {0}
IsWritable catalog (Quit tx) = Unit {0}
IsWritable catalog (Note tx) = Unit {0}

-- The step can be stated: its names are names, its id is an id of a record, its operation is one on
-- an object of the run, and its body can be stated.
abbrev pub IsStatable : Objects → Step Op → Type 0
IsStatable catalog step =
    Carries IsName IsId (IsOpOn catalog) (IfGiven (IsStatableBody catalog)) step

-- the same for a record, about its step or its operation
abbrev pub IsStatableRecord : Objects → RunRecord Op → Type 0
IsStatableRecord catalog r =
    RecordCarries IsName IsId (IsOpOn catalog) (IfGiven (IsStatableBody catalog)) r

-- the operations of a start can be written: each is one on an object of the run
abbrev pub AreWritable : Objects → List (Item Op) → Type 0
AreWritable catalog ops = Each (λ p. IsOpOn catalog p.op) ops

-- the same of the operations of a start, if there is one
abbrev pub IsWritableStart : Objects → Option Start → Type 0
IsWritableStart catalog None = Unit {0}
IsWritableStart catalog (Some start) = AreWritable catalog start.ops

-- The start can be stated: its transaction has a name, it has at most 256 operations, and each has
-- an id of a record and is one on an object of the run.
pub record IsStatableStart (catalog : Objects) (start : Start) : Type 0 where
  pub named : IsName start.tx
  pub few : length start.ops ≤ MOST_START
  pub each : Each (λ p. IsId p.id × IsOpOn catalog p.op) start.ops

-- the same, if there is a start
abbrev pub CanStart : Objects → Option Start → Type 0
CanStart catalog None = Unit {0}
CanStart catalog (Some start) = IsStatableStart catalog start

-- the step is a begin
abbrev pub is_begin : Step Op → Bool
is_begin (Begin tx thread body) = true
is_begin (App tx id op) = false
is_begin (Unapp tx id) = false
is_begin (Push tx id) = false
is_begin (Unpush tx id) = false
is_begin (Pull tx id) = false
is_begin (Unpull tx id) = false
is_begin (Cmt tx) = false
is_begin (Quit tx) = false
is_begin (Note tx) = false

-- The run can be stated: its objects, its start and each of its steps can, and it has at most
-- 200,000 steps, of which at most 20,000 are begins.
pub record IsStatableRun (catalog : Objects) (start : Option Start) (steps : List (Step Op)) :
    Type 0 where
  pub over : IsCatalog catalog
  pub begun : CanStart catalog start
  pub each : Each (IsStatable catalog) steps
  pub few : length steps ≤ MOST_STEPS
  pub begins : count_by is_begin steps ≤ MOST_TRANSACTIONS
