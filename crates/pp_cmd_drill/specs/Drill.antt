-- Meaning: the steps of the run of `drill N`, over a memory m, a counter c and a set s.
-- The transactions come in pairs, and the first of each pair reads and writes m.
use Rattle.std.specs.Prelude.{ℕ, zero, suc, ◌+◌, ◌*◌, ◌/◌, ◌%◌, pos, false, List, [], ◌∷◌, ◌++◌}
use Rattle.std.specs.Prelude.{codes, None}
use Rattle.std.specs.Fmt.{decimal}
use Rattle.pp_core.specs.Catalogs.{Objects}
use Rattle.pp_core.specs.declared.call.Kind.{Kind}
use Rattle.pp_core.specs.declared.call.Kind.TheVariants as kinds
use Rattle.pp_model.specs.Names.{Name}
use Rattle.pp_model.specs.Config.{Step, Begin, App, Push, Pull, Cmt}
use Rattle.pp_kind_memory.specs.declared.op.MemOp.TheVariants as mem
use Rattle.pp_kind_set.specs.declared.op.SetOp.TheVariants as set
use Rattle.pp_kind_counter.specs.declared.op.CounterOp.TheVariants as counts
use Rattle.pp_objects.specs.declared.act.Act.TheVariants.{Memory, KeySet, Counter}
use Rattle.pp_objects.specs.declared.act.Op.{Op}
use Rattle.pp_objects.specs.Objects.{act_at, kinds_of}

-- m:mem, c:counter, s:set
abbrev pub drill_catalog : Objects
drill_catalog =
    (codes "m", kinds.Memory)
    ∷ (codes "c", kinds.Counter)
    ∷ (codes "s", kinds.KeySet)
    ∷ []

abbrev pub drill_kinds : List Kind
drill_kinds = kinds_of drill_catalog

-- t1, t2, .. and p1, p2
abbrev pub name_of : ℕ → Name
name_of k = codes "t" ++ decimal k

abbrev pub first_thread : Name
first_thread = codes "p1"

abbrev pub second_thread : Name
second_thread = codes "p2"

-- the id of operation i of transaction k
abbrev pub id_of : ℕ → ℕ → ℕ
id_of k i = 10 * k + i

-- m.read(0)=v, m.write(0,v)=none, c.add(k mod 7)=none, s.contains(k)=false
abbrev pub read : ℕ → Op
read v = act_at 0 (Memory (mem.Read (pos 0) (pos v)))

abbrev pub write : ℕ → Op
write v = act_at 0 (Memory (mem.Write (pos 0) (pos v)))

abbrev pub add : ℕ → Op
add k = act_at 1 (Counter (counts.Add (pos (k % 7))))

abbrev pub ask : ℕ → Op
ask k = act_at 2 (KeySet (set.Contains (pos k) false))

-- operation i of transaction k
abbrev pub app : ℕ → ℕ → Op → Step Op
app k i op = App (name_of k) (id_of k i) op

abbrev pub push : ℕ → ℕ → Step Op
push k i = Push (name_of k) (id_of k i)

-- a pulls the write of the pair before its own
abbrev pub pulls : ℕ → ℕ → List (Step Op)
pulls zero a = []
pulls (suc q) a = Pull (name_of a) (id_of (2 * q + 1) 2) ∷ []

-- the operations of a, after p pairs, and those of b
abbrev pub first_apps : ℕ → ℕ → List (Step Op)
first_apps p a = app a 1 (read p) ∷ app a 2 (write (suc p)) ∷ app a 3 (add a) ∷ app a 4 (ask a) ∷ []

abbrev pub second_apps : ℕ → List (Step Op)
second_apps b = app b 1 (add b) ∷ app b 2 (ask b) ∷ []

-- how a pair ends: all are pushed, in turn, and b commits before a
abbrev pub endings : ℕ → ℕ → List (Step Op)
endings a b =
    push a 1 ∷ push b 1 ∷ push a 2 ∷ push b 2 ∷ push a 3 ∷ push a 4
    ∷ Cmt (name_of b) ∷ Cmt (name_of a) ∷ []

-- how a ends without a second
abbrev pub ending : ℕ → List (Step Op)
ending a = push a 1 ∷ push a 2 ∷ push a 3 ∷ push a 4 ∷ Cmt (name_of a) ∷ []

-- the pair of a and b, after p pairs
abbrev pub pair : ℕ → ℕ → ℕ → List (Step Op)
pair p a b =
    Begin (name_of a) first_thread None ∷ Begin (name_of b) second_thread None
    ∷ (pulls p a ++ (first_apps p a ++ (second_apps b ++ endings a b)))

-- a without a second, after p pairs
abbrev pub unpaired : ℕ → ℕ → List (Step Op)
unpaired p a = Begin (name_of a) first_thread None ∷ (pulls p a ++ (first_apps p a ++ ending a))

-- the first pairs, and a transaction that is left over after them
abbrev pub pairs : ℕ → List (Step Op)
pairs zero = []
pairs (suc p) = pairs p ++ pair p (2 * p + 1) (2 * p + 2)

abbrev pub left_over : ℕ → ℕ → List (Step Op)
left_over zero p = []
left_over (suc r) p = unpaired p (2 * p + 1)

abbrev pub drill_steps : ℕ → List (Step Op)
drill_steps n = pairs (n / 2) ++ left_over (n % 2) (n / 2)
