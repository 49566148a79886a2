-- Meaning: an accepted run, and what the search for its first zombie finds.
use Rattle.std.specs.Prelude.{◌≡◌, ◌<◌, ◌+◌, ℕ, IsTrue, List, length, map, Option, None, Some}
use Rattle.pp_model.specs.Config.{App, CommittedTx, Start, Step, first}
use Rattle.pp_model.specs.Lists.{In}
use Rattle.pp_model.specs.Names.{Name}
use Rattle.pp_model.specs.Object as model
use Rattle.pp_model.specs.Rules.{RunsFrom, StartMeets}
use Rattle.pp_model.specs.Serial.{attempts, committed_tx}
use Rattle.pp_model.specs.Sound.{serial_ops}
use Rattle.pp_kind.specs.Object.{AllRanged, Object, rules_of}
use Rattle.pp_laws_opacity.specs.Opacity.{IsOpaque}
use Rattle.pp_laws_opacity.specs.Zombies.{IsZombie, Zombie}
use Rattle.pp_opacity.specs.declared.zombie.Zombie.{Zombie as Found}

-- The steps are an accepted run over objects of this shape. These transactions are committed in the
-- end. The operations of each APP fit the objects, and all operations are ranged. The committed
-- operations and the steps are fewer than 1,000,000, as in each run within the limits of `certify`.
pub record IsRun {Shape State Op Undo : Type 0} (o : Object Shape State Op Undo) (shape : Shape)
    (h : Option (Start Op)) (ss : List (Step Op)) (committed : List (CommittedTx Op)) : Type 0 where
  pub met : StartMeets (rules_of o shape) h
  pub run : RunsFrom (rules_of o shape) (first h) ss
  pub done : committed ≡ map committed_tx (attempts h ss)
  pub ranged : AllRanged o (serial_ops committed)
  pub fine : (t : Name) (id : ℕ) (op : Op) → In (App t id op) ss
      → IsTrue (o.fits shape op) × IsTrue (o.ranged op)
  pub few : length (serial_ops committed) + length ss < 1_000_000

-- a zombie that was found
abbrev pub as_zombie : {Op : Type 0} → Found Op → Zombie Op
as_zombie z =
    record { step = z.step; tx = z.tx; least = z.least; most = z.most; items = z.items }

-- If nothing is found, the run is opaque. Otherwise the first zombie of the run is found.
abbrev pub IsFound : {Op State : Type 0} → model.Object Op State → Option (Start Op)
    → List (Step Op) → Option (Found Op) → Type 0
IsFound O h ss None = IsOpaque O h ss
IsFound O h ss (Some z) = IsZombie O h ss (as_zombie z)
