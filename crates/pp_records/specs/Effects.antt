-- Meaning: what refresh, back and pushall do to a local log.
use Rattle.std.specs.Prelude.{◌≡◌, ◌≢◌, ℕ, Bool, true, not, ◌&&◌, List, ◌++◌, map, filter, take}
use Rattle.std.specs.Prelude.{Some}
use Rattle.pp_model.specs.Lists.{In}
use Rattle.pp_model.specs.Names.{Name}
use Rattle.pp_model.specs.Object.{Object}
use Rattle.pp_model.specs.Config.{Config, LocalEntry, Pulled, SharedEntry, Tx, Unpushed, after_from}
use Rattle.pp_model.specs.Config.{relog, tx}
use Rattle.pp_model.specs.Rules.{RunsFrom}
use Rattle.pp_model.specs.Sound.{Sound}
use Rattle.pp_records.specs.Expansions.{back, pulls, pushall, refresh, stands_in}

-- the entry of G, as it is pulled
abbrev pub as_pulled : {Op : Type 0} → SharedEntry Op → LocalEntry Op
as_pulled g = record { id = g.id; owner = g.owner; mark = Pulled; op = g.op }

-- the entries of G that are wanted and are not in L
abbrev pub missing : {Op : Type 0} → (SharedEntry Op → Bool) → List (SharedEntry Op) →
    List (LocalEntry Op) → List (SharedEntry Op)
missing wanted G l = filter (λ g. wanted g && not (stands_in l g.id)) G

-- back(t, n) leaves the first n entries of L: with n = 0, none.
abbrev pub BackLaw : {Op State : Type 0} → Object Op State → Type 0
BackLaw {Op} O =
    (c : Config Op) (t : Name) (n : ℕ) (x : Tx Op) → Sound O c → tx t c.opened ≡ Some x →
    tx t (after_from c (back t n x.local)).opened ≡ Some (relog (λ l. take n l) x)

-- Pulls that hold put the missing entries after L, in the order of G. So each wanted entry of G is
-- in L: after a refresh that holds, each committed entry of the object.
pub record PullsLaw {Op State : Type 0} (O : Object Op State) : Type 0 where
  pub log : (c : Config Op) (t : Name) (wanted : SharedEntry Op → Bool) (x : Tx Op) → Sound O c →
      tx t c.opened ≡ Some x → RunsFrom O c (pulls t wanted c.shared x.local) →
      tx t (after_from c (pulls t wanted c.shared x.local)).opened
      ≡ Some (relog (λ l. l ++ map as_pulled (missing wanted c.shared l)) x)
  pub stand :
      (wanted : SharedEntry Op → Bool) (G : List (SharedEntry Op)) (l : List (LocalEntry Op))
      (g : SharedEntry Op) → In g G → wanted g ≡ true →
      (e : LocalEntry Op) × In e (l ++ map as_pulled (missing wanted G l)) × (e.id ≡ g.id)
  pub refreshed : (c : Config Op) (t : Name) (place : Op → ℕ) (o : ℕ) (x : Tx Op) → Sound O c →
      tx t c.opened ≡ Some x →
      RunsFrom O c (refresh place t o c.shared x.local) →
      (y : Tx Op) × (tx t (after_from c (refresh place t o c.shared x.local)).opened ≡ Some y)
      × ((g : SharedEntry Op) → In g c.shared → g.committed ≡ true → place g.op ≡ o →
      (e : LocalEntry Op) × In e y.local × (e.id ≡ g.id))

-- After a pushall that holds no entry of L is unpushed.
abbrev pub PushallLaw : {Op State : Type 0} → Object Op State → Type 0
PushallLaw {Op} O = (c : Config Op) (t : Name) (x : Tx Op) → tx t c.opened ≡ Some x →
    RunsFrom O c (pushall t x.local) →
    (y : Tx Op) × (tx t (after_from c (pushall t x.local)).opened ≡ Some y)
    × ((e : LocalEntry Op) → In e y.local → e.mark ≢ Unpushed)
