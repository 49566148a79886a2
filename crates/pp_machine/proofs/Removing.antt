-- Taking an entry out of a log.
use Rattle.std.proofs.Common.{◌≡◌, ◌==◌, ◌+◌, ◌-◌, ◌≤◌, ℕ, zero, suc, Bool, true, false, cond, not}
use Rattle.std.proofs.Common.{List, [], ◌∷◌, ◌++◌, map, filter, length, Some, slice_get, refl, sym}
use Rattle.std.proofs.Common.{ap, subst, ◌∙◌, arith, inl, inr}
use Rattle.std.specs.List.{remove}
use Rattle.std.proofs.lemmas.Bool.{eqb-true, eq-eqb, false_from_ne_true}
use Rattle.std.proofs.lemmas.List.{map-append}
use Rattle.std.proofs.lemmas.Option.{same_Some}
use Rattle.pp_core.specs.declared.answer.Answer.{Answer}
use Rattle.pp_core.specs.declared.entry.Item.{Item}
use Rattle.pp_core.specs.declared.entry.LocalEntry.{LocalEntry}
use Rattle.pp_core.specs.declared.entry.SharedEntry.{SharedEntry}
use Rattle.pp_model.specs.Config.{but_last, item, local_ops, shared_ops, without_shared}
use Rattle.pp_model.specs.Lists.{Before, In}
use Rattle.pp_model.proofs.Lists.{from_filter, from_map, in_map}
use Rattle.pp_model.proofs.Logs.{but_last_is}
use Rattle.pp_model.proofs.Serial.{allowed_front}
use Rattle.pp_model.proofs.Finding.{stands_in}
use Rattle.pp_log.specs.declared.place.Removed.{Removed}
use Rattle.pp_log.specs.declared.place.Removed.TheVariants.{Done, Differs}
use Rattle.pp_log.specs.Logs.{DiffersFirst, RemovalBound, RemovesEntry, entry_ops, from_place}
use Rattle.pp_log.specs.Logs.{removal_ticks}
use Rattle.pp_kind.specs.Object.{Object, AllRanged, IsAllowed, rules_of}
use Rattle.pp_kind.proofs.Lists.{allowed-second}
use Rattle.pp_kind.proofs.Fitting.{in_ranged, ranged_in}
use Rattle.pp_machine.specs.Costs.{from_id}
use Rattle.pp_machine.specs.Transactions.{MayLeave}
use Rattle.pp_machine.proofs.Cuts.{last_at, removed_last}

module _ {Shape State Op Undo : Type 0} (o : Object Shape State Op Undo) where
  -- a list with an entry whose result differs is not allowed
  pub differs_not : {E : Type 0} (f : E → Item Op) (shape : Shape) (log : List E) (id : ℕ) (answer : Answer) → DiffersFirst o f shape log id answer → IsAllowed o shape (entry_ops f log) → ⊥
  differs_not {E} f shape log id answer d h =
      let is : entry_ops f log ≡ entry_ops f d.before ++ (f d.entry).op ∷ entry_ops f d.after = ap (entry_ops f) d.is ∙ map-append (λ (e : E). (f e).op) d.before (d.entry ∷ d.after) in
      let rest = allowed-second o (o.start shape) (entry_ops f d.before) ((f d.entry).op ∷ entry_ops f d.after) (subst (λ (z : List Op). IsAllowed o shape z) is h) in
      d.differs (sym d.gives ∙ rest.0.1)

  -- A ranged shared log is ranged without the entries of an id.
  pub ranged_posts : (id : ℕ) (l : List (SharedEntry Op)) → AllRanged o (shared_ops l) → AllRanged o (shared_ops (without_shared id l))
  ranged_posts id l r = in_ranged o (shared_ops (without_shared id l)) (λ a j.
      let k = from_map (λ (e : SharedEntry Op). e.op) a (without_shared id l) j in
      ranged_in o (shared_ops l) r a (subst (λ (z : Op). In z (shared_ops l)) (sym k.2) (in_map (λ (e : SharedEntry Op). e.op) k.0 l (from_filter (λ (g : SharedEntry Op). not (g.id == id)) k.0 l k.1).0)))

-- how many entries from one on have its place
passing : {X Y : Type 0} (f : X → Y) (t : Y → Bool) (xs : List X) → length (filter t (map f xs)) ≡ length (filter (λ x. t (f x)) xs)
passing f t [] = refl
passing {X} {Y} f t (x ∷ xs) = go (t (f x)) (passing f t xs)
  where
    go : (b : Bool) → length (filter t (map f xs)) ≡ length (filter (λ z. t (f z)) xs) → length (cond b (f x ∷ filter t (map f xs)) (filter t (map f xs))) ≡ length (cond b (x ∷ filter (λ z. t (f z)) xs) (filter (λ z. t (f z)) xs))
    go true e = omega (arith, e)
    go false e = e

module _ {Op E : Type 0} (f : E → Item Op) (place : Op → ℕ) (id : ℕ) where
  -- As many operations of its place are from an entry on as from its id on.
  pub from_place_is : (l : List E) → ((p q : E) → Before p q l → (f p).id ≡ (f q).id → ⊥) → (i : ℕ) (e : E) → slice_get l i ≡ Some e → (f e).id ≡ id → from_place place (entry_ops f l) i ≡ from_id place id (map f l)
  from_place_is [] d i e h k = absurd (cc)
  from_place_is (a ∷ l) d zero e h k =
      let same : (f a).id ≡ id = ap (λ (z : E). (f z).id) (same_Some a e h) ∙ k in
      passing (λ (z : E). (f z).op) (λ b. place b == place (f a).op) (a ∷ l)
      ∙ sym (passing f (λ q. place q.op == place (f a).op) (a ∷ l))
      ∙ sym (ap (λ (b : Bool). cond b (length (filter (λ q. place q.op == place (f a).op) (map f (a ∷ l)))) (from_id place id (map f l))) (eq-eqb (f a).id id same))
  from_place_is (a ∷ l) d (suc i) e h k =
      let other : ((f a).id == id) ≡ false = false_from_ne_true ((f a).id == id) (λ t. d a e (inl (refl, stands_in l i e h)) (eqb-true (f a).id id t ∙ sym k)) in
      from_place_is l (λ p q w. d p q (inr w)) i e h k
      ∙ sym (ap (λ (b : Bool). cond b (length (filter (λ q. place q.op == place (f a).op) (map f (a ∷ l)))) (from_id place id (map f l))) other)

some_pass : {X : Type 0} (t : X → Bool) (x : X) (xs : List X) → t x ≡ true → 1 ≤ length (filter t (x ∷ xs))
some_pass {X} t x xs e =
    let k : length (filter t (x ∷ xs)) ≡ length (x ∷ filter t xs) = ap (λ (b : Bool). length (cond b (x ∷ filter t xs) (filter t xs))) e in omega (arith, k)

-- At least one operation is counted from an id on.
pub from_id_some : {Op : Type 0} (place : Op → ℕ) (id : ℕ) (ps : List (Item Op)) → 1 ≤ from_id place id ps
from_id_some place id [] = omega arith
from_id_some {Op} place id (p ∷ ps) = go (p.id == id) (some_pass (λ (q : Item Op). place q.op == place p.op) p ps (eq-eqb (place p.op) (place p.op) refl)) (from_id_some place id ps)
  where
    go : (b : Bool) → 1 ≤ length (filter (λ (q : Item Op). place q.op == place p.op) (p ∷ ps)) → 1 ≤ from_id place id ps → 1 ≤ cond b (length (filter (λ (q : Item Op). place q.op == place p.op) (p ∷ ps))) (from_id place id ps)
    go true h k = h
    go false h k = k

-- the operation that is removed is of its place
from_place_some : {Op : Type 0} (place : Op → ℕ) (ops : List Op) (i : ℕ) → 1 ≤ from_place place ops i
from_place_some place [] i = omega arith
from_place_some {Op} place (a ∷ x) zero = some_pass (λ (b : Op). place b == place a) a x (eq-eqb (place a) (place a) refl)
from_place_some place (a ∷ x) (suc i) = from_place_some place x i

-- The ticks of a removal are at most the bound.
pub within_bound : {Op : Type 0} (place : Op → ℕ) (ops : List Op) (i : ℕ) (removed : Removed) (old new : ℕ) → removal_ticks removed (from_place place ops i) old new → RemovalBound place ops i old new
within_bound place ops i Done old new c = let some = from_place_some place ops i in let most = c.1 in (c.0, omega (arith, some, most))
within_bound place ops i (Differs id answer) old new c = c

-- the last entry of a local log
module _ {Shape State Op Undo : Type 0} (o : Object Shape State Op Undo) (log : Shape × List (LocalEntry Op)) (i : ℕ) (m : MayLeave log.1 i) (end : i + 1 ≡ length log.1) where
  -- A log whose last entry may leave is its front and this entry.
  pub front_is : log.1 ≡ but_last log.1 ++ m.entry ∷ []
  front_is =
      let e : length log.1 - 1 ≡ i = omega (arith, end) in
      but_last_is m.entry log.1 (last_at log.1 ∙ ap (slice_get log.1) e ∙ m.here)

  -- An allowed log without its last entry is allowed.
  front_allowed : IsAllowed o log.0 (local_ops log.1) → IsAllowed o log.0 (local_ops (remove log.1 i))
  front_allowed h =
      let e : local_ops log.1 ≡ local_ops (but_last log.1) ++ (m.entry).op ∷ [] = ap local_ops front_is ∙ map-append (λ (z : LocalEntry Op). z.op) (but_last log.1) (m.entry ∷ []) in
      subst (λ (z : List (LocalEntry Op)). IsAllowed o log.0 (local_ops z)) (sym (removed_last log.1 i end))
      (allowed_front (rules_of o log.0) (o.start log.0) (local_ops (but_last log.1)) ((m.entry).op ∷ []) (subst (λ (z : List Op). IsAllowed o log.0 z) e h))

  -- To remove the last entry of an allowed local log leaves its front.
  pub last_removed : IsAllowed o log.0 (local_ops log.1) → (new : Shape × List (LocalEntry Op)) (removed : Removed) → RemovesEntry o item log i new removed → new ≡ (log.0, but_last log.1)
  last_removed h new Done r = r.0 ∙ ap (λ (z : List (LocalEntry Op)). (log.0, z)) (removed_last log.1 i end)
  last_removed h new (Differs id answer) r = absurd (differs_not o item log.0 (remove log.1 i) id answer r.1 (front_allowed h))

  -- To remove the last entry of an allowed local log never differs.
  pub never_differs : IsAllowed o log.0 (local_ops log.1) → (new : Shape × List (LocalEntry Op)) (removed : Removed) → RemovesEntry o item log i new removed → removed ≡ Done
  never_differs h new Done r = refl
  never_differs h new (Differs id answer) r = absurd (differs_not o item log.0 (remove log.1 i) id answer r.1 (front_allowed h))

-- From the last operation on, one operation has its place.
pub from_place_last : {Op : Type 0} (place : Op → ℕ) (ops : List Op) (i : ℕ) → i + 1 ≡ length ops → from_place place ops i ≡ 1
from_place_last place [] i e = refl
from_place_last {Op} place (a ∷ []) zero e =
    let k : length (filter (λ (b : Op). place b == place a) (a ∷ [])) ≡ length (a ∷ []) = ap (λ (b : Bool). length (cond b (a ∷ []) [])) (eq-eqb (place a) (place a) refl) in omega (arith, k)
from_place_last place (a ∷ []) (suc i) e = absurd (omega arith)
from_place_last place (a ∷ b ∷ x) zero e = absurd (omega arith)
from_place_last place (a ∷ b ∷ x) (suc i) e = from_place_last place (b ∷ x) i (omega arith)
