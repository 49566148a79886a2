-- Proof machinery: the parts of the objects of a run do not depend on one another.
use Rattle.std.proofs.Common.{◌≡◌, ℕ, ℤ, Bool, true, false, int_eq, Some, refl, sym, ◌∙◌}
use Rattle.std.proofs.Common.{ap, subst, inl, inr, ◌⊎◌, List}
use Rattle.std.specs.List.{slice_get}
use Rattle.pp_core.specs.declared.call.Kind.{Kind}
use Rattle.pp_core.specs.declared.call.Kind.TheVariants as kinds
use Rattle.pp_kind.specs.Object.{IsLegal, Object}
use Rattle.pp_kind_keyed.specs.Keys.{IsKeyed, Keys, told_keys}
use Rattle.pp_kind_keyed.proofs.Acting.{left_elsewhere}
use Rattle.pp_kind_keyed.proofs.Rule.{same_key}
use Rattle.pp_kind_memory.specs.Memories.{addresses, memory}
use Rattle.pp_kind_memory.specs.laws.Acting as memory_laws
use Rattle.pp_kind_set.specs.Sets.{bits, key_set}
use Rattle.pp_kind_set.specs.laws.Acting as set_laws
use Rattle.pp_kind_map.specs.KeyMap.{key_map, map_keys}
use Rattle.pp_kind_map.specs.laws.Acting as map_laws
use Rattle.pp_objects.specs.declared.act.Act.{Act}
use Rattle.pp_objects.specs.declared.act.Op.{Op}
use Rattle.pp_objects.specs.declared.states.ObjectState.{ObjectState}
use Rattle.pp_objects.specs.One.{one}
use Rattle.pp_objects.specs.Objects.{objects, place_of}
use Rattle.pp_objects.specs.Parts.{key_of, part_of}
use Rattle.pp_objects.specs.laws.Acts.{legal_act, legal_in, legal_out}
use Rattle.pp_objects.specs.laws.Elements.{same_place, same_some}
use Rattle.pp_objects.specs.laws.Kinds.{Ops, States, act_of, each_state, next_is, object_of, state_of}
use Rattle.pp_objects.specs.laws.One.{one_lawful}
use Rattle.pp_objects.specs.laws.Places.{legal_from, legal_there, next_other, next_there}
use Rattle.pp_kind_parts.specs.Alone.{PartsStandAlone}

-- what acts by its keys
module _ {State Op Undo Cell : Type 0} (o : Object (Unit {0}) State Op Undo)
    (k : Keys State Op Cell) (acts : IsKeyed o k) where
  keyed_by : (s : State) (a b : Op) (t : Bool) → int_eq (k.key b) (k.key a) ≡ t
      → (k.key a ≡ k.key b → ⊥) → IsLegal o s a → IsLegal o s b → IsLegal o (o.next s a) b
  keyed_by s a b true e other h g = absurd (other (sym (same_key (k.key b) (k.key a) e)))
  keyed_by s a b false e other h g = (acts.legal (o.next s a) b).1
      (subst (k.Finds b) (sym (left_elsewhere o k acts s a (k.key b) e h)) ((acts.legal s b).0 g))

  keyed_alone : (s : State) (a b : Op) → (k.key a ≡ k.key b → ⊥) → IsLegal o s a → IsLegal o s b
      → IsLegal o (o.next s a) b
  keyed_alone s a b = keyed_by s a b (int_eq (k.key b) (k.key a)) refl

-- operations of a kind on different keys
keys_alone : (k : Kind) (s : States k) (a b : Ops k)
    → (key_of (act_of k a) ≡ key_of (act_of k b) → ⊥) → IsLegal (object_of k) s a
    → IsLegal (object_of k) s b → IsLegal (object_of k) ((object_of k).next s a) b
keys_alone kinds.Memory s a b other h g =
    keyed_alone memory addresses memory_laws.memory_keyed s a b other h g
keys_alone kinds.KeySet s a b other h g =
    keyed_alone key_set (told_keys bits) set_laws.set_keyed s a b other h g
keys_alone kinds.KeyMap s a b other h g =
    keyed_alone key_map (told_keys map_keys) map_laws.map_is_keyed s a b other h g
keys_alone k s a b other h g = absurd (other refl)

acts_by : (k : Kind) (s : States k) (a b : Act) → (key_of a ≡ key_of b → ⊥)
    → IsLegal one (state_of k s) a → IsLegal one (state_of k s) b
    → IsLegal one (one.next (state_of k s) a) b
acts_by k s a b other h g =
    let c = legal_act k s a h in
    let d = legal_act k s b g in
    let P : Act → Type 0 = λ x. IsLegal one (state_of k s) x in
    let x = legal_out k s c.0 (subst P c.1 h) in
    let y = legal_out k s d.0 (subst P d.1 g) in
    let apart : key_of (act_of k c.0) ≡ key_of (act_of k d.0) → ⊥ =
    λ e. other (ap key_of c.1 ∙ e ∙ ap key_of (sym d.1)) in
    let after = legal_in k ((object_of k).next s c.0) d.0 (keys_alone k s c.0 d.0 apart x y) in
    subst (λ (z : Act). IsLegal one (one.next (state_of k s) z) b) (sym c.1)
    (subst (λ (z : Act). IsLegal one (one.next (state_of k s) (act_of k c.0)) z) (sym d.1)
    (subst (λ (t : ObjectState). IsLegal one t (act_of k d.0)) (sym (next_is k s c.0)) after))

-- acts on different keys
acts_alone : (s : ObjectState) (a b : Act) → (key_of a ≡ key_of b → ⊥) → IsLegal one s a
    → IsLegal one s b → IsLegal one (one.next s a) b
acts_alone s a b = each_state (λ t. (key_of a ≡ key_of b → ⊥) → IsLegal one t a
    → IsLegal one t b → IsLegal one (one.next t a) b) (λ k t. acts_by k t a b) s

-- operations on one object, or on two
legal_by : (ss : List ObjectState) (a b : Op) → (a.object ≡ b.object) ⊎ (a.object ≡ b.object → ⊥)
    → (part_of a ≡ part_of b → ⊥) → IsLegal objects ss a → IsLegal objects ss b
    → IsLegal objects (objects.next ss a) b
legal_by ss a b (inl e) other h g =
    let t = legal_there one one_lawful ss a h in
    let r = legal_there one one_lawful ss b g in
    let same : r.0 ≡ t.0 = same_some r.0 t.0
    (sym r.1 ∙ ap (λ (p : ℕ). slice_get ss p) (sym e) ∙ t.1) in
    let apart : key_of a.act ≡ key_of b.act → ⊥ = λ f.
    other (ap (λ (p : ℕ). record { object = p; key = key_of a.act }) e
    ∙ ap (λ (q : ℤ). record { object = b.object; key = q }) f) in
    legal_from one one_lawful (objects.next ss a) b (one.next t.0 a.act)
    (subst (λ (p : ℕ). slice_get (objects.next ss a) p ≡ Some (one.next t.0 a.act)) e
    (next_there one one_lawful ss a t.0 t.1))
    (acts_alone t.0 a.act b.act apart t.2
    (subst (λ (s : ObjectState). IsLegal one s b.act) same r.2))
legal_by ss a b (inr apart) other h g =
    let t = legal_there one one_lawful ss a h in
    let r = legal_there one one_lawful ss b g in
    legal_from one one_lawful (objects.next ss a) b r.0
    (next_other one one_lawful ss a t.0 b.object t.1 (λ e. apart (sym e)) ∙ r.1) r.2

-- The parts of the objects of a run do not depend on one another.
pub objects_alone : PartsStandAlone objects place_of part_of
objects_alone = record {
  placed = λ a. refl;
  legal = λ ss a b. legal_by ss a b (same_place a.object b.object);
}
