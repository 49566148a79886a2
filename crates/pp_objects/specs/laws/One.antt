-- Proof machinery: an object of any kind is lawful, since each kind is.
use Rattle.std.proofs.Common.{◌≡◌, Bool, true, false, ◌&&◌, IsTrue, List, ◌∷◌, ◌++◌, map, Option}
use Rattle.std.proofs.Common.{Some, None, ◌↔◌, refl, sym, ◌∙◌, ap, subst}
use Rattle.std.proofs.lemmas.List.{map-append}
use Rattle.pp_core.specs.declared.answer.Answer.{Answer}
use Rattle.pp_core.specs.declared.call.Call.{Call}
use Rattle.pp_core.specs.declared.call.Kind.{Kind}
use Rattle.pp_kind.specs.Numbers.{has_ranged_arguments, is_ranged_answer}
use Rattle.pp_kind.specs.Object.{IsLegal, AllowedFrom, IsAllowed, state_after, Swaps, IsRefutedBy}
use Rattle.pp_kind.specs.Object.{IsLawful, AllowsAllOf}
use Rattle.pp_kind.proofs.Lists.{keeps_shape, swaps_where_turned}
use Rattle.pp_kind_memory.specs.declared.undo.Undo.{Undo}
use Rattle.pp_objects.specs.declared.act.Act.{Act}
use Rattle.pp_objects.specs.declared.states.ObjectState.{ObjectState}
use Rattle.pp_objects.specs.One.{one, both_as}
use Rattle.pp_objects.specs.laws.Kinds.{Ops, States, Undos, act_of, back_is, call_is, each_act}
use Rattle.pp_objects.specs.laws.Kinds.{each_state, fits, from_state, has_kind, into_state, its_act}
use Rattle.pp_objects.specs.laws.Kinds.{its_state, kept_is, lawful, next_is, no_place, object_of}
use Rattle.pp_objects.specs.laws.Kinds.{one_undo, only_kind, other, ranged_is, recorded_is}
use Rattle.pp_objects.specs.laws.Kinds.{refuting_is, start_is, state_of, undo_as}
use Rattle.pp_objects.specs.laws.Acts.{legal_out, legal_act, allowed_in, allowed_out, swaps_in}
use Rattle.pp_objects.specs.laws.Acts.{swaps_out, ranged_in}

-- What is true for each legal operation of each kind is true for each legal act.
pub each_legal : (P : ObjectState → Act → Type 0)
    → ((k : Kind) (t : States k) (a : Ops k) → IsLegal (object_of k) t a
    → P (state_of k t) (act_of k a)) → (s : ObjectState) (a : Act) → IsLegal one s a → P s a
each_legal P h s a legal =
    each_act (λ (x : Act). (t : ObjectState) → IsLegal one t x → P t x)
    (λ k x t l.
    let u = its_state k t (only_kind k (one.shape t) x l.0) in
    subst (λ (v : ObjectState). P v (act_of k x)) (sym u.1)
    (h k u.0 x (legal_out k u.0 x
    (subst (λ (v : ObjectState). IsLegal one v (act_of k x)) u.1 l))))
    a s legal

next_shape : (s : ObjectState) (a : Act) → IsLegal one s a → one.shape (one.next s a) ≡ one.shape s
next_shape = each_legal (λ s a. one.shape (one.next s a) ≡ one.shape s)
    (λ k t a h. ap one.shape (next_is k t a) ∙ has_kind k ((object_of k).next t a)
    ∙ sym (has_kind k t))

start_shape : (q : Kind) → one.shape (one.start q) ≡ q
start_shape k = ap one.shape (start_is k) ∙ has_kind k ((object_of k).start tt)

-- The state after an allowed list of acts has the kind that it began with.
pub reached_shape : (q : Kind) (l : List Act) → IsAllowed one q l
    → one.shape (state_after one q l) ≡ q
reached_shape q l h = keeps_shape one next_shape (one.start q) l h ∙ start_shape q

next_is_state : (s : ObjectState) (a : Act) → IsLegal one s a → one.upkeep.IsState s
    → one.upkeep.IsState (one.next s a)
next_is_state = each_legal (λ s a. one.upkeep.IsState s → one.upkeep.IsState (one.next s a))
    (λ k t a h i. subst one.upkeep.IsState (sym (next_is k t a))
    (into_state k ((object_of k).next t a) ((lawful k).next_is_state t a (from_state k t i) h)))

taken_back : (s : ObjectState) (a : Act) → IsLegal one s a → one.upkeep.IsState s
    → one.upkeep.back (one.next s a) a (one.upkeep.kept s a) ≡ s
taken_back =
    each_legal (λ s a. one.upkeep.IsState s
    → one.upkeep.back (one.next s a) a (one.upkeep.kept s a) ≡ s)
    (λ k t a h i.
    ap (λ (s : ObjectState). one.upkeep.back s (act_of k a)
    (one.upkeep.kept (state_of k t) (act_of k a))) (next_is k t a)
    ∙ ap (λ (u : Undo). one.upkeep.back (state_of k ((object_of k).next t a)) (act_of k a) u)
    (kept_is k t a)
    ∙ back_is k ((object_of k).next t a) a (undo_as k ((object_of k).upkeep.kept t a))
    ∙ ap (λ (u : Undos k). state_of k ((object_of k).upkeep.back ((object_of k).next t a) a u))
    (one_undo k ((object_of k).upkeep.kept t a))
    ∙ ap (state_of k) ((lawful k).taken_back t a (from_state k t i) h))

told_apart_in : (k : Kind) (s t : States k) → one.upkeep.IsState (state_of k s)
    → one.upkeep.IsState (state_of k t) → AllowsAllOf one (state_of k s) (state_of k t)
    → state_of k s ≡ state_of k t
told_apart_in k s t i j also =
    ap (state_of k) ((lawful k).told_apart s t (from_state k s i) (from_state k t j) refl
    (λ l f. allowed_out k t l (also (map (act_of k) l) (allowed_in k s l f))))

told_apart : (s t : ObjectState) → one.upkeep.IsState s → one.upkeep.IsState t
    → one.shape s ≡ one.shape t → AllowsAllOf one s t → s ≡ t
told_apart =
    each_state (λ s. (t : ObjectState) → one.upkeep.IsState s → one.upkeep.IsState t
    → one.shape s ≡ one.shape t → AllowsAllOf one s t → s ≡ t)
    (λ k s t i j e also.
    let u = its_state k t (sym e ∙ has_kind k s) in
    let P : ObjectState → Type 0 = λ v. one.upkeep.IsState v → AllowsAllOf one (state_of k s) v
    → state_of k s ≡ v in
    subst P (sym u.1) (told_apart_in k s u.0 i) j also)

one_answer : (s : ObjectState) (a : Act) → IsLegal one s a → (b : Act) → one.call a ≡ one.call b
    → IsLegal one s b → one.recorded a ≡ one.recorded b
one_answer =
    each_legal (λ s a. (b : Act) → one.call a ≡ one.call b → IsLegal one s b
    → one.recorded a ≡ one.recorded b)
    (λ k t a h b e l.
    let c = legal_act k t b l in
    let P : Act → Type 0 = λ y. one.call (act_of k a) ≡ one.call y → IsLegal one (state_of k t) y
    → one.recorded (act_of k a) ≡ one.recorded y in
    let there : P (act_of k c.0) = λ f m. recorded_is k a
    ∙ (lawful k).one_answer t a c.0 (sym (call_is k a) ∙ f ∙ call_is k c.0) h
    (legal_out k t c.0 m) ∙ sym (recorded_is k c.0) in
    subst P (sym c.1) there e l)

ranged_numbers : (a : Act) → one.ranged a
    ≡ (has_ranged_arguments (one.call a) && is_ranged_answer (one.recorded a))
ranged_numbers =
    each_act (λ a. one.ranged a ≡ (has_ranged_arguments (one.call a) && is_ranged_answer
    (one.recorded a)))
    (λ k a.
    ranged_is k a
    ∙ (lawful k).ranged_numbers a
    ∙ ap (λ (c : Call). has_ranged_arguments c && is_ranged_answer ((object_of k).recorded a))
    (sym (call_is k a))
    ∙ ap (λ (r : Answer). has_ranged_arguments (one.call (act_of k a)) && is_ranged_answer r)
    (sym (recorded_is k a)))

-- The call of an act has the object 0, as an act has no place.
pub call_has_no_place : (a : Act) → (one.call a).object ≡ 0
call_has_no_place = each_act (λ a. (one.call a).object ≡ 0)
    (λ k a. ap (λ (c : Call). c.object) (call_is k a) ∙ no_place k a)

-- Acts that no kind has together swap.
pub others_swap : (k : Kind) (a : Ops k) (b : Act) → one.fits k b ≡ false → Swaps one (act_of k a) b
others_swap k a b other =
    swaps_where_turned one (act_of k a) b
    (λ sh before first l h.
    let s = state_after one sh before in
    let e = next_shape s (act_of k a) h.0 ∙ only_kind k (one.shape s) a h.0.0 in
    let f : one.fits k b ≡ true = subst (λ (q : Kind). IsTrue (one.fits q b)) e h.1.0.0 in
    absurd (cc))

-- If lists mapped to another type are none, the lists are none.
pub none_as : {A B : Type 0} (f : A → B) (o : Option (List A × List A)) → both_as f o ≡ None
    → o ≡ None
none_as f None h = refl
none_as f (Some lists) h = absurd (cc)

-- Lists that refute a pair by itself refute it.
list_in : (k : Kind) (sh : Kind) (x y : List (Ops k)) → sh ≡ k → IsAllowed (object_of k) tt (x ++ y)
    → IsAllowed one sh (map (act_of k) x ++ map (act_of k) y)
list_in k sh x y e h =
    let P : Kind → Type 0 = λ q. IsAllowed one q (map (act_of k) x ++ map (act_of k) y) in
    let Q : ObjectState → Type 0 = λ s. AllowedFrom one s (map (act_of k) x ++ map (act_of k) y) in
    let R : List Act → Type 0 = λ l. AllowedFrom one (state_of k ((object_of k).start tt)) l in
    subst P (sym e) (subst Q (sym (start_is k))
    (subst R (map-append (act_of k) x y) (allowed_in k ((object_of k).start tt) (x ++ y) h)))

list_out : (k : Kind) (sh : Kind) (x y : List (Ops k)) → sh ≡ k
    → IsAllowed one sh (map (act_of k) x ++ map (act_of k) y) → IsAllowed (object_of k) tt (x ++ y)
list_out k sh x y e h =
    let P : Kind → Type 0 = λ q. IsAllowed one q (map (act_of k) x ++ map (act_of k) y) in
    let Q : ObjectState → Type 0 = λ s. AllowedFrom one s (map (act_of k) x ++ map (act_of k) y) in
    let R : List Act → Type 0 = λ l. AllowedFrom one (state_of k ((object_of k).start tt)) l in
    allowed_out k ((object_of k).start tt) (x ++ y)
    (subst R (sym (map-append (act_of k) x y)) (subst Q (start_is k) (subst P e h)))

refuted_in : (k : Kind) (a b : Ops k) (o : Option (List (Ops k) × List (Ops k)))
    → IsRefutedBy (object_of k) a b o
    → IsRefutedBy one (act_of k a) (act_of k b) (both_as (act_of k) o)
refuted_in k a b None h = tt
refuted_in k a b (Some lists) h =
    record {
      allowed = λ sh f g. list_in k sh lists.0 (a ∷ b ∷ lists.1) (only_kind k sh a f)
          (h.allowed tt (fits k a) (fits k b));
      changed = λ sh f g l. h.changed tt (fits k a) (fits k b)
          (list_out k sh lists.0 (b ∷ a ∷ lists.1) (only_kind k sh a f) l);
      ranged_before = λ r q. ranged_in k lists.0
          (h.ranged_before (subst IsTrue (ranged_is k a) r) (subst IsTrue (ranged_is k b) q));
      ranged_after = λ r q. ranged_in k lists.1
          (h.ranged_after (subst IsTrue (ranged_is k a) r) (subst IsTrue (ranged_is k b) q));
    }

-- There are lists for a pair exactly if it does not swap, and they refute it.
IsExact : Act → Act → Type 0
IsExact a b = ((one.refuting a b ≡ None) ↔ Swaps one a b) × IsRefutedBy one a b (one.refuting a b)

exact_in : (k : Kind) (a b : Ops k) → IsExact (act_of k a) (act_of k b)
unfolding IsExact
exact_in k a b =
    let e = refuting_is k a b in (
      (
        (λ h. swaps_in k reached_shape a b
            (((lawful k).unrefuted a b).0
            (none_as (act_of k) ((object_of k).refuting a b) (sym e ∙ h)))),
        (λ h. e ∙ ap (λ (o : Option (List (Ops k) × List (Ops k))). both_as (act_of k) o)
            (((lawful k).unrefuted a b).1 (swaps_out k a b h))),
      ),
      subst (λ (o : Option (List Act × List Act)). IsRefutedBy one (act_of k a) (act_of k b) o)
          (sym e) (refuted_in k a b ((object_of k).refuting a b) ((lawful k).refuted a b)),
    )

exact_by : (k : Kind) (a : Ops k) (b : Act) (t : Bool) → one.fits k b ≡ t → IsExact (act_of k a) b
unfolding IsExact
exact_by k a b true e = let c = its_act k b e in
    subst (λ (y : Act). IsExact (act_of k a) y) (sym c.1) (exact_in k a c.0)
exact_by k a b false e =
    let n = other k a b e in (
      ((λ h. others_swap k a b e), (λ h. n)),
      subst (λ (o : Option (List Act × List Act)). IsRefutedBy one (act_of k a) b o) (sym n) tt,
    )

exact : (a b : Act) → IsExact a b
exact = each_act (λ a. (b : Act) → IsExact a b) (λ k a b. exact_by k a b (one.fits k b) refl)

-- An object of any kind is lawful.
pub one_lawful : IsLawful one
unfolding IsExact
one_lawful = record {
  start_shape = start_shape;
  start_is_state = λ k. subst one.upkeep.IsState (sym (start_is k))
      (into_state k ((object_of k).start tt) ((lawful k).start_is_state tt));
  next_shape = next_shape;
  next_is_state = λ s a i h. next_is_state s a h i;
  taken_back = λ s a i h. taken_back s a h i;
  told_apart = told_apart;
  one_answer = λ s a b e h l. one_answer s a h b e l;
  ranged_numbers = ranged_numbers;
  unrefuted = λ a b. (exact a b).0;
  refuted = λ a b. (exact a b).1;
}
