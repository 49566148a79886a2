-- When a record is good, by the data that a Quick keeps.
use Rattle.std.specs.Prelude.{◌≡◌, ◌≢◌, ◌==◌, ◌↔◌, ℕ, nat_eq, Bool, true, false, cond, ◌&&◌, List, [], ◌∷◌, ◌++◌, filter, is_some, position, option_map, Option, None, Some, IsTrue, IsSome}
use Rattle.std.specs.List.{list_any}
use Rattle.std.specs.Map.{keys_of, lookup, set_value}
use Rattle.std.proofs.Common.{refl, sym, ap, subst, ◌∙◌}
use Rattle.std.proofs.lemmas.Bool.{and_parts, eqb-true, eq-eqb}
use Rattle.std.proofs.lemmas.Option.{same_Some}
use mathlib.Core.Logic.{inl, inr}
use Rattle.pp_body.specs.Walks.{MayTake, TellsBegins, TellsWord}
use Rattle.pp_core.specs.declared.entry.Item.{Item}
use Rattle.pp_log.specs.Logs.{GoesBehind}
use Rattle.pp_model.specs.Body.{IsWord}
use Rattle.pp_model.specs.Config.{SharedEntry, as_shared, shared_ops}
use Rattle.pp_model.specs.Lists.{In}
use Rattle.pp_model.specs.Names.{Name, ◌=ⁿ◌}
use Rattle.pp_model.specs.Rules.{calls}
use Rattle.pp_model.specs.Serial.{has_id}
use Rattle.pp_model.proofs.Lists.{by_key, from_map, in_filter, in_map}
use Rattle.pp_model.proofs.Names.{eq-names, names-true, names_tell}
use Rattle.pp_model.proofs.Finding.{any_in, from_reverse, in_reverse, none_in, placed, stands_in}
use Rattle.pp_log_shared.specs.Blocking.{AllGiveWay, IsFirstBlocking}
use Rattle.pp_kind.specs.Object.{Object, IsAllowed, IsLawful, SwapsIn, rules_of}
use Rattle.pp_records.specs.Records as records
use Rattle.pp_summary.specs.Boosted.{PlacesSwap}
use Rattle.pp_summary.specs.Brief.{Brief, BriefGoodOp, BriefTx, brief_of}
use Rattle.pp_summary.specs.Moving.{IsGood}
use Rattle.pp_summary.specs.Passing.{HaveEntries, HaveOwnIds, LetAllPass, StopsOne}
use Rattle.pp_summary.specs.Shown.{KeepsQuick, Kept, at, calls_of, as_held, in_slot, is_unseen, open_in, shown, shown_tx, threads_of, unseen_at}
use Rattle.pp_summary.specs.declared.parts.OpenTx.{OpenTx}
use Rattle.pp_summary.proofs.Filled.{begun_is}
use Rattle.pp_summary.proofs.Moving.{committed_there, fine_of, open_is, open_there}
use Rattle.pp_summary.proofs.HeldOf.{distinct, done_stands, fits, new_id, own_stands}
use Rattle.pp_summary.proofs.Unseen.{has_unseen}
use Rattle.pp_laws_summary.proofs.Entries.{has_in, in_has}
use Rattle.pp_summary.proofs.Passing.{in_behind}

-- An id for which the test says that it was used is among the ids.
pub used_in : (l : List ℕ) (id : ℕ) → list_any (λ i. id == i) l ≡ true → In id l
used_in l id e =
    let r = any_in (λ (i : ℕ). id == i) l e in subst (λ (i : ℕ). In i l) (sym (eqb-true id r.0 r.2)) r.1

-- An id for which the test says that it was not used is not among the ids.
pub not_used : (l : List ℕ) (id : ℕ) → list_any (λ i. id == i) l ≡ false → In id l → ⊥
not_used l id e i =
    let k = none_in (λ (j : ℕ). id == j) l e id i in
    let z : true ≡ false = sym (eq-eqb id id refl) ∙ k in cc

-- A slot that was changed has the new content.
pub slot_stays : {A : Type 0} (t : Name) (es : List (Name × Option A)) (x : A) (s : Option A) → open_in t es ≡ Some x → lookup (λ n. t =ⁿ n) (set_value (λ n. t =ⁿ n) es s) ≡ Some s
slot_stays t [] x s e = absurd (cc)
slot_stays {A} t ((n, o) ∷ es) x s e = elim (names_tell t n) [
  | inl r ↦
      ap (λ (b : Bool). lookup (λ m. t =ⁿ m) (cond b ((n, s) ∷ es) ((n, o) ∷ set_value (λ m. t =ⁿ m) es s))) r.0
      ∙ ap (λ (b : Bool). cond b (Some s) (lookup (λ m. t =ⁿ m) es)) r.0
  | inr r ↦
      ap (λ (b : Bool). lookup (λ m. t =ⁿ m) (cond b ((n, s) ∷ es) ((n, o) ∷ set_value (λ m. t =ⁿ m) es s))) r.0
      ∙ ap (λ (b : Bool). cond b (Some o) (lookup (λ m. t =ⁿ m) (set_value (λ m. t =ⁿ m) es s))) r.0
      ∙ slot_stays t es x s (sym (ap (λ (b : Bool). in_slot (cond b (Some o) (lookup (λ m. t =ⁿ m) es))) r.0) ∙ e)
]

-- An option that is equal to some value has a value.
pub some_there : {A : Type 0} (o : Option A) (x : A) → o ≡ Some x → IsSome o
some_there o x e = subst (λ z. IsSome z) (sym e) refl

module _ {Shape State Op Undo : Type 0} (o : Object Shape State Op Undo) (place : Op → ℕ) (apart : (shape : Shape) → PlacesSwap (rules_of o shape) place) (v : Kept Shape Op) (h : KeepsQuick o place v) where
  abbrev B : Brief Op
  B = shown place v

  abbrev G : List (SharedEntry Op)
  G = v.shared.1

  abbrev commits : List (List ℕ)
  commits = v.commits.items

  -- Two entries of the shared log of a summary have different ids.
  pub own_ids : HaveOwnIds G
  own_ids = distinct o place apart (as_held place v) h.is_held

  -- Each commit at a place is an entry of the shared log.
  pub have_entries : (q : ℕ) → HaveEntries G (at q commits)
  have_entries q id i =
      let k = committed_there o place apart v h q id i in
      let s = done_stands o place apart (as_held place v) h.is_held k.0 k.1 in
      (as_shared s.0 true k.0, s.1, k.2)

  -- A name that has a slot is among the names that were begun.
  pub begun_name : (t : Name) → is_some (lookup (λ n. t =ⁿ n) v.slots.entries) ≡ true → In t B.names
  begun_name t e =
      let r = any_in (λ (n : Name). n =ⁿ t) (keys_of v.slots.entries) (sym (begun_is v.slots.entries t) ∙ e) in
      in_reverse t (keys_of v.slots.entries) (subst (λ (n : Name). In n (keys_of v.slots.entries)) (names-true r.0 t r.2) r.1)

  -- A name without a slot is not among the names that were begun.
  pub fresh_name : (t : Name) → is_some (lookup (λ n. t =ⁿ n) v.slots.entries) ≡ false → In t B.names → ⊥
  fresh_name t e i =
      let k = none_in (λ (n : Name). n =ⁿ t) (keys_of v.slots.entries) (sym (begun_is v.slots.entries t) ∙ e) t (from_reverse t (keys_of v.slots.entries) i) in
      let z : true ≡ false = sym (eq-names t t refl) ∙ k in cc

  -- A thread that is among the busy ones is that of an open transaction.
  pub busy_thread : (p : Name) → list_any (λ q. p =ⁿ q) v.threads.keys ≡ true → ((x : BriefTx Op) → In x B.opened → x.thread ≢ p) → ⊥
  busy_thread p e n =
      let r = any_in (λ (q : Name). q =ⁿ p) (threads_of B.opened) (sym (h.threads.are p) ∙ e) in
      let m = from_map (λ (x : BriefTx Op). x.thread) r.0 B.opened r.1 in
      n m.0 m.1 (sym m.2 ∙ names-true r.0 p r.2)

  -- A thread that is not among the busy ones is that of no open transaction.
  pub idle_thread : (p : Name) → list_any (λ q. p =ⁿ q) v.threads.keys ≡ false → (x : BriefTx Op) → In x B.opened → x.thread ≢ p
  idle_thread p e x i q =
      let k = none_in (λ (z : Name). z =ⁿ p) (threads_of B.opened) (sym (h.threads.are p) ∙ e) x.thread (in_map (λ (y : BriefTx Op). y.thread) x B.opened i) in
      let z : true ≡ false = sym (eq-names x.thread p q) ∙ k in cc

  -- A condition on the open transaction of a name is false if the name has none.
  pub not_open : (t : Name) (P : BriefTx Op → Type 0) → open_in t v.slots.entries ≡ None → (X : BriefTx Op) × (brief_of t B.opened ≡ Some X) × P X → ⊥
  not_open t P e g = let z : None ≡ Some g.0 = sym (open_is o place apart v h t ∙ ap (option_map (shown_tx place G commits t)) e) ∙ g.1 in cc

  module _ (t : Name) (x : OpenTx (List (Item Op))) (found : open_in t v.slots.entries ≡ Some x) where
    abbrev show : BriefTx Op
    show = shown_tx place G commits t x

    here : brief_of t B.opened ≡ Some show
    here = open_there o place apart v h t x found

    -- A fact of the open transaction in the brief is a fact of the one that is shown.
    pub of_it : (P : BriefTx Op → Type 0) → (X : BriefTx Op) × (brief_of t B.opened ≡ Some X) × P X → P show
    of_it P g = subst P (same_Some g.0 show (sym g.1 ∙ here)) g.2

    -- A fact of the one that is shown is a fact of the open transaction in the brief.
    pub it_is : (P : BriefTx Op → Type 0) → P show → (X : BriefTx Op) × (brief_of t B.opened ≡ Some X) × P X
    it_is P p = (show, here, p)

    -- The answer of the walk on a commit is right for the calls of the own operations.
    pub word_is : (answer : Bool) → TellsWord x.walk answer → IsTrue answer ↔ IsWord show.body (calls (rules_of o v.shape) show.own)
    word_is answer w = w (calls_of o x.own) (fine_of o place apart v h t x found).taken

    module _ (id : ℕ) (op : Op) where
      abbrev Good : BriefTx Op → Type 0
      Good X = BriefGoodOp (rules_of o v.shape) place B id op X

      -- An op record with an id that was used is not good.
      pub used : list_any (λ i. id == i) v.ids ≡ true → IsGood o place v (records.Op t id op) → ⊥
      used e g = (of_it Good g).new (in_reverse id v.ids (used_in v.ids id e))

      -- An op record with a call that may not follow is not good.
      pub unbegun : (answer : Bool) → TellsBegins x.walk (o.call op) answer → answer ≡ false → IsGood o place v (records.Op t id op) → ⊥
      unbegun answer w e g = let z : true ≡ false = sym ((w (calls_of o x.own) (fine_of o place apart v h t x found).taken).1 (of_it Good g).begins) ∙ e in cc

      -- An entry with the id of an unseen commit is at the place of the commit, and is missed.
      missed : (p : SharedEntry Op) → In p G → In p.id (unseen_at (place op) commits x.seen.entries) → (place p.op ≡ place op) × In p.id show.missed
      missed p i u =
          let k = committed_there o place apart v h (place op) p.id (in_behind (lookup (nat_eq (place op)) x.seen.entries) (at (place op) commits) p.id u) in
          let s = done_stands o place apart (as_held place v) h.is_held k.0 k.1 in
          let same : as_shared s.0 true k.0 ≡ p = by_key (λ (w : SharedEntry Op). w.id) G own_ids (as_shared s.0 true k.0) p s.1 i k.2 in
          let there : place p.op ≡ place op = ap (λ (w : SharedEntry Op). place w.op) (sym same) ∙ k.3 in
          let has : is_unseen place commits x.seen.entries p ≡ true =
          ap (λ (w : SharedEntry Op). w.committed && has_id p.id (unseen_at (place p.op) commits x.seen.entries)) (sym same)
          ∙ in_has p.id (unseen_at (place p.op) commits x.seen.entries) (subst (λ (q : ℕ). In p.id (unseen_at q commits x.seen.entries)) (sym there) u) in
          (there, in_map (λ (w : SharedEntry Op). w.id) p (filter (is_unseen place commits x.seen.entries) G) (in_filter (is_unseen place commits x.seen.entries) p G i has))

      -- An op record is not good if an unseen commit at its place does not swap with an own one.
      pub stopped : IsLawful o → StopsOne o place x.own G (unseen_at (place op) commits x.seen.entries) → IsGood o place v (records.Op t id op) → ⊥
      stopped laws s g =
          let m = missed s.entry s.is s.among in
          let a = s.stops in
          let fit_a = fits o place apart (as_held place v) h.is_held laws (as_shared t false a.item) (own_stands o place apart (as_held place v) h.is_held t show here a.item a.is) in
          let fit_p = fits o place apart (as_held place v) h.is_held laws s.entry s.is in
          a.stays v.shape fit_a fit_p ((of_it Good g).swaps a.item s.entry a.is (a.there ∙ m.0) s.is m.0 m.1)

      -- An op record is not good if an uncommitted entry of another does not swap with it.
      pub blocked : IsLawful o → IsTrue (o.fits v.shape op) → (k : ℕ) → IsFirstBlocking o t op G k → IsGood o place v (records.Op t id op) → ⊥
      blocked laws fit k b g =
          let i = stands_in G k b.entry b.is in
          b.blocks.stays v.shape (fits o place apart (as_held place v) h.is_held laws b.entry i) fit ((of_it Good g).passes b.entry i b.blocks.uncommitted b.blocks.other)

      -- An op record that is not allowed after the shared log is not good.
      pub illegal : (answer : Bool) → IsTrue answer ↔ GoesBehind o v.shared.0 (shared_ops G) op → answer ≡ false → IsGood o place v (records.Op t id op) → ⊥
      illegal answer w e g =
          let z : true ≡ false = sym (w.1 (subst (λ (s : Shape). IsAllowed o s (shared_ops G ++ op ∷ [])) (sym h.same_shape) (of_it Good g).allowed)) ∙ e in cc

      swap_all : LetAllPass o place x.own G (unseen_at (place op) commits x.seen.entries) → (a : Item Op) (p : SharedEntry Op) → In a x.own → place a.op ≡ place op → In p G → place p.op ≡ place op → In p.id show.missed →
          SwapsIn o v.shape a.op p.op
      swap_all pass a p i q j r m =
          let u = sym (has_unseen place G commits x.seen.entries own_ids p j) ∙ in_has p.id show.missed m in
          let l = unseen_at (place p.op) commits x.seen.entries in
          let among = has_in p.id l (and_parts p.committed (has_id p.id l) u).1 in
          pass p j (subst (λ (n : ℕ). In p.id (unseen_at n commits x.seen.entries)) r among) a i (q ∙ sym r) v.shape

      -- An op record that passes all tests of the summary is good.
      pub good : list_any (λ i. id == i) v.ids ≡ false → (can : Bool) → TellsBegins x.walk (o.call op) can → can ≡ true → LetAllPass o place x.own G (unseen_at (place op) commits x.seen.entries) →
          AllGiveWay o t op G → GoesBehind o v.shared.0 (shared_ops G) op → IsGood o place v (records.Op t id op)
      good fresh can begins ok pass give legal = it_is Good (record {
        new = λ i. not_used v.ids id fresh (from_reverse id v.ids i);
        begins = (begins (calls_of o x.own) (fine_of o place apart v h t x found).taken).0 ok;
        swaps = swap_all pass;
        passes = λ u i w n. give u i w n v.shape;
        allowed = subst (λ (s : Shape). IsAllowed o s (shared_ops G ++ op ∷ [])) h.same_shape legal;
      })

      -- A good op record has a call that may follow in the body.
      pub may_take : IsGood o place v (records.Op t id op) → MayTake x.walk (o.call op)
      may_take g = (calls_of o x.own, (fine_of o place apart v h t x found).taken, (of_it Good g).begins)

      -- The id of a good op record is not in the shared log.
      pub is_new : IsGood o place v (records.Op t id op) → position (λ e. e.id == id) G ≡ None
      is_new g = by (position (λ e. e.id == id) G) refl
        where
          by : (r : Option ℕ) → position (λ e. e.id == id) G ≡ r → r ≡ None
          by None e = refl
          by (Some k) e =
              let p = placed (λ (z : SharedEntry Op). z.id == id) G k e in
              absurd (new_id o place apart (as_held place v) h.is_held id (of_it Good g).new p.0 (stands_in G k p.0 p.1) (eqb-true (p.0).id id p.2))

      -- The id of a good op record was not used.
      pub unused : IsGood o place v (records.Op t id op) → list_any (λ i. id == i) v.ids ≡ false
      unused g = by (list_any (λ i. id == i) v.ids) refl
        where
          by : (b : Bool) → list_any (λ i. id == i) v.ids ≡ b → b ≡ false
          by false e = refl
          by true e = absurd (used e g)
