-- The entries of an owner are committed one by one.
use Rattle.std.proofs.Common.{◌≡◌, ◌≢◌, ℕ, zero, suc, ◌+◌, ◌<◌, ◌≤◌, Bool, true, false, cond, not}
use Rattle.std.proofs.Common.{◌&&◌, ◌⊎◌, ◌==◌, List, [], ◌∷◌, length, get_or, drop, map, position}
use Rattle.std.proofs.Common.{refl, sym, ◌∙◌, ap, subst, arith, inl, inr, None, Some}
use Rattle.std.specs.List.{slice_get, slice_set}
use Rattle.std.proofs.lemmas.Bool.{and_parts, eq-eqb, eqb-true}
use Rattle.std.proofs.lemmas.List.Sums.{fails_before_first}
use Rattle.std.proofs.lemmas.List.Quantifiers.{position-Some}
use Rattle.std.proofs.lemmas.Option.{get_or_from_slice_get}
use Rattle.pp_core.specs.declared.entry.SharedEntry.{SharedEntry}
use Rattle.pp_core.specs.declared.entry.Item.{Item}
use Rattle.pp_model.specs.Config.{commit_all, shared_item}
use Rattle.pp_model.specs.Lists.{In}
use Rattle.pp_model.specs.Names.{Name, ◌=ⁿ◌}
use Rattle.pp_model.specs.Object.{HasDistinctIds}
use Rattle.pp_model.proofs.Commit.{as_committed, commit}
use Rattle.pp_model.proofs.Lists.{by_key, before_map}
use Rattle.pp_model.proofs.Names.{eq-names, names_tell}
use Rattle.pp_model.proofs.Finding.{not_past, stands_in}
use Rattle.pp_log.proofs.Lists.{in_at, map_set_same, none_len, pair}
use Rattle.pp_log_shared.specs.Blocking.{IsSettled}
use Rattle.pp_log_shared.specs.Committing.{HoldsIdsOf}
use Rattle.pp_log_shared.specs.Uncommitted.{CommitsOne}

either_same : {A : Type 0} (b : Bool) (x y : A) → x ≡ y → cond b x y ≡ y
either_same true x y h = h
either_same false x y h = refl

stays_committed : {Op : Type 0} (t : Name) (e : SharedEntry Op) → e.committed ≡ true → commit t e ≡ e
stays_committed {Op} t e h = either_same (e.owner =ⁿ t) (as_committed e) e (ap (λ (b : Bool). let d : SharedEntry Op = record { id = e.id; owner = e.owner; committed = b; op = e.op } in d) (sym h))

stays_other : {Op : Type 0} (t : Name) (e : SharedEntry Op) → (e.owner =ⁿ t) ≡ false → commit t e ≡ e
stays_other {Op} t e h = ap (λ (b : Bool). cond b (as_committed e) e) h

is_committed : {Op : Type 0} (t : Name) (e : SharedEntry Op) → (e.owner =ⁿ t) ≡ true → commit t e ≡ as_committed e
is_committed {Op} t e h = ap (λ (b : Bool). cond b (as_committed e) e) h

-- If the owner has no uncommitted entry, nothing is committed.
stays : {Op : Type 0} (t : Name) (e : SharedEntry Op) → (e.committed ≡ false → e.owner ≡ t → ⊥) → (b : Bool) → e.committed ≡ b → commit t e ≡ e
stays t e none true is = stays_committed t e is
stays t e none false is = elim (names_tell e.owner t) [ inl own ↦ absurd (none is own.1) | inr other ↦ stays_other t e other.0 ]

-- If an owner has no uncommitted entry in a log, to commit its entries changes nothing.
pub all_committed : {Op : Type 0} (t : Name) (x : List (SharedEntry Op)) → ((e : SharedEntry Op) → In e x → e.committed ≡ false → e.owner ≡ t → ⊥) → commit_all t x ≡ x
all_committed t [] none = refl
all_committed {Op} t (e ∷ x) none =
    ap (λ (d : SharedEntry Op). d ∷ commit_all t x) (stays t e (none e (inl refl)) e.committed refl)
    ∙ ap (λ (z : List (SharedEntry Op)). e ∷ z) (all_committed t x (λ f inside. none f (inr inside)))

-- the committed front of a list in which one more is committed
front_set : {Op : Type 0} (x : List (SharedEntry Op)) (k j : ℕ) (d : SharedEntry Op) → d.committed ≡ true → ((i : ℕ) (e : SharedEntry Op) → i < k → slice_get x i ≡ Some e → e.committed ≡ true) → (i : ℕ) (e : SharedEntry Op) → i < k → slice_get (slice_set x j d) i ≡ Some e → e.committed ≡ true
front_set [] k j d is h i e lt at = cc
front_set {Op} (a ∷ x) k zero d is h zero e lt at = let same : d ≡ e = cc in ap (λ (f : SharedEntry Op). f.committed) (sym same) ∙ is
front_set (a ∷ x) k zero d is h (suc i) e lt at = h (suc i) e lt at
front_set (a ∷ x) k (suc j) d is h zero e lt at = h 0 e lt at
front_set (a ∷ x) zero (suc j) d is h (suc i) e lt at = absurd (omega arith)
front_set {Op} (a ∷ x) (suc k) (suc j) d is h (suc i) e lt at = front_set x k j d is (λ n f less there. h (suc n) f (omega arith) there) i e (omega arith) at

length_set : {A : Type 0} (x : List A) (j : ℕ) (d : A) → length (slice_set x j d) ≡ length x
length_set [] j d = refl
length_set (a ∷ x) zero d = refl
length_set (a ∷ x) (suc j) d = ap suc (length_set x j d)

-- A log whose first k entries are committed has so with an entry set to a committed one.
pub settled_set : {Op : Type 0} (x : List (SharedEntry Op)) (k j : ℕ) (d : SharedEntry Op) → d.committed ≡ true → IsSettled x k → IsSettled (slice_set x j d) k
settled_set x k j d is h =
    let size = length_set x j d in
    let within = h.within in
    record { within = omega arith; committed = front_set x k j d is h.committed }

in_set : {A : Type 0} (x : List A) (j : ℕ) (d f : A) → In f (slice_set x j d) → In f x ⊎ (f ≡ d)
in_set [] j d f h = inl h
in_set (a ∷ x) zero d f h = elim h [ inl same ↦ inr same | inr later ↦ inl (inr later) ]
in_set (a ∷ x) (suc j) d f h = elim h [
  | inl same ↦ inl (inl same)
  | inr later ↦ elim (in_set x j d f later) [ inl there ↦ inl (inr there) | inr same ↦ inr same ]
]

stands_set : {A : Type 0} (x : List A) (j : ℕ) (d e : A) → slice_get x j ≡ Some e → In d (slice_set x j d)
stands_set [] j d e at = cc
stands_set (a ∷ x) zero d e at = inl refl
stands_set (a ∷ x) (suc j) d e at = inr (stands_set x j d e at)

-- entries of one id are one
pub same_entry : {Op : Type 0} (x : List (SharedEntry Op)) → HasDistinctIds (map shared_item x) → (e f : SharedEntry Op) → In e x → In f x → e.id ≡ f.id → e ≡ f
same_entry {Op} x distinct e f = by_key (λ (g : SharedEntry Op). g.id) x (λ p q before is. distinct (shared_item p) (shared_item q) (before_map shared_item p q x before) is) e f

-- If a test has no position in a list, it fails for each element.
pub nowhere : {A : Type 0} (p : A → Bool) (x : List A) → position p x ≡ None → (a : A) → In a x → p a ≡ false
nowhere {A} p x none a inside =
    let at = in_at x a inside in
    let size = none_len p x none in
    let within = at.1 in
    ap p (sym (get_or_from_slice_get x at.0 a a at.2)) ∙ fails_before_first p x at.0 a (omega arith)

-- If a test has a position in a list, it holds for the element there.
pub somewhere : {A : Type 0} (p : A → Bool) (x : List A) (k : ℕ) (a : A) → position p x ≡ Some k → slice_get x k ≡ Some a → p a ≡ true
somewhere p x k a is at = ap p (sym (get_or_from_slice_get x k a a at)) ∙ (position-Some p x k a is).1

-- If a test has a position in a list, there is an element at this position.
pub not_missing : {A : Type 0} (p : A → Bool) (x : List A) (k : ℕ) → position p x ≡ Some k → slice_get x k ≡ None → ⊥
not_missing p [] k is none = absurd (cc)
not_missing p (a ∷ x) k is none = not_past (a ∷ x) k (position-Some p (a ∷ x) k a is).0 none

module _ {Shape Op : Type 0} (t : Name) (id : ℕ) (old : Shape × List (SharedEntry Op)) where
  stays_so : ((e : SharedEntry Op) → In e old.1 → e.committed ≡ false → e.owner ≡ t → id ≢ e.id) → CommitsOne t id old old
  stays_so none = record { shape = refl; items = refl; end = refl; left = λ e inside free own. (inside, none e inside free own) }

  -- there is no entry with this id
  pub commits_nothing : (new : Shape × List (SharedEntry Op)) → new ≡ old → position (λ e. e.id == id) old.1 ≡ None → CommitsOne t id old new
  commits_nothing new same none =
      subst (CommitsOne t id old) (sym same)
      (stays_so (λ e inside _ _ is.
      let found : true ≡ false = sym (eq-eqb e.id id (sym is)) ∙ nowhere (λ (g : SharedEntry Op). g.id == id) old.1 none e inside in cc))

  -- the entry with this id is committed, or another owner's
  pub commits_no_other : (new : Shape × List (SharedEntry Op)) (k : ℕ) (e : SharedEntry Op) → new ≡ old → HasDistinctIds (map shared_item old.1) → position (λ f. f.id == id) old.1 ≡ Some k → slice_get old.1 k ≡ Some e → (not e.committed && (e.owner =ⁿ t)) ≡ false → CommitsOne t id old new
  commits_no_other new k e same distinct is at closed =
      let here : e.id ≡ id = eqb-true e.id id (somewhere (λ (g : SharedEntry Op). g.id == id) old.1 k e is at) in
      subst (CommitsOne t id old) (sym same)
      (stays_so (λ f inside free own one.
      let both : e ≡ f = same_entry old.1 distinct e f (stands_in old.1 k e at) inside (here ∙ one) in
      let uncommitted : e.committed ≡ false = ap (λ (g : SharedEntry Op). g.committed) both ∙ free in
      let owns : (e.owner =ⁿ t) ≡ true = eq-names e.owner t (ap (λ (g : SharedEntry Op). g.owner) both ∙ own) in
      let yes : (not e.committed && (e.owner =ⁿ t)) ≡ true = ap (λ (b : Bool). not b && (e.owner =ⁿ t)) uncommitted ∙ owns in
      let no : true ≡ false = sym yes ∙ closed in cc))

  -- it was committed
  pub commits_entry : (new : Shape × List (SharedEntry Op)) (k : ℕ) (e : SharedEntry Op) → new ≡ (old.0, slice_set old.1 k (as_committed e)) → HasDistinctIds (map shared_item old.1) → position (λ f. f.id == id) old.1 ≡ Some k → slice_get old.1 k ≡ Some e → (not e.committed && (e.owner =ⁿ t)) ≡ true → CommitsOne t id old new
  commits_entry new k e set distinct is at opened =
      let here : e.id ≡ id = eqb-true e.id id (somewhere (λ (g : SharedEntry Op). g.id == id) old.1 k e is at) in
      let owns : (e.owner =ⁿ t) ≡ true = (and_parts (not e.committed) (e.owner =ⁿ t) opened).1 in
      let same_items : map shared_item (slice_set old.1 k (as_committed e)) ≡ map shared_item old.1 = map_set_same shared_item old.1 k (as_committed e) (λ a there. let one : e ≡ a = (let both : Some e ≡ Some a = sym at ∙ there in cc) in ap shared_item one) in
      let there : CommitsOne t id old (old.0, slice_set old.1 k (as_committed e)) = record {
        shape = refl;
        items = same_items;
        end = map_set_same (commit t) old.1 k (as_committed e) (λ a there. let one : e ≡ a = (let both : Some e ≡ Some a = sym at ∙ there in cc) in is_committed t (as_committed e) owns ∙ sym (is_committed t e owns) ∙ ap (commit t) one);
        left = λ f inside free own. (
          elim (in_set old.1 k (as_committed e) f inside) [ inl before ↦ before | inr same ↦ absurd (closed f free same) ],
          λ one.
              closed f free (sym (same_entry (slice_set old.1 k (as_committed e)) (subst HasDistinctIds (sym same_items) distinct) (as_committed e) f (stands_set old.1 k (as_committed e) e at) inside (here ∙ one))),
        );
      } in
      subst (CommitsOne t id old) (sym set) there
    where
      closed : (f : SharedEntry Op) → f.committed ≡ false → f ≡ as_committed e → ⊥
      closed f free same = let no : true ≡ false = ap (λ (g : SharedEntry Op). g.committed) (sym same) ∙ free in cc

-- the ids that are left
pub ids_left : {Shape Op : Type 0} (t : Name) (p : Item Op) (items : List (Item Op)) (old new : Shape × List (SharedEntry Op)) → CommitsOne t p.id old new → HoldsIdsOf t (p ∷ items) old.1 → HoldsIdsOf t items new.1
ids_left {Shape} {Op} t p items old new one holds e inside free own =
    let left = one.left e inside free own in
    let among = holds e left.0 free own in
    elim among.1 [
      | inl same ↦ absurd (left.1 (ap (λ (q : Item Op). q.id) (sym same) ∙ among.2))
      | inr later ↦ (among.0, later, among.2)
    ]

-- the items from a place on
drop_here : {A : Type 0} (i : ℕ) (x : List A) (a : A) → i < length x → a ≡ get_or x i a → drop i x ≡ a ∷ drop (suc i) x
drop_here i [] a lt is = absurd (omega arith)
drop_here {A} zero (b ∷ x) a lt is = ap (λ (c : A). c ∷ x) (sym is)
drop_here (suc i) (b ∷ x) a lt is = drop_here i x a (omega arith) is

drop_past : {A : Type 0} (i : ℕ) (x : List A) → length x ≤ i → drop i x ≡ []
drop_past zero [] h = refl
drop_past (suc i) [] h = refl
drop_past zero (a ∷ x) h = absurd (omega arith)
drop_past (suc i) (a ∷ x) h = drop_past i x (omega arith)

-- The items from a position on hold the ids of an owner as the item there and the others do.
pub held_from : {Op : Type 0} (t : Name) (i : ℕ) (items : List (Item Op)) (p : Item Op) (log : List (SharedEntry Op)) → i < length items → p ≡ get_or items i p → HoldsIdsOf t (drop i items) log → HoldsIdsOf t (p ∷ drop (i + 1) items) log
held_from {Op} t i items p log lt is =
    let next : suc i ≡ i + 1 = omega arith in
    subst (λ (z : List (Item Op)). HoldsIdsOf t z log) (drop_here i items p lt is ∙ ap (λ (n : ℕ). p ∷ drop n items) next)

-- If no id is left, all entries of the owner are committed.
pub all_of_owner : {Shape Op : Type 0} (t : Name) (i : ℕ) (items : List (Item Op)) (old new : Shape × List (SharedEntry Op)) → new.0 ≡ old.0 → commit_all t new.1 ≡ commit_all t old.1 → length items ≤ i → HoldsIdsOf t (drop i items) new.1 → new ≡ (old.0, commit_all t old.1)
all_of_owner {Shape} {Op} t i items old new shape end past holds =
    let none : HoldsIdsOf t [] new.1 = subst (λ (z : List (Item Op)). HoldsIdsOf t z new.1) (drop_past i items past) holds in
    let list : new.1 ≡ commit_all t old.1 = sym (all_committed t new.1 (λ e inside free own. (none e inside free own).1)) ∙ end in
    ap (λ (s : Shape). pair s new.1) shape ∙ ap (pair old.0) list
