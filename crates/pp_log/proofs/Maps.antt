-- Facts about the entries of a log, from facts about their items.
use Rattle.std.proofs.Common.{◌≡◌, ℕ, ◌<◌, ◌+◌, ◌≤◌, Bool, not, cond, ◌==◌, List, [], ◌∷◌, ◌++◌}
use Rattle.std.proofs.Common.{length, map, get_or, refl, sym, ◌∙◌, ap, subst, arith, inl, inr, None}
use Rattle.std.specs.List.{remove, position, position_or_len}
use Rattle.std.proofs.lemmas.List.{length-map}
use Rattle.std.proofs.lemmas.Bool.Decides.{eqb_tells}
use Rattle.pp_core.specs.declared.answer.Answer.{Answer}
use Rattle.pp_core.specs.declared.entry.Item.{Item}
use Rattle.pp_kind.specs.declared.range.TheConstants.{MOST_OPERATIONS}
use Rattle.pp_kind.specs.Object.{Object, IsAllowed, IsLegal, state_after}
use Rattle.pp_kind.proofs.Lists.{last_is_legal}
use Rattle.pp_log.specs.declared.place.Removed.{Removed}
use Rattle.pp_log.specs.declared.place.Removed.TheVariants.{Done, Differs}
use Rattle.pp_model.specs.Object.{ops}
use Rattle.pp_log.proofs.Distinct.{IsNew}
use Rattle.pp_log.specs.TakesOut.{itself}
use Rattle.std.proofs.Math.ListN.{get_or-map}
use Rattle.indexmap.proofs.SetLemmas.{map-remove}
use Rattle.pp_log.proofs.Lists.{pair, cut, none_len, same_position}
use Rattle.pp_log.proofs.Sites.{IsSite, left, site_of}
use Rattle.pp_log.specs.Logs.{DiffersFirst, RemovesEntry, entry_ops, from_place}

-- Lists of entries, and the items that they have.
pub ops_mapped : {E Op : Type 0} (f : E → Item Op) (x : List E) → ops (map f x) ≡ entry_ops f x
ops_mapped f [] = refl
ops_mapped {E} {Op} f (e ∷ x) = ap (λ (z : List Op). (f e).op ∷ z) (ops_mapped f x)

-- A log, and the items that it keeps.
pub record IsSeen {Shape Op E : Type 0} (f : E → Item Op) (past : Shape × List (Item Op)) (log : Shape × List E) : Type 0 where
  pub shape : past.0 ≡ log.0
  pub items : past.1 ≡ map f log.1

-- A log with its shape is seen as the items of its entries in that shape.
pub seen : {Shape Op E : Type 0} (f : E → Item Op) (sh : Shape) (x : List E) (log : Shape × List E) → ◌≡◌ {A = Shape × List E} (sh, x) log → IsSeen f (sh, map f x) log
seen {Shape} {Op} {E} f sh x log is = record { shape = ap (λ (p : Shape × List E). p.0) is; items = ap (λ (p : Shape × List E). map f p.1) is }

-- A fact about a past with its operations is a fact about the log.
pub through : {Shape Op E : Type 0} {f : E → Item Op} {past : Shape × List (Item Op)} {log : Shape × List E} (P : Shape → List Op → Type 0) → IsSeen f past log → P past.0 (ops past.1) → P log.0 (entry_ops f log.1)
through {Shape} {Op} {E} {f} {past} {log} P s h =
    subst (λ (z : List Op). P log.0 z) (ops_mapped f log.1) (subst (λ (z : List (Item Op)). P log.0 (ops z)) s.items (subst (λ (sh : Shape). P sh (ops past.1)) s.shape h))

-- A fact of the items that are seen of a log is a fact of the operations of its entries.
pub back : {Shape Op E : Type 0} {f : E → Item Op} {past : Shape × List (Item Op)} {log : Shape × List E} (P : Shape → List Op → Type 0) → IsSeen f past log → P log.0 (entry_ops f log.1) → P past.0 (ops past.1)
back {Shape} {Op} {E} {f} {past} {log} P s h =
    subst (λ (sh : Shape). P sh (ops past.1)) (sym s.shape) (subst (λ (z : List (Item Op)). P log.0 (ops z)) (sym s.items) (subst (λ (z : List Op). P log.0 z) (sym (ops_mapped f log.1)) h))

-- Ids.
pub position_seen : {Op E : Type 0} (f : E → Item Op) (y : List (Item Op)) (x : List E) (id : ℕ) → y ≡ map f x → position (λ (e : Item Op). e.id == id) y ≡ position (λ (e : E). (f e).id == id) x
position_seen {Op} {E} f y x id h =
    ap (position (λ (e : Item Op). e.id == id)) h ∙ same_position f (λ (e : Item Op). e.id == id) (λ (e : E). (f e).id == id) (λ e. refl) x

-- If the search for an id goes to the end of the list, the id is new.
pub new_len : {Op : Type 0} (x : List (Item Op)) (id : ℕ) → length x ≤ position_or_len (λ (e : Item Op). e.id == id) x → IsNew id x
new_len [] id h = tt
new_len {Op} (e ∷ x) id h =
    let rest = position_or_len (λ (d : Item Op). d.id == id) x in
    elim (eqb_tells e.id id) [
      | inl k ↦ let at : position_or_len (λ (d : Item Op). d.id == id) (e ∷ x) ≡ 0 = ap (λ (b : Bool). cond (not b) (1 + rest) 0) k.0 in absurd (omega arith)
      | inr k ↦ let at : position_or_len (λ (d : Item Op). d.id == id) (e ∷ x) ≡ 1 + rest = ap (λ (b : Bool). cond (not b) (1 + rest) 0) k.0 in
          ((λ same. k.1 (sym same)), new_len x id (omega arith))
    ]

-- If no entry of a log has the id of an entry, this id is new among the items of the log.
pub new_seen : {Shape Op E : Type 0} (f : E → Item Op) (sh : Shape) (x : List E) (log : Shape × List E) (a : E) (e : Item Op) → ◌≡◌ {A = Shape × List E} (sh, x) log → e ≡ f a → position (λ (b : E). (f b).id == (f a).id) log.1 ≡ None → IsNew e.id (map f x)
new_seen {Shape} {Op} {E} f sh x log a e is item none =
    let absent = none_len (λ (d : Item Op). d.id == (f a).id) (map f x) (position_seen f (map f x) log.1 (f a).id (ap (λ (p : Shape × List E). map f p.1) is) ∙ none) in
    subst (λ (d : Item Op). IsNew d.id (map f x)) (sym item) (new_len (map f x) (f a).id absent)

-- A log with one more entry.
pub legal_seen : {Shape State Op Undo E : Type 0} (o : Object Shape State Op Undo) (f : E → Item Op) (s : State) (x : List E) (log : Shape × List E) (a : E) (e : Item Op) → ◌≡◌ {A = Shape × List E} (o.shape s, x) log → s ≡ state_after o (o.shape s) (ops (map f x)) → e ≡ f a → IsAllowed o log.0 (entry_ops f log.1 ++ (f a).op ∷ []) → IsLegal o s e.op
legal_seen {Shape} {State} {Op} {Undo} {E} o f s x log a e is after item h =
    subst (λ (d : Item Op). IsLegal o s d.op) (sym item)
    (last_is_legal o (o.shape s) s (ops (map f x)) (f a).op after (back (λ sh xs. IsAllowed o sh (xs ++ (f a).op ∷ [])) (seen f (o.shape s) x log is) h))

-- A log whose entries are fewer than its limit has as few items.
pub few_seen : {Shape Op E : Type 0} (f : E → Item Op) (sh : Shape) (x : List E) (log : Shape × List E) → ◌≡◌ {A = Shape × List E} (sh, x) log → length log.1 < MOST_OPERATIONS → length (map f x) < MOST_OPERATIONS
few_seen {Shape} {Op} {E} f sh x log is few =
    let size = length-map x f in
    let short : length x < MOST_OPERATIONS = subst (λ (p : Shape × List E). length p.1 < MOST_OPERATIONS) (sym is) few in
    omega arith

differs_entry : {Shape State Op Undo E : Type 0} (o : Object Shape State Op Undo) (f : E → Item Op) (sh : Shape) (x : List E) (id : ℕ) (answer : Answer) → DiffersFirst o itself sh (map f x) id answer → DiffersFirst o f sh x id answer
differs_entry {Shape} {State} {Op} {Undo} {E} o f sh x id answer h =
    let r = cut f x h.before h.after h.entry h.is in
    let same : ops h.before ≡ entry_ops f r.front = ap (λ (z : List (Item Op)). ops z) (sym r.front_is) ∙ ops_mapped f r.front in
    record {
      before = r.front;
      entry = r.entry;
      after = r.back;
      is = r.is;
      id_is = ap (λ (e : Item Op). e.id) r.entry_is ∙ h.id_is;
      allowed = subst (λ (z : List Op). IsAllowed o sh z) same h.allowed;
      gives = ap (λ (e : Item Op). o.gives (state_after o sh (entry_ops f r.front)) e.op) r.entry_is ∙ ap (λ (z : List Op). o.gives (state_after o sh z) h.entry.op) (sym same) ∙ h.gives;
      differs = λ is. h.differs (is ∙ ap (λ (e : Item Op). o.recorded e.op) r.entry_is);
    }

-- The entries that a removal leaves have the items that it leaves.
pub left_mapped : {A B : Type 0} (f : A → B) (removed : Removed) (x : List A) (i : ℕ) → map f (left removed x i) ≡ left removed (map f x) i
left_mapped f Done x i = map-remove f x i
left_mapped f (Differs id answer) x i = refl

-- To remove an item from the items of a log is to remove its entry from the log.
pub entry_removed : {Shape State Op Undo E : Type 0} (o : Object Shape State Op Undo) (f : E → Item Op) (sh new : Shape) (x : List E) (i : ℕ) (removed : Removed) → RemovesEntry o itself (sh, map f x) i (new, left removed (map f x) i) removed → RemovesEntry o f (sh, x) i (new, left removed x i) removed
entry_removed {Shape} {State} {Op} {Undo} {E} o f sh new x i Done r =
    let same : ops (remove (map f x) i) ≡ entry_ops f (remove x i) = ap (λ (z : List (Item Op)). ops z) (sym (map-remove f x i)) ∙ ops_mapped f (remove x i) in (
      ap (λ (p : Shape × List (Item Op)). pair p.0 (remove x i)) r.0,
      subst (λ (z : List Op). IsAllowed o sh z) same r.1,
    )
entry_removed {Shape} {State} {Op} {Undo} {E} o f sh new x i (Differs id answer) r = (
  ap (λ (p : Shape × List (Item Op)). pair p.0 x) r.0,
  differs_entry o f sh (remove x i) id answer (subst (λ (z : List (Item Op)). DiffersFirst o itself sh z id answer) (sym (map-remove f x i)) r.1),
)

-- A position of a log is a position of the list of its items.
pub inside : {Shape A B : Type 0} (f : A → B) (sh : Shape) (x : List A) (log : Shape × List A) (i : ℕ) → ◌≡◌ {A = Shape × List A} (sh, x) log → i < length log.1 → i < length (map f x)
inside {Shape} {A} f sh x log i is lt =
    let size = length-map x f in
    let within : i < length x = subst (λ (p : Shape × List A). i < length p.1) (sym is) lt in
    omega arith

-- The entry at a position of a log has its site among the items.
pub site_seen : {Shape Op E : Type 0} (place : Op → ℕ) (f : E → Item Op) (sh : Shape) (x : List E) (log : Shape × List E) (i : ℕ) (a : E) (e : Item Op) (p : ℕ) → ◌≡◌ {A = Shape × List E} (sh, x) log → i < length log.1 → a ≡ get_or x i a → e ≡ f a → p ≡ place e.op → IsSite place (map f x) i e p
site_seen {Shape} {Op} {E} place f sh x log i a e p is lt at item here =
    site_of place (map f x) i e p (inside f sh x log i is lt) (item ∙ ap f at ∙ sym (get_or-map f x i a) ∙ ap (λ (d : Item Op). get_or (map f x) i d) (sym item)) (sym here)

-- How many operations of its place are from an entry on.
pub count_seen : {Shape Op E : Type 0} (place : Op → ℕ) (f : E → Item Op) (sh : Shape) (x : List E) (log : Shape × List E) (i : ℕ) → ◌≡◌ {A = Shape × List E} (sh, x) log → from_place place (ops (map f x)) i ≡ from_place place (entry_ops f log.1) i
count_seen {Shape} {Op} {E} place f sh x log i is = ap (λ (z : List Op). from_place place z i) (ops_mapped f x) ∙ ap (λ (p : Shape × List E). from_place place (entry_ops f p.1) i) is
