-- The conditions of a record on a summary are its conditions on the part on its object.
use Rattle.std.specs.Prelude.{◌≡◌, ◌==◌, Bool, true, false, cond, not, ◌&&◌, ◌||◌, ℕ, zero, List, [], ◌∷◌, ◌++◌, drop, filter, length, map, take, slice_get, Option, None, Some}
use Rattle.std.specs.List.{list_any}
use Rattle.std.proofs.Common.{refl, sym, ap, subst, ◌∙◌}
use Rattle.std.proofs.lemmas.Bool.{and_parts, eq-eqb}
use mathlib.Core.Logic.{inl, inr}
use Rattle.pp_core.specs.declared.call.Kind.{Kind}
use Rattle.pp_core.specs.declared.call.Style.{Style}
use Rattle.pp_core.specs.declared.call.Style.TheVariants.{Rules, Boosted, Optimistic, Hardware, Dependent}
use Rattle.pp_model.specs.Body.{IsWord}
use Rattle.pp_model.specs.Config.{LocalEntry, SharedEntry, Unpushed, is_mark, item, local_ops, shared_ops}
use Rattle.pp_model.specs.Lists.{In}
use Rattle.pp_model.specs.Object.{Allowed, Item, Object, ops}
use Rattle.pp_model.specs.Rules.{calls}
use Rattle.pp_model.specs.Serial.{has_id}
use Rattle.pp_model.proofs.Lists.{from_filter, in_filter}
use Rattle.pp_records.specs.Fronts.{is_memory}
use Rattle.pp_laws_summary.specs.LocalLogs.{AtOnce, HasSummary, serial_at, unpushed}
use Rattle.pp_laws_summary.specs.Places.{PlacesPart, ops_at}
use Rattle.pp_laws_summary.specs.Summary.{Held, OpenSummary, Summary, SummaryCommit, SummaryOp, SummaryPush, SummaryPushes, SummaryRefresh, seen_ids, summary_missing, summary_mode, summary_pulled, summary_view, touched_since}
use Rattle.pp_laws_summary.proofs.Parts.{at-append, part_from_whole, whole_from_part}
use Rattle.pp_laws_summary.proofs.Relog.{filter_within}
use Rattle.pp_laws_locality.specs.Bookkeeping.{OpBookkeeping}
use Rattle.pp_laws_locality.proofs.Filtered.{any_passed, drop_passed, filter_again, filters_turned}
use Rattle.pp_laws_locality.proofs.Parts.{held_at, open_at, ops_own, ops_shared, own_at, seen_here, seen_none, seen_only, serial_same, shared_at, summary_at}

-- the mode of an operation, on the object
pub mode_at : {Op : Type 0} (place : Op → ℕ) (o : ℕ) (style : Style) (ks : List Kind) (x : OpenSummary Op) (p : ℕ) → summary_mode style ks (open_at place o x) p ≡ held_at place o x.own (summary_mode style ks x p)
mode_at place o Rules ks x p = refl
mode_at place o Boosted ks x p = refl
mode_at place o Optimistic ks x p = ap (λ (w : ℕ → ℕ). Some (record { own = zero; seen = w })) (sym (seen_none o))
mode_at place o Hardware ks x p = by (is_memory (slice_get ks p))
  where
    by : (b : Bool) → cond b (held_at place o x.own x.held) None ≡ held_at place o x.own (cond b x.held None)
    by true = refl
    by false = refl
mode_at place o Dependent ks x p = refl

-- Whether the object was touched since a section began is the same in the part on the object.
pub touched_at : {Op : Type 0} (place : Op → ℕ) (o : ℕ) (h : Held) (x : OpenSummary Op) →
    touched_since place o (record { own = length (own_at place o (take h.own x.own)); seen = seen_only o h.seen }) (open_at place o x) ≡ touched_since place o h x
touched_at {Op} place o h x =
    let rest = list_any (λ (e : LocalEntry Op). place e.op == o) (drop (length (own_at place o (take h.own x.own))) (own_at place o x.own)) in
    ap (λ (n : ℕ). not (n == seen_only o h.seen o) || rest) (seen_here o x.seen)
    ∙ ap (λ (n : ℕ). not (x.seen o == n) || rest) (seen_here o h.seen)
    ∙ ap (λ (w : List (LocalEntry Op)). not (x.seen o == h.seen o) || list_any (λ (e : LocalEntry Op). place e.op == o) w) (drop_passed (λ (e : LocalEntry Op). place e.op == o) h.own x.own)
    ∙ ap (λ (z : Bool). not (x.seen o == h.seen o) || z) (any_passed (λ (e : LocalEntry Op). place e.op == o) (drop h.own x.own))

module _ {Op : Type 0} (place : Op → ℕ) (o : ℕ) (js : List ℕ) (B : Summary Op) (x : OpenSummary Op) where
  abbrev C : Summary Op
  C = summary_at place o js B

  -- the snapshot on the object
  snapshot_at : take (seen_only o x.seen o) (serial_at place o C.done) ≡ take (x.seen o) (serial_at place o B.done)
  snapshot_at =
      ap (λ (n : ℕ). take n (serial_at place o C.done)) (seen_here o x.seen)
      ∙ ap (λ (w : List (Item Op)). take (x.seen o) w) (serial_same place o B.done)

  -- The entries missed on the object are the same in the part.
  pub missing_same : summary_missing place o C (open_at place o x) ≡ summary_missing place o B x
  missing_same =
      ap (λ (w : List (Item Op)). filter (λ (g : SharedEntry Op). (g.committed && (place g.op == o)) && not (has_id g.id (map (λ (p : Item Op). p.id) w))) C.shared) snapshot_at
      ∙ filter_within (λ (g : SharedEntry Op). (g.committed && (place g.op == o)) && not (has_id g.id (seen_ids place o B.done x))) (λ (g : SharedEntry Op). place g.op == o) B.shared
      (λ g i h. (and_parts g.committed (place g.op == o) (and_parts (g.committed && (place g.op == o)) (not (has_id g.id (seen_ids place o B.done x))) h).0).1)

  -- An operation on the object pulls the same entries in the part.
  pub pulled_same : (w : Option Held) → summary_pulled place (held_at place o x.own w) o C (open_at place o x) ≡ summary_pulled place w o B x
  pulled_same None = missing_same
  pulled_same (Some h) =
      ap (λ (b : Bool). cond b [] (summary_missing place o C (open_at place o x))) (touched_at place o h x)
      ∙ ap (λ (w : List (SharedEntry Op)). cond (touched_since place o h x) [] w) missing_same

  -- A transaction has the same operations of the object in the part.
  pub view_same : summary_view place o C.done (open_at place o x) ≡ summary_view place o B.done x
  view_same =
      ap (λ (w : List (Item Op)). ops w ++ ops_at place o (local_ops (own_at place o x.own))) snapshot_at
      ∙ ap (λ (w : List Op). ops (take (x.seen o) (serial_at place o B.done)) ++ w)
      (ops_own place o (own_at place o x.own) ∙ ap (λ (w : List (LocalEntry Op)). local_ops w) (filter_again (λ (e : LocalEntry Op). place e.op == o) x.own) ∙ sym (ops_own place o x.own))

-- the unpushed entries on the object
pub unpushed_at : {Op : Type 0} (place : Op → ℕ) (o : ℕ) (l : List (LocalEntry Op)) → unpushed (own_at place o l) ≡ own_at place o (unpushed l)
unpushed_at {Op} place o l = filters_turned (λ (e : LocalEntry Op). is_mark e.mark Unpushed) (λ (e : LocalEntry Op). place e.op == o) l

-- an entry on the object is an entry
pub from_own : {Op : Type 0} (place : Op → ℕ) (o : ℕ) (e : LocalEntry Op) (l : List (LocalEntry Op)) → In e (own_at place o l) → In e l
from_own {Op} place o e l i = (from_filter (λ (w : LocalEntry Op). place w.op == o) e l i).0

-- An own entry that is on an object is among the own entries on the object.
pub to_own : {Op : Type 0} (place : Op → ℕ) (o : ℕ) (e : LocalEntry Op) (l : List (LocalEntry Op)) → In e l → place e.op ≡ o → In e (own_at place o l)
to_own {Op} place o e l i n = in_filter (λ (w : LocalEntry Op). place w.op == o) e l i (eq-eqb (place e.op) o n)

-- An entry of the shared log on an object is an entry of the shared log.
pub from_shared : {Op : Type 0} (place : Op → ℕ) (o : ℕ) (g : SharedEntry Op) (G : List (SharedEntry Op)) → In g (shared_at place o G) → In g G
from_shared {Op} place o g G i = (from_filter (λ (w : SharedEntry Op). place w.op == o) g G i).0

-- An entry of the shared log that is on an object is among those on the object.
pub to_shared : {Op : Type 0} (place : Op → ℕ) (o : ℕ) (g : SharedEntry Op) (G : List (SharedEntry Op)) → In g G → place g.op ≡ o → In g (shared_at place o G)
to_shared {Op} place o g G i n = in_filter (λ (w : SharedEntry Op). place w.op == o) g G i (eq-eqb (place g.op) o n)

module _ {Op State : Type 0} (O : Object Op State) (place : Op → ℕ) (part : PlacesPart O place) (js : List ℕ) (B : Summary Op) (x : OpenSummary Op) where
  push_to : (op : Op) → SummaryPush O place B op x → SummaryPush O place (summary_at place (place op) js B) op (open_at place (place op) x)
  push_to op g =
      let o = place op in
      record {
        turns = λ a i p m. g.turns a (from_own place o a x.own i) p m;
        passes = λ u i c n p. g.passes u (from_shared place o u B.shared i) c n p;
        allowed = subst (λ (w : List Op). Allowed O (w ++ op ∷ [])) (ops_shared place o B.shared)
            (part_from_whole O place part o (shared_ops B.shared) (op ∷ []) (λ a i. elim i [ inl e ↦ ap place e | inr e ↦ absurd e ]) g.allowed);
      }

  push_from : (op : Op) → Allowed O (shared_ops B.shared) → SummaryPush O place (summary_at place (place op) js B) op (open_at place (place op) x) → SummaryPush O place B op x
  push_from op all g =
      let o = place op in
      record {
        turns = λ a i p m. g.turns a (to_own place o a x.own i p) p m;
        passes = λ u i c n p. g.passes u (to_shared place o u B.shared i p) c n p;
        allowed = whole_from_part O place part o (shared_ops B.shared) (op ∷ []) (λ a i. elim i [ inl e ↦ ap place e | inr e ↦ absurd e ]) all
            (subst (λ (w : List Op). Allowed O (w ++ op ∷ [])) (sym (ops_shared place o B.shared)) g.allowed);
      }

  once_to : (o : ℕ) (w : Option Held) (P Q : Type 0) → (P → Q) → AtOnce w P → AtOnce (held_at place o x.own w) Q
  once_to o None P Q k a = k a
  once_to o (Some h) P Q k a = tt

  once_from : (o : ℕ) (w : Option Held) (P Q : Type 0) → (Q → P) → AtOnce (held_at place o x.own w) Q → AtOnce w P
  once_from o None P Q k a = k a
  once_from o (Some h) P Q k a = tt

  module _ (style : Style) (op : Op) where
    abbrev o : ℕ
    o = place op

    abbrev D : Summary Op
    D = summary_at place o js B

    abbrev mode : Option Held
    mode = summary_mode style B.kinds x o

    pulled_here : summary_pulled place (summary_mode style B.kinds (open_at place o x) o) o D (open_at place o x) ≡ summary_pulled place mode o B x
    pulled_here =
        ap (λ (w : Option Held). summary_pulled place w o D (open_at place o x)) (mode_at place o style B.kinds x o)
        ∙ pulled_same place o js B x mode

    -- A good operation is good on its object.
    pub op_to : (id : ℕ) → ((i : ℕ) → In i js → In i B.ids) → SummaryOp O place style B id op x → SummaryOp O place style D id op (open_at place o x)
    op_to id known g = record {
      new = λ i. g.new (known id i);
      begins = ([], tt);
      swaps = λ a h i p j. g.swaps a h (from_own place o a x.own i) p (subst (λ (w : List (SharedEntry Op)). In h w) pulled_here j);
      allowed = subst (λ (w : List Op). Allowed O (w ++ (shared_ops (summary_pulled place (summary_mode style B.kinds (open_at place o x) o) o D (open_at place o x)) ++ op ∷ []))) (sym (view_same place o js B x))
          (subst (λ (w : List (SharedEntry Op)). Allowed O (summary_view place o B.done x ++ (shared_ops w ++ op ∷ []))) (sym pulled_here) g.allowed);
      pushed = subst (λ (w : Option Held). AtOnce w (SummaryPush O place D op (open_at place o x))) (sym (mode_at place o style B.kinds x o))
          (once_to o mode (SummaryPush O place B op x) (SummaryPush O place D op (open_at place o x)) (push_to op) g.pushed);
    }

    -- An operation whose bookkeeping is right is good if it is good on its object.
    pub op_from : (id : ℕ) → Allowed O (shared_ops B.shared) → OpBookkeeping O B id op x → SummaryOp O place style D id op (open_at place o x) → SummaryOp O place style B id op x
    op_from id all book g = record {
      new = book.new;
      begins = book.begins;
      swaps = λ a h i p j. g.swaps a h (to_own place o a x.own i p) p (subst (λ (w : List (SharedEntry Op)). In h w) (sym pulled_here) j);
      allowed = subst (λ (w : List (SharedEntry Op)). Allowed O (summary_view place o B.done x ++ (shared_ops w ++ op ∷ []))) pulled_here
          (subst (λ (w : List Op). Allowed O (w ++ (shared_ops (summary_pulled place (summary_mode style B.kinds (open_at place o x) o) o D (open_at place o x)) ++ op ∷ []))) (view_same place o js B x) g.allowed);
      pushed = once_from o mode (SummaryPush O place B op x) (SummaryPush O place D op (open_at place o x)) (push_from op all)
          (subst (λ (w : Option Held). AtOnce w (SummaryPush O place D op (open_at place o x))) (mode_at place o style B.kinds x o) g.pushed);
    }

  -- a refresh of the object
  pub refresh_to : (o : ℕ) → SummaryRefresh O place B o x → SummaryRefresh O place (summary_at place o js B) o (open_at place o x)
  refresh_to o g = record {
    swaps = λ a h i p j. g.swaps a h (from_own place o a x.own i) p (subst (λ (w : List (SharedEntry Op)). In h w) (missing_same place o js B x) j);
    allowed = subst (λ (w : List Op). Allowed O (w ++ shared_ops (summary_missing place o (summary_at place o js B) (open_at place o x)))) (sym (view_same place o js B x))
        (subst (λ (w : List (SharedEntry Op)). Allowed O (summary_view place o B.done x ++ shared_ops w)) (sym (missing_same place o js B x)) g.allowed);
  }

  -- A refresh that is good on its object is good.
  pub refresh_from : (o : ℕ) → SummaryRefresh O place (summary_at place o js B) o (open_at place o x) → SummaryRefresh O place B o x
  refresh_from o g = record {
    swaps = λ a h i p j. g.swaps a h (to_own place o a x.own i p) p (subst (λ (w : List (SharedEntry Op)). In h w) (sym (missing_same place o js B x)) j);
    allowed = subst (λ (w : List (SharedEntry Op)). Allowed O (summary_view place o B.done x ++ shared_ops w)) (missing_same place o js B x)
        (subst (λ (w : List Op). Allowed O (w ++ shared_ops (summary_missing place o (summary_at place o js B) (open_at place o x)))) (view_same place o js B x) g.allowed);
  }

  pushes_at : (o : ℕ) → ops_at place o (shared_ops B.shared ++ local_ops (unpushed x.own)) ≡ shared_ops (shared_at place o B.shared) ++ local_ops (unpushed (own_at place o x.own))
  pushes_at o =
      at-append place o (shared_ops B.shared) (local_ops (unpushed x.own))
      ∙ ap (λ (w : List Op). w ++ ops_at place o (local_ops (unpushed x.own))) (ops_shared place o B.shared)
      ∙ ap (λ (w : List Op). shared_ops (shared_at place o B.shared) ++ w)
      (ops_own place o (unpushed x.own) ∙ ap (λ (w : List (LocalEntry Op)). local_ops w) (sym (unpushed_at place o x.own)))

  -- the pushes of all unpushed entries
  pub pushes_to : (o : ℕ) → SummaryPushes O place B x → SummaryPushes O place (summary_at place o js B) (open_at place o x)
  pushes_to o g = record {
    passes = λ e u i j. g.passes e u (from_own place o e (unpushed x.own) (subst (λ (w : List (LocalEntry Op)). In e w) (unpushed_at place o x.own) i)) (from_shared place o u B.shared j);
    allowed = subst (λ (w : List Op). Allowed O w) (pushes_at o) ((part.parts (shared_ops B.shared ++ local_ops (unpushed x.own))).0 g.allowed o);
  }

-- All pushes are good if those on each object are.
pub pushes_from : {Op State : Type 0} (O : Object Op State) (place : Op → ℕ) → PlacesPart O place → (js : ℕ → List ℕ) (B : Summary Op) (x : OpenSummary Op) →
    ((o : ℕ) → SummaryPushes O place (summary_at place o (js o) B) (open_at place o x)) → SummaryPushes O place B x
pushes_from {Op} O place part js B x g = record {
  passes = λ e u i j c n p. (g (place e.op)).passes e u
      (subst (λ (w : List (LocalEntry Op)). In e w) (sym (unpushed_at place (place e.op) x.own)) (to_own place (place e.op) e (unpushed x.own) i refl))
      (to_shared place (place e.op) u B.shared j p) c n p;
  allowed = (part.parts (shared_ops B.shared ++ local_ops (unpushed x.own))).1
      (λ o. subst (λ (w : List Op). Allowed O w) (sym (pushes_at O place part (js o) B x o)) (g o).allowed);
}

module _ {Op State : Type 0} (O : Object Op State) (place : Op → ℕ) (part : PlacesPart O place) (B : Summary Op) (x : OpenSummary Op) where
  -- A good commit is good on each object.
  pub commit_to : (style : Style) → HasSummary style → (o : ℕ) (js : List ℕ) → SummaryCommit style O place B x → SummaryCommit style O place (summary_at place o js B) (open_at place o x)
  commit_to Rules h o js g = absurd h
  commit_to Boosted h o js g = record { word = tt; pushed = λ e i m. g.pushed e (from_own place o e x.own i) m }
  commit_to Optimistic h o js g = record { word = tt; pushed = pushes_to O place part js B x o g.pushed }
  commit_to Hardware h o js g = record { word = tt; pushed = pushes_to O place part js B x o g.pushed }
  commit_to Dependent h o js g = absurd h

  -- A commit is good if its calls are a word of the body, and it is good on each object.
  pub commit_from : (style : Style) → HasSummary style → (js : ℕ → List ℕ) → IsWord x.body (calls O (map item x.own)) →
      ((o : ℕ) → SummaryCommit style O place (summary_at place o (js o) B) (open_at place o x)) → SummaryCommit style O place B x
  commit_from Rules h js w g = absurd h
  commit_from Boosted h js w g = record { word = w; pushed = λ e i m. (g (place e.op)).pushed e (to_own place (place e.op) e x.own i refl) m }
  commit_from Optimistic h js w g = record { word = w; pushed = pushes_from O place part js B x (λ o. (g o).pushed) }
  commit_from Hardware h js w g = record { word = w; pushed = pushes_from O place part js B x (λ o. (g o).pushed) }
  commit_from Dependent h js w g = absurd h
