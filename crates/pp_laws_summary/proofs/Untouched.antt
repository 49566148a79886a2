-- Pulled entries of an object without own entries meet each criterion.
use Rattle.std.specs.Prelude.{◌≡◌, ◌≢◌, ◌⊎◌, ℕ, Bool, true, false, not, List, [], ◌∷◌, ◌++◌, drop, filter, map, take}
use Rattle.std.proofs.Common.{refl, sym, ap, subst, ◌∙◌, append_assoc}
use Rattle.std.proofs.lemmas.List.{append-nil, map-append, take-append-drop}
use mathlib.Core.Logic.{inl, inr}
use Rattle.pp_model.specs.Config.{Config, LocalEntry, SharedEntry, Tx, own, shared_item, local_ops, shared_ops}
use Rattle.pp_model.specs.Lists.{In, Before}
use Rattle.pp_model.specs.Object.{Allowed, AllowedFrom, Item, Object, Reorders, TellsStates, ops, state}
use Rattle.pp_model.specs.Serial.{has_id}
use Rattle.pp_model.specs.Sound.{Sound}
use Rattle.pp_model.proofs.Lists.{in_left, in_right, in_cases, in_map, from_map, in_filter, from_filter, before_map, before_from_map, before_from_filter, before_cases, before_left, before_across, by_key, not_both}
use Rattle.pp_model.proofs.Permute.{permuted}
use Rattle.pp_model.proofs.Serial.{allowed_back}
use Rattle.pp_records.specs.Fronts.{Front}
use Rattle.pp_laws_summary.specs.Counts.{first_ids}
use Rattle.pp_laws_summary.specs.LocalLogs.{serial_at}
use Rattle.pp_laws_summary.specs.Places.{PlacesPart, ops_at}
use Rattle.pp_laws_summary.specs.Summary.{open_summary, summary_view}
use Rattle.pp_laws_summary.specs.Untouched.{HasNoneAt, UntouchedIsSafe, others_at, refreshed_at}
use Rattle.pp_laws_summary.specs.Views.{done_at}
use Rattle.pp_laws_summary.proofs.AtPlace.{filter_twice, is_done_at}
use Rattle.pp_laws_summary.proofs.Entries.{has_in, in_has, ops_items, was_false}
use Rattle.pp_laws_summary.proofs.Parts.{at_none}
use Rattle.pp_laws_summary.proofs.Snapshots.{done_serial}
use Rattle.pp_laws_summary.proofs.States.{done_allowed, done_state}
use Rattle.pp_laws_summary.proofs.Turning.{allowed_join}

module _ {Op State : Type 0} (O : Object Op State) (place : Op → ℕ) (part : PlacesPart O place) (tells : TellsStates O) where
  module _ (c : Config Op) (s : Sound O c) (o n : ℕ) where
    abbrev S : List (Item Op)
    S = serial_at place o c.done

    abbrev T : List (Item Op)
    T = take n (serial_at place o c.done)

    abbrev ids : List ℕ
    ids = first_ids place o c.done n

    abbrev G : List (SharedEntry Op)
    G = done_at place o c.shared

    abbrev N : List (SharedEntry Op)
    N = others_at place o c.shared c.done n

    base : Reorders O (map shared_item (done_at place o c.shared)) (serial_at place o c.done)
    base = done_serial O place c s o

    cut : T ++ drop n S ≡ S
    cut = take-append-drop n (serial_at place o c.done)

    abbrev is_other : SharedEntry Op → Bool
    is_other g = not (has_id g.id ids)

    -- an item of the others
    N_in : (p : Item Op) → In p (map shared_item N) → In p (map shared_item G) × (has_id p.id ids ≡ false)
    N_in p i =
        let m = from_map shared_item p N i in
        let j : In m.0 (filter is_other G) = subst (λ (w : List (SharedEntry Op)). In m.0 w) (sym (filter_twice is_other (is_done_at place o) c.shared)) m.1 in
        let f = from_filter is_other m.0 G j in
        (subst (λ (w : Item Op). In w (map shared_item G)) (sym m.2) (in_map shared_item m.0 G f.0), ap (λ (w : Item Op). has_id w.id ids) m.2 ∙ was_false (has_id (m.0).id ids) f.1)

    N_before : (p q : Item Op) → Before p q (map shared_item N) → Before p q (map shared_item G)
    N_before p q i =
        let m = before_from_map shared_item p q N i in
        let j : Before m.0 m.1 G = before_from_filter is_other m.0 m.1 G (subst (λ (w : List (SharedEntry Op)). Before m.0 m.1 w) (sym (filter_twice is_other (is_done_at place o) c.shared)) m.2) in
        subst (λ (w : Item Op). Before w q (map shared_item G)) (sym m.3) (subst (λ (w : Item Op). Before (shared_item m.0) w (map shared_item G)) (sym m.4) (before_map shared_item m.0 m.1 G j))

    T_in : (p : Item Op) → In p T → In p S
    T_in p i = subst (λ (w : List (Item Op)). In p w) cut (in_left p T (drop n S) i)

    apart : (p q : Item Op) → In p T → In q (map shared_item N) → p.id ≢ q.id
    apart p q i j e =
        let z : true ≡ false = sym (in_has p.id ids (in_map (λ (w : Item Op). w.id) p T i)) ∙ ap (λ (k : ℕ). has_id k ids) e ∙ (N_in q j).1 in
        cc

    -- a committed operation is one of the first, or of the others
    split : (q : Item Op) → In q S → In q T ⊎ In q (map shared_item N)
    split q i = by (has_id q.id ids) refl
      where
        by : (z : Bool) → has_id q.id ids ≡ z → In q T ⊎ In q (map shared_item N)
        by true e =
            let m = from_map (λ (w : Item Op). w.id) q.id T (has_in q.id ids e) in
            inl (subst (λ (w : Item Op). In w T) (sym (by_key (λ (w : Item Op). w.id) S base.distinct_y q m.0 i (T_in m.0 m.1) m.2)) m.1)
        by false e =
            let m = from_map shared_item q G (base.back q i) in
            let j : In m.0 (filter is_other G) = in_filter is_other m.0 G m.1 (ap not (ap (λ (w : Item Op). has_id w.id ids) (sym m.2) ∙ e)) in
            inr (subst (λ (w : Item Op). In w (map shared_item N)) (sym m.2) (in_map shared_item m.0 N (subst (λ (w : List (SharedEntry Op)). In m.0 w) (filter_twice is_other (is_done_at place o) c.shared) j)))

    late : (p : Item Op) → In p (map shared_item N) → In p (drop n S)
    late p i = elim (in_cases p T (drop n S) (subst (λ (w : List (Item Op)). In p w) (sym cut) (base.into p (N_in p i).0))) [
      | inl j ↦ absurd (apart p p j i refl)
      | inr j ↦ j
    ]

    -- the order of the shared log, and that of a refresh
    order : Reorders O (map shared_item G) (T ++ map shared_item N)
    order =
        record {
          distinct_x = base.distinct_x;
          distinct_y = λ p q i e. elim (before_cases p q T (map shared_item N) i) [
            | inl z ↦ base.distinct_y p q (subst (λ (w : List (Item Op)). Before p q w) cut (before_left p q T (drop n S) z)) e
            | inr (inl z) ↦ base.distinct_x p q (N_before p q z) e
            | inr (inr z) ↦ apart p q z.0 z.1 e
          ];
          into = λ p i. elim (split p (base.into p i)) [ inl z ↦ in_left p T (map shared_item N) z | inr z ↦ in_right p T (map shared_item N) z ];
          back = λ p i. elim (in_cases p T (map shared_item N) i) [ inl z ↦ base.back p (T_in p z) | inr z ↦ (N_in p z).0 ];
          turned = λ p q i j. elim (before_cases q p T (map shared_item N) j) [
            | inl z ↦ base.turned p q i (subst (λ (w : List (Item Op)). Before q p w) cut (before_left q p T (drop n S) z))
            | inr (inl z) ↦ absurd (not_both (λ (w : Item Op). w.id) (map shared_item G) base.distinct_x p q i (N_before q p z))
            | inr (inr z) ↦ base.turned p q i (subst (λ (w : List (Item Op)). Before q p w) cut (before_across q p T (drop n S) z.0 (late p z.1)))
          ];
        }

    ops_are : ops (T ++ map shared_item N) ≡ refreshed_at place o c n
    ops_are = map-append (λ (w : Item Op). w.op) T (map shared_item N) ∙ ap (λ (w : List Op). ops T ++ w) (ops_items N)

    may_follow : (k : List Op) → Allowed O (shared_ops G ++ k) → Allowed O (refreshed_at place o c n ++ k)
    may_follow k h = subst (λ (w : List Op). Allowed O (w ++ k)) ops_are
        (permuted O (T ++ map shared_item N) (map shared_item G) [] k order (subst (λ (w : List Op). Allowed O (w ++ k)) (sym (ops_items G)) h))

    -- A snapshot and what was committed since is allowed.
    pub refreshed_allowed : Allowed O (refreshed_at place o c n)
    refreshed_allowed = subst (λ (w : List Op). Allowed O w) (append-nil (refreshed_at place o c n))
        (may_follow [] (subst (λ (w : List Op). Allowed O w) (sym (append-nil (shared_ops G))) (done_allowed O place part tells c s o)))

    -- It leads to the state of the serial run.
    pub refreshed_state : state O (refreshed_at place o c n) ≡ state O (ops (serial_at place o c.done))
    refreshed_state = sym (tells (shared_ops G) (refreshed_at place o c n) (done_allowed O place part tells c s o) may_follow) ∙ done_state O place part tells c s o

  none_here : (o : ℕ) (x : Tx Op) → HasNoneAt place o x → ops_at place o (local_ops (own x.local)) ≡ []
  none_here o x none = at_none place o (local_ops (own x.local)) (λ a i e. let m = from_map (λ (w : LocalEntry Op). w.op) a (own x.local) i in none m.0 m.1 (ap place (sym m.2) ∙ e))

  view_is : (f : Front) (c : Config Op) (o : ℕ) (x : Tx Op) → HasNoneAt place o x → summary_view place o c.done (open_summary place f x) ≡ ops (take ((open_summary place f x).seen o) (serial_at place o c.done))
  view_is f c o x none = ap (λ (w : List Op). ops (take ((open_summary place f x).seen o) (serial_at place o c.done)) ++ w) (none_here o x none) ∙ append-nil (ops (take ((open_summary place f x).seen o) (serial_at place o c.done)))

  -- Nothing can fail on an object without own entries but the operation itself.
  pub untouched : UntouchedIsSafe O place
  untouched =
      record {
        allowed = refreshed_allowed;
        leads = refreshed_state;
        refresh = λ p b x i o none. record {
          swaps = λ a g j e. absurd (none a j e);
          allowed = subst (λ (w : List Op). Allowed O (w ++ shared_ops (others_at place o p.config.shared p.config.done ((open_summary place p.front x).seen o)))) (sym (view_is p.front p.config o x none))
              (refreshed_allowed p.config b.sound o ((open_summary place p.front x).seen o));
        };
        operation = λ p b x i op none.
            let o = place op in
            let n = (open_summary place p.front x).seen o in
            let N = others_at place o p.config.shared p.config.done n in
            let T = ops (take n (serial_at place o p.config.done)) in
            let R = refreshed_at place o p.config n in
            let e : summary_view place o p.config.done (open_summary place p.front x) ++ (shared_ops N ++ op ∷ []) ≡ R ++ op ∷ [] =
            ap (λ (w : List Op). w ++ (shared_ops N ++ op ∷ [])) (view_is p.front p.config o x none) ∙ sym (append_assoc T (shared_ops N) (op ∷ [])) in
            let q : state O R ≡ state O (ops (serial_at place o p.config.done)) = refreshed_state p.config b.sound o n in (
              (λ h. subst (λ (z : State). AllowedFrom O z (op ∷ [])) q (allowed_back O O.start R (op ∷ []) (subst (λ (w : List Op). Allowed O w) e h))),
              (λ h. subst (λ (w : List Op). Allowed O w) (sym e) (allowed_join O O.start R (op ∷ []) (refreshed_allowed p.config b.sound o n) (subst (λ (z : State). AllowedFrom O z (op ∷ [])) (sym q) h))),
            );
      }
