-- A summary of a boosted run is the summary that a Quick keeps.
use Rattle.std.specs.Prelude.{◌≡◌, ◌≢◌, ◌==◌, ℕ, nat_eq, Bool, true, false, cond, not, ◌&&◌, List, [], ◌∷◌, filter, map, option_map, reverse, take, Option, None, Some}
use Rattle.std.specs.Map.{keys_of, lookup}
use Rattle.std.proofs.Common.{refl, sym, ap, ◌∙◌}
use mathlib.Core.Path.{fun_ext}
use Rattle.std.proofs.lemmas.List.{take-map}
use mathlib.Core.Logic.{inl, inr}
use Rattle.pp_core.specs.declared.entry.Item.{Item}
use Rattle.pp_model.specs.Body.{Tree}
use Rattle.pp_model.specs.Config.{CommittedTx, Config, LocalEntry, Mark, Pushed, SharedEntry, Tx, is_own, item, own, own_items, tx}
use Rattle.pp_model.specs.Lists.{In}
use Rattle.pp_model.specs.Names.{Name, ◌=ⁿ◌}
use Rattle.pp_model.specs.Serial.{has_id}
use Rattle.pp_model.proofs.Lists.{by_key}
use Rattle.pp_model.proofs.Logs.{found_tx}
use Rattle.pp_model.proofs.Names.{eq-names, names_tell}
use Rattle.pp_kind.specs.Object.{Object, rules_of}
use Rattle.pp_laws_summary.specs.LocalLogs.{serial_at}
use Rattle.pp_laws_summary.specs.Summary.{OpenSummary, Summary, open_named, open_summary, summary_missing, summary_of}
use Rattle.pp_laws_summary.specs.Views.{seen_at}
use Rattle.pp_summary.specs.Boosted.{PlacesSwap}
use Rattle.pp_summary.specs.Brief.{Brief, BriefTx, brief_tx}
use Rattle.pp_summary.specs.Held.{IsHeldOf}
use Rattle.pp_summary.specs.Shown.{KeepsQuick, Kept, as_held, at, filled, in_slot, open_in, shown_tx}
use Rattle.pp_summary.specs.declared.parts.OpenTx.{OpenTx}
use Rattle.pp_summary.proofs.Filled.{Apart, in_keys}
use Rattle.pp_summary.proofs.StepCounts.{opened, pulled_none, pulled_some}
use Rattle.pp_violations.specs.Summarised.{kept_open, kept_summary, no_section, number_or_zero, own_entry, seen_of}

-- The own entries of a log are those of its own operations, if all are pushed and of one owner.
pub own_entries : {Op : Type 0} (t : Name) (l : List (LocalEntry Op)) → ((e : LocalEntry Op) → In e l → is_own e.mark ≡ true → (e.mark ≡ Pushed) × (e.owner ≡ t)) → own l ≡ map (own_entry t) (own_items l)
own_entries t [] p = refl
own_entries {Op} t (e ∷ l) p = by (is_own e.mark) refl (own_entries t l (λ a i. p a (inr i)))
  where
    whole : (e.mark ≡ Pushed) × (e.owner ≡ t) → e ≡ own_entry t (item e)
    whole q =
        ap (λ (m : Mark). record { id = e.id; owner = e.owner; mark = m; op = e.op }) q.0
        ∙ ap (λ (n : Name). record { id = e.id; owner = n; mark = Pushed; op = e.op }) q.1

    by : (b : Bool) → is_own e.mark ≡ b → own l ≡ map (own_entry t) (own_items l) → cond b (e ∷ own l) (own l) ≡ map (own_entry t) (map item (cond b (e ∷ own l) (own l)))
    by true q k = ap (λ (w : LocalEntry Op). w ∷ own l) (whole (p e (inl refl) q)) ∙ ap (λ (w : List (LocalEntry Op)). own_entry t (item e) ∷ w) k
    by false q k = k

-- The slots of a Quick.
abbrev pub Slots : Type 0 → Type 0
Slots Op = List (Name × Option (OpenTx (List (Item Op))))

module _ {Op : Type 0} (t : Name) where
  none_open : (es : Slots Op) → ((n : Name) (x : OpenTx (List (Item Op))) → In (n, Some x) es → n ≢ t) → open_named t (filled kept_open es) ≡ None
  none_open [] k = refl
  none_open ((n, None) ∷ es) k = none_open es (λ m x i. k m x (inr i))
  none_open ((n, Some x) ∷ es) k = elim (names_tell n t) [
    | inl r ↦ absurd (k n x (inl refl) r.1)
    | inr r ↦ ap (λ (b : Bool). cond b (Some (kept_open n x)) (open_named t (filled kept_open es))) r.0 ∙ none_open es (λ m y i. k m y (inr i))
  ]

  -- The open transaction of a name is that in its slot.
  pub open_is : (es : Slots Op) → Apart es → open_named t (filled kept_open es) ≡ option_map (kept_open t) (open_in t es)
  open_is [] d = refl
  open_is ((n, o) ∷ es) d = elim (names_tell t n) [
    | inl r ↦ here o r.1 ∙ sym (ap (λ (b : Bool). option_map (kept_open t) (in_slot (cond b (Some o) (lookup (λ m. t =ⁿ m) es)))) r.0)
    | inr r ↦ later o (λ q. r.1 (sym q)) (open_is es (λ u v i. d u v (inr i))) ∙ sym (ap (λ (b : Bool). option_map (kept_open t) (in_slot (cond b (Some o) (lookup (λ m. t =ⁿ m) es)))) r.0)
  ]
    where
      here : (o : Option (OpenTx (List (Item Op)))) → t ≡ n → open_named t (filled kept_open ((n, o) ∷ es)) ≡ option_map (kept_open t) o
      here None q = none_open es (λ m x i s. d n m (inl (refl, in_keys es (m, Some x) i)) (sym q ∙ sym s))
      here (Some x) q = ap (λ (b : Bool). cond b (Some (kept_open n x)) (open_named t (filled kept_open es))) (eq-names n t (sym q)) ∙ ap (λ (m : Name). Some (kept_open m x)) (sym q)

      later : (o : Option (OpenTx (List (Item Op)))) → n ≢ t → open_named t (filled kept_open es) ≡ option_map (kept_open t) (open_in t es) → open_named t (filled kept_open ((n, o) ∷ es)) ≡ option_map (kept_open t) (open_in t es)
      later None q s = s
      later (Some x) q s = elim (names_tell n t) [
        | inl r ↦ absurd (q r.1)
        | inr r ↦ ap (λ (b : Bool). cond b (Some (kept_open n x)) (open_named t (filled kept_open es))) r.0 ∙ s
      ]

  -- A transaction in a slot is the open one of its name.
  pub slot_of : (x : OpenTx (List (Item Op))) (es : Slots Op) → Apart es → In (t, Some x) es → open_in t es ≡ Some x
  slot_of x [] d i = absurd i
  slot_of x (e ∷ es) d (inl i) =
      ap (λ (b : Bool). in_slot (cond b (Some e.1) (lookup (λ m. t =ⁿ m) es))) (eq-names t e.0 (ap (λ (w : Name × Option (OpenTx (List (Item Op)))). w.0) i))
      ∙ ap (λ (w : Name × Option (OpenTx (List (Item Op)))). w.1) (sym i)
  slot_of x (e ∷ es) d (inr i) = elim (names_tell t e.0) [
    | inl r ↦ absurd (d e.0 t (inl (refl, in_keys es (t, Some x) i)) (sym r.1))
    | inr r ↦ ap (λ (b : Bool). in_slot (cond b (Some e.1) (lookup (λ m. t =ⁿ m) es))) r.0 ∙ slot_of x es (λ u v k. d u v (inr k)) i
  ]

-- Two views of the same transactions have the same transactions in the slots.
same_filled : {Op A B D : Type 0} (es : List (Name × Option A)) (xs : List (Tx Op)) (b : Tx Op → B) (s : Name → A → B) (z : Tx Op → D) (k : Name → A → D) → map b xs ≡ filled s es →
    ((y : Tx Op) (n : Name) (x : A) → In y xs → In (n, Some x) es → b y ≡ s n x → z y ≡ k n x) → map z xs ≡ filled k es
same_filled [] [] b s z k e h = refl
same_filled [] (y ∷ xs) b s z k e h = absurd (cc)
same_filled ((n, None) ∷ es) xs b s z k e h = same_filled es xs b s z k e (λ y m x i j. h y m x i (inr j))
same_filled ((n, Some x) ∷ es) [] b s z k e h = absurd (cc)
same_filled {D = D} ((n, Some x) ∷ es) (y ∷ xs) b s z k e h =
    let first : b y ≡ s n x = cc in
    let others : map b xs ≡ filled s es = cc in
    ap (λ (w : D). w ∷ map z xs) (h y n x (inl refl) (inl refl) first) ∙ ap (λ (w : List D). k n x ∷ w) (same_filled es xs b s z k others (λ u m v i j. h u m v (inr i) (inr j)))

-- Open transactions of a summary with equal parts are equal.
same_open : {Op : Type 0} (n m a b : Name) (c d : Option Tree) (e f : List (LocalEntry Op)) (g h : ℕ → ℕ) → n ≡ m → a ≡ b → c ≡ d → e ≡ f → g ≡ h
    → ◌≡◌ {A = OpenSummary Op} (record { name = n; thread = a; body = c; own = e; seen = g; held = None }) (record { name = m; thread = b; body = d; own = f; seen = h; held = None })
same_open {Op} n m a b c d e f g h o p q r s =
    ap (λ (z : Name). record { name = z; thread = a; body = c; own = e; seen = g; held = None }) o
    ∙ ap (λ (z : Name). record { name = m; thread = z; body = c; own = e; seen = g; held = None }) p
    ∙ ap (λ (z : Option Tree). record { name = m; thread = b; body = z; own = e; seen = g; held = None }) q
    ∙ ap (λ (z : List (LocalEntry Op)). record { name = m; thread = b; body = d; own = z; seen = g; held = None }) r
    ∙ ap (λ (z : ℕ → ℕ). record { name = m; thread = b; body = d; own = f; seen = z; held = None }) s

same_summary : {Op : Type 0} (a b : List Name) (c d : List ℕ) (e f : List (OpenSummary Op)) (g h : List (SharedEntry Op)) (i j : List (CommittedTx Op)) → a ≡ b → c ≡ d → e ≡ f → g ≡ h → i ≡ j
    → ◌≡◌ {A = Summary Op} (record { names = a; ids = c; opened = e; shared = g; done = i; kinds = [] }) (record { names = b; ids = d; opened = f; shared = h; done = j; kinds = [] })
same_summary {Op} a b c d e f g h i j p q r s t =
    ap (λ (z : List Name). record { names = z; ids = c; opened = e; shared = g; done = i; kinds = [] }) p
    ∙ ap (λ (z : List ℕ). record { names = b; ids = z; opened = e; shared = g; done = i; kinds = [] }) q
    ∙ ap (λ (z : List (OpenSummary Op)). record { names = b; ids = d; opened = z; shared = g; done = i; kinds = [] }) r
    ∙ ap (λ (z : List (SharedEntry Op)). record { names = b; ids = d; opened = f; shared = z; done = i; kinds = [] }) s
    ∙ ap (λ (z : List (CommittedTx Op)). record { names = b; ids = d; opened = f; shared = h; done = z; kinds = [] }) t

module _ {Shape State Op Undo : Type 0} (o : Object Shape State Op Undo) (place : Op → ℕ) (apart : (shape : Shape) → PlacesSwap (rules_of o shape) place) (v : Kept Shape Op) (h : KeepsQuick o place v) where
  abbrev es : Slots Op
  es = v.slots.entries

  -- The open transaction of a name, in the summary.
  pub kept_named : (t : Name) → open_named t (kept_summary v).opened ≡ option_map (kept_open t) (open_in t v.slots.entries)
  kept_named t = open_is t es h.names

  -- A transaction misses the committed entries at a place but the first ones, which it has seen.
  pub missing_is : (t : Name) (x : OpenTx (List (Item Op))) (q : ℕ) →
      summary_missing place q (kept_summary v) (kept_open t x)
      ≡ filter (λ g. (g.committed && (place g.op == q)) && not (has_id g.id (take (seen_of x.seen.entries q) (at q v.commits.items)))) v.shared.1
  missing_is t x q =
      ap (λ (js : List ℕ). filter (λ (g : SharedEntry Op). (g.committed && (place g.op == q)) && not (has_id g.id js)) v.shared.1)
      (sym (take-map (λ (p : Item Op). p.id) (seen_of x.seen.entries q) (serial_at place q v.committed)) ∙ ap (λ (js : List ℕ). take (seen_of x.seen.entries q) js) (sym (h.commits q)))

  module _ (c : Config Op) (is : IsHeldOf o place (as_held place v) c) where
    -- An open transaction y of the configuration, and the slot of it.
    module _ (y : Tx Op) (n : Name) (x : OpenTx (List (Item Op))) (iy : In y c.opened) (i : In (n, Some x) es) (e : brief_tx place c.shared y ≡ shown_tx place v.shared.1 v.commits.items n x) where
      name_is : y.name ≡ n
      name_is = ap (λ (w : BriefTx Op). w.name) e

      found : open_in n es ≡ Some x
      found = slot_of n x es h.names i

      -- The open transaction of this name in the configuration.
      abbrev z : (w : Tx Op) × (tx n c.opened ≡ Some w) × (brief_tx place c.shared w ≡ shown_tx place v.shared.1 v.commits.items n x)
      z = opened o place apart v h c is n x found

      same : z.0 ≡ y
      same = let r = found_tx n c.opened z.0 z.1 in by_key (λ (w : Tx Op). w.name) c.opened is.boosted.sound.open_names z.0 y r.0 iy (r.1 ∙ sym name_is)

      own_is : own y.local ≡ map (own_entry n) x.own
      own_is = own_entries n y.local (λ a j m. ((is.boosted.follows y iy).own_pushed a j m, owner a j m)) ∙ ap (map (own_entry n)) (ap (λ (w : BriefTx Op). w.own) e)
        where
          owner : (a : LocalEntry Op) → In a y.local → is_own a.mark ≡ true → a.owner ≡ n
          owner a j m = elim (is.boosted.sound.marks y iy a j) [
            | inl r ↦ r.1 ∙ name_is
            | inr r ↦ absurd (let w : true ≡ false = sym m ∙ ap is_own r.0 in cc)
          ]

      -- At a place, a transaction has pulled as many entries as it has seen.
      pub seen_is : (q : ℕ) → seen_at place q y.local ≡ seen_of x.seen.entries q
      seen_is q = ap (λ (w : Tx Op). seen_at place q w.local) (sym same) ∙ by (lookup (nat_eq q) x.seen.entries) refl
        where
          by : (m : Option ℕ) → lookup (nat_eq q) x.seen.entries ≡ m → seen_at place q (z.0).local ≡ number_or_zero (lookup (nat_eq q) x.seen.entries)
          by None k = pulled_none o place apart v h c is n x found q k ∙ sym (ap number_or_zero k)
          by (Some m) k = pulled_some o place apart v h c is n x found q m k ∙ sym (ap number_or_zero k)

      tx_is : open_summary place no_section y ≡ kept_open n x
      tx_is = same_open y.name n y.thread x.thread y.body x.walk.body (own y.local) (map (own_entry n) x.own) (λ q. seen_at place q y.local) (seen_of x.seen.entries)
          name_is (ap (λ (w : BriefTx Op). w.thread) e) (ap (λ (w : BriefTx Op). w.body) e) own_is (fun_ext seen_is)

    -- The summary of each configuration with this brief is the one that the Quick keeps.
    pub summary_is : summary_of place (record { front = no_section; config = c }) ≡ kept_summary v
    summary_is = same_summary c.names (reverse (keys_of es)) c.ids (reverse v.ids) (map (open_summary place no_section) c.opened) (filled kept_open es) c.shared v.shared.1 c.done v.committed
        (ap (λ (b : Brief Op). b.names) is.is) (ap (λ (b : Brief Op). b.ids) is.is)
        (same_filled es c.opened (brief_tx place c.shared) (shown_tx place v.shared.1 v.commits.items) (open_summary place no_section) kept_open (ap (λ (b : Brief Op). b.opened) is.is) (λ y n x iy i e. tx_is y n x iy i e))
        (ap (λ (b : Brief Op). b.shared) is.is) (ap (λ (b : Brief Op). b.done) is.is)
