-- New entries that swap with the own ones: the own operations are replayed after them.
use Rattle.std.specs.Prelude.{◌≡◌, ◌↔◌, ℕ, List, [], ◌∷◌, ◌++◌, take}
use Rattle.std.proofs.Common.{refl, sym, ap, subst, ◌∙◌, append_assoc}
use Rattle.std.proofs.lemmas.Bool.{eqb-true}
use Rattle.std.proofs.lemmas.List.{append-nil}
use mathlib.Core.Logic.{inl, inr}
use Rattle.pp_model.specs.Config.{LocalEntry, SharedEntry, Tx, local_ops, own, shared_ops}
use Rattle.pp_model.specs.Lists.{In}
use Rattle.pp_model.specs.Object.{Allowed, AllowedFrom, Object, Swaps, TellsStates, ops, state, state_from}
use Rattle.pp_model.proofs.Lists.{from_filter, from_map}
use Rattle.pp_model.proofs.Serial.{allowed_back}
use Rattle.pp_records.specs.Fronts.{Front}
use Rattle.pp_records.specs.Runs.{Standing}
use Rattle.pp_laws_summary.specs.LocalLogs.{Summable, serial_at}
use Rattle.pp_laws_summary.specs.Places.{PlacesPart}
use Rattle.pp_laws_summary.specs.Replays.{SwapBothWays, SwappingIsReplay, missing_now, own_at, serial_state}
use Rattle.pp_laws_summary.specs.Summary.{SummaryRefresh, open_summary, summary_of}
use Rattle.pp_laws_summary.specs.Untouched.{refreshed_at}
use Rattle.pp_laws_summary.proofs.Turning.{allowed_join}
use Rattle.pp_laws_summary.proofs.Untouched.{refreshed_allowed, refreshed_state}

state_append : {Op State : Type 0} (O : Object Op State) (s : State) (x y : List Op) → state_from O s (x ++ y) ≡ state_from O (state_from O s x) y
state_append O s [] y = refl
state_append O s (a ∷ x) y = state_append O (O.next s a) x y

module _ {Op State : Type 0} (O : Object Op State) where
  -- an operation moves before operations that it may move over
  move : (N : List Op) (a : Op) (B k : List Op) → ((n : Op) → In n N → Swaps O n a) → Allowed O (B ++ (N ++ a ∷ k)) → Allowed O (B ++ (a ∷ (N ++ k)))
  move [] a B k h g = g
  move (n ∷ N) a B k h g =
      (h n (inl refl)).always B (N ++ k)
      (subst (λ (w : List Op). Allowed O w) (append_assoc B (n ∷ []) (a ∷ (N ++ k)))
      (move N a (B ++ n ∷ []) k (λ m i. h m (inr i)) (subst (λ (w : List Op). Allowed O w) (sym (append_assoc B (n ∷ []) (N ++ a ∷ k))) g)))

  -- so do several
  move_all : (W N B k : List Op) → ((n a : Op) → In n N → In a W → Swaps O n a) → Allowed O (B ++ (N ++ (W ++ k))) → Allowed O (B ++ (W ++ (N ++ k)))
  move_all [] N B k h g = g
  move_all (a ∷ W) N B k h g =
      subst (λ (w : List Op). Allowed O w) (append_assoc B (a ∷ []) (W ++ (N ++ k)))
      (move_all W N (B ++ a ∷ []) k (λ n d i j. h n d i (inr j))
      (subst (λ (w : List Op). Allowed O w) (sym (append_assoc B (a ∷ []) (N ++ (W ++ k)))) (move N a B (W ++ k) (λ n i. h n a i (inl refl)) g)))

  module _ (place : Op → ℕ) (part : PlacesPart O place) (tells : TellsStates O) (p : Standing Front Op) (b : Summable O place p.front p.config) (x : Tx Op) (ix : In x p.config.opened) (o : ℕ) (both : SwapBothWays O place o p x) where
    abbrev n : ℕ
    n = (open_summary place p.front x).seen o

    abbrev T : List Op
    T = ops (take n (serial_at place o p.config.done))

    abbrev W : List Op
    W = own_at place o x

    abbrev N : List Op
    N = shared_ops (missing_now place o p x)

    abbrev R : List Op
    R = refreshed_at place o p.config n

    own_from : (a : Op) → In a W → (e : LocalEntry Op) × In e (own x.local) × (place e.op ≡ o) × (a ≡ e.op)
    own_from a i =
        let f = from_filter _ a (local_ops (own x.local)) i in
        let m = from_map (λ (w : LocalEntry Op). w.op) a (own x.local) f.0 in
        (m.0, m.1, ap place (sym m.2) ∙ eqb-true (place a) o f.1, m.2)

    swap_of : (a d : Op) → In a W → In d N → Swaps O a d × Swaps O d a
    swap_of a d i j =
        let e = own_from a i in
        let g = from_map (λ (w : SharedEntry Op). w.op) d (missing_now place o p x) j in
        let s = both e.0 g.0 e.1 e.2 g.1 in (
          subst (λ (w : Op). Swaps O w d) (sym e.3) (subst (λ (w : Op). Swaps O (e.0).op w) (sym g.2) s.0),
          subst (λ (w : Op). Swaps O w a) (sym g.2) (subst (λ (w : Op). Swaps O (g.0).op w) (sym e.3) s.1),
        )

    to_replay : (k : List Op) → Allowed O (((T ++ W) ++ N) ++ k) → Allowed O ((R ++ W) ++ k)
    to_replay k h = subst (λ (w : List Op). Allowed O w) (turned T N W k)
        (move_all N W T k (λ a d i j. (swap_of a d i j).0) (subst (λ (w : List Op). Allowed O w) (sym (turned T W N k)) h))
      where
        turned : (B u v k : List Op) → B ++ (u ++ (v ++ k)) ≡ ((B ++ u) ++ v) ++ k
        turned B u v k = sym (append_assoc B u (v ++ k)) ∙ sym (append_assoc (B ++ u) v k)

    from_replay : (k : List Op) → Allowed O ((R ++ W) ++ k) → Allowed O (((T ++ W) ++ N) ++ k)
    from_replay k h = subst (λ (w : List Op). Allowed O w) (turned T W N k)
        (move_all W N T k (λ d a j i. (swap_of a d i j).1) (subst (λ (w : List Op). Allowed O w) (sym (turned T N W k)) h))
      where
        turned : (B u v k : List Op) → B ++ (u ++ (v ++ k)) ≡ ((B ++ u) ++ v) ++ k
        turned B u v k = sym (append_assoc B u (v ++ k)) ∙ sym (append_assoc (B ++ u) v k)

    R_state : state O R ≡ serial_state O place o p
    R_state = refreshed_state O place part tells p.config b.sound o n

    replayed : Allowed O ((T ++ W) ++ N) → AllowedFrom O (serial_state O place o p) W
    replayed h = subst (λ (z : State). AllowedFrom O z W) R_state (allowed_back O O.start R W
        (subst (λ (w : List Op). Allowed O w) (append-nil (R ++ W)) (to_replay [] (subst (λ (w : List Op). Allowed O w) (sym (append-nil ((T ++ W) ++ N))) h))))

    allowed_by : AllowedFrom O (serial_state O place o p) W → Allowed O ((T ++ W) ++ N)
    allowed_by h = subst (λ (w : List Op). Allowed O w) (append-nil ((T ++ W) ++ N)) (from_replay [] (subst (λ (w : List Op). Allowed O w) (sym (append-nil (R ++ W)))
        (allowed_join O O.start R W (refreshed_allowed O place part tells p.config b.sound o n) (subst (λ (z : State). AllowedFrom O z W) (sym R_state) h))))

    refresh_iff : SummaryRefresh O place (summary_of place p) o (open_summary place p.front x) ↔ AllowedFrom O (serial_state O place o p) W
    refresh_iff = ((λ g. replayed g.allowed), (λ h. record { swaps = λ a g i e j. (both a g i e j).0; allowed = allowed_by h }))

    leads_to : SummaryRefresh O place (summary_of place p) o (open_summary place p.front x) → state O ((T ++ W) ++ N) ≡ state_from O (serial_state O place o p) W
    leads_to g = tells ((T ++ W) ++ N) (R ++ W) g.allowed to_replay ∙ state_append O O.start R W ∙ ap (λ (z : State). state_from O z W) R_state

  -- Own operations that swap with what is missed are replayed.
  pub replays : (place : Op → ℕ) → PlacesPart O place → TellsStates O → SwappingIsReplay O place
  replays place part tells =
      record {
        refresh = λ p b x i o s. refresh_iff place part tells p b x i o s;
        leads = λ p b x i o s g. leads_to place part tells p b x i o s g;
      }
