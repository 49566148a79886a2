-- How many committed ids a local log is known to have, and how many of its entries not to be unpushed.
use Rattle.std.proofs.Common.{◌≡◌, ◌≢◌, ◌≤◌, ◌<◌, ◌-◌, ◌==◌, ℕ, zero, suc, Bool, true}
use Rattle.std.proofs.Common.{false, cond, not, List, [], ◌∷◌, ◌++◌, length, map, filter, drop, Option, None}
use Rattle.std.proofs.Common.{Some, refl, sym, ap, subst, ◌∙◌, arith, inl, inr}
use Rattle.std.specs.List.{slice_get}
use Rattle.std.proofs.lemmas.Bool.{cases_lt, eq-eqb}
use Rattle.std.proofs.lemmas.Bool.Decides.{eqb_tells}
use Rattle.std.proofs.lemmas.List.{length-append}
use Rattle.std.proofs.lemmas.Option.{same_Some}
use Rattle.pp_core.specs.Steps.{Push}
use Rattle.pp_core.specs.declared.entry.CommittedTx.{CommittedTx}
use Rattle.pp_core.specs.declared.entry.LocalEntry.{LocalEntry}
use Rattle.pp_core.specs.declared.entry.Mark.{Mark}
use Rattle.pp_records.specs.Expansions.{pushall, stands_in}
use Rattle.pp_model.specs.Config.{Unpushed, Pushed, is_mark, set_mark, without_local}
use Rattle.pp_model.specs.Lists.{Before, In}
use Rattle.pp_model.specs.Names.{Name}
use Rattle.pp_model.specs.Object.{Item}
use Rattle.pp_styles.specs.Knowing.{HasPushed, HasTaken}
use Rattle.pp_styles.proofs.Ids.{in_drop_left, lower_in, slice_front, stands_without}

-- ---- what is taken

module _ {Op : Type 0} (place : Op → ℕ) (o : ℕ) (done : List (CommittedTx Op)) (ids : List ℕ) where
  -- nothing, where all of it is listed
  pub taken_none : (l : List (LocalEntry Op)) → ((d : CommittedTx Op) → In d done → (p : Item Op) → In p d.entries → place p.op ≡ o → In p.id ids) → HasTaken place o done ids 0 l
  taken_none l listed = record { within = omega arith; rest = λ d i p j on off. listed d i p j on }

  -- less of it
  pub taken_lower : (n m : ℕ) (l : List (LocalEntry Op)) → m ≤ n → HasTaken place o done ids n l → HasTaken place o done ids m l
  taken_lower n m l low h =
      let within = h.within in
      record { within = omega arith; rest = λ d i p j on off. lower_in ids n m p.id low (h.rest d i p j on off) }

  -- by a local log that lacks no more
  pub taken_onward : (n : ℕ) (l r : List (LocalEntry Op)) → ((d : CommittedTx Op) → In d done → (p : Item Op) → In p d.entries → stands_in r p.id ≡ false → stands_in l p.id ≡ false) →
      HasTaken place o done ids n l → HasTaken place o done ids n r
  taken_onward n l r less h = record { within = h.within; rest = λ d i p j on off. h.rest d i p j on (less d i p j off) }

  -- more of it is listed
  pub taken_listed : (n : ℕ) (more : List ℕ) (l : List (LocalEntry Op)) → HasTaken place o done ids n l → HasTaken place o done (ids ++ more) n l
  taken_listed n more l h =
      let within = h.within in
      let all = length-append ids more in
      record { within = omega arith; rest = λ d i p j on off. in_drop_left n ids more p.id (h.rest d i p j on off) }

  -- without an id that is to be looked at again
  pub taken_without : (n id : ℕ) (l : List (LocalEntry Op)) → ((d : CommittedTx Op) → In d done → (p : Item Op) → In p d.entries → place p.op ≡ o → p.id ≡ id → In p.id (drop n ids)) →
      HasTaken place o done ids n l → HasTaken place o done ids n (without_local id l)
  taken_without n id l again h =
      record {
        within = h.within;
        rest = λ d i p j on off. elim (eqb_tells p.id id) [
          | inl same ↦ again d i p j on same.1
          | inr other ↦ h.rest d i p j on (sym (stands_without id l p.id other.1) ∙ off)
        ];
      }

-- ---- what is pushed

module _ {Op : Type 0} where
  -- None of the first 0 entries of a local log is unpushed.
  pub pushed_none : (l : List (LocalEntry Op)) → HasPushed 0 l
  pushed_none l = record { within = omega arith; none = λ i e below at. absurd (omega arith) }

  -- If none of the first n entries is unpushed, so it is in a longer log.
  pub pushed_longer : (n : ℕ) (l r : List (LocalEntry Op)) → HasPushed n l → HasPushed n (l ++ r)
  pushed_longer n l r h =
      let within = h.within in
      let all = length-append l r in
      record { within = omega arith; none = λ i e below at. h.none i e below (slice_front l r i e (omega arith) at) }

  marked_size : (id : ℕ) (m : Mark) (l : List (LocalEntry Op)) → length (set_mark id m l) ≡ length l
  marked_size id m [] = refl
  marked_size id m (e ∷ l) = ap suc (marked_size id m l)

  marked_mark : (b : Bool) (e f : LocalEntry Op) → is_mark e.mark Unpushed ≡ false → Some (cond b (record e { mark = Pushed }) e) ≡ Some f → is_mark f.mark Unpushed ≡ false
  marked_mark true e f h is = subst (λ (w : Option (LocalEntry Op)). mark_of w ≡ false) is refl
    where
      mark_of : Option (LocalEntry Op) → Bool
      mark_of None = false
      mark_of (Some g) = is_mark g.mark Unpushed
  marked_mark false e f h is = subst (λ (w : Option (LocalEntry Op)). mark_of w ≡ false) is h
    where
      mark_of : Option (LocalEntry Op) → Bool
      mark_of None = false
      mark_of (Some g) = is_mark g.mark Unpushed

  marked_at : (id : ℕ) (l : List (LocalEntry Op)) (n : ℕ) → ((i : ℕ) (e : LocalEntry Op) → i < n → slice_get l i ≡ Some e → is_mark e.mark Unpushed ≡ false)
      → (i : ℕ) (f : LocalEntry Op) → i < n → slice_get (set_mark id Pushed l) i ≡ Some f → is_mark f.mark Unpushed ≡ false
  marked_at id [] n none i f below at = absurd (cc)
  marked_at id (e ∷ l) n none zero f below at = marked_mark (e.id == id) e f (none 0 e below refl) at
  marked_at id (e ∷ l) zero none (suc i) f below at = absurd (omega arith)
  marked_at id (e ∷ l) (suc n) none (suc i) f below at = marked_at id l n (λ j g under there. none (suc j) g (omega arith) there) i f (omega arith) at

  -- If none of the first n entries is unpushed, so it is after a PUSH.
  pub pushed_marked : (n id : ℕ) (l : List (LocalEntry Op)) → HasPushed n l → HasPushed n (set_mark id Pushed l)
  pushed_marked n id l h =
      let within = h.within in
      let all = marked_size id Pushed l in
      record { within = omega arith; none = marked_at id l n h.none }

  -- all that is unpushed is among the others
  pub pushed_rest : (t : Name) (l : List (LocalEntry Op)) (n : ℕ) → ((i : ℕ) (e : LocalEntry Op) → i < n → slice_get l i ≡ Some e → is_mark e.mark Unpushed ≡ false) → pushall t (drop n l) ≡ pushall t l
  pushed_rest t [] zero none = refl
  pushed_rest t [] (suc n) none = refl
  pushed_rest t (e ∷ l) zero none = refl
  pushed_rest t (e ∷ l) (suc n) none =
      pushed_rest t l n (λ i f below at. none (suc i) f (omega arith) at)
      ∙ sym (ap (λ (b : Bool). map (λ (f : LocalEntry Op). Push t f.id) (cond b (e ∷ filter (λ (f : LocalEntry Op). is_mark f.mark Unpushed) l) (filter (λ (f : LocalEntry Op). is_mark f.mark Unpushed) l))) (none 0 e (omega arith) refl))

  -- fewer of them
  pub pushed_fewer : (n m : ℕ) (l : List (LocalEntry Op)) → m ≤ n → HasPushed n l → HasPushed m l
  pushed_fewer n m l low h = let within = h.within in record { within = omega arith; none = λ i e below at. h.none i e (omega arith) at }

  -- an unpushed entry at the end is none of them
  slice_left : (l r : List (LocalEntry Op)) (i : ℕ) (f : LocalEntry Op) → slice_get l i ≡ Some f → slice_get (l ++ r) i ≡ Some f
  slice_left [] r i f here = absurd (cc)
  slice_left (e ∷ l) r zero f here = here
  slice_left (e ∷ l) r (suc i) f here = slice_left l r i f here

  slice_end : (l : List (LocalEntry Op)) (e : LocalEntry Op) → slice_get (l ++ e ∷ []) (length l) ≡ Some e
  slice_end [] e = refl
  slice_end (f ∷ l) e = slice_end l e

  -- If none of the first n entries is unpushed, so it is without an unpushed last entry.
  pub pushed_shorter : (n : ℕ) (l : List (LocalEntry Op)) (e : LocalEntry Op) → e.mark ≡ Unpushed → HasPushed n (l ++ e ∷ []) → HasPushed n l
  pushed_shorter n l e unpushed h =
      record {
        within = elim (cases_lt (length l) n) [
          | inl more ↦ absurd (no (sym (ap (λ (m : Mark). is_mark m Unpushed) unpushed) ∙ h.none (length l) e more (slice_end l e)))
          | inr few ↦ few
        ];
        none = λ i f below at. h.none i f below (slice_left l (e ∷ []) i f at);
      }
    where
      no : true ≡ false → ⊥
      no e = cc

  -- entries of another id keep their marks
  unmarked_at : (id : ℕ) (l : List (LocalEntry Op)) (n : ℕ) → ((i : ℕ) (e : LocalEntry Op) → i < n → slice_get l i ≡ Some e → (e.id == id) ≡ false) →
      ((i : ℕ) (e : LocalEntry Op) → i < n → slice_get l i ≡ Some e → is_mark e.mark Unpushed ≡ false) →
      (i : ℕ) (f : LocalEntry Op) → i < n → slice_get (set_mark id Unpushed l) i ≡ Some f → is_mark f.mark Unpushed ≡ false
  unmarked_at id [] n other none i f below at = absurd (cc)
  unmarked_at id (e ∷ l) zero other none i f below at = absurd (omega arith)
  unmarked_at id (e ∷ l) (suc n) other none zero f below at =
      let same : Some e ≡ Some f = sym (ap (λ (b : Bool). Some (cond b (record e { mark = Unpushed }) e)) (other 0 e (omega arith) refl)) ∙ at in
      none 0 f (omega arith) same
  unmarked_at id (e ∷ l) (suc n) other none (suc i) f below at =
      unmarked_at id l n (λ j g under there. other (suc j) g (omega arith) there) (λ j g under there. none (suc j) g (omega arith) there) i f (omega arith) at

  -- If none of the first n entries is unpushed or has an id, so it is after an UNPUSH of this id.
  pub pushed_unmarked : (n id : ℕ) (l : List (LocalEntry Op)) → ((i : ℕ) (e : LocalEntry Op) → i < n → slice_get l i ≡ Some e → (e.id == id) ≡ false) → HasPushed n l → HasPushed n (set_mark id Unpushed l)
  pushed_unmarked n id l other h =
      let within = h.within in
      let all = marked_size id Unpushed l in
      record { within = omega arith; none = unmarked_at id l n other h.none }

  -- one entry less
  all_stay : (id : ℕ) (l : List (LocalEntry Op)) → ((f : LocalEntry Op) → In f l → f.id ≢ id) → without_local id l ≡ l
  all_stay id [] other = refl
  all_stay id (e ∷ l) other = elim (eqb_tells e.id id) [
    | inl same ↦ absurd (other e (inl refl) same.1)
    | inr off ↦ ap (λ (b : Bool). cond (not b) (e ∷ without_local id l) (without_local id l)) off.0 ∙ ap (λ (w : List (LocalEntry Op)). e ∷ w) (all_stay id l (λ f i. other f (inr i)))
  ]

  later_pushed : (n : ℕ) (e : LocalEntry Op) (l : List (LocalEntry Op)) → HasPushed n (e ∷ l) → HasPushed (n - 1) l
  later_pushed n e l h =
      let within = h.within in
      record { within = omega arith; none = λ i f below at. h.none (suc i) f (omega arith) at }

  earlier_pushed : (n : ℕ) (e : LocalEntry Op) (l : List (LocalEntry Op)) → (0 < n → is_mark e.mark Unpushed ≡ false) → HasPushed (n - 1) l → HasPushed n (e ∷ l)
  earlier_pushed n e l first h =
      let within = h.within in
      record {
        within = omega arith;
        none = none;
      }
    where
      none : (i : ℕ) (f : LocalEntry Op) → i < n → slice_get (e ∷ l) i ≡ Some f → is_mark f.mark Unpushed ≡ false
      none zero f below at = subst (λ (g : LocalEntry Op). is_mark g.mark Unpushed ≡ false) (same_Some e f at) (first below)
      none (suc i) f below at = h.none i f (omega arith) at

  -- If none of the first n entries is unpushed, none of n - 1 is after an entry has left.
  pub pushed_without : (n id : ℕ) (l : List (LocalEntry Op)) → ((e f : LocalEntry Op) → Before e f l → e.id ≢ f.id) → HasPushed n l → HasPushed (n - 1) (without_local id l)
  pushed_without n id [] distinct h = pushed_fewer n (n - 1) [] (omega arith) h
  pushed_without n id (e ∷ l) distinct h = elim (eqb_tells e.id id) [
    | inl same ↦
        let rest : without_local id l ≡ l = all_stay id l (λ f i here. distinct e f (inl (refl, i)) (same.1 ∙ sym here)) in
        subst (λ (w : List (LocalEntry Op)). HasPushed (n - 1) w) (sym (ap (λ (b : Bool). cond (not b) (e ∷ without_local id l) (without_local id l)) same.0 ∙ rest)) (later_pushed n e l h)
    | inr off ↦
        subst (λ (w : List (LocalEntry Op)). HasPushed (n - 1) w) (sym (ap (λ (b : Bool). cond (not b) (e ∷ without_local id l) (without_local id l)) off.0))
        (earlier_pushed (n - 1) e (without_local id l) (λ some. h.none 0 e (omega arith) refl)
        (pushed_without (n - 1) id l (λ a b i. distinct a b (inr i)) (later_pushed n e l h)))
  ]
