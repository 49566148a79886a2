-- The last set determines which words may follow.
use Rattle.std.proofs.Common.{◌≡◌, ◌<◌, ℕ, suc, ◌+◌, ◌-◌, Bool, true, false, List, [], ◌∷◌, ◌++◌}
use Rattle.std.proofs.Common.{length, get_or, Option, Some, None, IsNone, IsSome, zero, IsTrue, ◌↔◌}
use Rattle.std.proofs.Common.{length-append, refl, ap, sym, subst, ◌∙◌, inl, inr, arith}
use Rattle.std.proofs.Common.{append_assoc}
use Rattle.pp_model.specs.Body.{Tree, Trees, Skip, One, Seq, Alt, Star, NoPart, Part, Word, IsWord}
use Rattle.pp_model.specs.Body.{Begins, Call}
use Rattle.pp_core.specs.Trees.{nodes}
use Rattle.pp_body.specs.Positions.{reaches, shift, Rest, RestInTurn, RestOfSome}
use Rattle.pp_body.specs.Walks.{IsTracked, sets_after, last_state}
use Rattle.std.specs.Option.{option_to_list}
use Rattle.std.proofs.lemmas.List.{same_from_push}
use Rattle.pp_body.proofs.Reaches.{Goes, reached, reaching, nothing_more}
use Rattle.pp_body.proofs.Shifts.{after, none_has}
use Rattle.pp_body.proofs.Befores.{before}

-- nothing may follow the empty set
mutual
  nothing_rests : (b : Tree) (at : ℕ) (v : List Call) → Rest b at 0 v → ⊥
  nothing_rests Skip at v r = r
  nothing_rests (One p) at v r = none_has at r.0
  nothing_rests (Seq bs) at v r = nothing_in_turn bs at v r
  nothing_rests (Alt bs) at v r = nothing_of_some bs at v r
  nothing_rests (Star b) at v r = nothing_rests b at r.0 r.3

  nothing_in_turn : (bs : Trees) (at : ℕ) (v : List Call) → RestInTurn bs at 0 v → ⊥
  nothing_in_turn NoPart at v r = r
  nothing_in_turn (Part b bs) at v (inl r) = nothing_rests b at r.0 r.3
  nothing_in_turn (Part b bs) at v (inr r) = nothing_in_turn bs (at + nodes b) v r

  nothing_of_some : (bs : Trees) (at : ℕ) (v : List Call) → RestOfSome bs at 0 v → ⊥
  nothing_of_some NoPart at v r = r
  nothing_of_some (Part b bs) at v (inl r) = nothing_rests b at v r
  nothing_of_some (Part b bs) at v (inr r) = nothing_of_some bs (at + nodes b) v r

rests : (b : Tree) (set : ℕ) (v : List Call) → Goes b 0 set false v → Rest b 0 set v
rests b set v (inl h) = absurd (cc (h.0))
rests b set v (inr r) = r

abbrev state : Tree → ℕ → Bool → List Call → ℕ × Bool
state b set m w = last_state set m (sets_after b set m w)

follows : (b : Tree) (set : ℕ) (m : Bool) (w v : List Call) → Goes b 0 set m (w ++ v) → Goes b 0 (state b set m w).0 (state b set m w).1 v
follows b set m [] v g = g
follows b set m (c ∷ w) v g = follows b (shift b 0 set m c) false w v (inr (before b 0 set m c (w ++ v) g))

followed : (b : Tree) (set : ℕ) (m : Bool) (w v : List Call) → Goes b 0 (state b set m w).0 (state b set m w).1 v → Goes b 0 set m (w ++ v)
followed b set m [] v g = g
followed b set m (c ∷ w) v g = after b 0 set m c (w ++ v) (rests b (shift b 0 set m c) (w ++ v) (followed b (shift b 0 set m c) false w v g))

word_of : (b : Tree) (v : List Call) → Goes b 0 0 true v → Word b v
word_of b v (inl h) = h.1
word_of b v (inr r) = absurd (nothing_rests b 0 v r)

-- If `complete` is true, the calls are a word.
complete_is_word : (b : Tree) (w : List Call) → reaches false b 0 (state b 0 true w).0 (state b 0 true w).1 ≡ true → Word b w
complete_is_word b w h =
    let r = reached false b 0 (state b 0 true w).0 (state b 0 true w).1 h in
    elim r.1 [
      | inl e ↦ absurd (cc)
      | inr e ↦ subst (λ (x : List Call). Word b x) (sym (nothing_more w))
          (word_of b (w ++ []) (followed b 0 true w [] (subst (λ (v : List Call). Goes b 0 (state b 0 true w).0 (state b 0 true w).1 v) e r.2)))
    ]

word_is_complete : (b : Tree) (w : List Call) → Word b w → reaches false b 0 (state b 0 true w).0 (state b 0 true w).1 ≡ true
word_is_complete b w h =
    reaching false b 0 (state b 0 true w).0 (state b 0 true w).1 [] (inr refl)
    (follows b 0 true w [] (inl (refl, subst (λ (x : List Call). Word b x) (nothing_more w) h)))

-- Calls that begin a word.
abbrev Starts : Tree → List Call → Type 0
Starts b w = (v : List Call) × Word b (w ++ v)

can_begins : (b : Tree) (w : List Call) (c : Call) → reaches true b 0 (shift b 0 (state b 0 true w).0 (state b 0 true w).1 c) false ≡ true → Starts b (w ++ c ∷ [])
can_begins b w c h =
    let s = state b 0 true w in
    let r = reached true b 0 (shift b 0 s.0 s.1 c) false h in (
      r.0,
      subst (λ (x : List Call). Word b x) (sym (append_assoc w (c ∷ []) r.0))
          (word_of b (w ++ (c ∷ r.0)) (followed b 0 true w (c ∷ r.0) (after b 0 s.0 s.1 c r.0 (rests b (shift b 0 s.0 s.1 c) r.0 r.2)))),
    )

begins_can : (b : Tree) (w : List Call) (c : Call) → Starts b (w ++ c ∷ []) → reaches true b 0 (shift b 0 (state b 0 true w).0 (state b 0 true w).1 c) false ≡ true
begins_can b w c h =
    let s = state b 0 true w in
    reaching true b 0 (shift b 0 s.0 s.1 c) false h.0 (inl refl)
    (inr (before b 0 s.0 s.1 c h.0 (follows b 0 true w (c ∷ h.0) (inl (refl, subst (λ (x : List Call). Word b x) (append_assoc w (c ∷ []) h.0) h.1)))))

-- one more call
sets_after_more : (b : Tree) (set : ℕ) (m : Bool) (w : List Call) (c : Call)
    → sets_after b set m (w ++ c ∷ []) ≡ sets_after b set m w ++ shift b 0 (state b set m w).0 (state b set m w).1 c ∷ []
sets_after_more b set m [] c = refl
sets_after_more b set m (d ∷ w) c = ap (λ (x : List ℕ). shift b 0 set m d ∷ x) (sets_after_more b (shift b 0 set m d) false w c)

-- The last state of a walk that took calls is its last set, and the body is not entered again.
pub last_is : (set : ℕ) (m : Bool) (ts : List ℕ) (d : ℕ) → 0 < length ts → last_state set m ts ≡ (get_or ts (length ts - 1) d, false)
last_is set m [] d lt = absurd (omega arith)
last_is set m (t ∷ []) d lt = refl
last_is set m (t ∷ (u ∷ ts)) d lt =
    let next : suc (length (u ∷ ts) - 1) ≡ length (t ∷ (u ∷ ts)) - 1 = omega arith in
    last_is t false (u ∷ ts) d (omega arith) ∙ ap (λ (n : ℕ). (get_or (t ∷ (u ∷ ts)) n d, false)) next

-- The result of `can` of a walk is whether the calls with this one begin a word.
pub can_iff : (o : Option Tree) (b : Tree) (reached given : List ℕ) (c : Call) (r : Bool) (taken : List Call) → o ≡ Some b → given ≡ reached
    → r ≡ reaches true b 0 (shift b 0 (last_state 0 true given).0 (last_state 0 true given).1 c) false
    → IsTracked o taken reached → IsTrue r ↔ Begins o (taken ++ c ∷ [])
can_iff o b reached given c r taken some same is tracked =
    let known = subst (λ (x : Option Tree). IsTracked x taken reached) some tracked in
    let value = is ∙ ap (λ (ts : List ℕ). reaches true b 0 (shift b 0 (last_state 0 true ts).0 (last_state 0 true ts).1 c) false) (same ∙ known) in
    subst (λ (x : Option Tree). IsTrue r ↔ Begins x (taken ++ c ∷ [])) (sym some)
    (λ h. can_begins b taken c (sym value ∙ h), λ h. value ∙ begins_can b taken c h)

-- The test of `complete` is true exactly if the calls that were taken are a word of the body.
pub complete_iff : (o : Option Tree) (b : Tree) (reached given : List ℕ) (r : Bool) (taken : List Call) → o ≡ Some b → given ≡ reached
    → r ≡ reaches false b 0 (last_state 0 true given).0 (last_state 0 true given).1
    → IsTracked o taken reached → IsTrue r ↔ IsWord o taken
complete_iff o b reached given r taken some same is tracked =
    let known = subst (λ (x : Option Tree). IsTracked x taken reached) some tracked in
    let value = is ∙ ap (λ (ts : List ℕ). reaches false b 0 (last_state 0 true ts).0 (last_state 0 true ts).1) (same ∙ known) in
    subst (λ (x : Option Tree). IsTrue r ↔ IsWord x taken) (sym some)
    (λ h. complete_is_word b taken (sym value ∙ h), λ h. value ∙ word_is_complete b taken h)

-- With the set after one more call, a walk has taken this call.
pub took : (o : Option Tree) (b : Tree) (reached pushed more given : List ℕ) (last : ℕ × Bool) (s : ℕ) (c : Call) (taken : List Call) → o ≡ Some b
    → more ≡ pushed → pushed ≡ reached ++ s ∷ [] → given ≡ reached → last ≡ last_state 0 true given → s ≡ shift b 0 last.0 last.1 c
    → IsTracked o taken reached → IsTracked o (taken ++ c ∷ []) more
took o b reached pushed more given last s c taken some put e same last_is_it is tracked =
    let known = subst (λ (x : Option Tree). IsTracked x taken reached) some tracked in
    let set_is = is ∙ ap (λ (x : ℕ × Bool). shift b 0 x.0 x.1 c) (last_is_it ∙ ap (λ (ts : List ℕ). last_state 0 true ts) (same ∙ known)) in
    let all = put ∙ e ∙ ap (λ (x : ℕ). reached ++ x ∷ []) set_is ∙ ap (λ (ts : List ℕ). ts ++ shift b 0 (state b 0 true taken).0 (state b 0 true taken).1 c ∷ []) known in
    subst (λ (x : Option Tree). IsTracked x (taken ++ c ∷ []) more) (sym some) (all ∙ sym (sets_after_more b 0 true taken c))

-- the last set taken away
back_from : (b : Tree) (taken : List Call) (c : Call) (reached less : List ℕ) (s : Option ℕ) → reached ≡ less ++ option_to_list s → (IsNone s → length reached ≡ 0)
    → reached ≡ sets_after b 0 true (taken ++ c ∷ []) → less ≡ sets_after b 0 true taken
back_from b taken c reached less None e none known =
    let all = known ∙ sets_after_more b 0 true taken c in
    absurd (let z = none refl in let l = ap length all in omega (arith, length-append {A = ℕ}))
back_from b taken c reached less (Some s) e none known =
    let all = sym e ∙ known ∙ sets_after_more b 0 true taken c in
    (same_from_push less (sets_after b 0 true taken) s (shift b 0 (state b 0 true taken).0 (state b 0 true taken).1 c) all).0

-- Without its last set, a walk has not taken the last call.
pub went_back : (o : Option Tree) (taken : List Call) (c : Call) (reached less : List ℕ) (s : Option ℕ) → reached ≡ less ++ option_to_list s → (IsNone s → length reached ≡ 0)
    → IsTracked o (taken ++ c ∷ []) reached → IsTracked o taken less
went_back None taken c reached less s e none known = tt
went_back (Some b) taken c reached less s e none known = back_from b taken c reached less s e none known

zero_from : (m : ℕ) → (0 < m → ⊥) → m ≡ 0
zero_from zero h = refl
zero_from (suc m) h = absurd (h (omega arith))

-- If a list is empty exactly if an option is none, and the option is none, its length is 0.
pub none_empty : {X : Type 0} (r : Option X) (n m : ℕ) → IsSome r ↔ (0 < n) → n ≡ m → IsNone r → m ≡ 0
none_empty r n m h e k = zero_from m (λ lt. cc (h.1 (subst (λ (x : ℕ). 0 < x) (sym e) lt), k))
