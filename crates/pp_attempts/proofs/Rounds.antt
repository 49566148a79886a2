-- Proof machinery: a round, in which the candidates are tried from one state.
use Rattle.std.specs.Prelude.{◌≡◌, ◌≤◌, ◌<◌, ◌+◌, ◌-◌, ◌*◌, ℕ, List, [], ◌∷◌, ◌++◌, length, take, drop, set, None, Some}
use Rattle.std.proofs.Common.{refl, sym, ap, subst, ◌∙◌, arith, get_or}
use Rattle.std.proofs.lemmas.List.{drop_all, length-append, map-append, take-append-drop, take-map}
use Rattle.pp_model.specs.Config.{CommittedTx}
use Rattle.pp_model.specs.Object.{Item, ops}
use Rattle.pp_model.proofs.Lengths.{length-ops}
use Rattle.pp_kind.specs.Object.{Object, rules_of}
use Rattle.pp_attempts.specs.Peaks.{Peak, operations}
use Rattle.pp_attempts.specs.Trying.{AreAlike, AreCandidates, Candidate, AppliedOp, HasRest, IsFurthest, IsStateAt, Candidates, MayBeNumbered, MayFollow, MayRun}
use Rattle.pp_attempts.specs.Trying.{Share, StandsAt, applied, positions_of}
use Rattle.pp_attempts.specs.Views.{IsViewBelow, Pairwise, View}
use Rattle.pp_attempts.proofs.Fronts.{in_there}
use Rattle.pp_attempts.proofs.Leaving.{AreViewsSoFar, IsSpent, cut_at, none_tried, nothing_spent, one_found, one_left, one_numbered, one_spent}
use Rattle.pp_attempts.proofs.Leaving.{peak_within, rest_there, round_done, skipped_spent, spent_within}
use Rattle.pp_attempts.proofs.LiningUp.{nobody, some_stands}
use Rattle.pp_attempts.proofs.Trails.{all_allowed, fails_alike, first_alike, furthest_whole, length-applied, may-first, not_allowed, nothing_stands}
use Rattle.pp_attempts.proofs.Trails.{share_long, share_ops}
use Rattle.pp_attempts.proofs.Viewing.{may_follow_there}

module _ {Shape State Op Undo : Type 0} (o : Object Shape State Op Undo) (ps : List (Peak Op)) (number : ℕ) (s : State) (old : List View) (candidates : Candidates Op) where
  -- The first k candidates were tried, and the last one of them was applied as far as it
  -- is allowed.
  pub record InRound (k : ℕ) (views : List View) (done : List (AppliedOp Op Undo)) (t : State) (first now : ℕ) : Type 0 where
    pub before : List (Item Op)
    pub may : MayFollow o s (ops before)
    pub furthest : IsFurthest o s (ops before) done t
    pub next : AreAlike ps before (drop k candidates.list.items)
    pub round : AreViewsSoFar o ps number s old views (positions_of (drop k candidates.list.items))
    pub spent : IsSpent ps (positions_of (drop k candidates.list.items)) (length done) first now

  -- A round begins with no candidate tried and nothing applied.
  pub round_begins : (done : List (AppliedOp Op Undo)) (first : ℕ) → done ≡ [] → MayBeNumbered o s ps old candidates → InRound 0 old done s first first
  round_begins done first none may = record {
    before = [];
    may = may.reached;
    furthest = furthest_whole o s s [] done (nothing_stands o s s done none refl) (ap (λ (w : List (AppliedOp Op Undo)). applied w) (sym none));
    next = may.are.alike;
    round = none_tried o ps number s old candidates may.are;
    spent = nothing_spent ps (positions_of candidates.list.items) (length done) first (ap (λ (w : List (AppliedOp Op Undo)). length w) none) may.are.cost;
  }

  module _ (k : ℕ) (views : List View) (done : List (AppliedOp Op Undo)) (t : State) (first now : ℕ) (h : InRound k views done t first now) where
    -- The operations that are applied in a round may follow its state.
    pub may_stand : MayFollow o s (applied done)
    may_stand = may-first o s (applied done) (drop (length done) (ops h.before)) (subst (λ (w : List Op). MayFollow o s w)
        (sym (take-append-drop (length done) (ops h.before)) ∙ ap (λ (w : List Op). w ++ drop (length done) (ops h.before)) (sym h.furthest.front)) h.may)

    -- at a candidate
    module _ (may : MayBeNumbered o s ps old candidates) (xs : List Candidate) (same : xs ≡ candidates.list.items) (there : k < length xs) where
      -- The candidate that is tried.
      abbrev pub at : Candidate
      at = get_or xs k nobody

      -- The candidates after it.
      abbrev pub behind : List Candidate
      behind = drop (k + 1) candidates.list.items

      -- The position of the candidate to try is below the number of attempts.
      pub position_within : at.position < length ps
      position_within = peak_within ps old candidates xs k same there may.are

      -- The position of the candidate to try is below the number of views.
      pub view_within : at.position < length views
      view_within =
          let a = position_within in
          let b = h.round.long in
          let c = may.long in
          omega (arith, a, b, c)

      cut : drop k candidates.list.items ≡ at ∷ behind
      cut = cut_at ps old candidates xs k same there may.are

      round_here : AreViewsSoFar o ps number s old views (at.position ∷ positions_of behind)
      round_here = subst (λ (w : List Candidate). AreViewsSoFar o ps number s old views (positions_of w)) cut h.round

      spent_here : IsSpent ps (at.position ∷ positions_of behind) (length done) first now
      spent_here = subst (λ (w : List Candidate). IsSpent ps (positions_of w) (length done) first now) cut h.spent

      -- The peak of the candidate, with its position.
      abbrev pub the_peak : (p : Peak Op) × StandsAt ps at.position p
      the_peak = some_stands ps at.position position_within

      -- The peak of the candidate.
      abbrev pub p : Peak Op
      p = the_peak.0

      -- The peak of the candidate is at its position.
      abbrev pub here : StandsAt ps at.position p
      here = the_peak.1

      may_peak : MayFollow o s (ops p.ops)
      may_peak = may.may p (in_there ps at.position p here.0 here.1)

      -- The operations of the candidate to try that are not shared are at its range.
      pub rest : HasRest candidates.ops.items at p.ops
      rest = rest_there ps old candidates xs k same there may.are p here

      share : Share at.shared h.before p.ops × AreAlike ps p.ops behind
      share = subst (λ (w : List Candidate). AreAlike ps h.before w) cut h.next p here

      -- the operation that failed is shared
      pub round_after_skip : length done < at.shared → InRound (k + 1) views done t first now
      round_after_skip less =
          let right : at.shared ≤ length (ops p.ops) = let short = rest.shared in omega (arith, short, length-ops p.ops) in
          let alike = share_ops at.shared h.before p.ops share.0 in
          let left = share_long at.shared (ops h.before) (ops p.ops) right alike in
          let furthest = fails_alike o s t (ops h.before) done h.furthest (ops p.ops) at.shared alike left right less in
          record {
            before = p.ops;
            may = may_peak;
            furthest = furthest;
            next = share.1;
            round =
                let v = some_stands views at.position view_within in
                one_left o ps number s old views at.position (positions_of behind) p v.0 round_here here v.1
                (not_allowed o s t (ops p.ops) done furthest (omega (arith, less, right)));
            spent = skipped_spent ps at.position (positions_of behind) (length done) first now spent_here;
          }

      -- the other operations are tried after what is shared
      module _ (less : List (AppliedOp Op Undo)) (others : List Op) (enough : at.shared ≤ length done) (taken : less ≡ take at.shared done)
          (are : others ≡ take (at.to - at.from) (drop at.from candidates.ops.items)) where
        -- The shared operations and the others are together those of the candidate's attempt.
        pub whole : applied less ++ others ≡ ops p.ops
        whole =
            let f = λ (w : Item Op). w.op in
            ap (λ (w : List Op). w ++ others) (first_alike o s t (ops h.before) done h.furthest (ops p.ops) at.shared less (share_ops at.shared h.before p.ops share.0) enough taken)
            ∙ ap (λ (w : List Op). take at.shared (ops p.ops) ++ w) (are ∙ rest.rest)
            ∙ ap (λ (w : List Op). w ++ ops (drop at.shared p.ops)) (take-map f at.shared p.ops)
            ∙ sym (map-append f (take at.shared p.ops) (drop at.shared p.ops))
            ∙ ap (λ (w : List (Item Op)). ops w) (take-append-drop at.shared p.ops)

        -- The shared operations and the others may be tried from the state of the round.
        pub may_try : MayFollow o s (applied less ++ others)
        may_try = subst (λ (w : List Op). MayFollow o s w) (sym whole) may_peak

        count : length p.ops ≡ length less + length others
        count =
            let all = ap (λ (w : List Op). length w) whole in
            omega (arith, all, length-append (applied less) others, length-applied o less, length-ops p.ops)

        -- To try one candidate keeps the ticks within twice the operations of all attempts.
        pub within_bound : (mid new : ℕ) → now ≤ mid → mid + length less ≡ now + length done → mid ≤ new → new ≤ mid + length others → new ≤ first + 2 * operations ps
        within_bound mid new back cost rises bound = spent_within ps at.position (positions_of behind) first now mid new (length done) (length less) p here spent_here back cost rises
            (let all = count in omega (arith, bound, all))

        module _ (more : List (AppliedOp Op Undo)) (u : State) (mid new : ℕ) (furthest : IsFurthest o s (applied less ++ others) more u)
            (back : now ≤ mid) (cost : mid + length less ≡ now + length done) (rises : mid ≤ new) (bound : new ≤ mid + length others) where
          further : IsFurthest o s (ops p.ops) more u
          further = subst (λ (w : List Op). IsFurthest o s w more u) whole furthest

          round_after_trial : (vs : List View) → AreViewsSoFar o ps number s old vs (positions_of behind) → InRound (k + 1) vs more u first new
          round_after_trial vs round = record {
            before = p.ops;
            may = may_peak;
            furthest = further;
            next = share.1;
            round = round;
            spent = one_spent ps at.position (positions_of behind) first now mid new (length done) (length less) p here spent_here back cost rises (let all = count in omega (arith, bound, all))
                (length more) (let most = further.within in omega (arith, most, length-ops p.ops));
          }

          module _ (v : View) (stands : StandsAt views at.position v) where
            -- not all of them gave their results
            pub round_after_failure : (length more ≡ length less + length others → ⊥) → InRound (k + 1) views more u first new
            round_after_failure some = round_after_trial views (one_left o ps number s old views at.position (positions_of behind) p v round_here here stands
                (not_allowed o s u (ops p.ops) more further (let most = further.within in let all = count in omega (arith, some, most, all, length-ops p.ops))))

            -- all did, and the view has a number
            pub round_after_number : (v.after ≡ None → ⊥) → InRound (k + 1) views more u first new
            round_after_number some = round_after_trial views (one_numbered o ps number s old views at.position (positions_of behind) p v round_here here stands some)

            -- all did, and it had none
            pub round_after_find : (w : View) (vs : List View) → vs ≡ set views at.position w → w.tx ≡ v.tx → w.ops ≡ v.ops → w.after ≡ Some number → v.after ≡ None
                → length more ≡ length less + length others → InRound (k + 1) vs more u first new
            round_after_find w vs written tx same_ops after none all = round_after_trial vs (one_found o ps number s old views at.position (positions_of behind) p v round_here here stands w vs written tx same_ops after none
                (all_allowed o s u (ops p.ops) more further (let n = count in omega (arith, all, n, length-ops p.ops))))

    -- ---- the round is over

    -- A round is over if all candidates were tried.
    pub round_over : length candidates.list.items ≤ k → AreViewsSoFar o ps number s old views []
    round_over end = subst (λ (w : List Candidate). AreViewsSoFar o ps number s old views (positions_of w)) (drop_all k candidates.list.items end) h.round

    -- After a round the views are right for one more committed transaction.
    pub views_after_round : length candidates.list.items ≤ k → MayBeNumbered o s ps old candidates → (shape : Shape) (D : List (CommittedTx Op)) → IsStateAt o shape D number s
        → Pairwise (IsViewBelow number (rules_of o shape) D) ps old → Pairwise (IsViewBelow (number + 1) (rules_of o shape) D) ps views
    views_after_round end may shape D at below = round_done o ps number s old views may.long (round_over end) shape D at below

-- ---- between rounds

module _ {Shape State Op Undo : Type 0} (o : Object Shape State Op Undo) (shape : Shape) (D : List (CommittedTx Op)) (i : ℕ) (s : State) (at : IsStateAt o shape D i s)
    (ps : List (Peak Op)) (runs : MayRun o shape D ps) where
  -- The peaks may be tried after the first i committed transactions.
  pub may_be_numbered : (views : List View) (candidates : Candidates Op) → length views ≡ length ps → AreCandidates ps views candidates → MayBeNumbered o s ps views candidates
  may_be_numbered views candidates long cs = record {
    long = long;
    are = cs;
    reached = may_follow_there o shape D i s at [] (record { fit = tt; ranged = tt; few = let few = runs.few in omega (arith, few) });
    may = λ p n. may_follow_there o shape D i s at p.ops (runs.may p n);
  }
