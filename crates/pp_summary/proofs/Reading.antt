-- What a Quick that takes the records of a run proves about the run.
use Rattle.std.specs.Prelude.{◌≡◌, ◌+◌, ℕ, true, false, List, [], ◌∷◌, ◌++◌, map, Option}
use Rattle.std.proofs.Common.{refl, sym, ap, subst, ◌∙◌, length-append}
use Rattle.pp_core.specs.declared.call.Kind.{Kind}
use Rattle.pp_model.specs.Config.{Config, Start, after, first}
use Rattle.pp_model.specs.Rules.{Accepted, IsVerdict, RunsFrom, StartMeets}
use Rattle.pp_model.specs.Serial.{attempts, committed_tx}
use Rattle.pp_model.proofs.Simulate.{finished_are}
use Rattle.pp_model.proofs.Verdict.{accepted_iff}
use Rattle.pp_kind.specs.Object.{Object, rules_of}
use Rattle.pp_records.specs.Fronts.{Front}
use Rattle.pp_records.specs.Records.{RunRecord}
use Rattle.pp_records.specs.Runs.{Lined, Records, Standing, Translation, after_record, bare, outset, steps_at}
use Rattle.pp_records.proofs.Ends.{bare_append}
use Rattle.pp_records.proofs.Whole.{led_config, led_more}
use Rattle.pp_summary.specs.Boosted.{Boosted, PlacesSwap}
use Rattle.pp_summary.specs.Brief.{Brief, BriefGood, brief}
use Rattle.pp_summary.specs.Failures.{FailsIn, all_steps, standing_after}
use Rattle.pp_summary.specs.Held.{Held, IsHeldOf, Takes, held_first, held_next}
use Rattle.pp_summary.specs.Reading.{IsReader, HasRead}
use Rattle.pp_summary.specs.Runs.{AreBoosted, BriefRuns, IsBoosted, boosting, brief_after}
use Rattle.pp_summary.specs.Sums.{AreTried}
use Rattle.pp_summary.proofs.Briefs.{briefed}
use Rattle.pp_summary.proofs.Deciding.{quick}
use Rattle.pp_summary.proofs.Failures.{hold_next}
use Rattle.pp_summary.proofs.Sums.{tried_all, tried_to}
use Rattle.pp_summary.proofs.Whole.{decided}

-- Boosted records with one more boosted record are boosted records.
boosted_more : {Op : Type 0} (xs : Records (RunRecord Op)) (r : Lined (RunRecord Op)) → AreBoosted xs → IsBoosted r.what → AreBoosted (xs ++ r ∷ [])
boosted_more [] r h b = (b, tt)
boosted_more (x ∷ xs) r h b = (h.0, boosted_more xs r h.1 b)

boosted_to : {Op : Type 0} (xs : Records (RunRecord Op)) (r : Lined (RunRecord Op)) (ys : Records (RunRecord Op)) → AreBoosted (xs ++ r ∷ ys) → AreBoosted xs × IsBoosted r.what
boosted_to [] r ys h = (tt, h.0)
boosted_to (x ∷ xs) r ys h = let k = boosted_to xs r ys h.1 in ((h.0, k.0), k.1)

module _ {Shape State Op Undo : Type 0} (o : Object Shape State Op Undo) (place : Op → ℕ) (apart : (shape : Shape) → PlacesSwap (rules_of o shape) place) (ks : List Kind) (h : Option (Start Op)) where
  abbrev T : Translation Front (RunRecord Op) Op
  T = boosting place ks

  nothing : (shape : Shape) → StartMeets (rules_of o shape) h → HasRead o place ks h [] (held_first o place shape h)
  nothing shape m =
      record {
        boosted = tt;
        begun = m;
        hold = tt;
        held = record { boosted = (quick (rules_of o shape) place (apart shape)).start h m; is = refl };
        count = refl;
      }

  module _ (rs : Records (RunRecord Op)) (r : Lined (RunRecord Op)) (v w : Held Shape Op) (s : HasRead o place ks h rs v) where
    abbrev p : Standing Front Op
    p = standing_after T h rs

    abbrev next : Config Op
    next = (after_record T p r.what).config

    led_next : standing_after T h (rs ++ r ∷ []) ≡ after_record T p r.what
    led_next = led_more (rules_of o v.shape) T (outset T h) rs (r ∷ [])

    one_more : IsBoosted r.what → RunsFrom (rules_of o v.shape) p.config (steps_at T p r.what) → HasRead o place ks h (rs ++ r ∷ []) (held_next o place v next)
    one_more b runs =
        let q = quick (rules_of o v.shape) place (apart v.shape) in
        let good = (q.good p.front p.config r.what b (s.held).boosted).1 runs in
        record {
          boosted = boosted_more rs r s.boosted b;
          begun = s.begun;
          hold = hold_next (rules_of o v.shape) T h rs r s.hold runs;
          held =
              subst (λ (z : Standing Front Op). IsHeldOf o place (held_next o place v next) z.config) (sym led_next)
              (record { boosted = q.kept p.front p.config r.what b (s.held).boosted good; is = refl });
          count = ap (λ (n : ℕ). n + 1) s.count ∙ sym (length-append rs (r ∷ []));
        }

    more : IsBoosted r.what → Takes o place v r.what true w → HasRead o place ks h (rs ++ r ∷ []) w
    more b t =
        let k = t p.front p.config s.held in
        subst (λ (z : Held Shape Op). HasRead o place ks h (rs ++ r ∷ []) z) (sym k.1) (one_more b k.0)

    fails : (behind : Records (RunRecord Op)) → Takes o place v r.what false w → FailsIn (rules_of o v.shape) T h (rs ++ r ∷ behind) r
    fails behind t =
        record {
          begun = s.begun;
          before = rs;
          behind = behind;
          parts = refl;
          hold = s.hold;
          fails = (t p.front p.config s.held).0;
        }

  module _ (rs : Records (RunRecord Op)) (v : Held Shape Op) (s : HasRead o place ks h rs v) where
    accepted : IsVerdict (rules_of o v.shape) h (bare (all_steps T h rs)) Accepted
    accepted = (accepted_iff (rules_of o v.shape) h (bare (all_steps T h rs))).1 (s.begun, s.hold)

    done : v.brief.done ≡ (after h (bare (all_steps T h rs))).done
    done = ap (λ (b : Brief Op). b.done) (sym (s.held).is) ∙ ap (λ (c : Config Op). c.done) (led_config (rules_of o v.shape) T (outset T h) rs)

    committed : v.brief.done ≡ map committed_tx (attempts h (bare (all_steps T h rs)))
    committed = done ∙ finished_are (rules_of o v.shape) h (bare (all_steps T h rs)) s.begun s.hold

    good : BriefRuns (rules_of o v.shape) place (brief place (first h)) (bare rs)
    good =
        ((decided (rules_of o v.shape) place (apart v.shape)).accepted ks (outset T h) rs s.boosted ((quick (rules_of o v.shape) place (apart v.shape)).start h s.begun)).1 s.hold

    leads : v.brief ≡ brief_after place (brief place (first h)) (bare rs)
    leads =
        sym (s.held).is
        ∙ (decided (rules_of o v.shape) place (apart v.shape)).last ks (outset T h) rs s.boosted ((quick (rules_of o v.shape) place (apart v.shape)).start h s.begun) good

    all_tried : AreTried (rules_of o v.shape) place (brief place (first h)) (bare rs) (bare rs)
    all_tried = tried_all (rules_of o v.shape) place (bare rs) (brief place (first h)) good

  -- The records up to the first that fails.
  module _ (shape : Shape) (rs : Records (RunRecord Op)) (r : Lined (RunRecord Op)) (a : AreBoosted rs) (f : FailsIn (rules_of o shape) T h rs r) where
    abbrev d : Standing Front Op
    d = standing_after T h f.before

    those : AreBoosted f.before × IsBoosted r.what
    those = boosted_to f.before r f.behind (subst (λ (z : Records (RunRecord Op)). AreBoosted z) f.parts a)

    first_boosted : Boosted (rules_of o shape) place (first h)
    first_boosted = (quick (rules_of o shape) place (apart shape)).start h f.begun

    good_before : BriefRuns (rules_of o shape) place (brief place (first h)) (bare f.before)
    good_before = ((decided (rules_of o shape) place (apart shape)).accepted ks (outset T h) f.before those.0 first_boosted).1 f.hold

    not_good : BriefGood (rules_of o shape) place (brief_after place (brief place (first h)) (bare f.before)) r.what → ⊥
    not_good k =
        let boosted = (decided (rules_of o shape) place (apart shape)).boosted ks (outset T h) f.before those.0 first_boosted good_before in
        let same = (decided (rules_of o shape) place (apart shape)).last ks (outset T h) f.before those.0 first_boosted good_before in
        let here = subst (λ (z : Brief Op). BriefGood (rules_of o shape) place z r.what) (sym same) k in
        let good_here = ((briefed (rules_of o shape) place (apart shape)).good d.config r.what those.1 boosted).1 here in
        f.fails (((quick (rules_of o shape) place (apart shape)).good d.front d.config r.what those.1 boosted).0 good_here)

    tried : AreTried (rules_of o shape) place (brief place (first h)) (bare rs) (bare f.before ++ r.what ∷ [])
    tried =
        subst (λ (z : List (RunRecord Op)). AreTried (rules_of o shape) place (brief place (first h)) z (bare f.before ++ r.what ∷ []))
        (sym (ap (λ (z : Records (RunRecord Op)). bare z) f.parts ∙ bare_append f.before (r ∷ f.behind)))
        (tried_to (rules_of o shape) place (bare f.before) (bare f.behind) (brief place (first h)) r.what good_before not_good)

  -- A Quick that takes the records of a run has all that `IsReader` lists.
  pub reader : IsReader o place ks h
  reader =
      record {
        nothing = nothing;
        more = λ rs r v w b s t. more rs r v w s b t;
        fails = λ rs behind r v w s t. fails rs r v w s behind t;
        accepted = accepted;
        done = done;
        committed = committed;
        good = good;
        leads = leads;
        tried = tried;
        all_tried = all_tried;
      }
