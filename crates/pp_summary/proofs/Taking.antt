-- What taking a record returns, as a statement about configurations.
use Rattle.std.specs.Prelude.{◌≡◌, ℕ, Bool, true, false}
use Rattle.std.proofs.Common.{sym, ap, subst, ◌∙◌}
use Rattle.pp_model.specs.Config.{Config, Start}
use Rattle.pp_kind.specs.Object.{Object, rules_of}
use Rattle.pp_records.specs.Fronts.{Front}
use Rattle.pp_records.specs.Records.{RunRecord}
use Rattle.pp_summary.specs.Boosted.{Good, PlacesSwap}
use Rattle.pp_summary.specs.Brief.{Brief, BriefGood, brief_then}
use Rattle.pp_summary.specs.Held.{Held, IsHeldOf, Starts, Takes, TakesIn}
use Rattle.pp_summary.specs.Moving.{Answers, IsGood}
use Rattle.pp_summary.specs.Runs.{IsBoosted}
use Rattle.pp_summary.specs.Shown.{KeepsQuick, Kept, as_held}
use Rattle.pp_summary.specs.Starting.{StartAnswers}
use Rattle.pp_summary.proofs.Briefs.{briefed}
use Rattle.pp_summary.proofs.Deciding.{quick}

-- Equal shapes, briefs and counts make equal views of a summary.
pub same_held : {Shape Op : Type 0} (a b : Shape) (c d : Brief Op) (e f : ℕ) → a ≡ b → c ≡ d → e ≡ f → ◌≡◌ {A = Held Shape Op} (record { shape = a; brief = c; count = e }) (record { shape = b; brief = d; count = f })
same_held {Shape} {Op} a b c d e f p q r =
    ap (λ (z : Shape). record { shape = z; brief = c; count = e }) p
    ∙ ap (λ (z : Brief Op). record { shape = b; brief = z; count = e }) q
    ∙ ap (λ (z : ℕ). record { shape = b; brief = d; count = z }) r

module _ {Shape State Op Undo : Type 0} (o : Object Shape State Op Undo) (place : Op → ℕ) (apart : (shape : Shape) → PlacesSwap (rules_of o shape) place) where
  module _ (v w : Kept Shape Op) (r : RunRecord Op) (s : IsBoosted r) (f : Front) (c : Config Op) (k : IsHeldOf o place (as_held place v) c) where
    good_is : IsGood o place v r → Good (rules_of o v.shape) place c r
    good_is g = ((briefed (rules_of o v.shape) place (apart v.shape)).good c r s k.boosted).1 (subst (λ (b : Brief Op). BriefGood (rules_of o v.shape) place b r) (sym k.is) g)

    is_good : Good (rules_of o v.shape) place c r → IsGood o place v r
    is_good g = subst (λ (b : Brief Op). BriefGood (rules_of o v.shape) place b r) k.is (((briefed (rules_of o v.shape) place (apart v.shape)).good c r s k.boosted).0 g)

    -- If taking a record returns what `Answers` says, its result says whether the record is good in each configuration with this brief.
    pub taken : (answer : Bool) → Answers o place v r answer w → TakesIn o place (as_held place v) r answer (as_held place w) f c
    taken true a =
        let g = good_is a.0 in (
          ((quick (rules_of o v.shape) place (apart v.shape)).good f c r s k.boosted).0 g,
          same_held _ _ _ _ _ _ a.1.shape (a.1.shown ∙ sym ((briefed (rules_of o v.shape) place (apart v.shape)).step f c r s k.boosted g ∙ ap (λ (b : Brief Op). brief_then place b r) k.is)) a.1.count,
        )
    taken false a =
        ((λ run. a.0 (is_good (((quick (rules_of o v.shape) place (apart v.shape)).good f c r s k.boosted).1 run))), ap (as_held place) a.1)

  -- If taking a record returns what `Answers` says, it takes the record as its contract promises.
  pub takes_of : (v w : Kept Shape Op) (r : RunRecord Op) (answer : Bool) → IsBoosted r → Answers o place v r answer w → Takes o place (as_held place v) r answer (as_held place w)
  takes_of v w r answer s a f c k = taken v w r s f c k answer a

-- A record leaves a Quick with the facts that each Quick keeps.
pub keeps_after : {Shape State Op Undo : Type 0} (o : Object Shape State Op Undo) (place : Op → ℕ) (v w : Kept Shape Op) (r : RunRecord Op) (answer : Bool) → Answers o place v r answer w → KeepsQuick o place v → KeepsQuick o place w
keeps_after o place v w r true a h = a.1.keeps
keeps_after {Shape = Shape} {Op = Op} o place v w r false a h = subst (λ (z : Kept Shape Op). KeepsQuick o place z) (sym a.1) h

-- A record keeps the shape of a summary.
pub shape_after : {Shape State Op Undo : Type 0} (o : Object Shape State Op Undo) (place : Op → ℕ) (v w : Kept Shape Op) (r : RunRecord Op) (answer : Bool) → Answers o place v r answer w → w.shape ≡ v.shape
shape_after o place v w r true a = a.1.shape
shape_after {Shape = Shape} {Op = Op} o place v w r false a = ap (λ (z : Kept Shape Op). z.shape) a.1

-- If a start returns what `StartAnswers` says, it starts the Quick as its contract promises.
pub starts_of : {Shape State Op Undo : Type 0} (o : Object Shape State Op Undo) (place : Op → ℕ) (v w : Kept Shape Op) (z : Start Op) (good : Bool) → v.count ≡ 0 → StartAnswers o place v z good w →
    Starts o place (as_held place v) z good (as_held place w)
starts_of o place v w z true none a = (a.0, same_held _ _ _ _ _ _ a.1.shape a.1.shown (a.1.count ∙ none))
starts_of {Shape = Shape} {Op = Op} o place v w z false none a = (a.0, ap (as_held place) a.1)
