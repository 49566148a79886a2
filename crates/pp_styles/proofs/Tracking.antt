-- What the notes on a machine say is true of it.
use Rattle.std.proofs.Common.{◌≡◌, ◌≤◌, ◌-◌, ◌++◌, ℕ, true, List, [], drop, take, length, take_all, length-drop, arith, IfSome, Option, None, Some, refl, sym, ap, subst, ◌∙◌}
use Rattle.std.specs.Option.{option_map}
use Rattle.pp_core.specs.Steps.{Step}
use Rattle.pp_records.specs.Expansions.{LocalLog, SharedLog, pushall}
use Rattle.pp_model.specs.Config.{Tx, tx}
use Rattle.pp_model.specs.Lists.{In}
use Rattle.pp_model.specs.Names.{Name}
use Rattle.pp_model.specs.Sound.{Sound}
use Rattle.pp_model.proofs.Lists.{in_right}
use Rattle.std.proofs.lemmas.Option.{same_Some}
use Rattle.pp_machine.specs.Machines.{Seen}
use Rattle.pp_machine.specs.Stepping.{Stepped}
use Rattle.pp_machine.specs.declared.machine.Outcome.{Outcome}
use Rattle.pp_machine.specs.declared.machine.Outcome.TheVariants.{Done, False}
use Rattle.pp_kind.specs.Object.{Object, rules_of}
use Rattle.pp_styles.specs.Dropping.{IsPulledBut, KnowsPulled, ListsPull, Looks, Pullings, Trims}
use Rattle.pp_styles.specs.Knowing.{ForgetsBefore, IsAllBut, IsFollowedBut, IsTrueOf, Knowledge, ListsAfter}
use Rattle.pp_styles.specs.Knowing.{PushesMore, TakesMore}
use Rattle.pp_styles.specs.Publishing.{Adds, Keeps, ListsPushed, LooksFurther, Publications, TellsTrue, UnpassesBefore}
use Rattle.pp_styles.proofs.Dropping.{known_pulled, looks_pulled, stays_pulled, trims_pulled, waits_pulled}
use Rattle.pp_styles.proofs.Publishing.{keeps, stays as stays_listed, waits as waits_listed}
use Rattle.pp_styles.proofs.Looking.{followed_but, looks}
use Rattle.pp_styles.proofs.Taking.{committed_alone}
use Rattle.pp_styles.proofs.Knowing.{all_but, known_pushed, pushes, stays, takes, waits}

-- the open transaction whose local log is lent
opened_is : {Op Shape : Type 0} (shape : Shape) (local : Shape × LocalLog Op) (o : Option (Tx Op)) → Some local ≡ option_map (λ (y : Tx Op). (shape, y.local)) o → (x : Tx Op) × (o ≡ Some x) × (local.1 ≡ x.local)
opened_is shape local None is = absurd (let no : Some local ≡ None = is in cc)
opened_is {Op} {Shape} shape local (Some x) is =
    let same : local ≡ (shape, x.local) = cc in
    (x, refl, ap (λ (p : Shape × LocalLog Op). p.1) same)

-- ids that tell of it tell of this local log
pub pulled_local : {Shape Op A : Type 0} (shape : Shape) (local : Shape × LocalLog Op) (o : Option (Tx Op)) (source : Name) (now : A → List ℕ) (r : Option A) → Some local ≡ option_map (λ (y : Tx Op). (shape, y.local)) o →
    IfSome r (λ ids. (x : Tx Op) → o ≡ Some x → IsPulledBut source x.local (now ids)) → IfSome r (λ ids. IsPulledBut source local.1 (now ids))
pulled_local shape local o source now None is known = tt
pulled_local {Shape} {Op} shape local o source now (Some ids) is known =
    let x = opened_is shape local o is in
    subst (λ (l : LocalLog Op). IsPulledBut source l (now ids)) (sym x.2) (known x.0 x.1)

module _ {Shape State Op Undo : Type 0} (o : Object Shape State Op Undo) (place : Op → ℕ) (k : Knowledge) (inside v : Seen Shape Op) (view : inside ≡ v) (true_inside : IsTrueOf place k inside.config) where
  true_here : IsTrueOf place k v.config
  true_here = subst (λ (w : Seen Shape Op). IsTrueOf place k w.config) view true_inside

  module _ (s : Sound (rules_of o v.shape) v.config) (t : Name) (local : Shape × LocalLog Op) (is : Some local ≡ option_map (λ (y : Tx Op). (v.shape, y.local)) (tx t v.config.opened)) where
    -- The ids after those taken are all that the local log may lack of an object.
    pub all_but_here : (object : ℕ) (ids : List ℕ) → ids ≡ drop (k.taken t object) (k.ids object) → IsAllBut place object v.config.shared local.1 ids
    all_but_here object ids same =
        let x = opened_is v.shape local (tx t v.config.opened) is in
        subst (λ (w : List ℕ). IsAllBut place object v.config.shared local.1 w) (sym same)
        (subst (λ (l : LocalLog Op). IsAllBut place object v.config.shared l (drop (k.taken t object) (k.ids object))) (sym x.2)
        (all_but place k v.config true_here (rules_of o v.shape) s t x.0 x.1 object))

    -- A pushall of the entries from the known number on is a pushall of the local log.
    pub unpushed_here : (from : ℕ) (all : LocalLog Op) → all ≡ local.1 → from ≤ k.pushed t → Some (pushall t (take (length all - from) (drop from all))) ≡ option_map (λ (x : Tx Op). pushall t x.local) (tx t v.config.opened)
    unpushed_here from all same low =
        let x = opened_is v.shape local (tx t v.config.opened) is in
        ap (λ (w : LocalLog Op). Some (pushall t w)) (rest from all)
        ∙ ap (λ (w : LocalLog Op). Some (pushall t (drop from w))) (same ∙ x.2)
        ∙ ap Some (known_pushed place k v.config true_here (rules_of o v.shape) s t x.0 x.1 from low)
        ∙ sym (ap (λ (w : Option (Tx Op)). option_map (λ (y : Tx Op). pushall t y.local) w) x.1)
      where
        rest : (n : ℕ) (xs : LocalLog Op) → take (length xs - n) (drop n xs) ≡ drop n xs
        rest n xs = let size = length-drop n xs in take_all (length xs - n) (drop n xs) (omega arith)

    -- Facts about a machine stay true if more committed entries are found in a local log.
    pub takes_here : (new : Knowledge) → TakesMore t local.1 k new → IsTrueOf place new v.config
    takes_here new more =
        let x = opened_is v.shape local (tx t v.config.opened) is in
        takes place k v.config true_here (rules_of o v.shape) s t x.0 x.1 new (subst (λ (l : LocalLog Op). TakesMore t l k new) x.2 more)

    -- Facts about a machine stay true if more entries are found not to be unpushed.
    pub pushes_here : (new : Knowledge) → PushesMore t local.1 k new → IsTrueOf place new v.config
    pushes_here new more =
        let x = opened_is v.shape local (tx t v.config.opened) is in
        pushes place k v.config true_here (rules_of o v.shape) s t x.0 x.1 new (subst (λ (l : LocalLog Op). PushesMore t l k new) x.2 more)

  -- what is known behind a step
  pub true_behind : Sound (rules_of o v.shape) v.config → (step : Step Op) (outcome : Outcome Op) (w : Seen Shape Op) (new last : Knowledge) →
      Stepped o v step outcome w → ForgetsBefore place step v.config k new → ListsAfter place step w.config.done new last → IsTrueOf place last w.config
  true_behind s step Done w new last effect f m =
      subst (λ (z : Seen Shape Op). IsTrueOf place last z.config) (sym effect.1)
      (stays place k v.config true_here (rules_of o v.shape) s step effect.0 new last f (subst (λ (z : Seen Shape Op). ListsAfter place step z.config.done new last) effect.1 m))
  true_behind s step (False n detail) w new last effect f m =
      subst (λ (z : Seen Shape Op). IsTrueOf place last z.config) (sym effect.2) (waits place k v.config true_here step w.config.done new last f m)

-- and so does what is known of published entries
pub lists_behind : {Shape State Op Undo : Type 0} (o : Object Shape State Op Undo) (place : Op → ℕ) (p : Publications) (v : Seen Shape Op) → TellsTrue place p v.config → Sound (rules_of o v.shape) v.config →
    (step : Step Op) (outcome : Outcome Op) (w : Seen Shape Op) (q r : Publications) → Stepped o v step outcome w → UnpassesBefore place step v.config.shared p q → ListsPushed place step w.config.shared q r → TellsTrue place r w.config
lists_behind {Shape} {State} {Op} o place p v h s step Done w q r effect f m =
    subst (λ (z : Seen Shape Op). TellsTrue place r z.config) (sym effect.1)
    (stays_listed place p v.config h (rules_of o v.shape) s step effect.0 q r f (subst (λ (z : Seen Shape Op). ListsPushed place step z.config.shared q r) effect.1 m))
lists_behind {Shape} {State} {Op} o place p v h s step (False n detail) w q r effect f m =
    subst (λ (z : Seen Shape Op). TellsTrue place r z.config) (sym effect.2)
    (waits_listed place p v.config h step q r f (subst (λ (z : Seen Shape Op). ListsPushed place step z.config.shared q r) effect.2 m))

module _ {Shape State Op Undo : Type 0} (o : Object Shape State Op Undo) (place : Op → ℕ) (k : Knowledge) (p : Publications) (v : Seen Shape Op) (noted : IsTrueOf place k v.config) (listed : TellsTrue place p v.config) where
  -- lists begin to be kept
  pub keeps_here : (G : Shape × SharedLog Op) → G ≡ (v.shape, v.config.shared) → (q : Publications) → Keeps place G.1 p q → TellsTrue place q v.config
  keeps_here G is q f = keeps place p v.config listed q (subst (λ (w : Shape × SharedLog Op). Keeps place w.1 p q) is f)

  module _ (s : Sound (rules_of o v.shape) v.config) (t : Name) (local : Shape × LocalLog Op) (is : Some local ≡ option_map (λ (y : Tx Op). (v.shape, y.local)) (tx t v.config.opened)) where
    same_local : (x : Tx Op) → tx t v.config.opened ≡ Some x → local.1 ≡ x.local
    same_local x open_is =
        ap (λ (w : Shape × LocalLog Op). w.1) (same_Some local (v.shape, x.local) (is ∙ ap (λ (w : Option (Tx Op)). option_map (λ (y : Tx Op). (v.shape, y.local)) w) open_is))

    module _ (object : ℕ) (told none first : List ℕ) (told_is : told ≡ drop (k.taken t object) (k.ids object)) (first_is : first ≡ none ++ told) where
      all_told : (x : Tx Op) → tx t v.config.opened ≡ Some x → IsAllBut place object v.config.shared x.local first
      all_told x open_is g i committed on off =
          subst (λ (w : List ℕ). In g.id w) (sym first_is)
          (in_right g.id none told (subst (λ (w : List ℕ). In g.id w) (sym told_is) (all_but place k v.config noted (rules_of o v.shape) s t x open_is object g i committed on off)))

      -- without a source
      pub alone_here : (x : Tx Op) → tx t v.config.opened ≡ Some x → IsFollowedBut place object [] v.config.shared x.local first
      alone_here x open_is = committed_alone place object v.config.shared x.local first (all_told x open_is)

      module _ (G : Shape × SharedLog Op) (shared_is : G ≡ (v.shape, v.config.shared)) where
        -- with sources
        pub followed_here : p.kept ≡ true → (sources : List Name) (ids : List ℕ) → ((i : ℕ) → In i first → In i ids) → ((u : Name) → In u sources → Adds local.1 G.1 (p.ids u object) (p.gone u object) (p.passed t u object) ids) →
            (x : Tx Op) → tx t v.config.opened ≡ Some x → IsFollowedBut place object sources v.config.shared x.local ids
        followed_here kept sources ids more added x open_is =
            followed_but place p v.config listed (rules_of o v.shape) s t x open_is object sources first ids kept (all_told x open_is) more
            (λ u among. subst (λ (l : LocalLog Op). Adds l v.config.shared (p.ids u object) (p.gone u object) (p.passed t u object) ids) (same_local x open_is)
            (subst (λ (w : Shape × SharedLog Op). Adds local.1 w.1 (p.ids u object) (p.gone u object) (p.passed t u object) ids) shared_is (added u among)))

    -- what is looked at
    pub looks_here : (object : ℕ) (G : Shape × SharedLog Op) → G ≡ (v.shape, v.config.shared) → (q : Publications) → LooksFurther t object local.1 G.1 p q → TellsTrue place q v.config
    looks_here object G shared_is q more =
        let x = opened_is v.shape local (tx t v.config.opened) is in
        looks place p v.config listed (rules_of o v.shape) s t x.0 x.1 object q
        (subst (λ (l : LocalLog Op). LooksFurther t object l v.config.shared p q) x.2 (subst (λ (w : Shape × SharedLog Op). LooksFurther t object local.1 w.1 p q) shared_is more))

-- and what is known of pulled entries
pub pulled_behind : {Shape State Op Undo : Type 0} (o : Object Shape State Op Undo) (p : Pullings) (v : Seen Shape Op) → KnowsPulled p v.config → (step : Step Op) (outcome : Outcome Op) (w : Seen Shape Op)
    (G : Shape × SharedLog Op) → G ≡ (v.shape, v.config.shared) → (q : Pullings) → Stepped o v step outcome w → ListsPull step G.1 p q → KnowsPulled q w.config
pulled_behind {Shape} {State} {Op} o p v h step Done w G is q effect f =
    subst (λ (z : Seen Shape Op). KnowsPulled q z.config) (sym effect.1) (stays_pulled p v.config h step q (subst (λ (z : Shape × SharedLog Op). ListsPull step z.1 p q) is f))
pulled_behind {Shape} {State} {Op} o p v h step (False n detail) w G is q effect f =
    subst (λ (z : Seen Shape Op). KnowsPulled q z.config) (sym effect.2) (waits_pulled p v.config h step q (subst (λ (z : Shape × SharedLog Op). ListsPull step z.1 p q) is f))

-- Facts about pulled entries stay true after a local log of the machine was looked at.
pub pulled_looks : {Shape State Op Undo : Type 0} (o : Object Shape State Op Undo) (p : Pullings) (v : Seen Shape Op) → KnowsPulled p v.config → Sound (rules_of o v.shape) v.config → (t : Name) (local : Shape × LocalLog Op) →
    Some local ≡ option_map (λ (y : Tx Op). (v.shape, y.local)) (tx t v.config.opened) → (l : LocalLog Op) → l ≡ local.1 → (q : Pullings) → Looks t l p q → KnowsPulled q v.config
pulled_looks {Shape} {State} {Op} o p v h s t local is l l_is q f =
    let x = opened_is v.shape local (tx t v.config.opened) is in
    looks_pulled p v.config h (rules_of o v.shape) s t x.0 x.1 q (subst (λ (w : LocalLog Op). Looks t w p q) (l_is ∙ x.2) f)

-- Facts about pulled entries stay true after a list was trimmed by a local log of the machine.
pub pulled_trims : {Shape State Op Undo : Type 0} (o : Object Shape State Op Undo) (p : Pullings) (v : Seen Shape Op) → KnowsPulled p v.config → Sound (rules_of o v.shape) v.config → (t owner : Name) (local : Shape × LocalLog Op) →
    Some local ≡ option_map (λ (y : Tx Op). (v.shape, y.local)) (tx t v.config.opened) → (q : Pullings) → Trims t owner local.1 p q → KnowsPulled q v.config
pulled_trims {Shape} {State} {Op} o p v h s t owner local is q f =
    let x = opened_is v.shape local (tx t v.config.opened) is in
    trims_pulled p v.config h (rules_of o v.shape) s t x.0 x.1 owner q (subst (λ (w : LocalLog Op). Trims t owner w p q) x.2 f)

-- what is listed of an open transaction
pub pulled_here : {Shape Op A : Type 0} (p : Pullings) (inside v : Seen Shape Op) → inside ≡ v → KnowsPulled p inside.config → (t source : Name) (now : A → List ℕ) (r : Option A) →
    IfSome r (λ ids. (p.kept t ≡ true) × (now ids ≡ p.ids t source)) → IfSome r (λ ids. (x : Tx Op) → tx t v.config.opened ≡ Some x → IsPulledBut source x.local (now ids))
pulled_here p inside v view h t source now None none = tt
pulled_here {Shape} {Op} p inside v view h t source now (Some ids) is = λ x open_is.
    subst (λ (w : List ℕ). IsPulledBut source x.local w) (sym is.1)
    (known_pulled p v.config (subst (λ (w : Seen Shape Op). KnowsPulled p w.config) view h) t is.0 source x open_is)
