-- The committed transactions of a run that can be stated are printable.
use Rattle.std.proofs.Common.{not, Bool, true, false, cond, List, [], ◌∷◌, ◌++◌, filter, map, option_map, Option, None, Some}
use Rattle.pp_core.specs.Catalogs.{Objects}
use Rattle.pp_core.specs.Names.{IsName}
use Rattle.pp_core.specs.declared.entry.Item.{Item}
use Rattle.pp_format_read.specs.declared.start.Start.{Start}
use Rattle.pp_format_write.specs.Statable.{CanStart, IsId, IsOpOn, IsStatable}
use Rattle.pp_model.specs.Config.{Step, Begin, App, Unapp, Push, Unpush, Pull, Unpull, Cmt, Quit, Note, start_with}
use Rattle.pp_model.specs.Lists.{Each}
use Rattle.pp_model.specs.Names.{Name, ◌=ⁿ◌}
use Rattle.pp_model.specs.Serial.{Attempt, applied_items, attempt_of, attempts, commits, committed_tx}
use Rattle.pp_model.specs.Serial.{has_id, own_of, start_attempts, unapplied_ids}
use Rattle.pp_objects.specs.declared.act.Op.{Op}
use Rattle.pp_laws_reports.specs.Readable.{ArePrintable, IsPrintable}
use Rattle.pp_judge.proofs.Stating.{each_append}

module _ {A : Type 0} (P : A → Type 0) where
  each_cond : (b : Bool) (x : A) (xs : List A) → P x → Each P xs → Each P (cond b (x ∷ xs) xs)
  each_cond true x xs h k = (h, k)
  each_cond false x xs h k = k

  each_filter : (test : A → Bool) (xs : List A) → Each P xs → Each P (filter test xs)
  each_filter test [] h = tt
  each_filter test (x ∷ xs) h = each_cond (test x) x (filter test xs) h.0 (each_filter test xs h.1)

module _ (catalog : Objects) where
  abbrev IsItem : Item Op → Type 0
  IsItem p = IsId p.id × IsOpOn catalog p.op

  -- a transaction that committed, before its body is left out
  abbrev IsPrintableAttempt : Attempt Op → Type 0
  IsPrintableAttempt a = IsName a.name × Each IsItem a.items

  abbrev AllStated : List (Step Op) → Type 0
  AllStated ss = Each (IsStatable catalog) ss

  applied : (t : Name) (ss : List (Step Op)) → AllStated ss → Each IsItem (applied_items t ss)
  applied t [] h = tt
  applied t (Begin u p b ∷ ss) h = applied t ss h.1
  applied t (App u id op ∷ ss) h = each_cond IsItem (u =ⁿ t) (record { id = id; op = op }) (applied_items t ss) (h.0.1, h.0.2) (applied t ss h.1)
  applied t (Unapp u id ∷ ss) h = applied t ss h.1
  applied t (Push u id ∷ ss) h = applied t ss h.1
  applied t (Unpush u id ∷ ss) h = applied t ss h.1
  applied t (Pull u id ∷ ss) h = applied t ss h.1
  applied t (Unpull u id ∷ ss) h = applied t ss h.1
  applied t (Cmt u ∷ ss) h = applied t ss h.1
  applied t (Quit u ∷ ss) h = applied t ss h.1
  applied t (Note u ∷ ss) h = applied t ss h.1

  own : (t : Name) (ss : List (Step Op)) → AllStated ss → Each IsItem (own_of t ss)
  own t ss h = each_filter IsItem (λ p. not (has_id p.id (unapplied_ids t ss))) (applied_items t ss) (applied t ss h)

  committed_names : (ss : List (Step Op)) → AllStated ss → Each IsName (commits ss)
  committed_names [] h = tt
  committed_names (Begin u p b ∷ ss) h = committed_names ss h.1
  committed_names (App u id op ∷ ss) h = committed_names ss h.1
  committed_names (Unapp u id ∷ ss) h = committed_names ss h.1
  committed_names (Push u id ∷ ss) h = committed_names ss h.1
  committed_names (Unpush u id ∷ ss) h = committed_names ss h.1
  committed_names (Pull u id ∷ ss) h = committed_names ss h.1
  committed_names (Unpull u id ∷ ss) h = committed_names ss h.1
  committed_names (Cmt u ∷ ss) h = (h.0, committed_names ss h.1)
  committed_names (Quit u ∷ ss) h = committed_names ss h.1
  committed_names (Note u ∷ ss) h = committed_names ss h.1

  these : (names : List Name) (ss : List (Step Op)) → AllStated ss → Each IsName names → Each IsPrintableAttempt (map (attempt_of ss) names)
  these [] ss h k = tt
  these (t ∷ names) ss h k = ((k.0, own t ss h), these names ss h k.1)

  at_start : (start : Option Start) → CanStart catalog start → Each IsPrintableAttempt (start_attempts (option_map (λ z. start_with z.tx z.ops) start))
  at_start None h = tt
  at_start (Some z) h = ((h.named, h.each), tt)

  without_bodies : (as' : List (Attempt Op)) → Each IsPrintableAttempt as' → ArePrintable catalog (map committed_tx as')
  without_bodies [] h = tt
  without_bodies (a ∷ as') h =
      let one : IsPrintable catalog (committed_tx a) = record { named = h.0.0; each = h.0.1 } in
      (one, without_bodies as' h.1)

  -- The committed transactions of a run that can be stated are printable.
  pub all_printable : (start : Option Start) (ss : List (Step Op)) → CanStart catalog start → Each (IsStatable catalog) ss
      → ArePrintable catalog (map committed_tx (attempts (option_map (λ z. start_with z.tx z.ops) start) ss))
  all_printable start ss begun h =
      let first = start_attempts (option_map (λ z. start_with z.tx z.ops) start) in
      let rest = map (attempt_of ss) (commits ss) in
      without_bodies (first ++ rest) (each_append IsPrintableAttempt first rest (at_start start begun) (these (commits ss) ss h (committed_names ss h)))
