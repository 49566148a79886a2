-- A run without operations fails at bookkeeping alone.
use Rattle.std.specs.Prelude.{◌≡◌, ◌≤◌, not, ℕ, zero, suc, List, [], ◌∷◌, ◌++◌, drop, Option, None, Some}
use Rattle.std.proofs.Common.{refl, sym, ap, subst, ◌∙◌, arith}
use mathlib.Core.Logic.{inl, inr}
use Rattle.pp_core.specs.declared.call.Kind.{Kind}
use Rattle.pp_core.specs.declared.call.Style.{Style}
use Rattle.pp_core.specs.declared.call.Style.TheVariants.{Rules, Boosted, Optimistic, Hardware, Dependent}
use Rattle.pp_model.specs.Config.{App, Begin, Cmt, Config, Note, Pull, Push, Quit, Step, Tx, Unapp, Unpull, Unpush, after_from, commit_all, commit_effect, then, tx}
use Rattle.pp_model.specs.Lists.{Each, In}
use Rattle.pp_model.specs.Names.{Name, ◌=ⁿ◌}
use Rattle.pp_model.specs.Object.{Object}
use Rattle.pp_model.specs.Rules.{Breaks, FirstFalse, there}
use Rattle.pp_records.specs.Expansions.{IsBegin, LocalLog, Steps, commit_steps, expand, steps_of_open, taken_out}
use Rattle.pp_records.specs.Fronts.{Front, mark_of}
use Rattle.pp_records.specs.Records.{RunRecord}
use Rattle.pp_records.specs.Records as records
use Rattle.pp_records.specs.Runs.{Lined, Records, Standing, after_record, bare, joined_steps, on_line}
use Rattle.pp_records.specs.Styles.{translation}
use Rattle.pp_laws_locality.specs.Rejected.{FailsFrom, IsOfBookkeeping}
use Rattle.pp_laws_mapped.proofs.MappedLists.{each_append, each_filter, each_found}

-- the record is no operation and no refresh
abbrev pub IsIdle : {Op : Type 0} → RunRecord Op → Type 0
IsIdle (records.Plain step) = IsBegin step
IsIdle (records.Op t id op) = ⊥
IsIdle (records.Commit t) = Unit {0}
IsIdle (records.Abort t) = Unit {0}
IsIdle (records.Retry t) = Unit {0}
IsIdle (records.Refresh t p) = ⊥
IsIdle (records.XBegin t) = Unit {0}
IsIdle (records.XEnd t) = Unit {0}
IsIdle (records.XAbort t) = Unit {0}
IsIdle (records.Depend t source) = ⊥
IsIdle (records.Publish t) = ⊥
IsIdle (records.DropSource t source) = ⊥

-- the step names no operation
abbrev IsPlain : {Op : Type 0} → Step Op → Type 0
IsPlain (Begin t p b) = Unit {0}
IsPlain (App t id op) = ⊥
IsPlain (Unapp t id) = ⊥
IsPlain (Push t id) = ⊥
IsPlain (Unpush t id) = ⊥
IsPlain (Pull t id) = ⊥
IsPlain (Unpull t id) = ⊥
IsPlain (Cmt t) = Unit {0}
IsPlain (Quit t) = Unit {0}
IsPlain (Note t) = Unit {0}

-- all logs are empty
pub record HasEmptyLogs {Op : Type 0} (c : Config Op) : Type 0 where
  pub locals : Each (λ x. x.local ≡ []) c.opened
  pub shared : c.shared ≡ []

-- these steps are one step without an operation
record IsOnePlain {Op : Type 0} (ss : Steps Op) : Type 0 where
  step : Step Op
  is_plain : IsPlain step
  only : ss ≡ step ∷ []

drop_none : {A : Type 0} (n : ℕ) → (let none : List A = [] in drop n none ≡ none)
drop_none zero = refl
drop_none (suc n) = refl

module _ {Op : Type 0} where
  abbrev IsEmpty : Tx Op → Type 0
  IsEmpty x = x.local ≡ []

  empty_commit : (c : Config Op) (t : Name) (o : Option (Tx Op)) → HasEmptyLogs c → HasEmptyLogs (commit_effect c t o)
  empty_commit c t None e = e
  empty_commit c t (Some x) e = record { locals = each_filter IsEmpty (λ y. not (y.name =ⁿ t)) c.opened e.locals; shared = ap (commit_all t) e.shared }

  empty_then : (c : Config Op) (s : Step Op) → IsPlain s → HasEmptyLogs c → HasEmptyLogs (then c s)
  empty_then c (Begin t p b) is e = record { locals = each_append IsEmpty c.opened (record { name = t; thread = p; body = b; local = [] } ∷ []) e.locals (refl, tt); shared = e.shared }
  empty_then c (App t id op) is e = absurd is
  empty_then c (Unapp t id) is e = absurd is
  empty_then c (Push t id) is e = absurd is
  empty_then c (Unpush t id) is e = absurd is
  empty_then c (Pull t id) is e = absurd is
  empty_then c (Unpull t id) is e = absurd is
  empty_then c (Cmt t) is e = empty_commit c t (tx t c.opened) e
  empty_then c (Quit t) is e = record { locals = each_filter IsEmpty (λ y. not (y.name =ⁿ t)) c.opened e.locals; shared = e.shared }
  empty_then c (Note t) is e = e

  -- ---- a record is one step

  in_open : (o : Option (Tx Op)) (alone s : Step Op) (steps : LocalLog Op → Steps Op) → ((x : Tx Op) → o ≡ Some x → IsEmpty x) → IsPlain alone → IsPlain s → steps [] ≡ s ∷ [] → IsOnePlain (steps_of_open o alone steps)
  in_open None alone s steps e p q is = record { step = alone; is_plain = p; only = refl }
  in_open (Some x) alone s steps e p q is = record { step = s; is_plain = q; only = ap steps (e x refl) ∙ is }

  commit_alone : (style : Style) (t : Name) → (let none : LocalLog Op = [] in commit_steps style none t ≡ Cmt t ∷ [])
  commit_alone Rules t = refl
  commit_alone Boosted t = refl
  commit_alone Optimistic t = refl
  commit_alone Hardware t = refl
  commit_alone Dependent t = refl

  begin_alone : (s : Step Op) → IsBegin s → IsOnePlain (s ∷ [])
  begin_alone (Begin t p b) is = record { step = Begin t p b; is_plain = tt; only = refl }
  begin_alone (App t id op) is = absurd is
  begin_alone (Unapp t id) is = absurd is
  begin_alone (Push t id) is = absurd is
  begin_alone (Unpush t id) is = absurd is
  begin_alone (Pull t id) is = absurd is
  begin_alone (Unpull t id) is = absurd is
  begin_alone (Cmt t) is = absurd is
  begin_alone (Quit t) is = absurd is
  begin_alone (Note t) is = absurd is

  idle_step : (place : Op → ℕ) (style : Style) (f : Front) (c : Config Op) (r : RunRecord Op) → IsIdle r → HasEmptyLogs c → IsOnePlain (expand place style f c r)
  idle_step place style f c r is e = by r is
    where
      open_is : (t : Name) (x : Tx Op) → tx t c.opened ≡ Some x → IsEmpty x
      open_is t x found = each_found IsEmpty (λ y. y.name =ⁿ t) c.opened x e.locals found

      by : (q : RunRecord Op) → IsIdle q → IsOnePlain (expand place style f c q)
      by (records.Plain step) k = begin_alone step k
      by (records.Op t id op) k = absurd k
      by (records.Commit t) k = in_open (tx t c.opened) (Cmt t) (Cmt t) (λ l. commit_steps style l t) (open_is t) tt tt (commit_alone style t)
      by (records.Abort t) k = in_open (tx t c.opened) (Quit t) (Quit t) _ (open_is t) tt tt refl
      by (records.Retry t) k = in_open (tx t c.opened) (Note t) (Note t) _ (open_is t) tt tt refl
      by (records.Refresh t p) k = absurd k
      by (records.XBegin t) k = record { step = Note t; is_plain = tt; only = refl }
      by (records.XEnd t) k = in_open (tx t c.opened) (Note t) (Note t) _ (open_is t) tt tt refl
      by (records.XAbort t) k = in_open (tx t c.opened) (Note t) (Note t) _ (open_is t) tt tt (ap (λ (l : LocalLog Op). Note t ∷ taken_out t l) (drop_none (mark_of (f.section t))))
      by (records.Depend t source) k = absurd k
      by (records.Publish t) k = absurd k
      by (records.DropSource t source) k = absurd k

-- ---- such a step fails at bookkeeping alone

module _ {Op State : Type 0} (O : Object Op State) where
  cmt_fails : (c : Config Op) (o : Option (Tx Op)) (P Q : Tx Op → Type 0) (n : ℕ) → ((x : Tx Op) → o ≡ Some x → P x × Q x) → (W : Tx Op → Type 0) → FirstFalse (there o (λ x. W x ∷ P x ∷ Q x ∷ [])) (suc n) → suc n ≤ 2
  cmt_fails c o P Q zero h W b = omega arith
  cmt_fails c o P Q (suc zero) h W b = omega arith
  cmt_fails c None P Q (suc (suc n)) h W b = absurd b.0
  cmt_fails c (Some x) P Q (suc (suc zero)) h W b = absurd (b.1.1 (h x refl).0)
  cmt_fails c (Some x) P Q (suc (suc (suc zero))) h W b = absurd (b.1.1.1 (h x refl).1)
  cmt_fails c (Some x) P Q (suc (suc (suc (suc n)))) h W b = absurd (let no : suc n ≡ 0 = b.1.1.1.1 in omega (arith, no))

  quit_fails : (o : Option (Tx Op)) (n : ℕ) → ((x : Tx Op) → o ≡ Some x → x.local ≡ []) → FirstFalse (there o (λ x. (x.local ≡ []) ∷ [])) (suc n) → suc n ≤ 1
  quit_fails o zero h b = omega arith
  quit_fails None (suc n) h b = absurd b.0
  quit_fails (Some x) (suc zero) h b = absurd (b.1 (h x refl))
  quit_fails (Some x) (suc (suc n)) h b = absurd (let no : suc n ≡ 0 = b.1.1 in omega (arith, no))

  note_fails : (o : Option (Tx Op)) (n : ℕ) → FirstFalse (there o (λ x. [])) (suc n) → suc n ≤ 1
  note_fails o zero b = omega arith
  note_fails None (suc n) b = absurd b.0
  note_fails (Some x) (suc n) b = absurd (let no : suc n ≡ 0 = b.1 in omega (arith, no))

  plain_fails : (c : Config Op) (s : Step Op) (n : ℕ) → IsPlain s → HasEmptyLogs c → Breaks O c s (suc n) → IsOfBookkeeping s (suc n)
  plain_fails c (Begin t p b) n is e k = tt
  plain_fails c (App t id op) n is e k = absurd is
  plain_fails c (Unapp t id) n is e k = absurd is
  plain_fails c (Push t id) n is e k = absurd is
  plain_fails c (Unpush t id) n is e k = absurd is
  plain_fails c (Pull t id) n is e k = absurd is
  plain_fails c (Unpull t id) n is e k = absurd is
  plain_fails c (Cmt t) n is e k =
      cmt_fails c (tx t c.opened) _ _ n
      (λ x found.
      let none : x.local ≡ [] = each_found (λ (y : Tx Op). y.local ≡ []) (λ y. y.name =ⁿ t) c.opened x e.locals found in (
        (λ d i. absurd (subst (λ (l : LocalLog Op). In d l) none i)),
        (λ d i. absurd (subst (λ (l : LocalLog Op). In d l) none i)),
      )) _ k
  plain_fails c (Quit t) n is e k = quit_fails (tx t c.opened) n (λ x found. each_found (λ (y : Tx Op). y.local ≡ []) (λ y. y.name =ⁿ t) c.opened x e.locals found) k
  plain_fails c (Note t) n is e k = note_fails (tx t c.opened) n k

  -- If a run without operations fails, it fails at bookkeeping.
  pub idle_fails : (place : Op → ℕ) (style : Style) (ks : List Kind) (line : ℕ) (s : Step Op) (n : ℕ) (rs : Records (RunRecord Op)) (p : Standing Front Op) → Each IsIdle (bare rs) → HasEmptyLogs p.config →
      FailsFrom O p.config (joined_steps (translation place style ks) p rs) line s n → IsOfBookkeeping s (suc n)
  idle_fails place style ks line s n [] p is e f = absurd f
  idle_fails place style ks line s n (r ∷ rs) p is e f =
      let T = translation place style ks in
      let q = after_record T p r.what in
      let k = idle_step place style p.front p.config r.what is.0 e in
      let config : q.config ≡ then p.config k.step = ap (after_from p.config) k.only in
      let after : HasEmptyLogs q.config = subst (λ (c : Config Op). HasEmptyLogs c) (sym config) (empty_then p.config k.step k.is_plain e) in
      elim (subst (λ (ss : Steps Op). FailsFrom O p.config (on_line r.line ss ++ joined_steps T q rs) line s n) k.only f) [
        | inl here ↦
            let same : k.step ≡ s = ap (λ (a : Lined (Step Op)). a.what) here.0 in
            plain_fails p.config s n (subst (λ (a : Step Op). IsPlain a) same k.is_plain) e here.1
        | inr later ↦ idle_fails place style ks line s n rs q is.1 after (subst (λ (c : Config Op). FailsFrom O c (joined_steps T q rs) line s n) (sym config) later.1)
      ]
