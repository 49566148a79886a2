-- Meaning: the conditions on a run that speak of no object: names, threads, ids and bodies.
use Rattle.std.specs.Prelude.{ℕ, List, [], ◌∷◌, ◌++◌, map, Option, None, Some}
use Rattle.pp_core.specs.declared.call.Style.{Style}
use Rattle.pp_model.specs.Body.{Begins, IsWord}
use Rattle.pp_model.specs.Config.{Start, item}
use Rattle.pp_model.specs.Lists.{In}
use Rattle.pp_model.specs.Object.{HasDistinctIds, Object}
use Rattle.pp_model.specs.Rules.{calls}
use Rattle.pp_records.specs.Records.{RunRecord}
use Rattle.pp_records.specs.Records as records
use Rattle.pp_laws_summary.specs.Summary.{OfOpenSummary, OpenSummary, Summary, SummaryMeets}
use Rattle.pp_laws_summary.specs.Summary.{next_summary}

-- The conditions on an op record.
pub record OpBookkeeping {Op State : Type 0} (O : Object Op State) (B : Summary Op) (id : ℕ)
    (op : Op) (x : OpenSummary Op) : Type 0 where
  -- APP 2
  pub new : In id B.ids → ⊥
  -- APP 3
  pub begins : Begins x.body (calls O (map item x.own) ++ O.call op ∷ [])

-- The conditions on a record. A transaction must be open, a begin meets BEGIN 1 and 2, and a commit
-- meets CMT 2.
abbrev pub Bookkeeping : {Op State : Type 0} → Object Op State → Summary Op → RunRecord Op → Type 0
Bookkeeping O B (records.Plain step) = SummaryMeets B step
Bookkeeping O B (records.Op t id op) = OfOpenSummary B t (OpBookkeeping O B id op)
Bookkeeping O B (records.Commit t) =
    OfOpenSummary B t (λ x. IsWord x.body (calls O (map item x.own)))
Bookkeeping O B (records.Abort t) = OfOpenSummary B t (λ x. Unit {0})
Bookkeeping O B (records.Retry t) = OfOpenSummary B t (λ x. Unit {0})
Bookkeeping O B (records.Refresh t o) = OfOpenSummary B t (λ x. Unit {0})
Bookkeeping O B (records.XBegin t) = OfOpenSummary B t (λ x. Unit {0})
Bookkeeping O B (records.XEnd t) = OfOpenSummary B t (λ x. Unit {0})
Bookkeeping O B (records.XAbort t) = OfOpenSummary B t (λ x. Unit {0})
Bookkeeping O B (records.Depend t source) = ⊥
Bookkeeping O B (records.Publish t) = ⊥
Bookkeeping O B (records.DropSource t source) = ⊥

-- Each record of the run meets them, by the summary that those before it lead to.
abbrev pub RunBookkeeping : {Op State : Type 0} → Style → Object Op State → (Op → ℕ) → Summary Op →
    List (RunRecord Op) → Type 0
RunBookkeeping style O place B [] = Unit {0}
RunBookkeeping style O place B (r ∷ rs) =
    Bookkeeping O B r × RunBookkeeping style O place (next_summary place style B r) rs

-- The condition on the start.
abbrev pub StartBookkeeping : {Op : Type 0} → Option (Start Op) → Type 0
StartBookkeeping None = Unit {0}
StartBookkeeping (Some z) = HasDistinctIds z.items
