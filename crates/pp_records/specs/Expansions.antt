-- Meaning: the steps of a record, and the front's state after it.
use Rattle.std.specs.Prelude.{ℕ, ◌==◌, Bool, true, false, not, ◌&&◌, ◌||◌, List, [], ◌∷◌, ◌++◌}
use Rattle.std.specs.Prelude.{length, map, filter, reverse, drop, if◌then◌else◌, Option, None, Some}
use Rattle.std.specs.List.{list_any}
use Rattle.pp_core.specs.declared.call.Style.{Style}
use Rattle.pp_core.specs.declared.call.Style.TheVariants.{Rules, Boosted, Optimistic, Hardware}
use Rattle.pp_core.specs.declared.call.Style.TheVariants.{Dependent}
use Rattle.pp_model.specs.Config.{Mark, Unpushed, Pushed, Pulled, LocalEntry, SharedEntry, Config}
use Rattle.pp_model.specs.Config.{Tx, is_mark, tx, Step, Begin, App, Unapp, Push, Unpush, Pull}
use Rattle.pp_model.specs.Config.{Unpull, Cmt, Quit, Note}
use Rattle.pp_model.specs.Names.{Name, ◌=ⁿ◌}
use Rattle.pp_model.specs.Serial.{has_id}
use Rattle.pp_records.specs.Records.{RunRecord}
use Rattle.pp_records.specs.Records as records
use Rattle.pp_records.specs.Fronts.{Front, has_name, is_mem, mark_of, opened_at, with_section}
use Rattle.pp_records.specs.Fronts.{with_source, with_sources, without_source}

-- the entries of a local log
abbrev pub LocalLog : Type 0 → Type 0
LocalLog Op = List (LocalEntry Op)

-- the entries of the shared log
abbrev pub SharedLog : Type 0 → Type 0
SharedLog Op = List (SharedEntry Op)

-- a list of steps
abbrev pub Steps : Type 0 → Type 0
Steps Op = List (Step Op)

-- the object of each operation
abbrev pub Placing : Type 0 → Type 0
Placing Op = Op → ℕ

-- an entry of this id is in L
abbrev pub stands_in : {Op : Type 0} → LocalLog Op → ℕ → Bool
stands_in l id = has_id id (map (λ e. e.id) l)

-- an entry of L is on the object
abbrev pub touches : {Op : Type 0} → Placing Op → ℕ → LocalLog Op → Bool
touches place o l = list_any (λ e. place e.op == o) l

-- PULL of each entry of G that is wanted and is not in L, in the order of G
abbrev pub pulls : {Op : Type 0} → Name → (SharedEntry Op → Bool) → SharedLog Op → LocalLog Op →
    Steps Op
pulls t wanted G l = map (λ g. Pull t g.id) (filter (λ g. wanted g && not (stands_in l g.id)) G)

-- refresh(t, o): PULL of each committed entry of G on the object that is not in L
abbrev pub refresh : {Op : Type 0} → Placing Op → Name → ℕ → SharedLog Op → LocalLog Op → Steps Op
refresh place t o G l = pulls t (λ g. g.committed && (place g.op == o)) G l

-- the entry is committed or owned by a source
abbrev pub is_followed : {Op : Type 0} → List Name → SharedEntry Op → Bool
is_followed sources g = g.committed || has_name g.owner sources

-- PULL of each entry of G on the object that is committed or owned by a source and is not in L
abbrev pub follow : {Op : Type 0} → Placing Op → Name → ℕ → List Name → SharedLog Op → LocalLog Op →
    Steps Op
follow place t o sources G l = pulls t (λ g. is_followed sources g && (place g.op == o)) G l

-- the steps that take out an entry of this mark: UNPULL, or UNPUSH and then UNAPP, or UNAPP
abbrev pub taken_at : {Op : Type 0} → Name → ℕ → Mark → Steps Op
taken_at t id Pulled = Unpull t id ∷ []
taken_at t id Pushed = Unpush t id ∷ Unapp t id ∷ []
taken_at t id Unpushed = Unapp t id ∷ []

-- the steps that take these entries out of L, from the end
abbrev pub taken_out : {Op : Type 0} → Name → LocalLog Op → Steps Op
taken_out t [] = []
taken_out t (e ∷ l) = taken_out t l ++ taken_at t e.id e.mark

-- back(t, n): what takes L back to the length n, from the end
abbrev pub back : {Op : Type 0} → Name → ℕ → LocalLog Op → Steps Op
back t n l = taken_out t (drop n l)

-- pushall(t): PUSH of each own unpushed entry, in the order of L
abbrev pub pushall : {Op : Type 0} → Name → LocalLog Op → Steps Op
pushall t l = map (λ e. Push t e.id) (filter (λ e. is_mark e.mark Unpushed) l)

-- the entry was pulled from this source
abbrev pub is_pulled_from : {Op : Type 0} → Name → LocalEntry Op → Bool
is_pulled_from source e = is_mark e.mark Pulled && (e.owner =ⁿ source)

-- UNPULL of each pulled entry of L that the source owns, from the end of L
abbrev pub unpulls : {Op : Type 0} → Name → Name → LocalLog Op → Steps Op
unpulls t source l = map (λ e. Unpull t e.id) (reverse (filter (is_pulled_from source) l))

-- refresh if none of the entries seen is on the object
abbrev pub refresh_unless : {Op : Type 0} → Placing Op → Name → ℕ → LocalLog Op → SharedLog Op →
    LocalLog Op → Steps Op
refresh_unless place t o seen G l = if touches place o seen then [] else refresh place t o G l

-- an operation at once: refresh, APP, PUSH
abbrev pub op_at_once : {Op : Type 0} → Placing Op → SharedLog Op → LocalLog Op → Name → ℕ → Op →
    Steps Op
op_at_once place G l t id op = refresh place t (place op) G l ++ App t id op ∷ Push t id ∷ []

-- an operation that waits for its push: refresh if none of the entries seen is on its object, and
-- APP
abbrev pub op_later : {Op : Type 0} → Placing Op → LocalLog Op → SharedLog Op → LocalLog Op → Name →
    ℕ → Op → Steps Op
op_later place seen G l t id op = refresh_unless place t (place op) seen G l ++ App t id op ∷ []

-- an operation of style hardware: applied later, if it is on a memory in a section, and then sees L
-- from the mark on; otherwise at once
abbrev pub hardware_op : {Op : Type 0} → Placing Op → Bool → Option ℕ → SharedLog Op → LocalLog Op →
    Name → ℕ → Op → Steps Op
hardware_op place true (Some mark) G l t id op = op_later place (drop mark l) G l t id op
hardware_op place true None G l t id op = op_at_once place G l t id op
hardware_op place false section G l t id op = op_at_once place G l t id op

-- an operation of style dependent
abbrev pub dependent_op : {Op : Type 0} → Placing Op → List Name → SharedLog Op → LocalLog Op →
    Name → ℕ → Op → Steps Op
dependent_op place sources G l t id op = follow place t (place op) sources G l ++ App t id op ∷ []

-- an operation
abbrev pub op_steps : {Op : Type 0} → Placing Op → Style → Front → SharedLog Op → LocalLog Op →
    Name → ℕ → Op → Steps Op
op_steps place Rules f G l t id op = App t id op ∷ []
op_steps place Boosted f G l t id op = op_at_once place G l t id op
op_steps place Optimistic f G l t id op = op_later place l G l t id op
op_steps place Hardware f G l t id op =
    hardware_op place (is_mem f (place op)) (f.section t) G l t id op
op_steps place Dependent f G l t id op = dependent_op place (f.sources t) G l t id op

-- a commit: pushall before it, in the styles in which operations wait for their push
abbrev pub commit_steps : {Op : Type 0} → Style → LocalLog Op → Name → Steps Op
commit_steps Rules l t = Cmt t ∷ []
commit_steps Boosted l t = Cmt t ∷ []
commit_steps Optimistic l t = pushall t l ++ Cmt t ∷ []
commit_steps Hardware l t = pushall t l ++ Cmt t ∷ []
commit_steps Dependent l t = pushall t l ++ Cmt t ∷ []

-- these steps for the local log of a transaction that is there; else the one step
abbrev pub steps_of_open : {Op : Type 0} → Option (Tx Op) → Step Op → (LocalLog Op → Steps Op) →
    Steps Op
steps_of_open None alone steps = alone ∷ []
steps_of_open (Some x) alone steps = steps x.local

-- if t is open, these steps for its L; else the one step, which fails its first criterion
abbrev pub where_open : {Op : Type 0} → Config Op → Name → Step Op → (LocalLog Op → Steps Op) →
    Steps Op
where_open c t alone steps = steps_of_open (tx t c.opened) alone steps

-- The steps of a record, in this state of the front and this configuration. A plain step is itself,
-- in every style.
abbrev pub expand : {Op : Type 0} → Placing Op → Style → Front → Config Op → RunRecord Op → Steps Op
expand place style f c (records.Plain step) = step ∷ []
expand place style f c (records.Op t id op) =
    where_open c t (App t id op) λ l. op_steps place style f c.shared l t id op
expand place style f c (records.Commit t) = where_open c t (Cmt t) λ l. commit_steps style l t
expand place style f c (records.Abort t) = where_open c t (Quit t) λ l. back t 0 l ++ Quit t ∷ []
expand place style f c (records.Retry t) = where_open c t (Note t) λ l. Note t ∷ back t 0 l
expand place style f c (records.Refresh t o) =
    where_open c t (Note t) λ l. Note t ∷ refresh place t o c.shared l
expand place style f c (records.XBegin t) = Note t ∷ []
expand place style f c (records.XEnd t) = where_open c t (Note t) λ l. Note t ∷ pushall t l
expand place style f c (records.XAbort t) =
    where_open c t (Note t) λ l. Note t ∷ back t (mark_of (f.section t)) l
expand place style f c (records.Depend t source) = Note t ∷ []
expand place style f c (records.Publish t) = where_open c t (Note t) λ l. Note t ∷ pushall t l
expand place style f c (records.DropSource t source) =
    where_open c t (Note t) λ l. Note t ∷ unpulls t source l

-- this change for the local log of a transaction that is there; else the front's state
abbrev pub front_of_open : {Op : Type 0} → Option (Tx Op) → Front → (LocalLog Op → Front) → Front
front_of_open None f changed = f
front_of_open (Some x) f changed = changed x.local

-- if t is open, this change for its L; else the front's state stays
abbrev pub changed_where_open : {Op : Type 0} → Config Op → Name → Front → (LocalLog Op → Front) →
    Front
changed_where_open c t f changed = front_of_open (tx t c.opened) f changed

-- The front's state after a record.
abbrev pub front_after : {Op : Type 0} → Front → Config Op → RunRecord Op → Front
front_after f c (records.Retry t) =
    changed_where_open c t f λ l. with_sources (with_section f t None) t []
front_after f c (records.XBegin t) =
    changed_where_open c t f λ l. with_section f t (opened_at (length l) (f.section t))
front_after f c (records.XEnd t) = changed_where_open c t f λ l. with_section f t None
front_after f c (records.XAbort t) = changed_where_open c t f λ l. with_section f t None
front_after f c (records.Depend t source) =
    changed_where_open c t f λ l. with_sources f t (with_source source (f.sources t))
front_after f c (records.DropSource t source) =
    changed_where_open c t f λ l. with_sources f t (without_source source (f.sources t))
front_after f c (records.Plain step) = f
front_after f c (records.Op t id op) = f
front_after f c (records.Commit t) = f
front_after f c (records.Abort t) = f
front_after f c (records.Refresh t o) = f
front_after f c (records.Publish t) = f

-- the step begins a transaction
abbrev pub IsBegin : {Op : Type 0} → Step Op → Type 0
IsBegin (Begin t p b) = Unit {0}
IsBegin (App t id op) = ⊥
IsBegin (Unapp t id) = ⊥
IsBegin (Push t id) = ⊥
IsBegin (Unpush t id) = ⊥
IsBegin (Pull t id) = ⊥
IsBegin (Unpull t id) = ⊥
IsBegin (Cmt t) = ⊥
IsBegin (Quit t) = ⊥
IsBegin (Note t) = ⊥

-- a step is a record of the style: any step in style rules, and a begin in every style
abbrev pub HasStep : {Op : Type 0} → Style → Step Op → Type 0
HasStep Rules step = Unit {0}
HasStep Boosted step = IsBegin step
HasStep Optimistic step = IsBegin step
HasStep Hardware step = IsBegin step
HasStep Dependent step = IsBegin step

-- the records are whole calls, commits and what takes them back
abbrev pub IsRecorded : Style → Type 0
IsRecorded Rules = ⊥
IsRecorded Boosted = Unit {0}
IsRecorded Optimistic = Unit {0}
IsRecorded Hardware = Unit {0}
IsRecorded Dependent = Unit {0}

-- the style has refreshes
abbrev pub HasRefreshes : Style → Type 0
HasRefreshes Rules = ⊥
HasRefreshes Boosted = ⊥
HasRefreshes Optimistic = Unit {0}
HasRefreshes Hardware = ⊥
HasRefreshes Dependent = ⊥

-- the style has sections
abbrev pub HasSections : Style → Type 0
HasSections Rules = ⊥
HasSections Boosted = ⊥
HasSections Optimistic = ⊥
HasSections Hardware = Unit {0}
HasSections Dependent = ⊥

-- the style has sources
abbrev pub HasSources : Style → Type 0
HasSources Rules = ⊥
HasSources Boosted = ⊥
HasSources Optimistic = ⊥
HasSources Hardware = ⊥
HasSources Dependent = Unit {0}

-- the record is one of the style
abbrev pub IsOfStyle : {Op : Type 0} → Style → RunRecord Op → Type 0
IsOfStyle style (records.Plain step) = HasStep style step
IsOfStyle style (records.Op t id op) = IsRecorded style
IsOfStyle style (records.Commit t) = IsRecorded style
IsOfStyle style (records.Abort t) = IsRecorded style
IsOfStyle style (records.Retry t) = IsRecorded style
IsOfStyle style (records.Refresh t o) = HasRefreshes style
IsOfStyle style (records.XBegin t) = HasSections style
IsOfStyle style (records.XEnd t) = HasSections style
IsOfStyle style (records.XAbort t) = HasSections style
IsOfStyle style (records.Depend t source) = HasSources style
IsOfStyle style (records.Publish t) = HasSources style
IsOfStyle style (records.DropSource t source) = HasSources style
