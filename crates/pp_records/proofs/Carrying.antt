-- The names and operations that the steps of a record and of a run carry.
use Rattle.std.specs.Prelude.{◌≡◌, ℕ, zero, suc, ◌==◌, Bool, true, false, cond, List, [], ◌∷◌, ◌++◌}
use Rattle.std.specs.Prelude.{map, filter, reverse, drop, Option, None, Some}
use Rattle.std.proofs.Common.{refl, sym, ap, subst, ◌∙◌}
use mathlib.Core.List.{reverse-cons}
use mathlib.Core.Logic.{inl, inr}
use Rattle.pp_core.specs.declared.call.Kind.{Kind}
use Rattle.pp_core.specs.declared.call.Style.{Style}
use Rattle.pp_core.specs.declared.call.Style.TheVariants.{Rules, Boosted, Optimistic, Hardware}
use Rattle.pp_core.specs.declared.call.Style.TheVariants.{Dependent}
use Rattle.pp_model.specs.Body.{Tree}
use Rattle.pp_model.specs.Config.{Config, LocalEntry, Mark, Pulled, Pushed, SharedEntry, Start, Step}
use Rattle.pp_model.specs.Config.{Tx, Unpushed, Begin, App, Unapp, Push, Unpush, Pull, Unpull, Cmt}
use Rattle.pp_model.specs.Config.{Quit, Note, after_from, as_shared, but_last, commit_effect}
use Rattle.pp_model.specs.Config.{entry_of, first, item, on_log, pull_effect, push_effect, relog}
use Rattle.pp_model.specs.Config.{set_mark, then, tx, without_local}
use Rattle.pp_model.specs.Lists.{Each, In}
use Rattle.pp_model.specs.Names.{Name, ◌=ⁿ◌}
use Rattle.pp_model.specs.Object.{Item, Object}
use Rattle.pp_model.proofs.Logs.{found_mark, found_other, found_tx}
use Rattle.pp_records.specs.Carried.{CarriedLaw, Carries, LogsCarry, RecordCarries, StartCarries}
use Rattle.pp_records.specs.Expansions.{LocalLog, SharedLog, Steps, commit_steps, expand}
use Rattle.pp_records.specs.Expansions.{hardware_op, is_pulled_from, op_steps, pulls, pushall, refresh}
use Rattle.pp_records.specs.Expansions.{refresh_unless, steps_of_open, taken_at, taken_out, touches}
use Rattle.pp_records.specs.Expansions.{unpulls, where_open}
use Rattle.pp_records.specs.Fronts.{Front, is_mem, mark_of}
use Rattle.pp_records.specs.Records.{RunRecord}
use Rattle.pp_records.specs.Records as records
use Rattle.pp_records.specs.Runs.{IsRun, LinedSteps, Records, Standing, after_record, bare}
use Rattle.pp_records.specs.Runs.{joined_steps, on_line, outset, steps_at}
use Rattle.pp_records.specs.Styles.{translation}
use Rattle.pp_records.proofs.Ends.{bare_append, bare_on_line}
use Rattle.pp_records.proofs.Restating.{run_front}

-- ---- a property of each element of a list

module _ {A : Type 0} (P : A → Type 0) where
  -- An element of a list of which each has a property has the property.
  pub each_in : (xs : List A) → Each P xs → (x : A) → In x xs → P x
  each_in [] h x i = elim i [ ]
  each_in (y ∷ ys) h x (inl e) = subst P (sym e) h.0
  each_in (y ∷ ys) h x (inr i) = each_in ys h.1 x i

  each_append : (xs ys : List A) → Each P xs → Each P ys → Each P (xs ++ ys)
  each_append [] ys h k = k
  each_append (x ∷ xs) ys h k = (h.0, each_append xs ys h.1 k)

  each_front : (xs ys : List A) → Each P (xs ++ ys) → Each P xs
  each_front [] ys h = tt
  each_front (x ∷ xs) ys h = (h.0, each_front xs ys h.1)

  each_filter_step : (x : A) (rest : List A) → P x → Each P rest → (b : Bool) → Each P (cond b (x ∷ rest) rest)
  each_filter_step x rest h k true = (h, k)
  each_filter_step x rest h k false = k

  each_filter : (test : A → Bool) (xs : List A) → Each P xs → Each P (filter test xs)
  each_filter test [] h = tt
  each_filter test (x ∷ xs) h = each_filter_step x (filter test xs) h.0 (each_filter test xs h.1) (test x)

  each_drop : (n : ℕ) (xs : List A) → Each P xs → Each P (drop n xs)
  each_drop zero xs h = h
  each_drop (suc n) [] h = tt
  each_drop (suc n) (x ∷ xs) h = each_drop n xs h.1

  each_but_last : (xs : List A) → Each P xs → Each P (but_last xs)
  each_but_last [] h = tt
  each_but_last (x ∷ []) h = tt
  each_but_last (x ∷ y ∷ xs) h = (h.0, each_but_last (y ∷ xs) h.1)

  each_reverse : (xs : List A) → Each P xs → Each P (reverse xs)
  each_reverse [] h = tt
  each_reverse (x ∷ xs) h = subst (Each P) (sym (reverse-cons x xs)) (each_append (reverse xs) (x ∷ []) (each_reverse xs h.1) (h.0, tt))

  each_map : {B : Type 0} (Q : B → Type 0) (f : A → B) (xs : List A) → ((x : A) → P x → Q (f x)) → Each P xs → Each Q (map f xs)
  each_map Q f [] k h = tt
  each_map Q f (x ∷ xs) k h = (k x h.0, each_map Q f xs k h.1)

module _ {Op : Type 0} (OfName : Name → Type 0) (OfId : ℕ → Type 0) (OfOp : Op → Type 0) (OfBody : Option Tree → Type 0) where
  abbrev Carry : Step Op → Type 0
  Carry s = Carries OfName OfId OfOp OfBody s

  abbrev SharedId : SharedEntry Op → Type 0
  SharedId g = OfId g.id

  abbrev LocalId : LocalEntry Op → Type 0
  LocalId e = OfId e.id

  abbrev TxIds : Tx Op → Type 0
  TxIds x = Each LocalId x.local

  -- ---- the steps of a record

  pulls_carry : (t : Name) (wanted : SharedEntry Op → Bool) (G : SharedLog Op) (l : LocalLog Op) → OfName t → Each SharedId G → Each Carry (pulls t wanted G l)
  pulls_carry t wanted G l n h = each_map SharedId Carry (λ g. Pull t g.id) _ (λ g i. (n, i)) (each_filter SharedId _ G h)

  unless_carry : (place : Op → ℕ) (t : Name) (o : ℕ) (G : SharedLog Op) (l : LocalLog Op) (seen : Bool) → OfName t → Each SharedId G →
      Each Carry (cond seen [] (refresh place t o G l))
  unless_carry place t o G l true n h = tt
  unless_carry place t o G l false n h = pulls_carry t _ G l n h

  pushall_carry : (t : Name) (l : LocalLog Op) → OfName t → Each LocalId l → Each Carry (pushall t l)
  pushall_carry t l n h = each_map LocalId Carry (λ e. Push t e.id) _ (λ e i. (n, i)) (each_filter LocalId _ l h)

  unpulls_carry : (t source : Name) (l : LocalLog Op) → OfName t → Each LocalId l → Each Carry (unpulls t source l)
  unpulls_carry t source l n h =
      each_map LocalId Carry (λ e. Unpull t e.id) _ (λ e i. (n, i)) (each_reverse LocalId _ (each_filter LocalId (is_pulled_from source) l h))

  taken_at_carry : (t : Name) (id : ℕ) (m : Mark) → OfName t → OfId id → Each Carry (taken_at t id m)
  taken_at_carry t id Pulled n i = ((n, i), tt)
  taken_at_carry t id Unpushed n i = ((n, i), tt)
  taken_at_carry t id Pushed n i = ((n, i), ((n, i), tt))

  taken_carry : (t : Name) (l : LocalLog Op) → OfName t → Each LocalId l → Each Carry (taken_out t l)
  taken_carry t [] n h = tt
  taken_carry t (e ∷ l) n h = each_append Carry (taken_out t l) (taken_at t e.id e.mark) (taken_carry t l n h.1) (taken_at_carry t e.id e.mark n h.0)

  commit_carry : (style : Style) (l : LocalLog Op) (t : Name) → OfName t → Each LocalId l → Each Carry (commit_steps style l t)
  commit_carry Rules l t n h = (n, tt)
  commit_carry Boosted l t n h = (n, tt)
  commit_carry Optimistic l t n h = each_append Carry (pushall t l) (Cmt t ∷ []) (pushall_carry t l n h) (n, tt)
  commit_carry Hardware l t n h = each_append Carry (pushall t l) (Cmt t ∷ []) (pushall_carry t l n h) (n, tt)
  commit_carry Dependent l t n h = each_append Carry (pushall t l) (Cmt t ∷ []) (pushall_carry t l n h) (n, tt)

  -- an operation: what comes before it, and what it carries itself
  module _ (place : Op → ℕ) (G : SharedLog Op) (l : LocalLog Op) (t : Name) (id : ℕ) (op : Op) (named : OfName t) (numbered : OfId id) (operated : OfOp op) (shared : Each SharedId G) where
    then_app : (xs : Steps Op) → Each Carry xs → Each Carry (xs ++ App t id op ∷ [])
    then_app xs h = each_append Carry xs (App t id op ∷ []) h ((named, numbered, operated), tt)

    then_push : (xs : Steps Op) → Each Carry xs → Each Carry (xs ++ App t id op ∷ Push t id ∷ [])
    then_push xs h = each_append Carry xs (App t id op ∷ Push t id ∷ []) h ((named, numbered, operated), ((named, numbered), tt))

    pulled : (wanted : SharedEntry Op → Bool) → Each Carry (pulls t wanted G l)
    pulled wanted = pulls_carry t wanted G l named shared

    unless_seen : (seen : LocalLog Op) → Each Carry (refresh_unless place t (place op) seen G l)
    unless_seen seen = unless_carry place t (place op) G l (touches place (place op) seen) named shared

    section_carry : (memory : Bool) (section : Option ℕ) → Each Carry (hardware_op place memory section G l t id op)
    section_carry true (Some mark) = then_app _ (unless_seen (drop mark l))
    section_carry true None = then_push _ (pulled _)
    section_carry false section = then_push _ (pulled _)

    op_carry : (style : Style) (f : Front) → Each Carry (op_steps place style f G l t id op)
    op_carry Rules f = then_app [] tt
    op_carry Boosted f = then_push _ (pulled _)
    op_carry Optimistic f = then_app _ (unless_seen l)
    op_carry Hardware f = section_carry (is_mem f (place op)) (f.section t)
    op_carry Dependent f = then_app _ (pulled _)

  open_carry : (x : Option (Tx Op)) (alone : Step Op) (steps : LocalLog Op → Steps Op) → Carry alone → ((y : Tx Op) → x ≡ Some y → Each Carry (steps y.local)) →
      Each Carry (steps_of_open x alone steps)
  open_carry None alone steps a h = (a, tt)
  open_carry (Some x) alone steps a h = h x refl

  where_carry : (c : Config Op) (t : Name) (alone : Step Op) (steps : LocalLog Op → Steps Op) → LogsCarry OfId c → Carry alone → ((l : LocalLog Op) → Each LocalId l → Each Carry (steps l)) →
      Each Carry (where_open c t alone steps)
  where_carry c t alone steps logs a h = open_carry (tx t c.opened) alone steps a (λ x e. h x.local (each_in TxIds c.opened logs.1 x (found_tx t c.opened x e).0))

  -- Each step of a record carries what the record carries, or an id of a log.
  pub expand_carry : (place : Op → ℕ) (style : Style) (f : Front) (c : Config Op) (r : RunRecord Op) → LogsCarry OfId c → RecordCarries OfName OfId OfOp OfBody r →
      Each Carry (expand place style f c r)
  expand_carry place style f c (records.Plain step) logs h = (h, tt)
  expand_carry place style f c (records.Op t id op) logs h =
      where_carry c t (App t id op) (λ l. op_steps place style f c.shared l t id op) logs h (λ l k. op_carry place c.shared l t id op h.0 h.1 h.2 logs.0 style f)
  expand_carry place style f c (records.Commit t) logs h = where_carry c t (Cmt t) (λ l. commit_steps style l t) logs h (λ l k. commit_carry style l t h k)
  expand_carry place style f c (records.Abort t) logs h = where_carry c t (Quit t) _ logs h (λ l k. each_append Carry (taken_out t l) (Quit t ∷ []) (taken_carry t l h k) (h, tt))
  expand_carry place style f c (records.Retry t) logs h = where_carry c t (Note t) _ logs h (λ l k. (h, taken_carry t l h k))
  expand_carry place style f c (records.Refresh t o) logs h = where_carry c t (Note t) _ logs h (λ l k. (h, pulls_carry t _ c.shared l h logs.0))
  expand_carry place style f c (records.XBegin t) logs h = (h, tt)
  expand_carry place style f c (records.XEnd t) logs h = where_carry c t (Note t) _ logs h (λ l k. (h, pushall_carry t l h k))
  expand_carry place style f c (records.XAbort t) logs h =
      where_carry c t (Note t) _ logs h (λ l k. (h, taken_carry t (drop (mark_of (f.section t)) l) h (each_drop LocalId (mark_of (f.section t)) l k)))
  expand_carry place style f c (records.Depend t source) logs h = (h.0, tt)
  expand_carry place style f c (records.Publish t) logs h = where_carry c t (Note t) _ logs h (λ l k. (h, pushall_carry t l h k))
  expand_carry place style f c (records.DropSource t source) logs h = where_carry c t (Note t) _ logs h.0 (λ l k. (h.0, unpulls_carry t source l h.0 k))

  -- ---- the logs that steps lead to

  relogged : (f : LocalLog Op → LocalLog Op) → ((l : LocalLog Op) → Each LocalId l → Each LocalId (f l)) → (x : Tx Op) → TxIds x → (b : Bool) → TxIds (cond b (relog f x) x)
  relogged f k x h true = k x.local h
  relogged f k x h false = h

  on_carry : (t : Name) (f : LocalLog Op → LocalLog Op) (xs : List (Tx Op)) → ((l : LocalLog Op) → Each LocalId l → Each LocalId (f l)) → Each TxIds xs → Each TxIds (on_log t f xs)
  on_carry t f xs k h = each_map TxIds TxIds (λ x. cond (x.name =ⁿ t) (relog f x) x) xs (λ x i. relogged f k x i (x.name =ⁿ t)) h

  marked : (m : Mark) (e : LocalEntry Op) → LocalId e → (b : Bool) → LocalId (cond b (record e { mark = m }) e)
  marked m e h true = h
  marked m e h false = h

  mark_carry : (id : ℕ) (m : Mark) (l : LocalLog Op) → Each LocalId l → Each LocalId (set_mark id m l)
  mark_carry id m l h = each_map LocalId LocalId (λ e. cond (e.id == id) (record e { mark = m }) e) l (λ e i. marked m e i (e.id == id)) h

  committed : (g : SharedEntry Op) → SharedId g → (b : Bool) → SharedId (cond b (record g { committed = true }) g)
  committed g h true = h
  committed g h false = h

  entry_id : (id : ℕ) (m : Mark) (x : Option (Tx Op)) (e : LocalEntry Op) → entry_of id m x ≡ Some e → e.id ≡ id
  entry_id id m None e h = absurd (cc)
  entry_id id m (Some x) e h = (found_mark id m x.local e h).1

  push_carry : (c : Config Op) (t : Name) (id : ℕ) (o : Option (LocalEntry Op)) → ((e : LocalEntry Op) → o ≡ Some e → OfId e.id) → LogsCarry OfId c → LogsCarry OfId (push_effect c t id o)
  push_carry c t id None i logs = logs
  push_carry c t id (Some e) i logs = (
    each_append SharedId c.shared (as_shared t false (item e) ∷ []) logs.0 (i e refl, tt),
    on_carry t (set_mark id Pushed) c.opened (mark_carry id Pushed) logs.1,
  )

  pull_carry : (c : Config Op) (t : Name) (id : ℕ) (o : Option (SharedEntry Op)) → ((g : SharedEntry Op) → o ≡ Some g → OfId g.id) → LogsCarry OfId c → LogsCarry OfId (pull_effect c t id o)
  pull_carry c t id None i logs = logs
  pull_carry c t id (Some g) i logs = (logs.0, on_carry t _ c.opened (λ l h. each_append LocalId l _ h (i g refl, tt)) logs.1)

  commit_logs : (c : Config Op) (t : Name) (x : Option (Tx Op)) → LogsCarry OfId c → LogsCarry OfId (commit_effect c t x)
  commit_logs c t None logs = logs
  commit_logs c t (Some x) logs = (
    each_map SharedId SharedId (λ g. cond (g.owner =ⁿ t) (record g { committed = true }) g) c.shared (λ g i. committed g i (g.owner =ⁿ t)) logs.0,
    each_filter TxIds _ c.opened logs.1,
  )

  then_carry : (c : Config Op) (s : Step Op) → LogsCarry OfId c → Carry s → LogsCarry OfId (then c s)
  then_carry c (Begin t p b) logs h = (logs.0, each_append TxIds c.opened _ logs.1 (tt, tt))
  then_carry c (App t id op) logs h = (logs.0, on_carry t _ c.opened (λ l k. each_append LocalId l _ k (h.1, tt)) logs.1)
  then_carry c (Unapp t id) logs h = (logs.0, on_carry t but_last c.opened (each_but_last LocalId) logs.1)
  then_carry c (Push t id) logs h = push_carry c t id _ (λ e k. subst OfId (sym (entry_id id Unpushed (tx t c.opened) e k)) h.1) logs
  then_carry c (Unpush t id) logs h = (each_filter SharedId _ c.shared logs.0, on_carry t (set_mark id Unpushed) c.opened (mark_carry id Unpushed) logs.1)
  then_carry c (Pull t id) logs h = pull_carry c t id _ (λ g k. subst OfId (sym (found_other t id c.shared g k).1) h.1) logs
  then_carry c (Unpull t id) logs h = (logs.0, on_carry t (without_local id) c.opened (each_filter LocalId _) logs.1)
  then_carry c (Cmt t) logs h = commit_logs c t (tx t c.opened) logs
  then_carry c (Quit t) logs h = (logs.0, each_filter TxIds _ c.opened logs.1)
  then_carry c (Note t) logs h = logs

  after_carry : (c : Config Op) (ss : Steps Op) → LogsCarry OfId c → Each Carry ss → LogsCarry OfId (after_from c ss)
  after_carry c [] logs h = logs
  after_carry c (s ∷ ss) logs h = after_carry (then c s) ss (then_carry c s logs h.0) h.1

  first_carry : (h : Option (Start Op)) → StartCarries OfName OfId OfOp OfBody h → LogsCarry OfId (first h)
  first_carry None k = (tt, tt)
  first_carry (Some z) k = (each_map (λ (p : Item Op). OfId p.id × OfOp p.op) SharedId (as_shared z.tx true) z.items (λ p i. i.0) k.1, tt)

  -- ---- the steps of a run

  joined_carry : (place : Op → ℕ) (style : Style) (ks : List Kind) (p : Standing Front Op) (rs : Records (RunRecord Op)) → LogsCarry OfId p.config →
      Each (RecordCarries OfName OfId OfOp OfBody) (bare rs) → Each Carry (bare (joined_steps (translation place style ks) p rs))
  joined_carry place style ks p [] logs h = tt
  joined_carry place style ks p (r ∷ rs) logs h =
      let T = translation place style ks in
      let ss : Steps Op = steps_at T p r.what in
      let rest : LinedSteps Op = joined_steps T (after_record T p r.what) rs in
      let here : Each Carry ss = expand_carry place style p.front p.config r.what logs h.0 in
      let behind : Each Carry (bare rest) = joined_carry place style ks (after_record T p r.what) rs (after_carry p.config ss logs here) h.1 in
      subst (Each Carry) (sym (bare_append (on_line r.line ss) rest ∙ ap (λ (w : Steps Op). w ++ bare rest) (bare_on_line r.line ss))) (each_append Carry ss (bare rest) here behind)

  run_carries : {State : Type 0} (O : Object Op State) (place : Op → ℕ) (style : Style) (ks : List Kind) (h : Option (Start Op)) (rs : Records (RunRecord Op)) (run : LinedSteps Op) →
      IsRun O (translation place style ks) h rs run → Each (RecordCarries OfName OfId OfOp OfBody) (bare rs) → StartCarries OfName OfId OfOp OfBody h → Each Carry (bare run)
  run_carries O place style ks h rs run (inl none) each start = subst (λ (w : LinedSteps Op). Each Carry (bare w)) (sym none.2) tt
  run_carries O place style ks h rs run (inr ends) each start =
      let T = translation place style ks in
      let front = run_front O (first h) (joined_steps T (outset T h) rs) run ends.1 in
      let all : Each Carry (bare (joined_steps T (outset T h) rs)) = joined_carry place style ks (outset T h) rs (first_carry h start) each in
      each_front Carry (bare run) (bare front.0) (subst (Each Carry) (ap (λ (w : LinedSteps Op). bare w) front.1 ∙ bare_append run front.0) all)

  -- Each step of a run carries only what its records and its start carry.
  pub carried_law : {State : Type 0} (O : Object Op State) → CarriedLaw OfName OfId OfOp OfBody O
  carried_law O = record { steps = expand_carry; run = run_carries O }
