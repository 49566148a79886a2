-- The steps of a mapped record are the mapped steps of the record.
use Rattle.std.specs.Prelude.{◌≡◌, ◌==◌, ◌&&◌, Bool, true, false, not, if◌then◌else◌, ℕ, List, [], ◌∷◌, ◌++◌, drop, filter, length, map, reverse, slice_get, Option, None, Some, option_map}
use Rattle.std.proofs.Common.{refl, sym, ap, ◌∙◌}
use Rattle.std.proofs.lemmas.List.{drop-map, length-map, map-append}
use Rattle.pp_core.specs.declared.call.Kind.{Kind}
use Rattle.pp_core.specs.declared.call.Style.{Style}
use Rattle.pp_core.specs.declared.call.Style.TheVariants.{Rules, Boosted, Optimistic, Hardware, Dependent}
use Rattle.pp_model.specs.Config.{App, Cmt, Config, LocalEntry, Mark, Note, Pull, Pulled, Push, Pushed, Quit, SharedEntry, Step, Tx, Unpull, Unpushed, is_mark, tx}
use Rattle.pp_model.specs.Lists.{Each}
use Rattle.pp_model.specs.Names.{Name}
use Rattle.pp_model.specs.Serial.{has_id}
use Rattle.pp_records.specs.Expansions.{LocalLog, SharedLog, Steps, back, changed_where_open, commit_steps, expand, follow, front_after, front_of_open, hardware_op, is_followed, is_pulled_from, op_at_once, op_later, op_steps, pulls, pushall, refresh, refresh_unless, stands_in, steps_of_open, taken_at, taken_out, touches, unpulls, where_open}
use Rattle.pp_records.specs.Fronts.{Front, is_mem, is_memory, mark_of, opened_at, with_section}
use Rattle.pp_records.specs.Records.{RunRecord}
use Rattle.pp_records.specs.Records as records
use Rattle.pp_laws_summary.proofs.Relog.{filter_map, filter_same}
use Rattle.pp_laws_mapped.specs.Mapped.{HasNoBody, StepHasNoBody, mapped_record, mapped_step}
use Rattle.pp_laws_mapped.specs.Laws.{MapsPlaces}
use Rattle.pp_laws_mapped.proofs.MappedLists.{any_mapped, each_append, each_map, maps_turned, reverse_mapped}
use Rattle.pp_laws_mapped.proofs.MappedConfigs.{config_by, local_by, shared_by, tx_by, tx_mapped}

-- ---- no step of a record but a begin has a body

bare_taken : (Op : Type 0) (t : Name) (id : ℕ) (m : Mark) → Each (StepHasNoBody {Op = Op}) (taken_at t id m)
bare_taken Op t id Pulled = (tt, tt)
bare_taken Op t id Pushed = (tt, (tt, tt))
bare_taken Op t id Unpushed = (tt, tt)

module _ {Op : Type 0} where
  abbrev Bare : List (Step Op) → Type 0
  Bare ss = Each StepHasNoBody ss

  bare_back : (t : Name) (l : LocalLog Op) → Bare (taken_out t l)
  bare_back t [] = tt
  bare_back t (e ∷ l) = each_append StepHasNoBody (taken_out t l) (taken_at t e.id e.mark) (bare_back t l) (bare_taken Op t e.id e.mark)

  bare_pulls : (t : Name) (wanted : SharedEntry Op → Bool) (G : SharedLog Op) (l : LocalLog Op) → Bare (pulls t wanted G l)
  bare_pulls t wanted G l = each_map StepHasNoBody (λ (g : SharedEntry Op). Pull t g.id) (filter (λ g. wanted g && not (stands_in l g.id)) G) (λ g. tt)

  bare_pushall : (t : Name) (l : LocalLog Op) → Bare (pushall t l)
  bare_pushall t l = each_map StepHasNoBody (λ (e : LocalEntry Op). Push t e.id) (filter (λ e. is_mark e.mark Unpushed) l) (λ e. tt)

  module _ (place : Op → ℕ) where
    bare_unless : (t : Name) (o : ℕ) (seen : LocalLog Op) (G : SharedLog Op) (l : LocalLog Op) → Bare (refresh_unless place t o seen G l)
    bare_unless t o seen G l = by (touches place o seen)
      where
        by : (b : Bool) → Bare (if b then [] else refresh place t o G l)
        by true = tt
        by false = bare_pulls t (λ g. g.committed && (place g.op == o)) G l

    bare_later : (seen : LocalLog Op) (G : SharedLog Op) (l : LocalLog Op) (t : Name) (id : ℕ) (op : Op) → Bare (op_later place seen G l t id op)
    bare_later seen G l t id op = each_append StepHasNoBody (refresh_unless place t (place op) seen G l) (App t id op ∷ []) (bare_unless t (place op) seen G l) (tt, tt)

    bare_at_once : (G : SharedLog Op) (l : LocalLog Op) (t : Name) (id : ℕ) (op : Op) → Bare (op_at_once place G l t id op)
    bare_at_once G l t id op = each_append StepHasNoBody (refresh place t (place op) G l) (App t id op ∷ Push t id ∷ []) (bare_pulls t (λ g. g.committed && (place g.op == place op)) G l) (tt, (tt, tt))

    bare_hardware : (b : Bool) (m : Option ℕ) (G : SharedLog Op) (l : LocalLog Op) (t : Name) (id : ℕ) (op : Op) → Bare (hardware_op place b m G l t id op)
    bare_hardware true (Some mark) G l t id op = bare_later (drop mark l) G l t id op
    bare_hardware true None G l t id op = bare_at_once G l t id op
    bare_hardware false m G l t id op = bare_at_once G l t id op

    bare_op : (style : Style) (f : Front) (G : SharedLog Op) (l : LocalLog Op) (t : Name) (id : ℕ) (op : Op) → Bare (op_steps place style f G l t id op)
    bare_op Rules f G l t id op = (tt, tt)
    bare_op Boosted f G l t id op = bare_at_once G l t id op
    bare_op Optimistic f G l t id op = bare_later l G l t id op
    bare_op Hardware f G l t id op = bare_hardware (is_mem f (place op)) (f.section t) G l t id op
    bare_op Dependent f G l t id op =
        each_append StepHasNoBody (follow place t (place op) (f.sources t) G l) (App t id op ∷ []) (bare_pulls t (λ g. is_followed (f.sources t) g && (place g.op == place op)) G l) (tt, tt)

    bare_commit : (style : Style) (l : LocalLog Op) (t : Name) → Bare (commit_steps style l t)
    bare_commit Rules l t = (tt, tt)
    bare_commit Boosted l t = (tt, tt)
    bare_commit Optimistic l t = each_append StepHasNoBody (pushall t l) (Cmt t ∷ []) (bare_pushall t l) (tt, tt)
    bare_commit Hardware l t = each_append StepHasNoBody (pushall t l) (Cmt t ∷ []) (bare_pushall t l) (tt, tt)
    bare_commit Dependent l t = each_append StepHasNoBody (pushall t l) (Cmt t ∷ []) (bare_pushall t l) (tt, tt)

    bare_open : (o : Option (Tx Op)) (alone : Step Op) (steps : LocalLog Op → Steps Op) → StepHasNoBody alone → ((l : LocalLog Op) → Bare (steps l)) → Bare (steps_of_open o alone steps)
    bare_open None alone steps h k = (h, tt)
    bare_open (Some x) alone steps h k = k x.local

    -- The steps of a record without a body.
    pub bare_steps : (style : Style) (f : Front) (c : Config Op) (r : RunRecord Op) → HasNoBody r → Bare (expand place style f c r)
    bare_steps style f c (records.Plain step) h = (h, tt)
    bare_steps style f c (records.Op t id op) h = bare_open (tx t c.opened) (App t id op) _ tt (λ l. bare_op style f c.shared l t id op)
    bare_steps style f c (records.Commit t) h = bare_open (tx t c.opened) (Cmt t) _ tt (λ l. bare_commit style l t)
    bare_steps style f c (records.Abort t) h = bare_open (tx t c.opened) (Quit t) _ tt (λ l. each_append StepHasNoBody (back t 0 l) (Quit t ∷ []) (bare_back t (drop 0 l)) (tt, tt))
    bare_steps style f c (records.Retry t) h = bare_open (tx t c.opened) (Note t) _ tt (λ l. (tt, bare_back t (drop 0 l)))
    bare_steps style f c (records.Refresh t o) h = bare_open (tx t c.opened) (Note t) _ tt (λ l. (tt, bare_pulls t (λ g. g.committed && (place g.op == o)) c.shared l))
    bare_steps style f c (records.XBegin t) h = (tt, tt)
    bare_steps style f c (records.XEnd t) h = bare_open (tx t c.opened) (Note t) _ tt (λ l. (tt, bare_pushall t l))
    bare_steps style f c (records.XAbort t) h = bare_open (tx t c.opened) (Note t) _ tt (λ l. (tt, bare_back t (drop (mark_of (f.section t)) l)))
    bare_steps style f c (records.Depend t source) h = (tt, tt)
    bare_steps style f c (records.Publish t) h = bare_open (tx t c.opened) (Note t) _ tt (λ l. (tt, bare_pushall t l))
    bare_steps style f c (records.DropSource t source) h =
        bare_open (tx t c.opened) (Note t) _ tt (λ l. (tt, each_map StepHasNoBody (λ (e : LocalEntry Op). Unpull t e.id) (reverse (filter (is_pulled_from source) l)) (λ e. tt)))

-- ---- the front over other kinds

-- a front over these kinds
abbrev pub over : List Kind → Front → Front
over hs f = record { section = f.section; sources = f.sources; kinds = hs }

module _ {A B : Type 0} (f : A → B) (hs : List Kind) where
  changed_mapped : (o : Option (Tx A)) (w : Front) (F : LocalLog A → Front) (G : LocalLog B → Front) → ((l : LocalLog A) → G (map (local_by f) l) ≡ over hs (F l)) → front_of_open (option_map (tx_by f) o) (over hs w) G ≡ over hs (front_of_open o w F)
  changed_mapped None w F G h = refl
  changed_mapped (Some x) w F G h = h x.local

  where_changed : (c : Config A) (t : Name) (w : Front) (F : LocalLog A → Front) (G : LocalLog B → Front) → ((l : LocalLog A) → G (map (local_by f) l) ≡ over hs (F l)) →
      changed_where_open (config_by f c) t (over hs w) G ≡ over hs (changed_where_open c t w F)
  where_changed c t w F G h = ap (λ (o : Option (Tx B)). front_of_open o (over hs w) G) (tx_mapped f t c.opened) ∙ changed_mapped (tx t c.opened) w F G h

  -- The front after a record.
  pub front_mapped : (n : ℕ → ℕ) (w : Front) (c : Config A) (r : RunRecord A) → front_after (over hs w) (config_by f c) (mapped_record f n r) ≡ over hs (front_after w c r)
  front_mapped n w c (records.Retry t) = where_changed c t w _ _ (λ l. refl)
  front_mapped n w c (records.XBegin t) =
      where_changed c t w (λ l. with_section w t (opened_at (length l) (w.section t))) _
      (λ l. ap (λ (m : ℕ). over hs (with_section w t (opened_at m (w.section t)))) (length-map l (local_by f)))
  front_mapped n w c (records.XEnd t) = where_changed c t w _ _ (λ l. refl)
  front_mapped n w c (records.XAbort t) = where_changed c t w _ _ (λ l. refl)
  front_mapped n w c (records.Depend t source) = where_changed c t w _ _ (λ l. refl)
  front_mapped n w c (records.DropSource t source) = where_changed c t w _ _ (λ l. refl)
  front_mapped n w c (records.Plain step) = refl
  front_mapped n w c (records.Op t id op) = refl
  front_mapped n w c (records.Commit t) = refl
  front_mapped n w c (records.Abort t) = refl
  front_mapped n w c (records.Refresh t o) = refl
  front_mapped n w c (records.Publish t) = refl

kinds_open : {Op : Type 0} (o : Option (Tx Op)) (w : Front) (F : LocalLog Op → Front) → ((l : LocalLog Op) → (F l).kinds ≡ w.kinds) → (front_of_open o w F).kinds ≡ w.kinds
kinds_open None w F h = refl
kinds_open (Some x) w F h = h x.local

-- The kinds never change.
pub kinds_stay : {Op : Type 0} (w : Front) (c : Config Op) (r : RunRecord Op) → (front_after w c r).kinds ≡ w.kinds
kinds_stay w c (records.Retry t) = kinds_open (tx t c.opened) w _ (λ l. refl)
kinds_stay w c (records.XBegin t) = kinds_open (tx t c.opened) w _ (λ l. refl)
kinds_stay w c (records.XEnd t) = kinds_open (tx t c.opened) w _ (λ l. refl)
kinds_stay w c (records.XAbort t) = kinds_open (tx t c.opened) w _ (λ l. refl)
kinds_stay w c (records.Depend t source) = kinds_open (tx t c.opened) w _ (λ l. refl)
kinds_stay w c (records.DropSource t source) = kinds_open (tx t c.opened) w _ (λ l. refl)
kinds_stay w c (records.Plain step) = refl
kinds_stay w c (records.Op t id op) = refl
kinds_stay w c (records.Commit t) = refl
kinds_stay w c (records.Abort t) = refl
kinds_stay w c (records.Refresh t o) = refl
kinds_stay w c (records.Publish t) = refl

-- ---- steps

module _ {A B : Type 0} (f : A → B) where
  abbrev Moved : Steps A → Steps B → Type 0
  Moved ss ts = ts ≡ map (mapped_step f) ss

  append_mapped : (x y : Steps A) (x' y' : Steps B) → Moved x x' → Moved y y' → Moved (x ++ y) (x' ++ y')
  append_mapped x y x' y' h k = ap (λ (w : Steps B). w ++ y') h ∙ ap (λ (w : Steps B). map (mapped_step f) x ++ w) k ∙ sym (map-append (mapped_step f) x y)

  more_mapped : (s : Step A) (y : Steps A) (y' : Steps B) → Moved y y' → Moved (s ∷ y) (mapped_step f s ∷ y')
  more_mapped s y y' h = ap (λ (w : Steps B). mapped_step f s ∷ w) h

  stands_mapped : (l : LocalLog A) (id : ℕ) → stands_in (map (local_by f) l) id ≡ stands_in l id
  stands_mapped l id = ap (has_id id) (ids l)
    where
      ids : (k : LocalLog A) → map (λ (e : LocalEntry B). e.id) (map (local_by f) k) ≡ map (λ (e : LocalEntry A). e.id) k
      ids [] = refl
      ids (e ∷ k) = ap (λ (w : List ℕ). e.id ∷ w) (ids k)

  pulls_mapped : (t : Name) (wanted : SharedEntry A → Bool) (wanted' : SharedEntry B → Bool) (G : SharedLog A) (l : LocalLog A) → ((g : SharedEntry A) → wanted' (shared_by f g) ≡ wanted g) → Moved (pulls t wanted G l) (pulls t wanted' (map (shared_by f) G) (map (local_by f) l))
  pulls_mapped t wanted wanted' G l h =
      ap (map (λ (g : SharedEntry B). Pull t g.id)) (
      filter_map (λ (g : SharedEntry B). wanted' g && not (stands_in (map (local_by f) l) g.id)) (shared_by f) G
      ∙ ap (map (shared_by f)) (filter_same (λ (g : SharedEntry A). wanted' (shared_by f g) && not (stands_in (map (local_by f) l) g.id)) (λ (g : SharedEntry A). wanted g && not (stands_in l g.id)) G
      (λ g i. ap (λ (b : Bool). b && not (stands_in (map (local_by f) l) g.id)) (h g) ∙ ap (λ (b : Bool). wanted g && not b) (stands_mapped l g.id))))
      ∙ maps_turned (shared_by f) (λ (g : SharedEntry A). Pull t g.id) (mapped_step f) (λ (g : SharedEntry B). Pull t g.id) (filter (λ (g : SharedEntry A). wanted g && not (stands_in l g.id)) G) (λ g. refl)

  pushall_mapped : (t : Name) (l : LocalLog A) → Moved (pushall t l) (pushall t (map (local_by f) l))
  pushall_mapped t l =
      ap (map (λ (e : LocalEntry B). Push t e.id)) (filter_map (λ (e : LocalEntry B). is_mark e.mark Unpushed) (local_by f) l)
      ∙ maps_turned (local_by f) (λ (e : LocalEntry A). Push t e.id) (mapped_step f) (λ (e : LocalEntry B). Push t e.id) (filter (λ (e : LocalEntry A). is_mark e.mark Unpushed) l) (λ e. refl)

  unpulls_mapped : (t source : Name) (l : LocalLog A) → Moved (unpulls t source l) (unpulls t source (map (local_by f) l))
  unpulls_mapped t source l =
      ap (λ (w : LocalLog B). map (λ (e : LocalEntry B). Unpull t e.id) (reverse w)) (filter_map (is_pulled_from source) (local_by f) l)
      ∙ ap (map (λ (e : LocalEntry B). Unpull t e.id)) (reverse_mapped (local_by f) (filter (λ (e : LocalEntry A). is_pulled_from source e) l))
      ∙ maps_turned (local_by f) (λ (e : LocalEntry A). Unpull t e.id) (mapped_step f) (λ (e : LocalEntry B). Unpull t e.id) (reverse (filter (λ (e : LocalEntry A). is_pulled_from source e) l)) (λ e. refl)

  taken_mapped : (t : Name) (id : ℕ) (m : Mark) → Moved (taken_at t id m) (taken_at t id m)
  taken_mapped t id Pulled = refl
  taken_mapped t id Pushed = refl
  taken_mapped t id Unpushed = refl

  out_mapped : (t : Name) (l : LocalLog A) → Moved (taken_out t l) (taken_out t (map (local_by f) l))
  out_mapped t [] = refl
  out_mapped t (e ∷ l) = append_mapped (taken_out t l) (taken_at t e.id e.mark) _ _ (out_mapped t l) (taken_mapped t e.id e.mark)

  back_mapped : (t : Name) (n : ℕ) (l : LocalLog A) → Moved (back t n l) (back t n (map (local_by f) l))
  back_mapped t n l = ap (taken_out t) (drop-map (local_by f) n l) ∙ out_mapped t (drop n l)

  commit_mapped : (style : Style) (l : LocalLog A) (t : Name) → Moved (commit_steps style l t) (commit_steps style (map (local_by f) l) t)
  commit_mapped Rules l t = refl
  commit_mapped Boosted l t = refl
  commit_mapped Optimistic l t = append_mapped (pushall t l) (Cmt t ∷ []) _ _ (pushall_mapped t l) refl
  commit_mapped Hardware l t = append_mapped (pushall t l) (Cmt t ∷ []) _ _ (pushall_mapped t l) refl
  commit_mapped Dependent l t = append_mapped (pushall t l) (Cmt t ∷ []) _ _ (pushall_mapped t l) refl

  open_mapped : (o : Option (Tx A)) (alone : Step A) (F : LocalLog A → Steps A) (G : LocalLog B → Steps B) → ((l : LocalLog A) → Moved (F l) (G (map (local_by f) l))) → Moved (steps_of_open o alone F) (steps_of_open (option_map (tx_by f) o) (mapped_step f alone) G)
  open_mapped None alone F G h = refl
  open_mapped (Some x) alone F G h = h x.local

  where_mapped : (c : Config A) (t : Name) (alone : Step A) (F : LocalLog A → Steps A) (G : LocalLog B → Steps B) → ((l : LocalLog A) → Moved (F l) (G (map (local_by f) l))) → Moved (where_open c t alone F) (where_open (config_by f c) t (mapped_step f alone) G)
  where_mapped c t alone F G h = ap (λ (o : Option (Tx B)). steps_of_open o (mapped_step f alone) G) (tx_mapped f t c.opened) ∙ open_mapped (tx t c.opened) alone F G h

  module _ (n : ℕ → ℕ) (place : A → ℕ) (at : B → ℕ) (ks hs : List Kind) (maps : MapsPlaces f n place at ks hs) where
    refresh_mapped : (t : Name) (o : ℕ) (G : SharedLog A) (l : LocalLog A) → Moved (refresh place t o G l) (refresh at t (n o) (map (shared_by f) G) (map (local_by f) l))
    refresh_mapped t o G l = pulls_mapped t (λ g. g.committed && (place g.op == o)) (λ g. g.committed && (at g.op == n o)) G l (λ g. ap (λ (b : Bool). g.committed && b) (maps.same g.op o))

    follow_mapped : (t : Name) (o : ℕ) (us : List Name) (G : SharedLog A) (l : LocalLog A) → Moved (follow place t o us G l) (follow at t (n o) us (map (shared_by f) G) (map (local_by f) l))
    follow_mapped t o us G l = pulls_mapped t (λ g. is_followed us g && (place g.op == o)) (λ g. is_followed us g && (at g.op == n o)) G l (λ g. ap (λ (b : Bool). is_followed us g && b) (maps.same g.op o))

    touches_mapped : (o : ℕ) (l : LocalLog A) → touches at (n o) (map (local_by f) l) ≡ touches place o l
    touches_mapped o l = any_mapped (local_by f) (λ (e : LocalEntry B). at e.op == n o) (λ (e : LocalEntry A). place e.op == o) l (λ e. maps.same e.op o)

    unless_mapped : (t : Name) (o : ℕ) (seen : LocalLog A) (G : SharedLog A) (l : LocalLog A) → Moved (refresh_unless place t o seen G l) (refresh_unless at t (n o) (map (local_by f) seen) (map (shared_by f) G) (map (local_by f) l))
    unless_mapped t o seen G l =
        ap (λ (b : Bool). if b then [] else refresh at t (n o) (map (shared_by f) G) (map (local_by f) l)) (touches_mapped o seen) ∙ by (touches place o seen)
      where
        by : (b : Bool) → Moved (if b then [] else refresh place t o G l) (if b then [] else refresh at t (n o) (map (shared_by f) G) (map (local_by f) l))
        by true = refl
        by false = refresh_mapped t o G l

    -- an operation is at its object
    at_once_mapped : (G : SharedLog A) (l : LocalLog A) (t : Name) (id : ℕ) (op : A) → Moved (op_at_once place G l t id op) (op_at_once at (map (shared_by f) G) (map (local_by f) l) t id (f op))
    at_once_mapped G l t id op =
        append_mapped (refresh place t (place op) G l) (App t id op ∷ Push t id ∷ []) _ _
        (ap (λ (o : ℕ). refresh at t o (map (shared_by f) G) (map (local_by f) l)) (maps.anew op) ∙ refresh_mapped t (place op) G l) refl

    later_mapped : (seen : LocalLog A) (G : SharedLog A) (l : LocalLog A) (t : Name) (id : ℕ) (op : A) → Moved (op_later place seen G l t id op) (op_later at (map (local_by f) seen) (map (shared_by f) G) (map (local_by f) l) t id (f op))
    later_mapped seen G l t id op =
        append_mapped (refresh_unless place t (place op) seen G l) (App t id op ∷ []) _ _
        (ap (λ (o : ℕ). refresh_unless at t o (map (local_by f) seen) (map (shared_by f) G) (map (local_by f) l)) (maps.anew op) ∙ unless_mapped t (place op) seen G l) refl

    hardware_mapped : (b : Bool) (m : Option ℕ) (G : SharedLog A) (l : LocalLog A) (t : Name) (id : ℕ) (op : A) → Moved (hardware_op place b m G l t id op) (hardware_op at b m (map (shared_by f) G) (map (local_by f) l) t id (f op))
    hardware_mapped true (Some mark) G l t id op =
        ap (λ (seen : LocalLog B). op_later at seen (map (shared_by f) G) (map (local_by f) l) t id (f op)) (drop-map (local_by f) mark l) ∙ later_mapped (drop mark l) G l t id op
    hardware_mapped true None G l t id op = at_once_mapped G l t id op
    hardware_mapped false m G l t id op = at_once_mapped G l t id op

    -- The steps of an operation.
    op_mapped : (style : Style) (w : Front) (G : SharedLog A) (l : LocalLog A) (t : Name) (id : ℕ) (op : A) → w.kinds ≡ ks → Moved (op_steps place style w G l t id op) (op_steps at style (over hs w) (map (shared_by f) G) (map (local_by f) l) t id (f op))
    op_mapped Rules w G l t id op is = refl
    op_mapped Boosted w G l t id op is = at_once_mapped G l t id op
    op_mapped Optimistic w G l t id op is = later_mapped l G l t id op
    op_mapped Hardware w G l t id op is =
        ap (λ (b : Bool). hardware_op at b (w.section t) (map (shared_by f) G) (map (local_by f) l) t id (f op)) (maps.memory op ∙ ap (λ (k : List Kind). is_memory (slice_get k (place op))) (sym is))
        ∙ hardware_mapped (is_mem w (place op)) (w.section t) G l t id op
    op_mapped Dependent w G l t id op is =
        append_mapped (follow place t (place op) (w.sources t) G l) (App t id op ∷ []) _ _
        (ap (λ (o : ℕ). follow at t o (w.sources t) (map (shared_by f) G) (map (local_by f) l)) (maps.anew op) ∙ follow_mapped t (place op) (w.sources t) G l) refl

    -- The steps of a record.
    pub expanded : (style : Style) (w : Front) (c : Config A) (r : RunRecord A) → w.kinds ≡ ks → expand at style (over hs w) (config_by f c) (mapped_record f n r) ≡ map (mapped_step f) (expand place style w c r)
    expanded style w c (records.Plain step) is = refl
    expanded style w c (records.Op t id op) is = where_mapped c t (App t id op) (λ l. op_steps place style w c.shared l t id op) (λ l. op_steps at style (over hs w) (map (shared_by f) c.shared) l t id (f op)) (λ l. op_mapped style w c.shared l t id op is)
    expanded style w c (records.Commit t) is = where_mapped c t (Cmt t) _ _ (λ l. commit_mapped style l t)
    expanded style w c (records.Abort t) is = where_mapped c t (Quit t) _ _ (λ l. append_mapped (back t 0 l) (Quit t ∷ []) _ _ (back_mapped t 0 l) refl)
    expanded style w c (records.Retry t) is = where_mapped c t (Note t) _ _ (λ l. more_mapped (Note t) (back t 0 l) _ (back_mapped t 0 l))
    expanded style w c (records.Refresh t o) is =
        where_mapped c t (Note t) (λ l. Note t ∷ refresh place t o c.shared l) (λ l. Note t ∷ refresh at t (n o) (map (shared_by f) c.shared) l) (λ l. more_mapped (Note t) (refresh place t o c.shared l) _ (refresh_mapped t o c.shared l))
    expanded style w c (records.XBegin t) is = refl
    expanded style w c (records.XEnd t) is = where_mapped c t (Note t) _ _ (λ l. more_mapped (Note t) (pushall t l) _ (pushall_mapped t l))
    expanded style w c (records.XAbort t) is =
        where_mapped c t (Note t) (λ l. Note t ∷ back t (mark_of (w.section t)) l) (λ l. Note t ∷ back t (mark_of (w.section t)) l) (λ l. more_mapped (Note t) (back t (mark_of (w.section t)) l) _ (back_mapped t (mark_of (w.section t)) l))
    expanded style w c (records.Depend t source) is = refl
    expanded style w c (records.Publish t) is = where_mapped c t (Note t) _ _ (λ l. more_mapped (Note t) (pushall t l) _ (pushall_mapped t l))
    expanded style w c (records.DropSource t source) is = where_mapped c t (Note t) _ _ (λ l. more_mapped (Note t) (unpulls t source l) _ (unpulls_mapped t source l))
