-- The state after the steps that undo: UNAPP, UNPUSH and UNPULL.
use Rattle.std.proofs.Common.{◌≡◌, ◌==◌, ◌<◌, ◌≤◌, ◌+◌, ◌*◌, ◌-◌, ℕ, List, map, length, Option}
use Rattle.std.proofs.Common.{Some, option_map, position, slice_get, Ok, Err, refl, sym, ap, subst, ◌∙◌}
use Rattle.std.proofs.Common.{arith}
use Rattle.std.specs.List.{remove}
use Rattle.std.proofs.lemmas.Bool.{eqb-true}
use Rattle.std.proofs.lemmas.List.{length-map}
use Rattle.pp_core.specs.declared.answer.Answer.{Answer}
use Rattle.pp_core.specs.declared.entry.CommittedTx.{CommittedTx}
use Rattle.pp_core.specs.declared.entry.LocalEntry.{LocalEntry}
use Rattle.pp_core.specs.declared.entry.SharedEntry.{SharedEntry}
use Rattle.pp_model.specs.Config.{Tx, Unpush, Unpull, Unpushed, Pushed, Pulled, at_mark, but_last}
use Rattle.pp_model.specs.Config.{item, local_ops, set_mark, shared_item, shared_ops, tx}
use Rattle.pp_model.specs.Config.{without_local, without_shared}
use Rattle.pp_model.specs.Lists.{Before}
use Rattle.pp_model.specs.Names.{Name}
use Rattle.pp_model.specs.Rules.{Breaks, Meets}
use Rattle.pp_model.proofs.Logs.{found_mark, found_tx}
use Rattle.pp_model.proofs.Finding.{placed}
use Rattle.pp_log.specs.declared.place.Removed.{Removed}
use Rattle.pp_log.specs.declared.place.Removed.TheVariants.{Done, Differs}
use Rattle.pp_log.specs.Logs.{removal_ticks}
use Rattle.pp_log.specs.Logs.{RemovesEntry, from_place}
use Rattle.pp_kind.specs.Object.{Object, IsAllowed, SwapsIn, rules_of}
use Rattle.pp_machine.specs.Costs.{from_id, log_items}
use Rattle.pp_machine.specs.Evidence.{evidence, first_differing}
use Rattle.pp_machine.specs.declared.detail.Detail.{Detail}
use Rattle.pp_machine.specs.declared.detail.Detail.TheVariants.{Nothing, Gives}
use Rattle.pp_machine.specs.Machines.{Holds, Seen, config_of, tx_of}
use Rattle.pp_machine.specs.Judges.{FindsPushed, IsLastAt}
use Rattle.pp_machine.specs.Removals.{CostsAt, RemovesAt}
use Rattle.pp_machine.specs.Transactions.{MayLeave, Open, Txs, open_at, open_of, with_course}
use Rattle.pp_machine.proofs.Acting.{with_log}
use Rattle.pp_machine.proofs.Cuts.{slice_within}
use Rattle.pp_machine.proofs.Judged.{HasEntry}
use Rattle.pp_machine.proofs.Judging.{unpush_4, unpush_shown, unpush_0, unpull_3, unpull_shown}
use Rattle.pp_machine.proofs.Judging.{unpull_0}
use Rattle.pp_machine.proofs.Keeping.{course_same, posted_at, relogged_is, unpulled}
use Rattle.pp_machine.proofs.Opened.{HasLog, logged, opened}
use Rattle.pp_machine.proofs.Removing.{differs_not, from_id_some, from_place_is, from_place_last}
use Rattle.pp_machine.proofs.Removing.{last_removed, never_differs}
use Rattle.pp_machine.proofs.Showing.{differing_shown}

-- The entry and the result of a removal that differs are the evidence.
told : {Op : Type 0} {a c : ℕ} {b d : Answer} → Differs c d ≡ Differs a b → ◌≡◌ {A = Detail Op} (Gives a b) (Gives c d)
told {Op} {a} {c} {b} {d} e = ap (λ (z : Removed). differing z) (sym e)
  where
    differing : Removed → Detail Op
    differing Done = Nothing
    differing (Differs i r) = Gives i r

cost_done : (removed : Removed) (k a b : ℕ) → removed ≡ Done → 1 ≤ k → removal_ticks removed k a b → (a ≤ b) × (b ≤ a + (2 * k - 1))
cost_done Done k a b e s c = let most = c.1 in (c.0, omega (arith, most, s))
cost_done (Differs id answer) k a b e s c = absurd (cc)

cost_alone : (removed : Removed) (a b : ℕ) → removed ≡ Done → removal_ticks removed 1 a b → b ≡ a + 1
cost_alone Done a b e c = c.2 refl
cost_alone (Differs id answer) a b e c = absurd (cc)

cost_differs : (removed : Removed) (id : ℕ) (answer : Answer) (k a b : ℕ) → removed ≡ Differs id answer → 1 ≤ k → removal_ticks removed k a b → (a ≤ b) × (b ≤ a + (4 * k - 3))
cost_differs Done id answer k a b e s c = absurd (cc)
cost_differs (Differs i r) id answer k a b e s c = let most = c.1 in (c.0, omega (arith, most, s))

cost_err : (k a b : ℕ) → 1 ≤ k → (a ≤ b) × (b + 3 ≤ a + 4 * k) → b ≤ a + (4 * k - 3)
cost_err k a b s c = let most = c.1 in omega (arith, most, s)

cost_more : (k a b : ℕ) → 1 ≤ k → (a ≤ b) × (b ≤ a + (2 * k - 1)) → b ≤ a + (4 * k - 3)
cost_more k a b s c = let most = c.1 in omega (arith, most, s)

module _ {Shape State Op Undo : Type 0} (o : Object Shape State Op Undo) (shape : Shape) (v : Txs Shape Op) (ids : List ℕ) (G : Shape × List (SharedEntry Op)) (F : List (CommittedTx Op)) (n : ℕ) (w : Seen Shape Op)
    (same : ◌≡◌ {A = Seen Shape Op} (record { shape = shape; config = config_of v ids G.1 F; count = n }) w) (h : Holds o shape v ids G F n) where
  log_allowed : (t : Name) (l : Shape × List (LocalEntry Op)) → HasLog o shape v ids G F n h t l → IsAllowed o l.0 (local_ops l.1)
  log_allowed t l r =
      subst (λ (s : Shape). IsAllowed o s (local_ops l.1)) (sym (r.fine).same_shape)
      (h.sound.local_allowed (record { name = t; thread = r.thread; body = r.body; local = l.1 }) (found_tx t (map tx_of v.opened) _ r.is).0)

  relog : (t : Name) (l : Shape × List (LocalEntry Op)) (r : HasLog o shape v ids G F n h t l) (f : List (LocalEntry Op) → List (LocalEntry Op)) (new : Shape × List (LocalEntry Op)) → new ≡ (l.0, f l.1) → with_course t (record { body = r.body; local = new }) v ≡ with_log t f v
  relog t l r f new e =
      relogged_is o shape v ids G F n w same h t (record { body = r.body; local = l }) (record { body = r.body; local = new }) (record { log = r; body_is = refl }) f (ap (λ (z : Shape × List (LocalEntry Op)). record { body = r.body; local = z }) e)

  unchanged : (t : Name) (l : Shape × List (LocalEntry Op)) (r : HasLog o shape v ids G F n h t l) (new : Shape × List (LocalEntry Op)) → new ≡ l → with_course t (record { body = r.body; local = new }) v ≡ v
  unchanged t l r new e =
      course_same o shape v ids G F n w same h t (record { body = r.body; local = l }) (record { body = r.body; local = new }) (record { log = r; body_is = refl }) (ap (λ (z : Shape × List (LocalEntry Op)). record { body = r.body; local = z }) e)

  -- UNAPP the local log of the open transaction t, with its last entry
  pub record HasLast (t : Name) (i : ℕ) : Type 0 where
    pub log : Shape × List (LocalEntry Op)
    pub has : HasLog o shape v ids G F n h t log
    pub leaves : MayLeave log.1 i
    pub end : i + 1 ≡ length log.1

  -- The last unpushed entry of a local log is the last one of the machine's log, and may leave.
  pub last_of : (t : Name) (i : ℕ) → IsLastAt w.config t i → HasLast t i
  last_of t i k =
      let q = subst (λ (z : Seen Shape Op). IsLastAt z.config t i) (sym same) k in
      let y = opened o shape v ids G F n h t q.holder q.is_open in
      let is : (y.0).local.1 ≡ (q.holder).local = ap (λ (z : Tx Op). z.local) y.2 in
      let at : slice_get (y.0).local.1 i ≡ Some q.entry = ap (λ (l : List (LocalEntry Op)). slice_get l i) is ∙ q.here in
      let end : i + 1 ≡ length (y.0).local.1 = q.end ∙ sym (ap length is) in
      record {
        log = (y.0).local;
        has = logged o shape v ids G F n h t (y.0).local (sym (ap (option_map (λ (x : Open Shape Op). x.local)) y.1));
        leaves = record { within = slice_within (y.0).local.1 i q.entry at; entry = q.entry; here = at; own_last = λ _. end };
        end = end;
      }

  -- The last entry of the local log of an UNAPP may leave it.
  pub unapp_leaves : (t : Name) (i : ℕ) → HasLast t i → (y : Open Shape Op) × (open_at t v.opened ≡ Some y) × MayLeave y.local.1 i
  unapp_leaves t i k = (open_of t (k.has).thread (k.has).body k.log, (k.has).at, k.leaves)

  -- To remove the last entry of the local log is the effect of an UNAPP.
  pub unapplied : (t : Name) (i : ℕ) (k : HasLast t i) (u : Txs Shape Op) (removed : Removed) → RemovesAt o v t i u removed → u ≡ with_log t but_last v
  unapplied t i k u removed r =
      let q = r (open_of t (k.has).thread (k.has).body k.log) (k.has).at in
      q.2 ∙ relog t k.log k.has but_last q.0 (last_removed o k.log i k.leaves k.end (log_allowed t k.log k.has) q.0 removed q.1)

  one_behind : (place : Op → ℕ) (t : Name) (i : ℕ) (k : HasLast t i) → from_place place (local_ops (k.log).1) i ≡ 1
  one_behind place t i k = from_place_last place (local_ops (k.log).1) i (k.end ∙ sym (length-map (k.log).1 _))

  -- An UNAPP costs exactly one tick.
  pub unapp_cost : (place : Op → ℕ) (t : Name) (i : ℕ) (k : HasLast t i) (u : Txs Shape Op) (removed : Removed) (a b : ℕ) → RemovesAt o v t i u removed → CostsAt {E = ℕ} place v t i (Ok removed) a b → b ≡ a + 1
  unapp_cost place t i k u removed a b r c =
      let q = r (open_of t (k.has).thread (k.has).body k.log) (k.has).at in
      let done = never_differs o k.log i k.leaves k.end (log_allowed t k.log k.has) q.0 removed q.1 in
      let steps = subst (λ (z : ℕ). removal_ticks removed z a b) (one_behind place t i k) (c (open_of t (k.has).thread (k.has).body k.log) (k.has).at) in
      cost_alone removed a b done steps

  -- An UNAPP costs at most one tick.
  pub unapp_most : (place : Op → ℕ) (t : Name) (i : ℕ) (k : HasLast t i) (u : Txs Shape Op) (removed : Removed) (a b : ℕ) → RemovesAt o v t i u removed → CostsAt {E = ℕ} place v t i (Ok removed) a b → b ≤ a + 1
  unapp_most place t i k u removed a b r c = let e = unapp_cost place t i k u removed a b r c in omega (arith, e)

  -- An UNAPP that runs out of memory costs at most one tick.
  pub unapp_bound : (place : Op → ℕ) (t : Name) (i : ℕ) (k : HasLast t i) (a b : ℕ) → CostsAt {E = ℕ} place v t i (Err 0) a b → b ≤ a + 1
  unapp_bound place t i k a b c =
      let s : b + 3 ≤ a + 4 * 1 = subst (λ (z : ℕ). b + 3 ≤ a + 4 * z) (one_behind place t i k) (c (open_of t (k.has).thread (k.has).body k.log) (k.has).at).1 in
      omega (arith, s)

  -- UNPULL
  module _ (t : Name) (id i : ℕ) (p : LocalEntry Op) (k : HasEntry o shape v ids G F n h w same t id Pulled i p) where
    without : remove (k.log).1 i ≡ without_local id (k.log).1
    without = unpulled o shape v ids G F n w same h t id k.log k.has p i k.found k.here

    unpull_behind : (place : Op → ℕ) → from_place place (local_ops (k.log).1) i ≡ from_id place id (log_items (tx t w.config.opened))
    unpull_behind place =
        from_place_is item place id (k.log).1 (h.sound.local_ids (record { name = t; thread = (k.has).thread; body = (k.has).body; local = (k.log).1 }) (found_tx t (map tx_of v.opened) _ (k.has).is).0) i p k.here (found_mark id Pulled (k.log).1 p k.found).1
        ∙ sym (ap (λ (z : Option (Tx Op)). from_id place id (log_items z)) (k.has).is)
        ∙ ap (λ (z : Seen Shape Op). from_id place id (log_items (tx t z.config.opened))) same

    allowed_here : IsAllowed o (k.log).0 (local_ops (remove (k.log).1 i)) → IsAllowed o shape (local_ops (without_local id (k.log).1))
    allowed_here a =
        subst (λ (z : List (LocalEntry Op)). IsAllowed o shape (local_ops z)) without
        (subst (λ (s : Shape). IsAllowed o s (local_ops (remove (k.log).1 i))) ((k.has).fine).same_shape a)

    allowed_there : IsAllowed o shape (local_ops (without_local id (k.log).1)) → IsAllowed o (k.log).0 (local_ops (remove (k.log).1 i))
    allowed_there a =
        subst (λ (s : Shape). IsAllowed o s (local_ops (remove (k.log).1 i))) (sym ((k.has).fine).same_shape)
        (subst (λ (z : List (LocalEntry Op)). IsAllowed o shape (local_ops z)) (sym without) a)

    -- If the entry is removed from the local log, the UNPULL meets its criteria and is done.
    pub unpull_done : (u : Txs Shape Op) (removed : Removed) → removed ≡ Done → RemovesAt o v t i u removed → (u ≡ with_log t (without_local id) v) × Meets (rules_of o w.shape) w.config (Unpull t id)
    unpull_done u Done e r =
        let q = r (open_of t (k.has).thread (k.has).body k.log) (k.has).at in (
          q.2 ∙ relog t k.log k.has (without_local id) q.0 (q.1.0 ∙ ap (λ (z : List (LocalEntry Op)). ((k.log).0, z)) without),
          unpull_0 o _ w same t id _ p (k.has).is k.found (allowed_here q.1.1),
        )
    unpull_done u (Differs a b) e r = absurd (cc)

    -- If the local log differs without the entry, the UNPULL violates criterion 3.
    pub unpull_differs : (u : Txs Shape Op) (removed : Removed) (a : ℕ) (b : Answer) → removed ≡ Differs a b → RemovesAt o v t i u removed → (u ≡ v) × Breaks (rules_of o w.shape) w.config (Unpull t id) 3
        × (Gives a b ≡ evidence o w.shape w.config (Unpull t id) 3)
    unpull_differs u Done a b e r = absurd (cc)
    unpull_differs u (Differs c d) a b e r =
        let q = r (open_of t (k.has).thread (k.has).body k.log) (k.has).at in (
          q.2 ∙ unchanged t k.log k.has q.0 q.1.0,
          unpull_3 o _ w same t id _ p (k.has).is k.found (λ z. differs_not o item (k.log).0 (remove (k.log).1 i) c d q.1.1 (allowed_there z)),
          told e
              ∙ unpull_shown o _ w same t id _ p (k.has).is k.found (Gives c d)
              (differing_shown o item (o.start (k.log).0) (remove (k.log).1 i) c d q.1.1
              ∙ ap (λ (s : Shape). first_differing o item (o.start s) (remove (k.log).1 i)) ((k.has).fine).same_shape ∙ ap (first_differing o item (o.start shape)) without),
        )

    -- An UNPULL that is done costs at most two ticks for each operation of the place from the entry on, less one.
    pub unpull_cost_done : (place : Op → ℕ) (removed : Removed) (a b : ℕ) → removed ≡ Done → CostsAt {E = ℕ} place v t i (Ok removed) a b → (a ≤ b) × (b ≤ a + (2 * from_id place id (log_items (tx t w.config.opened)) - 1))
    unpull_cost_done place removed a b e c =
        cost_done removed (from_id place id (log_items (tx t w.config.opened))) a b e (from_id_some place id (log_items (tx t w.config.opened)))
        (subst (λ (z : ℕ). removal_ticks removed z a b) (unpull_behind place) (c (open_of t (k.has).thread (k.has).body k.log) (k.has).at))

    -- An UNPULL that is done costs at most four ticks for each operation of the place from the entry on, less three.
    pub unpull_cost_more : (place : Op → ℕ) (removed : Removed) (a b : ℕ) → removed ≡ Done → CostsAt {E = ℕ} place v t i (Ok removed) a b → b ≤ a + (4 * from_id place id (log_items (tx t w.config.opened)) - 3)
    unpull_cost_more place removed a b e c =
        cost_more (from_id place id (log_items (tx t w.config.opened))) a b (from_id_some place id (log_items (tx t w.config.opened))) (unpull_cost_done place removed a b e c)

    -- An UNPULL that differs costs at most four ticks for each operation of the place from the entry on, less three.
    pub unpull_cost_differs : (place : Op → ℕ) (removed : Removed) (x : ℕ) (y : Answer) (a b : ℕ) → removed ≡ Differs x y → CostsAt {E = ℕ} place v t i (Ok removed) a b → (a ≤ b) × (b ≤ a + (4 * from_id place id (log_items (tx t w.config.opened)) - 3))
    unpull_cost_differs place removed x y a b e c =
        cost_differs removed x y (from_id place id (log_items (tx t w.config.opened))) a b e (from_id_some place id (log_items (tx t w.config.opened)))
        (subst (λ (z : ℕ). removal_ticks removed z a b) (unpull_behind place) (c (open_of t (k.has).thread (k.has).body k.log) (k.has).at))

    -- An UNPULL out of memory costs at most four ticks for each operation of the place from the entry on, less three.
    pub unpull_cost_err : (place : Op → ℕ) (a b : ℕ) → CostsAt {E = ℕ} place v t i (Err 0) a b → b ≤ a + (4 * from_id place id (log_items (tx t w.config.opened)) - 3)
    unpull_cost_err place a b c =
        cost_err (from_id place id (log_items (tx t w.config.opened))) a b (from_id_some place id (log_items (tx t w.config.opened)))
        (subst (λ (z : ℕ). (a ≤ b) × (b + 3 ≤ a + 4 * z)) (unpull_behind place) (c (open_of t (k.has).thread (k.has).body k.log) (k.has).at))

  -- UNPUSH
  pub record HasPushed (t : Name) (id i j : ℕ) : Type 0 where
    pub entry : LocalEntry Op
    pub has : HasEntry o shape v ids G F n h w same t id Pushed i entry
    pub swap : (b : LocalEntry Op) → Before entry b (has.log).1 → b.mark ≡ Pushed → SwapsIn o shape b.op entry.op
    pub posted : position (λ g. g.id == id) G.1 ≡ Some j

  -- The entry that an UNPUSH finds is in the machine's local log and in its shared log.
  pub pushed_of : (t : Name) (id i j : ℕ) → FindsPushed o w t id i j → HasPushed t id i j
  pushed_of t id i j k =
      let q = subst (λ (z : Seen Shape Op). FindsPushed o z t id i j) (sym same) k in
      let y = opened o shape v ids G F n h t (q.at).holder (q.at).is_open in
      let is : (y.0).local.1 ≡ ((q.at).holder).local = ap (λ (z : Tx Op). z.local) y.2 in
      record {
        entry = q.entry;
        has = record {
          log = (y.0).local;
          has = logged o shape v ids G F n h t (y.0).local (sym (ap (option_map (λ (x : Open Shape Op). x.local)) y.1));
          found = ap (at_mark id Pushed) is ∙ (q.at).found;
          here = ap (λ (l : List (LocalEntry Op)). slice_get l i) is ∙ (q.at).here;
        };
        swap = λ b before m. q.swap b (subst (λ (l : List (LocalEntry Op)). Before q.entry b l) is before) m;
        posted = q.posted;
      }

  module _ (t : Name) (id i j : ℕ) (k : HasPushed t id i j) where
    -- The position of the entry that an UNPUSH removes is within the shared log.
    pub posted_within : j < length G.1
    posted_within = let q = placed (λ (z : SharedEntry Op). z.id == id) G.1 j k.posted in slice_within G.1 j q.0 q.1

    -- The mark Unpushed at the id of the entry is the mark at the id of the UNPUSH.
    pub unmarked : (u : Txs Shape Op) → u ≡ with_log t (set_mark (k.entry).id Unpushed) v → u ≡ with_log t (set_mark id Unpushed) v
    unmarked u e = e ∙ ap (λ (z : ℕ). with_log t (set_mark z Unpushed) v) (found_mark id Pushed ((k.has).log).1 k.entry (k.has).found).1

    unposted : remove G.1 j ≡ without_shared id G.1
    unposted = posted_at o shape v ids G F n w same h id j k.posted

    -- If the entry is removed from the shared log, the UNPUSH meets its criteria and is done.
    pub unpush_done : (H : Shape × List (SharedEntry Op)) (removed : Removed) → removed ≡ Done → RemovesEntry o shared_item G j H removed → (H ≡ (G.0, without_shared id G.1)) × Meets (rules_of o w.shape) w.config (Unpush t id)
    unpush_done H Done e r = (
      r.0 ∙ ap (λ (z : List (SharedEntry Op)). (G.0, z)) unposted,
      unpush_0 o _ w same t id _ k.entry ((k.has).has).is (k.has).found k.swap
          (subst (λ (z : List (SharedEntry Op)). IsAllowed o shape (shared_ops z)) unposted (subst (λ (s : Shape). IsAllowed o s (shared_ops (remove G.1 j))) h.shared_shape r.1)),
    )
    unpush_done H (Differs a b) e r = absurd (cc)

    -- If the shared log differs without the entry, the UNPUSH violates criterion 4.
    pub unpush_differs : (H : Shape × List (SharedEntry Op)) (removed : Removed) (a : ℕ) (b : Answer) → removed ≡ Differs a b → RemovesEntry o shared_item G j H removed → (H ≡ G) × Breaks (rules_of o w.shape) w.config (Unpush t id) 4
        × (Gives a b ≡ evidence o w.shape w.config (Unpush t id) 4)
    unpush_differs H Done a b e r = absurd (cc)
    unpush_differs H (Differs c d) a b e r = (
      r.0,
      unpush_4 o _ w same t id _ k.entry ((k.has).has).is (k.has).found k.swap (λ z. differs_not o shared_item G.0 (remove G.1 j) c d r.1
          (subst (λ (s : Shape). IsAllowed o s (shared_ops (remove G.1 j))) (sym h.shared_shape) (subst (λ (y : List (SharedEntry Op)). IsAllowed o shape (shared_ops y)) (sym unposted) z))),
      told e
          ∙ unpush_shown o _ w same t id _ k.entry ((k.has).has).is (k.has).found (Gives c d)
          (differing_shown o shared_item (o.start G.0) (remove G.1 j) c d r.1
          ∙ ap (λ (s : Shape). first_differing o shared_item (o.start s) (remove G.1 j)) h.shared_shape ∙ ap (first_differing o shared_item (o.start shape)) unposted),
    )

    unpush_behind : (place : Op → ℕ) → from_place place (shared_ops G.1) j ≡ from_id place id (map shared_item w.config.shared)
    unpush_behind place =
        let q = placed (λ (z : SharedEntry Op). z.id == id) G.1 j k.posted in
        from_place_is shared_item place id G.1 h.sound.shared_ids j q.0 q.1 (eqb-true (q.0).id id q.2)
        ∙ ap (λ (z : Seen Shape Op). from_id place id (map shared_item z.config.shared)) same

    -- An UNPUSH that is done costs at most two ticks for each operation of the place, less one.
    pub unpush_cost_done : (place : Op → ℕ) (removed : Removed) (a b : ℕ) → removed ≡ Done → removal_ticks removed (from_place place (shared_ops G.1) j) a b → (a ≤ b) × (b ≤ a + (2 * from_id place id (map shared_item w.config.shared) - 1))
    unpush_cost_done place removed a b e c =
        cost_done removed (from_id place id (map shared_item w.config.shared)) a b e (from_id_some place id (map shared_item w.config.shared)) (subst (λ (z : ℕ). removal_ticks removed z a b) (unpush_behind place) c)

    -- An UNPUSH that is done costs at most four ticks for each operation of the place, less three.
    pub unpush_cost_more : (place : Op → ℕ) (removed : Removed) (a b : ℕ) → removed ≡ Done → removal_ticks removed (from_place place (shared_ops G.1) j) a b → b ≤ a + (4 * from_id place id (map shared_item w.config.shared) - 3)
    unpush_cost_more place removed a b e c = cost_more (from_id place id (map shared_item w.config.shared)) a b (from_id_some place id (map shared_item w.config.shared)) (unpush_cost_done place removed a b e c)

    -- An UNPUSH that differs costs at most four ticks for each operation of the place, less three.
    pub unpush_cost_differs : (place : Op → ℕ) (removed : Removed) (x : ℕ) (y : Answer) (a b : ℕ) → removed ≡ Differs x y → removal_ticks removed (from_place place (shared_ops G.1) j) a b → (a ≤ b) × (b ≤ a + (4 * from_id place id (map shared_item w.config.shared) - 3))
    unpush_cost_differs place removed x y a b e c =
        cost_differs removed x y (from_id place id (map shared_item w.config.shared)) a b e (from_id_some place id (map shared_item w.config.shared)) (subst (λ (z : ℕ). removal_ticks removed z a b) (unpush_behind place) c)

    -- An UNPUSH out of memory costs at most four ticks for each operation of the place, less three.
    pub unpush_cost_err : (place : Op → ℕ) (a b : ℕ) → (a ≤ b) × (b + 3 ≤ a + 4 * from_place place (shared_ops G.1) j) → b ≤ a + (4 * from_id place id (map shared_item w.config.shared) - 3)
    unpush_cost_err place a b c =
        cost_err (from_id place id (map shared_item w.config.shared)) a b (from_id_some place id (map shared_item w.config.shared)) (subst (λ (z : ℕ). (a ≤ b) × (b + 3 ≤ a + 4 * z)) (unpush_behind place) c)
