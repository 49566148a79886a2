-- Proof machinery: a state that is reached, seen as its kind's.
use Rattle.std.proofs.Common.{◌≡◌, ◌<◌, IsTrue, List, length, ◌∙◌, ap, subst}
use Rattle.std.proofs.lemmas.List.{length-map}
use Rattle.pp_core.specs.declared.call.Kind.{Kind}
use Rattle.pp_kind.specs.declared.range.TheConstants.{MOST_OPERATIONS}
use Rattle.pp_kind.specs.Calls.{WasApplied}
use Rattle.pp_kind.specs.Object.{IsLegal, AllRanged, IsAllowed, state_after, IsReached}
use Rattle.pp_kind_memory.specs.declared.undo.Undo.{Undo}
use Rattle.pp_objects.specs.declared.act.Act.{Act}
use Rattle.pp_objects.specs.declared.states.ObjectState.{ObjectState}
use Rattle.pp_objects.specs.One.{one}
use Rattle.pp_objects.specs.laws.Kinds.{Ops, States, act_of, has_kind, its_state, kept_is, next_is}
use Rattle.pp_objects.specs.laws.Kinds.{object_of, one_state, one_undo, only_kind, ranged_is}
use Rattle.pp_objects.specs.laws.Kinds.{state_of, undo_from}
use Rattle.pp_objects.specs.laws.Acts.{legal_out, reached_in, ranged_out}

module _ (k : Kind) where
  -- A state of a kind that is reached among all kinds is reached in the kind alone.
  pub reached_alone : (s : States k) → IsReached one (state_of k s) → IsReached (object_of k) s
  reached_alone s h =
      let P : Kind → Type 0 = λ q. IsAllowed one q h.ops in
      let Q : Kind → Type 0 = λ q. state_of k s ≡ state_after one q h.ops in
      let r = reached_in k h.ops (subst P (has_kind k s) h.log.allowed) in
      record {
        ops = r.0;
        log = record {
          allowed = r.2;
          is = one_state k s (state_after (object_of k) tt r.0)
              (subst Q (has_kind k s) h.log.is ∙ r.3);
          ranged = ranged_out k r.0 (subst (λ (l : List Act). AllRanged one l) r.1 h.log.ranged);
        };
        few = subst (λ n. n < MOST_OPERATIONS) (ap length r.1 ∙ length-map r.0 (act_of k)) h.few;
      }

  -- An act of a kind that was applied among all kinds was applied in the kind alone.
  pub was_applied_alone : (s : States k) (a : Ops k) (u : Undo)
      → WasApplied one (act_of k a) u (state_of k s) → WasApplied (object_of k) a (undo_from k u) s
  was_applied_alone s a u h =
      let t = its_state k h.0 (only_kind k (one.shape h.0) a h.3.0) in
      let legal = legal_out k t.0 a
      (subst (λ (v : ObjectState). IsLegal one v (act_of k a)) t.1 h.3) in (
        t.0,
        reached_alone t.0 (subst (λ (v : ObjectState). IsReached one v) t.1 h.1),
        subst IsTrue (ranged_is k a) h.2,
        legal,
        one_state k s ((object_of k).next t.0 a)
            (h.4 ∙ ap (λ (v : ObjectState). one.next v (act_of k a)) t.1 ∙ next_is k t.0 a),
        ap (undo_from k) (h.5 ∙ ap (λ (v : ObjectState). one.upkeep.kept v (act_of k a)) t.1
            ∙ kept_is k t.0 a) ∙ one_undo k ((object_of k).upkeep.kept t.0 a),
      )
