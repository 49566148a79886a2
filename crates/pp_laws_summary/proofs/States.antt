-- What may follow is determined by the states of single objects.
use Rattle.std.specs.Prelude.{◌≡◌, ℕ, ◌==◌, ◌&&◌, List, [], ◌++◌, map}
use Rattle.std.proofs.Common.{refl, sym, ap, subst, ◌∙◌}
use Rattle.std.proofs.lemmas.List.{append-nil}
use Rattle.std.proofs.lemmas.Bool.{and_parts}
use Rattle.pp_model.specs.Lists.{In}
use Rattle.pp_model.specs.Object.{Object, Allowed, TellsStates, ops, state}
use Rattle.pp_model.specs.Config.{SharedEntry, Tx, Config, shared_item, only_committed, shared_ops}
use Rattle.pp_model.specs.Sound.{Sound}
use Rattle.pp_model.proofs.Lists.{from_filter}
use Rattle.pp_model.proofs.Permute.{permuted}
use Rattle.pp_model.proofs.Serial.{allowed_back, committed_allowed}
use Rattle.pp_records.specs.Fronts.{Front}
use Rattle.pp_laws_summary.specs.LocalLogs.{Summable, serial_at}
use Rattle.pp_laws_summary.specs.Summary.{open_summary, summary_view}
use Rattle.pp_laws_summary.specs.Places.{PlacesPart, ops_at}
use Rattle.pp_laws_summary.specs.Views.{done_at, log_at}
use Rattle.pp_laws_summary.specs.States.{StatesTell}
use Rattle.pp_laws_summary.proofs.AtPlace.{ops_done}
use Rattle.pp_laws_summary.proofs.Entries.{ops_items}
use Rattle.pp_laws_summary.proofs.Lookups.{tx_is}
use Rattle.pp_laws_summary.proofs.Parts.{at-append}
use Rattle.pp_laws_summary.proofs.Relog.{filter_within}
use Rattle.pp_laws_summary.proofs.Turning.{allowed_join}
use Rattle.pp_laws_summary.proofs.SummaryViews.{log_to}
use Rattle.pp_laws_summary.proofs.Snapshots.{done_serial}

module _ {Op State : Type 0} (O : Object Op State) (place : Op → ℕ) (part : PlacesPart O place) (tells : TellsStates O) where
  view_allowed : (f : Front) (c : Config Op) → Summable O place f c → (x : Tx Op) → In x c.opened → (o : ℕ) → Allowed O (summary_view place o c.done (open_summary place f x))
  view_allowed f c b x i o =
      let a : Allowed O (log_at place o x.local) = (part.parts _).0 (b.sound.local_allowed x i) o in
      subst (λ (w : List Op). Allowed O w) (append-nil (summary_view place o c.done (open_summary place f x)))
      (log_to O place part tells f c b x.name x (tx_is O c b.sound x.name x i refl) o [] (subst (λ (w : List Op). Allowed O w) (sym (append-nil (log_at place o x.local))) a))

  shared_at : (c : Config Op) → Sound O c → (o : ℕ) → Allowed O (ops_at place o (shared_ops c.shared))
  shared_at c s o = (part.parts (shared_ops c.shared)).0 s.shared_allowed o

  done_is : (c : Config Op) (o : ℕ) → ops_at place o (shared_ops (only_committed c.shared)) ≡ shared_ops (done_at place o c.shared)
  done_is c o = sym (ops_done place o (only_committed c.shared) (λ g i. (from_filter (λ (w : SharedEntry Op). w.committed) g c.shared i).1))
      ∙ ap (λ (w : List (SharedEntry Op)). shared_ops w) (filter_within (λ (g : SharedEntry Op). g.committed && (place g.op == o)) (λ (g : SharedEntry Op). g.committed) c.shared (λ g i h. (and_parts g.committed (place g.op == o) h).0))

  -- The committed operations on an object are allowed, in the order of the shared log.
  pub done_allowed : (c : Config Op) → Sound O c → (o : ℕ) → Allowed O (shared_ops (done_at place o c.shared))
  done_allowed c s o = subst (λ (w : List Op). Allowed O w) (done_is c o) ((part.parts (shared_ops (only_committed c.shared))).0 (committed_allowed O c s) o)

  -- It leads to the state of the serial run.
  pub done_state : (c : Config Op) → Sound O c → (o : ℕ) → state O (shared_ops (done_at place o c.shared)) ≡ state O (ops (serial_at place o c.done))
  done_state c s o = tells (shared_ops (done_at place o c.shared)) (ops (serial_at place o c.done)) (done_allowed c s o)
      (λ k h. permuted O (serial_at place o c.done) (map shared_item (done_at place o c.shared)) [] k (done_serial O place c s o)
      (subst (λ (w : List Op). Allowed O (w ++ k)) (sym (ops_items (done_at place o c.shared))) h))

  -- The states of single objects decide what may follow.
  pub states_tell : StatesTell O place
  states_tell =
      record {
        view = λ p b x i o k.
            let v = summary_view place o p.config.done (open_summary place p.front x) in
            ((λ h. allowed_back O O.start v k h), (λ h. allowed_join O O.start v k (view_allowed p.front p.config b x i o) h));
        shared = λ c s k. (
          (λ h o. allowed_back O O.start (ops_at place o (shared_ops c.shared)) (ops_at place o k)
              (subst (λ (w : List Op). Allowed O w) (at-append place o (shared_ops c.shared) k) ((part.parts (shared_ops c.shared ++ k)).0 h o))),
          (λ h. (part.parts (shared_ops c.shared ++ k)).1 (λ o. subst (λ (w : List Op). Allowed O w) (sym (at-append place o (shared_ops c.shared) k))
              (allowed_join O O.start (ops_at place o (shared_ops c.shared)) (ops_at place o k) (shared_at c s o) (h o)))),
        );
        done = λ c s o. done_state c s o;
      }
