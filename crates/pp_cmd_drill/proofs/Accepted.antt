-- The run of each number of transactions is accepted, with its last configuration.
use Rattle.std.proofs.Common.{◌≡◌, ℕ, zero, suc, ◌+◌, ◌*◌, ◌/◌, ◌%◌, ◌<◌, ◌≤◌, List, [], ◌∷◌, ◌++◌, map, length, None, refl, sym, ap, subst, ◌∙◌, arith}
use Rattle.std.proofs.lemmas.List.{append-nil, length-append, length-map}
use Rattle.pp_model.specs.Object.{Item, ops, state}
use Rattle.pp_model.specs.Config.{CommittedTx, Config, first}
use Rattle.pp_model.specs.Lists.{joined}
use Rattle.pp_model.specs.Serial.{Attempt, attempts, serial, committed_tx}
use Rattle.pp_model.specs.Sound.{serial_items, serial_ops}
use Rattle.pp_model.proofs.Simulate.{finished_are}
use Rattle.pp_model.proofs.Verdict.{accepted_iff}
use Rattle.pp_objects.specs.declared.act.Op.{Op}
use Rattle.pp_objects.specs.declared.states.ObjectState.{ObjectState}
use Rattle.pp_cmd_drill.specs.Drill.{pairs, unpaired, left_over, drill_steps}
use Rattle.pp_cmd_drill.specs.Law.{drill_objects, pairs_in, states_at, states_left, sum_to, DrillFacts, Shows}
use Rattle.pp_cmd_drill.proofs.Lengths.{drill_length}
use Rattle.pp_cmd_drill.proofs.Moves.{LeadsTo, in_turn}
use Rattle.pp_cmd_drill.proofs.Pair.{done_first}
use Rattle.pp_cmd_drill.proofs.Run.{after_pairs, after_unpaired, pairs_lead, unpaired_leads, serial_after, serial_unpaired, count_after, done_after}
use Rattle.pp_cmd_drill.proofs.Shown.{shows_at}

-- The configuration after q pairs, and after a single transaction if the number is odd.
abbrev after_all : ℕ → ℕ → Config Op
after_all zero q = after_pairs q
after_all (suc r) q = after_unpaired q

all_lead : (q r : ℕ) → r < 2 → 2 * q + r ≤ 20000 → LeadsTo drill_objects (first None) (pairs q ++ left_over r q) (after_all r q)
all_lead q zero h n = subst (λ z. LeadsTo drill_objects (first None) z (after_pairs q)) (sym (append-nil (pairs q))) (pairs_lead q (omega arith))
all_lead q (suc r) h n = in_turn drill_objects (first None) (after_pairs q) (after_unpaired q) (pairs q) (unpaired q (2 * q + 1)) (pairs_lead q (omega arith)) (unpaired_leads q (omega arith))

count_all : (q r : ℕ) → r < 2 → length (after_all r q).done ≡ 2 * q + r
count_all q zero h = let e = count_after q in omega arith
count_all q (suc r) h =
    let e = length-append (done_after q) (done_first q (2 * q + 1) ∷ []) in
    let f = count_after q in omega arith

serial_all : (q r : ℕ) → r < 2 → state drill_objects (serial_ops (after_all r q).done) ≡ states_at (q + r) (sum_to (2 * q + r))
serial_all q zero h = let e : 2 * q ≡ 2 * q + 0 = omega arith in let f : q ≡ q + 0 = omega arith in (serial_after q).is ∙ ap (λ (x : ℕ). states_at q (sum_to x)) e ∙ ap (λ (x : ℕ). states_at x (sum_to (2 * q + 0))) f
serial_all q (suc r) h = let e : 2 * q + 1 ≡ 2 * q + suc r = omega arith in let f : suc q ≡ q + suc r = omega arith in (serial_unpaired q).is ∙ ap (λ (x : ℕ). states_at (suc q) (sum_to x)) e ∙ ap (λ (x : ℕ). states_at x (sum_to (2 * q + suc r))) f

same_items : (l : List (Attempt Op)) → serial_items (map committed_tx l) ≡ joined (map (λ (a : Attempt Op). a.items) l)
same_items [] = refl
same_items (a ∷ l) = ap (λ (w : List (Item Op)). a.items ++ w) (same_items l)

-- For n from 1 to 20,000, the run of n transactions is accepted, and ends as `DrillFacts` says.
pub drill_accepted : (n : ℕ) → 1 ≤ n → n ≤ 20000 → DrillFacts n
drill_accepted n low high =
    let q = n / 2 in
    let r = n % 2 in
    let ss = drill_steps n in
    let c = after_all r q in
    let all : 2 * q + r ≡ n = omega arith in
    let halves : q + r ≡ pairs_in n = omega arith in
    let l = all_lead q r (omega arith) (omega arith) in
    let done : c.done ≡ map committed_tx (attempts None ss) = ap (λ (d : Config Op). d.done) (sym l.ends) ∙ finished_are drill_objects None ss refl l.runs in
    let same : serial_ops c.done ≡ serial (attempts None ss) = ap (λ (w : List (CommittedTx Op)). serial_ops w) done ∙ ap (λ (w : List (Item Op)). ops w) (same_items (attempts None ss)) in
    let leaves : states_left n ≡ states_at (pairs_in n) (sum_to n) =
    ap (λ (w : List Op). state drill_objects w) (sym same) ∙ serial_all q r (omega arith) ∙ ap (λ (x : ℕ). states_at (q + r) (sum_to x)) all ∙ ap (λ (x : ℕ). states_at x (sum_to n)) halves in
    record {
      runs = l.runs;
      accepted = (accepted_iff drill_objects None ss).1 (refl, l.runs);
      steps = drill_length n low;
      committed = sym (length-map (attempts None ss) committed_tx) ∙ sym (ap (λ (w : List (CommittedTx Op)). length w) done) ∙ count_all q r (omega arith) ∙ all;
      leaves = leaves;
      shows = subst (λ (z : List ObjectState). Shows z (pairs_in n) (sum_to n)) (sym leaves) (shows_at (pairs_in n) (sum_to n) (omega arith));
    }
