-- The steps of the run in one list, part by part.
use Rattle.std.proofs.Common.{◌≡◌, ℕ, zero, suc, ◌+◌, ◌-◌, ◌*◌, ◌/◌, ◌%◌, ◌≤◌, List, [], ◌∷◌, ◌++◌, None, sym, ap, ◌∙◌, append_assoc, add-one, arith}
use Rattle.pp_core.specs.Steps.{Step, Begin, Pull}
use Rattle.pp_core.specs.declared.step.Step.{Step as StepOf}
use Rattle.pp_objects.specs.declared.act.Op.{Op}
use Rattle.pp_styles.specs.Meanings.{meanings}
use Rattle.pp_cmd_drill.specs.Drill.{name_of, first_thread, second_thread, id_of, pulls, first_apps, second_apps, endings, ending, pair, pairs, unpaired, left_over, drill_steps}
use Rattle.pp_cmd_drill.specs.Transactions.{Adds}

adds_as : (old new : List (StepOf Op)) (steps others : List (Step Op)) → Adds old new steps → steps ≡ others → Adds old new others
adds_as old new steps others is same = is ∙ ap (λ (ss : List (Step Op)). meanings old ++ ss) same

adds_both : (old mid new : List (StepOf Op)) (steps more : List (Step Op)) → Adds old mid steps → Adds mid new more → Adds old new (steps ++ more)
adds_both old mid new steps more first next = next ∙ ap (λ (ss : List (Step Op)). ss ++ more) first ∙ append_assoc (meanings old) steps more

-- The PULL of the first transaction of a pair, if there are pairs before it.
pulls_at : (p a : ℕ) → 1 ≤ p → Pull (name_of a) (id_of (2 * p - 1) 2) ∷ [] ≡ pulls p a
pulls_at zero a h = absurd (omega arith)
pulls_at (suc q) a h = let e : 2 * suc q - 1 ≡ 2 * q + 1 = omega arith in ap (λ (k : ℕ). Pull (name_of a) (id_of k 2) ∷ []) e

-- After at least one pair, appending a's pull of the last write appends all pulls of a.
pub one_pull : (p a : ℕ) (old new : List (StepOf Op)) (step : Step Op) → 1 ≤ p → step ≡ Pull (name_of a) (id_of (2 * p - 1) 2) → Adds old new (step ∷ []) → Adds old new (pulls p a)
one_pull p a old new step h is adds = adds_as old new (step ∷ []) (pulls p a) adds (ap (λ (s : Step Op). s ∷ []) is ∙ pulls_at p a h)

-- The steps of p pairs and those of the next pair are the steps of p + 1 pairs.
pub one_more_pair : (old new : List (StepOf Op)) (p : ℕ) → meanings old ≡ pairs p → Adds old new (pair p (2 * p + 1) (2 * p + 2)) → meanings new ≡ pairs (p + 1)
one_more_pair old new p so_far next = next ∙ ap (λ (ss : List (Step Op)). ss ++ pair p (2 * p + 1) (2 * p + 2)) so_far ∙ ap pairs (sym (add-one p))

-- Appending the parts of a pair in turn appends the steps of the pair.
pub pair_added : (p a b : ℕ) (old l1 l2 l3 l4 new : List (StepOf Op)) (x y : Step Op) (s3 s4 s5 : List (Step Op)) → a ≡ 2 * p + 1 → b ≡ 2 * p + 2
    → x ≡ Begin (name_of a) first_thread None → y ≡ Begin (name_of b) second_thread None → s3 ≡ first_apps p a → s4 ≡ second_apps b → s5 ≡ endings a b
    → Adds old l1 (x ∷ y ∷ []) → Adds l1 l2 (pulls p a) → Adds l2 l3 s3 → Adds l3 l4 s4 → Adds l4 new s5
    → Adds old new (pair p (2 * p + 1) (2 * p + 2))
pair_added p a b old l1 l2 l3 l4 new x y s3 s4 s5 ea eb ex ey e3 e4 e5 h1 h2 h3 h4 h5 =
    let begun : List (Step Op) = Begin (name_of a) first_thread None ∷ Begin (name_of b) second_thread None ∷ [] in
    let first = first_apps p a in
    let second = second_apps b in
    let ends = endings a b in
    let same : x ∷ y ∷ [] ≡ begun = ap (λ (z : Step Op). z ∷ y ∷ []) ex ∙ ap (λ (z : Step Op). Begin (name_of a) first_thread None ∷ z ∷ []) ey in
    let all : Adds old new (pair p a b) =
    adds_both old l1 new begun (pulls p a ++ (first ++ (second ++ ends))) (adds_as old l1 (x ∷ y ∷ []) begun h1 same)
    (adds_both l1 l2 new (pulls p a) (first ++ (second ++ ends)) h2
    (adds_both l2 l3 new first (second ++ ends) (adds_as l2 l3 s3 first h3 e3)
    (adds_both l3 l4 new second ends (adds_as l3 l4 s4 second h4 e4) (adds_as l4 new s5 ends h5 e5)))) in
    all ∙ ap (λ (k : ℕ). meanings old ++ pair p k b) ea ∙ ap (λ (k : ℕ). meanings old ++ pair p (2 * p + 1) k) eb

-- The steps of a single transaction are added part by part.
pub unpaired_added : (p a : ℕ) (old l1 l2 l3 new : List (StepOf Op)) (x : Step Op) (s3 s4 : List (Step Op)) → a ≡ 2 * p + 1
    → x ≡ Begin (name_of a) first_thread None → s3 ≡ first_apps p a → s4 ≡ ending a
    → Adds old l1 (x ∷ []) → Adds l1 l2 (pulls p a) → Adds l2 l3 s3 → Adds l3 new s4
    → Adds old new (unpaired p (2 * p + 1))
unpaired_added p a old l1 l2 l3 new x s3 s4 ea ex e3 e4 h1 h2 h3 h4 =
    let begun : List (Step Op) = Begin (name_of a) first_thread None ∷ [] in
    let first = first_apps p a in
    let ends = ending a in
    let all : Adds old new (unpaired p a) =
    adds_both old l1 new begun (pulls p a ++ (first ++ ends)) (adds_as old l1 (x ∷ []) begun h1 (ap (λ (z : Step Op). z ∷ []) ex))
    (adds_both l1 l2 new (pulls p a) (first ++ ends) h2
    (adds_both l2 l3 new first ends (adds_as l2 l3 s3 first h3 e3) (adds_as l3 new s4 ends h4 e4))) in
    all ∙ ap (λ (k : ℕ). meanings old ++ unpaired p k) ea

-- The steps of all pairs and of the single transaction are the steps of the run.
pub whole : (n : ℕ) (paired all : List (StepOf Op)) → meanings paired ≡ pairs (n / 2) → Adds paired all (left_over (n % 2) (n / 2)) → meanings all ≡ drill_steps n
whole n paired all first next = next ∙ ap (λ (ss : List (Step Op)). ss ++ left_over (n % 2) (n / 2)) first
