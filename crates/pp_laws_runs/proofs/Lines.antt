-- Steps on earlier lines come earlier in the run.
use Rattle.std.specs.Prelude.{◌≡◌, ◌≤◌, ◌<◌, ℕ, List, [], ◌∷◌, Option}
use Rattle.std.proofs.Common.{refl, sym, ap, subst, arith}
use mathlib.Core.Logic.{inl, inr}
use Rattle.pp_model.specs.Config.{Start, Step, first}
use Rattle.pp_model.specs.Lists.{Before, In}
use Rattle.pp_model.specs.Object.{Object}
use Rattle.pp_model.specs.Rules.{RunsFrom, StartMeets}
use Rattle.pp_model.proofs.Lists.{before_cases, before_in_first, before_in_second, before_left, before_map}
use Rattle.pp_model.proofs.Lists.{from_map, in_cases, in_order}
use Rattle.pp_records.specs.Runs.{IsRun, Lined, LinedSteps, Records, Standing, Translation}
use Rattle.pp_records.specs.Runs.{after_record, bare, joined_steps, on_line, outset, steps_at}
use Rattle.pp_records.proofs.Restating.{run_front}
use Rattle.pp_laws_runs.specs.Lines.{IsOnLine, LinesLaw, LinesNeverFall, LinesRise, RecordsLaw}
use Rattle.pp_laws_runs.specs.Lines.{RespectsLines}
use Rattle.pp_laws_runs.proofs.RealTime.{respects_time}

-- ---- the lines of the steps of records

-- lines that rise never fall
pub rise_never_fall : {A : Type 0} (xs : List (Lined A)) → LinesRise xs → LinesNeverFall xs
rise_never_fall xs rise x y b = weaker x.line y.line (rise x y b)
  where
    weaker : (m n : ℕ) → m < n → m ≤ n
    weaker m n h = omega (arith, h)

line_on : {A : Type 0} (line : ℕ) (ss : List A) (x : Lined A) → In x (on_line line ss) → x.line ≡ line
line_on {A} line ss x i =
    let m = from_map (λ (s : A). let l : Lined A = record { line = line; what = s } in l) x ss i in
    ap (λ (l : Lined A). l.line) m.2

at_most : (m n k : ℕ) → m ≡ k → n ≡ k → m ≤ n
at_most m n k a b = omega (arith, a, b)

module _ {F R Op : Type 0} (T : Translation F R Op) where
  -- each step is on the line of one of the records
  step_line : (p : Standing F Op) (rs : Records R) (x : Lined (Step Op)) → In x (joined_steps T p rs) → (r : Lined R) × In r rs × (x.line ≡ r.line)
  step_line p [] x i = absurd i
  step_line p (r ∷ rs) x i = elim (in_cases x (on_line r.line (steps_at T p r.what)) (joined_steps T (after_record T p r.what) rs) i) [
    | inl j ↦ (r, inl refl, line_on r.line (steps_at T p r.what) x j)
    | inr j ↦ let k = step_line (after_record T p r.what) rs x j in (k.0, inr k.1, k.2)
  ]

  -- the lines of the steps never fall if those of the records never fall
  pub joined_never_fall : (p : Standing F Op) (rs : Records R) → LinesNeverFall rs → LinesNeverFall (joined_steps T p rs)
  joined_never_fall p [] never x y b = absurd b
  joined_never_fall p (r ∷ rs) never x y b =
      let here = on_line r.line (steps_at T p r.what) in
      let more = joined_steps T (after_record T p r.what) rs in
      elim (before_cases x y here more b) [
        | inl k ↦ at_most x.line y.line r.line (line_on r.line (steps_at T p r.what) x (before_in_first x y here k)) (line_on r.line (steps_at T p r.what) y (before_in_second x y here k))
        | inr (inl k) ↦ joined_never_fall (after_record T p r.what) rs (λ v w c. never v w (inr c)) x y k
        | inr (inr k) ↦
            let m = step_line (after_record T p r.what) rs y k.1 in
            let first : x.line ≡ r.line = line_on r.line (steps_at T p r.what) x k.0 in
            subst (λ (n : ℕ). x.line ≤ n) (sym m.2) (subst (λ (n : ℕ). n ≤ m.0.line) (sym first) (never r m.0 (inl (refl, m.1))))
      ]

-- The lines of the steps of a run never fall if those of the records never fall.
pub run_never_falls : {F R Op State : Type 0} (O : Object Op State) (T : Translation F R Op) (h : Option (Start Op)) (rs : Records R) (run : LinedSteps Op) →
    LinesNeverFall rs → IsRun O T h rs run → LinesNeverFall run
run_never_falls {Op = Op} O T h rs run never (inl r) x y b = absurd (subst (λ (w : LinedSteps Op). Before x y w) r.2 b)
run_never_falls {Op = Op} O T h rs run never (inr r) x y b =
    let all = joined_steps T (outset T h) rs in
    let front = run_front O (first h) all run r.1 in
    joined_never_fall T (outset T h) rs never x y (subst (λ (w : LinedSteps Op). Before x y w) (sym front.1) (before_left x y run front.0 b))

-- ---- the order of the lines

not_both : (i j : ℕ) → i < j → j ≤ i → ⊥
not_both i j a b = omega (arith, a, b)

module _ {Op State : Type 0} (O : Object Op State) (h : Option (Start Op)) (run : LinedSteps Op) (never : LinesNeverFall run) (met : StartMeets O h) (hold : RunsFrom O (first h) (bare run)) where
  -- of two steps, the one on the earlier line comes first
  in_step_order : (s u : Step Op) (i j : ℕ) → IsOnLine run s i → IsOnLine run u j → i < j → Before s u (bare run)
  in_step_order s u i j a b less =
      let x : Lined (Step Op) = record { line = i; what = s } in
      let y : Lined (Step Op) = record { line = j; what = u } in
      elim (in_order x y run a b) [
        | inl e ↦ let same : i ≡ j = ap (λ (w : Lined (Step Op)). w.line) e in absurd (omega (arith, same, less))
        | inr (inl k) ↦ before_map (λ (w : Lined (Step Op)). w.what) x y run k
        | inr (inr k) ↦ absurd (not_both i j less (never y x k))
      ]

  -- The commit order of an accepted run respects real time by lines that never fall.
  pub respects_lines : RespectsLines h run
  respects_lines =
      let time = respects_time O h met (bare run) hold in
      record {
        once = time.once;
        real_time = λ t u p b i j x y less k. time.real_time t u p b (in_step_order _ _ i j x y less) k;
        start_first = time.start_first;
        thread_order = λ t u p b c i j x y less k l. time.thread_order t u p b c (in_step_order _ _ i j x y less) k l;
      }

-- Each accepted run on lines that never fall respects real time by its lines.
pub lines_law : {Op State : Type 0} (O : Object Op State) → LinesLaw O
lines_law O h run never met hold = respects_lines O h run never met hold

-- Each accepted run of records on lines that never fall respects real time by its lines.
pub records_law : {F R Op State : Type 0} (O : Object Op State) (T : Translation F R Op) → RecordsLaw O T
records_law O T h rs run never is met hold = respects_lines O h run (run_never_falls O T h rs run never is) met hold
