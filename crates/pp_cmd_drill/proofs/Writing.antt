-- The text of the run, from the list of its steps.
use Rattle.std.proofs.Common.{◌≡◌, ℕ, ◌≤◌, List, [], ◌∷◌, ◌++◌, map, Some, None, sym, ap, subst, ◌∙◌}
use Rattle.pp_core.specs.Catalogs.{Objects}
use Rattle.pp_core.specs.Steps.{Step, Begin, App, Unapp, Push, Unpush, Pull, Unpull, Cmt, Quit, Note}
use Rattle.pp_input.specs.Joined.{joined_lines}
use Rattle.pp_format_write.specs.RunTexts.{run_text}
use Rattle.pp_format_write.specs.Statable.{IsWritable}
use Rattle.pp_format_write.specs.Steps.{step_bytes}
use Rattle.pp_format_write.proofs.Bodies.{each_known}
use Rattle.pp_format_write.proofs.RunTexts.{text_behind}
use Rattle.pp_model.specs.Lists.{Each}
use Rattle.pp_objects.specs.declared.act.Op.{Op}
use Rattle.pp_cmd_drill.specs.Drill.{drill_catalog, drill_steps}
use Rattle.pp_cmd_drill.specs.Text.{drill_text}
use Rattle.pp_cmd_drill.proofs.Stating.{AreStatable, steps_stated}

-- Steps that can be stated can be written.
written : (steps : List (Step Op)) → AreStatable steps → Each (IsWritable drill_catalog) steps
written [] h = tt
written (Begin t p None ∷ ss) h = (tt, written ss h.1)
written (Begin t p (Some b) ∷ ss) h = (each_known drill_catalog b h.0.2.calls, written ss h.1)
written (App t i op ∷ ss) h = (h.0.2, written ss h.1)
written (Unapp t i ∷ ss) h = (tt, written ss h.1)
written (Push t i ∷ ss) h = (tt, written ss h.1)
written (Unpush t i ∷ ss) h = (tt, written ss h.1)
written (Pull t i ∷ ss) h = (tt, written ss h.1)
written (Unpull t i ∷ ss) h = (tt, written ss h.1)
written (Cmt t ∷ ss) h = (tt, written ss h.1)
written (Quit t ∷ ss) h = (tt, written ss h.1)
written (Note t ∷ ss) h = (tt, written ss h.1)

-- For n up to 20,000, each step of the run can be written with its catalog.
pub writable : (n : ℕ) (catalog : Objects) (steps : List (Step Op)) → n ≤ 20000 → catalog ≡ drill_catalog → steps ≡ drill_steps n → Each (IsWritable catalog) steps
writable n catalog steps few over is = subst (λ (c : Objects). Each (IsWritable c) steps) (sym over) (written steps (subst AreStatable (sym is) (steps_stated n few)))

-- The header's text and then the lines of the steps are the text of the run.
pub whole : (n : ℕ) (catalog : Objects) (steps : List (Step Op)) (header text : List ℕ) → catalog ≡ drill_catalog → steps ≡ drill_steps n → header ≡ run_text catalog None []
    → text ≡ header ++ joined_lines (map (step_bytes catalog) steps) → text ≡ drill_text n
whole n catalog steps header text over is first lines =
    lines ∙ ap (λ (h : List ℕ). h ++ joined_lines (map (step_bytes catalog) steps)) first ∙ sym (text_behind catalog None [] steps)
    ∙ ap (λ (c : Objects). run_text c None steps) over ∙ ap (λ (ss : List (Step Op)). run_text drill_catalog None ss) is
