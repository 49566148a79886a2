-- The rows of `breakable` that are the same in every recorded style.
use Rattle.std.specs.Prelude.{◌≢◌, ℕ, [], ◌∷◌}
use Rattle.std.proofs.Common.{refl}
use Rattle.pp_core.specs.declared.call.Style.{Style}
use Rattle.pp_core.specs.declared.call.Style.TheVariants as styles
use Rattle.pp_core.specs.declared.step.Rule.TheVariants as rules
use Rattle.pp_model.specs.Lists.{In}
use Rattle.pp_laws_runs.specs.Breakable.{breakable}

-- In every recorded style criteria 1 and 2 of a start are breakable.
pub in_start_row : (style : Style) → style ≢ styles.Rules → (n : ℕ) → In n (1 ∷ 2 ∷ []) → In n (breakable rules.Start style)
in_start_row styles.Rules recorded n i = absurd (recorded refl)
in_start_row styles.Boosted recorded n i = i
in_start_row styles.Optimistic recorded n i = i
in_start_row styles.Hardware recorded n i = i
in_start_row styles.Dependent recorded n i = i

-- In every recorded style criteria 1 and 2 of BEGIN are breakable.
pub in_begin_row : (style : Style) → style ≢ styles.Rules → (n : ℕ) → In n (1 ∷ 2 ∷ []) → In n (breakable rules.Begin style)
in_begin_row styles.Rules recorded n i = absurd (recorded refl)
in_begin_row styles.Boosted recorded n i = i
in_begin_row styles.Optimistic recorded n i = i
in_begin_row styles.Hardware recorded n i = i
in_begin_row styles.Dependent recorded n i = i

-- In every recorded style criteria 1 to 4 of APP are breakable.
pub in_app_row : (style : Style) → style ≢ styles.Rules → (n : ℕ) → In n (1 ∷ 2 ∷ 3 ∷ 4 ∷ []) → In n (breakable rules.App style)
in_app_row styles.Rules recorded n i = absurd (recorded refl)
in_app_row styles.Boosted recorded n i = i
in_app_row styles.Optimistic recorded n i = i
in_app_row styles.Hardware recorded n i = i
in_app_row styles.Dependent recorded n i = i

-- In every recorded style criteria 4 and 5 of PULL are breakable.
pub in_pull_row : (style : Style) → style ≢ styles.Rules → (n : ℕ) → In n (4 ∷ 5 ∷ []) → In n (breakable rules.Pull style)
in_pull_row styles.Rules recorded n i = absurd (recorded refl)
in_pull_row styles.Boosted recorded n i = i
in_pull_row styles.Optimistic recorded n i = i
in_pull_row styles.Hardware recorded n i = i
in_pull_row styles.Dependent recorded n i = i

-- In every recorded style criterion 1 of QUIT is breakable.
pub in_quit_row : (style : Style) → style ≢ styles.Rules → (n : ℕ) → In n (1 ∷ []) → In n (breakable rules.Quit style)
in_quit_row styles.Rules recorded n i = absurd (recorded refl)
in_quit_row styles.Boosted recorded n i = i
in_quit_row styles.Optimistic recorded n i = i
in_quit_row styles.Hardware recorded n i = i
in_quit_row styles.Dependent recorded n i = i

-- In every recorded style criterion 1 of a note is breakable.
pub in_note_row : (style : Style) → style ≢ styles.Rules → (n : ℕ) → In n (1 ∷ []) → In n (breakable rules.Note style)
in_note_row styles.Rules recorded n i = absurd (recorded refl)
in_note_row styles.Boosted recorded n i = i
in_note_row styles.Optimistic recorded n i = i
in_note_row styles.Hardware recorded n i = i
in_note_row styles.Dependent recorded n i = i
