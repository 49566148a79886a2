-- Proof machinery: an input has one status and one text as a certificate.
use Rattle.std.proofs.Common.{◌≡◌, ℕ, List, length, sym, ap, refl, ◌∙◌, Option, None, Some, subst}
use Rattle.std.proofs.Common.{Bool, true, false, cond}
use Rattle.std.specs.Prelude.{nat_lt}
use Rattle.pp_core.specs.Catalogs.{Objects}
use Rattle.pp_core.specs.declared.call.Kind.{Kind}
use Rattle.pp_core.specs.declared.status.Status.{Status}
use Rattle.pp_core.specs.declared.status.Status.TheVariants as statuses
use Rattle.pp_input.specs.Limits.{usual_limits}
use Rattle.pp_input.specs.Overruns.{overrun}
use Rattle.pp_objects.specs.Objects.{objects}
use Rattle.pp_objects.specs.declared.act.Op.{Op}
use Rattle.pp_objects.specs.declared.states.ObjectState.{ObjectState}
use Rattle.pp_objects.specs.laws.Objects.{objects_lawful}
use Rattle.pp_input_reader.specs.FaultTexts.{fault_text}
use Rattle.pp_input_reader.specs.Limits.{limit_fault}
use Rattle.pp_input_reader.specs.declared.cause.Cause.{Cause}
use Rattle.pp_certificate_checker.specs.declared.refusal.Refusal.{Refusal}
use Rattle.pp_certificate_checker.specs.declared.refusal.Refusal.TheVariants.{NotCertificate, Gives, Position, Pair}
use Rattle.pp_certificate_checker.specs.declared.shown.Shown.{Shown}
use Rattle.pp_certificate_checker.specs.Certificates.{Fresh, Verdict, Holds, Refused, IsVerdictOf}
use Rattle.pp_certificate_checker.proofs.Checked.{read_sound}
use Rattle.pp_certificate_checker.proofs.Decided.{read_once, read_some}
use Rattle.pp_certificate_checker.proofs.Own.{shows_own}
use Rattle.pp_certificate_lines.specs.Reading.{objects_in, reader_of}
use Rattle.pp_certificate_lines.specs.Rechecked.{texts, Checked, Faulty, Refuses, Shows, refused_at}
use Rattle.pp_certificate_lines.specs.Rechecked.{checked, refused_text, holds_text, IsChecked}
use Rattle.pp_certificate_lines.specs.Rechecked.{IsCheckedTold, IsRecheck, IsSoundOf}

abbrev Found : Type 0
Found = Verdict (List Kind) (List ObjectState) Op

checked_once : (bytes : List ℕ) (f g : Checked) → IsChecked bytes f → IsChecked bytes g → f ≡ g
checked_once bytes f g a b =
    let lines = texts bytes in
    let one : a.0 ≡ b.0 =
    read_once objects (reader_of lines) 1 Fresh lines a.0 b.0 a.1 b.1 in
    a.2 ∙ ap (λ (v : Found). checked (limit_fault (overrun usual_limits bytes)) (length lines) v) one ∙ sym b.2

told_once : (catalog : Objects) (f : Checked) (s r : Status) (t u : List ℕ)
    → IsCheckedTold catalog f s t → IsCheckedTold catalog f r u → (s ≡ r) × (t ≡ u)
told_once catalog (Faulty n cause) s r t u a b = (a.0 ∙ sym b.0, a.1 ∙ sym b.1)
told_once catalog (Refuses n why) s r t u a b = (a.0 ∙ sym b.0, a.1 ∙ sym b.1)
told_once catalog (Shows h) s r t u a b = (a.0 ∙ sym b.0, a.1 ∙ sym b.1)

told_some : (catalog : Objects) (f : Checked)
    → (s : Status) × (t : List ℕ) × IsCheckedTold catalog f s t
told_some catalog (Faulty n cause) = (statuses.InputFault, fault_text n cause, (refl, refl))
told_some catalog (Refuses n why) = (statuses.Rejected, refused_text n why, (refl, refl))
told_some catalog (Shows h) = (statuses.Accepted, holds_text catalog h, (refl, refl))

-- An input has at most one status and one text.
pub one_recheck : (bytes : List ℕ) (s r : Status) (t u : List ℕ) → IsRecheck bytes s t
    → IsRecheck bytes r u → (s ≡ r) × (t ≡ u)
one_recheck bytes s r t u a b =
    let catalog = objects_in (texts bytes) in
    let one : b.0 ≡ a.0 = checked_once bytes b.0 a.0 b.1 a.1 in
    told_once catalog a.0 s r t u a.2
    (subst (λ (f : Checked). IsCheckedTold catalog f r u) one b.2)

-- An input has a status and a text.
pub some_recheck : (bytes : List ℕ) → (s : Status) × (t : List ℕ) × IsRecheck bytes s t
some_recheck bytes =
    let lines = texts bytes in
    let v = read_some objects objects_lawful (reader_of lines) 1 Fresh lines in
    let f : Checked = checked (limit_fault (overrun usual_limits bytes)) (length lines) v.0 in
    let told = told_some (objects_in lines) f in
    (told.0, told.1, (f, (v.0, v.1, refl), told.2))

-- ---- what a certificate shows
shows_is : (h k : Shown (List Kind) (List ObjectState) Op) → Shows h ≡ Shows k → h ≡ k
shows_is h k e = cc

not_fault : (h : Shown (List Kind) (List ObjectState) Op) (n : ℕ) (cause : Cause)
    → Shows h ≡ Faulty n cause → ⊥
not_fault h n cause e = cc

not_refused : (h : Shown (List Kind) (List ObjectState) Op) (n : ℕ) (why : Refusal)
    → Shows h ≡ refused_at n why → ⊥
not_refused h n NotCertificate e = cc
not_refused h n (Gives id answer) e = cc
not_refused h n Position e = cc
not_refused h n (Pair first second) e = cc

not_either : (h : Shown (List Kind) (List ObjectState) Op) (b : Bool) (limit : ℕ × Cause) (n : ℕ)
    (why : Refusal) → Shows h ≡ cond b (Faulty limit.0 limit.1) (refused_at n why) → ⊥
not_either h true limit n why e = not_fault h limit.0 limit.1 e
not_either h false limit n why e = not_refused h n why e

-- What is shown is what the lines state.
shown_holds : (limit : Option (ℕ × Cause)) (count : ℕ) (v : Found)
    (h : Shown (List Kind) (List ObjectState) Op) → Shows h ≡ checked limit count v → v ≡ Holds h
shown_holds None count (Holds k) h e =
    ap (λ (x : Shown (List Kind) (List ObjectState) Op). Holds x) (sym (shows_is h k e))
shown_holds None count (Refused n why) h e = absurd (not_refused h n why e)
shown_holds (Some limit) count (Holds k) h e = absurd (not_fault h limit.0 limit.1 e)
shown_holds (Some limit) count (Refused n why) h e =
    absurd (not_either h (nat_lt count n) limit n why e)

-- What an accepted certificate shows is sound.
pub shows_sound : (bytes : List ℕ) (h : Shown (List Kind) (List ObjectState) Op)
    → IsChecked bytes (Shows h) → IsSoundOf bytes h
shows_sound bytes h a =
    let lines = texts bytes in
    let holds = shown_holds (limit_fault (overrun usual_limits bytes)) (length lines) a.0 h a.2 in
    let verdict : IsVerdictOf objects (reader_of lines) lines (Holds h) =
    subst (λ (v : Found). IsVerdictOf objects (reader_of lines) lines v) holds a.1 in (
      read_sound objects objects_lawful (reader_of lines) 1 Fresh lines h tt verdict,
      shows_own objects objects_lawful (reader_of lines) lines h verdict,
    )
