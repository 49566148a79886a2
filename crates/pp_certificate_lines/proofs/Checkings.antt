-- Proof machinery: one more line after the lines that were taken, and the end of a certificate.
use Rattle.std.proofs.Common.{◌≡◌, ◌+◌, ℕ, Bool, true, false, cond, List, [], ◌∷◌, ◌++◌, length}
use Rattle.std.proofs.Common.{Option, None, Some, IfSome, option_map, Result, Ok, Err, IfOk, refl, sym, ap, subst}
use Rattle.std.proofs.Common.{◌∙◌, arith, inl, append_assoc, append-nil}
use Rattle.std.proofs.lemmas.List.{length-append}
use Rattle.pp_core.specs.Catalogs.{Objects}
use Rattle.pp_core.specs.declared.answer.OutOfMemory.{OutOfMemory}
use Rattle.pp_core.specs.declared.call.Kind.{Kind}
use Rattle.pp_input.specs.Lines.{blank}
use Rattle.pp_objects.specs.Objects.{objects, kinds_of}
use Rattle.pp_objects.specs.declared.act.Op.{Op}
use Rattle.pp_objects.specs.declared.states.ObjectState.{ObjectState}
use Rattle.pp_certificate_checker.specs.declared.line.Line.{Line}
use Rattle.pp_certificate_checker.specs.declared.line.Line.TheVariants.{Blank, Head}
use Rattle.pp_certificate_checker.specs.declared.refusal.Refusal.{Refusal}
use Rattle.pp_certificate_checker.specs.declared.refusal.Refusal.TheVariants.{NotCertificate}
use Rattle.pp_certificate_checker.specs.declared.shown.Shown.{Shown}
use Rattle.pp_certificate_checker.specs.Certificates.{Stage, Fresh, Entered, Exchanged, Ended, Verdict, Holds}
use Rattle.pp_certificate_checker.specs.Certificates.{Refused, IsTaken, IsRead, IsVerdictOf, IsClosing}
use Rattle.pp_certificate_checker.specs.Certificates.{shown, shown_at}
use Rattle.pp_certificate_checker.specs.Checking.{ReadSoFar, Takes}
use Rattle.pp_certificate_checker.specs.Laws.{IsOver, Leads, ShowsAllowed}
use Rattle.pp_certificate_checker.proofs.Checked.{ok_is}
use Rattle.pp_certificate_checker.proofs.Over.{head_over, taken_over}
use Rattle.pp_certificate_checker.proofs.Read.{leads_on, read_on}
use Rattle.pp_certificate_lines.specs.Checkings.{line_in, read_in, Closes, Covers, CoversBlank}
use Rattle.pp_certificate_lines.specs.Checkings.{CoversNamed, LeadsOn, TakesLine}
use Rattle.pp_certificate_lines.specs.Reading.{first_line, line_of, objects_on, objects_in}
use Rattle.pp_certificate_lines.specs.Reading.{objects_named, reader, reader_of}
use Rattle.pp_certificate_lines.specs.declared.checking.Checking.{Checking}
use Rattle.pp_certificate_lines.specs.declared.checking.Checking.TheVariants.{Before, Within}
use Rattle.pp_certificate_lines.proofs.Naming.{shown_named}

abbrev So : Type 0
So = ReadSoFar (List Kind) Op

module _ (lines : List (List ℕ)) (line : List ℕ) where
  -- One more line was taken.
  one_more : (v w : So) → v.lines ≡ length lines → w.lines ≡ v.lines + 1
      → w.lines ≡ length (lines ++ line ∷ [])
  one_more v w count next = omega (arith, length-append lines (line ∷ []), count, next)

  -- The objects that the line and those after it name.
  behind : (more : List (List ℕ))
      → objects_in ((lines ++ line ∷ []) ++ more) ≡ objects_in (lines ++ line ∷ more)
  behind more = ap (λ (ls : List (List ℕ)). objects_in ls) (append_assoc lines (line ∷ []) more)

  -- ---- one more line after blank lines
  module _ (v : So) (cov : CoversBlank lines v) where
    -- The line is read as the first one, over any objects.
    as_first : (catalog : Objects) → reader catalog v.stage line ≡ line_in (Before v) line
    as_first catalog = ap (λ (s : Stage (List Kind) Op). reader catalog s line) cov.fresh

    first_taken : (catalog : Objects) (t : Stage (List Kind) Op)
        → IsTaken objects v.stage (line_in (Before v) line) (Ok t)
        → IsTaken objects v.stage (reader catalog v.stage line) (Ok t)
    first_taken catalog t h =
        subst (λ (l : Line (List Kind) Op). IsTaken objects v.stage l (Ok t))
        (sym (as_first catalog)) h

    -- After blank lines, one more blank line that is taken leaves only blank lines.
    pub blank_more : (w : So) → blank line ≡ true
        → Takes objects v (line_in (Before v) line) (Ok w) → CoversBlank (lines ++ line ∷ []) w
    blank_more w e h =
        let said : line_in (Before v) line ≡ Blank =
        ap (λ (b : Bool). cond b Blank (first_line line)) e in
        let stays : IsTaken objects v.stage Blank (Ok w.stage) =
        subst (λ (l : Line (List Kind) Op). IsTaken objects v.stage l (Ok w.stage)) said h.0 in
        record {
          unnamed = λ more. behind more ∙ cov.unnamed (line ∷ more)
              ∙ ap (λ (b : Bool). cond b (objects_in more) (objects_named (objects_on line))) e;
          leads = λ catalog. leads_on objects (reader catalog) line lines Fresh v.stage w.stage
              (cov.leads catalog) (first_taken catalog w.stage h.0);
          fresh = ok_is w.stage v.stage stays ∙ cov.fresh;
          count = one_more v w cov.count h.1;
        }

    -- The first line that is not blank, if it is taken, names the objects of the certificate.
    pub named_first : (catalog : Objects) (w : So) → blank line ≡ false
        → objects_on line ≡ Some catalog → Takes objects v (line_in (Before v) line) (Ok w)
        → CoversNamed (lines ++ line ∷ []) catalog w
    named_first catalog w e names h =
        let said : line_in (Before v) line ≡ Head (kinds_of catalog) =
        ap (λ (b : Bool). cond b Blank (first_line line)) e
        ∙ ap (λ (o : Option Objects). line_of (λ c. Head (kinds_of c)) o) names in
        let begins : IsTaken objects v.stage (Head (kinds_of catalog)) (Ok w.stage) =
        subst (λ (l : Line (List Kind) Op). IsTaken objects v.stage l (Ok w.stage)) said h.0 in
        let first : IsTaken objects Fresh (Head (kinds_of catalog)) (Ok w.stage) =
        subst (λ (s : Stage (List Kind) Op). IsTaken objects s (Head (kinds_of catalog))
        (Ok w.stage)) cov.fresh begins in
        record {
          named = λ more. behind more ∙ cov.unnamed (line ∷ more)
              ∙ ap (λ (b : Bool). cond b (objects_in more) (objects_named (objects_on line))) e
              ∙ ap (λ (o : Option Objects). objects_named o) names;
          leads = leads_on objects (reader catalog) line lines Fresh v.stage w.stage
              (cov.leads catalog) (first_taken catalog w.stage h.0);
          over = head_over objects (kinds_of catalog) w.stage first;
          count = one_more v w cov.count h.1;
        }

    -- If the first line that is not blank is refused, so is each input that begins so.
    pub first_refused : (why : Refusal)
        → IsTaken objects v.stage (line_in (Before v) line) (Err why)
        → (more : List (List ℕ)) → IsVerdictOf objects (reader_of (lines ++ line ∷ more))
        (lines ++ line ∷ more) (Refused (length lines + 1) why)
    first_refused why h more =
        let catalog = objects_in (lines ++ line ∷ more) in
        let verdict : Verdict (List Kind) (List ObjectState) Op = Refused (length lines + 1) why in
        let here : IsTaken objects v.stage (reader catalog v.stage line) (Err why) =
        subst (λ (l : Line (List Kind) Op). IsTaken objects v.stage l (Err why))
        (sym (as_first catalog)) h in
        read_on objects (reader catalog) (line ∷ more) verdict lines 1 Fresh v.stage
        (cov.leads catalog) (inl (why, here, ap (λ n. Refused n why) (omega arith)))

  -- ---- one more line after the first one
  module _ (catalog : Objects) (v : So) (cov : CoversNamed lines catalog v) where
    as_later : (s : Stage (List Kind) Op) → IsOver (kinds_of catalog) s
        → reader catalog s line ≡ line_in (Within catalog v) line
    as_later Fresh h = absurd h
    as_later (Entered kinds list) h = refl
    as_later (Exchanged kinds list count) h = refl
    as_later (Ended kinds list count n) h = refl

    -- If one more line after the first one is taken, the lines are of the same objects.
    pub later_more : (w : So) → Takes objects v (line_in (Within catalog v) line) (Ok w)
        → CoversNamed (lines ++ line ∷ []) catalog w
    later_more w h =
        let here : IsTaken objects v.stage (reader catalog v.stage line) (Ok w.stage) =
        subst (λ (l : Line (List Kind) Op). IsTaken objects v.stage l (Ok w.stage))
        (sym (as_later v.stage cov.over)) h.0 in
        record {
          named = λ more. behind more ∙ cov.named (line ∷ more);
          leads = leads_on objects (reader catalog) line lines Fresh v.stage w.stage cov.leads here;
          over = taken_over objects (kinds_of catalog) v.stage (line_in (Within catalog v) line)
              w.stage cov.over h.0;
          count = one_more v w cov.count h.1;
        }

    -- If a later line is refused, so is each input that begins with these lines.
    pub later_refused : (why : Refusal)
        → IsTaken objects v.stage (line_in (Within catalog v) line) (Err why)
        → (more : List (List ℕ)) → IsVerdictOf objects (reader_of (lines ++ line ∷ more))
        (lines ++ line ∷ more) (Refused (length lines + 1) why)
    later_refused why h more =
        let verdict : Verdict (List Kind) (List ObjectState) Op = Refused (length lines + 1) why in
        let here : IsTaken objects v.stage (reader catalog v.stage line) (Err why) =
        subst (λ (l : Line (List Kind) Op). IsTaken objects v.stage l (Err why))
        (sym (as_later v.stage cov.over)) h in
        subst
        (λ (os : Objects). IsVerdictOf objects (reader os) (lines ++ line ∷ more) verdict)
        (sym (cov.named (line ∷ more)))
        (read_on objects (reader catalog) (line ∷ more) verdict lines 1 Fresh v.stage cov.leads
        (inl (why, here, ap (λ n. Refused n why) (omega arith))))

-- ---- the lines that a checking took, with one more line
leads_next : (v : Checking) (line : List ℕ) (next : Result Checking Refusal)
    → TakesLine v line next → (lines : List (List ℕ)) → Covers lines v → LeadsOn lines line next
leads_next (Before v) line (Ok (Before w)) h lines cov =
    blank_more lines line v cov w h.1 h.0
leads_next (Before v) line (Ok (Within catalog w)) h lines cov =
    named_first lines line v cov catalog w h.1.0 h.1.1 h.0
leads_next (Within catalog v) line (Ok (Before w)) h lines cov = absurd h.1
leads_next (Within catalog v) line (Ok (Within names w)) h lines cov =
    subst (λ (os : Objects). CoversNamed (lines ++ line ∷ []) os w) (sym h.1)
    (later_more lines line catalog v cov w h.0)
leads_next (Before v) line (Err why) h lines cov = first_refused lines line v cov why h
leads_next (Within catalog v) line (Err why) h lines cov =
    later_refused lines line catalog v cov why h

-- A line that is taken leads on from all lines before it, and a refused one refuses the input.
pub text_leads : (v : Checking) (line : List ℕ)
    (r : Result (Result Checking Refusal) OutOfMemory) → IfOk r (λ next. TakesLine v line next)
    → IfOk r (λ next. (lines : List (List ℕ)) → Covers lines v → LeadsOn lines line next)
text_leads v line (Ok next) h = λ lines cov. leads_next v line next h lines cov
text_leads v line (Err refused) h = tt

-- ---- the end of the lines
module _ (lines : List (List ℕ)) where
  -- What the stage after all lines shows is the verdict on the lines.
  ends_with : (catalog : Objects) (s : Stage (List Kind) Op)
      (V : Verdict (List Kind) (List ObjectState) Op) → objects_in lines ≡ catalog
      → Leads objects (reader catalog) Fresh lines s
      → IsClosing (1 + length lines) (shown_at objects s) V
      → IsVerdictOf objects (reader_of lines) lines V
  ends_with catalog s V named leads closing =
      subst (λ (os : Objects). IsVerdictOf objects (reader os) lines V) (sym named)
      (subst (λ (ls : List (List ℕ)). IsRead objects (reader catalog) 1 Fresh ls V)
      (append-nil lines)
      (read_on objects (reader catalog) [] V lines 1 Fresh s leads closing))

  -- The objects that lines name if no line comes after them.
  pub named_here : (catalog : Objects) (v : So) → CoversNamed lines catalog v
      → objects_in lines ≡ catalog
  named_here catalog v cov =
      sym (ap (λ (ls : List (List ℕ)). objects_in ls) (append-nil lines)) ∙ cov.named []

  -- Lines that are taken have a verdict.
  pub covered_verdict : (now : Checking) → Covers lines now
      → (V : Verdict (List Kind) (List ObjectState) Op)
      → IsClosing (1 + length lines) (shown_at objects (read_in now).stage) V
      → IsVerdictOf objects (reader_of lines) lines V
  covered_verdict (Before v) cov V closing =
      ends_with (objects_in lines) v.stage V refl (cov.leads (objects_in lines)) closing
  covered_verdict (Within catalog v) cov V closing =
      ends_with catalog v.stage V (named_here catalog v cov) cov.leads closing

  -- An input of blank lines alone is refused at its end, as no certificate.
  pub blank_closes : (v : So) → CoversBlank lines v → Closes lines None
  blank_closes v cov =
      let none : shown_at objects v.stage ≡ None =
      ap (λ (s : Stage (List Kind) Op). shown_at objects s) cov.fresh in
      let end : ◌≡◌ {A = Verdict (List Kind) (List ObjectState) Op}
      (Refused (length lines + 1) NotCertificate) (Refused (1 + length lines) NotCertificate) =
      ap (λ n. Refused n NotCertificate) (omega arith) in
      covered_verdict (Before v) cov (Refused (length lines + 1) NotCertificate)
      (subst (λ (h : Option (Shown (List Kind) (List ObjectState) Op)).
      IsClosing (1 + length lines) h (Refused (length lines + 1) NotCertificate)) (sym none) end)

  shown_over : (kinds : List Kind) (s : Stage (List Kind) Op)
      (h : Shown (List Kind) (List ObjectState) Op) → IsOver kinds s
      → Some h ≡ shown_at objects s → h.shape ≡ kinds
  shown_over kinds Fresh h over e = absurd over
  shown_over kinds (Entered over list) h o e = absurd (cc)
  shown_over kinds (Exchanged over list count) h o e = absurd (cc)
  shown_over kinds (Ended over list count n) h o e =
      let is : h ≡ shown objects over list count n = cc in
      ap (λ (x : Shown (List Kind) (List ObjectState) Op). x.shape) is ∙ o

  -- An input that named its objects ends with what its stage shows, if it shows something.
  pub named_closes : (catalog : Objects) (v : So)
      (found : Option (Shown (List Kind) (List ObjectState) Op))
      → found ≡ shown_at objects v.stage
      → IfSome found (ShowsAllowed objects) → CoversNamed lines catalog v
      → Closes lines (option_map (λ h. (catalog, h)) found)
  named_closes catalog v None e allowed cov =
      let end : ◌≡◌ {A = Verdict (List Kind) (List ObjectState) Op}
      (Refused (length lines + 1) NotCertificate) (Refused (1 + length lines) NotCertificate) =
      ap (λ n. Refused n NotCertificate) (omega arith) in
      covered_verdict (Within catalog v) cov (Refused (length lines + 1) NotCertificate)
      (subst (λ (h : Option (Shown (List Kind) (List ObjectState) Op)).
      IsClosing (1 + length lines) h (Refused (length lines + 1) NotCertificate)) e end)
  named_closes catalog v (Some h) e allowed cov =
      let over = shown_over (kinds_of catalog) v.stage h cov.over e in (
        covered_verdict (Within catalog v) cov (Holds h)
            (subst (λ (g : Option (Shown (List Kind) (List ObjectState) Op)).
            IsClosing (1 + length lines) g (Holds h)) e refl),
        named_here catalog v cov,
        shown_named catalog h over allowed,
        allowed,
      )
