-- Proof machinery: `recheck` accepts what `swaps` writes.
use Rattle.std.proofs.Common.{◌≡◌, ◌≤◌, ◌+◌, ℕ, nat_le, IsTrue, List, [], ◌∷◌, ◌++◌, map, length, Option, None, Some}
use Rattle.std.proofs.Common.{refl, sym, ap, subst, ◌∙◌, arith, inl, inr, le-leb}
use Rattle.std.proofs.lemmas.Bool.{and_from, and_parts}
use Rattle.std.proofs.lemmas.Bool.Decides.{nat_tests}
use Rattle.std.proofs.lemmas.Grind.{flat_map-append}
use Rattle.std.proofs.lemmas.List.{length-map}
use Rattle.std.specs.Io.KnownBytes.{Appends}
use Rattle.std.specs.List.{flat_map}
use Rattle.pp_core.specs.Catalogs.{Objects}
use Rattle.pp_core.specs.declared.entry.CommittedTx.{CommittedTx}
use Rattle.pp_core.specs.declared.status.Status.{Status}
use Rattle.pp_core.specs.declared.status.Status.TheVariants as statuses
use Rattle.pp_records.specs.Runs.{bare}
use Rattle.pp_input.specs.Joined.{AreAllowed, AreLines}
use Rattle.pp_input.specs.Limits.{usual_limits}
use Rattle.pp_input.specs.Lines.{NumberedLine, numbered_from}
use Rattle.pp_input.specs.Overruns.{overrun}
use Rattle.pp_input.proofs.Joined as joining
use Rattle.pp_input.specs.declared.fault.LineFault.{LineFault}
use Rattle.pp_format_read.specs.declared.header.Header.{Header}
use Rattle.pp_format_read.specs.declared.start.Start.{Start as HeaderStart}
use Rattle.pp_format_write.specs.Statable.{CanStart, IsId, IsOpOn, IsStatable, IsStatableRun}
use Rattle.pp_model.specs.Config.{Config, SharedEntry, Step, Begin, App, Unapp, Push, Unpush}
use Rattle.pp_model.specs.Config.{Pull, Unpull, Cmt, Quit, Note, after, first, shared_item}
use Rattle.pp_model.specs.Lists.{Each, In}
use Rattle.pp_model.specs.Object.{Item, state}
use Rattle.pp_model.specs.Serial.{attempts, committed_tx, serial}
use Rattle.pp_model.specs.Sound.{Sound, serial_items, serial_ops}
use Rattle.pp_model.proofs.Begin.{start_sound}
use Rattle.pp_model.proofs.Keeps.{run_keeps}
use Rattle.pp_model.proofs.Simulate.{finished_are}
use Rattle.pp_model.proofs.Lengths.{serial_fits}
use Rattle.pp_objects.specs.Objects.{kinds_of, objects}
use Rattle.pp_objects.specs.declared.act.Op.{Op}
use Rattle.pp_objects.specs.declared.states.ObjectState.{ObjectState}
use Rattle.pp_objects.specs.laws.Objects.{objects_lawful}
use Rattle.pp_report.specs.Reports.{accepted_text}
use Rattle.pp_kind.specs.Object.{state_after}
use Rattle.pp_certificate_exchanges.specs.Exchanges.{Inverted, Permutes, inverted, route}
use Rattle.pp_certificate_exchanges.specs.Laws.{log_of, target_of}
use Rattle.pp_certificate_exchanges.proofs.Routes.{length_route, route_each}
use Rattle.pp_certificate_exchanges.proofs.Targets.{log_fits, targets}
use Rattle.pp_input_reader.specs.Limits.{limit_fault}
use Rattle.pp_certificate_checker.specs.Certificates.{Holds, IsVerdictOf}
use Rattle.pp_certificate_checker.proofs.Rows.{positions_within}
use Rattle.pp_text.specs.Lines.{op_line}
use Rattle.pp_certificate_lines.specs.Laws.{can_state, lines_of}
use Rattle.pp_certificate_lines.specs.Reading.{objects_in, reader_of}
use Rattle.pp_certificate_lines.specs.Rechecked.{IsChecked, IsRecheck, Shows, checked, holds_text, texts}
use Rattle.pp_certificate_lines.proofs.Accepted.{accepted}
use Rattle.pp_certificate_lines.proofs.Back.{named}
use Rattle.pp_judge.specs.Accepted.{HasRun}
use Rattle.pp_judge.specs.Inputs.{IsFaultOf, scan}
use Rattle.pp_judge.specs.Objects.{object_of, start_of}
use Rattle.pp_judge.specs.Reports.{IsCertified}
use Rattle.pp_judge.specs.Scans.{InputScan}
use Rattle.pp_judge.proofs.Concluding.{only_run, serial_is}
use Rattle.pp_judge.proofs.Restated.{is_restated}
use Rattle.pp_cmd_swaps.specs.Logs.{AppliesOnly, ArePlain, start_items}
use Rattle.pp_cmd_swaps.specs.Prints.{IsCertificateOf, PrintsCertificate, shown_in}
use Rattle.pp_cmd_swaps.specs.Swaps.{IsSwaps, IsSwapsOf, IsTold, certificate_text, config_of}
use Rattle.pp_cmd_swaps.proofs.Accepting.{IsAcceptedRun, accepted_run}
use Rattle.pp_cmd_swaps.proofs.Lengths.{certificate_allowed, certificate_lines}
use Rattle.pp_cmd_swaps.proofs.Logs.{applied, half}

-- ---- each entry can be stated

can_be : (catalog : Objects) (p : Item Op) → IsId p.id → IsOpOn catalog p.op → IsTrue (can_state p)
can_be catalog p small on = and_from (nat_le p.id 999_999_999) (objects.ranged p.op) (le-leb p.id 999_999_999 small) on.1

small_id : (p : Item Op) → IsTrue (can_state p) → IsId p.id
small_id p h =
    let parts = and_parts (nat_le p.id 999_999_999) (objects.ranged p.op) h in
    grind (arith, nat_tests)

applies : (catalog : Objects) (s : Step Op) → IsStatable catalog s → AppliesOnly can_state s
applies catalog (Begin t p b) h = tt
applies catalog (App t id op) h = can_be catalog (record { id = id; op = op }) h.1 h.2
applies catalog (Unapp t id) h = tt
applies catalog (Push t id) h = tt
applies catalog (Unpush t id) h = tt
applies catalog (Pull t id) h = tt
applies catalog (Unpull t id) h = tt
applies catalog (Cmt t) h = tt
applies catalog (Quit t) h = tt
applies catalog (Note t) h = tt

all_apply : (catalog : Objects) (ss : List (Step Op)) → Each (IsStatable catalog) ss → Each (AppliesOnly can_state) ss
all_apply catalog [] h = tt
all_apply catalog (s ∷ ss) h = (applies catalog s h.0, all_apply catalog ss h.1)

items_plain : (catalog : Objects) (items : List (Item Op)) → Each (λ p. IsId p.id × IsOpOn catalog p.op) items → ArePlain can_state items
items_plain catalog [] h = tt
items_plain catalog (p ∷ ps) h = (can_be catalog p h.0.0 h.0.1, items_plain catalog ps h.1)

module _ (header : Header) where
  start_plain : (o : Option HeaderStart) → CanStart header.catalog o → ArePlain can_state (start_items (start_of (record header { start = o })))
  start_plain None h = tt
  start_plain (Some z) h = items_plain header.catalog z.ops h.each

  start_few : (o : Option HeaderStart) → CanStart header.catalog o → length (start_items (start_of (record header { start = o }))) ≤ 256
  start_few None h = omega arith
  start_few (Some z) h = h.few

as_items : (G : List (SharedEntry Op)) → Each (λ g. IsTrue (can_state (shared_item g))) G → Each (λ p. IsTrue (can_state p)) (map shared_item G)
as_items [] h = tt
as_items (g ∷ G) h = (h.0, as_items G h.1)

-- ---- the lines of joined lines

lines_again : (n : ℕ) (lines : List (List ℕ)) → map (λ (l : NumberedLine). l.1) (numbered_from n lines) ≡ lines
lines_again n [] = refl
lines_again n (l ∷ ls) = ap (λ (rest : List (List ℕ)). l ∷ rest) (lines_again (n + 1) ls)

-- ---- the lines of the operations of committed transactions

lines_of_txs : (f : Item Op → List ℕ) (D : List (CommittedTx Op)) → flat_map f (serial_items D) ≡ flat_map (λ (tx : CommittedTx Op). flat_map f tx.entries) D
lines_of_txs f [] = refl
lines_of_txs f (d ∷ D) =
    flat_map-append f d.entries (serial_items D) ∙ ap (λ (l : List ℕ). flat_map f d.entries ++ l) (lines_of_txs f D)

-- ---- an accepted run

module _ (bytes report : List ℕ) (sound : IsFaultOf (scan bytes) None) (own : HasRun (scan bytes)) (run : IsAcceptedRun own report) where
  abbrev header : Header
  header = own.header.what

  abbrev catalog : Objects
  catalog = header.catalog

  abbrev steps : List (Step Op)
  steps = bare own.run

  abbrev c : Config Op
  c = config_of own

  abbrev G : List (Item Op)
  G = log_of c

  abbrev T : List (Item Op)
  T = target_of c

  abbrev n : ℕ
  n = length (serial_items c.done)

  abbrev lines : List (List ℕ)
  lines = lines_of catalog c

  abbrev text : List ℕ
  text = certificate_text catalog c

  statable : IsStatableRun catalog header.start steps
  statable = (is_restated bytes own.header own.run (record { sound = sound; headed = own.first_line; is = own.steps })).statable

  sound_config : Sound (object_of header) c
  sound_config = run_keeps (object_of header) steps (first (start_of header)) (start_sound (object_of header) (start_of header) run.begun) run.hold

  each_plain : Each (λ p. IsTrue (can_state p)) G
  each_plain = as_items c.shared (applied can_state (start_of header) steps (start_plain header header.start statable.begun) (all_apply catalog steps statable.each))

  -- At most half of 200,000 entries, and those of the start.
  few : length G ≤ 100_256
  few =
      let most = statable.few in
      omega (arith, most, half (object_of header) (start_of header) steps run.begun run.hold, start_few header header.start statable.begun, length-map c.shared (shared_item {Op = Op}))

  verdict : IsVerdictOf objects (reader_of lines) lines (Holds (shown_in catalog c))
  verdict = accepted catalog c statable.over sound_config (omega (arith, few)) each_plain

  permutes : Permutes G T
  permutes = (targets objects objects_lawful).permutes (kinds_of catalog) c sound_config

  small_positions : Each (λ i. i ≤ 999_999_999) (route G T)
  small_positions = positions_within (Inverted G T) G (route G T) (omega (arith, few)) (route_each G T permutes (Inverted G T) (λ p q i. i))

  stated : Each (λ p. IsId p.id × IsOpOn catalog p.op) G
  stated = go G each_plain (log_fits objects objects_lawful (kinds_of catalog) c sound_config)
    where
      go : (items : List (Item Op)) → Each (λ p. IsTrue (can_state p)) items → ((p : Item Op) → In p items → IsTrue (objects.fits (kinds_of catalog) p.op)) → Each (λ p. IsId p.id × IsOpOn catalog p.op) items
      go [] h f = tt
      go (p ∷ ps) h f = ((small_id p h.0, (f p (inl refl), (and_parts (nat_le p.id 999_999_999) (objects.ranged p.op) h.0).1)), go ps h.1 (λ q i. f q (inr i)))

  small_number : n ≤ 999_999_999
  small_number =
      omega (
        arith,
        few,
        serial_fits (object_of header) c sound_config,
        length-map (serial_items c.done) (λ (p : Item Op). p.op),
        length-map c.shared (shared_item {Op = Op}),
      )

  module _ (swaps : inverted G T ≤ 1_000_000) where
    text_lines : AreLines lines
    text_lines = certificate_lines catalog statable.over G (route G T) n stated small_positions small_number

    text_allowed : AreAllowed usual_limits lines
    text_allowed =
        certificate_allowed catalog statable.over G (route G T) n stated small_positions small_number (omega (arith, few))
        (omega (arith, swaps, length_route G T permutes))

    no_limit : overrun usual_limits text ≡ None
    no_limit = joining.allowed usual_limits lines text_lines text_allowed

    read_lines : texts text ≡ lines
    read_lines = ap (λ (ls : List NumberedLine). map (λ (l : NumberedLine). l.1) ls) (joining.scanned usual_limits lines text_lines text_allowed) ∙ lines_again 1 lines

    is_checked : IsChecked text (Shows (shown_in catalog c))
    is_checked = (
      Holds (shown_in catalog c),
      subst (λ (ls : List (List ℕ)). IsVerdictOf objects (reader_of ls) ls (Holds (shown_in catalog c))) (sym read_lines) verdict,
      ap (λ (o : Option LineFault). checked (limit_fault o) (length (texts text)) (Holds (shown_in catalog c))) (sym no_limit),
    )

    same_objects : objects_in (texts text) ≡ catalog
    same_objects = ap objects_in read_lines ∙ named catalog c statable.over

    is_rechecked : IsRecheck text statuses.Accepted (holds_text catalog (shown_in catalog c))
    is_rechecked = (Shows (shown_in catalog c), is_checked, (refl, ap (λ (os : Objects). holds_text os (shown_in catalog c)) (sym same_objects)))

  -- The report, from the configuration.
  done_are : c.done ≡ map committed_tx (attempts (start_of header) steps)
  done_are = finished_are (object_of header) (start_of header) steps run.begun run.hold

  report_is : report ≡ accepted_text catalog (length own.run) c.done (shown_in catalog c).state
  report_is =
      let as' = attempts (start_of header) steps in
      let kinds = kinds_of catalog in
      let final : state_after objects kinds (serial_ops c.done) ≡ state (object_of header) (serial as') =
      ap (λ (D : List (CommittedTx Op)). state_after objects kinds (serial_ops D)) done_are ∙ ap (λ (l : List Op). state_after objects kinds l) (serial_is as') in
      run.text_is ∙ ap (λ (D : List (CommittedTx Op)). accepted_text catalog (length own.run) D (state (object_of header) (serial as'))) (sym done_are)
      ∙ ap (λ (s : List ObjectState). accepted_text catalog (length own.run) c.done s) (sym final)

-- ---- what `swaps` writes if it accepts

-- The input is certified as accepted, and this is the certificate of every run of the input.
told_of : (sc : InputScan) (how : Status) (report text : List ℕ) → IsSwapsOf sc how report statuses.Accepted text
    → (how ≡ statuses.Accepted) × ((r : HasRun sc) × IsTold r.header.what.catalog (config_of r) statuses.Accepted text)
told_of sc statuses.Accepted report text h = (refl, h)
told_of sc statuses.Rejected report text h = absurd (let e : statuses.Accepted ≡ statuses.Rejected = h.0 in cc)
told_of sc statuses.InputFault report text h = absurd (let e : statuses.Accepted ≡ statuses.InputFault = h.0 in cc)
told_of sc statuses.BadWords report text h = absurd h
told_of sc statuses.ReadFault report text h = absurd h
told_of sc statuses.WriteFault report text h = absurd h
told_of sc statuses.OutOfMemory report text h = absurd h
told_of sc statuses.TooLarge report text h = absurd h

small_of : (catalog : Objects) (c : Config Op) (text : List ℕ) → IsTold catalog c statuses.Accepted text → (inverted (log_of c) (target_of c) ≤ 1_000_000) × (text ≡ certificate_text catalog c)
small_of catalog c text (inl small) = (small.0, small.2)
small_of catalog c text (inr large) = absurd (let e : statuses.Accepted ≡ statuses.TooLarge = large.1 in cc)

-- The text that `swaps` writes of an accepted input is its certificate, which `recheck` accepts with the same operations and states.
pub certified : (bytes text : List ℕ) → IsSwaps bytes statuses.Accepted text → IsCertificateOf bytes text
certified bytes text (how, report, is, swaps) =
    let told = told_of (scan bytes) how report text swaps in
    let accepts : IsCertified bytes statuses.Accepted report = subst (λ (s : Status). IsCertified bytes s report) told.0 is in
    let a = accepted_run bytes report accepts in
    let own : HasRun (scan bytes) = a.1.0 in
    let here : IsTold own.header.what.catalog (config_of own) statuses.Accepted text =
    only_run (scan bytes) told.1.0 own (λ head run. IsTold head.what.catalog (after (start_of head.what) (bare run)) statuses.Accepted text) told.1.1 in
    let small = small_of own.header.what.catalog (config_of own) text here in
    record {
      run = own;
      written = small.1;
      rechecked =
          subst (λ (t : List ℕ). IsRecheck t statuses.Accepted (holds_text own.header.what.catalog (shown_in own.header.what.catalog (config_of own)))) (sym small.1)
          (is_rechecked bytes report a.0 own a.1.1 small.0);
      certified = subst (λ (t : List ℕ). IsCertified bytes statuses.Accepted t) (report_is bytes report a.0 own a.1.1) accepts;
      same_ops = lines_of_txs (op_line own.header.what.catalog) (config_of own).done;
    }

-- What `swaps` prints for an accepted input is its certificate.
pub prints_certificate : (bytes text : List ℕ) (old new : Option (List ℕ)) → IsSwaps bytes statuses.Accepted text → Appends old new text → PrintsCertificate bytes old new
prints_certificate bytes text old new is written = (text, written, certified bytes text is)
