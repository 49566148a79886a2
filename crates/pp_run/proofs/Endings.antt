-- What a call of `run` promises, for each way in which it ends.
use Rattle.std.specs.Prelude.{◌≡◌, ◌≤◌, ◌⊎◌, ℕ, List, [], Option, None, Some}
use Rattle.std.specs.Io.KnownBytes.{Appends, IsAtEnd}
use Rattle.std.proofs.Common.{arith, inl, inr, refl, subst, sym}
use Rattle.std.proofs.KnownBytes.{Appends-nil}
use Rattle.pp_core.specs.declared.status.Status.{Status}
use Rattle.pp_core.specs.declared.status.Status.TheVariants as statuses
use Rattle.pp_input.specs.Faults.{HasRisen, counted}
use Rattle.pp_input_reader.specs.Sources.{WhereTold}
use Rattle.pp_certificate_lines.specs.Rechecked.{IsCheckedSound}
use Rattle.pp_judge.specs.Certified.{IsDecided}
use Rattle.pp_judge.specs.Inputs.{scan}
use Rattle.pp_judge.specs.Rejected.{IsEvident}
use Rattle.pp_cmd_judge.specs.Inputs.{judge_scan}
use Rattle.pp_cmd_judge.specs.Judgements.{IsJudgedEvident}
use Rattle.pp_cmd_drill.specs.Prints.{PrintsLines}
use Rattle.pp_cmd_opaque.specs.Meanings.{MeetsAll}
use Rattle.pp_run.specs.declared.words.Command.{Command}
use Rattle.pp_run.specs.declared.words.Command.TheVariants.{Certify, Drill, Expand, Focus, Judge, Opaque, Quick, Recheck, Swaps, Views}
use Rattle.pp_run.specs.Bounds.{RisesAtLeast, RisesAtMost}
use Rattle.pp_run.specs.Outcomes.{outcome}
use Rattle.pp_run.specs.Outputs.{IsOfWhole, IsOutput, IsPrinted, MayBeCutShort, IsVerdictOrSize, OfInput}
use Rattle.pp_run.specs.Outputs.{PrintsPrefix, PrintsPrefixOnly, ReadsSound}
use Rattle.pp_run.specs.Runs.{RunPromise}
use Rattle.pp_run.specs.Streams.{Counts}
use Rattle.pp_run.specs.Words.{DrivesMachine, Reads, TellsSize}
use Rattle.pp_run.specs.Writing.{AppendsPrefix, FlushesOnceAtMost}
use Rattle.pp_run.proofs.Performing.{no_verdict_no_least}
use Rattle.pp_run.proofs.Printing.{prints, prints_only, prints_prefix, prints_prefix_only}
use Rattle.pp_run.proofs.Promising.{decided_printed, promised}

-- ---- statuses

-- a verdict is printed, and so is that the output is above a limit
verdict_printed : (s : Status) → IsVerdictOrSize s → IsPrinted s
verdict_printed s (inl decided) = decided_printed s decided
verdict_printed s (inr large) = subst IsPrinted (sym large) tt

-- the status of a report is printed
report_printed : (s : Status) → IsVerdictOrSize s ⊎ (s ≡ statuses.InputFault) → IsPrinted s
report_printed s (inl verdict) = verdict_printed s verdict
report_printed s (inr fault) = subst IsPrinted (sym fault) tt

-- The status of a report is not that of bad arguments.
report_has_words : (s : Status) → IsVerdictOrSize s ⊎ (s ≡ statuses.InputFault) → s ≡ statuses.BadWords → ⊥
report_has_words s (inl (inl decided)) bad = subst IsDecided bad decided
report_has_words s (inl (inr large)) bad = let no : statuses.BadWords ≡ statuses.TooLarge = cc in cc
report_has_words s (inr fault) bad = let no : statuses.BadWords ≡ statuses.InputFault = cc in cc

-- a result about the whole input is a verdict, or says that the output is above a limit
whole_verdict : (o : Option Command) (s : Status) → IsOfWhole o s → IsVerdictOrSize s
whole_verdict None s whole = absurd whole
whole_verdict (Some Certify) s whole = inl whole
whole_verdict (Some Expand) s whole = inl whole
whole_verdict (Some Judge) s whole = inl whole
whole_verdict (Some Quick) s whole = inl whole
whole_verdict (Some Swaps) s whole = whole
whole_verdict (Some Recheck) s whole = inl (subst IsDecided (sym whole) tt)
whole_verdict (Some Views) s whole = whole
whole_verdict (Some Opaque) s whole = inl whole
whole_verdict (Some (Drill n)) s whole = absurd whole
whole_verdict (Some (Focus name)) s whole = inl (subst IsDecided (sym whole) tt)

printed_written : (s : Status) → IsPrinted s → MayBeCutShort s → ⊥
printed_written statuses.Accepted printed unwritten = unwritten
printed_written statuses.Rejected printed unwritten = unwritten
printed_written statuses.BadWords printed unwritten = unwritten
printed_written statuses.InputFault printed unwritten = unwritten
printed_written statuses.ReadFault printed unwritten = unwritten
printed_written statuses.WriteFault printed unwritten = printed
printed_written statuses.OutOfMemory printed unwritten = printed
printed_written statuses.TooLarge printed unwritten = unwritten

is_command : (k : Command) → Some k ≡ None → ⊥
is_command k e = let no : Some k ≡ None = e in cc

-- ---- a sink that is as it was

of_all : (o : Option Command) (left : Option (List ℕ)) (P : List ℕ → Type 0) → ((bytes : List ℕ) → P bytes) → OfInput o left P
of_all None left P f = f []
of_all (Some Certify) left P f = λ bytes is. f bytes
of_all (Some Expand) left P f = λ bytes is. f bytes
of_all (Some Judge) left P f = λ bytes is. f bytes
of_all (Some Quick) left P f = λ bytes is. f bytes
of_all (Some Swaps) left P f = λ bytes is. f bytes
of_all (Some Recheck) left P f = λ bytes is. f bytes
of_all (Some Views) left P f = λ bytes is. f bytes
of_all (Some Opaque) left P f = λ bytes is. f bytes
of_all (Some (Drill n)) left P f = f []
of_all (Some (Focus name)) left P f = λ bytes is. f bytes

-- The sink holds a prefix of each output.
nothing_printed : (o : Option Command) (left held : Option (List ℕ)) → OfInput o left (λ bytes. PrintsPrefixOnly o bytes held held)
nothing_printed o left held = of_all o left (λ bytes. PrintsPrefixOnly o bytes held held) (λ bytes status text output. (0, omega arith, Appends-nil held))

-- ---- what `perform` ensures

-- What `perform` ensures about the source and the counter, whatever it returns.
pub record Performs (SameSource : Type 0) (k : Command) (input : Option (List ℕ)) (before after : ℕ) (n : Counts) : Type 0 where
  pub untouched : ¬ Reads (Some k) → SameSource
  pub count : n.failed_reads_before ≤ n.failed_reads
  pub most : RisesAtMost (Some k) input before after
  pub lines : (m : ℕ) → Some k ≡ Some (Drill m) → PrintsLines m

-- What `perform` ensures about the status and the text that it returns.
pub record Reports (k : Command) (input rest : Option (List ℕ)) (before after : ℕ) (s : Status) (text : List ℕ) : Type 0 where
  pub output : OfInput (Some k) input (λ bytes. IsOutput (Some k) bytes s text)
  pub status : IsVerdictOrSize s ⊎ (s ≡ statuses.InputFault)
  pub size : s ≡ statuses.TooLarge → TellsSize (Some k)
  pub whole : IsOfWhole (Some k) s → IsAtEnd rest
  pub shown : DrivesMachine (Some k) → s ≡ statuses.Rejected → WhereTold input (λ bytes. IsEvident (scan bytes))
  pub opaque : k ≡ Opaque → s ≡ statuses.Rejected → WhereTold input (λ bytes. IsEvident (scan bytes) ⊎ MeetsAll bytes)
  pub judged : k ≡ Judge → s ≡ statuses.Rejected → WhereTold input (λ bytes. IsJudgedEvident (judge_scan bytes))
  pub checked : k ≡ Recheck → s ≡ statuses.Accepted → WhereTold input (λ bytes. IsCheckedSound bytes)
  pub least : RisesAtLeast (Some k) input s before after

-- ---- the promise

module _ (SameSource SameSink : Type 0) (input rest held holds : Option (List ℕ)) (before after : ℕ) (n : Counts) where
  abbrev Promises : Option Command → Status → Type 0
  Promises o s = RunPromise SameSource SameSink o (outcome input rest held holds s before after) n

  -- the arguments are no command
  pub no_command : SameSource → SameSink → n.failed_reads ≡ n.failed_reads_before → n.failed_writes ≡ n.failed_writes_before → n.flushes ≡ n.flushes_before → after ≡ before → Promises None statuses.BadWords
  no_command source sink reads writes flushes ticks = record {
    streams = record {
      faultless = λ printed. (reads, writes);
      flushed = λ printed other. absurd (other refl);
      once = inl flushes;
      bad_words = (λ e. refl, λ e. refl);
      source_untouched = λ none. source;
      sink_untouched = λ e. sink;
      whole = λ whole. absurd whole;
      size = λ e. absurd (let no : statuses.BadWords ≡ statuses.TooLarge = e in cc);
      read_fault = λ e. absurd (let no : statuses.BadWords ≡ statuses.ReadFault = e in cc);
      reading = λ e. absurd (let no : statuses.BadWords ≡ statuses.ReadFault = e in cc);
      write_fault = λ e. absurd (let no : statuses.BadWords ≡ statuses.WriteFault = e in cc);
      written = λ e. absurd (let no : statuses.BadWords ≡ statuses.WriteFault = e in cc);
      refused = λ e. absurd (let no : statuses.BadWords ≡ statuses.OutOfMemory = e in cc);
      prefix = λ unwritten. absurd unwritten;
      reads = omega (arith, reads);
      writes = omega (arith, writes);
      complete = λ reads writes. inr tt;
      no_input = λ none writes. inr tt;
      free = λ none. ticks;
    };
    command = tt;
  }

  module _ (k : Command) (p : Performs SameSource k input before after n) where
    -- the output was written and flushed
    pub printed : (s : Status) (text : List ℕ) → Reports k input rest before after s text → n.failed_reads ≡ n.failed_reads_before → n.failed_writes ≡ n.failed_writes_before
        → Appends held holds text → n.flushes ≡ counted n.flushes_before → Promises (Some k) s
    printed s text r reads writes written flushed =
        let shown : IsPrinted s = report_printed s r.status in
        record {
          streams = record {
            faultless = λ printed. (reads, writes);
            flushed = λ printed other. flushed;
            once = inr flushed;
            bad_words = (λ e. absurd (report_has_words s r.status e), λ e. absurd (is_command k e));
            source_untouched = p.untouched;
            sink_untouched = λ e. absurd (report_has_words s r.status e);
            whole = r.whole;
            size = r.size;
            read_fault = λ e. absurd (subst IsPrinted e shown);
            reading = λ e. absurd (subst IsPrinted e shown);
            write_fault = λ e. absurd (subst IsPrinted e shown);
            written = λ e. absurd (subst IsPrinted e shown);
            refused = λ e. absurd (subst IsPrinted e shown);
            prefix = λ unwritten. absurd (printed_written s shown unwritten);
            reads = p.count;
            writes = omega (arith, writes);
            complete = λ reads writes. inr shown;
            no_input = λ none writes. inr shown;
            free = λ e. absurd (is_command k e);
          };
          command = promised (Some k) (outcome input rest held holds s before after) record {
            output = λ printed. prints (Some k) k refl input held holds s text r.output written;
            only = λ printed. prints_only (Some k) k refl input held holds s text r.output written;
            shown = r.shown;
            opaque = λ opaque. r.opaque (cc);
            judged = λ judge. r.judged (cc);
            checked = λ recheck. r.checked (cc);
            most = p.most;
            least = r.least;
            lines = p.lines;
          };
        }

    -- no output was printed
    unprinted : (s : Status) → (IsPrinted s → ⊥) → FlushesOnceAtMost n.flushes_before n.flushes → n.failed_writes_before ≤ n.failed_writes
        → (s ≡ statuses.ReadFault → HasRisen n.failed_reads_before n.failed_reads × SameSink × ReadsSound (Some k) input rest) → (s ≡ statuses.ReadFault → Reads (Some k))
        → (s ≡ statuses.WriteFault → HasRisen n.failed_writes_before n.failed_writes) → (s ≡ statuses.WriteFault → OfInput (Some k) input (λ bytes. PrintsPrefix (Some k) bytes held holds))
        → (s ≡ statuses.OutOfMemory → SameSink ⊎ (HasRisen n.refusals_before n.refusals × OfInput (Some k) input (λ bytes. PrintsPrefix (Some k) bytes held holds)))
        → (MayBeCutShort s → OfInput (Some k) input (λ bytes. PrintsPrefixOnly (Some k) bytes held holds))
        → (¬ HasRisen n.failed_reads_before n.failed_reads → ¬ HasRisen n.failed_writes_before n.failed_writes → (s ≡ statuses.OutOfMemory) ⊎ IsPrinted s)
        → (¬ Reads (Some k) → ¬ HasRisen n.failed_writes_before n.failed_writes → (s ≡ statuses.OutOfMemory) ⊎ IsPrinted s) → Promises (Some k) s
    unprinted s none once writes read_fault reading write_fault written refused prefix complete no_input =
        let no_bad_words : s ≡ statuses.BadWords → ⊥ = λ e. none (subst IsPrinted (sym e) tt) in
        record {
          streams = record {
            faultless = λ printed. absurd (none printed);
            flushed = λ printed other. absurd (none printed);
            once = once;
            bad_words = (λ e. absurd (no_bad_words e), λ e. absurd (is_command k e));
            source_untouched = p.untouched;
            sink_untouched = λ e. absurd (no_bad_words e);
            whole = λ whole. absurd (none (verdict_printed s (whole_verdict (Some k) s whole)));
            size = λ e. absurd (none (subst IsPrinted (sym e) tt));
            read_fault = read_fault;
            reading = reading;
            write_fault = write_fault;
            written = written;
            refused = refused;
            prefix = prefix;
            reads = p.count;
            writes = writes;
            complete = complete;
            no_input = no_input;
            free = λ e. absurd (is_command k e);
          };
          command = promised (Some k) (outcome input rest held holds s before after) record {
            output = λ printed. absurd (none printed);
            only = λ printed. absurd (none printed);
            shown = λ drives e. absurd (none (subst IsPrinted (sym e) tt));
            opaque = λ opaque e. absurd (none (subst IsPrinted (sym e) tt));
            judged = λ judge e. absurd (none (subst IsPrinted (sym e) tt));
            checked = λ recheck e. absurd (none (subst IsPrinted (sym e) tt));
            most = p.most;
            least = no_verdict_no_least (Some k) input s before after (λ decided. none (decided_printed s decided));
            lines = p.lines;
          };
        }

    -- a read failed
    pub read_failed : SameSink → Reads (Some k) → HasRisen n.failed_reads_before n.failed_reads → ReadsSound (Some k) input rest → n.failed_writes ≡ n.failed_writes_before → n.flushes ≡ n.flushes_before
        → Promises (Some k) statuses.ReadFault
    read_failed sink reads risen sound writes flushes =
        unprinted statuses.ReadFault (λ printed. printed) (inl flushes) (omega (arith, writes)) (λ e. (risen, sink, sound)) (λ e. reads)
        (λ e. absurd (let no : statuses.ReadFault ≡ statuses.WriteFault = e in cc)) (λ e. absurd (let no : statuses.ReadFault ≡ statuses.WriteFault = e in cc))
        (λ e. absurd (let no : statuses.ReadFault ≡ statuses.OutOfMemory = e in cc)) (λ unwritten. absurd unwritten) (λ none writes. absurd (none risen)) (λ none writes. absurd (none reads))

    -- out of memory before the output was whole
    pub out_of_memory : SameSink → holds ≡ held → n.failed_writes ≡ n.failed_writes_before → n.flushes ≡ n.flushes_before → Promises (Some k) statuses.OutOfMemory
    out_of_memory sink same writes flushes =
        unprinted statuses.OutOfMemory (λ printed. printed) (inl flushes) (omega (arith, writes))
        (λ e. absurd (let no : statuses.OutOfMemory ≡ statuses.ReadFault = e in cc)) (λ e. absurd (let no : statuses.OutOfMemory ≡ statuses.ReadFault = e in cc))
        (λ e. absurd (let no : statuses.OutOfMemory ≡ statuses.WriteFault = e in cc)) (λ e. absurd (let no : statuses.OutOfMemory ≡ statuses.WriteFault = e in cc))
        (λ e. inl sink) (λ unwritten. subst (λ (h : Option (List ℕ)). OfInput (Some k) input (λ bytes. PrintsPrefixOnly (Some k) bytes held h)) (sym same) (nothing_printed (Some k) input held))
        (λ reads writes. inl refl) (λ none writes. inl refl)

    module _ (s : Status) (text : List ℕ) (r : Reports k input rest before after s text) (written : AppendsPrefix held holds text)
        (once : FlushesOnceAtMost n.flushes_before n.flushes) (writes : n.failed_writes_before ≤ n.failed_writes) where
      -- a write or the flush failed
      pub write_failed : HasRisen n.failed_writes_before n.failed_writes → Promises (Some k) statuses.WriteFault
      write_failed risen =
          unprinted statuses.WriteFault (λ printed. printed) once writes
          (λ e. absurd (let no : statuses.WriteFault ≡ statuses.ReadFault = e in cc)) (λ e. absurd (let no : statuses.WriteFault ≡ statuses.ReadFault = e in cc))
          (λ e. risen) (λ e. prints_prefix (Some k) k refl input held holds s text r.output written) (λ e. absurd (let no : statuses.WriteFault ≡ statuses.OutOfMemory = e in cc))
          (λ unwritten. prints_prefix_only (Some k) k refl input held holds s text r.output written) (λ reads none. absurd (none risen)) (λ reads none. absurd (none risen))

      -- the sink was out of memory
      pub sink_refused : HasRisen n.refusals_before n.refusals → Promises (Some k) statuses.OutOfMemory
      sink_refused risen =
          unprinted statuses.OutOfMemory (λ printed. printed) once writes
          (λ e. absurd (let no : statuses.OutOfMemory ≡ statuses.ReadFault = e in cc)) (λ e. absurd (let no : statuses.OutOfMemory ≡ statuses.ReadFault = e in cc))
          (λ e. absurd (let no : statuses.OutOfMemory ≡ statuses.WriteFault = e in cc)) (λ e. absurd (let no : statuses.OutOfMemory ≡ statuses.WriteFault = e in cc))
          (λ e. inr (risen, prints_prefix (Some k) k refl input held holds s text r.output written)) (λ unwritten. prints_prefix_only (Some k) k refl input held holds s text r.output written)
          (λ reads none. inl refl) (λ reads none. inl refl)
