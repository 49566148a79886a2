-- Meaning: what `run` promises of the source and the sink, whatever the command is.
use Rattle.std.specs.Prelude.{◌≡◌, ◌≢◌, ◌≤◌, ◌↔◌, ◌⊎◌, ℕ, Option, None}
use Rattle.std.specs.Io.KnownBytes.{IsAtEnd}
use Rattle.pp_core.specs.declared.status.Status.TheVariants as statuses
use Rattle.pp_input.specs.Faults.{HasRisen, counted}
use Rattle.pp_run.specs.declared.words.Command.{Command}
use Rattle.pp_run.specs.Outcomes.{Outcome}
use Rattle.pp_run.specs.Outputs.{IsOfWhole, IsPrinted, MayBeCutShort, OfInput, PrintsPrefix}
use Rattle.pp_run.specs.Outputs.{PrintsPrefixOnly, ReadsSound}
use Rattle.pp_run.specs.Words.{Reads, TellsSize}
use Rattle.pp_run.specs.Writing.{FlushesOnceAtMost}

-- What the source and the sink have counted, before a call of `run` and after it. A refusal is a
-- write or a flush for which the sink was out of memory.
pub record Counts : Type 0 where
  pub failed_reads_before : ℕ
  pub failed_reads : ℕ
  pub failed_writes_before : ℕ
  pub failed_writes : ℕ
  pub refusals_before : ℕ
  pub refusals : ℕ
  pub flushes_before : ℕ
  pub flushes : ℕ

abbrev pub counts : (failed_reads_before failed_reads failed_writes_before failed_writes : ℕ)
    (refusals_before refusals flushes_before flushes : ℕ) → Counts
counts reads_before reads writes_before writes refusals_before refusals flushes_before flushes =
    record {
      failed_reads_before = reads_before;
      failed_reads = reads;
      failed_writes_before = writes_before;
      failed_writes = writes;
      refusals_before = refusals_before;
      refusals = refusals;
      flushes_before = flushes_before;
      flushes = flushes;
    }

-- `SameSource` and `SameSink` say that the calls that the program makes leave the value of the
-- source, and of the sink, as it was.
pub record StreamsPromise (SameSource SameSink : Type 0) (command : Option Command) (o : Outcome)
    (n : Counts) : Type 0 where
  -- If an output is printed, no read and no write was counted as failed in this call.
  pub faultless : IsPrinted o.status → (n.failed_reads ≡ n.failed_reads_before)
      × (n.failed_writes ≡ n.failed_writes_before)
  -- A printed output was flushed once.
  pub flushed : IsPrinted o.status → o.status ≢ statuses.BadWords →
      n.flushes ≡ counted n.flushes_before
  -- No call flushes more than once.
  pub once : FlushesOnceAtMost n.flushes_before n.flushes
  -- The status is that of bad arguments exactly if the arguments are no command.
  pub bad_words : (o.status ≡ statuses.BadWords) ↔ (command ≡ None)
  -- The source did not change if the command reads no input, or if the arguments are no command.
  pub source_untouched : ¬ Reads command → SameSource
  -- Bad arguments leave the sink as it was.
  pub sink_untouched : o.status ≡ statuses.BadWords → SameSink
  -- After a result about the whole input the source has no byte left, if it says what it has.
  pub whole : IsOfWhole command o.status → IsAtEnd o.rest
  -- Only `swaps` and `views` report that their output is above a limit.
  pub size : o.status ≡ statuses.TooLarge → TellsSize command
  -- A failed read is reported only if one failed. Then the sink is as it was, and no fault in what
  -- was read is hidden.
  pub read_fault : o.status ≡ statuses.ReadFault →
      HasRisen n.failed_reads_before n.failed_reads × SameSink × ReadsSound command o.input o.rest
  -- Only a command that reads an input reports a failed read.
  pub reading : o.status ≡ statuses.ReadFault → Reads command
  -- A failed write is reported only if one failed.
  pub write_fault : o.status ≡ statuses.WriteFault →
      HasRisen n.failed_writes_before n.failed_writes
  -- Then a prefix of a defined output was written.
  pub written : o.status ≡ statuses.WriteFault → OfInput command o.input λ bytes.
      PrintsPrefix command bytes o.held o.holds
  -- At out of memory the sink is as it was, or the sink itself was out of memory. In the second
  -- case a prefix of a defined output was written.
  pub refused : o.status ≡ statuses.OutOfMemory → SameSink
      ⊎ (HasRisen n.refusals_before n.refusals
      × OfInput command o.input λ bytes. PrintsPrefix command bytes o.held o.holds)
  -- What was written before a failed write or at out of memory is a prefix of each defined output.
  pub prefix : MayBeCutShort o.status → OfInput command o.input λ bytes.
      PrintsPrefixOnly command bytes o.held o.holds
  -- The counts of failed reads and of failed writes never fall.
  pub reads : n.failed_reads_before ≤ n.failed_reads
  pub writes : n.failed_writes_before ≤ n.failed_writes
  -- If no read and no write failed, the output is printed, or the status is that of out of memory.
  pub complete : ¬ HasRisen n.failed_reads_before n.failed_reads →
      ¬ HasRisen n.failed_writes_before n.failed_writes →
      (o.status ≡ statuses.OutOfMemory) ⊎ IsPrinted o.status
  -- For a command that reads no input, it is enough that no write failed.
  pub no_input : ¬ Reads command → ¬ HasRisen n.failed_writes_before n.failed_writes →
      (o.status ≡ statuses.OutOfMemory) ⊎ IsPrinted o.status
  -- Arguments that are no command leave the counter of operations as it was.
  pub free : command ≡ None → o.after ≡ o.before
