-- Meaning: what a call of `run` promises, and the laws of the definitions that this rests on.
use Rattle.std.specs.Prelude.{◌≡◌, Option, Some}
use Rattle.pp_judge.specs.Scans.{InputScan}
use Rattle.pp_records.specs.Runs.{Lined}
use Rattle.pp_format_read.specs.declared.header.Header.{Header}
use Rattle.pp_objects.specs.Objects.{place_of}
use Rattle.pp_judge.specs.Objects.{object_of}
use Rattle.pp_laws_summary.specs.LocalLogs.{HasSummary}
use Rattle.pp_laws_locality.specs.Locality.{IsLocal}
use Rattle.pp_cmd_focus.specs.Again.{LinesReadAgain, TextReadAgain}
use Rattle.pp_laws_focus.specs.TextsLocal.{TextsAreLocal}
use Rattle.pp_laws_focus.specs.TextsRejected.{TextsReject}
use Rattle.pp_laws_runs.specs.Prefixes.{CertifiedPrefixLaw, PrefixLaw}
use Rattle.pp_laws_reports.specs.Readable.{CertifyLaw, QuickLaw, ReportLaw}
use Rattle.pp_run.specs.declared.words.Command.{Command}
use Rattle.pp_run.specs.Commands.{CommandPromise}
use Rattle.pp_run.specs.Outcomes.{Outcome}
use Rattle.pp_run.specs.Outputs.{DefinedLaw}
use Rattle.pp_run.specs.Promises.{HaveOneRun, IsDecidedAsRun}
use Rattle.pp_run.specs.Streams.{Counts, StreamsPromise}
use Rattle.pp_laws_runs.specs.Reported.{ReportedLaw}

-- `asked` is the command, or None if the arguments are no command. `SameSource` and `SameSink` say
-- that the calls that the program makes do not change the value of the source, and of the sink.
pub record RunPromise (SameSource SameSink : Type 0) (asked : Option Command) (o : Outcome)
    (n : Counts) : Type 0 where
  -- what is read and written, whatever the command is
  pub streams : StreamsPromise SameSource SameSink asked o n
  -- what the command prints, and what that means
  pub command : CommandPromise asked o

-- Laws of the definitions alone. They do not depend on the call.
pub record RunLaws : Type 0 where
  -- An output is defined for all arguments and every input. The fields `prints` of the commands say
  -- that there is no other.
  pub defined : DefinedLaw
  -- The records after any header have one run, and any steps have one verdict.
  pub one_run : (header : Header) → HaveOneRun header
  -- What `quick` decides is the verdict on all steps of the records.
  pub decided : (input : InputScan) (header : Lined Header) → input.header ≡ Some header →
      IsDecidedAsRun input header
  -- A prefix of an input that `certify` accepts is accepted too, if it has the whole line of the
  -- header and ends after a byte 10. Its run and its committed transactions are the first ones of
  -- the whole input.
  pub prefixes : PrefixLaw × CertifiedPrefixLaw
  -- Two lists of committed transactions that differ in a name, an id or an operation never have the
  -- same report, under `certify` and under `quick`. Two accepted inputs with the same report have
  -- the same committed transactions. A report has no bodies and no threads.
  pub readable : ReportLaw × CertifyLaw × QuickLaw
  -- A boosted, optimistic or hardware run is accepted exactly if its bookkeeping is right and its
  -- restriction to each object is accepted. The bookkeeping is names, threads, ids and bodies. The
  -- restriction has the records that `focus` keeps.
  pub local : (header : Header) → HasSummary header.style →
      IsLocal header.style (object_of header) place_of
  -- Each line that `focus` prints of a header or of a record is read again without a fault. It is
  -- the header over that object alone, or what is left of the record.
  pub read_again : LinesReadAgain
  -- So what `focus` prints of an input without a fault is an input without a fault, of the same
  -- style and with as many lines. What is left of a record is on the line that the record had.
  pub text_read_again : TextReadAgain
  -- A boosted, optimistic or hardware input without a fault is right exactly if its bookkeeping is
  -- right and what `focus` prints for each name of its header is right. If it is rejected at a
  -- step, the criterion is one of bookkeeping, or one of these texts is rejected on the same line,
  -- at the same step and by the same criterion. None is rejected at an earlier record.
  pub texts_decide : TextsAreLocal × TextsReject
  -- In the four recorded styles only the criteria that `breakable` lists can be the first violated.
  -- This holds under `certify` and under `judge`, however many steps come before.
  pub styles_fail_only : ReportedLaw
