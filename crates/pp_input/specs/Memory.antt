-- Proof machinery: sources and sinks in memory, as contracts see them.
use Rattle.std.specs.Prelude.{ℕ, List, [], ◌++◌, length, drop, min, max, Option, Some, None}
use Rattle.std.specs.Prelude.{slice_get, Contains}
use Rattle.pp_input.specs.Faults.{counted}

-- the bytes that are left, how many bytes each call returns at most, the numbers of the calls that
-- fail, and how many calls were made and failed
pub record SourceInMemory : Type 0 where
  pub left : List ℕ
  pub pieces : List ℕ
  pub failing : List ℕ
  pub calls : ℕ
  pub faults : ℕ

-- before the first call
abbrev pub fresh_source : List ℕ → List ℕ → List ℕ → SourceInMemory
fresh_source bytes pieces failing =
    record { left = bytes; pieces = pieces; failing = failing; calls = 0; faults = 0 }

-- the next call fails
abbrev pub ReadFails : SourceInMemory → Type 0
ReadFails source = Contains source.failing source.calls

-- the most bytes of a piece, one at least; if there is none, as many as fit
abbrev pub most_of : Option ℕ → ℕ → ℕ
most_of None room = room
most_of (Some most) room = max most 1

-- how many bytes the next call returns
abbrev pub given_by : SourceInMemory → ℕ → ℕ
given_by source room =
    min (min room (most_of (slice_get source.pieces source.calls) room)) (length source.left)

-- after a call that gave so many bytes
abbrev pub after_read : SourceInMemory → ℕ → SourceInMemory
after_read source n = record source { left = drop n source.left; calls = counted source.calls }

-- after a call that failed
abbrev pub after_failed_read : SourceInMemory → SourceInMemory
after_failed_read source =
    record source { calls = counted source.calls; faults = counted source.faults }

-- the bytes that were taken and those that were sent on, how many a call takes at most, the numbers
-- of the calls that fail, how many calls were made, how many sent on, how many failed, and how many
-- ran out of memory
pub record SinkInMemory : Type 0 where
  pub held : List ℕ
  pub sent : List ℕ
  pub most : ℕ
  pub failing : List ℕ
  pub calls : ℕ
  pub flushes : ℕ
  pub faults : ℕ
  pub refusals : ℕ

-- before the first call, if a call takes so many bytes at most, and one at least
abbrev pub fresh_sink : ℕ → List ℕ → SinkInMemory
fresh_sink most failing = record {
  held = [];
  sent = [];
  most = max most 1;
  failing = failing;
  calls = 0;
  flushes = 0;
  faults = 0;
  refusals = 0;
}

-- the next call fails
abbrev pub WriteFails : SinkInMemory → Type 0
WriteFails sink = Contains sink.failing sink.calls

-- after a call that took these bytes
abbrev pub after_write : SinkInMemory → List ℕ → SinkInMemory
after_write sink bytes = record sink { held = sink.held ++ bytes; calls = counted sink.calls }

-- after a call that sent on all
abbrev pub after_flush : SinkInMemory → SinkInMemory
after_flush sink = record sink {
  sent = sink.held;
  calls = counted sink.calls;
  flushes = counted sink.flushes;
}

-- after a call that failed
abbrev pub after_failed_write : SinkInMemory → SinkInMemory
after_failed_write sink = record sink { calls = counted sink.calls; faults = counted sink.faults }

-- after a call to send on that failed
abbrev pub after_failed_flush : SinkInMemory → SinkInMemory
after_failed_flush sink = record (after_failed_write sink) { flushes = counted sink.flushes }

-- after a call that was refused memory
abbrev pub after_refused_write : SinkInMemory → SinkInMemory
after_refused_write sink =
    record sink { calls = counted sink.calls; refusals = counted sink.refusals }

-- the bytes that a sink took which never fails, those that it sent on, how often it sent on, and
-- how often it ran out of memory
pub record SteadyBytes : Type 0 where
  pub held : List ℕ
  pub sent : List ℕ
  pub flushes : ℕ
  pub refusals : ℕ

-- before the first call
abbrev pub fresh_steady : SteadyBytes
fresh_steady = record { held = []; sent = []; flushes = 0; refusals = 0 }
