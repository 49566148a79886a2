-- Meaning: the names of causes in a report.
use Rattle.std.specs.Prelude.{ℕ, List, ◌++◌, codes}
use Rattle.pp_core.specs.declared.member.Member.{Member}
use Rattle.pp_core.specs.Words.{member_word}
use Rattle.pp_input_reader.specs.declared.cause.Cause.{Cause}
use Rattle.pp_input_reader.specs.declared.cause.Cause.TheVariants as causes

-- a name with a member in round brackets
abbrev pub with_member : List ℕ → Member → List ℕ
with_member name member = name ++ codes "(" ++ member_word member ++ codes ")"

-- the name of a cause, as `NotJson` or `Missing(tx)`
abbrev pub cause_bytes : Cause → List ℕ
cause_bytes causes.NotJson = codes "NotJson"
cause_bytes causes.NotObject = codes "NotObject"
cause_bytes (causes.Missing member) = with_member (codes "Missing") member
cause_bytes (causes.WrongType member) = with_member (codes "WrongType") member
cause_bytes (causes.OutOfRange member) = with_member (codes "OutOfRange") member
cause_bytes (causes.BadName member) = with_member (codes "BadName") member
cause_bytes causes.UnknownStyle = codes "UnknownStyle"
cause_bytes causes.UnknownKind = codes "UnknownKind"
cause_bytes causes.RepeatedObject = codes "RepeatedObject"
cause_bytes causes.TooManyObjects = codes "TooManyObjects"
cause_bytes causes.TooManyStart = codes "TooManyStart"
cause_bytes causes.UnknownObject = codes "UnknownObject"
cause_bytes causes.UnknownCall = codes "UnknownCall"
cause_bytes causes.UnknownStep = codes "UnknownStep"
cause_bytes causes.BodyBad = codes "BodyBad"
cause_bytes causes.BodyTooLarge = codes "BodyTooLarge"
cause_bytes causes.LineTooLong = codes "LineTooLong"
cause_bytes causes.TooManyLines = codes "TooManyLines"
cause_bytes causes.TooLong = codes "TooLong"
cause_bytes causes.NoHeader = codes "NoHeader"
cause_bytes causes.TooManyTransactions = codes "TooManyTransactions"
cause_bytes causes.TooManySteps = codes "TooManySteps"
cause_bytes causes.NotBoosted = codes "NotBoosted"
cause_bytes causes.StyleNotJudged = codes "StyleNotJudged"
cause_bytes causes.NotCertificate = codes "NotCertificate"
