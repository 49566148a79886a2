-- What a record or a start is on is an object of the header.
use Rattle.std.specs.Prelude.{◌≡◌, Bool, true, false, IsTrue, ℕ, List, slice_get, codes, if◌then◌else◌, Option, None, Some, Result, Ok, Err, IfOk}
use Rattle.std.specs.Str.{bytes_eq}
use Rattle.std.proofs.Common.{refl}
use Rattle.std.proofs.lemmas.Result.{IfOk-at_ok}
use Rattle.serde_json.specs.Data.{Data}
use Rattle.pp_core.specs.Catalogs.{Objects}
use Rattle.pp_core.specs.declared.call.Kind.{Kind}
use Rattle.pp_core.specs.declared.call.Style.{Style}
use Rattle.pp_core.specs.declared.call.Style.TheVariants.{Rules, Boosted, Optimistic, Hardware, Dependent}
use Rattle.pp_core.specs.declared.member.Member.TheVariants as members
use Rattle.pp_core.specs.Steps.{Step}
use Rattle.pp_records.specs.Records.{RunRecord}
use Rattle.pp_records.specs.Records as records
use Rattle.pp_objects.specs.Objects.{fits_in, kinds_of}
use Rattle.pp_objects.specs.One.{one}
use Rattle.pp_objects.specs.declared.act.Op.{Op}
use Rattle.pp_format_read.specs.declared.fault.RecordFault.{RecordFault}
use Rattle.pp_format_read.specs.declared.fault.RecordFault.TheVariants.{UnknownObject}
use Rattle.pp_format_read.specs.declared.header.Header.{Header}
use Rattle.pp_format_read.specs.Reading.{◌>>=◌}
use Rattle.pp_format_read.specs.Members.{name_of, object_of, text_of}
use Rattle.pp_format_read.specs.Calls.{IsThere, object_called, object_named}
use Rattle.pp_format_read.specs.Items.{IsReadableItem, item_of}
use Rattle.pp_format_read.specs.Rules.{begin_of, step_of}
use Rattle.pp_format_read.specs.Boosted.{boosted_of, op_record_of, plain_begin_of, tx_alone}
use Rattle.pp_format_read.specs.Optimistic.{optimistic_of, refresh_of}
use Rattle.pp_format_read.specs.Hardware.{hardware_of}
use Rattle.pp_format_read.specs.Dependent.{dependent_of, tx_and_source, with_source}
use Rattle.pp_format_read.specs.Records.{record_named, record_of}
use Rattle.pp_format_read.proofs.ReadableStarts.{behind, behind_any, found, named_there, readable_item}

-- the catalog has an object at this place
abbrev pub HasPlace : Objects → ℕ → Type 0
HasPlace catalog p = (kind : Kind) × (slice_get (kinds_of catalog) p ≡ Some kind)

-- An operation that fits the catalog is on an object of it.
pub fits_place : (catalog : Objects) (op : Op) → IsTrue (fits_in one (slice_get (kinds_of catalog) op.object) op.act) → HasPlace catalog op.object
fits_place catalog op h = by (slice_get (kinds_of catalog) op.object) refl h
  where
    by : (k : Option Kind) → slice_get (kinds_of catalog) op.object ≡ k → IsTrue (fits_in one k op.act) → HasPlace catalog op.object
    by None is f = absurd (cc)
    by (Some kind) is f = (kind, is)

-- An operation or a refresh is on an object of the catalog.
abbrev pub HasObject : Objects → RunRecord Op → Type 0
HasObject catalog (records.Plain step) = Unit {0}
HasObject catalog (records.Op t id op) = HasPlace catalog op.object
HasObject catalog (records.Commit t) = Unit {0}
HasObject catalog (records.Abort t) = Unit {0}
HasObject catalog (records.Retry t) = Unit {0}
HasObject catalog (records.Refresh t p) = HasPlace catalog p
HasObject catalog (records.XBegin t) = Unit {0}
HasObject catalog (records.XEnd t) = Unit {0}
HasObject catalog (records.XAbort t) = Unit {0}
HasObject catalog (records.Depend t source) = Unit {0}
HasObject catalog (records.Publish t) = Unit {0}
HasObject catalog (records.DropSource t source) = Unit {0}

either : (b : Bool) (x y : Result (RunRecord Op) RecordFault) (P : RunRecord Op → Type 0) → IfOk x P → IfOk y P → IfOk (if b then x else y) P
either true x y P h k = h
either false x y P h k = k

module _ (catalog : Objects) (value : Data) where
  called : IfOk (object_called catalog value) (IsThere catalog)
  unfolding object_called
  called = behind_any (text_of members.On value) _ _ (λ on. found (object_named catalog on) UnknownObject _ (named_there catalog on))

  op_placed : IfOk (op_record_of catalog value) (HasObject catalog)
  unfolding op_record_of
  op_placed = behind_any (name_of members.Tx value) _ _ (λ tx. behind (item_of catalog value) _ (IsReadableItem catalog) _ (readable_item catalog value) (λ p h. fits_place catalog p.op h.1))

  refresh_placed : IfOk (refresh_of catalog value) (HasObject catalog)
  unfolding refresh_of
  refresh_placed = behind_any (name_of members.Tx value) _ _ (λ tx. behind (object_called catalog value) _ (IsThere catalog) _ called (λ e there. (e.1, there)))

  alone_placed : (made : List ℕ → RunRecord Op) → ((tx : List ℕ) → HasObject catalog (made tx)) → IfOk (tx_alone made value) (HasObject catalog)
  alone_placed made h = behind_any (name_of members.Tx value) _ _ h

  sources_placed : (made : List ℕ → List ℕ → RunRecord Op) → ((tx source : List ℕ) → HasObject catalog (made tx source)) → IfOk (with_source made value) (HasObject catalog)
  sources_placed made h = behind_any (tx_and_source value) _ _ (λ names. h names.0 names.1)

  plain_placed : (x : Result (Step Op) RecordFault) → IfOk (x >>= λ s. Ok (records.Plain s)) (HasObject catalog)
  plain_placed (Ok s) = tt
  plain_placed (Err e) = tt

  boosted_placed : (word : List ℕ) → IfOk (boosted_of catalog word value) (HasObject catalog)
  unfolding boosted_of plain_begin_of
  boosted_placed word =
      either (bytes_eq word (codes "begin")) _ _ _ (plain_placed (begin_of catalog value))
      (either (bytes_eq word (codes "op")) _ _ _ op_placed
      (either (bytes_eq word (codes "commit")) _ _ _ (alone_placed records.Commit (λ tx. tt))
      (either (bytes_eq word (codes "abort")) _ _ _ (alone_placed records.Abort (λ tx. tt))
      (either (bytes_eq word (codes "retry")) _ _ _ (alone_placed records.Retry (λ tx. tt)) tt))))

  optimistic_placed : (word : List ℕ) → IfOk (optimistic_of catalog word value) (HasObject catalog)
  unfolding optimistic_of
  optimistic_placed word = either (bytes_eq word (codes "refresh")) _ _ _ refresh_placed (boosted_placed word)

  hardware_placed : (word : List ℕ) → IfOk (hardware_of catalog word value) (HasObject catalog)
  unfolding hardware_of
  hardware_placed word =
      either (bytes_eq word (codes "xbegin")) _ _ _ (alone_placed records.XBegin (λ tx. tt))
      (either (bytes_eq word (codes "xend")) _ _ _ (alone_placed records.XEnd (λ tx. tt))
      (either (bytes_eq word (codes "xabort")) _ _ _ (alone_placed records.XAbort (λ tx. tt)) (boosted_placed word)))

  dependent_placed : (word : List ℕ) → IfOk (dependent_of catalog word value) (HasObject catalog)
  unfolding dependent_of
  dependent_placed word =
      either (bytes_eq word (codes "depend")) _ _ _ (sources_placed records.Depend (λ tx source. tt))
      (either (bytes_eq word (codes "drop")) _ _ _ (sources_placed records.DropSource (λ tx source. tt))
      (either (bytes_eq word (codes "publish")) _ _ _ (alone_placed records.Publish (λ tx. tt)) (boosted_placed word)))

  named_placed : (style : Style) (word : List ℕ) → IfOk (record_named style catalog word value) (HasObject catalog)
  named_placed Rules word = plain_placed (step_of catalog word value)
  named_placed Boosted word = boosted_placed word
  named_placed Optimistic word = optimistic_placed word
  named_placed Hardware word = hardware_placed word
  named_placed Dependent word = dependent_placed word

-- A record that is read is on an object of the header, or on none.
pub record_placed : (header : Header) (line : List ℕ) (r : RunRecord Op) → record_of header line ≡ Ok r → HasObject header.catalog r
unfolding record_of
record_placed header line r read =
    IfOk-at_ok (HasObject header.catalog) read (behind_any (object_of line) _ _ (λ value. behind_any (text_of members.Step value) _ _ (λ word. named_placed header.catalog value header.style word)))
