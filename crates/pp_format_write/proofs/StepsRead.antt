-- A record that was read can be stated.
use Rattle.std.proofs.Common.{◌≡◌, ℕ, Bool, true, false, cond, List, codes, Some, None, Result, Ok, refl}
use Rattle.std.specs.Prelude.{IfOk, IfSome, if◌then◌else◌}
use Rattle.std.specs.Str.{bytes_eq}
use Rattle.std.proofs.lemmas.Result.{IfOk-at_ok}
use Rattle.serde_json.specs.Data.{Data}
use Rattle.pp_core.specs.Catalogs.{Objects}
use Rattle.pp_core.specs.Names.{IsName}
use Rattle.pp_core.specs.Steps.{Step, Unapp, Push, Unpush, Pull, Unpull}
use Rattle.pp_core.specs.declared.call.Style.{Style}
use Rattle.pp_core.specs.declared.call.Style.TheVariants.{Rules, Boosted, Optimistic, Hardware, Dependent}
use Rattle.pp_core.specs.declared.member.Member.{Member}
use Rattle.pp_core.specs.declared.member.Member.TheVariants as members
use Rattle.pp_records.specs.Records.{RunRecord, Commit, Abort, Retry, XBegin, XEnd, XAbort, Depend, Publish, DropSource}
use Rattle.pp_objects.specs.declared.act.Op.{Op}
use Rattle.pp_format_read.specs.declared.fault.RecordFault.{RecordFault}
use Rattle.pp_format_read.specs.declared.fault.RecordFault.TheVariants.{BadName}
use Rattle.pp_format_read.specs.declared.header.Header.{Header}
use Rattle.pp_format_read.specs.Reading.{◌>>=◌}
use Rattle.pp_format_read.specs.Members.{is_name, name_from, object_of, text_of, name_of}
use Rattle.pp_format_read.specs.Items.{id_of, item_of, IsReadableItem}
use Rattle.pp_format_read.specs.Bodies.{body_of_begin}
use Rattle.pp_format_read.specs.Calls.{object_called}
use Rattle.pp_format_read.specs.Rules.{begin_of, app_of, unapp_of, push_of, unpush_of, pull_of, unpull_of, cmt_of, quit_of, note_of, step_of}
use Rattle.pp_format_read.specs.Boosted.{tx_alone, plain_begin_of, op_record_of, boosted_of}
use Rattle.pp_format_read.specs.Optimistic.{refresh_of, optimistic_of}
use Rattle.pp_format_read.specs.Hardware.{hardware_of}
use Rattle.pp_format_read.specs.Dependent.{tx_and_source, with_source, dependent_of}
use Rattle.pp_format_read.specs.Records.{record_named, record_of}
use Rattle.pp_format_read.proofs.ReadableStarts.{behind, behind_any, found, small_id, readable_item}
use Rattle.pp_format_read.proofs.Texts.{is_name_fact}
use Rattle.pp_format_write.specs.Statable.{IsId, IfGiven, IsStatableBody, IsStatable, IsStatableRecord}
use Rattle.pp_format_write.proofs.BodiesRead.{body_read}

named : (text : List ℕ) → IfSome (name_from text) IsName
unfolding name_from
named text = by (is_name text) refl
  where
    by : (b : Bool) → is_name text ≡ b → IfSome (cond b (Some text) None) IsName
    by true e = is_name_fact text e
    by false e = tt

-- If a member's value is read as a name, it is a name.
pub name_read : (m : Member) (value : Data) → IfOk (name_of m value) IsName
unfolding name_of
name_read m value = behind_any (text_of m value) _ _ (λ text. found (name_from text) (BadName m) _ (named text))

-- A property of two results is a property of the one that a test picks.
either : {A : Type 0} (b : Bool) (x y : Result A RecordFault) (P : A → Type 0) → IfOk x P → IfOk y P → IfOk (if b then x else y) P
either true x y P p q = p
either false x y P p q = q

module _ (catalog : Objects) (value : Data) where
  -- A record of a transaction, and what it returns.
  of_tx : (f : List ℕ → Result (Step Op) RecordFault) → ((tx : List ℕ) → IsName tx → IfOk (f tx) (IsStatable catalog)) → IfOk (name_of members.Tx value >>= f) (IsStatable catalog)
  of_tx f h = behind (name_of members.Tx value) f IsName (IsStatable catalog) (name_read members.Tx value) h

  of_entry : (f : List ℕ → ℕ → Step Op) → ((tx : List ℕ) (id : ℕ) → IsName tx → IsId id → IsStatable catalog (f tx id))
      → IfOk (name_of members.Tx value >>= λ tx. (id_of value >>= λ id. Ok (f tx id))) (IsStatable catalog)
  of_entry f h = of_tx _ (λ tx name. behind (id_of value) _ IsId _ (small_id value) (λ id small. h tx id name small))

  begun : IfOk (begin_of catalog value) (IsStatable catalog)
  unfolding begin_of
  begun =
      of_tx _ (λ tx name. behind (name_of members.Thread value) _ IsName _ (name_read members.Thread value) (λ thread also.
      behind (body_of_begin catalog value) _ (IfGiven (IsStatableBody catalog)) _ (body_read catalog value) (λ body h. (name, also, h))))

  applied : IfOk (app_of catalog value) (IsStatable catalog)
  unfolding app_of
  applied = of_tx _ (λ tx name. behind (item_of catalog value) _ (IsReadableItem catalog) _ (readable_item catalog value) (λ one h. (name, h.0, (h.1, h.2))))

  step_read : (word : List ℕ) → IfOk (step_of catalog word value) (IsStatable catalog)
  unfolding step_of unapp_of push_of unpush_of pull_of unpull_of cmt_of quit_of note_of
  step_read word =
      either (bytes_eq word (codes "begin")) _ _ _ begun
      (either (bytes_eq word (codes "app")) _ _ _ applied
      (either (bytes_eq word (codes "unapp")) _ _ _ (of_entry (λ tx id. Unapp tx id) (λ tx id name small. (name, small)))
      (either (bytes_eq word (codes "push")) _ _ _ (of_entry (λ tx id. Push tx id) (λ tx id name small. (name, small)))
      (either (bytes_eq word (codes "unpush")) _ _ _ (of_entry (λ tx id. Unpush tx id) (λ tx id name small. (name, small)))
      (either (bytes_eq word (codes "pull")) _ _ _ (of_entry (λ tx id. Pull tx id) (λ tx id name small. (name, small)))
      (either (bytes_eq word (codes "unpull")) _ _ _ (of_entry (λ tx id. Unpull tx id) (λ tx id name small. (name, small)))
      (either (bytes_eq word (codes "cmt")) _ _ _ (of_tx _ (λ tx name. name))
      (either (bytes_eq word (codes "quit")) _ _ _ (of_tx _ (λ tx name. name))
      (either (bytes_eq word (codes "note")) _ _ _ (of_tx _ (λ tx name. name)) tt)))))))))

  -- ---- a record of the other styles
  abbrev CanBe : RunRecord Op → Type 0
  CanBe r = IsStatableRecord catalog r

  of_name : (made : List ℕ → RunRecord Op) → ((tx : List ℕ) → IsName tx → CanBe (made tx)) → IfOk (tx_alone made value) CanBe
  of_name made h = behind (name_of members.Tx value) _ IsName CanBe (name_read members.Tx value) h

  of_names : (made : List ℕ → List ℕ → RunRecord Op) → ((tx source : List ℕ) → IsName tx → IsName source → CanBe (made tx source))
      → IfOk (with_source made value) CanBe
  unfolding tx_and_source
  of_names made h =
      behind (tx_and_source value) _ (λ names. IsName names.0 × IsName names.1) CanBe
      (behind (name_of members.Tx value) _ IsName _ (name_read members.Tx value) (λ tx name.
      behind (name_of members.Source value) _ IsName _ (name_read members.Source value) (λ source also. (name, also))))
      (λ names h'. h names.0 names.1 h'.0 h'.1)

  plain_begun : IfOk (plain_begin_of catalog value) CanBe
  unfolding plain_begin_of
  plain_begun = behind (begin_of catalog value) _ (IsStatable catalog) CanBe begun (λ step h. h)

  op_called : IfOk (op_record_of catalog value) CanBe
  unfolding op_record_of
  op_called =
      behind (name_of members.Tx value) _ IsName CanBe (name_read members.Tx value) (λ tx name.
      behind (item_of catalog value) _ (IsReadableItem catalog) CanBe (readable_item catalog value) (λ one h. (name, h.0, (h.1, h.2))))

  refreshed : IfOk (refresh_of catalog value) CanBe
  unfolding refresh_of
  refreshed =
      behind (name_of members.Tx value) _ IsName CanBe (name_read members.Tx value) (λ tx name.
      behind_any (object_called catalog value) _ CanBe (λ object. name))

  boosted_read : (word : List ℕ) → IfOk (boosted_of catalog word value) CanBe
  unfolding boosted_of
  boosted_read word =
      either (bytes_eq word (codes "begin")) _ _ _ plain_begun
      (either (bytes_eq word (codes "op")) _ _ _ op_called
      (either (bytes_eq word (codes "commit")) _ _ _ (of_name Commit (λ tx name. name))
      (either (bytes_eq word (codes "abort")) _ _ _ (of_name Abort (λ tx name. name))
      (either (bytes_eq word (codes "retry")) _ _ _ (of_name Retry (λ tx name. name)) tt))))

  optimistic_read : (word : List ℕ) → IfOk (optimistic_of catalog word value) CanBe
  unfolding optimistic_of
  optimistic_read word = either (bytes_eq word (codes "refresh")) _ _ _ refreshed (boosted_read word)

  hardware_read : (word : List ℕ) → IfOk (hardware_of catalog word value) CanBe
  unfolding hardware_of
  hardware_read word =
      either (bytes_eq word (codes "xbegin")) _ _ _ (of_name XBegin (λ tx name. name))
      (either (bytes_eq word (codes "xend")) _ _ _ (of_name XEnd (λ tx name. name))
      (either (bytes_eq word (codes "xabort")) _ _ _ (of_name XAbort (λ tx name. name)) (boosted_read word)))

  dependent_read : (word : List ℕ) → IfOk (dependent_of catalog word value) CanBe
  unfolding dependent_of
  dependent_read word =
      either (bytes_eq word (codes "depend")) _ _ _ (of_names Depend (λ tx source name also. (name, also)))
      (either (bytes_eq word (codes "drop")) _ _ _ (of_names DropSource (λ tx source name also. (name, also)))
      (either (bytes_eq word (codes "publish")) _ _ _ (of_name Publish (λ tx name. name)) (boosted_read word)))

  named_read : (style : Style) (word : List ℕ) → IfOk (record_named style catalog word value) CanBe
  named_read Rules word = behind (step_of catalog word value) _ (IsStatable catalog) CanBe (step_read word) (λ step h. h)
  named_read Boosted word = boosted_read word
  named_read Optimistic word = optimistic_read word
  named_read Hardware word = hardware_read word
  named_read Dependent word = dependent_read word

record_read : (header : Header) (line : List ℕ) → IfOk (record_of header line) (IsStatableRecord header.catalog)
unfolding record_of
record_read header line =
    behind_any (object_of line) _ _ (λ value. behind_any (text_of members.Step value) _ _ (λ word.
    named_read header.catalog value header.style word))

-- If a line is read as a record, the record can be stated.
pub is_statable : (header : Header) (line : List ℕ) (r : RunRecord Op) → record_of header line ≡ Ok r → IsStatableRecord header.catalog r
is_statable header line r read = IfOk-at_ok (λ x. IsStatableRecord header.catalog x) read (record_read header line)
