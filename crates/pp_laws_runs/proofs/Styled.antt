-- A record that is read is of the style of its header.
use Rattle.std.specs.Prelude.{◌≡◌, ℕ, Bool, true, false, List, codes, cond}
use Rattle.std.specs.Prelude.{IfOk, Result, Ok, Err}
use Rattle.std.specs.Str.{bytes_eq}
use Rattle.std.proofs.Common.{subst}
use Rattle.serde_json.specs.Data.{Data}
use Rattle.pp_core.specs.Catalogs.{Objects}
use Rattle.pp_core.specs.declared.call.Style.{Style}
use Rattle.pp_core.specs.declared.call.Style.TheVariants as styles
use Rattle.pp_core.specs.declared.member.Member.TheVariants as members
use Rattle.pp_records.specs.Expansions.{HasStep, IsBegin, IsOfStyle, IsRecorded}
use Rattle.pp_records.specs.Records.{RunRecord, Plain}
use Rattle.pp_records.specs.Records as records
use Rattle.pp_format_read.specs.declared.fault.RecordFault.{RecordFault}
use Rattle.pp_format_read.specs.declared.header.Header.{Header}
use Rattle.pp_format_read.specs.Boosted.{boosted_of, op_record_of, plain_begin_of, tx_alone}
use Rattle.pp_format_read.specs.Calls.{object_called}
use Rattle.pp_format_read.specs.Dependent.{dependent_of, tx_and_source, with_source}
use Rattle.pp_format_read.specs.Hardware.{hardware_of}
use Rattle.pp_format_read.specs.Bodies.{body_of_begin}
use Rattle.pp_format_read.specs.Items.{item_of}
use Rattle.pp_format_read.specs.Members.{name_of, object_of, text_of}
use Rattle.pp_format_read.specs.Optimistic.{optimistic_of, refresh_of}
use Rattle.pp_format_read.specs.Reading.{◌>>=◌}
use Rattle.pp_format_read.specs.Records.{record_named, record_of}
use Rattle.pp_format_read.specs.Rules.{begin_of, step_of}
use Rattle.pp_model.specs.Config.{Begin, Step}
use Rattle.pp_model.specs.Names.{Name}
use Rattle.pp_objects.specs.declared.act.Op.{Op}

-- What is read after an earlier part was read.
read_next : {A B : Type 0} (Q : A → Type 0) (P : B → Type 0) (r : Result A RecordFault) (f : A → Result B RecordFault) → IfOk r Q → ((a : A) → Q a → IfOk (f a) P) → IfOk (r >>= f) P
read_next Q P (Ok a) f q k = k a q
read_next Q P (Err e) f q k = tt

any_ok : {A : Type 0} (r : Result A RecordFault) → IfOk r (λ a. Unit {0})
any_ok (Ok a) = tt
any_ok (Err e) = tt

read_then : {A B : Type 0} (P : B → Type 0) (r : Result A RecordFault) (f : A → Result B RecordFault) → ((a : A) → IfOk (f a) P) → IfOk (r >>= f) P
read_then P r f k = read_next (λ a. Unit {0}) P r f (any_ok r) (λ a q. k a)

either : {A : Type 0} (P : A → Type 0) (b : Bool) (x y : Result A RecordFault) → IfOk x P → IfOk y P → IfOk (cond b x y) P
either P true x y p q = p
either P false x y p q = q

alone_is : (P : RunRecord Op → Type 0) (made : Name → RunRecord Op) (value : Data) → ((t : Name) → P (made t)) → IfOk (tx_alone made value) P
alone_is P made value k = read_then P (name_of members.Tx value) (λ tx. Ok (made tx)) k

source_is : (P : RunRecord Op → Type 0) (made : Name → Name → RunRecord Op) (value : Data) → ((t u : Name) → P (made t u)) → IfOk (with_source made value) P
source_is P made value k = read_then P (tx_and_source value) (λ names. Ok (made names.0 names.1)) (λ names. k names.0 names.1)

begin_is : (catalog : Objects) (value : Data) → IfOk (begin_of catalog value) (λ (s : Step Op). IsBegin s)
unfolding begin_of
begin_is catalog value =
    let P : Step Op → Type 0 = λ s. IsBegin s in
    read_then P (name_of members.Tx value) (λ tx. name_of members.Thread value >>= λ thread. body_of_begin catalog value >>= λ body. Ok (Begin tx thread body))
    (λ tx. read_then P (name_of members.Thread value) (λ thread. body_of_begin catalog value >>= λ body. Ok (Begin tx thread body))
    (λ thread. read_then P (body_of_begin catalog value) (λ body. Ok (Begin tx thread body)) (λ body. tt)))

begin_step : (style : Style) → IsRecorded style → (s : Step Op) → IsBegin s → HasStep style s
begin_step styles.Rules recorded s b = absurd recorded
begin_step styles.Boosted recorded s b = b
begin_step styles.Optimistic recorded s b = b
begin_step styles.Hardware recorded s b = b
begin_step styles.Dependent recorded s b = b

boosted_styled : (style : Style) → IsRecorded style → (catalog : Objects) (word : List ℕ) (value : Data) → IfOk (boosted_of catalog word value) (λ x. IsOfStyle style x)
unfolding boosted_of plain_begin_of op_record_of
boosted_styled style recorded catalog word value =
    let P : RunRecord Op → Type 0 = λ x. IsOfStyle style x in
    either P (bytes_eq word (codes "begin")) _ _
    (read_next (λ (s : Step Op). IsBegin s) P (begin_of catalog value) (λ step. Ok (Plain step)) (begin_is catalog value) (λ s b. begin_step style recorded s b))
    (either P (bytes_eq word (codes "op")) _ _
    (read_then P (name_of members.Tx value) (λ tx. item_of catalog value >>= λ item. Ok (records.Op tx item.id item.op))
    (λ tx. read_then P (item_of catalog value) (λ item. Ok (records.Op tx item.id item.op)) (λ item. recorded)))
    (either P (bytes_eq word (codes "commit")) _ _ (alone_is P records.Commit value (λ t. recorded))
    (either P (bytes_eq word (codes "abort")) _ _ (alone_is P records.Abort value (λ t. recorded))
    (either P (bytes_eq word (codes "retry")) _ _ (alone_is P records.Retry value (λ t. recorded)) tt))))

named_styled : (style : Style) (catalog : Objects) (word : List ℕ) (value : Data) → IfOk (record_named style catalog word value) (λ x. IsOfStyle style x)
unfolding optimistic_of refresh_of hardware_of dependent_of
named_styled styles.Rules catalog word value = read_then (λ x. IsOfStyle styles.Rules x) (step_of catalog word value) (λ step. Ok (Plain step)) (λ step. tt)
named_styled styles.Boosted catalog word value = boosted_styled styles.Boosted tt catalog word value
named_styled styles.Optimistic catalog word value =
    let P : RunRecord Op → Type 0 = λ x. IsOfStyle styles.Optimistic x in
    either P (bytes_eq word (codes "refresh")) _ _
    (read_then P (name_of members.Tx value) (λ tx. object_called catalog value >>= λ object. Ok (records.Refresh tx object.0))
    (λ tx. read_then P (object_called catalog value) (λ object. Ok (records.Refresh tx object.0)) (λ object. tt)))
    (boosted_styled styles.Optimistic tt catalog word value)
named_styled styles.Hardware catalog word value =
    let P : RunRecord Op → Type 0 = λ x. IsOfStyle styles.Hardware x in
    either P (bytes_eq word (codes "xbegin")) _ _ (alone_is P records.XBegin value (λ t. tt))
    (either P (bytes_eq word (codes "xend")) _ _ (alone_is P records.XEnd value (λ t. tt))
    (either P (bytes_eq word (codes "xabort")) _ _ (alone_is P records.XAbort value (λ t. tt)) (boosted_styled styles.Hardware tt catalog word value)))
named_styled styles.Dependent catalog word value =
    let P : RunRecord Op → Type 0 = λ x. IsOfStyle styles.Dependent x in
    either P (bytes_eq word (codes "depend")) _ _ (source_is P records.Depend value (λ t u. tt))
    (either P (bytes_eq word (codes "drop")) _ _ (source_is P records.DropSource value (λ t u. tt))
    (either P (bytes_eq word (codes "publish")) _ _ (alone_is P records.Publish value (λ t. tt)) (boosted_styled styles.Dependent tt catalog word value)))

-- A record that is read is of the style of its header.
pub record_styled : (header : Header) (line : List ℕ) (r : RunRecord Op) → record_of header line ≡ Ok r → IsOfStyle header.style r
unfolding record_of
record_styled header line r e =
    let P : RunRecord Op → Type 0 = λ x. IsOfStyle header.style x in
    subst (λ (w : Result (RunRecord Op) RecordFault). IfOk w P) e
    (read_then P (object_of line) (λ value. text_of members.Step value >>= λ word. record_named header.style header.catalog word value)
    (λ value. read_then P (text_of members.Step value) (λ word. record_named header.style header.catalog word value) (λ word. named_styled header.style header.catalog word value)))
