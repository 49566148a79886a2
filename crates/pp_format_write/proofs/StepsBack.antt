-- The line of a step is read back.
use Rattle.std.proofs.Common.{◌≡◌, ℕ, pos, List, codes, Option, Some, None, Ok, refl, sym, ap, ◌∙◌, subst, cond, le-leb}
use Rattle.serde_json.specs.Data.{object, Members}
use Rattle.pp_core.specs.Catalogs.{Objects}
use Rattle.pp_core.specs.Names.{IsName}
use Rattle.pp_core.specs.Steps.{Step, Begin, App, Unapp, Push, Unpush, Pull, Unpull, Cmt, Quit, Note}
use Rattle.pp_core.specs.Trees.{Tree}
use Rattle.pp_core.specs.declared.call.Style.TheVariants.{Rules}
use Rattle.pp_core.specs.declared.member.Member.TheVariants as members
use Rattle.pp_records.specs.Records.{Plain}
use Rattle.pp_objects.specs.declared.act.Op.{Op}
use Rattle.pp_format_read.specs.declared.header.Header.{Header}
use Rattle.pp_format_read.specs.Members.{value_of, object_of, member_of, text_of, name_of, whole, whole_of}
use Rattle.pp_format_read.specs.Bodies.{body_of_begin}
use Rattle.pp_format_read.specs.Items.{id_from, id_of, item_of}
use Rattle.pp_format_read.specs.Rules.{begin_of, app_of, unapp_of, push_of, unpush_of, pull_of, unpull_of, cmt_of, quit_of, note_of, step_of}
use Rattle.pp_format_read.specs.Records.{record_of}
use Rattle.pp_format_write.specs.Statable.{IsCatalog, IsOpOn, IsStatable, IfGiven, IsStatableBody, IsId}
use Rattle.pp_format_write.specs.Operations.{op_members}
use Rattle.pp_format_write.specs.Steps.{tx_members, tx_value, entry_value, begin_members, step_value, step_bytes}
use Rattle.pp_format_write.proofs.Texts.{value_back}
use Rattle.pp_format_write.proofs.Steps.{near_step, shallow}
use Rattle.pp_format_write.proofs.NamesBack.{name_back}
use Rattle.pp_format_write.proofs.OperationsBack.{op_back}
use Rattle.pp_format_write.proofs.BodiesBack.{body_back}

-- An id of a record is read as itself.
pub id_back : (id : ℕ) → IsId id → id_from (pos id) ≡ Some id
unfolding id_from
id_back id h = ap (λ b. cond b (Some id) None) (le-leb id 999_999_999 h)

-- ---- the members of an entry's record
module _ (word tx : List ℕ) (id : ℕ) where
  entry_tx : IsName tx → name_of members.Tx (entry_value word tx id) ≡ Ok tx
  unfolding name_of text_of member_of
  entry_tx h = rw (name_back tx h) refl

  entry_id : IsId id → id_of (entry_value word tx id) ≡ Ok id
  unfolding id_of whole_of whole member_of
  entry_id h = rw (id_back id h) refl

  only_tx : IsName tx → name_of members.Tx (tx_value word tx) ≡ Ok tx
  unfolding name_of text_of member_of
  only_tx h = rw (name_back tx h) refl

-- ---- each step by its name
module _ (catalog : Objects) where
  begun : (cat : IsCatalog catalog) (tx thread : List ℕ) (body : Option Tree) → IsName tx → IsName thread → IfGiven (IsStatableBody catalog) body
      → step_of catalog (codes "begin") (object (begin_members catalog tx thread body)) ≡ Ok (Begin tx thread body)
  unfolding step_of begin_of name_of text_of member_of body_of_begin
  begun cat tx thread None h k l = rw (name_back tx h, name_back thread k) refl
  begun cat tx thread (Some b) h k l = rw (name_back tx h, name_back thread k, body_back catalog cat b l) refl

  applied : (cat : IsCatalog catalog) (tx : List ℕ) (id : ℕ) (op : Op) → IsName tx → IsId id → IsOpOn catalog op
      → step_of catalog (codes "app") (object (op_members catalog id op (tx_members (codes "app") tx))) ≡ Ok (App tx id op)
  unfolding step_of app_of item_of name_of text_of member_of id_of whole_of whole
  applied cat tx id op h k l = rw (name_back tx h, id_back id k, op_back catalog id op (tx_members (codes "app") tx) l cat) refl

  unapplied : (tx : List ℕ) (id : ℕ) → IsName tx → IsId id → step_of catalog (codes "unapp") (entry_value (codes "unapp") tx id) ≡ Ok (Unapp tx id)
  unfolding step_of unapp_of
  unapplied tx id h k = rw (entry_tx (codes "unapp") tx id h, entry_id (codes "unapp") tx id k) refl

  pushed : (tx : List ℕ) (id : ℕ) → IsName tx → IsId id → step_of catalog (codes "push") (entry_value (codes "push") tx id) ≡ Ok (Push tx id)
  unfolding step_of push_of
  pushed tx id h k = rw (entry_tx (codes "push") tx id h, entry_id (codes "push") tx id k) refl

  unpushed : (tx : List ℕ) (id : ℕ) → IsName tx → IsId id → step_of catalog (codes "unpush") (entry_value (codes "unpush") tx id) ≡ Ok (Unpush tx id)
  unfolding step_of unpush_of
  unpushed tx id h k = rw (entry_tx (codes "unpush") tx id h, entry_id (codes "unpush") tx id k) refl

  pulled : (tx : List ℕ) (id : ℕ) → IsName tx → IsId id → step_of catalog (codes "pull") (entry_value (codes "pull") tx id) ≡ Ok (Pull tx id)
  unfolding step_of pull_of
  pulled tx id h k = rw (entry_tx (codes "pull") tx id h, entry_id (codes "pull") tx id k) refl

  unpulled : (tx : List ℕ) (id : ℕ) → IsName tx → IsId id → step_of catalog (codes "unpull") (entry_value (codes "unpull") tx id) ≡ Ok (Unpull tx id)
  unfolding step_of unpull_of
  unpulled tx id h k = rw (entry_tx (codes "unpull") tx id h, entry_id (codes "unpull") tx id k) refl

  committed : (tx : List ℕ) → IsName tx → step_of catalog (codes "cmt") (tx_value (codes "cmt") tx) ≡ Ok (Cmt tx)
  unfolding step_of cmt_of
  committed tx h = rw (only_tx (codes "cmt") tx 0 h) refl

  ended : (tx : List ℕ) → IsName tx → step_of catalog (codes "quit") (tx_value (codes "quit") tx) ≡ Ok (Quit tx)
  unfolding step_of quit_of
  ended tx h = rw (only_tx (codes "quit") tx 0 h) refl

  noted : (tx : List ℕ) → IsName tx → step_of catalog (codes "note") (tx_value (codes "note") tx) ≡ Ok (Note tx)
  unfolding step_of note_of
  noted tx h = rw (only_tx (codes "note") tx 0 h) refl

-- ---- the record
module _ (header : Header) (rules : header.style ≡ Rules) where
  record_is : (line : List ℕ) (ms : Members) (word : List ℕ) (step : Step Op) → value_of line ≡ Ok (object ms)
      → text_of members.Step (object ms) ≡ Ok word → step_of header.catalog word (object ms) ≡ Ok step → record_of header line ≡ Ok (Plain step)
  unfolding record_of object_of
  record_is line ms word step is said known = rw (is, said, rules, known) refl

  said : (word tx : List ℕ) → text_of members.Step (tx_value word tx) ≡ Ok word
  unfolding text_of member_of
  said word tx = refl

  entry_said : (word tx : List ℕ) (id : ℕ) → text_of members.Step (entry_value word tx id) ≡ Ok word
  unfolding text_of member_of
  entry_said word tx id = refl

  begin_said : (catalog : Objects) (tx thread : List ℕ) (body : Option Tree) → text_of members.Step (object (begin_members catalog tx thread body)) ≡ Ok (codes "begin")
  unfolding text_of member_of
  begin_said catalog tx thread None = refl
  begin_said catalog tx thread (Some b) = refl

  app_said : (catalog : Objects) (tx : List ℕ) (id : ℕ) (op : Op) → text_of members.Step (object (op_members catalog id op (tx_members (codes "app") tx))) ≡ Ok (codes "app")
  unfolding text_of member_of
  app_said catalog tx id op = refl

  -- a step whose value is on the line
  read : (cat : IsCatalog header.catalog) (line : List ℕ) (step : Step Op) → IsStatable header.catalog step → value_of line ≡ Ok (step_value header.catalog step)
      → record_of header line ≡ Ok (Plain step)
  read cat line (Begin tx thread body) h is = record_is line _ (codes "begin") _ is (begin_said header.catalog tx thread body) (begun header.catalog cat tx thread body h.0 h.1 h.2)
  read cat line (App tx id op) h is = record_is line _ (codes "app") _ is (app_said header.catalog tx id op) (applied header.catalog cat tx id op h.0 h.1 h.2)
  read cat line (Unapp tx id) h is = record_is line _ (codes "unapp") _ is (entry_said (codes "unapp") tx id) (unapplied header.catalog tx id h.0 h.1)
  read cat line (Push tx id) h is = record_is line _ (codes "push") _ is (entry_said (codes "push") tx id) (pushed header.catalog tx id h.0 h.1)
  read cat line (Unpush tx id) h is = record_is line _ (codes "unpush") _ is (entry_said (codes "unpush") tx id) (unpushed header.catalog tx id h.0 h.1)
  read cat line (Pull tx id) h is = record_is line _ (codes "pull") _ is (entry_said (codes "pull") tx id) (pulled header.catalog tx id h.0 h.1)
  read cat line (Unpull tx id) h is = record_is line _ (codes "unpull") _ is (entry_said (codes "unpull") tx id) (unpulled header.catalog tx id h.0 h.1)
  read cat line (Cmt tx) h is = record_is line _ (codes "cmt") _ is (said (codes "cmt") tx) (committed header.catalog tx h)
  read cat line (Quit tx) h is = record_is line _ (codes "quit") _ is (said (codes "quit") tx) (ended header.catalog tx h)
  read cat line (Note tx) h is = record_is line _ (codes "note") _ is (said (codes "note") tx) (noted header.catalog tx h)

-- Under a header of style rules, the line of a step that can be stated is read as this step.
pub reads_back : (header : Header) (step : Step Op) → header.style ≡ Rules → IsCatalog header.catalog → IsStatable header.catalog step
    → record_of header (step_bytes header.catalog step) ≡ Ok (Plain step)
reads_back header step rules cat h =
    let line = step_bytes header.catalog step in
    read header rules cat line step h (value_back (step_value header.catalog step) (near_step header.catalog step cat.named h) (shallow header.catalog step h))

-- Under a header of style rules, a text that is the line of a statable step is read as this step.
pub text_back : (catalog : Objects) (step : Step Op) (text : List ℕ) → IsCatalog catalog → text ≡ step_bytes catalog step → (header : Header) → header.style ≡ Rules → header.catalog ≡ catalog → IsStatable catalog step
    → record_of header text ≡ Ok (Plain step)
text_back catalog step text cat is header rules same h =
    ap (record_of header) (is ∙ ap (λ (c : Objects). step_bytes c step) (sym same))
    ∙ reads_back header step rules (subst IsCatalog (sym same) cat) (subst (λ (c : Objects). IsStatable c step) (sym same) h)
