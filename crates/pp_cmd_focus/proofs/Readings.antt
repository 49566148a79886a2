-- Records are read over one object alone.
use Rattle.std.specs.Prelude.{◌≡◌, ℕ, Bool, true, false, List, codes, slice_get, if◌then◌else◌, ok_or, option_and_then, option_map, Option, None, Some, Result, Ok, Err, IfOk, IfSome}
use Rattle.std.specs.Map.{keys_of}
use Rattle.std.specs.Str.{bytes_eq}
use Rattle.std.proofs.Common.{refl, sym, ap, ◌∙◌, subst}
use Rattle.std.proofs.lemmas.Option.{IfSome_then, same_Some, slice_get-map}
use Rattle.std.proofs.lemmas.Slice.Eq.{bytes_eq-Decides}
use Rattle.serde_json.specs.Data.{Data}
use Rattle.pp_core.specs.Catalogs.{Objects, place_of}
use Rattle.pp_core.specs.declared.answer.Answer.{Answer}
use Rattle.pp_core.specs.declared.call.Call.{Call}
use Rattle.pp_core.specs.declared.call.Kind.{Kind}
use Rattle.pp_core.specs.declared.call.Style.{Style}
use Rattle.pp_core.specs.declared.call.Style.TheVariants.{Rules, Boosted, Optimistic, Hardware, Dependent}
use Rattle.pp_core.specs.declared.entry.Item.{Item}
use Rattle.pp_core.specs.declared.member.Member.TheVariants as members
use Rattle.pp_core.specs.Steps.{Step, Begin, App, Unapp, Push, Unpush, Pull, Unpull, Cmt, Quit, Note}
use Rattle.pp_records.specs.Records.{RunRecord}
use Rattle.pp_records.specs.Records as records
use Rattle.pp_kind.specs.Numbers.{is_ranged_answer}
use Rattle.pp_objects.specs.Calls.{op_made, ranged_op, act_made, form_of}
use Rattle.pp_objects.specs.One.{is_ranged}
use Rattle.pp_objects.specs.Objects.{act_at}
use Rattle.pp_objects.specs.declared.act.Act.{Act}
use Rattle.pp_objects.specs.declared.act.Op.{Op}
use Rattle.pp_format_read.specs.declared.fault.RecordFault.{RecordFault}
use Rattle.pp_format_read.specs.declared.fault.RecordFault.TheVariants.{UnknownObject, WrongType}
use Rattle.pp_format_read.specs.declared.header.Header.{Header}
use Rattle.pp_format_read.specs.Reading.{◌>>=◌}
use Rattle.pp_format_read.specs.Members.{object_of, text_of, name_of, name_from, member_of}
use Rattle.pp_format_read.specs.Calls.{object_at as entry_at, object_named, object_called, method_of, arguments_of, argument, call_of, answer_in, op_of}
use Rattle.pp_format_read.specs.Items.{id_of, item_of}
use Rattle.pp_format_read.specs.Bodies.{body_of_begin}
use Rattle.pp_format_read.specs.Rules.{begin_of, app_of, unapp_of, push_of, unpush_of, pull_of, unpull_of, cmt_of, quit_of, note_of, step_of}
use Rattle.pp_format_read.specs.Boosted.{tx_alone, plain_begin_of, op_record_of, boosted_of}
use Rattle.pp_format_read.specs.Optimistic.{refresh_of, optimistic_of}
use Rattle.pp_format_read.specs.Hardware.{hardware_of}
use Rattle.pp_format_read.specs.Dependent.{tx_and_source, with_source, dependent_of}
use Rattle.pp_format_read.specs.Records.{record_named, record_of}
use Rattle.pp_format_read.proofs.ReadableStarts.{behind, behind_any, found}
use Rattle.pp_objects.proofs.Made.{made_is}
use Rattle.pp_format_write.proofs.NamesBack.{named_place}
use Rattle.pp_cmd_focus.specs.Headers.{object_at}
use Rattle.pp_cmd_focus.specs.Moved.{moved, moved_item, moved_step, moved_record, StaysStep, Stays}
use Rattle.pp_cmd_focus.proofs.Acts.{act_same}

-- ---- two readings

-- What the first reads, if it stays, the second reads moved.
abbrev Follows : {A B : Type 0} → (A → Type 0) → (A → B) → Result A RecordFault → Result B RecordFault → Type 0
Follows P f (Ok a) r = P a → r ≡ Ok (f a)
Follows P f (Err e) r = Unit {0}

-- the same value is read first
same_first : {A B C : Type 0} (x : Result A RecordFault) (g : A → Result B RecordFault) (g' : A → Result C RecordFault) (P : B → Type 0) (f : B → C) → ((a : A) → Follows P f (g a) (g' a)) → Follows P f (x >>= g) (x >>= g')
same_first (Ok a) g g' P f h = h a
same_first (Err e) g g' P f h = tt

-- a value is read that stays and moves, and then something is made of it
made_of : {A A' B C : Type 0} (x : Result A RecordFault) (x' : Result A' RecordFault) (P : A → Type 0) (f : A → A') (m : A → B) (m' : A' → C) (Q : B → Type 0) (k : B → C) → Follows P f x x' → ((a : A) → Q (m a) → P a) → ((a : A) → m' (f a) ≡ k (m a))
    → Follows Q k (x >>= λ a. Ok (m a)) (x' >>= λ a. Ok (m' a))
made_of {C = C} (Ok a) x' P f m m' Q k h stays same = λ q. ap (λ r. r >>= λ b. Ok (m' b)) (h (stays a q)) ∙ ap (λ c. let r : Result C RecordFault = Ok c in r) (same a)
made_of {C = C} (Err e) x' P f m m' Q k h stays same = tt

either : {A B : Type 0} (b : Bool) (x y : Result A RecordFault) (x' y' : Result B RecordFault) (P : A → Type 0) (f : A → B) → Follows P f x x' → Follows P f y y' → Follows P f (if b then x else y) (if b then x' else y')
either true x y x' y' P f h k = h
either false x y x' y' P f h k = k

-- ---- an operation

module _ (p q : ℕ) (kind : Kind) (value : Data) where
  abbrev at_q : Call → Call
  at_q c = record c { object = q }

  abbrev to_q : Op → Op
  to_q op = record op { object = q }

  abbrev Any : {A : Type 0} → A → Type 0
  Any a = Unit {0}

  call_moves : Follows Any at_q (call_of p kind value) (call_of q kind value)
  unfolding call_of
  call_moves =
      same_first (method_of kind value) _ _ Any at_q (λ method.
      same_first (arguments_of kind method value) _ _ Any at_q (λ list.
      same_first (argument 0 list) _ _ Any at_q (λ first.
      same_first (argument 1 list) _ _ Any at_q (λ second.
      same_first (argument 2 list) _ _ Any at_q (λ third any. refl)))))

  ranged_moves : (c : Call) (b : Bool) (a : Act) → Follows Any to_q (ok_or (if b then Some (act_at c.object a) else None) (WrongType members.Answer)) (ok_or (if b then Some (act_at q a) else None) (WrongType members.Answer))
  ranged_moves c true a = λ any. refl
  ranged_moves c false a = tt

  made_moves : (c : Call) (answer : Answer) → Follows Any to_q (ok_or (op_made kind c answer) (WrongType members.Answer)) (ok_or (op_made kind (at_q c) answer) (WrongType members.Answer))
  made_moves c answer = by (is_ranged_answer answer) (act_made kind c answer) (act_made kind (at_q c) answer) (act_same kind c q answer)
    where
      by : (b : Bool) (x y : Option Act) → y ≡ x → Follows Any to_q (ok_or (if b then option_and_then (ranged_op c.object) x else None) (WrongType members.Answer)) (ok_or (if b then option_and_then (ranged_op q) y else None) (WrongType members.Answer))
      by false x y same = tt
      by true None y same = tt
      by true (Some a) y same = rw same (ranged_moves c (is_ranged a) a)

-- what is read after the call
abbrev after : Kind → Data → Call → Result Op RecordFault
after kind value call = member_of members.Answer value >>= λ result. (answer_in (form_of kind call.method) result >>= λ answer. ok_or (op_made kind call answer) (WrongType members.Answer))

-- and after the object
abbrev rest : Data → ℕ × Kind → Result Op RecordFault
rest value object = call_of object.0 object.1 value >>= λ call. after object.1 value call

module _ (p q : ℕ) (kind : Kind) (value : Data) where
  after_moves : (c : Call) → Follows (λ (op : Op). Unit {0}) (λ (op : Op). record op { object = q }) (after kind value c) (after kind value (record c { object = q }))
  after_moves c =
      same_first (member_of members.Answer value) _ _ _ _ (λ result.
      same_first (answer_in (form_of kind c.method) result) _ _ _ _ (λ answer. made_moves p q kind value c answer))

  rest_moves : Follows (λ (op : Op). Unit {0}) (λ (op : Op). record op { object = q }) (rest value (p, kind)) (rest value (q, kind))
  rest_moves = by (call_of p kind value) (call_of q kind value) (call_moves p q kind value)
    where
      by : (x x' : Result Call RecordFault) → Follows (λ (c : Call). Unit {0}) (λ (c : Call). record c { object = q }) x x' → Follows (λ (op : Op). Unit {0}) (λ (op : Op). record op { object = q }) (x >>= λ c. after kind value c) (x' >>= λ c. after kind value c)
      by (Ok c) x' h = subst (λ (r : Result Call RecordFault). Follows (λ (op : Op). Unit {0}) (λ (op : Op). record op { object = q }) (after kind value c) (r >>= λ d. after kind value d)) (sym (h tt)) (after_moves c)
      by (Err e) x' h = tt

  -- its object is that of the call
  call_at : IfOk (call_of p kind value) (λ c. c.object ≡ p)
  unfolding call_of
  call_at =
      behind_any (method_of kind value) _ _ (λ method. behind_any (arguments_of kind method value) _ _ (λ list.
      behind_any (argument 0 list) _ _ (λ first. behind_any (argument 1 list) _ _ (λ second. behind_any (argument 2 list) _ _ (λ third. refl)))))

  made_at : (c : Call) → c.object ≡ p → (answer : Answer) → IfSome (op_made kind c answer) (λ op. op.object ≡ p)
  made_at c is answer = IfSome_then (op_made kind c answer) (made_is kind c answer) (λ op made. ap (λ (x : Call). x.object) made.call ∙ is)

  rest_at : IfOk (rest value (p, kind)) (λ op. op.object ≡ p)
  rest_at =
      behind (call_of p kind value) _ (λ c. c.object ≡ p) _ call_at (λ c is.
      behind_any (member_of members.Answer value) _ _ (λ result. behind_any (answer_in (form_of kind c.method) result) _ _ (λ answer.
      found (op_made kind c answer) (WrongType members.Answer) _ (made_at c is answer))))

-- ---- the object of a name

module _ (o : ℕ) (catalog : Objects) (value : Data) where
  IsHere : ℕ × Kind → Type 0
  IsHere e = e.0 ≡ o

  first_one : ℕ × Kind → ℕ × Kind
  first_one e = (0, e.1)

  entry_named : (i : ℕ) (name : List ℕ) (entry : List ℕ × Kind) → place_of name catalog ≡ Some i → slice_get catalog i ≡ Some entry → bytes_eq name entry.0 ≡ true
  entry_named i name entry place at =
      let here : slice_get (keys_of catalog) i ≡ Some entry.0 = slice_get-map (λ (e : List ℕ × Kind). e.0) catalog i ∙ ap (λ (w : Option (List ℕ × Kind)). option_map (λ e. e.0) w) at in
      let same : name ≡ entry.0 = same_Some name entry.0 (sym (named_place catalog name i place) ∙ here) in
      (bytes_eq-Decides name entry.0).1 same

  alone : (text name : List ℕ) (entry : List ℕ × Kind) → name_from text ≡ Some name → bytes_eq name entry.0 ≡ true → slice_get catalog o ≡ Some entry → object_named (object_at o catalog) text ≡ Some (0, entry.1)
  unfolding object_named
  alone text name entry named same at = rw (named, at, same) refl

  named_moves : (text : List ℕ) → Follows IsHere first_one (ok_or (object_named catalog text) UnknownObject) (ok_or (object_named (object_at o catalog) text) UnknownObject)
  unfolding object_named IsHere first_one
  named_moves text = by_name (name_from text) refl
    where
      by_entry : (name : List ℕ) (i : ℕ) (e : Option (List ℕ × Kind)) → name_from text ≡ Some name → place_of name catalog ≡ Some i → slice_get catalog i ≡ e
          → Follows IsHere first_one (ok_or (option_map (λ entry. (i, entry.1)) e) UnknownObject) (ok_or (object_named (object_at o catalog) text) UnknownObject)
      by_entry name i None named place at = tt
      by_entry name i (Some entry) named place at = λ is.
          ap (λ (w : Option (ℕ × Kind)). ok_or w UnknownObject) (alone text name entry named (entry_named i name entry place at) (subst (λ (n : ℕ). slice_get catalog n ≡ Some entry) is at))

      by_place : (name : List ℕ) (i : Option ℕ) → name_from text ≡ Some name → place_of name catalog ≡ i
          → Follows IsHere first_one (ok_or (option_and_then (entry_at catalog) i) UnknownObject) (ok_or (object_named (object_at o catalog) text) UnknownObject)
      by_place name None named place = tt
      by_place name (Some i) named place = by_entry name i (slice_get catalog i) named place refl

      by_name : (n : Option (List ℕ)) → name_from text ≡ n
          → Follows IsHere first_one (ok_or (option_and_then (λ name. option_and_then (entry_at catalog) (place_of name catalog)) n) UnknownObject) (ok_or (object_named (object_at o catalog) text) UnknownObject)
      by_name None named = tt
      by_name (Some name) named = by_place name (place_of name catalog) named refl

  called_moves : Follows IsHere first_one (object_called catalog value) (object_called (object_at o catalog) value)
  unfolding object_called
  called_moves = same_first (text_of members.On value) _ _ IsHere first_one (λ on. named_moves on)

  OpHere : Op → Type 0
  OpHere op = op.object ≡ o

  op_moves : Follows OpHere moved (op_of catalog value) (op_of (object_at o catalog) value)
  unfolding op_of OpHere IsHere first_one
  op_moves = by (object_called catalog value) (object_called (object_at o catalog) value) called_moves
    where
      both : (p : ℕ) (kind : Kind) (x' : Result (ℕ × Kind) RecordFault) (r r' : Result Op RecordFault) → r' ≡ rest value (0, kind) → (p ≡ o → x' ≡ Ok (0, kind)) → Follows (λ (op : Op). Unit {0}) moved r r' → IfOk r (λ op. op.object ≡ p)
          → Follows OpHere moved r (x' >>= rest value)
      both p kind x' (Ok op) r' is h k at = λ here. ap (λ (x : Result (ℕ × Kind) RecordFault). x >>= rest value) (h (sym at ∙ here)) ∙ sym is ∙ k tt
      both p kind x' (Err e) r' is h k at = tt

      by : (x x' : Result (ℕ × Kind) RecordFault) → Follows IsHere first_one x x' → Follows OpHere moved (x >>= rest value) (x' >>= rest value)
      by (Err e) x' h = tt
      by (Ok (p, kind)) x' h = both p kind x' (rest value (p, kind)) (rest value (0, kind)) refl h (rest_moves p 0 kind value) (rest_at p 0 kind value)

  ItemHere : Item Op → Type 0
  ItemHere p = p.op.object ≡ o

  item_moves : Follows ItemHere moved_item (item_of catalog value) (item_of (object_at o catalog) value)
  unfolding item_of ItemHere OpHere
  item_moves = same_first (id_of value) _ _ ItemHere moved_item (λ id. made_of (op_of catalog value) (op_of (object_at o catalog) value) OpHere moved (λ op. record { id = id; op = op }) (λ op. record { id = id; op = op }) ItemHere moved_item op_moves (λ op here. here) (λ op. refl))

  -- ---- a step

  app_moves : Follows (StaysStep o) moved_step (app_of catalog value) (app_of (object_at o catalog) value)
  unfolding app_of ItemHere
  app_moves = same_first (name_of members.Tx value) _ _ (StaysStep o) moved_step (λ tx. made_of (item_of catalog value) (item_of (object_at o catalog) value) ItemHere moved_item (λ p. App tx p.id p.op) (λ p. App tx p.id p.op) (StaysStep o) moved_step item_moves (λ p here. here) (λ p. refl))

  begun : {A B C : Type 0} (x : Result B RecordFault) (f : B → A) (P : A → Type 0) (g : A → C) (r : Result C RecordFault) → ((b : B) → P (f b) → ⊥) → Follows P g (x >>= λ b. Ok (f b)) r
  begun (Ok b) f P g r none = λ stays. absurd (none b stays)
  begun (Err e) f P g r none = tt

  begin_moves : Follows (StaysStep o) moved_step (begin_of catalog value) (begin_of (object_at o catalog) value)
  unfolding begin_of
  begin_moves =
      same_first (name_of members.Tx value) _ _ (StaysStep o) moved_step (λ tx. same_first (name_of members.Thread value) _ _ (StaysStep o) moved_step (λ thread.
      begun (body_of_begin catalog value) (λ body. Begin tx thread body) (StaysStep o) moved_step _ (λ body stays. stays)))

  -- a step of an id, or of a transaction alone, is read so over all objects
  of_entry : (f : List ℕ → ℕ → Step Op) → ((tx : List ℕ) (id : ℕ) → moved_step (f tx id) ≡ f tx id)
      → Follows (StaysStep o) moved_step (name_of members.Tx value >>= λ tx. (id_of value >>= λ id. Ok (f tx id))) (name_of members.Tx value >>= λ tx. (id_of value >>= λ id. Ok (f tx id)))
  of_entry f h = same_first (name_of members.Tx value) _ _ _ _ (λ tx. same_first (id_of value) _ _ _ _ (λ id stays. ap (λ (s : Step Op). let r : Result (Step Op) RecordFault = Ok s in r) (sym (h tx id))))

  of_tx : (f : List ℕ → Step Op) → ((tx : List ℕ) → moved_step (f tx) ≡ f tx)
      → Follows (StaysStep o) moved_step (name_of members.Tx value >>= λ tx. Ok (f tx)) (name_of members.Tx value >>= λ tx. Ok (f tx))
  of_tx f h = same_first (name_of members.Tx value) _ _ _ _ (λ tx stays. ap (λ (s : Step Op). let r : Result (Step Op) RecordFault = Ok s in r) (sym (h tx)))

  step_moves : (word : List ℕ) → Follows (StaysStep o) moved_step (step_of catalog word value) (step_of (object_at o catalog) word value)
  unfolding step_of unapp_of push_of unpush_of pull_of unpull_of cmt_of quit_of note_of
  step_moves word =
      either (bytes_eq word (codes "begin")) _ _ _ _ _ _ begin_moves
      (either (bytes_eq word (codes "app")) _ _ _ _ _ _ app_moves
      (either (bytes_eq word (codes "unapp")) _ _ _ _ _ _ (of_entry (λ tx id. Unapp tx id) (λ tx id. refl))
      (either (bytes_eq word (codes "push")) _ _ _ _ _ _ (of_entry (λ tx id. Push tx id) (λ tx id. refl))
      (either (bytes_eq word (codes "unpush")) _ _ _ _ _ _ (of_entry (λ tx id. Unpush tx id) (λ tx id. refl))
      (either (bytes_eq word (codes "pull")) _ _ _ _ _ _ (of_entry (λ tx id. Pull tx id) (λ tx id. refl))
      (either (bytes_eq word (codes "unpull")) _ _ _ _ _ _ (of_entry (λ tx id. Unpull tx id) (λ tx id. refl))
      (either (bytes_eq word (codes "cmt")) _ _ _ _ _ _ (of_tx (λ tx. Cmt tx) (λ tx. refl))
      (either (bytes_eq word (codes "quit")) _ _ _ _ _ _ (of_tx (λ tx. Quit tx) (λ tx. refl))
      (either (bytes_eq word (codes "note")) _ _ _ _ _ _ (of_tx (λ tx. Note tx) (λ tx. refl)) tt)))))))))

  -- ---- a record of the other styles

  of_name : (made : List ℕ → RunRecord Op) → ((tx : List ℕ) → moved_record (made tx) ≡ made tx) → Follows (Stays o) moved_record (tx_alone made value) (tx_alone made value)
  of_name made h = same_first (name_of members.Tx value) _ _ _ _ (λ tx stays. ap (λ (r : RunRecord Op). let x : Result (RunRecord Op) RecordFault = Ok r in x) (sym (h tx)))

  of_names : (made : List ℕ → List ℕ → RunRecord Op) → ((tx source : List ℕ) → moved_record (made tx source) ≡ made tx source) → Follows (Stays o) moved_record (with_source made value) (with_source made value)
  of_names made h = same_first (tx_and_source value) _ _ _ _ (λ names stays. ap (λ (r : RunRecord Op). let x : Result (RunRecord Op) RecordFault = Ok r in x) (sym (h names.0 names.1)))

  plain_moves : (x x' : Result (Step Op) RecordFault) → Follows (StaysStep o) moved_step x x' → Follows (Stays o) moved_record (x >>= λ s. Ok (records.Plain s)) (x' >>= λ s. Ok (records.Plain s))
  plain_moves x x' h = made_of x x' (StaysStep o) moved_step (λ s. records.Plain s) (λ s. records.Plain s) (Stays o) moved_record h (λ s stays. stays) (λ s. refl)

  op_record_moves : Follows (Stays o) moved_record (op_record_of catalog value) (op_record_of (object_at o catalog) value)
  unfolding op_record_of ItemHere
  op_record_moves = same_first (name_of members.Tx value) _ _ (Stays o) moved_record (λ tx. made_of (item_of catalog value) (item_of (object_at o catalog) value) ItemHere moved_item (λ p. records.Op tx p.id p.op) (λ p. records.Op tx p.id p.op) (Stays o) moved_record item_moves (λ p here. here) (λ p. refl))

  refresh_moves : Follows (Stays o) moved_record (refresh_of catalog value) (refresh_of (object_at o catalog) value)
  unfolding refresh_of IsHere first_one
  refresh_moves = same_first (name_of members.Tx value) _ _ (Stays o) moved_record (λ tx. made_of (object_called catalog value) (object_called (object_at o catalog) value) IsHere first_one (λ e. records.Refresh tx e.0) (λ e. records.Refresh tx e.0) (Stays o) moved_record called_moves (λ e here. here) (λ e. refl))

  boosted_moves : (word : List ℕ) → Follows (Stays o) moved_record (boosted_of catalog word value) (boosted_of (object_at o catalog) word value)
  unfolding boosted_of plain_begin_of
  boosted_moves word =
      either (bytes_eq word (codes "begin")) _ _ _ _ _ _ (plain_moves (begin_of catalog value) (begin_of (object_at o catalog) value) begin_moves)
      (either (bytes_eq word (codes "op")) _ _ _ _ _ _ op_record_moves
      (either (bytes_eq word (codes "commit")) _ _ _ _ _ _ (of_name records.Commit (λ tx. refl))
      (either (bytes_eq word (codes "abort")) _ _ _ _ _ _ (of_name records.Abort (λ tx. refl))
      (either (bytes_eq word (codes "retry")) _ _ _ _ _ _ (of_name records.Retry (λ tx. refl)) tt))))

  optimistic_moves : (word : List ℕ) → Follows (Stays o) moved_record (optimistic_of catalog word value) (optimistic_of (object_at o catalog) word value)
  unfolding optimistic_of
  optimistic_moves word = either (bytes_eq word (codes "refresh")) _ _ _ _ _ _ refresh_moves (boosted_moves word)

  hardware_moves : (word : List ℕ) → Follows (Stays o) moved_record (hardware_of catalog word value) (hardware_of (object_at o catalog) word value)
  unfolding hardware_of
  hardware_moves word =
      either (bytes_eq word (codes "xbegin")) _ _ _ _ _ _ (of_name records.XBegin (λ tx. refl))
      (either (bytes_eq word (codes "xend")) _ _ _ _ _ _ (of_name records.XEnd (λ tx. refl))
      (either (bytes_eq word (codes "xabort")) _ _ _ _ _ _ (of_name records.XAbort (λ tx. refl)) (boosted_moves word)))

  dependent_moves : (word : List ℕ) → Follows (Stays o) moved_record (dependent_of catalog word value) (dependent_of (object_at o catalog) word value)
  unfolding dependent_of
  dependent_moves word =
      either (bytes_eq word (codes "depend")) _ _ _ _ _ _ (of_names records.Depend (λ tx source. refl))
      (either (bytes_eq word (codes "drop")) _ _ _ _ _ _ (of_names records.DropSource (λ tx source. refl))
      (either (bytes_eq word (codes "publish")) _ _ _ _ _ _ (of_name records.Publish (λ tx. refl)) (boosted_moves word)))

  named_moves_in : (style : Style) (word : List ℕ) → Follows (Stays o) moved_record (record_named style catalog word value) (record_named style (object_at o catalog) word value)
  named_moves_in Rules word = plain_moves (step_of catalog word value) (step_of (object_at o catalog) word value) (step_moves word)
  named_moves_in Boosted word = boosted_moves word
  named_moves_in Optimistic word = optimistic_moves word
  named_moves_in Hardware word = hardware_moves word
  named_moves_in Dependent word = dependent_moves word

-- A line that is read as a record of an object, or of none, is read so over this object alone.
pub record_moves : (o : ℕ) (header alone : Header) (line : List ℕ) (r : RunRecord Op) → alone.style ≡ header.style → alone.catalog ≡ object_at o header.catalog → record_of header line ≡ Ok r → Stays o r → record_of alone line ≡ Ok (moved_record r)
unfolding record_of
record_moves o header alone line r style catalog read stays = follows (record_of header line) (record_of alone line) read moves
  where
    follows : (x x' : Result (RunRecord Op) RecordFault) → x ≡ Ok r → Follows (Stays o) moved_record x x' → x' ≡ Ok (moved_record r)
    follows x x' is h = subst (λ (y : Result (RunRecord Op) RecordFault). Follows (Stays o) moved_record y x') is h stays

    moves : Follows (Stays o) moved_record (record_of header line) (record_of alone line)
    moves = same_first (object_of line) _ _ _ _ (λ value. same_first (text_of members.Step value) _ _ _ _ (λ word. rw (style, catalog) (named_moves_in o header.catalog value header.style word)))
