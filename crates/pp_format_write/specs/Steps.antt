-- Meaning: the line of a step, a record of style rules with its members in the order of their
-- names.
use Rattle.std.specs.Prelude.{ℕ, List, codes, Option, Some, None}
use Rattle.serde_json.specs.Data.{Data, number, unsigned, string, object, Members, no_members}
use Rattle.serde_json.specs.Data.{member}
use Rattle.serde_json.specs.Written.{compact_text}
use Rattle.pp_core.specs.Catalogs.{Objects}
use Rattle.pp_core.specs.Steps.{Step, Begin, App, Unapp, Push, Unpush, Pull, Unpull, Cmt, Quit}
use Rattle.pp_core.specs.Steps.{Note}
use Rattle.pp_core.specs.Trees.{Tree}
use Rattle.pp_objects.specs.declared.act.Op.{Op}
use Rattle.pp_format_write.specs.Operations.{op_members}
use Rattle.pp_format_write.specs.Bodies.{body_value}

-- the word of a step and the name of its transaction, the last members of most records
abbrev pub tx_members : List ℕ → List ℕ → Members
tx_members word tx =
    member (codes "step") (string word) (member (codes "tx") (string tx) no_members)

-- a record of a transaction alone
abbrev pub tx_value : List ℕ → List ℕ → Data
tx_value word tx = object (tx_members word tx)

-- a record of an entry of a transaction
abbrev pub entry_value : List ℕ → List ℕ → ℕ → Data
entry_value word tx id = object (member (codes "id") (number (unsigned id)) (tx_members word tx))

-- the body of a begin, if one was given, and after it its other members
abbrev pub with_body : Objects → Option Tree → Members → Members
with_body catalog None others = others
with_body catalog (Some body) others = member (codes "body") (body_value catalog body) others

-- the members of a record of a begin
abbrev pub begin_members : Objects → List ℕ → List ℕ → Option Tree → Members
begin_members catalog tx thread body =
    with_body catalog body
    (member (codes "step") (string (codes "begin")) (member (codes "thread") (string thread)
    (member (codes "tx") (string tx) no_members)))

-- the value on the line of a step
abbrev pub step_value : Objects → Step Op → Data
step_value catalog (Begin tx thread body) = object (begin_members catalog tx thread body)
step_value catalog (App tx id op) =
    object (op_members catalog id op (tx_members (codes "app") tx))
step_value catalog (Unapp tx id) = entry_value (codes "unapp") tx id
step_value catalog (Push tx id) = entry_value (codes "push") tx id
step_value catalog (Unpush tx id) = entry_value (codes "unpush") tx id
step_value catalog (Pull tx id) = entry_value (codes "pull") tx id
step_value catalog (Unpull tx id) = entry_value (codes "unpull") tx id
step_value catalog (Cmt tx) = tx_value (codes "cmt") tx
step_value catalog (Quit tx) = tx_value (codes "quit") tx
step_value catalog (Note tx) = tx_value (codes "note") tx

-- the line of a step, as `{"id":1,"step":"push","tx":"t1"}`, without a line end
abbrev pub step_bytes : Objects → Step Op → List ℕ
step_bytes catalog step = compact_text (step_value catalog step)
