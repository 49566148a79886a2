-- Meaning: the words of kinds, methods, styles, members and rules, in records and in reports.
use Rattle.std.specs.Prelude.{ℕ, List, [], ◌∷◌, codes, Option, Some, None, if◌then◌else◌}
use Rattle.std.specs.Str.{bytes_eq}
use Rattle.pp_core.specs.declared.call.Kind.{Kind}
use Rattle.pp_core.specs.declared.call.Kind.TheVariants as kind
use Rattle.pp_core.specs.declared.call.Method.{Method}
use Rattle.pp_core.specs.declared.call.Method.TheVariants as method
use Rattle.pp_core.specs.declared.call.Style.{Style}
use Rattle.pp_core.specs.declared.call.Style.TheVariants as style
use Rattle.pp_core.specs.declared.member.Member.{Member}
use Rattle.pp_core.specs.declared.member.Member.TheVariants as member
use Rattle.pp_core.specs.declared.step.Rule.{Rule}
use Rattle.pp_core.specs.declared.step.Rule.TheVariants as rule

-- the first of these with this word
abbrev pub named : {X : Type 0} → (X → List ℕ) → List X → List ℕ → Option X
named word_of [] word = None
named word_of (x ∷ xs) word = if bytes_eq word (word_of x) then Some x else named word_of xs word

-- the word of a kind in a header, and all kinds
abbrev pub kind_word : Kind → List ℕ
kind_word kind.Memory = codes "mem"
kind_word kind.KeySet = codes "set"
kind_word kind.KeyMap = codes "map"
kind_word kind.Counter = codes "counter"
kind_word kind.Queue = codes "queue"
kind_word kind.Stack = codes "stack"
kind_word kind.PriorityQueue = codes "prio"

-- all kinds of objects
abbrev pub kinds : List Kind
kinds = kind.Memory ∷ kind.KeySet ∷ kind.KeyMap ∷ kind.Counter ∷ kind.Queue ∷ kind.Stack
    ∷ kind.PriorityQueue ∷ []

-- the word of a method in a record
abbrev pub method_word : Method → List ℕ
method_word method.Read = codes "read"
method_word method.Write = codes "write"
method_word method.Cas = codes "cas"
method_word method.Add = codes "add"
method_word method.Remove = codes "remove"
method_word method.Contains = codes "contains"
method_word method.Put = codes "put"
method_word method.Get = codes "get"
method_word method.FetchAdd = codes "fetch_add"
method_word method.Enq = codes "enq"
method_word method.Deq = codes "deq"
method_word method.StackPush = codes "push"
method_word method.StackPop = codes "pop"
method_word method.Insert = codes "insert"
method_word method.Take = codes "take"
method_word method.Least = codes "least"

-- the word of a style in a header, and all styles
abbrev pub style_word : Style → List ℕ
style_word style.Rules = codes "rules"
style_word style.Boosted = codes "boosted"
style_word style.Optimistic = codes "optimistic"
style_word style.Hardware = codes "hardware"
style_word style.Dependent = codes "dependent"

-- all styles
abbrev pub styles : List Style
styles = style.Rules ∷ style.Boosted ∷ style.Optimistic ∷ style.Hardware ∷ style.Dependent ∷ []

-- the name of a member in a line
abbrev pub member_word : Member → List ℕ
member_word member.Run = codes "run"
member_word member.Style = codes "style"
member_word member.Objects = codes "objects"
member_word member.Name = codes "name"
member_word member.Kind = codes "kind"
member_word member.Step = codes "step"
member_word member.Tx = codes "tx"
member_word member.Thread = codes "thread"
member_word member.Id = codes "id"
member_word member.On = codes "on"
member_word member.Call = codes "call"
member_word member.Args = codes "args"
member_word member.Answer = codes "result"
member_word member.Source = codes "source"
member_word member.Start = codes "start"
member_word member.Ops = codes "ops"

-- the name of a rule in a report
abbrev pub rule_word : Rule → List ℕ
rule_word rule.Start = codes "START"
rule_word rule.Begin = codes "BEGIN"
rule_word rule.App = codes "APP"
rule_word rule.Unapp = codes "UNAPP"
rule_word rule.Push = codes "PUSH"
rule_word rule.Unpush = codes "UNPUSH"
rule_word rule.Pull = codes "PULL"
rule_word rule.Unpull = codes "UNPULL"
rule_word rule.Cmt = codes "CMT"
rule_word rule.Quit = codes "QUIT"
rule_word rule.Note = codes "NOTE"
