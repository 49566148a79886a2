use Rattle.std.proofs.Common.{◌+◌, ◌∙◌, ap, arith, drop, length}
use Rattle.std.specs.List.{remove}
use Rattle.std.proofs.lemmas.List.{length-drop}
use Rattle.pp_log.proofs.Rest.{drop-copied, drop-remove}
use Rattle.pp_log.proofs.entries.Entries.remove.Goals as goal

pub returns-then-len-at-clause-items : goal.returns-then-len-at-clause-items
returns-then-len-at-clause-items g c =
    ap (λ x. drop c.self.inside.front x) c.remove.ensures.items
    ∙ drop-remove c.self.inside.all.items c.self.inside.front c.args.i
    ∙ ap (λ v. remove v.items c.args.i) c.self.view_is

pub returns-clause-items : goal.returns-clause-items
returns-clause-items g c =
    let x = c.self.inside.all.items in
    let front = c.self.inside.front in
    let within = c.requires in
    let seen = ap (λ v. length v.items) c.self.view_is in
    let size = length-drop front x in
    ap (λ y. drop (front + 1) y) c.copy_within.ensures.items
    ∙ drop-copied x front c.args.i (omega arith)
    ∙ ap (λ v. remove v.items c.args.i) c.self.view_is
