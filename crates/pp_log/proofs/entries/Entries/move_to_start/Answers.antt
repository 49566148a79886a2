use Rattle.std.proofs.Common.{◌≡◌, length, drop, rules, sym, ◌∙◌, ap, take, vec_len}
use Rattle.std.specs.List.{copy_within}
use Rattle.pp_log.proofs.Rest.{drop_none, take-copied}
use Rattle.pp_log.proofs.entries.Entries.move_to_start.Goals as goal

pub returns : goal.returns
returns g c =
    let x = c.self.inside.all.items in
    let n = c.self.inside.front in
    let len : c.len-len.result ≡ length (drop n x) = c.len-len.ensures ∙ ap (λ v. length v.items) (sym c.self.view_is) in
    let whole : vec_len c.self.inside.all ≡ length x = search rules in
    drop_none c.truncate.new.self.items ∙ c.truncate.ensures.items
    ∙ ap (λ y. take c.len-len.result y) c.copy_within.ensures.items
    ∙ ap (λ k. take c.len-len.result (copy_within x n k 0)) whole
    ∙ ap (λ k. take k (copy_within x n (length x) 0)) len
    ∙ take-copied x n c.self.invariant
    ∙ ap (λ v. v.items) c.self.view_is
