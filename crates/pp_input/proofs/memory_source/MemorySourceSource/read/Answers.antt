use Rattle.std.proofs.Common.{◌≡◌, ◌<◌, ◌≤◌, ◌+◌, length, take, drop, slice_get, sym, ap, ◌∙◌}
use Rattle.std.proofs.Common.{rules, arith}
use Rattle.std.proofs.lemmas.List.{take_rest}
use Rattle.pp_input.specs.Memory.{most_of, SourceInMemory}
use Rattle.std.proofs.lemmas.List.{drop_all}
use Rattle.pp_input.proofs.Given.{given, some_given}
use Rattle.pp_input.proofs.memory_source.MemorySourceSource.read.Goals as goal

pub returns-clause-bytes : goal.returns-clause-bytes
returns-clause-bytes c =
    let inside = c.self.inside in
    let n = c.min-n.result in
    let gave : take n c.give.new.into ≡ take n (drop inside.at inside.bytes.items) = rw (take_rest, c.deref-3.ensures.value) at c.give.ensures in
    let most : c.most_at.result ≡ most_of (slice_get inside.pieces.items inside.calls) (length c.give.new.into) = search rules in (
      ap (λ (s : SourceInMemory). s.left) (sym c.self.view_is) ∙ given inside.bytes.items _ inside.at n gave,
      λ zero some.
          let positive : 0 < c.most_at.result = rw most (some_given (slice_get inside.pieces.items inside.calls) (length c.give.new.into) some) in
          let all : length inside.bytes.items ≤ inside.at + n = omega arith in
          drop_all (inside.at + n) inside.bytes.items all,
    )
