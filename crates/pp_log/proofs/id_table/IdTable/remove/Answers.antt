use Rattle.std.proofs.Common.{◌≡◌, length, suc, [], ◌∷◌, ◌++◌, sym, ap, subst, arith}
use Rattle.std.specs.List.{remove}
use Rattle.std.proofs.lemmas.List.Edits.{length-remove}
use Rattle.pp_log.specs.Index.{IsRising}
use Rattle.pp_log.proofs.Numbers.{table_removed, rising_without, rising_without_last}
use Rattle.pp_log.proofs.id_table.IdTable.remove.Goals as goal

pub returns-then-i-len : goal.returns-then-i-len
returns-then-i-len c = λ ids h once at.
    let old = c.args.self.now in
    let x = old.serials.items in
    let n = c.remove-serial.result in
    let items = c.remove-serial.ensures.items in
    let less = length-remove x c.args.i c.requires in
    let size = ap length items in
    let last : length x ≡ suc c.args.i = omega arith in
    let rising = subst (λ z. IsRising (remove x c.args.i ++ z ∷ [])) (sym c.remove-serial.ensures.value) (rising_without_last x old.next c.args.i n h.rising last) in
    table_removed old (record { serials = c.remove-serial.new.self; serial_of = c.remove.new.self; next = n }) ids c.args.i c.args.id h once at items rising c.remove.ensures

pub returns-else-i-len : goal.returns-else-i-len
returns-else-i-len c = λ ids h once at.
    let old = c.args.self.now in
    let x = old.serials.items in
    table_removed old (record { serials = c.remove-serial.new.self; serial_of = c.remove.new.self; next = old.next }) ids c.args.i c.args.id h once at c.remove-serial.ensures.items (rising_without x old.next c.args.i h.rising c.requires) c.remove.ensures
