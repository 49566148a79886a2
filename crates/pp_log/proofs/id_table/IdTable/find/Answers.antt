use Rattle.std.proofs.Common.{◌≡◌, get_or, sym, ◌∙◌, subst, arith, nat_cmp}
use Rattle.std.specs.List.Sorted.{IsBinarySearchResult}
use Rattle.std.proofs.lemmas.Grind.{get_or_default_zero}
use Rattle.std.proofs.lemmas.List.Sorted.{searched}
use Rattle.pp_log.proofs.Numbers.{no_position, position_by_number, rising_by_index}
use Rattle.pp_log.proofs.Numbers.{searched_position}
use Rattle.pp_log.proofs.id_table.IdTable.find.Goals as goal

pub returns-in_err-serial : goal.returns-in_err-serial
returns-in_err-serial c = λ ids h.
    c.from_residual.ensures ∙ sym (no_position ids c.args.self.now.serials.items c.args.id h.size (sym (h.has c.args.id) ∙ sym c.in_err-serial.ensures))

pub returns-then-index-serial : goal.returns-then-index-serial
returns-then-index-serial c = λ ids h.
    let serials = c.args.self.now.serials.items in
    let n = c.in_ok-serial.serial in
    let read = get_or_default_zero serials n c.index.result.now (omega arith) in
    let at : get_or serials n 0 ≡ n = cc in
    sym (position_by_number ids serials c.args.self.now.next c.args.id n n h.size h.rising (sym (h.has c.args.id) ∙ sym c.in_ok-serial.ensures) (omega arith) at)

pub returns : goal.returns
returns c = λ ids h.
    let serials = c.args.self.now.serials.items in
    let n = c.in_ok-serial.serial in
    let searches = subst (λ z. IsBinarySearchResult (λ y. nat_cmp y n) z c.binary_search.result) c.deref.ensures.value c.binary_search.ensures.position in
    let found = searched serials n c.binary_search.result searches (rising_by_index serials c.args.self.now.next h.rising) in
    c.ok.ensures.value ∙ searched_position ids serials c.args.self.now.next c.args.id n c.binary_search.result h.size h.rising (sym (h.has c.args.id) ∙ sym c.in_ok-serial.ensures) found
