use Rattle.std.proofs.Common.{List, length, ap, ◌∙◌, arith}
use Rattle.pp_core.specs.declared.entry.Item.{Item}
use Rattle.pp_objects.specs.declared.act.Op.{Op}
use Rattle.pp_objects.specs.laws.Objects.{objects_lawful}
use Rattle.pp_objects.specs.Objects.{objects}
use Rattle.pp_cmd_swaps.proofs.Targeting.{permutes, swap}
use Rattle.pp_cmd_swaps.proofs.Telling.{done_is, few_entries, few_serial, large_told, log_is, small_told, target_is, writable}
use Rattle.pp_cmd_swaps.proofs.command.told.Goals as goal

pub overflow_cast-serial : goal.overflow_cast-serial
overflow_cast-serial c =
    let m = c.args.machine.now in
    let done = done_is m.config c.committed-committed.result.now c.as_slice-transactions.result.now c.in_ok-target.target c.committed-committed.ensures.done c.as_slice-transactions.ensures c.in_ok-target.ensures in
    omega (arith, c.len-number.ensures, few_serial m.config m.shape m.count c.in_ok-target.target c.count-steps.ensures.sound c.count-steps.ensures.short c.requires.few done)

pub exchanges-requires-clause-few : goal.exchanges-requires-clause-few
exchanges-requires-clause-few c =
    let m = c.args.machine.now in
    let is = log_is m.config m.shape c.shared-shared.result.now c.entries-entries.result.now c.shared-shared.ensures c.entries-entries.ensures c.in_ok-log.log c.in_ok-log.ensures in
    omega (arith, few_entries m.config m.count c.in_ok-log.log c.count-steps.ensures.short c.requires.few is)

pub exchanges-requires-clause-permutes : goal.exchanges-requires-clause-permutes
exchanges-requires-clause-permutes c =
    let m = c.args.machine.now in
    let shared = c.shared-shared.result.now in
    let entries = c.entries-entries.result.now in
    let log = log_is m.config m.shape shared entries c.shared-shared.ensures c.entries-entries.ensures c.in_ok-log.log c.in_ok-log.ensures in
    let done = done_is m.config c.committed-committed.result.now c.as_slice-transactions.result.now c.in_ok-target.target c.committed-committed.ensures.done c.as_slice-transactions.ensures c.in_ok-target.ensures in
    let target = target_is m.config m.shape shared entries c.shared-shared.ensures c.entries-entries.ensures c.in_ok-target.target c.add_uncommitted.new.list done c.in_ok-add_uncommitted.ensures in
    permutes objects objects_lawful m.shape m.config c.count-steps.ensures.sound c.in_ok-log.log c.add_uncommitted.new.list log target

pub exchanges-requires-clause-swaps : goal.exchanges-requires-clause-swaps
exchanges-requires-clause-swaps c =
    let m = c.args.machine.now in
    let shared = c.shared-shared.result.now in
    let entries = c.entries-entries.result.now in
    let log = log_is m.config m.shape shared entries c.shared-shared.ensures c.entries-entries.ensures c.in_ok-log.log c.in_ok-log.ensures in
    let done = done_is m.config c.committed-committed.result.now c.as_slice-transactions.result.now c.in_ok-target.target c.committed-committed.ensures.done c.as_slice-transactions.ensures c.in_ok-target.ensures in
    let target = target_is m.config m.shape shared entries c.shared-shared.ensures c.entries-entries.ensures c.in_ok-target.target c.add_uncommitted.new.list done c.in_ok-add_uncommitted.ensures in
    swap objects objects_lawful m.shape m.config c.count-steps.ensures.sound c.in_ok-log.log c.add_uncommitted.new.list log target

pub certificate_text-requires : goal.certificate_text-requires
certificate_text-requires c =
    let m = c.args.machine.now in
    let shared = c.shared-shared.result.now in
    let log = log_is m.config m.shape shared c.entries-entries.result.now c.shared-shared.ensures c.entries-entries.ensures c.in_ok-log.log c.in_ok-log.ensures in
    writable c.args.catalog.now m.config m.shape shared c.as_slice-items.result.now c.requires.over c.count-steps.ensures.sound c.shared-shared.ensures c.len-length.ensures.ranged (c.as_slice-items.ensures ∙ log)

pub returns-in-Ok : goal.returns-in-Ok
returns-in-Ok c =
    let m = c.args.machine.now in
    let shared = c.shared-shared.result.now in
    let entries = c.entries-entries.result.now in
    let log = log_is m.config m.shape shared entries c.shared-shared.ensures c.entries-entries.ensures c.in_ok-log.log c.in_ok-log.ensures in
    let done = done_is m.config c.committed-committed.result.now c.as_slice-transactions.result.now c.in_ok-target.target c.committed-committed.ensures.done c.as_slice-transactions.ensures c.in_ok-target.ensures in
    let target = target_is m.config m.shape shared entries c.shared-shared.ensures c.entries-entries.ensures c.in_ok-target.target c.add_uncommitted.new.list done c.in_ok-add_uncommitted.ensures in
    small_told c.args.catalog.now m.config c.in_ok-log.log c.add_uncommitted.new.list log target c.as_slice-items.result.now c.as_slice-positions.result.now c.len-number.result c.in_ok-text-in-Ok.text
    c.in-Ok.ensures.few c.as_slice-items.ensures (c.as_slice-positions.ensures ∙ c.in-Ok.ensures.route) (c.len-number.ensures ∙ ap (λ (l : List (Item Op)). length l) done) c.in_ok-text-in-Ok.ensures

pub returns-in-Err-TooMany : goal.returns-in-Err-TooMany
returns-in-Err-TooMany c =
    let m = c.args.machine.now in
    let shared = c.shared-shared.result.now in
    let entries = c.entries-entries.result.now in
    let log = log_is m.config m.shape shared entries c.shared-shared.ensures c.entries-entries.ensures c.in_ok-log.log c.in_ok-log.ensures in
    let done = done_is m.config c.committed-committed.result.now c.as_slice-transactions.result.now c.in_ok-target.target c.committed-committed.ensures.done c.as_slice-transactions.ensures c.in_ok-target.ensures in
    let target = target_is m.config m.shape shared entries c.shared-shared.ensures c.entries-entries.ensures c.in_ok-target.target c.add_uncommitted.new.list done c.in_ok-add_uncommitted.ensures in
    let told = rw c.in-Err-TooMany.field-0-is at c.in-Err-TooMany.ensures.fault in
    large_told c.args.catalog.now m.config c.in_ok-log.log c.add_uncommitted.new.list log target c.in-Err-TooMany.count c.in_ok-text-in-Err-TooMany.text told.0 told.1 c.in_ok-text-in-Err-TooMany.ensures
