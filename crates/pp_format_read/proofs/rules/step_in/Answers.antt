use Rattle.pp_format_read.proofs.Readable.{over}
use Rattle.pp_format_read.proofs.rules.step_in.Goals as goal

pub returns-in-unapp-clause-readable : goal.returns-in-unapp-clause-readable
returns-in-unapp-clause-readable c = over c.args.catalog.now c.unapp_in.result c.unapp_in.ensures.readable

pub returns-in-push-clause-readable : goal.returns-in-push-clause-readable
returns-in-push-clause-readable c = over c.args.catalog.now c.push_in.result c.push_in.ensures.readable

pub returns-in-unpush-clause-readable : goal.returns-in-unpush-clause-readable
returns-in-unpush-clause-readable c = over c.args.catalog.now c.unpush_in.result c.unpush_in.ensures.readable

pub returns-in-pull-clause-readable : goal.returns-in-pull-clause-readable
returns-in-pull-clause-readable c = over c.args.catalog.now c.pull_in.result c.pull_in.ensures.readable

pub returns-in-unpull-clause-readable : goal.returns-in-unpull-clause-readable
returns-in-unpull-clause-readable c = over c.args.catalog.now c.unpull_in.result c.unpull_in.ensures.readable

pub returns-in-cmt-clause-readable : goal.returns-in-cmt-clause-readable
returns-in-cmt-clause-readable c = over c.args.catalog.now c.cmt_in.result c.cmt_in.ensures.readable

pub returns-in-quit-clause-readable : goal.returns-in-quit-clause-readable
returns-in-quit-clause-readable c = over c.args.catalog.now c.quit_in.result c.quit_in.ensures.readable

pub returns-in-note-clause-readable : goal.returns-in-note-clause-readable
returns-in-note-clause-readable c = over c.args.catalog.now c.note_in.result c.note_in.ensures.readable
