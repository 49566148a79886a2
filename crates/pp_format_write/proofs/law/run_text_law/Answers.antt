use Rattle.pp_format_write.proofs.RunTexts.{all_show, text_behind, text_passes, text_scanned, text_short}
use Rattle.pp_format_write.proofs.law.run_text_law.Goals as goal

pub returns-clause-lines : goal.returns-clause-lines
returns-clause-lines c = text_scanned

pub returns-clause-shown : goal.returns-clause-shown
returns-clause-shown c = all_show

pub returns-clause-limits : goal.returns-clause-limits
returns-clause-limits c = text_passes

pub returns-clause-short : goal.returns-clause-short
returns-clause-short c = text_short

pub returns-clause-more : goal.returns-clause-more
returns-clause-more c = text_behind
