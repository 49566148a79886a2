use Rattle.std.proofs.Common.{refl}
use Rattle.pp_styles.specs.declared.hardware.Hardware.{Hardware}
use Rattle.pp_styles.proofs.Sections.{begun}
use Rattle.pp_styles.proofs.hardware.Hardware.begin.Goals as goal

pub returns : goal.returns
returns g c =
    let new : Hardware = record { alloc = c.args.self.now.alloc; kinds = c.args.self.now.kinds; sections = c.begin_section.new.sections } in
    begun c.begin_section.result c.args.machine.now.config c.args.tx.now c.args.self.now new
    c.args.machine.now.shape c.in-Some.local.now c.len.result c.in-Some.ensures c.len.ensures.len refl c.begin_section.ensures
