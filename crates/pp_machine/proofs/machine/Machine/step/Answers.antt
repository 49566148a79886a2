use Rattle.std.proofs.Common.{ap, refl, subst, sym}
use Rattle.pp_core.specs.Steps.{meaning}
use Rattle.pp_machine.specs.Stepping.{Stepped}
use Rattle.pp_machine.proofs.Dispatch.{count_of, effect_of, free_of, shown_of, shows_by}
use Rattle.pp_machine.proofs.machine.Machine.step.Goals as goal

pub returns-in-Begin-clause-effect : goal.returns-in-Begin-clause-effect
returns-in-Begin-clause-effect g c = effect_of g.S.Spec.object c.args.self c.begin.result _ _ (ap meaning c.in-Begin.is) c.begin.ensures

pub returns-in-Begin-clause-shown : goal.returns-in-Begin-clause-shown
returns-in-Begin-clause-shown g c = shown_of g.S.Spec.object c.args.self g.met.S.Spec.lawful c.count-sound.ensures.sound (meaning c.args.step.now) c.requires.asked c.begin.result (effect_of g.S.Spec.object c.args.self c.begin.result _ _ (ap meaning c.in-Begin.is) c.begin.ensures)

pub returns-in-Begin-clause-one_more : goal.returns-in-Begin-clause-one_more
returns-in-Begin-clause-one_more g c = count_of g.S.Spec.object c.args.self c.begin.result (meaning c.args.step.now) (effect_of g.S.Spec.object c.args.self c.begin.result _ _ (ap meaning c.in-Begin.is) c.begin.ensures)

pub returns-in-Begin-clause-cost : goal.returns-in-Begin-clause-cost
returns-in-Begin-clause-cost g c = free_of g.S.Placed.place_of c.args.self c.begin.result _ _ _ (ap meaning c.in-Begin.is) refl refl

pub returns-in-App-clause-effect : goal.returns-in-App-clause-effect
returns-in-App-clause-effect g c = effect_of g.S.Spec.object c.args.self c.app.result _ _ (ap meaning c.in-App.is) c.app.ensures.effect

pub returns-in-App-clause-shown : goal.returns-in-App-clause-shown
returns-in-App-clause-shown g c = shown_of g.S.Spec.object c.args.self g.met.S.Spec.lawful c.count-sound.ensures.sound (meaning c.args.step.now) c.requires.asked c.app.result (effect_of g.S.Spec.object c.args.self c.app.result _ _ (ap meaning c.in-App.is) c.app.ensures.effect)

pub returns-in-App-clause-one_more : goal.returns-in-App-clause-one_more
returns-in-App-clause-one_more g c = count_of g.S.Spec.object c.args.self c.app.result (meaning c.args.step.now) (effect_of g.S.Spec.object c.args.self c.app.result _ _ (ap meaning c.in-App.is) c.app.ensures.effect)

pub returns-in-Unapp-clause-effect : goal.returns-in-Unapp-clause-effect
returns-in-Unapp-clause-effect g c = effect_of g.S.Spec.object c.args.self c.unapp.result _ _ (ap meaning c.in-Unapp.is) c.unapp.ensures.effect

pub returns-in-Unapp-clause-shown : goal.returns-in-Unapp-clause-shown
returns-in-Unapp-clause-shown g c = shown_of g.S.Spec.object c.args.self g.met.S.Spec.lawful c.count-sound.ensures.sound (meaning c.args.step.now) c.requires.asked c.unapp.result (effect_of g.S.Spec.object c.args.self c.unapp.result _ _ (ap meaning c.in-Unapp.is) c.unapp.ensures.effect)

pub returns-in-Unapp-clause-one_more : goal.returns-in-Unapp-clause-one_more
returns-in-Unapp-clause-one_more g c = count_of g.S.Spec.object c.args.self c.unapp.result (meaning c.args.step.now) (effect_of g.S.Spec.object c.args.self c.unapp.result _ _ (ap meaning c.in-Unapp.is) c.unapp.ensures.effect)

pub returns-in-Push-clause-effect : goal.returns-in-Push-clause-effect
returns-in-Push-clause-effect g c = effect_of g.S.Spec.object c.args.self c.push.result _ _ (ap meaning c.in-Push.is) c.push.ensures.effect

pub returns-in-Push-clause-shown : goal.returns-in-Push-clause-shown
returns-in-Push-clause-shown g c = shown_of g.S.Spec.object c.args.self g.met.S.Spec.lawful c.count-sound.ensures.sound (meaning c.args.step.now) c.requires.asked c.push.result (effect_of g.S.Spec.object c.args.self c.push.result _ _ (ap meaning c.in-Push.is) c.push.ensures.effect)

pub returns-in-Push-clause-one_more : goal.returns-in-Push-clause-one_more
returns-in-Push-clause-one_more g c = count_of g.S.Spec.object c.args.self c.push.result (meaning c.args.step.now) (effect_of g.S.Spec.object c.args.self c.push.result _ _ (ap meaning c.in-Push.is) c.push.ensures.effect)

pub returns-in-Unpush-clause-effect : goal.returns-in-Unpush-clause-effect
returns-in-Unpush-clause-effect g c = effect_of g.S.Spec.object c.args.self c.unpush.result _ _ (ap meaning c.in-Unpush.is) c.unpush.ensures.effect

pub returns-in-Unpush-clause-shown : goal.returns-in-Unpush-clause-shown
returns-in-Unpush-clause-shown g c = shown_of g.S.Spec.object c.args.self g.met.S.Spec.lawful c.count-sound.ensures.sound (meaning c.args.step.now) c.requires.asked c.unpush.result (effect_of g.S.Spec.object c.args.self c.unpush.result _ _ (ap meaning c.in-Unpush.is) c.unpush.ensures.effect)

pub returns-in-Unpush-clause-one_more : goal.returns-in-Unpush-clause-one_more
returns-in-Unpush-clause-one_more g c = count_of g.S.Spec.object c.args.self c.unpush.result (meaning c.args.step.now) (effect_of g.S.Spec.object c.args.self c.unpush.result _ _ (ap meaning c.in-Unpush.is) c.unpush.ensures.effect)

pub returns-in-Pull-clause-effect : goal.returns-in-Pull-clause-effect
returns-in-Pull-clause-effect g c = effect_of g.S.Spec.object c.args.self c.pull.result _ _ (ap meaning c.in-Pull.is) c.pull.ensures.effect

pub returns-in-Pull-clause-shown : goal.returns-in-Pull-clause-shown
returns-in-Pull-clause-shown g c = shown_of g.S.Spec.object c.args.self g.met.S.Spec.lawful c.count-sound.ensures.sound (meaning c.args.step.now) c.requires.asked c.pull.result (effect_of g.S.Spec.object c.args.self c.pull.result _ _ (ap meaning c.in-Pull.is) c.pull.ensures.effect)

pub returns-in-Pull-clause-one_more : goal.returns-in-Pull-clause-one_more
returns-in-Pull-clause-one_more g c = count_of g.S.Spec.object c.args.self c.pull.result (meaning c.args.step.now) (effect_of g.S.Spec.object c.args.self c.pull.result _ _ (ap meaning c.in-Pull.is) c.pull.ensures.effect)

pub returns-in-Unpull-clause-effect : goal.returns-in-Unpull-clause-effect
returns-in-Unpull-clause-effect g c = effect_of g.S.Spec.object c.args.self c.unpull.result _ _ (ap meaning c.in-Unpull.is) c.unpull.ensures.effect

pub returns-in-Unpull-clause-shown : goal.returns-in-Unpull-clause-shown
returns-in-Unpull-clause-shown g c = shown_of g.S.Spec.object c.args.self g.met.S.Spec.lawful c.count-sound.ensures.sound (meaning c.args.step.now) c.requires.asked c.unpull.result (effect_of g.S.Spec.object c.args.self c.unpull.result _ _ (ap meaning c.in-Unpull.is) c.unpull.ensures.effect)

pub returns-in-Unpull-clause-one_more : goal.returns-in-Unpull-clause-one_more
returns-in-Unpull-clause-one_more g c = count_of g.S.Spec.object c.args.self c.unpull.result (meaning c.args.step.now) (effect_of g.S.Spec.object c.args.self c.unpull.result _ _ (ap meaning c.in-Unpull.is) c.unpull.ensures.effect)

pub returns-in-Cmt-clause-effect : goal.returns-in-Cmt-clause-effect
returns-in-Cmt-clause-effect g c = effect_of g.S.Spec.object c.args.self c.commit.result _ _ (ap meaning c.in-Cmt.is) c.commit.ensures

pub returns-in-Cmt-clause-shown : goal.returns-in-Cmt-clause-shown
returns-in-Cmt-clause-shown g c = shown_of g.S.Spec.object c.args.self g.met.S.Spec.lawful c.count-sound.ensures.sound (meaning c.args.step.now) c.requires.asked c.commit.result (effect_of g.S.Spec.object c.args.self c.commit.result _ _ (ap meaning c.in-Cmt.is) c.commit.ensures)

pub returns-in-Cmt-clause-one_more : goal.returns-in-Cmt-clause-one_more
returns-in-Cmt-clause-one_more g c = count_of g.S.Spec.object c.args.self c.commit.result (meaning c.args.step.now) (effect_of g.S.Spec.object c.args.self c.commit.result _ _ (ap meaning c.in-Cmt.is) c.commit.ensures)

pub returns-in-Cmt-clause-cost : goal.returns-in-Cmt-clause-cost
returns-in-Cmt-clause-cost g c = free_of g.S.Placed.place_of c.args.self c.commit.result _ _ _ (ap meaning c.in-Cmt.is) refl refl

pub returns-in-Quit-clause-shown : goal.returns-in-Quit-clause-shown
returns-in-Quit-clause-shown g c = shows_by g.S.Spec.object c.args.self g.met.S.Spec.lawful c.count-sound.ensures.sound (meaning c.args.step.now) c.requires.asked c.quit.result.1 c.quit.result.0 (subst (λ s. Stepped g.S.Spec.object c.args.self s c.quit.result.1 c.quit.result.0) (sym (ap meaning c.in-Quit.is)) c.quit.ensures)

pub returns-in-Note-clause-shown : goal.returns-in-Note-clause-shown
returns-in-Note-clause-shown g c = shows_by g.S.Spec.object c.args.self g.met.S.Spec.lawful c.count-sound.ensures.sound (meaning c.args.step.now) c.requires.asked c.note.result.1 c.note.result.0 (subst (λ s. Stepped g.S.Spec.object c.args.self s c.note.result.1 c.note.result.0) (sym (ap meaning c.in-Note.is)) c.note.ensures)
