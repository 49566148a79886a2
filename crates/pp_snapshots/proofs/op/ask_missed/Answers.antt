use Rattle.std.proofs.Common.{◌≡◌, ◌↔◌, ◌++◌, ◌∷◌, ◌+◌, ◌-◌, ◌*◌, ◌≤◌, [], IsTrue, ap, cond, nat_le, sym, ◌∙◌, arith, length, subst}
use Rattle.std.proofs.lemmas.List.{length-append, length-map}
use Rattle.pp_kind.specs.Object.{IsAllowed}
use Rattle.pp_kind_parts.specs.Alone.{same_part}
use Rattle.pp_laws_summary.specs.Places.{ops_at}
use Rattle.pp_model.specs.Object.{ops}
use Rattle.pp_snapshots.specs.ByPart.{ops_in}
use Rattle.pp_snapshots.specs.Past.{made_at}
use Rattle.pp_snapshots.specs.Costs.{ops_of_part}
use Rattle.pp_snapshots.specs.Many.{TellsBehind}
use Rattle.pp_snapshots.specs.Ops.{made_first, made_from, missed_after}
use Rattle.pp_snapshots.proofs.Asking.{filter_short, ok_then}
use Rattle.pp_snapshots.proofs.NewObjects.{anew_of, anew_tells, anew_there, first_few, later_is}
use Rattle.pp_snapshots.proofs.op.ask_missed.Goals as goal

pub are_allowed-requires-clause-there : goal.are_allowed-requires-clause-there
are_allowed-requires-clause-there g c =
    let o = g.S.Spec.object in
    let place = g.S.Placed.place_of in
    let part = g.S.Parted.part_of in
    let past = c.args.past.now in
    let own = c.args.own.now in
    let op = c.args.op.now in
    let n = c.args.seen in
    let mine = ops_of_part part op (ops own) in
    let found = rw c.in-Some.is at c.in_ok-first.ensures in
    let told = found (ops_in past) c.requires.listed in
    let all_is : c.deref.result.now ≡ ops_of_part part op (made_first past (place op) n) ++ (mine ++ op ∷ []) =
    c.deref.ensures.value ∙ c.in_ok-asked.ensures ∙ ap (λ l. l ++ (mine ++ op ∷ [])) told.0 in
    (place op, anew_there o place g.S.Placed.SameAt g.met.S.Spec.lawful g.met.S.Placed.placed part g.met.S.Parted.parted g.met.S.PartByPart.alone op (made_first past (place op) n) (ops own) c.deref.result.now all_is)

pub are_allowed-requires-clause-of : goal.are_allowed-requires-clause-of
are_allowed-requires-clause-of g c =
    let o = g.S.Spec.object in
    let place = g.S.Placed.place_of in
    let part = g.S.Parted.part_of in
    let past = c.args.past.now in
    let own = c.args.own.now in
    let op = c.args.op.now in
    let n = c.args.seen in
    let mine = ops_of_part part op (ops own) in
    let found = rw c.in-Some.is at c.in_ok-first.ensures in
    let told = found (ops_in past) c.requires.listed in
    let all_is : c.deref.result.now ≡ ops_of_part part op (made_first past (place op) n) ++ (mine ++ op ∷ []) =
    c.deref.ensures.value ∙ c.in_ok-asked.ensures ∙ ap (λ l. l ++ (mine ++ op ∷ [])) told.0 in
    anew_of o place g.S.Placed.SameAt g.met.S.Spec.lawful g.met.S.Placed.placed part g.met.S.Parted.parted g.met.S.PartByPart.alone past c.args.shape.now op n (ops own) c.deref.result.now
    c.requires.some c.requires.same all_is c.requires.own c.requires.asked

pub are_allowed-requires-clause-few : goal.are_allowed-requires-clause-few
are_allowed-requires-clause-few g c =
    let o = g.S.Spec.object in
    let place = g.S.Placed.place_of in
    let part = g.S.Parted.part_of in
    let past = c.args.past.now in
    let own = c.args.own.now in
    let op = c.args.op.now in
    let n = c.args.seen in
    let first = ops_of_part part op (made_first past (place op) n) in
    let mine = ops_of_part part op (ops own) in
    let found = rw c.in-Some.is at c.in_ok-first.ensures in
    let told = found (ops_in past) c.requires.listed in
    let all_is : c.deref.result.now ≡ first ++ (mine ++ op ∷ []) =
    c.deref.ensures.value ∙ c.in_ok-asked.ensures ∙ ap (λ l. l ++ (mine ++ op ∷ [])) told.0 in
    let size = ap (λ l. length l) all_is ∙ length-append first (mine ++ op ∷ []) ∙ ap (λ m. length first + m) (length-append mine (op ∷ [])) in
    let short = filter_short (λ a. same_part (part a) (part op)) (ops own) in
    let same = length-map own (λ e. e.op) in
    let few = first_few o place part past c.requires.some (place op) n op in
    omega (arith, size, short, same, few, c.requires.few)

pub returns-clause-tells : goal.returns-clause-tells
returns-clause-tells g c =
    let o = g.S.Spec.object in
    let place = g.S.Placed.place_of in
    let part = g.S.Parted.part_of in
    let past = c.args.past.now in
    let own = c.args.own.now in
    let op = c.args.op.now in
    let n = c.args.seen in
    let mine = ops_of_part part op (ops own) in
    let found = rw c.in-Some.is at c.in_ok-first.ensures in
    let told = found (ops_in past) c.requires.listed in
    let all_is : c.deref.result.now ≡ ops_of_part part op (made_first past (place op) n) ++ (mine ++ op ∷ []) =
    c.deref.ensures.value ∙ c.in_ok-asked.ensures ∙ ap (λ l. l ++ (mine ++ op ∷ [])) told.0 in
    ok_then c.are_allowed.result (λ good. IsTrue good ↔ IsAllowed o c.args.shape.now c.deref.result.now)
    (λ good. TellsBehind o place past (place op) n (ops_at place (place op) (ops own) ++ op ∷ []) good past)
    (λ good tells. anew_tells o place g.S.Placed.SameAt g.met.S.Spec.lawful g.met.S.Placed.placed part g.met.S.Parted.parted g.met.S.PartByPart.alone past c.args.shape.now op n
    (ops own) c.deref.result.now good c.requires.same all_is c.requires.have tells)
    c.are_allowed.ensures.tells

pub returns-in_default-clause-bound : goal.returns-in_default-clause-bound
returns-in_default-clause-bound g c =
    let o = g.S.Spec.object in
    let place = g.S.Placed.place_of in
    let part = g.S.Parted.part_of in
    let past = c.args.past.now in
    let own = c.args.own.now in
    let op = c.args.op.now in
    let n = c.args.seen in
    let p = place op in
    let first = length (ops_of_part part op (made_first past p n)) in
    let later = length (made_from past p n) in
    let mine = length (ops_of_part part op (ops own)) in
    let there = length (ops_at place p (ops own)) in
    let found = rw c.in_default.is at c.in_ok-first.ensures in
    let told = found (ops_in past) c.requires.listed in
    let same : later ≡ c.saturating_sub-later.result =
    later_is o place past p n ∙ ap (λ q. length (made_at q past.places.items) - n) (sym c.place.ensures) ∙ ap (λ m. m - n) (sym c.count_at.ensures) ∙ sym c.saturating_sub-later.ensures in
    let most : missed_after place part past n (ops own) op ≡ later + there = ap (λ b. cond b (first + mine) (later + there)) (ap (nat_le first) same ∙ told) in
    subst (λ m. c.ask_place.new.ticks ≤ c.args.ticks.now + 2 * (m + 1)) (sym most) c.ask_place.ensures.bound

pub returns-clause-bound : goal.returns-clause-bound
returns-clause-bound g c =
    let o = g.S.Spec.object in
    let place = g.S.Placed.place_of in
    let part = g.S.Parted.part_of in
    let past = c.args.past.now in
    let own = c.args.own.now in
    let op = c.args.op.now in
    let n = c.args.seen in
    let p = place op in
    let firsts = ops_of_part part op (made_first past p n) in
    let mines = ops_of_part part op (ops own) in
    let first = length firsts in
    let later = length (made_from past p n) in
    let mine = length mines in
    let there = length (ops_at place p (ops own)) in
    let found = rw c.in-Some.is at c.in_ok-first.ensures in
    let told = found (ops_in past) c.requires.listed in
    let same : later ≡ c.saturating_sub-later.result =
    later_is o place past p n ∙ ap (λ q. length (made_at q past.places.items) - n) (sym c.place.ensures) ∙ ap (λ m. m - n) (sym c.count_at.ensures) ∙ sym c.saturating_sub-later.ensures in
    let most : missed_after place part past n (ops own) op ≡ first + mine = ap (λ b. cond b (first + mine) (later + there)) (ap (nat_le first) same ∙ told.1) in
    let all_is : c.deref.result.now ≡ firsts ++ (mines ++ op ∷ []) = c.deref.ensures.value ∙ c.in_ok-asked.ensures ∙ ap (λ l. l ++ (mines ++ op ∷ [])) told.0 in
    let size = ap (λ l. length l) all_is ∙ length-append firsts (mines ++ op ∷ []) ∙ ap (λ m. first + m) (length-append mines (op ∷ [])) in
    let bound = c.are_allowed.ensures.bound in
    subst (λ m. c.are_allowed.new.ticks ≤ c.args.ticks.now + 2 * (m + 1)) (sym most) (omega (arith, size, bound))
