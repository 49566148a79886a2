use Rattle.std.proofs.Common.{◌≡◌, ◌<◌, ◌∙◌, Some, ap, arith, cond, drop, get_or, length, nat_eq, refl, rules, subst, sym, vec_len}
use Rattle.std.specs.Map.{lookup}
use Rattle.std.proofs.lemmas.List.{length-map}
use Rattle.pp_snapshots.specs.ByPart.{AddsListed, ops_in}
use Rattle.pp_snapshots.specs.declared.by_part.ByPart.{ByPart}
use Rattle.pp_snapshots.specs.Many.{AreThere, ops_made}
use Rattle.pp_snapshots.specs.Past.{made_at}
use Rattle.pp_snapshots.proofs.Kept.{made_here}
use Rattle.pp_snapshots.proofs.Listed.{caught, count_here}
use Rattle.pp_snapshots.proofs.Manies.{ops_there, place_there}
use Rattle.pp_snapshots.proofs.by_part.catch_up.Goals as goal

pub returns-clause-listed : goal.returns-clause-listed
returns-clause-listed g c =
    let o = g.S.Spec.object in
    let place = g.S.Placed.place_of in
    let part = g.S.Parted.part_of in
    let past = c.args.past.now in
    let p = c.args.place in
    let v = c.args.by_part.now in
    let w : ByPart _ = record { alloc = v.alloc; lists = c.add_from.new.lists; counts = c.insert.new.self } in
    let d = c.in-Some.done.now in
    let lists = past.places.items in
    let found = c.in-Some.ensures.lookup in
    let same = c.deref.ensures.value in
    let value : d ≡ get_or lists c.from.result d = found.1 ∙ ap (λ w. get_or w c.from.result d) same in
    let within : c.from.result < length lists = subst (λ w. c.from.result < length w) same found.3.0 in
    let is : ops_made d.made.items ≡ ops_in past p = ap ops_made (sym (made_here lists c.from.result d within value)) ∙ ap (λ q. ops_made (made_at q lists)) c.from.ensures in
    let len : vec_len d.made ≡ length d.made.items = search rules in
    let s = c.requires.some in
    let there : AreThere place p (ops_in past p) = subst (AreThere place p) (sym (ops_there o place s.0 past s.1.0 s.1.1 p)) (place_there o place g.S.Placed.SameAt g.met.S.Spec.lawful g.met.S.Placed.placed s.0 past s.1.0 s.1.1 p) in
    caught part o place g.met.S.PartByPart.alone (ops_in past) p there v w c.requires.listed
    (subst (λ i. AddsListed part v.lists.entries i (drop i (ops_in past p)) w.lists.entries) c.count_listed-from.ensures
    (subst (λ l. AddsListed part v.lists.entries c.count_listed-from.result (drop c.count_listed-from.result l) w.lists.entries) is c.in_ok-add_from.ensures))
    (λ q. c.in_ok-insert.ensures.updates.0 q
    ∙ ap (λ n. cond (nat_eq p q) (Some n) (lookup (nat_eq q) v.counts.entries)) (c.len.ensures ∙ len ∙ sym (length-map d.made.items (λ m. m.op)) ∙ ap (λ l. length l) is))

pub returns-clause-all : goal.returns-clause-all
returns-clause-all g c =
    let o = g.S.Spec.object in
    let place = g.S.Placed.place_of in
    let part = g.S.Parted.part_of in
    let past = c.args.past.now in
    let p = c.args.place in
    let v = c.args.by_part.now in
    let w : ByPart _ = record { alloc = v.alloc; lists = c.add_from.new.lists; counts = c.insert.new.self } in
    let d = c.in-Some.done.now in
    let lists = past.places.items in
    let found = c.in-Some.ensures.lookup in
    let same = c.deref.ensures.value in
    let value : d ≡ get_or lists c.from.result d = found.1 ∙ ap (λ w. get_or w c.from.result d) same in
    let within : c.from.result < length lists = subst (λ w. c.from.result < length w) same found.3.0 in
    let is : ops_made d.made.items ≡ ops_in past p = ap ops_made (sym (made_here lists c.from.result d within value)) ∙ ap (λ q. ops_made (made_at q lists)) c.from.ensures in
    let len : vec_len d.made ≡ length d.made.items = search rules in
    let s = c.requires.some in
    let there : AreThere place p (ops_in past p) = subst (AreThere place p) (sym (ops_there o place s.0 past s.1.0 s.1.1 p)) (place_there o place g.S.Placed.SameAt g.met.S.Spec.lawful g.met.S.Placed.placed s.0 past s.1.0 s.1.1 p) in
    let all = count_here part o place g.met.S.PartByPart.alone (ops_in past) p there v w c.requires.listed
    (subst (λ i. AddsListed part v.lists.entries i (drop i (ops_in past p)) w.lists.entries) c.count_listed-from.ensures
    (subst (λ l. AddsListed part v.lists.entries c.count_listed-from.result (drop c.count_listed-from.result l) w.lists.entries) is c.in_ok-add_from.ensures))
    (λ q. c.in_ok-insert.ensures.updates.0 q
    ∙ ap (λ n. cond (nat_eq p q) (Some n) (lookup (nat_eq q) v.counts.entries)) (c.len.ensures ∙ len ∙ sym (length-map d.made.items (λ m. m.op)) ∙ ap (λ l. length l) is)) p refl in
    omega (arith, all)
