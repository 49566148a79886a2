use Rattle.std.proofs.Common.{◌≡◌, ◌<◌, ◌+◌, ◌-◌, ℕ, drop, length, map, sym, ◌∙◌, ap, arith}
use Rattle.std.proofs.lemmas.List.{drop_all}
use Rattle.pp_log.specs.Leaving.{without_items}
use Rattle.pp_log.specs.Room.{ids_of}
use Rattle.pp_log.proofs.Each.{found_before, left_next, still_within}
use Rattle.pp_log.proofs.Leaving.{without_none}
use Rattle.pp_log.proofs.Rest.{drop_none}
use Rattle.pp_log.proofs.leave.take_each_out.Goals as goal

pub loop-rest-init : goal.loop-rest-init
loop-rest-init g c =
    let f = g.T.Side.item_of in
    let own = c.args.own.now in
    let x = c.args.entries.now.items in
    record {
      within = omega arith;
      entries = sym (ap (λ l. without_items f l x) (drop_all (length own) own (omega arith)) ∙ without_none f x);
    }

pub offset_bounds-own-rest : goal.offset_bounds-own-rest
offset_bounds-own-rest g c = let bound = c.loop-rest.invariant.within in omega arith

pub bounds-own-rest : goal.bounds-own-rest
bounds-own-rest g c = let test = c.loop-rest-test.true in let bound = c.loop-rest.invariant.within in omega arith

pub unreachable-requires : goal.unreachable-requires
unreachable-requires g c =
    let f = g.T.Side.item_of in
    let own = c.args.own.now in
    let x = c.args.entries.now.items in
    let k : ℕ = c.loop-rest.rest - 1 in
    let test = c.loop-rest-test.true in
    let bound = c.loop-rest.invariant.within in
    let lt : k < length own = omega arith in
    let n_is : c.loop-rest.rest ≡ k + 1 = omega arith in
    found_before f own x c.args.ids.now c.requires k c.index-own-rest.result lt c.index-own-rest.is c.loop-rest.rest n_is c.loop-rest.entries.items c.loop-rest.invariant.entries
    (sym (c.find.ensures (ids_of (map f x)) c.requires.index) ∙ c.in_default.is)

pub remove-requires : goal.remove-requires
remove-requires g c =
    let f = g.T.Side.item_of in
    let own = c.args.own.now in
    let x = c.args.entries.now.items in
    let k : ℕ = c.loop-rest.rest - 1 in
    let test = c.loop-rest-test.true in
    let bound = c.loop-rest.invariant.within in
    let lt : k < length own = omega arith in
    let n_is : c.loop-rest.rest ≡ k + 1 = omega arith in
    still_within f own x c.args.ids.now c.requires k c.index-own-rest.result lt c.index-own-rest.is c.loop-rest.rest n_is c.loop-rest.entries.items c.loop-rest.invariant.entries
    c.in-Some.i (sym (c.find.ensures (ids_of (map f x)) c.requires.index) ∙ c.in-Some.is)

pub loop-rest-preserved : goal.loop-rest-preserved
loop-rest-preserved g c =
    let f = g.T.Side.item_of in
    let own = c.args.own.now in
    let x = c.args.entries.now.items in
    let k : ℕ = c.loop-rest.rest - 1 in
    let test = c.loop-rest-test.true in
    let bound = c.loop-rest.invariant.within in
    let lt : k < length own = omega arith in
    let n_is : c.loop-rest.rest ≡ k + 1 = omega arith in
    let next = left_next f own x c.args.ids.now c.requires k c.index-own-rest.result lt c.index-own-rest.is c.loop-rest.rest n_is c.loop-rest.entries.items c.loop-rest.invariant.entries
    c.in-Some.i (sym (c.find.ensures (ids_of (map f x)) c.requires.index) ∙ c.in-Some.is) in
    record { within = omega arith; entries = c.remove.ensures.items ∙ next }

pub returns : goal.returns
returns g c =
    let test = c.loop-rest-test.false in
    let none : c.loop-rest.rest ≡ 0 = omega arith in
    c.loop-rest.invariant.entries ∙ ap (λ n. without_items g.T.Side.item_of (drop n c.args.own.now) c.args.entries.now.items) none
    ∙ ap (λ l. without_items g.T.Side.item_of l c.args.entries.now.items) (drop_none c.args.own.now)
