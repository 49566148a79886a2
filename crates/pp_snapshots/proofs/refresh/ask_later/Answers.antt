use Rattle.std.proofs.Common.{◌≡◌, ◌-◌, ◌++◌, ◌∙◌, ap, arith, drop, inl, length, subst, sym}
use Rattle.std.proofs.lemmas.List.{length-append, length-drop}
use Rattle.pp_snapshots.specs.Many.{AreAsked, AreThere, TellsBehind}
use Rattle.pp_snapshots.specs.Past.{made_at}
use Rattle.pp_snapshots.specs.Refreshing.{OneStays, TellsLater}
use Rattle.pp_snapshots.proofs.Apart.{later_tells}
use Rattle.pp_snapshots.proofs.Asking.{count_is, joined_asked, joined_there, ok_then}
use Rattle.pp_snapshots.proofs.Manies.{in_dropped, ops_there, place_there}
use Rattle.pp_snapshots.proofs.OnRefresh.{dropped_asked}
use Rattle.pp_snapshots.proofs.refresh.ask_later.Goals as goal

pub returns-then-not-all_swap-clause-tells : goal.returns-then-not-all_swap-clause-tells
returns-then-not-all_swap-clause-tells g c = λ shape h is.
    let o = g.S.Spec.object in
    let place = g.S.Placed.place_of in
    let later_is = c.requires.later ∙ ap (drop c.args.seen) (ops_there o place shape c.args.past.now h is c.args.place) in
    (inl (subst (OneStays o c.args.own.now) later_is (c.all_swap.ensures.no c.if-not-all_swap.true)), is)

pub may_follow-requires-clause-asked : goal.may_follow-requires-clause-asked
may_follow-requires-clause-asked g c =
    let o = g.S.Spec.object in
    let place = g.S.Placed.place_of in
    let past = c.args.past.now in
    let own = c.args.own.now in
    let p = c.args.place in
    let s = c.requires.some in
    let n = c.args.seen in
    let later_is : c.args.later.now ≡ drop n (s.1.0 p) = c.requires.later ∙ ap (drop n) (ops_there o place s.0 past s.1.0 s.1.1 p) in
    let all_is : c.deref.result.now ≡ own ++ c.args.later.now = c.deref.ensures.value ∙ c.in_ok-append-2.ensures ∙ ap (λ l. l ++ c.args.later.now) (c.in_ok-append.ensures ∙ ap (λ l. l ++ own) c.new-asked.ensures.items) in
    subst (AreAsked o past) (sym all_is)
    (joined_asked o place past own c.args.later.now c.requires.own
    (subst (AreAsked o past) (sym later_is) (dropped_asked o place g.S.Placed.SameAt g.met.S.Spec.lawful g.met.S.Placed.placed s.0 past s.1.0 s.1.1 p n)))

pub may_follow-requires-clause-there : goal.may_follow-requires-clause-there
may_follow-requires-clause-there g c =
    let o = g.S.Spec.object in
    let place = g.S.Placed.place_of in
    let past = c.args.past.now in
    let own = c.args.own.now in
    let p = c.args.place in
    let s = c.requires.some in
    let n = c.args.seen in
    let later_is : c.args.later.now ≡ drop n (s.1.0 p) = c.requires.later ∙ ap (drop n) (ops_there o place s.0 past s.1.0 s.1.1 p) in
    let all_is : c.deref.result.now ≡ own ++ c.args.later.now = c.deref.ensures.value ∙ c.in_ok-append-2.ensures ∙ ap (λ l. l ++ c.args.later.now) (c.in_ok-append.ensures ∙ ap (λ l. l ++ own) c.new-asked.ensures.items) in
    subst (AreThere place p) (sym all_is)
    (joined_there place p own c.args.later.now c.requires.there
    (subst (AreThere place p) (sym later_is) (λ a i. place_there o place g.S.Placed.SameAt g.met.S.Spec.lawful g.met.S.Placed.placed s.0 past s.1.0 s.1.1 p a (in_dropped (s.1.0 p) n a i))))

pub may_follow-requires-clause-room : goal.may_follow-requires-clause-room
may_follow-requires-clause-room g c =
    let o = g.S.Spec.object in
    let place = g.S.Placed.place_of in
    let past = c.args.past.now in
    let own = c.args.own.now in
    let p = c.args.place in
    let s = c.requires.some in
    let n = c.args.seen in
    let later_is : c.args.later.now ≡ drop n (s.1.0 p) = c.requires.later ∙ ap (drop n) (ops_there o place s.0 past s.1.0 s.1.1 p) in
    let all_is : c.deref.result.now ≡ own ++ c.args.later.now = c.deref.ensures.value ∙ c.in_ok-append-2.ensures ∙ ap (λ l. l ++ c.args.later.now) (c.in_ok-append.ensures ∙ ap (λ l. l ++ own) c.new-asked.ensures.items) in
    let size = ap (λ l. length l) all_is ∙ length-append own c.args.later.now in
    let count = count_is o place s.0 past s.1.0 s.1.1 p in
    let room : length c.args.later.now ≡ length (made_at p past.places.items) - n = ap (λ l. length l) later_is ∙ length-drop n (s.1.0 p) ∙ ap (λ m. m - n) (sym count) in
    omega (arith, size, room, c.requires.few)

pub returns-clause-tells : goal.returns-clause-tells
returns-clause-tells g c =
    let o = g.S.Spec.object in
    let place = g.S.Placed.place_of in
    let past = c.args.past.now in
    let own = c.args.own.now in
    let p = c.args.place in
    let s = c.requires.some in
    let n = c.args.seen in
    let later_is : c.args.later.now ≡ drop n (s.1.0 p) = c.requires.later ∙ ap (drop n) (ops_there o place s.0 past s.1.0 s.1.1 p) in
    let all_is : c.deref.result.now ≡ own ++ c.args.later.now = c.deref.ensures.value ∙ c.in_ok-append-2.ensures ∙ ap (λ l. l ++ c.args.later.now) (c.in_ok-append.ensures ∙ ap (λ l. l ++ own) c.new-asked.ensures.items) in
    ok_then c.may_follow.result (λ good. TellsBehind o place past p n c.deref.result.now good c.may_follow.new.past) (λ good. TellsLater o place past p n own good c.may_follow.new.past)
    (λ good told. later_tells o place past c.may_follow.new.past p n own c.args.later.now c.deref.result.now good c.requires.later all_is
    (c.all_swap.ensures.yes c.if-not-all_swap.false) told)
    c.may_follow.ensures.tells
