use Rattle.std.proofs.Common.{◌≡◌, ℤ, List, [], ◌∷◌, ◌++◌, ◌∙◌, sym, ap, append_assoc, arith, w64}
use Rattle.std.proofs.Common.{rules, to_z, of_z, FitsSigned}
use Rattle.std.proofs.lemmas.Int.{to_z-of_z}
use Rattle.std.proofs.lemmas.Grind.{common_steps}
use Rattle.pp_kind_set.proofs.Keys.{members_seen}
use Rattle.pp_kind_set.proofs.members.Members.keys.Goals as goal

-- one key more
one_more : (ks ls rest left whole : List ℤ) (k j : ℤ) → ks ++ left ≡ whole → left ≡ k ∷ rest → j ≡ k
    → ls ≡ ks ++ j ∷ [] → ls ++ rest ≡ whole
one_more ks ls rest left whole k j h e f g =
    ap (λ (l : List ℤ). l ++ rest) g ∙ append_assoc ks (j ∷ []) rest
    ∙ ap (λ (i : ℤ). ks ++ i ∷ rest) f ∙ ap (λ (l : List ℤ). ks ++ l) (sym e) ∙ h

pub loop-key-preserved : goal.loop-key-preserved
loop-key-preserved c =
    let fits : FitsSigned w64 c.in-Some.key.now = search rules in
    one_more c.loop-key.keys c.push.new.self c.next.new.self c.loop-key.key-iterator
    c.into_iter-key-iterator.result c.in-Some.key.now
    (to_z w64 (of_z w64 c.in-Some.key.now)) c.loop-key.invariant c.in-Some.ensures.steps
    (to_z-of_z w64 c.in-Some.key.now fits) c.in_ok-push.ensures.ok

pub returns : goal.returns
returns c =
    let whole : c.loop-key.keys ≡ c.self.inside.keys.keys = grind (arith, common_steps) in
    whole ∙ members_seen c.self.inside.keys.keys c.args.self.now c.self.view_is
    c.iter-key-items.ensures.ordered
