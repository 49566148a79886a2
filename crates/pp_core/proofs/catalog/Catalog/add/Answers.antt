use Rattle.std.proofs.Common.{◌≡◌, ◌++◌, ◌∷◌, [], sym, ◌∙◌, subst, rules}
use Rattle.std.specs.Str.{bytes_eq}
use Rattle.indexmap.proofs.CallerLemmas.{insert_entry-new}
use Rattle.pp_core.specs.Catalogs.{AreFew, HasNames}
use Rattle.pp_core.proofs.Places.{is_none_of, with_named}
use Rattle.pp_core.proofs.catalog.Catalog.add.Goals as goal

pub returns-clause-objects : goal.returns-clause-objects
returns-clause-objects c =
    c.in_ok-insert.ensures.entries ∙ insert_entry-new bytes_eq c.self.inside.objects c.args.name c.args.kind (is_none_of _ (sym c.get_index_of.ensures.found ∙ (cc))) ∙ (cc)

pub invariant_of-self-2 : goal.invariant_of-self-2
invariant_of-self-2 c =
    let before = c.self.inside.objects.entries in
    let more : c.insert.new.self.entries ≡ before ++ (c.args.name, c.args.kind) ∷ [] =
    c.in_ok-insert.ensures.entries ∙ insert_entry-new bytes_eq c.self.inside.objects c.args.name c.args.kind (is_none_of _ (sym c.get_index_of.ensures.found ∙ (cc))) in
    let few : AreFew c.insert.new.self.entries = search rules in
    (c.insert.ensures.unique, few, subst HasNames (sym more) (with_named before (c.args.name, c.args.kind) c.self.invariant.2 c.text.ensures.name))
