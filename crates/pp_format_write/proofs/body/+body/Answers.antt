use Rattle.std.proofs.Common.{◌≡◌, ◌∙◌, map, rules}
use Rattle.std.proofs.lemmas.Result.{IfOk-weaker}
use Rattle.serde_json.specs.View.{view}
use Rattle.pp_core.specs.Trees.{tree}
use Rattle.pp_core.specs.declared.body.Body.{the_lemmas}
use Rattle.pp_core.specs.declared.body.Body.TheVariants as body
use Rattle.pp_format_write.specs.Bodies.{seq_value, alt_value, body_value}
use Rattle.pp_format_write.proofs.Parts.{seq_is, alt_is, known_at}
use Rattle.pp_format_write.proofs.body.+body.Goals as goal

pub values_of-value_of-requires : goal.values_of-value_of-requires
values_of-value_of-requires t c =
    (search (rules, the_lemmas), known_at c.args.catalog.now c.args.parts.now c.loop-part.part-index c.part-item.result c.requires c.loop-part-test.true c.part-item.is)

pub value_of-returns-in_ok-values-in-Seq : goal.value_of-returns-in_ok-values-in-Seq
value_of-returns-in_ok-values-in-Seq t c =
    let is : c.args.body.now ≡ body.Seq c.as_slice.result.now = search rules in
    let same = seq_is c.args.catalog.now c.as_slice.result.now c.args.body.now (map view c.in_ok-values-in-Seq.values.items) is c.in_ok-values-in-Seq.ensures in
    IfOk-weaker c.seq_value.result (λ value. view value ≡ seq_value (map view c.in_ok-values-in-Seq.values.items)) (λ value. view value ≡ body_value c.args.catalog.now (tree c.args.body.now)) (λ value e. e ∙ same) c.seq_value.ensures

pub value_of-returns-in_ok-values-in-Alt : goal.value_of-returns-in_ok-values-in-Alt
value_of-returns-in_ok-values-in-Alt t c =
    let is : c.args.body.now ≡ body.Alt c.as_slice-in-Alt.result.now = search rules in
    let same = alt_is c.args.catalog.now c.as_slice-in-Alt.result.now c.args.body.now (map view c.in_ok-values-in-Alt.values.items) is c.in_ok-values-in-Alt.ensures in
    IfOk-weaker c.alt_value.result (λ value. view value ≡ alt_value (map view c.in_ok-values-in-Alt.values.items)) (λ value. view value ≡ body_value c.args.catalog.now (tree c.args.body.now)) (λ value e. e ∙ same) c.alt_value.ensures
