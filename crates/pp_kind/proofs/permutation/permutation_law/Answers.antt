use Rattle.std.specs.Prelude.{[]}
use Rattle.pp_model.proofs.Permute.{permuted}
use Rattle.pp_kind.proofs.permutation.permutation_law.Goals as goal

pub returns : goal.returns
returns g c = λ shape x y k r h. permuted _ y x [] k r h
