use Rattle.pp_certificate_exchanges.proofs.Routes.{route_ends, route_turns, length_route}
use Rattle.pp_certificate_exchanges.proofs.law.route_law.Goals as goal

pub returns : goal.returns
returns g c = record {
  ends = λ x y h. route_ends x y h;
  long = λ x y h. length_route x y h;
  turns = λ x y h. route_turns x y h;
}
