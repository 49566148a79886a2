-- How many arguments a call has.
use Rattle.std.proofs.Common.{◌≤◌, arith}
use Rattle.pp_core.specs.declared.call.Kind.{Kind}
use Rattle.pp_core.specs.declared.call.Kind.TheVariants as kinds
use Rattle.pp_core.specs.declared.call.Method.{Method}
use Rattle.pp_core.specs.declared.call.Method.TheVariants as methods
use Rattle.pp_objects.specs.Calls.{arity_of}

-- no call has more than three
pub few : (kind : Kind) (method : Method) → arity_of kind method ≤ 3
few kind methods.Read = omega arith
few kind methods.Write = omega arith
few kind methods.Cas = omega arith
few kind methods.Add = omega arith
few kind methods.Remove = omega arith
few kind methods.Contains = omega arith
few kind methods.Put = omega arith
few kinds.Counter methods.Get = omega arith
few kind methods.Get = omega arith
few kind methods.FetchAdd = omega arith
few kind methods.Enq = omega arith
few kind methods.Deq = omega arith
few kind methods.StackPush = omega arith
few kind methods.StackPop = omega arith
few kind methods.Insert = omega arith
few kind methods.Take = omega arith
few kind methods.Least = omega arith
