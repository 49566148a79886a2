-- Proof machinery: operations whose call has no result are legal in each state.
use Rattle.std.proofs.Common.{◌≡◌, true, IsTrue, Option, Some, None, option_map}
use Rattle.std.proofs.Common.{refl, subst}
use Rattle.std.proofs.lemmas.Option.{slice_get-map}
use Rattle.std.specs.List.{slice_get}
use Rattle.pp_core.specs.declared.call.Kind.{Kind}
use Rattle.pp_kind_counter.specs.declared.op.CounterOp.TheVariants.{Add}
use Rattle.pp_kind_memory.specs.declared.op.MemOp.TheVariants.{Write}
use Rattle.pp_kind_priority.specs.declared.op.PrioOp.TheVariants.{Insert}
use Rattle.pp_kind_queue.specs.declared.op.QueueOp.TheVariants.{Enq}
use Rattle.pp_kind_stack.specs.declared.op.StackOp.TheVariants.{Push}
use Rattle.pp_objects.specs.declared.act.Act.{Act}
use Rattle.pp_objects.specs.declared.act.Act.TheVariants.{Memory, Counter, Queue, Stack}
use Rattle.pp_objects.specs.declared.act.Act.TheVariants.{PriorityQueue}
use Rattle.pp_objects.specs.declared.states.ObjectState.{ObjectState}
use Rattle.pp_objects.specs.declared.states.ObjectState.TheVariants as states
use Rattle.pp_objects.specs.Objects.{fits_in, gives_in, objects}
use Rattle.pp_objects.specs.One.{one}
use Rattle.pp_kind_parts.specs.Alone.{AreAlwaysLegal}
use Rattle.pp_kind_parts.specs.Silent.{is_silent, silent_of}

-- such an act is given no result, on an object of its kind and on every other
gives_none : (s : ObjectState) (a : Act) → is_silent a ≡ true → one.gives s a ≡ one.recorded a
gives_none (states.Memory s) (Memory (Write at value)) h = refl
gives_none (states.KeySet s) (Memory (Write at value)) h = refl
gives_none (states.KeyMap s) (Memory (Write at value)) h = refl
gives_none (states.Counter s) (Memory (Write at value)) h = refl
gives_none (states.Queue s) (Memory (Write at value)) h = refl
gives_none (states.Stack s) (Memory (Write at value)) h = refl
gives_none (states.PriorityQueue s) (Memory (Write at value)) h = refl
gives_none (states.Memory s) (Counter (Add by)) h = refl
gives_none (states.KeySet s) (Counter (Add by)) h = refl
gives_none (states.KeyMap s) (Counter (Add by)) h = refl
gives_none (states.Counter s) (Counter (Add by)) h = refl
gives_none (states.Queue s) (Counter (Add by)) h = refl
gives_none (states.Stack s) (Counter (Add by)) h = refl
gives_none (states.PriorityQueue s) (Counter (Add by)) h = refl
gives_none (states.Memory s) (Queue (Enq value)) h = refl
gives_none (states.KeySet s) (Queue (Enq value)) h = refl
gives_none (states.KeyMap s) (Queue (Enq value)) h = refl
gives_none (states.Counter s) (Queue (Enq value)) h = refl
gives_none (states.Queue s) (Queue (Enq value)) h = refl
gives_none (states.Stack s) (Queue (Enq value)) h = refl
gives_none (states.PriorityQueue s) (Queue (Enq value)) h = refl
gives_none (states.Memory s) (Stack (Push value)) h = refl
gives_none (states.KeySet s) (Stack (Push value)) h = refl
gives_none (states.KeyMap s) (Stack (Push value)) h = refl
gives_none (states.Counter s) (Stack (Push value)) h = refl
gives_none (states.Queue s) (Stack (Push value)) h = refl
gives_none (states.Stack s) (Stack (Push value)) h = refl
gives_none (states.PriorityQueue s) (Stack (Push value)) h = refl
gives_none (states.Memory s) (PriorityQueue (Insert value)) h = refl
gives_none (states.KeySet s) (PriorityQueue (Insert value)) h = refl
gives_none (states.KeyMap s) (PriorityQueue (Insert value)) h = refl
gives_none (states.Counter s) (PriorityQueue (Insert value)) h = refl
gives_none (states.Queue s) (PriorityQueue (Insert value)) h = refl
gives_none (states.Stack s) (PriorityQueue (Insert value)) h = refl
gives_none (states.PriorityQueue s) (PriorityQueue (Insert value)) h = refl
gives_none s a h = absurd (cc)

gives_there : (t : Option ObjectState) (a : Act) → IsTrue (fits_in one (option_map one.shape t) a)
    → is_silent a ≡ true → gives_in one t a ≡ one.recorded a
gives_there None a f h = absurd (cc)
gives_there (Some s) a f h = gives_none s a h

-- An operation whose call has no result is legal in each state that it fits.
pub silent_legal : AreAlwaysLegal objects silent_of
silent_legal ss x h f = (
  f,
  gives_there (slice_get ss x.object) x.act
      (subst (λ (t : Option Kind). IsTrue (fits_in one t x.act))
      (slice_get-map one.shape ss x.object) f) h,
)
