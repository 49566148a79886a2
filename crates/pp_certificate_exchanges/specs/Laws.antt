-- Meaning: facts about routes, about exchanges that swap, and about the shared log.
use Rattle.std.specs.Prelude.{◌≡◌, ℕ, List, ◌++◌, map, length}
use Rattle.pp_model.specs.Object as model
use Rattle.pp_model.specs.Object.{Allowed, Item, ops, Reorders}
use Rattle.pp_model.specs.Config.{Config, shared_item, uncommitted}
use Rattle.pp_model.specs.Sound.{Sound, serial_items}
use Rattle.pp_kind.specs.Object.{Object, Swaps, rules_of}
use Rattle.pp_certificate_exchanges.specs.Exchanges.{Permutes, Inverted, inverted, route, after_exchanges}
use Rattle.pp_certificate_exchanges.specs.Exchanges.{EachExchange}

-- A route ends in its target, is as long as there are inverted pairs, and turns only such pairs.
pub record RouteLaw (Op : Type 0) : Type 0 where
  pub ends : (x y : List (Item Op)) → Permutes x y → after_exchanges x (route x y) ≡ y
  pub long : (x y : List (Item Op)) → Permutes x y → length (route x y) ≡ inverted x y
  pub turns : (x y : List (Item Op)) → Permutes x y → EachExchange (Inverted x y) x (route x y)

-- the second moves left over the first
abbrev pub ItemsSwap : {Op State : Type 0} → model.Object Op State → Item Op → Item Op → Type 0
ItemsSwap O p q = model.Swaps O p.op q.op

-- If each exchange swaps, what is allowed after the first list is allowed after the last.
abbrev pub ExchangeLaw : {Op State : Type 0} → model.Object Op State → Type 0
ExchangeLaw {Op} O =
    (x : List (Item Op)) (is : List ℕ) (k : List Op) → EachExchange (ItemsSwap O) x is
    → Allowed O (ops x ++ k) → Allowed O (ops (after_exchanges x is) ++ k)

-- the entries of the shared log
abbrev pub log_of : {Op : Type 0} → Config Op → List (Item Op)
log_of c = map shared_item c.shared

-- the serial run, and then the uncommitted entries in their order
abbrev pub target_of : {Op : Type 0} → Config Op → List (Item Op)
target_of c = serial_items c.done ++ map shared_item (uncommitted c.shared)

-- In a sound configuration the target is a permutation of the log, and each inverted pair swaps.
abbrev pub OrderLaw : {Op State : Type 0} → model.Object Op State → Type 0
OrderLaw {Op} O = (c : Config Op) → Sound O c → Reorders O (log_of c) (target_of c)

-- Each inverted pair swaps, in every shape.
abbrev pub InvertedSwap : {Shape State Op Undo : Type 0} → Object Shape State Op Undo
    → List (Item Op) → List (Item Op) → Type 0
InvertedSwap {Shape} {State} {Op} {Undo} o x y =
    (p q : Item Op) → Inverted x y p q → Swaps o p.op q.op

-- Each of these exchanges, one after another, is of a pair that swaps, in every shape.
abbrev pub ExchangesSwap : {Shape State Op Undo : Type 0} → Object Shape State Op Undo
    → List (Item Op) → List ℕ → Type 0
ExchangesSwap o x is = EachExchange (λ p q. Swaps o p.op q.op) x is

-- In a configuration that is sound in some shape the target is a permutation of the log, and each
-- inverted pair swaps in every shape.
pub record TargetLaw {Shape State Op Undo : Type 0} (o : Object Shape State Op Undo) : Type 0 where
  pub permutes : (shape : Shape) (c : Config Op) → Sound (rules_of o shape) c
      → Permutes (log_of c) (target_of c)
  pub swaps : (shape : Shape) (c : Config Op) → Sound (rules_of o shape) c
      → InvertedSwap o (log_of c) (target_of c)
