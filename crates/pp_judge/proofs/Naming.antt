-- The committed operations and the states of an accepted run are of the objects of its header.
use Rattle.std.specs.Prelude.{◌≡◌, IsTrue, List, [], ◌∷◌, ◌++◌}
use Rattle.std.proofs.Common.{sym, subst}
use Rattle.std.proofs.lemmas.List.{map-append}
use Rattle.pp_core.specs.Catalogs.{Objects}
use Rattle.pp_core.specs.declared.call.Kind.{Kind}
use Rattle.pp_core.specs.declared.entry.CommittedTx.{CommittedTx}
use Rattle.pp_core.specs.declared.entry.Item.{Item}
use Rattle.pp_model.specs.Lists.{Each}
use Rattle.pp_model.specs.Object.{ops}
use Rattle.pp_model.specs.Sound.{serial_items, serial_ops}
use Rattle.pp_objects.specs.Objects.{kinds_of, objects}
use Rattle.pp_objects.specs.declared.act.Op.{Op}
use Rattle.pp_objects.specs.declared.states.ObjectState.{ObjectState}
use Rattle.pp_objects.specs.laws.Objects.{objects_lawful}
use Rattle.pp_kind.specs.Object.{AllowedFrom, IsAllowed, state_after}
use Rattle.pp_kind.proofs.Places.{reached_shape}
use Rattle.pp_text.specs.Texts.{AreStatesOf, IsNamed, EachNamed}
use Rattle.pp_report.specs.Reports.{AreNamed}

-- each operation of an allowed list fits its shape
all_fit : (states : List ObjectState) (l : List Op) → AllowedFrom objects states l → Each (λ op. IsTrue (objects.fits (objects.shape states) op)) l
all_fit states [] allowed = tt
all_fit states (op ∷ l) allowed = (allowed.0.0, subst (λ kinds. Each (λ a. IsTrue (objects.fits kinds a)) l) (objects_lawful.next_shape states op allowed.0) (all_fit (objects.next states op) l allowed.1))

module _ {A : Type 0} (P : A → Type 0) where
  front_of : (xs ys : List A) → Each P (xs ++ ys) → Each P xs
  front_of [] ys all = tt
  front_of (x ∷ xs) ys all = (all.0, front_of xs ys all.1)

  back_of : (xs ys : List A) → Each P (xs ++ ys) → Each P ys
  back_of [] ys all = all
  back_of (x ∷ xs) ys all = back_of xs ys all.1

items_named : (catalog : Objects) (entries : List (Item Op)) → Each (IsNamed catalog) (ops entries) → EachNamed catalog entries
items_named catalog [] all = tt
items_named catalog (entry ∷ entries) all = (all.0, items_named catalog entries all.1)

joined_named : (catalog : Objects) (committed : List (CommittedTx Op)) → Each (IsNamed catalog) (serial_ops committed) → AreNamed catalog committed
joined_named catalog [] all = tt
joined_named catalog (tx ∷ committed) all =
    let split = subst (Each (IsNamed catalog)) (map-append (λ (p : Item Op). p.op) tx.entries (serial_items committed)) all in
    (items_named catalog tx.entries (front_of (IsNamed catalog) (ops tx.entries) (serial_ops committed) split), joined_named catalog committed (back_of (IsNamed catalog) (ops tx.entries) (serial_ops committed) split))

-- If the serial run of committed transactions is allowed, their operations are on objects of the catalog.
pub committed_named : (catalog : Objects) (committed : List (CommittedTx Op)) → IsAllowed objects (kinds_of catalog) (serial_ops committed) → AreNamed catalog committed
committed_named catalog committed allowed =
    let fit = all_fit (objects.start (kinds_of catalog)) (serial_ops committed) allowed in
    joined_named catalog committed (subst (λ kinds. Each (λ op. IsTrue (objects.fits kinds op)) (serial_ops committed)) (objects_lawful.start_shape (kinds_of catalog)) fit)

-- The states after an allowed serial run are those of the objects of the catalog.
pub states_named : (catalog : Objects) (committed : List (CommittedTx Op)) (states : List ObjectState) → IsAllowed objects (kinds_of catalog) (serial_ops committed) → states ≡ state_after objects (kinds_of catalog) (serial_ops committed) → AreStatesOf catalog states
states_named catalog committed states allowed is = subst (AreStatesOf catalog) (sym is) (reached_shape objects objects_lawful (kinds_of catalog) (serial_ops committed) allowed)

-- what is allowed over the machine's objects is allowed over those of the header
pub allowed_over : (kinds shape : List Kind) (D E : List (CommittedTx Op)) → shape ≡ kinds → D ≡ E → IsAllowed objects shape (serial_ops E) → IsAllowed objects kinds (serial_ops D)
allowed_over kinds shape D E same committed allowed =
    subst (λ (F : List (CommittedTx Op)). IsAllowed objects kinds (serial_ops F)) (sym committed) (subst (λ (k : List Kind). IsAllowed objects k (serial_ops E)) same allowed)
