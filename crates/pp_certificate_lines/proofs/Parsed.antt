-- Proof machinery: reading a line, and an array number by number.
use Rattle.std.proofs.Common.{◌≡◌, ◌<◌, ◌≤◌, ◌+◌, ℕ, List, [], ◌∷◌, ◌++◌, length, drop, get_or}
use Rattle.std.proofs.Common.{Option, Some, None, option_map, Result, Ok, Err, IfOk, refl, sym, ap}
use Rattle.std.proofs.Common.{◌∙◌, append-nil, append_assoc}
use Rattle.std.proofs.lemmas.List.{drop_all}
use Rattle.serde_json.specs.View.{view, items_view}
use Rattle.serde_json.specs.declared.value.Value.{Value}
use Rattle.pp_core.specs.declared.answer.OutOfMemory.{OutOfMemory}
use Rattle.pp_format_read.specs.Reading.{Gives}
use Rattle.pp_format_read.specs.declared.fault.RecordFault.{RecordFault}
use Rattle.pp_format_read.proofs.Objects.{item_at}
use Rattle.pp_certificate_lines.specs.Found.{Finds}
use Rattle.pp_certificate_lines.specs.Reading.{◌>>=◌, found, number_of, numbers_of}

-- ---- what was read, if there was no fault
pub found_is : {X Y : Type 0} (f : X → Y) (read : Result X RecordFault) (given : Result Y RecordFault)
    (r : Result (Option X) OutOfMemory) → Gives f read given → Finds read r
    → IfOk r (λ o. option_map f o ≡ found given)
found_is f (Ok x) given r h k =
    let e : found given ≡ Some (f x) = ap found h in
    rw (k, e) refl
found_is f (Err e) given (Ok o) h k =
    let g : found given ≡ None = ap found (h k.1) in
    rw (k.0, g) refl
found_is f (Err e) given (Err refused) h k = tt

same : {X : Type 0} (o : Option X) → option_map (λ x. x) o ≡ o
same None = refl
same (Some x) = refl

same_of : {X : Type 0} (r : Result (Option X) OutOfMemory) (given : Option X)
    → IfOk r (λ o. option_map (λ x. x) o ≡ given) → IfOk r (λ o. o ≡ given)
same_of (Ok o) given h = sym (same o) ∙ h
same_of (Err refused) given h = tt

-- What is found is what was read, or nothing if there was a fault, unless it ran out of memory.
pub same_found : {X : Type 0} (read given : Result X RecordFault) (r : Result (Option X) OutOfMemory)
    → Gives (λ x. x) read given → Finds read r → IfOk r (λ o. o ≡ found given)
same_found read given r h k = same_of r (found given) (found_is (λ x. x) read given r h k)

-- ---- the numbers so far, and then the rest if it could be read
abbrev pub behind : List ℕ → Option (List ℕ) → Option (List ℕ)
behind list None = None
behind list (Some more) = Some (list ++ more)

behind_one : (list : List ℕ) (n : ℕ) (o : Option (List ℕ))
    → behind list (o >>= λ is. Some (n ∷ is)) ≡ behind (list ++ n ∷ []) o
behind_one list n None = refl
behind_one list n (Some more) = ap (λ (l : List ℕ). Some l) (sym (append_assoc list (n ∷ []) more))

-- The walk over the numbers of an array begins with none read.
pub begins : (o : Option (List ℕ)) → behind [] o ≡ o
begins None = refl
begins (Some more) = refl

-- The walk over the numbers of an array goes on after a value that is a number.
pub goes_on : (list longer : List ℕ) (values : List Value) (i n : ℕ) (v : Value)
    (total : Option (List ℕ)) → i < length values → v ≡ get_or values i v
    → number_of (view v) ≡ Some n → longer ≡ list ++ n ∷ []
    → behind list (numbers_of (items_view (drop i values))) ≡ total
    → behind longer (numbers_of (items_view (drop (i + 1) values))) ≡ total
unfolding numbers_of
goes_on list longer values i n v total lt is h e so_far =
    let rest : Option (List ℕ) = numbers_of (items_view (drop (i + 1) values)) in
    let one : behind list (numbers_of (items_view (drop i values)))
    ≡ behind list (rest >>= λ is. Some (n ∷ is)) =
    rw (item_at values i v lt is, h) refl in
    ap (λ (l : List ℕ). behind l rest) e ∙ sym (behind_one list n rest) ∙ sym one ∙ so_far

-- The walk over the numbers of an array stops at a value that is no number: the row is none.
pub stops : (list : List ℕ) (values : List Value) (i : ℕ) (v : Value) (total : Option (List ℕ))
    → i < length values → v ≡ get_or values i v → number_of (view v) ≡ None
    → behind list (numbers_of (items_view (drop i values))) ≡ total → total ≡ None
unfolding numbers_of
stops list values i v total lt is h so_far =
    let one : behind list (numbers_of (items_view (drop i values))) ≡ None =
    rw (item_at values i v lt is, h) refl in
    sym so_far ∙ one

-- The walk over the numbers of an array ends with all numbers read.
pub ends : (list : List ℕ) (values : List Value) (i : ℕ) (total : Option (List ℕ))
    → length values ≤ i → behind list (numbers_of (items_view (drop i values))) ≡ total
    → total ≡ Some list
unfolding numbers_of
ends list values i total le so_far =
    let one : behind list (numbers_of (items_view (drop i values))) ≡ Some list =
    rw (drop_all i values le) (ap (λ (l : List ℕ). Some l) (append-nil list)) in
    sym so_far ∙ one

-- The rules of a walk over the numbers of an array.
pub ruleset walk = (begins, goes_on, stops, ends)
