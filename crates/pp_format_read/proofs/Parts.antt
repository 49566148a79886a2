-- The parts of a body that is read.
use Rattle.std.proofs.Common.{◌≡◌, ◌<◌, ◌≤◌, ℕ, zero, suc, ◌+◌, max, List, [], ◌∷◌, ◌++◌, codes}
use Rattle.std.proofs.Common.{length, drop, get_or, Option, Some, None, option_map, Result, Ok, Err}
use Rattle.std.proofs.Common.{refl, ap, sym, ◌∙◌, append_assoc, arith}
use Rattle.std.specs.Ordering.{nat_cmp, match_ordering}
use Rattle.std.specs.declared.cmp.Ordering.{Ordering}
use Rattle.std.specs.declared.cmp.Ordering.TheVariants.{Less, Equal, Greater}
use Rattle.std.specs.Cmp.Lexicographic.{slice_cmp}
use Rattle.std.proofs.lemmas.List.{append-nil, drop_all}
use Rattle.serde_json.specs.declared.value.Value.{Value}
use Rattle.serde_json.specs.View.{view, items_view}
use Rattle.serde_json.specs.Data.{Data, Items, Members, no_members, member, null, boolean, number}
use Rattle.serde_json.specs.Data.{string, array, object, depth, items_depth, members_depth}
use Rattle.serde_json.specs.Find.{get, get_member, as_array}
use Rattle.pp_core.specs.Trees.{Tree}
use Rattle.pp_core.specs.Catalogs.{Objects}
use Rattle.pp_format_read.specs.declared.fault.RecordFault.{RecordFault}
use Rattle.pp_format_read.specs.declared.fault.RecordFault.TheVariants.{BodyBad}
use Rattle.pp_format_read.specs.Reading.{◌>>=◌}
use Rattle.pp_format_read.proofs.Objects.{item_at}
use Rattle.pp_format_read.specs.Bodies.{forms, form_of, as_seq, as_alt, as_star, body_of, bodies_of}
use Rattle.pp_format_read.specs.Bodies.{bodies_in, seq_among, alt_among, star_among}

-- A function that is mapped over a lookup is mapped over its result.
at_key : {A B : Type 0} (f : A → B) (o : Ordering) (x : A) (y : Option B) (z : Option A) → y ≡ option_map f z
    → match_ordering o y (Some (f x)) y ≡ option_map f (match_ordering o z (Some x) z)
at_key f Less x y z e = e
at_key f Equal x y z e = refl
at_key f Greater x y z e = e

seq_is : (objects : Objects) (ms : Members) → seq_among objects ms ≡ option_map (λ d. as_seq (bodies_of objects d)) (get_member (codes "seq") ms)
unfolding seq_among
seq_is objects no_members = refl
seq_is objects (member k d ms) = at_key (λ (e : Data). as_seq (bodies_of objects e)) (slice_cmp nat_cmp (codes "seq") k) d _ _ (seq_is objects ms)

alt_is : (objects : Objects) (ms : Members) → alt_among objects ms ≡ option_map (λ d. as_alt (bodies_of objects d)) (get_member (codes "alt") ms)
unfolding alt_among
alt_is objects no_members = refl
alt_is objects (member k d ms) = at_key (λ (e : Data). as_alt (bodies_of objects e)) (slice_cmp nat_cmp (codes "alt") k) d _ _ (alt_is objects ms)

star_is : (objects : Objects) (ms : Members) → star_among objects ms ≡ option_map (λ d. as_star (body_of objects d)) (get_member (codes "star") ms)
unfolding star_among
star_is objects no_members = refl
star_is objects (member k d ms) = at_key (λ (e : Data). as_star (body_of objects e)) (slice_cmp nat_cmp (codes "star") k) d _ _ (star_is objects ms)

-- The body that the members of a value are read as.
abbrev pub by_members : Objects → Data → Result Tree RecordFault
by_members objects d =
    form_of objects d (option_map (λ e. as_seq (bodies_of objects e)) (get (codes "seq") d)) (option_map (λ e. as_alt (bodies_of objects e)) (get (codes "alt") d))
    (option_map (λ e. as_star (body_of objects e)) (get (codes "star") d))

-- A body is read by the members of its object.
pub body_is : (objects : Objects) (d : Data) → body_of objects d ≡ by_members objects d
unfolding body_of forms
body_is objects (object ms) = rw (seq_is objects ms, alt_is objects ms, star_is objects ms) refl
body_is objects null = refl
body_is objects (boolean b) = refl
body_is objects (number n) = refl
body_is objects (string s) = refl
body_is objects (array ds) = refl

-- depth falls
found_depth : (o : Ordering) (d : Data) (ms : Members) (e : Data) (rest : Option Data) → (rest ≡ Some e → depth e ≤ members_depth ms)
    → match_ordering o rest (Some d) rest ≡ Some e → depth e ≤ max (depth d) (members_depth ms)
found_depth Less d ms e rest f is = let r = f is in omega arith
found_depth Equal d ms e rest f is = let same : d ≡ e = cc in let le = ap depth same in omega arith
found_depth Greater d ms e rest f is = let r = f is in omega arith

member_depth : (key : List ℕ) (ms : Members) (e : Data) → get_member key ms ≡ Some e → depth e ≤ members_depth ms
member_depth key no_members e is = absurd (cc)
member_depth key (member k d ms) e is = found_depth (slice_cmp nat_cmp key k) d ms e (get_member key ms) (λ h. member_depth key ms e h) is

-- A member of an object is less deep than the object.
pub get_falls : (key : List ℕ) (d e : Data) → get key d ≡ Some e → depth e < depth d
get_falls key (object ms) e is = let le = member_depth key ms e is in omega arith
get_falls key null e is = absurd (cc)
get_falls key (boolean b) e is = absurd (cc)
get_falls key (number n) e is = absurd (cc)
get_falls key (string s) e is = absurd (cc)
get_falls key (array ds) e is = absurd (cc)

item_depth : (vs : List Value) (i : ℕ) (v : Value) → i < length vs → v ≡ get_or vs i v → depth (view v) ≤ items_depth (items_view vs)
item_depth [] i v lt is = absurd (omega arith)
item_depth (w ∷ vs) zero v lt is = let same : depth (view v) ≡ depth (view w) = ap (λ (x : Value). depth (view x)) is in omega arith
item_depth (w ∷ vs) (suc i) v lt is = let le = item_depth vs i v (omega arith) is in omega arith

-- A value of an array is less deep than the array.
pub item_falls : (d : Data) (vs : List Value) (i : ℕ) (v : Value) → as_array d ≡ Some (items_view vs) → i < length vs → v ≡ get_or vs i v → depth (view v) < depth d
item_falls (array ds) vs i v a lt is =
    let le = item_depth vs i v lt is in
    let same : items_depth ds ≡ items_depth (items_view vs) = ap items_depth (cc (a)) in
    omega arith
item_falls null vs i v a lt is = absurd (cc)
item_falls (boolean b) vs i v a lt is = absurd (cc)
item_falls (number n) vs i v a lt is = absurd (cc)
item_falls (string s) vs i v a lt is = absurd (cc)
item_falls (object ms) vs i v a lt is = absurd (cc)

-- the parts of an array, one by one
abbrev pub behind : List Tree → Result (List Tree) RecordFault → Result (List Tree) RecordFault
behind before read = read >>= λ bs. Ok (before ++ bs)

-- A value that is no array has no parts of a body.
pub not_array : (objects : Objects) (d : Data) → as_array d ≡ None → bodies_of objects d ≡ Err BodyBad
unfolding bodies_of
not_array objects (array ds) e = absurd (cc)
not_array objects null e = refl
not_array objects (boolean b) e = refl
not_array objects (number n) e = refl
not_array objects (string s) e = refl
not_array objects (object ms) e = refl

nothing_before : (r : Result (List Tree) RecordFault) → behind [] r ≡ r
nothing_before (Ok bs) = refl
nothing_before (Err e) = refl

-- The walk over the parts of a body begins with none read.
pub begins : (objects : Objects) (d : Data) (vs : List Value) → as_array d ≡ Some (items_view vs) → behind [] (bodies_in objects (items_view (drop 0 vs))) ≡ bodies_of objects d
unfolding bodies_of
begins objects (array ds) vs a = let same : items_view vs ≡ ds = cc in nothing_before (bodies_in objects (items_view vs)) ∙ ap (λ (x : Items). bodies_in objects x) same
begins objects null vs a = absurd (cc)
begins objects (boolean b) vs a = absurd (cc)
begins objects (number n) vs a = absurd (cc)
begins objects (string s) vs a = absurd (cc)
begins objects (object ms) vs a = absurd (cc)

one_behind : (before : List Tree) (b : Tree) (r : Result (List Tree) RecordFault) → behind (before ++ b ∷ []) r ≡ behind before (r >>= λ bs. Ok (b ∷ bs))
one_behind before b (Ok bs) = ap (λ (x : List Tree). Ok x) (append_assoc before (b ∷ []) bs)
one_behind before b (Err e) = refl

-- The walk over the parts of a body goes on after a part that is a body.
pub goes_on : (objects : Objects) (before : List Tree) (values : List Value) (i : ℕ) (v : Value) (b : Tree) (total : Result (List Tree) RecordFault)
    → i < length values → v ≡ get_or values i v → body_of objects (view v) ≡ Ok b
    → behind before (bodies_in objects (items_view (drop i values))) ≡ total → behind (before ++ b ∷ []) (bodies_in objects (items_view (drop (i + 1) values))) ≡ total
unfolding bodies_in
goes_on objects before values i v b total lt is h so_far =
    let one : behind before (bodies_in objects (items_view (drop i values))) ≡ behind before (bodies_in objects (items_view (drop (i + 1) values)) >>= λ bs. Ok (b ∷ bs)) = rw (item_at values i v lt is, h) refl in
    one_behind before b (bodies_in objects (items_view (drop (i + 1) values))) ∙ sym one ∙ so_far

-- The walk over the parts of a body stops at the first part with a fault.
pub stops : (objects : Objects) (before : List Tree) (values : List Value) (i : ℕ) (v : Value) (e : RecordFault) (total : Result (List Tree) RecordFault)
    → i < length values → v ≡ get_or values i v → body_of objects (view v) ≡ Err e
    → behind before (bodies_in objects (items_view (drop i values))) ≡ total → total ≡ Err e
unfolding bodies_in
stops objects before values i v e total lt is h so_far =
    let one : behind before (bodies_in objects (items_view (drop i values))) ≡ Err e = rw (item_at values i v lt is, h) refl in
    sym so_far ∙ one

-- The walk over the parts of a body ends with all parts read.
pub ends : (objects : Objects) (before : List Tree) (values : List Value) (i : ℕ) (total : Result (List Tree) RecordFault)
    → length values ≤ i → behind before (bodies_in objects (items_view (drop i values))) ≡ total → total ≡ Ok before
unfolding bodies_in
ends objects before values i total le so_far =
    let one : behind before (bodies_in objects (items_view (drop i values))) ≡ Ok before = rw (drop_all i values le) (ap (λ (x : List Tree). Ok x) (append-nil before)) in
    sym so_far ∙ one
