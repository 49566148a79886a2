-- Each step that meets its criteria keeps what the steps say of the configuration.
use Rattle.std.specs.Prelude.{◌≡◌, ◌≢◌, ℕ, Bool, true, false, not, cond, List, [], ◌∷◌, ◌++◌, map}
use Rattle.std.specs.Prelude.{Option, Some}
use Rattle.std.proofs.Common.{refl, sym, ap, subst, ◌∙◌, append_assoc}
use Rattle.std.proofs.lemmas.List.{map-append, append-nil}
use mathlib.Core.Logic.{inl, inr}
use Rattle.pp_model.specs.Lists.{In, Before}
use Rattle.pp_model.specs.Body.{Tree, IsWord}
use Rattle.pp_model.specs.Object.{Object, Item}
use Rattle.pp_model.specs.Config.{Mark, Unpushed, Pushed, Pulled, is_own, LocalEntry, SharedEntry}
use Rattle.pp_model.specs.Config.{Tx, CommittedTx, Config, Start, Step, Begin, App, Unapp, Push}
use Rattle.pp_model.specs.Config.{Unpush, Pull, Unpull, Cmt, Quit, Note, item, own, own_items, tx}
use Rattle.pp_model.specs.Config.{then, push_effect, pull_effect, commit_effect, entry_of, at_mark}
use Rattle.pp_model.specs.Config.{of_other, on_log, set_mark, without_local, without_tx, but_last}
use Rattle.pp_model.specs.Config.{last}
use Rattle.pp_model.specs.Rules.{calls, Meets}
use Rattle.pp_model.specs.Sound.{Sound}
use Rattle.pp_model.specs.Serial.{unapplied_ids, own_of, bodies_of, first_body, commits, Attempt}
use Rattle.pp_model.specs.Serial.{attempt_of, start_attempts, attempts, committed_tx}
use Rattle.pp_model.proofs.Lists.{by_key, in_right, in_cases, before_across, in_map, from_filter}
use Rattle.pp_model.proofs.Logs.{found_tx, found_mark, on_each, but_last_is, from_own}
use Rattle.pp_model.proofs.Steps.{there_holds, own_items-append, last_holds, own_without}
use Rattle.pp_model.proofs.Begin.{each_added}
use Rattle.pp_model.proofs.Push.{remarked}
use Rattle.pp_model.proofs.Trace.{subject, quiet_applied, quiet_dropped, quiet_bodies, own_quiet}
use Rattle.pp_model.proofs.Trace.{bodies_quiet, own_app, own_unapp, dropped-append, bodies-append}
use Rattle.pp_model.proofs.Trace.{commits-append, Traced, old_attempts, subject_open}
use Rattle.pp_model.specs.Names.{Name, ◌=ⁿ◌}
use Rattle.pp_model.proofs.Names.{eq-names}

-- a committed transaction is among those of the steps
committer_done : {Op State : Type 0} (O : Object Op State) (h : Option (Start Op)) (ss : List (Step Op)) (c : Config Op) → Traced O h ss c → (t : Name) → In t (commits ss) → (d : CommittedTx Op) × In d c.done × (d.name ≡ t)
committer_done {Op} O h ss c r t i = (
  committed_tx (attempt_of ss t),
  subst (λ (w : List (CommittedTx Op)). In (committed_tx (attempt_of ss t)) w) (sym r.done)
      (in_map committed_tx (attempt_of ss t) (attempts h ss) (in_right (attempt_of ss t) (start_attempts h) (map (attempt_of ss) (commits ss)) (in_map (attempt_of ss) t (commits ss) i))),
  refl,
)

not_committed : {Op State : Type 0} (O : Object Op State) (h : Option (Start Op)) (ss : List (Step Op)) (c : Config Op) (a : Step Op) → Sound O c → Traced O h ss c → Meets O c a → (t : Name) → In t (commits ss) → subject a ≢ t
not_committed {Op} O h ss c a s r f t i e =
    let d = committer_done O h ss c r t i in
    elim (subject_open O c a f) [
      | inl n ↦ n (subst (λ (w : Name). In w c.names) (d.2 ∙ sym e) (s.done_known d.0 d.1))
      | inr x ↦ s.apart x.0 d.0 x.1 d.1 (x.2 ∙ e ∙ sym d.2)
    ]

attempts_same : {Op State : Type 0} (O : Object Op State) (h : Option (Start Op)) (ss : List (Step Op)) (c : Config Op) (a : Step Op) → Sound O c → Traced O h ss c → Meets O c a →
    attempts h (ss ++ a ∷ []) ≡ attempts h ss ++ map (attempt_of (ss ++ a ∷ [])) (commits (a ∷ []))
attempts_same {Op} O h ss c a s r f =
    ap (λ (w : List Name). start_attempts h ++ map (attempt_of (ss ++ a ∷ [])) w) (commits-append ss (a ∷ []))
    ∙ ap (λ (w : List (Attempt Op)). start_attempts h ++ w) (map-append (attempt_of (ss ++ a ∷ [])) (commits ss) (commits (a ∷ [])))
    ∙ ap (λ (w : List (Attempt Op)). start_attempts h ++ (w ++ map (attempt_of (ss ++ a ∷ [])) (commits (a ∷ [])))) (old_attempts ss a (not_committed O h ss c a s r f))
    ∙ sym (append_assoc (start_attempts h) (map (attempt_of ss) (commits ss)) (map (attempt_of (ss ++ a ∷ [])) (commits (a ∷ []))))

-- a step that is no CMT
core : {Op State : Type 0} (O : Object Op State) (h : Option (Start Op)) (ss : List (Step Op)) (c : Config Op) (a : Step Op) → Sound O c → Traced O h ss c → Meets O c a →
    commits (a ∷ []) ≡ [] → (names : List Name) (ids : List ℕ) (opened : List (Tx Op)) (G : List (SharedEntry Op)) →
    ((t : Name) → In t c.names → In t names) → ((t : Name) → (In t names → ⊥) → subject a ≢ t) →
    ((x : Tx Op) → In x opened → own_items x.local ≡ own_of x.name (ss ++ a ∷ [])) →
    ((x : Tx Op) → In x opened → bodies_of x.name (ss ++ a ∷ []) ≡ x.body ∷ []) →
    ((t : Name) (i : ℕ) → In i (unapplied_ids t (ss ++ a ∷ [])) → In i ids) →
    Traced O h (ss ++ a ∷ []) (record { names = names; ids = ids; opened = opened; shared = G; done = c.done })
core {Op} O h ss c a s r f none names ids opened G wider fresh lists bodies drops =
    record {
      lists = lists;
      bodies = bodies;
      done = r.done ∙ ap (λ (w : List (Attempt Op)). map committed_tx w) (sym same);
      words = λ b i. r.words b (subst (λ (w : List (Attempt Op)). In b w) same i);
      fresh_list = λ t n. own_quiet t ss a (quiet_applied t a (fresh t n)) (quiet_dropped t a (fresh t n)) ∙ r.fresh_list t (λ i. n (wider t i));
      fresh_bodies = λ t n. bodies_quiet t ss a (quiet_bodies t a (fresh t n)) ∙ r.fresh_bodies t (λ i. n (wider t i));
      drops = drops;
    }
  where
    same : attempts h (ss ++ a ∷ []) ≡ attempts h ss
    same = attempts_same O h ss c a s r f ∙ ap (λ (w : List Name). attempts h ss ++ map (attempt_of (ss ++ a ∷ [])) w) none ∙ append-nil (attempts h ss)

-- a step that changes the log of t
on_one : {Op State : Type 0} (O : Object Op State) (h : Option (Start Op)) (ss : List (Step Op)) (c : Config Op) (a : Step Op) → Sound O c → Traced O h ss c → Meets O c a →
    commits (a ∷ []) ≡ [] → ((u : Name) → bodies_of u (a ∷ []) ≡ []) →
    (x : Tx Op) → In x c.opened → x.name ≡ subject a → (f : List (LocalEntry Op) → List (LocalEntry Op)) (ids : List ℕ) (G : List (SharedEntry Op)) →
    (own_items (f x.local) ≡ own_of x.name (ss ++ a ∷ [])) →
    ((t : Name) (i : ℕ) → In i (unapplied_ids t (ss ++ a ∷ [])) → In i ids) →
    Traced O h (ss ++ a ∷ []) (record { names = c.names; ids = ids; opened = on_log (subject a) f c.opened; shared = G; done = c.done })
on_one {Op} O h ss c a s r k none nb x ix nx f ids G own drops =
    core O h ss c a s r k none c.names ids (on_log (subject a) f c.opened) G (λ t i. i)
    (λ t n e. n (subst (λ (w : Name). In w c.names) (nx ∙ e) (s.open_known x ix)))
    (on_each (subject a) f c.opened (λ (w : Tx Op). own_items w.local ≡ own_of w.name (ss ++ a ∷ []))
    (λ w i n. subst (λ (z : Tx Op). own_items (f z.local) ≡ own_of z.name (ss ++ a ∷ [])) (by_key (λ (z : Tx Op). z.name) c.opened s.open_names x w ix i (nx ∙ sym n)) own)
    (λ w i n. r.lists w i ∙ sym (own_quiet w.name ss a (quiet_applied w.name a (λ e. n (sym e))) (quiet_dropped w.name a (λ e. n (sym e))))))
    (on_each (subject a) f c.opened (λ (w : Tx Op). bodies_of w.name (ss ++ a ∷ []) ≡ w.body ∷ [])
    (λ w i n. bodies_quiet w.name ss a (nb w.name) ∙ r.bodies w i) (λ w i n. bodies_quiet w.name ss a (nb w.name) ∙ r.bodies w i))
    drops

-- If a step drops nothing, the dropped ids stay the same.
same_drops : {Op State : Type 0} (O : Object Op State) (h : Option (Start Op)) (ss : List (Step Op)) (c : Config Op) (a : Step Op) → Traced O h ss c → ((u : Name) → unapplied_ids u (a ∷ []) ≡ []) → (t : Name) (i : ℕ) → In i (unapplied_ids t (ss ++ a ∷ [])) → In i c.ids
same_drops O h ss c a r n t i j = r.drops t i (subst (λ (w : List ℕ). In i w) (dropped-append t ss (a ∷ []) ∙ ap (λ (w : List ℕ). unapplied_ids t ss ++ w) (n t) ∙ append-nil (unapplied_ids t ss)) j)

-- a commit
at_commit : {Op State : Type 0} (O : Object Op State) (h : Option (Start Op)) (ss : List (Step Op)) (c : Config Op) (t : Name) → Sound O c → Traced O h ss c → Meets O c (Cmt t) →
    (x : Tx Op) → In x c.opened → x.name ≡ t → IsWord x.body (calls O (own_items x.local)) → Traced O h (ss ++ Cmt t ∷ []) (commit_effect c t (Some x))
at_commit {Op} O h ss c t s r f x ix nx word =
    record {
      lists = λ y i. r.lists y (was y i) ∙ sym (own_quiet y.name ss a refl refl);
      bodies = λ y i. bodies_quiet y.name ss a refl ∙ r.bodies y (was y i);
      done = ap (λ (w : List (CommittedTx Op)). w ++ record { name = t; entries = own_items x.local } ∷ []) r.done
          ∙ ap (λ (w : List (Item Op)). map committed_tx (attempts h ss) ++ record { name = t; entries = w } ∷ []) own
          ∙ sym (map-append committed_tx (attempts h ss) (attempt_of (ss ++ a ∷ []) t ∷ []))
          ∙ ap (λ (w : List (Attempt Op)). map committed_tx w) (sym same);
      words = λ b i. elim (in_cases b (attempts h ss) (attempt_of (ss ++ a ∷ []) t ∷ []) (subst (λ (w : List (Attempt Op)). In b w) same i)) [
        | inl j ↦ r.words b j
        | inr (inl j) ↦ subst (λ (w : Attempt Op). IsWord w.body (calls O w.items)) (sym j)
            (subst (λ (w : List (Item Op)). IsWord (first_body (bodies_of t (ss ++ a ∷ []))) (calls O w)) own (subst (λ (w : Option Tree). IsWord w (calls O (own_items x.local))) (sym body) word))
        | inr (inr j) ↦ absurd j
      ];
      fresh_list = λ u n. own_quiet u ss a refl refl ∙ r.fresh_list u n;
      fresh_bodies = λ u n. bodies_quiet u ss a refl ∙ r.fresh_bodies u n;
      drops = same_drops O h ss c a r (λ u. refl);
    }
  where
    a : Step Op
    a = Cmt t

    was : (y : Tx Op) → In y (without_tx t c.opened) → In y c.opened
    was y i = (from_filter (λ (w : Tx Op). not (w.name =ⁿ t)) y c.opened i).0

    same : attempts h (ss ++ a ∷ []) ≡ attempts h ss ++ attempt_of (ss ++ a ∷ []) t ∷ []
    same = attempts_same O h ss c a s r f

    own : own_items x.local ≡ own_of t (ss ++ a ∷ [])
    own = r.lists x ix ∙ ap (λ (w : Name). own_of w ss) nx ∙ sym (own_quiet t ss a refl refl)

    body : first_body (bodies_of t (ss ++ a ∷ [])) ≡ x.body
    body = ap first_body (bodies_quiet t ss a refl ∙ ap (λ (w : Name). bodies_of w ss) (sym nx) ∙ r.bodies x ix)

-- A step that meets its criteria keeps `Traced`: the steps say what is in the configuration.
pub follow : {Op State : Type 0} (O : Object Op State) (h : Option (Start Op)) (ss : List (Step Op)) (c : Config Op) (a : Step Op) → Sound O c → Traced O h ss c → Meets O c a → Traced O h (ss ++ a ∷ []) (then c a)
follow {Op} O h ss c (App t id op) s r f =
    let a : Step Op = App t id op in
    let q = there_holds (tx t c.opened) _ f in
    let x : Tx Op = q.0 in
    let g = found_tx t c.opened x q.1 in
    let e : LocalEntry Op = record { id = id; owner = t; mark = Unpushed; op = op } in
    let fresh : In id (unapplied_ids t ss) → ⊥ = λ i. q.2.0 (r.drops t id i) in
    on_one O h ss c a s r f refl (λ u. refl) x g.0 g.1 (λ l. l ++ e ∷ []) (id ∷ c.ids) c.shared
    (own_items-append x.local (e ∷ []) ∙ ap (λ (w : List (Item Op)). w ++ item e ∷ []) (r.lists x g.0) ∙ ap (λ (w : Name). own_of w ss ++ item e ∷ []) g.1 ∙ sym (own_app t id op ss fresh) ∙ ap (λ (w : Name). own_of w (ss ++ a ∷ [])) (sym g.1))
    (λ u i j. inr (same_drops O h ss c a r (λ u. refl) u i j))
follow {Op} O h ss c (Unapp t id) s r f =
    let a : Step Op = Unapp t id in
    let q = there_holds (tx t c.opened) _ f in
    let x : Tx Op = q.0 in
    let g = found_tx t c.opened x q.1 in
    let k = last_holds id (last x.local) q.2.0 in
    let e : LocalEntry Op = k.0 in
    let is : x.local ≡ but_last x.local ++ e ∷ [] = but_last_is e x.local k.1 in
    let ow : own_items x.local ≡ own_items (but_last x.local) ++ item e ∷ [] =
    ap (λ (w : List (LocalEntry Op)). own_items w) is ∙ own_items-append (but_last x.local) (e ∷ []) ∙ ap (λ (w : Mark). own_items (but_last x.local) ++ map item (cond (is_own w) (e ∷ []) [])) k.3 in
    let apart : (p : Item Op) → In p (own_items (but_last x.local)) → p.id ≢ id = λ p i z.
    let m = from_own (but_last x.local) p i in
    s.local_ids x g.0 m.0 e (subst (λ (w : List (LocalEntry Op)). Before m.0 e w) (sym is) (before_across m.0 e (but_last x.local) (e ∷ []) m.1 (inl refl))) (ap (λ (w : Item Op). w.id) (sym m.3) ∙ z ∙ sym k.2) in
    on_one O h ss c a s r f refl (λ u. refl) x g.0 g.1 but_last c.ids c.shared
    (sym (ap (λ (w : Name). own_of w (ss ++ a ∷ [])) g.1 ∙ own_unapp t id ss (own_items (but_last x.local)) (item e) (ap (λ (w : Name). own_of w ss) (sym g.1) ∙ sym (r.lists x g.0) ∙ ow) k.2 apart))
    (λ u i j. elim (in_cases i (unapplied_ids u ss) (unapplied_ids u (a ∷ [])) (subst (λ (w : List ℕ). In i w) (dropped-append u ss (a ∷ [])) j)) [
      | inl n ↦ r.drops u i n
      | inr n ↦ subst (λ (w : ℕ). In w c.ids) (k.2 ∙ sym (only u i n)) (s.local_used x g.0 e (subst (λ (w : List (LocalEntry Op)). In e w) (sym is) (in_right e (but_last x.local) (e ∷ []) (inl refl))))
    ])
  where
    only : (u : Name) (i : ℕ) → In i (unapplied_ids {Op = Op} u (Unapp t id ∷ [])) → i ≡ id
    only u i n = go (t =ⁿ u) n
      where
        go : (b : Bool) → In i (cond b (id ∷ []) []) → i ≡ id
        go true (inl e) = e
        go true (inr e) = absurd e
        go false e = absurd e
follow {Op} O h ss c (Push t id) s r f =
    let a : Step Op = Push t id in
    let q = there_holds (tx t c.opened) _ f in
    let k = there_holds (at_mark id Unpushed (q.0).local) _ q.2 in
    let x : Tx Op = q.0 in
    let g = found_tx t c.opened x q.1 in
    let m = found_mark id Unpushed x.local k.0 k.1 in
    let one = remarked O c s id Pushed refl x g.0 (λ b i z. ap (λ (w : LocalEntry Op). is_own w.mark) (by_key (λ (w : LocalEntry Op). w.id) x.local (s.local_ids x g.0) b k.0 i m.0 (z ∙ sym m.1)) ∙ ap is_own m.2) in
    subst (λ (w : Option (Tx Op)). Traced O h (ss ++ a ∷ []) (push_effect c t id (entry_of id Unpushed w))) (sym q.1)
    (subst (λ (w : Option (LocalEntry Op)). Traced O h (ss ++ a ∷ []) (push_effect c t id w)) (sym k.1)
    (on_one O h ss c a s r f refl (λ u. refl) x g.0 g.1 (set_mark id Pushed) c.ids _ ((one).same_own ∙ r.lists x g.0 ∙ sym (own_quiet x.name ss a refl refl)) (same_drops O h ss c a r (λ u. refl))))
follow {Op} O h ss c (Unpush t id) s r f =
    let a : Step Op = Unpush t id in
    let q = there_holds (tx t c.opened) _ f in
    let k = there_holds (at_mark id Pushed (q.0).local) _ q.2 in
    let x : Tx Op = q.0 in
    let g = found_tx t c.opened x q.1 in
    let m = found_mark id Pushed x.local k.0 k.1 in
    let one = remarked O c s id Unpushed refl x g.0 (λ b i z. ap (λ (w : LocalEntry Op). is_own w.mark) (by_key (λ (w : LocalEntry Op). w.id) x.local (s.local_ids x g.0) b k.0 i m.0 (z ∙ sym m.1)) ∙ ap is_own m.2) in
    on_one O h ss c a s r f refl (λ u. refl) x g.0 g.1 (set_mark id Unpushed) c.ids _ ((one).same_own ∙ r.lists x g.0 ∙ sym (own_quiet x.name ss a refl refl)) (same_drops O h ss c a r (λ u. refl))
follow {Op} O h ss c (Pull t id) s r f =
    let a : Step Op = Pull t id in
    let q = there_holds (tx t c.opened) _ f in
    let k = there_holds (of_other t id c.shared) _ q.2 in
    let x : Tx Op = q.0 in
    let g = found_tx t c.opened x q.1 in
    let e : LocalEntry Op = record { id = (k.0).id; owner = (k.0).owner; mark = Pulled; op = (k.0).op } in
    subst (λ (w : Option (SharedEntry Op)). Traced O h (ss ++ a ∷ []) (pull_effect c t id w)) (sym k.1)
    (on_one O h ss c a s r f refl (λ u. refl) x g.0 g.1 (λ l. l ++ e ∷ []) c.ids c.shared
    (own_items-append x.local (e ∷ []) ∙ append-nil (own_items x.local) ∙ r.lists x g.0 ∙ sym (own_quiet x.name ss a refl refl)) (same_drops O h ss c a r (λ u. refl)))
follow {Op} O h ss c (Unpull t id) s r f =
    let a : Step Op = Unpull t id in
    let q = there_holds (tx t c.opened) _ f in
    let k = there_holds (at_mark id Pulled (q.0).local) _ q.2 in
    let x : Tx Op = q.0 in
    let g = found_tx t c.opened x q.1 in
    let m = found_mark id Pulled x.local k.0 k.1 in
    on_one O h ss c a s r f refl (λ u. refl) x g.0 g.1 (without_local id) c.ids c.shared
    (ap (λ (w : List (LocalEntry Op)). map item w) (own_without id x.local (λ b i z. ap (λ (w : LocalEntry Op). is_own w.mark) (by_key (λ (w : LocalEntry Op). w.id) x.local (s.local_ids x g.0) b k.0 i m.0 (z ∙ sym m.1)) ∙ ap is_own m.2))
    ∙ r.lists x g.0 ∙ sym (own_quiet x.name ss a refl refl)) (same_drops O h ss c a r (λ u. refl))
follow {Op} O h ss c (Begin t p b) s r f =
    let a : Step Op = Begin t p b in
    let new : Tx Op = record { name = t; thread = p; body = b; local = [] } in
    core O h ss c a s r f refl (t ∷ c.names) c.ids (c.opened ++ new ∷ []) c.shared (λ u i. inr i) (λ u n e. n (inl (sym e)))
    (each_added c.opened new (λ (w : Tx Op). own_items w.local ≡ own_of w.name (ss ++ a ∷ []))
    (λ w i. r.lists w i ∙ sym (own_quiet w.name ss a refl refl))
    (sym (own_quiet t ss a refl refl ∙ r.fresh_list t f.0)))
    (each_added c.opened new (λ (w : Tx Op). bodies_of w.name (ss ++ a ∷ []) ≡ w.body ∷ [])
    (λ w i. bodies_quiet w.name ss a (quiet_bodies w.name a (λ e. f.0 (subst (λ (z : Name). In z c.names) (sym e) (s.open_known w i)))) ∙ r.bodies w i)
    (bodies-append t ss (a ∷ []) ∙ ap (λ (w : List (Option Tree)). w ++ bodies_of t (a ∷ [])) (r.fresh_bodies t f.0) ∙ ap (λ (z : Bool). cond z (b ∷ []) []) (eq-names t t refl)))
    (same_drops O h ss c a r (λ u. refl))
follow {Op} O h ss c (Quit t) s r f =
    let a : Step Op = Quit t in
    let q = there_holds (tx t c.opened) _ f in
    let g = found_tx t c.opened q.0 q.1 in
    core O h ss c a s r f refl c.names c.ids (without_tx t c.opened) c.shared (λ u i. i) (λ u n e. n (subst (λ (w : Name). In w c.names) (g.1 ∙ e) (s.open_known q.0 g.0)))
    (λ x i. r.lists x (from_filter (λ (w : Tx Op). not (w.name =ⁿ t)) x c.opened i).0 ∙ sym (own_quiet x.name ss a refl refl))
    (λ x i. bodies_quiet x.name ss a refl ∙ r.bodies x (from_filter (λ (w : Tx Op). not (w.name =ⁿ t)) x c.opened i).0)
    (same_drops O h ss c a r (λ u. refl))
follow {Op} O h ss c (Note t) s r f =
    let a : Step Op = Note t in
    let q = there_holds (tx t c.opened) _ f in
    let g = found_tx t c.opened q.0 q.1 in
    core O h ss c a s r f refl c.names c.ids c.opened c.shared (λ u i. i) (λ u n e. n (subst (λ (w : Name). In w c.names) (g.1 ∙ e) (s.open_known q.0 g.0)))
    (λ x i. r.lists x i ∙ sym (own_quiet x.name ss a refl refl))
    (λ x i. bodies_quiet x.name ss a refl ∙ r.bodies x i)
    (same_drops O h ss c a r (λ u. refl))
follow {Op} O h ss c (Cmt t) s r f =
    let a : Step Op = Cmt t in
    let q = there_holds (tx t c.opened) _ f in
    let x : Tx Op = q.0 in
    let g = found_tx t c.opened x q.1 in
    subst (λ (w : Option (Tx Op)). Traced O h (ss ++ a ∷ []) (commit_effect c t w)) (sym q.1) (at_commit O h ss c t s r f x g.0 g.1 q.2.0)
