-- Proof machinery: accepted runs that are not opaque.
use Rattle.std.specs.Prelude.{◌≡◌, ◌≢◌, ◌⊎◌, ◌≤◌, ◌++◌, length, ℕ, suc, zero, true, false, List, [], ◌∷◌, None}
use Rattle.std.proofs.Common.{refl, sym, ap, subst, ◌∙◌, arith, append_assoc}
use Rattle.std.proofs.lemmas.Option.{same_Some}
use mathlib.Core.Logic.{inl, inr}
use Rattle.pp_core.specs.declared.call.Style.TheVariants.{Optimistic}
use Rattle.pp_records.specs.Expansions.{IsOfStyle}
use Rattle.pp_records.specs.Records.{RunRecord}
use Rattle.pp_records.specs.Runs.{Lined}
use Rattle.pp_model.specs.Config.{Begin, App, Unapp, Cmt, LocalEntry, Mark, Pull, Unpull, Pulled, Push, Pushed, Quit, SharedEntry, Step, Tx, Unpushed, after, first}
use Rattle.pp_model.specs.Lists.{In}
use Rattle.pp_model.specs.Names.{Name}
use Rattle.pp_model.specs.Object.{AllowedFrom, Reorders, Swaps}
use Rattle.pp_model.proofs.Lists.{not_empty}
use Rattle.pp_model.specs.Rules.{RunsFrom}
use Rattle.pp_model.specs.Serial.{attempts}
use Rattle.pp_laws_opacity.specs.Cells.{Access, Cells, early, SawX, SawY, SetX, SetY, a, b, c, cells, next, none, old, retried, stale, torn}
use Rattle.pp_laws_opacity.specs.Cells.{zombie, zombie_steps}
use Rattle.pp_laws_opacity.specs.Examples.{EarlyLaw, OldLaw, OptimisticLaw, RetriedLaw, StaleLaw, TornLaw}
use Rattle.pp_laws_opacity.specs.Sufficient.{HasSnapshot, HasSnapshots}
use Rattle.pp_laws_opacity.specs.Opacity.{Began, MayStart, Sees, Starts}
use Rattle.pp_laws_opacity.proofs.Prefixes.{began_kept, began_new, last_end}

differ : (m n : ℕ) → m ≢ n → (◌≡◌ {A = Name} (m ∷ []) (n ∷ [])) → ⊥
differ m n d e = d (let k : m ≡ n = cc in k)

ids : (m n : ℕ) → m ≢ n → m ≡ n → ⊥
ids m n d e = d e

of : (r q : Lined (RunRecord Access)) → r ≡ q → IsOfStyle Optimistic q.what → IsOfStyle Optimistic r.what
of r q e k = subst (λ (w : Lined (RunRecord Access)). IsOfStyle Optimistic w.what) (sym e) k

-- a log of one pushed entry
pushed : (l : LocalEntry Access) → l.mark ≡ Pushed → (e : LocalEntry Access) → (e ≡ l) ⊎ ⊥ → e.mark ≡ Pushed
pushed l m e (inl i) = ap (λ (w : LocalEntry Access). w.mark) i ∙ m
pushed l m e (inr n) = absurd n

not_pulled : (l : LocalEntry Access) → l.mark ≡ Pushed → (e : LocalEntry Access) → (e ≡ l) ⊎ ⊥ → e.mark ≡ Pulled → ⊥
not_pulled l m e i p = let k : Pushed ≡ Pulled = sym (pushed l m e i) ∙ p in cc

committed : (l : SharedEntry Access) → l.committed ≡ true → (u : SharedEntry Access) → (u ≡ l) ⊎ ⊥ → u.committed ≡ false → ⊥
committed l m u (inl i) f = let k : true ≡ false = sym m ∙ ap (λ (w : SharedEntry Access). w.committed) (sym i) ∙ f in cc
committed l m u (inr n) f = n

torn_runs : RunsFrom cells (first none) torn
torn_runs = (
  (λ i. i, (λ x i. absurd i, refl)),
  (
    (tt, (λ i. i, (([], tt), ((tt, tt), refl)))),
    (
      (tt, (tt, (λ e i. absurd (elim i [ inl k ↦ k.1 | inr k ↦ k ]), (λ u i. absurd i, ((tt, tt), refl))))),
      (
        (tt, (tt, (λ e i o. pushed _ refl e i, (λ e i p. absurd (not_pulled _ refl e i p), refl)))),
        (
          (λ i. elim i [ inl k ↦ differ 1 0 (omega arith) k | inr k ↦ k ], (λ x i. absurd i, refl)),
          (
            (tt, (λ i. elim i [ inl k ↦ omega (arith, k) | inr k ↦ k ], (([], tt), ((tt, tt), refl)))),
            (
              (tt, (tt, (λ e i. absurd (elim i [ inl k ↦ k.1 | inr k ↦ k ]), (λ u i f. absurd (committed _ refl u i f), ((tt, (tt, tt)), refl))))),
              (
                (tt, (tt, (λ e i o. pushed _ refl e i, (λ e i p. absurd (not_pulled _ refl e i p), refl)))),
                (
                  (λ i. elim i [ inl k ↦ differ 2 1 (omega arith) k | inr (inl k) ↦ differ 2 0 (omega arith) k | inr (inr k) ↦ k ], (λ x i. absurd i, refl)),
                  (
                    (tt, (tt, (λ e i. absurd i, ((tt, tt), (λ l i. absurd i, refl))))),
                    (
                      (tt, (λ i. elim i [ inl k ↦ omega (arith, k) | inr (inl k) ↦ omega (arith, k) | inr (inr k) ↦ k ], (([], tt), ((tt, (refl, tt)), refl)))),
                      (
                        (tt, (λ i. elim i [ inl k ↦ omega (arith, k) | inr (inl k) ↦ omega (arith, k) | inr (inr (inl k)) ↦ omega (arith, k) | inr (inr (inr k)) ↦ k ], (([], tt), ((tt, (refl, (refl, tt))), refl)))),
                        tt,
                      ),
                    ),
                  ),
                ),
              ),
            ),
          ),
        ),
      ),
    ),
  ),
)

-- the entry that c pulls
both_committed : (g : SharedEntry Access) → In g (after none (Begin a a None ∷ App a 0 SetX ∷ Push a 0 ∷ Cmt a ∷ Begin b b None ∷ App b 1 SetY ∷ Push b 1 ∷ Cmt b ∷ [])).shared → g.committed ≡ true
both_committed g (inl e) = ap (λ (w : SharedEntry Access). w.committed) e
both_committed g (inr (inl e)) = ap (λ (w : SharedEntry Access). w.committed) e
both_committed g (inr (inr n)) = absurd n

clash : {A : Type 0} → true ≡ false → A
clash e = absurd (cc)

torn_sees : (n : ℕ) → Sees cells none torn c n → ⊥
torn_sees zero k = clash (sym k.0)
torn_sees (suc zero) k = clash (sym k.1.0)
torn_sees (suc (suc zero)) k = clash k.1.1.1.0
torn_sees (suc (suc (suc n))) k = clash k.1.1.1.0

-- It is not enough for opacity that only committed entries are pulled.
pub torn_law : TornLaw
torn_law = record {
  accepted = torn_runs;
  pulled = (λ g i e. both_committed g i, tt);
  not_opaque = λ o. let s = o torn c ([], refl) (_, inl refl, refl) (λ e. cc) in torn_sees s.n s.sees;
}

-- the steps up to c's BEGIN, after a's commit
abbrev late : List (Step Access)
late = Begin a a None ∷ App a 0 SetX ∷ Push a 0 ∷ Cmt a ∷ Begin c c None ∷ []

stale_sees : (n : ℕ) → 1 ≤ n → Sees cells none stale c n → ⊥
stale_sees zero l k = omega (arith, l)
stale_sees (suc zero) l k = clash k.1.0
stale_sees (suc (suc n)) l k = clash k.1.0

one_committed : (early rest : List (Step Access)) → early ≡ late ++ rest → 1 ≤ length (attempts none early)
one_committed early rest e = subst (λ (w : List (Step Access)). 1 ≤ length (attempts none w)) (sym e) (omega arith)

-- It is not enough for opacity that some number of commits explains an own list.
pub stale_law : StaleLaw
stale_law = record {
  accepted = (
    (λ i. i, (λ x i. absurd i, refl)),
    (
      (tt, (λ i. i, (([], tt), ((tt, tt), refl)))),
      (
        (tt, (tt, (λ e i. absurd (elim i [ inl k ↦ k.1 | inr k ↦ k ]), (λ u i. absurd i, ((tt, tt), refl))))),
        (
          (tt, (tt, (λ e i o. pushed _ refl e i, (λ e i p. absurd (not_pulled _ refl e i p), refl)))),
          (
            (λ i. elim i [ inl k ↦ differ 2 0 (omega arith) k | inr k ↦ k ], (λ x i. absurd i, refl)),
            (
              (tt, (λ i. elim i [ inl k ↦ omega (arith, k) | inr k ↦ k ], (([], tt), ((refl, tt), refl)))),
              tt,
            ),
          ),
        ),
      ),
    ),
  );
  sees = (refl, tt);
  not_opaque = λ o.
      let s = o stale c ([], refl) (_, inl refl, refl) (λ e. cc) in
      let b = (s.began).last late (App c 1 (SawX false) ∷ [], refl) (Begin c c None, refl, refl, refl) in
      let one = one_committed s.early b.0 b.1 in
      let least = s.least in
      let more : 1 ≤ s.n = omega (arith, one, least) in
      stale_sees s.n more s.sees;
}

-- the steps up to c's second attempt, after a's commit
abbrev taken_back : List (Step Access)
taken_back = Begin c c None ∷ App c 0 (SawX false) ∷ Begin a a None ∷ App a 1 SetX ∷ Push a 1 ∷ Cmt a ∷ Unapp c 0 ∷ []

retried_sees : (n : ℕ) → 1 ≤ n → Sees cells none retried c n → ⊥
retried_sees zero l k = omega (arith, l)
retried_sees (suc zero) l k = clash k.1.0
retried_sees (suc (suc n)) l k = clash k.1.0

one_before_retry : (early rest : List (Step Access)) → early ≡ taken_back ++ rest → 1 ≤ length (attempts none early)
one_before_retry early rest e = subst (λ (w : List (Step Access)). 1 ≤ length (attempts none w)) (sym e) (omega arith)

-- It is not enough for opacity that the number is no smaller than when the transaction began.
pub retried_law : RetriedLaw
retried_law = record {
  accepted = (
    (λ i. i, (λ x i. absurd i, refl)),
    (
      (tt, (λ i. i, (([], tt), ((refl, tt), refl)))),
      (
        (
          λ i. elim i [ inl k ↦ differ 0 2 (omega arith) k | inr k ↦ k ],
          (λ x i e. elim i [ inl k ↦ differ 2 0 (omega arith) (ap (λ (w : Tx Access). w.thread) (sym k) ∙ e) | inr k ↦ k ], refl),
        ),
        (
          (tt, (λ i. elim i [ inl k ↦ omega (arith, k) | inr k ↦ k ], (([], tt), ((tt, tt), refl)))),
          (
            (tt, (tt, (λ e i. absurd (elim i [ inl k ↦ k.1 | inr k ↦ k ]), (λ u i. absurd i, ((tt, tt), refl))))),
            (
              (tt, (tt, (λ e i o. pushed _ refl e i, (λ e i p. absurd (not_pulled _ refl e i p), refl)))),
              (
                (tt, ((refl, refl), refl)),
                (
                  (tt, (λ i. elim i [ inl k ↦ omega (arith, k) | inr (inl k) ↦ omega (arith, k) | inr (inr k) ↦ k ], (([], tt), ((refl, tt), refl)))),
                  tt,
                ),
              ),
            ),
          ),
        ),
      ),
    ),
  );
  sees = (refl, tt);
  not_opaque = λ o.
      let s = o retried c ([], refl) (_, inl refl, refl) (λ e. cc) in
      let b = (s.began).last taken_back (App c 2 (SawX false) ∷ [], refl) (Unapp c 0, refl, refl, refl) in
      let one = one_before_retry s.early b.0 b.1 in
      let least = s.least in
      let more : 1 ≤ s.n = omega (arith, one, least) in
      retried_sees s.n more s.sees;
}

-- the steps up to c's BEGIN, and up to what c sees first
abbrev begun : List (Step Access)
begun = Begin a a None ∷ App a 0 SetX ∷ Push a 0 ∷ Begin c c None ∷ []

abbrev seen : List (Step Access)
seen = Begin a a None ∷ App a 0 SetX ∷ Push a 0 ∷ Begin c c None ∷ Pull c 0 ∷ App c 1 (SawX true) ∷ []

no_start : (t : Name) (past : List (Step Access)) (s : Step Access) → (MayStart t s → ⊥) → Starts t (past ++ s ∷ []) → ⊥
no_start t past s n k = n (subst (λ (w : Step Access). MayStart t w) (same_Some k.0 s (sym k.1 ∙ last_end past s)) k.2)

began_there : Began c begun early
began_there =
    let never = λ (z : ⊥). z in
    let b0 = began_new c begun (Begin c c None, refl, refl, refl) in
    let b1 = began_kept c begun begun (Pull c 0) b0 (no_start c begun (Pull c 0) never) in
    let b2 = began_kept c begun (begun ++ Pull c 0 ∷ []) (App c 1 (SawX true)) b1 (no_start c (begun ++ Pull c 0 ∷ []) (App c 1 (SawX true)) never) in
    let b3 = began_kept c begun seen (Cmt a) b2 (no_start c seen (Cmt a) never) in
    began_kept c begun (seen ++ Cmt a ∷ []) (App c 2 (SawX true)) b3 (no_start c (seen ++ Cmt a ∷ []) (App c 2 (SawX true)) never)

early_sees : (n : ℕ) → n ≤ 0 → Sees cells none seen c n → ⊥
early_sees zero l k = clash (sym k.0)
early_sees (suc n) l k = omega (arith, l)

-- It is not enough for opacity that a number in the window explains the own list in the end.
pub early_law : EarlyLaw
early_law = record {
  accepted = (
    (λ i. i, (λ x i. absurd i, refl)),
    (
      (tt, (λ i. i, (([], tt), ((tt, tt), refl)))),
      (
        (tt, (tt, (λ e i. absurd (elim i [ inl k ↦ k.1 | inr k ↦ k ]), (λ u i. absurd i, ((tt, tt), refl))))),
        (
          (
            λ i. elim i [ inl k ↦ differ 2 0 (omega arith) k | inr k ↦ k ],
            (λ x i e. elim i [ inl k ↦ differ 0 2 (omega arith) (ap (λ (w : Tx Access). w.thread) (sym k) ∙ e) | inr k ↦ k ], refl),
          ),
          (
            (tt, (tt, (λ e i. absurd i, ((tt, tt), (λ l i. absurd i, refl))))),
            (
              (tt, (λ i. elim i [ inl k ↦ omega (arith, k) | inr k ↦ k ], (([], tt), ((tt, (refl, tt)), refl)))),
              (
                (tt, (tt, (λ e i o. pushed _ refl e i, (λ e i p. absurd (not_pulled _ refl e i p), refl)))),
                (
                  (tt, (λ i. elim i [ inl k ↦ omega (arith, k) | inr (inl k) ↦ omega (arith, k) | inr (inr k) ↦ k ], (([], tt), ((tt, (refl, (refl, tt))), refl)))),
                  tt,
                ),
              ),
            ),
          ),
        ),
      ),
    ),
  );
  sees = record { early = begun; began = began_there; n = 1; least = omega arith; most = omega arith; sees = (tt, (refl, (refl, tt))) };
  not_opaque = λ o.
      let s = o seen c (Cmt a ∷ App c 2 (SawX true) ∷ [], refl) (_, inr (inl refl), refl) (λ e. cc) in
      early_sees s.n s.most s.sees;
}

zombie_is : (r : Lined (RunRecord Access)) → In r zombie → IsOfStyle Optimistic r.what
zombie_is r (inl e) = of r _ e tt
zombie_is r (inr (inl e)) = of r _ e tt
zombie_is r (inr (inr (inl e))) = of r _ e tt
zombie_is r (inr (inr (inr (inl e)))) = of r _ e tt
zombie_is r (inr (inr (inr (inr (inl e))))) = of r _ e tt
zombie_is r (inr (inr (inr (inr (inr (inl e)))))) = of r _ e tt
zombie_is r (inr (inr (inr (inr (inr (inr (inl e))))))) = of r _ e tt
zombie_is r (inr (inr (inr (inr (inr (inr (inr (inl e)))))))) = of r _ e tt
zombie_is r (inr (inr (inr (inr (inr (inr (inr (inr n)))))))) = absurd n

-- to see x and to set y swap
saw_set : Swaps cells (SawX false) SetY
saw_set = record { always = λ before after k. turned (record { x = false; y = false }) before after k }
  where
    turned : (s : Cells) (before after : List Access) → AllowedFrom cells s (before ++ SawX false ∷ SetY ∷ after) → AllowedFrom cells s (before ++ SetY ∷ SawX false ∷ after)
    turned s [] after k = (tt, (k.0, k.1.1))
    turned s (o ∷ before) after k = (k.0, turned (next s o) before after k.1)

two_pushed : (l m : LocalEntry Access) → l.mark ≡ Pushed → m.mark ≡ Pushed → (e : LocalEntry Access) → (e ≡ l) ⊎ (e ≡ m) ⊎ ⊥ → e.mark ≡ Pushed
two_pushed l m p q e (inl i) = ap (λ (w : LocalEntry Access). w.mark) i ∙ p
two_pushed l m p q e (inr (inl i)) = ap (λ (w : LocalEntry Access). w.mark) i ∙ q
two_pushed l m p q e (inr (inr n)) = absurd n

pushed_or_pulled : (m : Mark) → m ≡ Pushed → m ≡ Pulled → ⊥
pushed_or_pulled m e f = let k : Pushed ≡ Pulled = sym e ∙ f in cc

pushed_or_not : (m : Mark) → m ≡ Pushed → m ≡ Unpushed → ⊥
pushed_or_not m e f = let k : Pushed ≡ Unpushed = sym e ∙ f in cc

zombie_runs : RunsFrom cells (first none) zombie_steps
zombie_runs = (
  (λ i. i, (λ x i. absurd i, refl)),
  (
    (tt, (λ i. i, (([], tt), ((refl, tt), refl)))),
    (
      (
        λ i. elim i [ inl k ↦ differ 0 2 (omega arith) k | inr k ↦ k ],
        (λ x i e. elim i [ inl k ↦ differ 2 0 (omega arith) (ap (λ (w : Tx Access). w.thread) (sym k) ∙ e) | inr k ↦ k ], refl),
      ),
      (
        (tt, (λ i. elim i [ inl k ↦ omega (arith, k) | inr k ↦ k ], (([], tt), ((tt, tt), refl)))),
        (
          (tt, (λ i. elim i [ inl k ↦ omega (arith, k) | inr (inl k) ↦ omega (arith, k) | inr (inr k) ↦ k ], (([], tt), ((tt, (tt, tt)), refl)))),
          (
            (
              tt,
              (
                tt,
                (
                  λ e i. absurd (elim i [
                    | inl k ↦ elim k.1 [ inl d ↦ ids 1 2 (omega arith) (ap (λ (w : LocalEntry Access). w.id) d) | inr n ↦ n ]
                    | inr (inl k) ↦ k.1
                    | inr (inr k) ↦ k
                  ]),
                  (λ u i. absurd i, ((tt, tt), refl)),
                ),
              ),
            ),
            (
              (
                tt,
                (
                  tt,
                  (
                    λ e i m. absurd (elim i [
                      | inl k ↦ pushed_or_not e.mark (ap (λ (w : LocalEntry Access). w.mark) k.0) m
                      | inr (inl k) ↦ k.1
                      | inr (inr k) ↦ k
                    ]),
                    (λ u i f n. absurd (elim i [ inl k ↦ n (ap (λ (w : SharedEntry Access). w.owner) k) | inr k ↦ k ]), ((tt, (tt, tt)), refl)),
                  ),
                ),
              ),
              (
                (tt, (tt, (λ e i o. two_pushed _ _ refl refl e i, (λ e i p. absurd (pushed_or_pulled e.mark (two_pushed _ _ refl refl e i) p), refl)))),
                (
                  (
                    tt,
                    (
                      tt,
                      (
                        λ e i n. elim i [ inl k ↦ ids 0 2 (omega arith) (sym (ap (λ (w : LocalEntry Access). w.id) k) ∙ n) | inr k ↦ k ],
                        ((refl, (tt, tt)), (λ l i o. elim i [ inl k ↦ subst (λ (w : LocalEntry Access). Swaps cells w.op SetY) (sym k) saw_set | inr k ↦ absurd k ], refl)),
                      ),
                    ),
                  ),
                  (
                    (
                      tt,
                      (
                        λ i. elim i [ inl k ↦ omega (arith, k) | inr (inl k) ↦ omega (arith, k) | inr (inr (inl k)) ↦ omega (arith, k) | inr (inr (inr k)) ↦ k ],
                        (([], tt), ((refl, (tt, (refl, tt))), refl)),
                      ),
                    ),
                    ((tt, ((refl, refl), refl)), ((tt, (tt, ((refl, tt), refl))), ((tt, ((refl, refl), refl)), ((tt, (refl, refl)), tt)))),
                  ),
                ),
              ),
            ),
          ),
        ),
      ),
    ),
  ),
)

-- the steps up to what c sees last
abbrev zombie_seen : List (Step Access)
zombie_seen =
    Begin c c None ∷ App c 0 (SawX false)
    ∷ Begin a a None ∷ App a 1 SetX ∷ App a 2 SetY ∷ Push a 1 ∷ Push a 2 ∷ Cmt a
    ∷ Pull c 2 ∷ App c 3 (SawY true) ∷ []

zombie_sees : (n : ℕ) → Sees cells none zombie_seen c n → ⊥
zombie_sees zero k = clash (sym k.1.0)
zombie_sees (suc zero) k = clash k.1.1.0
zombie_sees (suc (suc n)) k = clash k.1.1.0

-- An accepted run of style `optimistic` may have a zombie.
pub optimistic_law : OptimisticLaw
optimistic_law = record {
  style = zombie_is;
  accepted = zombie_runs;
  aborted = refl;
  uncommitted = λ i. elim i [ inl k ↦ differ 2 0 (omega arith) k | inr k ↦ k ];
  not_opaque = λ o.
      let s = o zombie_seen c (Unapp c 3 ∷ Unpull c 2 ∷ Unapp c 0 ∷ Quit c ∷ [], refl) (_, inl refl, refl) (λ e. cc) in
      zombie_sees s.n s.sees;
}

-- two prefixes of the run with the old snapshot
abbrev both_begun : List (Step Access)
both_begun = Begin c c None ∷ Begin a a None ∷ []

abbrev a_done : List (Step Access)
a_done = Begin c c None ∷ Begin a a None ∷ App a 0 SetX ∷ Push a 0 ∷ Cmt a ∷ []

old_runs : RunsFrom cells (first none) old
old_runs = (
  (λ i. i, (λ x i. absurd i, refl)),
  (
    (
      λ i. elim i [ inl k ↦ differ 0 2 (omega arith) k | inr k ↦ k ],
      (λ x i e. elim i [ inl k ↦ differ 2 0 (omega arith) (ap (λ (w : Tx Access). w.thread) (sym k) ∙ e) | inr k ↦ k ], refl),
    ),
    (
      (tt, (λ i. i, (([], tt), ((tt, tt), refl)))),
      (
        (tt, (tt, (λ e i. absurd (elim i [ inl k ↦ k.1 | inr k ↦ k ]), (λ u i. absurd i, ((tt, tt), refl))))),
        (
          (tt, (tt, (λ e i o. pushed _ refl e i, (λ e i p. absurd (not_pulled _ refl e i p), refl)))),
          (
            (tt, (λ i. elim i [ inl k ↦ omega (arith, k) | inr k ↦ k ], (([], tt), ((refl, tt), refl)))),
            tt,
          ),
        ),
      ),
    ),
  ),
)

-- its two APP steps
abbrev IsOne : List (Step Access) → Name → ℕ → Access → Type 0
IsOne past t id op =
    ((past ≡ both_begun) × (t ≡ a) × (id ≡ 0) × (op ≡ SetX))
    ⊎ ((past ≡ a_done) × (t ≡ c) × (id ≡ 1) × (op ≡ SawX false))

old_apps : (past rest : List (Step Access)) (t : Name) (id : ℕ) (op : Access) → old ≡ past ++ App t id op ∷ rest → IsOne past t id op
old_apps [] rest t id op e = absurd (cc)
old_apps (s ∷ []) rest t id op e = absurd (cc)
old_apps (s ∷ u ∷ []) rest t id op e = inl (cc, cc, cc, cc)
old_apps (s ∷ u ∷ v ∷ []) rest t id op e = absurd (cc)
old_apps (s ∷ u ∷ v ∷ w ∷ []) rest t id op e = absurd (cc)
old_apps (s ∷ u ∷ v ∷ w ∷ x ∷ []) rest t id op e = inr (cc, cc, cc, cc)
old_apps (s ∷ u ∷ v ∷ w ∷ x ∷ y ∷ past) rest t id op e = absurd (let n : [] ≡ past ++ App t id op ∷ rest = cc in not_empty past rest (App t id op) n)

no_pulls : Reorders cells [] []
no_pulls = record { distinct_x = λ p q i. absurd i; distinct_y = λ p q i. absurd i; into = λ p i. i; back = λ p i. i; turned = λ p q i. absurd i }

a_began : Began a both_begun (both_begun ++ App a 0 SetX ∷ [])
a_began = began_kept a both_begun both_begun (App a 0 SetX) (began_new a both_begun (Begin a a None, refl, refl, refl)) (no_start a both_begun (App a 0 SetX) (λ z. z))

-- steps of a and of c, in which c starts nothing more
c_began : Began c (Begin c c None ∷ []) (a_done ++ App c 1 (SawX false) ∷ [])
c_began =
    let p0 : List (Step Access) = Begin c c None ∷ [] in
    let p1 : List (Step Access) = p0 ++ Begin a a None ∷ [] in
    let p2 : List (Step Access) = p1 ++ App a 0 SetX ∷ [] in
    let p3 : List (Step Access) = p2 ++ Push a 0 ∷ [] in
    let b0 = began_new c p0 (Begin c c None, refl, refl, refl) in
    let b1 = began_kept c p0 p0 (Begin a a None) b0 (no_start c p0 (Begin a a None) (λ z. differ 0 2 (omega arith) z)) in
    let b2 = began_kept c p0 p1 (App a 0 SetX) b1 (no_start c p1 (App a 0 SetX) (λ z. z)) in
    let b3 = began_kept c p0 p2 (Push a 0) b2 (no_start c p2 (Push a 0) (λ z. z)) in
    let b4 = began_kept c p0 p3 (Cmt a) b3 (no_start c p3 (Cmt a) (λ z. z)) in
    began_kept c p0 a_done (App c 1 (SawX false)) b4 (no_start c a_done (App c 1 (SawX false)) (λ z. z))

snapshot_a : HasSnapshot cells none (both_begun ++ App a 0 SetX ∷ []) a
snapshot_a = record { x = _; opened = inr (inl refl); name = refl; early = both_begun; began = a_began; n = 0; least = omega arith; most = omega arith; same = no_pulls }

snapshot_c : HasSnapshot cells none (a_done ++ App c 1 (SawX false) ∷ []) c
snapshot_c = record { x = _; opened = inl refl; name = refl; early = Begin c c None ∷ []; began = c_began; n = 0; least = omega arith; most = omega arith; same = no_pulls }

old_snapshots : HasSnapshots cells none old
old_snapshots past t id op b = elim (old_apps past b.0 t id op (b.1 ∙ append_assoc past (App t id op ∷ []) b.0)) [
  | inl r ↦ at past both_begun t a id 0 op SetX r.0 r.1 r.2 r.3 snapshot_a
  | inr r ↦ at past a_done t c id 1 op (SawX false) r.0 r.1 r.2 r.3 snapshot_c
]
  where
    at : (past q : List (Step Access)) (t u : Name) (id i : ℕ) (op o : Access) → past ≡ q → t ≡ u → id ≡ i → op ≡ o
        → HasSnapshot cells none (q ++ App u i o ∷ []) u → HasSnapshot cells none (past ++ App t id op ∷ []) t
    at past q t u id i op o e f g k s =
        subst (λ (w : List (Step Access)). HasSnapshot cells none (w ++ App t id op ∷ []) t) (sym e)
        (subst (λ (w : Name). HasSnapshot cells none (q ++ App w id op ∷ []) w) (sym f)
        (subst (λ (w : ℕ). HasSnapshot cells none (q ++ App u w op ∷ []) u) (sym g)
        (subst (λ (w : Access). HasSnapshot cells none (q ++ App u i w ∷ []) u) (sym k) s)))

old_sees : (n : ℕ) → Sees cells none old c n → n ≡ 0
old_sees zero k = refl
old_sees (suc zero) k = clash k.1.0
old_sees (suc (suc n)) k = clash k.1.0

-- A run may be opaque though a transaction sees an old snapshot.
pub old_law : OldLaw
old_law = record { accepted = old_runs; snapshots = old_snapshots; sees = old_sees }
