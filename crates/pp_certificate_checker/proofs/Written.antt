-- Proof machinery: a certificate that is written by a route is accepted.
use Rattle.std.proofs.Common.{◌≡◌, ◌+◌, ◌<◌, ◌≤◌, ℕ, suc, Bool, MatchBool, IsTrue, List, [], ◌∷◌}
use Rattle.std.proofs.Common.{◌++◌, map, length, take, Ok, Err, refl, sym, ap, subst, ◌∙◌, arith}
use Rattle.std.proofs.Common.{inl, inr, append_assoc, append-nil}
use Rattle.std.proofs.lemmas.List.{map-append, length-append, take_at}
use Rattle.pp_model.specs.Lists.{In, Each, joined}
use Rattle.pp_model.specs.Object.{Item, ops}
use Rattle.pp_model.specs.Config.{Config, SharedEntry, shared_ops, shared_item, uncommitted}
use Rattle.pp_model.specs.Sound.{Sound, serial_items}
use Rattle.pp_kind.specs.Object.{Object, IsLawful, IsAllowed, AllowedFrom, Swaps, rules_of}
use Rattle.pp_kind.specs.Object.{state_from, state_after}
use Rattle.pp_certificate_exchanges.specs.Exchanges.{Permutes, inverted, route, EachExchange, exchanged}
use Rattle.pp_certificate_exchanges.specs.Exchanges.{after_exchanges}
use Rattle.pp_certificate_exchanges.specs.Laws.{log_of, target_of}
use Rattle.pp_certificate_exchanges.proofs.Routes.{route_ends, route_each, length_route}
use Rattle.pp_certificate_exchanges.proofs.Draws.{after_join}
use Rattle.pp_certificate_exchanges.proofs.Targets.{targets, log_fits}
use Rattle.pp_certificate_checker.specs.Certificates.{Line, Entry, Exchanges, Serial, Stage, Fresh}
use Rattle.pp_certificate_checker.specs.Certificates.{Entered, Exchanged, Ended, Step, Reader, NotCertificate}
use Rattle.pp_certificate_checker.specs.Certificates.{IsEntered, AreExchanged, AreExchangesTaken, IsEnded}
use Rattle.pp_certificate_checker.specs.Certificates.{IsSerialTaken, IsTaken, Verdict, Holds, shown, IsRead}
use Rattle.pp_certificate_checker.specs.Laws.{rows, certificate_of, Spells, IsGoing, shown_of}
use Rattle.pp_certificate_checker.proofs.Rows.{rows_joined, rows_fit, Fits, each_joined, positions_within}
use Rattle.pp_certificate_checker.proofs.Rows.{length-after, each_front}

module _ {Shape State Op Undo : Type 0} (o : Object Shape State Op Undo) where
  state_push : (s : State) (l : List Op) (a : Op)
      → state_from o s (l ++ a ∷ []) ≡ o.next (state_from o s l) a
  state_push s [] a = refl
  state_push s (b ∷ l) a = state_push (o.next s b) l a

  state_more : (shape : Shape) (l : List (Item Op)) (p : Item Op)
      → state_after o shape (ops (l ++ p ∷ [])) ≡ o.next (state_after o shape (ops l)) p.op
  state_more shape l p =
      ap (λ (w : List Op). state_after o shape w) (map-append (λ (w : Item Op). w.op) l (p ∷ []))
      ∙ state_push (o.start shape) (ops l) p.op

  abbrev Turns : Item Op → Item Op → Type 0
  Turns a b = Swaps o a.op b.op

  -- so many exchanges led to this list
  abbrev at : Shape → List (Item Op) → ℕ → Step Shape Op
  at shape l n = Ok (Exchanged shape l n)

  exchanges_taken : (shape : Shape) (is : List ℕ) (l : List (Item Op)) (count : ℕ)
      → EachExchange Turns l is
      → AreExchanged o shape l count is (at shape (after_exchanges l is) (count + length is))
  exchanges_taken shape [] l count h = ap (λ n. at shape l n) (omega arith)
  exchanges_taken shape (i ∷ is) l count h =
      let k : suc count + length is ≡ count + suc (length is) = omega arith in
      let more = exchanges_taken shape is (exchanged l i) (suc count) h.1 in
      inl (
        h.0,
        subst (λ n. AreExchanged o shape (exchanged l i) (suc count) is
            (at shape (after_exchanges (exchanged l i) is) n)) k more,
      )

  -- so many entries, so many exchanges, and this list with the state after it are shown
  abbrev showing : Shape → ℕ → ℕ → List (Item Op) → Verdict Shape State Op
  showing shape long X list = Holds (record {
    shape = shape;
    operations = long;
    swaps = X;
    serial = list;
    state = state_after o shape (ops list);
  })

  -- The stage has this list, after so many exchanges.
  record Behind (shape : Shape) (s : Stage Shape Op) (l : List (Item Op)) (count : ℕ) : Type 0 where
    pub going : IsGoing shape s
    pub exchanges : (is : List ℕ) (r : Step Shape Op) → AreExchanged o shape l count is r
        → AreExchangesTaken o s is r
    pub serial : (n : ℕ) (r : Step Shape Op) → IsEnded o shape l count n r → IsSerialTaken o s n r

  behind_entries : (shape : Shape) (l : List (Item Op)) → Behind shape (Entered shape l) l 0
  behind_entries shape l =
      record { going = refl; exchanges = λ is r h. h; serial = λ n r h. h }

  behind_exchanges : (shape : Shape) (l : List (Item Op)) (count : ℕ)
      → Behind shape (Exchanged shape l count) l count
  behind_exchanges shape l count =
      record { going = refl; exchanges = λ is r h. h; serial = λ n r h. h }

  module _ {L : Type 0} (shape : Shape) (plain : Item Op → Bool) (read : Reader L Shape Op)
      (write : Line Shape Op → L) (spells : Spells o shape plain read write) where
    entries_read : (rest l : List (Item Op)) (n : ℕ) (more : List L) (v : Verdict Shape State Op)
        → AllowedFrom o (state_after o shape (ops l)) (ops rest)
        → ((p : Item Op) → In p rest → IsTrue (o.fits shape p.op))
        → Each (λ p. IsTrue (plain p)) rest
        → ((m : ℕ) → IsRead o read m (Entered shape (l ++ rest)) more v)
        → IsRead o read n (Entered shape l) (map (λ p. write (Entry p)) rest ++ more) v
    entries_read [] l n more v h f g k =
        subst (λ (w : List (Item Op)). IsRead o read n (Entered shape w) more v) (append-nil l)
        (k n)
    entries_read (p ∷ rest) l n more v h f g k =
        let s : Stage Shape Op = Entered shape l in
        let next : List (Item Op) = l ++ p ∷ [] in
        let t : Step Shape Op = Ok (Entered shape next) in
        let fits : IsTrue (o.fits shape p.op) = f p (inl refl) in
        let here : IsTaken o s (Entry p) t =
        subst (λ (b : Bool). MatchBool b (IsEntered o shape l p t) (t ≡ Err NotCertificate))
        (sym fits) (inl (h.0.1, refl)) in
        let rest_allowed : AllowedFrom o (state_after o shape (ops next)) (ops rest) =
        subst (λ (w : State). AllowedFrom o w (ops rest)) (sym (state_more shape l p)) h.1 in
        let on : (m : ℕ) → IsRead o read m (Entered shape (next ++ rest)) more v =
        λ m. subst (λ (w : List (Item Op)). IsRead o read m (Entered shape w) more v)
        (sym (append_assoc l (p ∷ []) rest)) (k m) in
        inr (
          Entered shape next,
          subst (λ (w : Line Shape Op). IsTaken o s w t) (sym (spells.entry l p fits g.0)) here,
          entries_read rest next (suc n) more v rest_allowed (λ q i. f q (inr i)) g.1 on,
        )

    rows_read : (cut : List (List ℕ)) (s : Stage Shape Op) (l : List (Item Op)) (count n : ℕ)
        (more : List L) (v : Verdict Shape State Op) → Behind shape s l count → Each Fits cut
        → Each (λ (row : List ℕ). Each (λ i. i ≤ 999_999_999) row) cut
        → EachExchange Turns l (joined cut)
        → ((d : Stage Shape Op) (m : ℕ)
        → Behind shape d (after_exchanges l (joined cut)) (count + length (joined cut))
        → IsRead o read m d more v)
        → IsRead o read n s (map (λ row. write (Exchanges row)) cut ++ more) v
    rows_read [] s l count n more v b f g h k =
        k s n (subst (λ c. Behind shape s l c) (omega arith) b)
    rows_read (row ∷ cut) s l count n more v b f g h k =
        let e = each_front Turns l row (joined cut) h in
        let next : List (Item Op) = after_exchanges l row in
        let sum : ℕ = count + length row in
        let t : Step Shape Op = at shape next sum in
        let all : sum + length (joined cut) ≡ count + length (row ++ joined cut) =
        omega (arith, length-append row (joined cut)) in
        let here : IsTaken o s (Exchanges row) t =
        b.exchanges row t (exchanges_taken shape row l count e.0) in
        let on : (d : Stage Shape Op) (m : ℕ)
        → Behind shape d (after_exchanges next (joined cut)) (sum + length (joined cut))
        → IsRead o read m d more v =
        λ d m c. k d m (subst (λ (w : List (Item Op)). Behind shape d w
        (count + length (row ++ joined cut))) (sym (after_join l row (joined cut)))
        (subst (λ j. Behind shape d (after_exchanges next (joined cut)) j) all c)) in
        inr (
          Exchanged shape next sum,
          subst (λ (w : Line Shape Op). IsTaken o s w t)
              (sym (spells.exchanges s row b.going f.0.0 f.0.1 g.0)) here,
          rows_read cut (Exchanged shape next sum) next sum (suc n) more v
              (behind_exchanges shape next sum) f.1 g.1 e.1 on,
        )

    serial_read : (d : Stage Shape Op) (l : List (Item Op)) (count n m : ℕ)
        → Behind shape d l count → n ≤ length l → n ≤ 999_999_999 → (v : Verdict Shape State Op)
        → v ≡ Holds (shown o shape l count n) → IsRead o read m d (write (Serial n) ∷ []) v
    serial_read d l count n m b h k v e =
        let t : Step Shape Op = Ok (Ended shape l count n) in
        inr (
          Ended shape l count n,
          subst (λ (w : Line Shape Op). IsTaken o d w t) (sym (spells.serial d n b.going k))
              (b.serial n t (inl (h, refl))),
          e,
        )

    -- The certificate of a sound configuration is accepted, and shows its serial run.
    pub written : IsLawful o → (c : Config Op) → Sound (rules_of o shape) c
        → length (log_of c) < 1_000_000 → Each (λ p. IsTrue (plain p)) (log_of c)
        → IsRead o read 1 Fresh (certificate_of write shape c) (Holds (shown_of o shape c))
    written laws c sound few each =
        let G : List (Item Op) = log_of c in
        let S : List (Item Op) = serial_items c.done in
        let T : List (Item Op) = target_of c in
        let open' : List (Item Op) = map shared_item (uncommitted c.shared) in
        let is : List ℕ = route G T in
        let cut : List (List ℕ) = rows is in
        let n : ℕ = length S in
        let X : ℕ = inverted G T in
        let more : List L = write (Serial n) ∷ [] in
        let v : Verdict Shape State Op = Holds (shown_of o shape c) in
        let permutes : Permutes G T = (targets o laws).permutes shape c sound in
        let turns : EachExchange Turns G is =
        route_each G T permutes Turns (λ p q i. (targets o laws).swaps shape c sound p q i) in
        let joins : joined cut ≡ is = rows_joined is 1000 [] in
        let last : List (Item Op) = after_exchanges G (joined cut) in
        let ends : last ≡ T =
        ap (λ (w : List ℕ). after_exchanges G w) joins ∙ route_ends G T permutes in
        let number : 0 + length (joined cut) ≡ X =
        ap (λ (w : List ℕ). 0 + length w) joins ∙ omega (arith, length_route G T permutes) in
        let long : length last ≡ length G = length-after G (joined cut) in
        let whole : length T ≡ n + length open' = length-append S open' in
        let same : length last ≡ length T = ap (λ (w : List (Item Op)). length w) ends in
        let front : take n last ≡ S =
        ap (λ (w : List (Item Op)). take n w) ends ∙ take_at S open' n refl in
        let shows : v ≡ Holds (shown o shape last (0 + length (joined cut)) n) =
        sym (holds last (0 + length (joined cut)) (take n last) (length G) X S long number front) in
        let end : (d : Stage Shape Op) (m : ℕ) → Behind shape d last (0 + length (joined cut))
        → IsRead o read m d more v =
        λ d m b. serial_read d last (0 + length (joined cut)) n m b (omega (arith, same, whole))
        (omega (arith, same, whole, long, few)) v shows in
        let middle : (m : ℕ) → IsRead o read m (Entered shape G)
        (map (λ row. write (Exchanges row)) cut ++ more) v =
        λ m. rows_read cut (Entered shape G) G 0 m more v (behind_entries shape G)
        (rows_fit is 1000 [] refl (inr refl))
        (each_joined (λ i. i ≤ 999_999_999) cut
        (subst (λ (w : List ℕ). Each (λ i. i ≤ 999_999_999) w)
        (sym joins) (positions_within Turns G is few turns)))
        (subst (λ (w : List ℕ). EachExchange Turns G w) (sym joins) turns) end in
        inr (
          Entered shape [],
          subst (λ (w : Line Shape Op). IsTaken o Fresh w (Ok (Entered shape []))) (sym spells.head)
              refl,
          entries_read G [] 2 (map (λ row. write (Exchanges row)) cut ++ more) v allowed
              (λ p i. log_fits o laws shape c sound p i) each middle,
        )
      where
        ops_of : (g : List (SharedEntry Op)) → ops (map shared_item g) ≡ shared_ops g
        ops_of [] = refl
        ops_of (e ∷ g) = ap (λ (w : List Op). e.op ∷ w) (ops_of g)

        allowed : IsAllowed o shape (ops (log_of c))
        allowed =
            subst (λ (w : List Op). IsAllowed o shape w) (sym (ops_of c.shared))
            sound.shared_allowed

        -- The verdict, part by part.
        holds : (last : List (Item Op)) (count : ℕ) (list : List (Item Op)) (long X : ℕ)
            (S : List (Item Op)) → length last ≡ long → count ≡ X → list ≡ S
            → showing shape (length last) count list ≡ showing shape long X S
        holds last count list long X S e f g =
            ap (λ (w : List (Item Op)). showing shape (length last) count w) g
            ∙ ap (λ m. showing shape m count S) e ∙ ap (λ m. showing shape long m S) f
