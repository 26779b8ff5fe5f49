-- A quantifier has at most one copy of its body for each of its tuples, and one more, and each is of the body.
use Rattle.std.proofs.Common.{◌≡◌, ◌≢◌, ◌⊎◌, inl, inr, ℕ, suc, ◌≤◌, Bool, true, false, cond, nat_eq, List, [], ◌∷◌, ◌++◌, length, reverse, Some, refl, sym, ◌∙◌, ap, subst, arith}
use Rattle.std.specs.List.{AllPairs, Contains, slice_get}
use Rattle.std.proofs.lemmas.Bool.{eqb-true}
use Rattle.std.proofs.lemmas.List.{length-append}
use Rattle.std.proofs.lemmas.List.Elements.{Contains-append_cases}
use Rattle.hk_term.specs.Shape.{AllFitIn}
use Rattle.hk_term.specs.declared.bounds.Bound.{Bound}
use Rattle.hk_term.specs.declared.node.Node.{Node}
use Rattle.hk_term.specs.declared.node.Node.TheVariants.{Choose, ForAll}
use Rattle.hk_copy.specs.Stands.{Stands}
use Rattle.hk_copy.specs.Copies.{Copies}
use Rattle.hk_copy.specs.Cost.{tuples, cost}
use Rattle.hk_copy.proofs.CostLaws.{copies-cost}
use Rattle.hk_inst.specs.declared.instance.Instance.{Instance}
use Rattle.hk_inst.specs.declared.instance.Instance.TheVariants.{Pair, Tuple}
use Rattle.hk_inst.specs.declared.opening.Opening.{Opening}
use Rattle.hk_inst.specs.Inputs.{Table, is_quantifier}
use Rattle.hk_inst.specs.Truths.{IsTuple}
use Rattle.hk_inst.specs.Demanded.{IsOpening}
use Rattle.hk_inst.specs.Questions.{AreDemands}
use Rattle.hk_inst.proofs.Tuples.{clash}
use Rattle.hk_inst.proofs.Members.{contains-cases, contains-head, contains-tail, bound_of, body_of}
use Rattle.hk_inst.specs.Left.{AreOnce}
use Rattle.hk_inst.proofs.Counting.{AreApart, length-le, all_tuples, length-all_tuples, all_tuples-has}
use Rattle.hk_inst.proofs.Expansions.{AreCopies}
use Rattle.hk_inst.proofs.Origination.{copies_opened, copy_added, copies_added, copies_of}
use Rattle.hk_inst.proofs.SameOnes.{once-apart}

-- ---- at the variables with which a quantifier was opened

opened-none : (os : List Opening) (t : ℕ) → ((p : Opening) → Contains os p → p.term ≢ t) → length (copies_opened os t) ≡ 0
opened-none [] t off = refl
opened-none (o ∷ os) t off = by (nat_eq o.term t) refl (opened-none os t (λ p c. off p (contains-tail o os p c)))
  where
    by : (b : Bool) → nat_eq o.term t ≡ b → length (copies_opened os t) ≡ 0 → length (cond (nat_eq o.term t) (o.copy ∷ copies_opened os t) (copies_opened os t)) ≡ 0
    by true e none = absurd (off o (contains-head o os) (eqb-true o.term t e))
    by false e none = ap (λ b. length (cond b (o.copy ∷ copies_opened os t) (copies_opened os t))) e ∙ none

opened-few : (os : List Opening) (t : ℕ) → AllPairs (λ o p. o.term ≢ p.term) os → length (copies_opened os t) ≤ 1
opened-few [] t once = omega arith
opened-few (o ∷ os) t once = by (nat_eq o.term t) refl (opened-few os t (λ i j d a b. once (suc i) (suc j) d (omega (arith, a)) (omega (arith, b))))
  where
    later : (p : Opening) → Contains os p → o.term ≢ p.term
    later p (k, l, e) = subst (λ x. o.term ≢ x.term) e (once 0 (suc k) p (omega arith) (omega (arith, l)))

    by : (b : Bool) → nat_eq o.term t ≡ b → length (copies_opened os t) ≤ 1 → length (cond (nat_eq o.term t) (o.copy ∷ copies_opened os t) (copies_opened os t)) ≤ 1
    by true e few =
        let none = opened-none os t (λ p c same. later p c (eqb-true o.term t e ∙ sym same)) in
        omega (arith, ap (λ b. length (cond b (o.copy ∷ copies_opened os t) (copies_opened os t))) e, none)
    by false e few = omega (arith, ap (λ b. length (cond b (o.copy ∷ copies_opened os t) (copies_opened os t))) e, few)

opened-from : (os : List Opening) (t b : ℕ) → Contains (copies_opened os t) b → (o : Opening) × (Contains os o) × (o.term ≡ t) × (o.copy ≡ b)
opened-from [] t b (k, l, e) = absurd (omega (arith, l))
opened-from (o ∷ os) t b c = by (nat_eq o.term t) refl (opened-from os t b)
  where
    wanted : Type 0
    wanted = (p : Opening) × (Contains (o ∷ os) p) × (p.term ≡ t) × (p.copy ≡ b)

    later : (p : Opening) × (Contains os p) × (p.term ≡ t) × (p.copy ≡ b) → (p : Opening) × (Contains (o ∷ os) p) × (p.term ≡ t) × (p.copy ≡ b)
    later (p, d, e, f) = (p, contains-tail o os p d, e, f)

    pick : nat_eq o.term t ≡ true → (Contains (copies_opened os t) b → (p : Opening) × (Contains os p) × (p.term ≡ t) × (p.copy ≡ b)) → (o.copy ≡ b) ⊎ (Contains (copies_opened os t) b) → (p : Opening) × (Contains (o ∷ os) p) × (p.term ≡ t) × (p.copy ≡ b)
    pick e go (inl f) = (o, contains-head o os, eqb-true o.term t e, f)
    pick e go (inr d) = later (go d)

    by : (z : Bool) → nat_eq o.term t ≡ z → (Contains (copies_opened os t) b → (p : Opening) × (Contains os p) × (p.term ≡ t) × (p.copy ≡ b)) → (p : Opening) × (Contains (o ∷ os) p) × (p.term ≡ t) × (p.copy ≡ b)
    by true e go = pick e go (contains-cases o.copy (copies_opened os t) b (subst (λ z. Contains (cond z (o.copy ∷ copies_opened os t) (copies_opened os t)) b) e c))
    by false e go = later (go (subst (λ z. Contains (cond z (o.copy ∷ copies_opened os t) (copies_opened os t)) b) e c))

-- ---- at tuples

module _ (nodes : List Node) (table : Table) (t body : ℕ) (bound : List Bound) (at : slice_get nodes t ≡ Some (ForAll bound body)) where
  -- the required term of a pair has no copy
  pair-none : (c a b d : ℕ) (n : Node) → slice_get nodes d ≡ Some (Choose c a b) → slice_get nodes c ≡ Some n → is_quantifier (Some n) ≡ false → copy_added (slice_get nodes d) t ≡ []
  pair-none c a b d n is other off = ap (λ o. copy_added o t) is ∙ by (nat_eq c t) refl
    where
      by : (z : Bool) → nat_eq c t ≡ z → cond (nat_eq c t) (a ∷ []) [] ≡ []
      by true e = clash (sym (ap is_quantifier at) ∙ ap (λ k. is_quantifier (slice_get nodes k)) (sym (eqb-true c t e)) ∙ ap is_quantifier other ∙ off)
      by false e = ap (λ z. cond z (a ∷ []) []) e

  bound-is : (q inner : ℕ) (bs : List Bound) → q ≡ t → slice_get nodes q ≡ Some (ForAll bs inner) → (bs ≡ bound) × (inner ≡ body)
  bound-is q inner bs e is = (ap bound_of (sym is ∙ ap (slice_get nodes) e ∙ at), ap body_of (sym is ∙ ap (slice_get nodes) e ∙ at))

  added-from : (is : List Instance) (ds : List ℕ) → AreDemands nodes table is ds → (b : ℕ) → Contains (copies_added nodes ds t) b → (env : Stands) × (Copies nodes env body b)
  added-from [] [] h b (k, l, e) = absurd (omega (arith, l))
  added-from [] (d ∷ ds) h b c = absurd h
  added-from (i ∷ is) [] h b c = absurd h
  added-from (Pair x y ∷ is) (d ∷ ds) h b c = added-from is ds h.1 b (subst (λ l. Contains (l ++ copies_added nodes ds t) b) (pair-none _ _ _ d _ h.0.1.is h.0.1.places_is refl) c)
  added-from (Tuple k ks ∷ is) (d ∷ ds) h b c = by (Contains-append_cases (copy_added (slice_get nodes d) t) (copies_added nodes ds t) b c) (added-from is ds h.1 b)
    where
      its : (q : ℕ) (x : ℕ) (env : Stands) (inner : ℕ) (bs : List Bound) → slice_get nodes q ≡ Some (ForAll bs inner) → Copies nodes env inner x → (z : Bool) → nat_eq q t ≡ z → Contains (cond z (x ∷ []) []) b → (e : Stands) × (Copies nodes e body b)
      its q x env inner bs is made true e m = one (contains-cases x [] b m)
        where
          one : (x ≡ b) ⊎ (Contains [] b) → (e : Stands) × (Copies nodes e body b)
          one (inl f) = (env, subst (λ (z : ℕ × ℕ). Copies nodes env z.0 z.1) (λ n. ((bound-is q inner bs (eqb-true q t e) is).1 n, f n)) made)
          one (inr (j, l, g)) = absurd (omega (arith, l))
      its q x env inner bs is made false e (j, l, g) = absurd (omega (arith, l))

      by : (Contains (copy_added (slice_get nodes d) t) b) ⊎ (Contains (copies_added nodes ds t) b) → (Contains (copies_added nodes ds t) b → (e : Stands) × (Copies nodes e body b)) → (e : Stands) × (Copies nodes e body b)
      by (inl m) go = its h.0.0.term h.0.1 _ h.0.0.body h.0.0.bound h.0.0.is h.0.2 (nat_eq h.0.0.term t) refl (subst (λ o. Contains (copy_added o t) b) h.0.3.is m)
      by (inr m) go = go m

  -- the tuples of the copies
  record Taken (is : List Instance) (ds : List ℕ) : Type 0 where
    taken_ : List (List ℕ)
    many : length taken_ ≡ length (copies_added nodes ds t)
    are : (ks : List ℕ) → Contains taken_ ks → (IsTuple bound ks) × (k : ℕ) × (slice_get table.quantifiers k ≡ Some t) × (Contains is (Tuple k ks))
    apart : AreApart taken_

  module _ (unique : (k j : ℕ) → slice_get table.quantifiers k ≡ Some t → slice_get table.quantifiers j ≡ Some t → k ≡ j) where
    taken : (is : List Instance) (ds : List ℕ) → AreDemands nodes table is ds → AreOnce is → Taken is ds
    taken [] [] h once = record { taken_ = []; many = refl; are = λ ks c. absurd (omega (arith, c.1)); apart = tt }
    taken [] (d ∷ ds) h once = absurd h
    taken (i ∷ is) [] h once = absurd h
    taken (Pair x y ∷ is) (d ∷ ds) h once =
        let r = taken is ds h.1 once.1 in
        record {
          taken_ = r.taken_;
          many = r.many ∙ ap (λ l. length (l ++ copies_added nodes ds t)) (sym (pair-none _ _ _ d _ h.0.1.is h.0.1.places_is refl));
          are = λ ks c. let a = r.are ks c in (a.0, a.1, a.2, contains-tail (Pair x y) is (Tuple a.1 ks) a.3);
          apart = r.apart;
        }
    taken (Tuple k ks ∷ is) (d ∷ ds) h once = by (nat_eq h.0.0.term t) refl (taken is ds h.1 once.1)
      where
        copies : copy_added (slice_get nodes d) t ≡ cond (nat_eq h.0.0.term t) (h.0.1 ∷ []) []
        copies = ap (λ o. copy_added o t) h.0.3.is

        more : (r : Taken is ds) (js : List ℕ) → Contains r.taken_ js → (IsTuple bound js) × (j : ℕ) × (slice_get table.quantifiers j ≡ Some t) × (Contains (Tuple k ks ∷ is) (Tuple j js))
        more r js c = let a = r.are js c in (a.0, a.1, a.2, contains-tail (Tuple k ks) is (Tuple a.1 js) a.3)

        by : (z : Bool) → nat_eq h.0.0.term t ≡ z → Taken is ds → Taken (Tuple k ks ∷ is) (d ∷ ds)
        by false e r = record {
          taken_ = r.taken_;
          many = r.many ∙ ap (λ l. length (l ++ copies_added nodes ds t)) (sym (copies ∙ ap (λ z. cond z (h.0.1 ∷ []) []) e));
          are = more r;
          apart = r.apart;
        }
        by true e r = record {
          taken_ = ks ∷ r.taken_;
          many = ap suc r.many ∙ ap (λ l. length (l ++ copies_added nodes ds t)) (sym (copies ∙ ap (λ z. cond z (h.0.1 ∷ []) []) e));
          are = λ js c. each js (contains-cases ks r.taken_ js c);
          apart = (off, r.apart);
        }
          where
            same : h.0.0.term ≡ t
            same = eqb-true h.0.0.term t e

            numbered : slice_get table.quantifiers k ≡ Some t
            numbered = h.0.0.at ∙ ap Some same

            each : (js : List ℕ) → (ks ≡ js) ⊎ (Contains r.taken_ js) → (IsTuple bound js) × (j : ℕ) × (slice_get table.quantifiers j ≡ Some t) × (Contains (Tuple k ks ∷ is) (Tuple j js))
            each js (inl f) =
                (subst (IsTuple bound) f (subst (λ bs. IsTuple bs ks) (bound-is h.0.0.term h.0.0.body h.0.0.bound same h.0.0.is).0 h.0.0.fits), k, numbered, subst (λ x. Contains (Tuple k ks ∷ is) (Tuple k x)) f (contains-head (Tuple k ks) is))
            each js (inr c) = more r js c

            off : (js : List ℕ) → Contains r.taken_ js → ks ≡ js → ⊥
            off js c f =
                let a = r.are js c in
                (once-apart (Tuple k ks ∷ is) once).0 (Tuple a.1 js) a.3 (λ n. Tuple (unique k a.1 numbered a.2 n) (f n))

    added-few : (is : List Instance) (ds : List ℕ) → AreDemands nodes table is ds → AreOnce is → length (copies_added nodes ds t) ≤ tuples bound
    added-few is ds h once =
        let r = taken is ds h once in
        omega (arith, length-le r.taken_ (all_tuples bound) r.apart (λ ks c. all_tuples-has bound ks (r.are ks c).0), length-all_tuples bound, r.many)

-- ---- all of them

module _ (nodes : List Node) (table : Table) (is : List Instance) (ds : List ℕ) (fit : AllFitIn (reverse nodes)) (opening : (o : Opening) → Contains table.openings o → IsOpening nodes o) (once : AllPairs (λ o p. o.term ≢ p.term) table.openings) where
  pub copies-are : AreDemands nodes table is ds → AreOnce is → ((t k j : ℕ) → slice_get table.quantifiers k ≡ Some t → slice_get table.quantifiers j ≡ Some t → k ≡ j) → AreCopies nodes (copies_of nodes table.openings ds)
  copies-are demands apart unique = record {
    few = λ t body bound at. omega (arith, length-append (copies_opened table.openings t) (copies_added nodes ds t), opened-few table.openings t once, added-few nodes table t body bound at (unique t) is ds demands apart);
    cheap = λ t body b bound at c. by t body b bound at (Contains-append_cases (copies_opened table.openings t) (copies_added nodes ds t) b c);
  }
    where
      by : (t body b : ℕ) (bound : List Bound) → slice_get nodes t ≡ Some (ForAll bound body) → (Contains (copies_opened table.openings t) b) ⊎ (Contains (copies_added nodes ds t) b) → cost nodes b ≤ cost nodes body
      by t body b bound at (inl c) =
          let r = opened-from table.openings t b c in
          let its = opening r.0 r.1 in
          let less = copies-cost nodes fit its.copies in
          let same = (bound-is nodes table t body bound at r.0.term its.body its.bound r.2 its.at).1 in
          omega (arith, less, ap (cost nodes) same, ap (cost nodes) r.3)
      by t body b bound at (inr c) = let r = added-from nodes table t body bound at is ds demands b c in copies-cost nodes fit r.1
