-- What the required terms say, where each term's number is what its operation gives on the numbers of its parts.
use Rattle.std.proofs.Common.{◌≡◌, ◌⊎◌, inl, inr, ℕ, ◌%◌, ◌^◌, Bool, true, false, cond, nat_eq, nat_lt, List, ◌∷◌, map, Some, arith, refl, sym, ◌∙◌, ap}
use Rattle.std.specs.Prelude.{slice_get}
use Rattle.std.proofs.lemmas.Bool.{ltb-true, lt-ltb, eqb-true, eq-eqb}
use Rattle.hk_term.specs.Operations.{bit}
use Rattle.hk_term.specs.Shape.{width}
use Rattle.hk_term.specs.Meaning.{Reading}
use Rattle.hk_term.specs.declared.bounds.Bound.{Bound}
use Rattle.hk_term.specs.declared.node.Node.{Node}
use Rattle.hk_term.specs.declared.node.Node.TheVariants.{Var}
use Rattle.hk_copy.specs.declared.stand.Stand.{Stand}
use Rattle.hk_copy.specs.Stands.{stand_value}
use Rattle.hk_blast.specs.Blasted.{IsPart, HasValue}
use Rattle.hk_inst.specs.Truths.{IsTuple}
use Rattle.hk_inst.specs.Demanded.{IsAgreement, IsImplication, IsRefutation, IsChoice}
use Rattle.hk_inst.specs.Demanded.IsRefutation.{ended, ranged}

pub bit-one : (b : Bool) → nat_eq (bit b) 1 ≡ b
bit-one true = refl
bit-one false = refl

pub bit-true : (b : Bool) → bit b ≡ 1 → b ≡ true
bit-true true e = refl
bit-true false e = absurd (omega arith)

pub record Local (nodes : List Node) (IsKnown : ℕ → Type 0) (f : ℕ → ℕ) : Type 0 where
  pub parts : (t k : ℕ) (n : Node) → slice_get nodes t ≡ Some n → IsKnown t → IsPart n k → IsKnown k
  pub value_is : (t : ℕ) (n : Node) → slice_get nodes t ≡ Some n → IsKnown t → HasValue (width nodes) f n (f t)

module _ (nodes : List Node) (IsKnown : ℕ → Type 0) (f : ℕ → ℕ) (l : Local nodes IsKnown f) where
  pub agreement-is : (r s i j d : ℕ) → IsAgreement nodes r s i j d → IsKnown d → f d ≡ cond (nat_eq (f i) (f j)) (bit (nat_eq (f r) (f s))) 1
  agreement-is r s i j d h k =
      let kp : IsKnown h.places = l.parts d h.places _ h.is k (inl refl) in
      let kv : IsKnown h.values = l.parts d h.values _ h.is k (inr (inl refl)) in
      let ko : IsKnown h.one = l.parts d h.one _ h.is k (inr (inr refl)) in
      let kw : IsKnown h.wide = l.parts h.places h.wide _ h.places_is kp (inl refl) in
      let kx : IsKnown h.other_wide = l.parts h.places h.other_wide _ h.places_is kp (inr refl) in
      let w : f h.wide ≡ f i = l.value_is h.wide _ h.wide_is kw in
      let x : f h.other_wide ≡ f j = l.value_is h.other_wide _ h.other_is kx in
      let p : f h.places ≡ bit (nat_eq (f i) (f j)) = l.value_is h.places _ h.places_is kp ∙ (λ t. bit (nat_eq (w t) (x t))) in
      let v : f h.values ≡ bit (nat_eq (f r) (f s)) = l.value_is h.values _ h.values_is kv in
      let o : f h.one ≡ 1 = l.value_is h.one _ h.one_is ko in
      let test : nat_eq (f h.places) 1 ≡ nat_eq (f i) (f j) = ap (λ n. nat_eq n 1) p ∙ bit-one (nat_eq (f i) (f j)) in
      l.value_is d _ h.is k ∙ (λ t. cond (test t) (v t) (o t))

  pub agreement-says : (r s i j d : ℕ) → IsAgreement nodes r s i j d → IsKnown d → f d ≡ 1 → f i ≡ f j → f r ≡ f s
  agreement-says r s i j d h k one e =
      let told : cond (nat_eq (f i) (f j)) (bit (nat_eq (f r) (f s))) 1 ≡ 1 = sym (agreement-is r s i j d h k) ∙ one in
      let same : bit (nat_eq (f r) (f s)) ≡ 1 = sym (ap (λ b. cond b (bit (nat_eq (f r) (f s))) 1) (eq-eqb (f i) (f j) e)) ∙ told in
      eqb-true (f r) (f s) (bit-true (nat_eq (f r) (f s)) same)

  pub agreement-holds : (r s i j d : ℕ) → IsAgreement nodes r s i j d → IsKnown d → (f i ≡ f j → f r ≡ f s) → f d ≡ 1
  agreement-holds r s i j d h k e = agreement-is r s i j d h k ∙ by (nat_eq (f i) (f j)) refl
    where
      by : (b : Bool) → nat_eq (f i) (f j) ≡ b → cond (nat_eq (f i) (f j)) (bit (nat_eq (f r) (f s))) 1 ≡ 1
      by true c = ap (λ b. cond b (bit (nat_eq (f r) (f s))) 1) c ∙ ap bit (eq-eqb (f r) (f s) (e (eqb-true (f i) (f j) c)))
      by false c = ap (λ b. cond b (bit (nat_eq (f r) (f s))) 1) c

  pub implication-is : (q b d : ℕ) → IsImplication nodes q b d → IsKnown d → f d ≡ cond (nat_eq (f q) 1) (f b) 1
  implication-is q b d h k =
      let o : f h.one ≡ 1 = l.value_is h.one _ h.one_is (l.parts d h.one _ h.is k (inr (inr refl))) in
      l.value_is d _ h.is k ∙ ap (λ n. cond (nat_eq (f q) 1) (f b) n) o

  pub implication-says : (q b d : ℕ) → IsImplication nodes q b d → IsKnown d → f d ≡ 1 → f q ≡ 1 → f b ≡ 1
  implication-says q b d h k one e = sym (ap (λ n. cond (nat_eq n 1) (f b) 1) e) ∙ sym (implication-is q b d h k) ∙ one

  pub implication-holds : (q b d : ℕ) → IsImplication nodes q b d → IsKnown d → (f q ≡ 1 → f b ≡ 1) → f d ≡ 1
  implication-holds q b d h k e = implication-is q b d h k ∙ by (nat_eq (f q) 1) refl
    where
      by : (c : Bool) → nat_eq (f q) 1 ≡ c → cond (nat_eq (f q) 1) (f b) 1 ≡ 1
      by true c = ap (λ x. cond x (f b) 1) c ∙ e (eqb-true (f q) 1 c)
      by false c = ap (λ x. cond x (f b) 1) c

  -- variables have the numbers of a reading
  abbrev pub Numbered : Reading → Type 0
  Numbered u = (t size id : ℕ) → slice_get nodes t ≡ Some (Var size id) → IsKnown t → f t ≡ u.var id % 2 ^ size

  test-is : (bound : Bound) (w id z size test : ℕ) → (u : Reading) → f z ≡ u.var id % 2 ^ w → f size ≡ bound.size → f test ≡ bit (nat_lt (f z) (f size)) → nat_eq (f test) 1 ≡ nat_lt (u.var id % 2 ^ w) bound.size
  test-is bound w id z size test u a b c = ap (λ n. nat_eq n 1) (c ∙ (λ i. bit (nat_lt (a i) (b i)))) ∙ bit-one (nat_lt (u.var id % 2 ^ w) bound.size)

  pub refutation-says : (u : Reading) → Numbered u → (b : ℕ) {bs : List Bound} {ss : List Stand} {d : ℕ} → IsRefutation nodes b bs ss d → IsKnown d → f d ≡ 1 → (IsTuple bs (map (stand_value u) ss)) × (nat_eq (f b) 1 ≡ false)
  refutation-says u numbered b {d = d} (ended no_ yes_ no_is yes_is is) k one = (tt, by (nat_eq (f b) 1) refl)
    where
      told : cond (nat_eq (f b) 1) (f no_) (f yes_) ≡ 1
      told = sym (l.value_is d _ is k) ∙ one

      none : f no_ ≡ 0
      none = l.value_is no_ _ no_is (l.parts d no_ _ is k (inr (inl refl)))

      by : (c : Bool) → nat_eq (f b) 1 ≡ c → nat_eq (f b) 1 ≡ false
      by true c = let e : f no_ ≡ 1 = sym (ap (λ x. cond x (f no_) (f yes_)) c) ∙ told in absurd (omega (arith, none, e))
      by false c = c
  refutation-says u numbered b {bs = bound ∷ bs} {ss = s ∷ ss} {d = d} (ranged w id z size test rest no_ fits z_is size_is test_is no_is is more) k one = by (nat_eq (f test) 1) refl (λ e. refutation-says u numbered b more kr e)
    where
      kt : IsKnown test
      kt = l.parts d test _ is k (inl refl)

      kr : IsKnown rest
      kr = l.parts d rest _ is k (inr (inl refl))

      told : cond (nat_eq (f test) 1) (f rest) (f no_) ≡ 1
      told = sym (l.value_is d _ is k) ∙ one

      none : f no_ ≡ 0
      none = l.value_is no_ _ no_is (l.parts d no_ _ is k (inr (inr refl)))

      tests : nat_eq (f test) 1 ≡ nat_lt (u.var id % 2 ^ w) bound.size
      tests = test-is bound w id z size test u (numbered z w id z_is (l.parts test z _ test_is kt (inl refl))) (l.value_is size _ size_is (l.parts test size _ test_is kt (inr refl))) (l.value_is test _ test_is kt)

      by : (c : Bool) → nat_eq (f test) 1 ≡ c → (f rest ≡ 1 → (IsTuple bs (map (stand_value u) ss)) × (nat_eq (f b) 1 ≡ false)) → (IsTuple (bound ∷ bs) (map (stand_value u) (s ∷ ss))) × (nat_eq (f b) 1 ≡ false)
      by true c go =
          let e : f rest ≡ 1 = sym (ap (λ x. cond x (f rest) (f no_)) c) ∙ told in
          let r : (IsTuple bs (map (stand_value u) ss)) × (nat_eq (f b) 1 ≡ false) = go e in
          ((ltb-true (u.var id % 2 ^ w) bound.size (sym tests ∙ c), r.0), r.1)
      by false c go = let e : f no_ ≡ 1 = sym (ap (λ x. cond x (f rest) (f no_)) c) ∙ told in absurd (omega (arith, none, e))

  pub refutation-holds : (u : Reading) → Numbered u → (b : ℕ) {bs : List Bound} {ss : List Stand} {d : ℕ} → IsRefutation nodes b bs ss d → IsKnown d → IsTuple bs (map (stand_value u) ss) → nat_eq (f b) 1 ≡ false → f d ≡ 1
  refutation-holds u numbered b {d = d} (ended no_ yes_ no_is yes_is is) k fits e =
      l.value_is d _ is k ∙ ap (λ x. cond x (f no_) (f yes_)) e ∙ l.value_is yes_ _ yes_is (l.parts d yes_ _ is k (inr (inr refl)))
  refutation-holds u numbered b {bs = bound ∷ bs} {ss = s ∷ ss} {d = d} (ranged w id z size test rest no_ few z_is size_is test_is no_is is more) k fits e =
      let kt : IsKnown test = l.parts d test _ is k (inl refl) in
      let kr : IsKnown rest = l.parts d rest _ is k (inr (inl refl)) in
      let tests : nat_eq (f test) 1 ≡ nat_lt (u.var id % 2 ^ w) bound.size =
      test-is bound w id z size test u (numbered z w id z_is (l.parts test z _ test_is kt (inl refl))) (l.value_is size _ size_is (l.parts test size _ test_is kt (inr refl))) (l.value_is test _ test_is kt) in
      l.value_is d _ is k ∙ ap (λ x. cond x (f rest) (f no_)) (tests ∙ lt-ltb (u.var id % 2 ^ w) bound.size fits.0) ∙ refutation-holds u numbered b more kr fits.1 e

  pub choice-is : (q b : ℕ) (bound : List Bound) (ss : List Stand) (d : ℕ) → (h : IsChoice nodes q b bound ss d) → IsKnown d → f d ≡ cond (nat_eq (f q) 1) 1 (f h.rest)
  choice-is q b bound ss d h k =
      let o : f h.one ≡ 1 = l.value_is h.one _ h.one_is (l.parts d h.one _ h.is k (inr (inl refl))) in
      l.value_is d _ h.is k ∙ ap (λ n. cond (nat_eq (f q) 1) n (f h.rest)) o

  pub choice-says : (u : Reading) → Numbered u → (q b : ℕ) (bound : List Bound) (ss : List Stand) (d : ℕ) → IsChoice nodes q b bound ss d → IsKnown d → f d ≡ 1 → f q ≡ 0 → (IsTuple bound (map (stand_value u) ss)) × (nat_eq (f b) 1 ≡ false)
  choice-says u numbered q b bound ss d h k one e =
      refutation-says u numbered b h.refutation (l.parts d h.rest _ h.is k (inr (inr refl))) (sym (ap (λ n. cond (nat_eq n 1) 1 (f h.rest)) e) ∙ sym (choice-is q b bound ss d h k) ∙ one)

  pub choice-holds : (u : Reading) → Numbered u → (q b : ℕ) (bound : List Bound) (ss : List Stand) (d : ℕ) → IsChoice nodes q b bound ss d → IsKnown d → (f q ≡ 1) ⊎ ((IsTuple bound (map (stand_value u) ss)) × (nat_eq (f b) 1 ≡ false)) → f d ≡ 1
  choice-holds u numbered q b bound ss d h k (inl e) = choice-is q b bound ss d h k ∙ ap (λ n. cond (nat_eq n 1) 1 (f h.rest)) e
  choice-holds u numbered q b bound ss d h k (inr p) =
      let r : f h.rest ≡ 1 = refutation-holds u numbered b h.refutation (l.parts d h.rest _ h.is k (inr (inr refl))) p.0 p.1 in
      choice-is q b bound ss d h k ∙ ap (λ n. cond (nat_eq (f q) 1) 1 n) r ∙ same (nat_eq (f q) 1)
    where
      same : (c : Bool) → ◌≡◌ {A = ℕ} (cond c 1 1) 1
      same true = refl
      same false = refl
