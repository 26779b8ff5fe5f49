-- Numbers for the variables that stand for tuples, so that each quantifier that is false is false at its tuple.
use Rattle.std.proofs.Common.{◌≡◌, ◌⊎◌, inl, inr, ℕ, zero, suc, ◌+◌, ◌<◌, ◌≤◌, ◌%◌, ◌^◌, Bool, true, false, ◌||◌, cond, nat_eq, List, [], ◌∷◌, ◌++◌, length, map, reverse, Some, refl, sym, ◌∙◌, ap, subst, arith, get_or}
use Rattle.std.specs.Prelude.{slice_get}
use Rattle.std.specs.List.{All, Contains, list_any}
use Rattle.std.proofs.Math.Nat.{mod-eq_of_lt}
use Rattle.std.proofs.lemmas.Bool.{eq-eqb, ne_eqb}
use Rattle.std.proofs.lemmas.List.{reverse-append}
use Rattle.std.proofs.lemmas.List.Elements.{All-nil, All-cons, Contains-append_left, Contains-append_right}
use Rattle.std.proofs.lemmas.List.Folds.{list_any-append}
use Rattle.std.proofs.lemmas.Option.{slice_get_within}
use Rattle.hk_term.specs.Operations.{bit}
use Rattle.hk_term.specs.Shape.{AllFitIn}
use Rattle.hk_term.specs.Meaning.{Reading, with_var, every_tuple, value}
use Rattle.hk_term.specs.declared.bounds.Bound.{Bound}
use Rattle.hk_term.specs.declared.node.Node.{Node}
use Rattle.hk_term.specs.declared.node.Node.TheVariants.{ForAll}
use Rattle.hk_term.proofs.TermLists.{holds}
use Rattle.hk_copy.specs.declared.stand.Stand.{Stand}
use Rattle.hk_copy.specs.declared.stand.Stand.TheVariants.{Number, Other}
use Rattle.hk_copy.specs.Stands.{stand_value, with_tuple}
use Rattle.hk_inst.specs.declared.opening.Opening.{Opening}
use Rattle.hk_inst.specs.Inputs.{is_other, is_witness}
use Rattle.hk_inst.specs.Truths.{IsTuple}
use Rattle.hk_inst.specs.Demanded.{IsRefutation, IsOpening}
use Rattle.hk_inst.specs.Demanded.IsRefutation.{ended, ranged}
use Rattle.hk_inst.specs.Exactness.{IsRefuted}
use Rattle.hk_inst.specs.Questions.{AreVariables, IsChosen, AreChosen}
use Rattle.hk_inst.proofs.Tuples.{clash, tuple-false}
use Rattle.hk_inst.proofs.Members.{contains-cases, contains-head, contains-tail, bound_of, body_of}
use Rattle.hk_inst.proofs.LikeReadings.{some-node, IsAlike, value-alike, with_tuple-alike}

-- ---- lists that are turned round

pub contains-reverse : {X : Type 0} (xs : List X) (y : X) → Contains xs y → Contains (reverse xs) y
contains-reverse [] y (k, l, e) = absurd (omega (arith, l))
contains-reverse (x ∷ xs) y c = subst (λ ys. Contains ys y) (sym (reverse-append (x ∷ []) xs)) (by (contains-cases x xs y c) (contains-reverse xs y))
  where
    by : (x ≡ y) ⊎ (Contains xs y) → (Contains xs y → Contains (reverse xs) y) → Contains (reverse xs ++ x ∷ []) y
    by (inl e) go = Contains-append_right (reverse xs) (x ∷ []) y (0, omega arith, e)
    by (inr d) go = Contains-append_left (reverse xs) (x ∷ []) y (go d)

pub any-reverse : {X : Type 0} (p : X → Bool) (xs : List X) → list_any p (reverse xs) ≡ list_any p xs
any-reverse p [] = refl
any-reverse p (x ∷ xs) = ap (list_any p) (reverse-append (x ∷ []) xs) ∙ list_any-append p (reverse xs) (x ∷ []) ∙ ap (λ b. b || (p x || false)) (any-reverse p xs) ∙ turned (list_any p xs) (p x)
  where
    turned : (a b : Bool) → (a || (b || false)) ≡ (b || a)
    turned true true = refl
    turned true false = refl
    turned false true = refl
    turned false false = refl

or-first : (a b : Bool) → (a || b) ≡ false → a ≡ false
or-first true b e = clash e
or-first false b e = refl

or-second : (a b : Bool) → (a || b) ≡ false → b ≡ false
or-second true b e = clash e
or-second false b e = e

-- ---- numbers for variables

abbrev pub id_of : Stand → ℕ
id_of (Number n) = 0
id_of (Other width id) = id

-- the reading with these numbers for the variables that stand here
abbrev pub with_stands : List Stand → List ℕ → Reading → Reading
with_stands [] ks v = v
with_stands (s ∷ ss) [] v = v
with_stands (s ∷ ss) (k ∷ ks) v = with_var (with_stands ss ks v) (id_of s) k

stands-entry : (ss : List Stand) (ks : List ℕ) (v : Reading) → (with_stands ss ks v).entry ≡ v.entry
stands-entry [] ks v = refl
stands-entry (s ∷ ss) [] v = refl
stands-entry (s ∷ ss) (k ∷ ks) v = stands-entry ss ks v

variables-limit : (first limit : ℕ) (ss : List Stand) → AreVariables first limit ss → first ≤ limit
variables-limit first limit [] h = h
variables-limit first limit (Number n ∷ ss) h = absurd h
variables-limit first limit (Other w id ∷ ss) h = omega (arith, variables-limit (first + 1) limit ss h.2)

-- a variable that does not stand here keeps its number
stands-other : (first limit : ℕ) (ss : List Stand) (ks : List ℕ) (v : Reading) → AreVariables first limit ss → (id : ℕ) → list_any (is_other id) ss ≡ false → (with_stands ss ks v).var id ≡ v.var id
stands-other first limit [] ks v h id e = refl
stands-other first limit (Number n ∷ ss) ks v h id e = absurd h
stands-other first limit (Other w i ∷ ss) [] v h id e = refl
stands-other first limit (Other w i ∷ ss) (k ∷ ks) v h id e =
    ap (λ b. cond b k ((with_stands ss ks v).var id)) (or-first (nat_eq id i) (list_any (is_other id) ss) e)
    ∙ stands-other (first + 1) limit ss ks v h.2 id (or-second (nat_eq id i) (list_any (is_other id) ss) e)

-- the variables that stand here are not below the first
first-other : (first limit : ℕ) (ss : List Stand) → AreVariables first limit ss → (id : ℕ) → id < first → list_any (is_other id) ss ≡ false
first-other first limit [] h id l = refl
first-other first limit (Number n ∷ ss) h id l = absurd h
first-other first limit (Other w i ∷ ss) h id l =
    let apart : nat_eq id i ≡ false = ne_eqb id i (λ e. absurd (omega (arith, e, l, h.0))) in
    ap (λ b. b || list_any (is_other id) ss) apart ∙ first-other (first + 1) limit ss h.2 id (omega (arith, l))

-- what stands here depends on the variables from the first up to the limit alone
stands-same : (first limit : ℕ) (ss : List Stand) → AreVariables first limit ss → (v w : Reading) → ((id : ℕ) → first ≤ id → id < limit → v.var id ≡ w.var id) → map (stand_value v) ss ≡ map (stand_value w) ss
stands-same first limit [] h v w e = refl
stands-same first limit (Number n ∷ ss) h v w e = absurd h
stands-same first limit (Other width i ∷ ss) h v w e =
    let inside : i < limit = omega (arith, h.0, variables-limit (first + 1) limit ss h.2) in
    λ t. e i (omega (arith, h.0)) inside t % 2 ^ width ∷ stands-same (first + 1) limit ss h.2 v w (λ id a b. e id (omega (arith, a)) b) t

-- the variables have the numbers that they were given
stands-are : (nodes : List Node) (b : ℕ) {bs : List Bound} {ss : List Stand} {d : ℕ} → IsRefutation nodes b bs ss d → (first limit : ℕ) → AreVariables first limit ss → (ks : List ℕ) → IsTuple bs ks → (v : Reading) → map (stand_value (with_stands ss ks v)) ss ≡ ks
stands-are nodes b (ended no_ yes_ no_is yes_is is) first limit h [] t v = refl
stands-are nodes b (ended no_ yes_ no_is yes_is is) first limit h (k ∷ ks) t v = absurd t
stands-are nodes b {bs = bound ∷ bs} {ss = s ∷ ss} (ranged w id z size test rest no_ few z_is size_is test_is no_is is more) first limit h [] t v = absurd t
stands-are nodes b {bs = bound ∷ bs} {ss = s ∷ ss} (ranged w id z size test rest no_ few z_is size_is test_is no_is is more) first limit h (k ∷ ks) t v =
    λ i. head i ∷ (tail ∙ stands-are nodes b more (first + 1) limit h.2 ks t.1 v) i
  where
    u : Reading
    u = with_var (with_stands ss ks v) id k

    fits : k < 2 ^ w
    fits = omega (arith, few, t.0)

    head : cond (nat_eq id id) k ((with_stands ss ks v).var id) % 2 ^ w ≡ k
    head = ap (λ c. cond c k ((with_stands ss ks v).var id) % 2 ^ w) (eq-eqb id id refl) ∙ mod-eq_of_lt fits

    tail : map (stand_value (with_var (with_stands ss ks v) id k)) ss ≡ map (stand_value (with_stands ss ks v)) ss
    tail = stands-same (first + 1) limit ss h.2 (with_var (with_stands ss ks v) id k) (with_stands ss ks v)
        (λ j a b. ap (λ c. cond c k ((with_stands ss ks v).var j)) (ne_eqb j id (λ e. absurd (omega (arith, e, a, h.0)))))

-- ---- one quantifier after another

module _ (nodes : List Node) (fit : AllFitIn (reverse nodes)) (goal : ℕ) (inside : goal < length nodes) (v : Reading) where
  pub record IsWitnessed (os : List Opening) : Type 0 where
    pub case : Reading
    pub entry : case.entry ≡ v.entry
    pub var : (id : ℕ) → is_witness os id ≡ false → case.var id ≡ v.var id
    pub goal_same : value nodes goal case ≡ value nodes goal v
    pub each : All (IsRefuted nodes case) os

  -- what the variables of the quantifiers so far stand for depends on the variables below the limit alone
  chosen-below : (limit : ℕ) (os : List Opening) → AreChosen nodes goal limit os → All (λ p. (x w : Reading) → ((id : ℕ) → id < limit → x.var id ≡ w.var id) → map (stand_value x) p.stands ≡ map (stand_value w) p.stands) os
  chosen-below limit [] h = λ k d l. absurd (omega (arith, l))
  chosen-below limit (o ∷ os) h =
      All-cons (λ p. (x w : Reading) → ((id : ℕ) → id < limit → x.var id ≡ w.var id) → map (stand_value x) p.stands ≡ map (stand_value w) p.stands) o os
      (λ x w e. stands-same h.0.first limit o.stands h.0.stands x w (λ id a b. e id b))
      (λ k d l x w e. chosen-below h.0.first os h.1 k d l x w (λ id b. e id (omega (arith, b, variables-limit h.0.first limit o.stands h.0.stands))))

  -- a quantifier that was refuted stays refuted under new numbers for later variables
  refuted-kept : (limit : ℕ) (os : List Opening) (o : Opening) (c : IsChosen nodes goal limit os o) (x w : Reading) → IsAlike c.first x w → (p : Opening) → p.term < c.made
      → ((y z : Reading) → ((id : ℕ) → id < c.first → y.var id ≡ z.var id) → map (stand_value y) p.stands ≡ map (stand_value z) p.stands) → IsRefuted nodes x p → IsRefuted nodes w p
  refuted-kept limit os o c x w alike p made stands was bound body at none =
      let here : p.term < length nodes = slice_get_within nodes p.term _ at in
      let before : body < p.term = (holds nodes p.term _ fit at).fits.0 in
      let same : value nodes p.term x ≡ value nodes p.term w = value-alike nodes fit c.first c.made c.below p.term made here x w alike in
      let tuple : map (stand_value x) p.stands ≡ map (stand_value w) p.stands = stands x w alike.var in
      let told : (IsTuple bound (map (stand_value x) p.stands)) × (value nodes body (with_tuple bound (map (stand_value x) p.stands) x) ≡ 0) = was bound body at (same ∙ none) in (
        subst (IsTuple bound) tuple told.0,
        sym (value-alike nodes fit c.first c.made c.below body (omega (arith, before, made)) (omega (arith, before, here))
            (with_tuple bound (map (stand_value x) p.stands) x) (with_tuple bound (map (stand_value w) p.stands) w)
            (subst (λ ks. IsAlike c.first (with_tuple bound (map (stand_value x) p.stands) x) (with_tuple bound ks w)) tuple (with_tuple-alike bound (map (stand_value x) p.stands) c.first x w alike)))
            ∙ told.1,
      )

  zero-or : (n : ℕ) → n < 2 → (nat_eq n 1 ≡ false) → n ≡ 0
  zero-or zero l e = refl
  zero-or (suc n) l e = let one : suc n ≡ 1 = omega (arith, l) in clash (sym (eq-eqb (suc n) 1 one) ∙ e)

  same-node : (o : Opening) (its : IsOpening nodes o) (bound : List Bound) (body : ℕ) → slice_get nodes o.term ≡ Some (ForAll bound body) → ◌≡◌ {A = List Bound × ℕ} (its.bound, its.body) (bound, body)
  same-node o its bound body at = λ i. (ap bound_of (sym its.at ∙ at) i, ap body_of (sym its.at ∙ at) i)

  given-alike : (limit : ℕ) (os : List Opening) (o : Opening) (c : IsChosen nodes goal limit os o) (ks : List ℕ) (x : Reading) → IsAlike c.first x (with_stands o.stands ks x)
  given-alike limit os o c ks x = record {
    var = λ id l. sym (stands-other c.first limit o.stands ks x c.stands id (first-other c.first limit o.stands c.stands id l));
    entry = sym (stands-entry o.stands ks x);
  }

  -- a false quantifier is refuted once its variables have the numbers of a tuple that makes its body false
  given-refuted : (limit : ℕ) (os : List Opening) (o : Opening) (c : IsChosen nodes goal limit os o) (its : IsOpening nodes o) (x : Reading) (ks : List ℕ) → IsTuple its.bound ks
      → nat_eq (value nodes its.body (with_tuple its.bound ks x)) 1 ≡ false → IsRefuted nodes (with_stands o.stands ks x) o
  given-refuted limit os o c its x ks t e bound body at none =
      subst (λ (z : List Bound × ℕ). (IsTuple z.0 (map (stand_value w) o.stands)) × (value nodes z.1 (with_tuple z.0 (map (stand_value w) o.stands) w) ≡ 0)) (same-node o its bound body at)
      (subst (λ js. (IsTuple its.bound js) × (value nodes its.body (with_tuple its.bound js w) ≡ 0)) (sym tuple) (t, sym same ∙ zero_))
    where
      w : Reading
      w = with_stands o.stands ks x

      tuple : map (stand_value (with_stands o.stands ks x)) o.stands ≡ ks
      tuple = stands-are nodes o.copy its.choice.refutation c.first limit c.stands ks t x

      here : o.term < length nodes
      here = slice_get_within nodes o.term _ its.at

      before : its.body < o.term
      before = (holds nodes o.term _ fit its.at).fits.0

      same : value nodes its.body (with_tuple its.bound ks x) ≡ value nodes its.body (with_tuple its.bound ks (with_stands o.stands ks x))
      same = value-alike nodes fit c.first c.made c.below its.body (omega (arith, before, c.term_made)) (omega (arith, before, here)) (with_tuple its.bound ks x) (with_tuple its.bound ks (with_stands o.stands ks x))
          (with_tuple-alike its.bound ks c.first x (with_stands o.stands ks x) (given-alike limit os o c ks x))

      small : value nodes its.body (with_tuple its.bound ks x) < 2
      small =
          let n = some-node nodes its.body (omega (arith, before, here)) in
          subst (λ m. value nodes its.body (with_tuple its.bound ks x) < 2 ^ m) (holds nodes o.term _ fit its.at).fits.1 ((holds nodes its.body n.0 fit n.1).below (with_tuple its.bound ks x))

      zero_ : value nodes its.body (with_tuple its.bound ks x) ≡ 0
      zero_ = zero-or (value nodes its.body (with_tuple its.bound ks x)) small e

  given : (limit : ℕ) (os : List Opening) (o : Opening) (c : IsChosen nodes goal limit os o) → AreChosen nodes goal c.first os → (its : IsOpening nodes o) → (was : IsWitnessed os) → (ks : List ℕ) → IsTuple its.bound ks
      → nat_eq (value nodes its.body (with_tuple its.bound ks was.case)) 1 ≡ false → IsWitnessed (o ∷ os)
  given limit os o c before its was ks t e = record {
    case = with_stands o.stands ks was.case;
    entry = stands-entry o.stands ks was.case ∙ was.entry;
    var = λ id n. stands-other c.first limit o.stands ks was.case c.stands id (or-first (list_any (is_other id) o.stands) (is_witness os id) n) ∙ was.var id (or-second (list_any (is_other id) o.stands) (is_witness os id) n);
    goal_same = sym (value-alike nodes fit c.first c.made c.below goal c.goal_made inside was.case (with_stands o.stands ks was.case) (given-alike limit os o c ks was.case)) ∙ was.goal_same;
    each = All-cons (IsRefuted nodes (with_stands o.stands ks was.case)) o os (given-refuted limit os o c its was.case ks t e)
        (λ k d l. refuted-kept limit os o c was.case (with_stands o.stands ks was.case) (given-alike limit os o c ks was.case) (get_or os k d) (c.earlier_made k d l) (chosen-below c.first os before k d l) (was.each k d l));
  }

  held : (os : List Opening) (o : Opening) (its : IsOpening nodes o) (was : IsWitnessed os) → every_tuple its.bound (λ x. nat_eq (value nodes its.body x) 1) was.case ≡ true → IsWitnessed (o ∷ os)
  held os o its was e = record {
    case = was.case;
    entry = was.entry;
    var = λ id w. was.var id (or-second (list_any (is_other id) o.stands) (is_witness os id) w);
    goal_same = was.goal_same;
    each = All-cons (IsRefuted nodes was.case) o os (λ bound body at none. absurd (omega (arith, none, (holds nodes o.term _ fit its.at).value_is was.case ∙ ap bit e))) was.each;
  }

  next : (limit : ℕ) (os : List Opening) (o : Opening) (c : IsChosen nodes goal limit os o) → AreChosen nodes goal c.first os → IsOpening nodes o → IsWitnessed os → IsWitnessed (o ∷ os)
  next limit os o c before its was = by (every_tuple its.bound (λ x. nat_eq (value nodes its.body x) 1) was.case) refl
    where
      by : (b : Bool) → every_tuple its.bound (λ x. nat_eq (value nodes its.body x) 1) was.case ≡ b → IsWitnessed (o ∷ os)
      by true e = held os o its was e
      by false e = let r = tuple-false its.bound (λ x. nat_eq (value nodes its.body x) 1) was.case e in given limit os o c before its was r.0 r.1 r.2

  -- there are numbers for the variables of all quantifiers
  pub witnessed : (limit : ℕ) (os : List Opening) → AreChosen nodes goal limit os → ((o : Opening) → Contains os o → IsOpening nodes o) → IsWitnessed os
  witnessed limit [] h its = record { case = v; entry = refl; var = λ id e. refl; goal_same = refl; each = All-nil (IsRefuted nodes v) }
  witnessed limit (o ∷ os) h its = next limit os o h.0 h.1 (its o (contains-head o os)) (witnessed h.0.first os h.1 (λ p c. its p (contains-tail o os p c)))
