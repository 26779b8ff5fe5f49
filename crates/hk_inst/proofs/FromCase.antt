-- First part: each reading under which the goal has the value 1 gives an assignment that satisfies the clauses.
use Rattle.std.proofs.Common.{◌≡◌, ◌⊎◌, inl, inr, ℕ, zero, suc, ◌+◌, ◌<◌, ◌%◌, ◌^◌, Bool, true, false, ◌&&◌, cond, nat_eq, List, [], ◌∷◌, length, map, take, reverse, ℤ, Some, refl, sym, ◌∙◌, ap, subst, arith}
use Rattle.std.specs.Prelude.{slice_get, unwrap_or}
use Rattle.std.specs.List.{All, Contains, list_all, list_any}
use Rattle.std.specs.Map.{lookup}
use Rattle.std.proofs.lemmas.Bool.{eqb-true}
use Rattle.std.proofs.lemmas.List.{reverse-reverse}
use Rattle.hk_term.specs.Operations.{bit, unary_value, binary_value, resize_value}
use Rattle.hk_term.specs.Shape.{width, NodeFits}
use Rattle.hk_term.specs.Meaning.{Reading, every_tuple, value}
use Rattle.hk_term.specs.declared.node.Node.{Node}
use Rattle.hk_term.specs.declared.node.Node.TheVariants.{Const, Var, Select, Unary, Binary, Choose, Resize, ForAll}
use Rattle.hk_term.proofs.TermLists.{holds}
use Rattle.hk_copy.specs.declared.stand.Stand.TheVariants.{Number}
use Rattle.hk_copy.specs.Stands.{stand_value, with_tuple}
use Rattle.hk_copy.proofs.TupleLaws.{copies-tuple, numbers-tuple}
use Rattle.hk_cnf.specs.Clauses.{clauses_value}
use Rattle.hk_cnf.specs.Literal.{place_of, IsWithin}
use Rattle.hk_cnf.specs.CircuitGrowth.{values_of}
use Rattle.hk_cnf.specs.Determined.{is_output, Completes, IsDetermined}
use Rattle.hk_cnf.proofs.Determination.{IsDetermined-circuit}
use Rattle.hk_blast.specs.Blasted.{word_in, HasWord, is_input, is_input_at, variables_from, IsFree, IsBlasted, word_number}
use Rattle.hk_blast.proofs.WordLists.{word_of, entry_of, is_input-at}
use Rattle.hk_blast.proofs.BlastedLaws.{variables-below}
use Rattle.hk_blast.proofs.Unfixed.{inputs-unfixed}
use Rattle.hk_inst.specs.declared.instance.Instance.{Instance}
use Rattle.hk_inst.specs.declared.instance.Instance.TheVariants.{Pair, Tuple}
use Rattle.hk_inst.specs.declared.opening.Opening.{Opening}
use Rattle.hk_inst.specs.Inputs.{Table, number_in, is_other}
use Rattle.hk_inst.specs.Truths.{IsTuple}
use Rattle.hk_inst.specs.Demanded.{IsOpening, IsDemand}
use Rattle.hk_inst.specs.Exactness.{IsRefuted, Agrees}
use Rattle.hk_inst.specs.Questions.{Asked, AreDemands, says, IsQuestion}
use Rattle.hk_inst.proofs.Tuples.{both, tuple-at}
use Rattle.hk_inst.proofs.Members.{contains-cases, all-from-members, of-all}
use Rattle.hk_inst.proofs.LikeReadings.{some-node}
use Rattle.hk_inst.proofs.RequiredTerms.{Local, bit-true, agreement-holds, implication-holds, choice-holds}
use Rattle.hk_inst.proofs.QuestionFacts.{known-within, demand-width, choice-width, refutation-body, local, clauses-hold, said-one}
use Rattle.hk_inst.proofs.ChosenBits.{bit_at, chosen, start_of, start-is, chosen-bits, word-bits, places-of-entry, variables-at}
use Rattle.hk_inst.proofs.WitnessNumbers.{contains-reverse, any-reverse, IsWitnessed, witnessed}

-- each required term is that of an instance
instance-of : (nodes : List Node) (table : Table) (is : List Instance) (ds : List ℕ) → AreDemands nodes table is ds → (d : ℕ) → Contains ds d → (i : Instance) × (IsDemand nodes table i d)
instance-of nodes table [] [] h d (k, l, e) = absurd (omega (arith, l))
instance-of nodes table [] (e ∷ ds) h d c = absurd h
instance-of nodes table (i ∷ is) [] h d c = absurd h
instance-of nodes table (i ∷ is) (e ∷ ds) h d c = by (contains-cases e ds d c) (instance-of nodes table is ds h.1 d)
  where
    by : (e ≡ d) ⊎ (Contains ds d) → (Contains ds d → (j : Instance) × (IsDemand nodes table j d)) → (j : Instance) × (IsDemand nodes table j d)
    by (inl s) go = (i, subst (IsDemand nodes table i) s h.0)
    by (inr m) go = go m

module _ (q : Asked) (h : IsQuestion q) (w : Reading) where
  determined : IsDetermined q.circuit
  determined = IsDetermined-circuit q.circuit h.circuit

  -- the assignment in which each input has its value under the reading
  abbrev pub taken : List Bool
  taken = (IsDetermined-circuit q.circuit h.circuit).completion (chosen q.nodes w (reverse q.table.words))

  completes : Completes q.circuit (chosen q.nodes w (reverse q.table.words)) taken
  completes = (IsDetermined-circuit q.circuit h.circuit).completes (chosen q.nodes w (reverse q.table.words))

  abbrev f : ℕ → ℕ
  f = number_in q.table.words taken

  its-local : Local q.nodes (HasWord q.table.words) f
  its-local = local q h taken completes.satisfies

  input-number : (t : ℕ) (n : Node) → slice_get q.nodes t ≡ Some n → HasWord q.table.words t → is_input n ≡ true → f t ≡ value q.nodes t w
  input-number t n at k input = ap (word_number taken) word-is ∙ word-bits taken (length word) free.start (value q.nodes t w) small bits
    where
      x : (ls : List ℤ) × (lookup (nat_eq t) q.table.words ≡ Some ls)
      x = word_of t q.table.words k

      y : (i : ℕ) × (slice_get q.table.words i ≡ Some (t, x.0))
      y = entry_of t q.table.words x.0 x.1

      word : List ℤ
      word = x.0

      row : IsBlasted q.nodes q.circuit (take y.0 q.table.words) t x.0
      row = h.blasted y.0 (t, x.0) y.1

      there : is_input_at q.nodes t ≡ true
      there = is_input-at q.nodes t n at ∙ input

      free : IsFree q.nodes q.circuit (take y.0 q.table.words) x.0
      free = row.free (sym (is_input-at q.nodes t row.node row.at) ∙ there)

      word-is : word_in q.table.words t ≡ variables_from free.start (length x.0)
      word-is = ap (λ o. unwrap_or o []) x.1 ∙ free.is

      small : value q.nodes t w < 2 ^ length x.0
      small = subst (λ m. value q.nodes t w < 2 ^ m) (sym row.size) ((holds q.nodes t n h.fit at).below w)

      start : start_of x.0 ≡ free.start
      start = start-is x.0 free.start free.is row.is_width.0

      bits : (b : ℕ) → b < length x.0 → values_of taken (free.start + b) ≡ bit_at (value q.nodes t w) b
      bits b l =
          completes.chosen (free.start + b) (variables-below q.circuit.vars free.start (length x.0) (free.start + b) (subst (All (IsWithin q.circuit.vars)) free.is row.within) (omega arith) (omega (arith, l)))
          (variables-at (λ p. is_output q.circuit.gates p ≡ false) free.start (length x.0) b
          (subst (λ ls. All (λ p. is_output q.circuit.gates p ≡ false) (map place_of ls)) free.is
          (places-of-entry (λ p. is_output q.circuit.gates p ≡ false) q.nodes q.table.words y.0 (t, x.0) (inputs-unfixed q.nodes q.circuit q.table.words h.circuit h.blasted) y.1 there)) l)
          ∙ ap (λ s. chosen q.nodes w (reverse q.table.words) (s + b)) (sym start)
          ∙ chosen-bits q.nodes q.circuit w q.table.words h.blasted y.0 (t, x.0) y.1 there b l

  node-number : (n : Node) (t : ℕ) → slice_get q.nodes t ≡ Some n → NodeFits t (width q.nodes) n → HasWord q.table.words t → ((k : ℕ) → k < t → HasWord q.table.words k → f k ≡ value q.nodes k w) → f t ≡ value q.nodes t w
  node-number (Const size number) t at fits k part = its-local.value_is t _ at k ∙ sym ((holds q.nodes t _ h.fit at).value_is w)
  node-number (Var size id) t at fits k part = input-number t _ at k refl
  node-number (Select array size i) t at fits k part = input-number t _ at k refl
  node-number (Unary kind a) t at fits k part =
      its-local.value_is t _ at k ∙ ap (unary_value kind (width q.nodes a)) (part a fits (its-local.parts t a _ at k refl)) ∙ sym ((holds q.nodes t _ h.fit at).value_is w)
  node-number (Binary kind a b) t at fits k part =
      let x : f a ≡ value q.nodes a w = part a fits.0 (its-local.parts t a _ at k (inl refl)) in
      let y : f b ≡ value q.nodes b w = part b fits.1 (its-local.parts t b _ at k (inr refl)) in
      its-local.value_is t _ at k ∙ (λ i. binary_value kind (width q.nodes a) (width q.nodes b) (x i) (y i)) ∙ sym ((holds q.nodes t _ h.fit at).value_is w)
  node-number (Choose c a b) t at fits k part =
      let z : f c ≡ value q.nodes c w = part c fits.0 (its-local.parts t c _ at k (inl refl)) in
      let x : f a ≡ value q.nodes a w = part a fits.1 (its-local.parts t a _ at k (inr (inl refl))) in
      let y : f b ≡ value q.nodes b w = part b fits.2 (its-local.parts t b _ at k (inr (inr refl))) in
      its-local.value_is t _ at k ∙ (λ i. cond (nat_eq (z i) 1) (x i) (y i)) ∙ sym ((holds q.nodes t _ h.fit at).value_is w)
  node-number (Resize kind to a) t at fits k part =
      its-local.value_is t _ at k ∙ ap (resize_value kind (width q.nodes a) to) (part a fits.0 (its-local.parts t a _ at k refl)) ∙ sym ((holds q.nodes t _ h.fit at).value_is w)
  node-number (ForAll bound body) t at fits k part = input-number t _ at k refl

  numbers-upto : (m t : ℕ) → t < m → HasWord q.table.words t → f t ≡ value q.nodes t w
  numbers-upto zero t l k = absurd (omega (arith, l))
  numbers-upto (suc m) t l k =
      let n = some-node q.nodes t (known-within q.nodes q.circuit q.table.words h.blasted t k) in
      node-number n.0 t n.1 (holds q.nodes t n.0 h.fit n.1).fits k (λ p e. numbers-upto m p (omega (arith, e, l)))

  -- each term has its value under the reading
  pub taken-number : (t : ℕ) → HasWord q.table.words t → number_in q.table.words taken t ≡ value q.nodes t w
  taken-number t k = numbers-upto (suc t) t (omega arith) k

  numbered : (t size id : ℕ) → slice_get q.nodes t ≡ Some (Var size id) → HasWord q.table.words t → f t ≡ w.var id % 2 ^ size
  numbered t size id at k = taken-number t k ∙ (holds q.nodes t _ h.fit at).value_is w

  opening-said : (o : Opening) → Contains q.table.openings o → IsRefuted q.nodes w o → says q.table.words taken o.demand ≡ true
  opening-said o c refuted =
      said-one q h taken o.demand known (choice-width q.nodes h.fit o.term o.copy its.bound o.stands o.demand its.choice)
      (choice-holds q.nodes (HasWord q.table.words) f its-local w numbered o.term o.copy its.bound o.stands o.demand its.choice known (by (every_tuple its.bound (λ x. nat_eq (value q.nodes its.body x) 1) w) refl))
    where
      its : IsOpening q.nodes o
      its = (h.table.openings_are o c).1

      known : HasWord q.table.words o.demand
      known = of-all (λ y. HasWord q.table.words y.demand) q.table.openings o h.openings_known c

      term-known : HasWord q.table.words o.term
      term-known = its-local.parts o.demand o.term _ its.choice.is known (inl refl)

      copy-known : HasWord q.table.words o.copy
      copy-known = refutation-body q.nodes (HasWord q.table.words) f its-local o.copy its.choice.refutation (its-local.parts o.demand its.choice.rest _ its.choice.is known (inr (inr refl)))

      term-is : f o.term ≡ bit (every_tuple its.bound (λ x. nat_eq (value q.nodes its.body x) 1) w)
      term-is = taken-number o.term term-known ∙ (holds q.nodes o.term _ h.fit its.at).value_is w

      by : (b : Bool) → every_tuple its.bound (λ x. nat_eq (value q.nodes its.body x) 1) w ≡ b → (f o.term ≡ 1) ⊎ ((IsTuple its.bound (map (stand_value w) o.stands)) × (nat_eq (f o.copy) 1 ≡ false))
      by true e = inl (term-is ∙ ap bit e)
      by false e =
          let r = refuted its.bound its.body its.at (sym (taken-number o.term term-known) ∙ term-is ∙ ap bit e) in
          inr (r.0, ap (λ n. nat_eq n 1) (taken-number o.copy copy-known ∙ copies-tuple q.nodes h.fit its.bound o.stands its.body o.copy its.copies w ∙ r.1))

  demand-said : (i : Instance) (d : ℕ) → HasWord q.table.words d → IsDemand q.nodes q.table i d → says q.table.words taken d ≡ true
  demand-said (Pair a b) d k (p, agrees) =
      said-one q h taken d k (demand-width q.nodes h.fit q.table (Pair a b) d (p, agrees)) (agreement-holds q.nodes (HasWord q.table.words) f its-local p.first p.second p.place p.other_place d agrees k same)
    where
      values-known : HasWord q.table.words agrees.values
      values-known = its-local.parts d agrees.values _ agrees.is k (inr (inl refl))

      first-known : HasWord q.table.words p.first
      first-known = its-local.parts agrees.values p.first _ agrees.values_is values-known (inl refl)

      second-known : HasWord q.table.words p.second
      second-known = its-local.parts agrees.values p.second _ agrees.values_is values-known (inr refl)

      sizes : p.size ≡ p.other_size
      sizes = h.one_size p.first p.second p.array p.size p.other_size p.place p.other_place first-known second-known p.first_is p.second_is

      place-is : f p.place ≡ value q.nodes p.place w
      place-is = taken-number p.place (h.places p.first p.array p.size p.place p.first_is first-known)

      other-is : f p.other_place ≡ value q.nodes p.other_place w
      other-is = taken-number p.other_place (h.places p.second p.array p.other_size p.other_place p.second_is second-known)

      same : f p.place ≡ f p.other_place → f p.first ≡ f p.second
      same e =
          taken-number p.first first-known ∙ (holds q.nodes p.first _ h.fit p.first_is).value_is w
          ∙ (λ i. w.entry p.array ((sym place-is ∙ e ∙ other-is) i) % 2 ^ sizes i)
          ∙ sym ((holds q.nodes p.second _ h.fit p.second_is).value_is w) ∙ sym (taken-number p.second second-known)
  demand-said (Tuple n ks) d k (p, b, copies, implies) =
      said-one q h taken d k (demand-width q.nodes h.fit q.table (Tuple n ks) d (p, b, copies, implies)) (implication-holds q.nodes (HasWord q.table.words) f its-local p.term b d implies k true-there)
    where
      copy-known : HasWord q.table.words b
      copy-known = its-local.parts d b _ implies.is k (inr (inl refl))

      term-known : HasWord q.table.words p.term
      term-known = its-local.parts d p.term _ implies.is k (inl refl)

      true-there : f p.term ≡ 1 → f b ≡ 1
      true-there e =
          let all : every_tuple p.bound (λ x. nat_eq (value q.nodes p.body x) 1) w ≡ true = bit-true (every_tuple p.bound (λ x. nat_eq (value q.nodes p.body x) 1) w) (sym ((holds q.nodes p.term _ h.fit p.is).value_is w) ∙ sym (taken-number p.term term-known) ∙ e) in
          taken-number b copy-known ∙ copies-tuple q.nodes h.fit p.bound (map Number ks) p.body b copies w
          ∙ ap (λ js. value q.nodes p.body (with_tuple p.bound js w)) (numbers-tuple ks w)
          ∙ eqb-true (value q.nodes p.body (with_tuple p.bound ks w)) 1 (tuple-at p.bound (λ x. nat_eq (value q.nodes p.body x) 1) w all ks p.fits)

  pub taken-satisfies : value q.nodes q.goal w ≡ 1 → ((o : Opening) → Contains q.table.openings o → IsRefuted q.nodes w o) → clauses_value taken q.circuit.clauses ≡ true
  taken-satisfies goal refuted =
      clauses-hold q h taken completes.satisfies
      (both (says q.table.words taken q.goal) (list_all (λ o. says q.table.words taken o.demand) q.table.openings && list_all (says q.table.words taken) q.demands)
      (said-one q h taken q.goal h.table.of_goal h.truth (taken-number q.goal h.table.of_goal ∙ goal))
      (both (list_all (λ o. says q.table.words taken o.demand) q.table.openings) (list_all (says q.table.words taken) q.demands)
      (all-from-members (λ o. says q.table.words taken o.demand) q.table.openings (λ o c. opening-said o c (refuted o c)))
      (all-from-members (says q.table.words taken) q.demands
      (λ d c. let r = instance-of q.nodes q.table q.instances q.demands h.demands d c in demand-said r.0 d (of-all (HasWord q.table.words) q.demands d h.demands_known c) r.1))))

-- each case in which the goal has the value 1 extends to an assignment
pub case-extends : (q : Asked) → IsQuestion q → (v : Reading) → value q.nodes q.goal v ≡ 1 → (a : List Bool) × (length a ≡ q.circuit.vars) × (clauses_value a q.circuit.clauses ≡ true) × (Agrees q.nodes q.table v a)
case-extends q h v goal = (
  taken q h x.case,
  (completes q h x.case).sized,
  taken-satisfies q h x.case (x.goal_same ∙ goal) refuted,
  record {
    case = x.case;
    entry = x.entry;
    var = λ id e. x.var id (any-reverse (λ o. list_any (is_other id) o.stands) q.table.openings ∙ e);
    numbers = taken-number q h x.case;
    tuples = refuted;
  },
)
  where
    x : IsWitnessed q.nodes h.fit q.goal (known-within q.nodes q.circuit q.table.words h.blasted q.goal h.table.of_goal) v (reverse q.table.openings)
    x = witnessed q.nodes h.fit q.goal (known-within q.nodes q.circuit q.table.words h.blasted q.goal h.table.of_goal) v h.limit (reverse q.table.openings) h.chosen
        (λ o c. (h.table.openings_are o (subst (λ os. Contains os o) (reverse-reverse q.table.openings) (contains-reverse (reverse q.table.openings) o c))).1)

    refuted : (o : Opening) → Contains q.table.openings o → IsRefuted q.nodes x.case o
    refuted o c = of-all (IsRefuted q.nodes x.case) (reverse q.table.openings) o x.each (contains-reverse q.table.openings o c)
