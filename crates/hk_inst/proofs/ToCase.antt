-- Second part: where an assignment satisfies the clauses and every other instance is true under it, the goal has the value 1 in the
-- completed case.
use Rattle.std.proofs.Common.{◌≡◌, ◌⊎◌, inl, inr, ℕ, ◌<◌, ◌%◌, ◌^◌, Bool, true, false, ◌&&◌, nat_eq, List, map, Some, refl, sym, ◌∙◌, ap, subst}
use Rattle.std.specs.Prelude.{slice_get}
use Rattle.std.specs.List.{Contains}
use Rattle.std.proofs.Math.Nat.{mod-eq_of_lt}
use Rattle.std.proofs.lemmas.Bool.{eq-eqb}
use Rattle.std.proofs.lemmas.Option.{same_Some}
use Rattle.hk_term.specs.Meaning.{Reading, value}
use Rattle.hk_term.specs.declared.bounds.Bound.{Bound}
use Rattle.hk_term.specs.declared.node.Node.TheVariants.{Var, Select, ForAll}
use Rattle.hk_term.proofs.TermLists.{holds}
use Rattle.hk_copy.specs.declared.stand.Stand.TheVariants.{Number}
use Rattle.hk_copy.specs.Stands.{standing, stand_value, with_tuple}
use Rattle.hk_copy.specs.Copies.{Copies}
use Rattle.hk_copy.proofs.CostLaws.{copies-cost}
use Rattle.hk_copy.proofs.TupleLaws.{copies-tuple, numbers-tuple}
use Rattle.hk_cnf.specs.Clauses.{clauses_value}
use Rattle.hk_blast.specs.Blasted.{HasWord}
use Rattle.hk_inst.specs.declared.instance.Instance.{Instance}
use Rattle.hk_inst.specs.declared.instance.Instance.TheVariants.{Pair, Tuple}
use Rattle.hk_inst.specs.declared.opening.Opening.{Opening}
use Rattle.hk_inst.specs.Inputs.{number_in, completed, is_variable, is_read_at, is_select, is_quantifier}
use Rattle.hk_inst.specs.Truths.{IsTuple, IsTrue, is_among}
use Rattle.hk_inst.specs.Demanded.{IsOpening, IsDemand}
use Rattle.hk_inst.specs.Questions.{Asked, IsQuestion}
use Rattle.hk_inst.proofs.Members.{variable-node, read-node, index_of, bound_of, body_of, node-once, among-contains, numbered-all, at-place, of-all}
use Rattle.hk_inst.proofs.CompletedCases.{variable-found, entry-found}
use Rattle.hk_inst.proofs.RequiredTerms.{Local, agreement-says, implication-says, choice-says}
use Rattle.hk_inst.proofs.Settled.{IsOpened, Fits, settled}
use Rattle.hk_inst.proofs.QuestionFacts.{known-within, refutation-body, gates-hold, all-hold, local, below-width, goal-one, opening-one, demand-one}

module _ (q : Asked) (h : IsQuestion q) (a : List Bool) (s : clauses_value a q.circuit.clauses ≡ true) (others : (i : Instance) → is_among q.instances i ≡ false → IsTrue q.nodes q.table (number_in q.table.words a) (completed q.nodes q.table (number_in q.table.words a)) i) where
  abbrev f : ℕ → ℕ
  f = number_in q.table.words a

  abbrev u : Reading
  u = completed q.nodes q.table (number_in q.table.words a)

  its-local : Local q.nodes (HasWord q.table.words) f
  its-local = local q h a (gates-hold q h a s)

  -- an instance is added, with its required term, or true
  settles : (A : Type 0) (i : Instance) → ((d : ℕ) × (IsDemand q.nodes q.table i d) × (HasWord q.table.words d) × (f d ≡ 1) → A) → (IsTrue q.nodes q.table f u i → A) → A
  settles A i added true_ = by (is_among q.instances i) refl
    where
      by : (b : Bool) → is_among q.instances i ≡ b → A
      by true e = added (demand-one q h a (all-hold q h a s) i (among-contains q.instances i e))
      by false e = true_ (others i e)

  variable-is : (t size id : ℕ) → slice_get q.nodes t ≡ Some (Var size id) → HasWord q.table.words t → f t ≡ u.var id % 2 ^ size
  variable-is t size id at k =
      let found : u.var id ≡ f t = variable-found q.nodes f q.table.words t id k (ap (λ o. is_variable o id) at ∙ eq-eqb id id refl) only in
      sym (ap (λ n. n % 2 ^ size) found ∙ mod-eq_of_lt (subst (λ w. f t < 2 ^ w) (holds q.nodes t _ h.fit at).width_is (below-width q h a t k)))
    where
      only : (r : ℕ) → HasWord q.table.words r → is_variable (slice_get q.nodes r) id ≡ true → r ≡ t
      only r kr e =
          let n = variable-node (slice_get q.nodes r) id e in
          node-once q.nodes h.distinct r t (Var size id) (n.1 ∙ ap (λ w. Some (Var w id)) (h.one_width r t n.0 size id kr k n.1 at)) at

  -- two reads at equal places have equal numbers
  reads-agree : (r t array size other i j : ℕ) → Contains q.table.reads r → Contains q.table.reads t → slice_get q.nodes r ≡ Some (Select array size i) → slice_get q.nodes t ≡ Some (Select array other j) → f i ≡ f j → f r ≡ f t
  reads-agree r t array size other i j cr ct ar at e = settles (f r ≡ f t) (Pair x.0 y.0) by-demand by-truth
    where
      x : (k : ℕ) × (slice_get q.table.reads k ≡ Some r)
      x = at-place q.table.reads r cr

      y : (k : ℕ) × (slice_get q.table.reads k ≡ Some t)
      y = at-place q.table.reads t ct

      by-truth : IsTrue q.nodes q.table f u (Pair x.0 y.0) → f r ≡ f t
      by-truth h = h (record { array = array; first = r; size = size; place = i; second = t; other_size = other; other_place = j; first_at = x.1; second_at = y.1; first_is = ar; second_is = at }) e

      by-demand : (d : ℕ) × (IsDemand q.nodes q.table (Pair x.0 y.0) d) × (HasWord q.table.words d) × (f d ≡ 1) → f r ≡ f t
      by-demand (d, (p, agrees), k, one) =
          let first : p.first ≡ r = same_Some p.first r (sym p.first_at ∙ x.1) in
          let second : p.second ≡ t = same_Some p.second t (sym p.second_at ∙ y.1) in
          let place : p.place ≡ i = ap index_of (sym p.first_is ∙ ap (slice_get q.nodes) first ∙ ar) in
          let other_place : p.other_place ≡ j = ap index_of (sym p.second_is ∙ ap (slice_get q.nodes) second ∙ at) in
          sym (ap f first) ∙ agreement-says q.nodes (HasWord q.table.words) f its-local p.first p.second p.place p.other_place d agrees k one (ap f place ∙ e ∙ sym (ap f other_place)) ∙ ap f second

  known-read : (t array size i : ℕ) → slice_get q.nodes t ≡ Some (Select array size i) → HasWord q.table.words t → Contains q.table.reads t
  known-read t array size i at k = numbered-all q.nodes is_select h.table.reads t (subst (λ ws. HasWord ws t) h.table.steps_are k) (ap is_select at)

  known-quantifier : (t body : ℕ) (bound : List Bound) → slice_get q.nodes t ≡ Some (ForAll bound body) → HasWord q.table.words t → Contains q.table.quantifiers t
  known-quantifier t body bound at k = numbered-all q.nodes is_quantifier h.table.quantifiers t (subst (λ ws. HasWord ws t) h.table.steps_are k) (ap is_quantifier at)

  entry-is : (t array size i : ℕ) → slice_get q.nodes t ≡ Some (Select array size i) → HasWord q.table.words t → f t ≡ u.entry array (f i) % 2 ^ size
  entry-is t array size i at k =
      let found : u.entry array (f i) ≡ f t = entry-found q.nodes f q.table.reads t array (f i) (known-read t array size i at k) here same in
      sym (ap (λ n. n % 2 ^ size) found ∙ mod-eq_of_lt (subst (λ w. f t < 2 ^ w) (holds q.nodes t _ h.fit at).width_is (below-width q h a t k)))
    where
      here : is_read_at (slice_get q.nodes t) f array (f i) ≡ true
      here = ap (λ o. is_read_at o f array (f i)) at ∙ (λ x. eq-eqb array array refl x && eq-eqb (f i) (f i) refl x)

      same : (r : ℕ) → Contains q.table.reads r → is_read_at (slice_get q.nodes r) f array (f i) ≡ true → f r ≡ f t
      same r c e =
          let n = read-node (slice_get q.nodes r) f array (f i) e in
          reads-agree r t array n.0 size n.1 i c (known-read t array size i at k) n.2 at n.3

  true-at : (t body : ℕ) (bound : List Bound) → slice_get q.nodes t ≡ Some (ForAll bound body) → HasWord q.table.words t → f t ≡ 1 → (ks : List ℕ) → IsTuple bound ks
      → (value q.nodes body (with_tuple bound ks u) ≡ 1) ⊎ ((o : IsOpened q.nodes (HasWord q.table.words) u bound body ks) × (f o.copy ≡ 1))
  true-at t body bound at k one ks fits = settles ((value q.nodes body (with_tuple bound ks u) ≡ 1) ⊎ ((o : IsOpened q.nodes (HasWord q.table.words) u bound body ks) × (f o.copy ≡ 1))) (Tuple x.0 ks) by-demand (λ h. inl (h (record { term = t; bound = bound; body = body; at = x.1; is = at; fits = fits }) one))
    where
      x : (n : ℕ) × (slice_get q.table.quantifiers n ≡ Some t)
      x = at-place q.table.quantifiers t (known-quantifier t body bound at k)

      by-demand : (d : ℕ) × (IsDemand q.nodes q.table (Tuple x.0 ks) d) × (HasWord q.table.words d) × (f d ≡ 1) → ((value q.nodes body (with_tuple bound ks u) ≡ 1) ⊎ ((o : IsOpened q.nodes (HasWord q.table.words) u bound body ks) × (f o.copy ≡ 1)))
      by-demand (d, (p, b, copies, implies), kd, told) =
          let term : p.term ≡ t = same_Some p.term t (sym p.at ∙ x.1) in
          let node : slice_get q.nodes t ≡ Some (ForAll p.bound p.body) = ap (slice_get q.nodes) (sym term) ∙ p.is in
          let bound_is : p.bound ≡ bound = ap bound_of (sym node ∙ at) in
          let body_is : p.body ≡ body = ap body_of (sym node ∙ at) in
          let copy : Copies q.nodes (standing bound (map Number ks)) body b = subst (λ (z : List Bound × ℕ). Copies q.nodes (standing z.0 (map Number ks)) z.1 b) {x = (p.bound, p.body)} {y = (bound, body)} (λ i. (bound_is i, body_is i)) copies in
          inr (
            record {
              copy = b;
              known = its-local.parts d b _ implies.is kd (inr (inl refl));
              cheap = copies-cost q.nodes h.fit copy;
              value_is = copies-tuple q.nodes h.fit bound (map Number ks) body b copy u ∙ ap (λ js. value q.nodes body (with_tuple bound js u)) (numbers-tuple ks u);
            },
            implication-says q.nodes (HasWord q.table.words) f its-local p.term b d implies kd told (ap f term ∙ one),
          )

  false-at : (t body : ℕ) (bound : List Bound) → slice_get q.nodes t ≡ Some (ForAll bound body) → HasWord q.table.words t → f t ≡ 0
      → (ks : List ℕ) × (IsTuple bound ks) × (o : IsOpened q.nodes (HasWord q.table.words) u bound body ks) × (nat_eq (f o.copy) 1 ≡ false)
  false-at t body bound at k none =
      (map (stand_value u) x.0.stands, told.0, record { copy = x.0.copy; known = body-known; cheap = copies-cost q.nodes h.fit copy; value_is = copies-tuple q.nodes h.fit bound x.0.stands body x.0.copy copy u }, told.1)
    where
      x : (o : Opening) × (Contains q.table.openings o) × (o.term ≡ t)
      x = h.table.opened t (known-quantifier t body bound at k)

      its : IsOpening q.nodes x.0
      its = (h.table.openings_are x.0 x.1).1

      node : slice_get q.nodes t ≡ Some (ForAll its.bound its.body)
      node = ap (slice_get q.nodes) (sym x.2) ∙ its.at

      bound_is : its.bound ≡ bound
      bound_is = ap bound_of (sym node ∙ at)

      copy : Copies q.nodes (standing bound x.0.stands) body x.0.copy
      copy = subst (λ (z : List Bound × ℕ). Copies q.nodes (standing z.0 x.0.stands) z.1 x.0.copy) {x = (its.bound, its.body)} {y = (bound, body)} (λ i. (bound_is i, ap body_of (sym node ∙ at) i)) its.copies

      known : HasWord q.table.words x.0.demand
      known = of-all (λ y. HasWord q.table.words y.demand) q.table.openings x.0 h.openings_known x.1

      told : (IsTuple bound (map (stand_value u) x.0.stands)) × (nat_eq (f x.0.copy) 1 ≡ false)
      told =
          subst (λ b. (IsTuple b (map (stand_value u) x.0.stands)) × (nat_eq (f x.0.copy) 1 ≡ false)) bound_is
          (choice-says q.nodes (HasWord q.table.words) f its-local u variable-is x.0.term x.0.copy its.bound x.0.stands x.0.demand its.choice known (opening-one q h a (all-hold q h a s) x.0 x.1) (ap f x.2 ∙ none))

      body-known : HasWord q.table.words x.0.copy
      body-known = refutation-body q.nodes (HasWord q.table.words) f its-local x.0.copy its.choice.refutation (its-local.parts x.0.demand its.choice.rest _ its.choice.is known (inr (inr refl)))

  its-fits : Fits q.nodes (HasWord q.table.words) f u
  its-fits = record {
    local = its-local;
    there = known-within q.nodes q.circuit q.table.words h.blasted;
    below = below-width q h a;
    places = h.places;
    variable = variable-is;
    entry = entry-is;
    true_at = true-at;
    false_at = false-at;
  }

  -- each term's number is its value in the completed case
  pub number-is-value : (t : ℕ) → HasWord q.table.words t → number_in q.table.words a t ≡ value q.nodes t (completed q.nodes q.table (number_in q.table.words a))
  number-is-value = settled q.nodes h.fit (HasWord q.table.words) f u its-fits

  pub goal-is-true : value q.nodes q.goal (completed q.nodes q.table (number_in q.table.words a)) ≡ 1
  goal-is-true = sym (number-is-value q.goal h.table.of_goal) ∙ goal-one q h a (all-hold q h a s)
