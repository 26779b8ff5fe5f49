-- What an assignment that satisfies the clauses of a question makes of its terms.
use Rattle.std.proofs.Common.{◌≡◌, ◌⊎◌, inl, inr, ℕ, ◌+◌, ◌*◌, ◌<◌, ◌^◌, Bool, true, false, ◌&&◌, ◌||◌, nat_eq, List, [], ◌∷◌, length, take, drop, reverse, ℤ, Some, refl, sym, ◌∙◌, ap, subst, arith}
use Rattle.std.specs.Prelude.{slice_get, unwrap_or}
use Rattle.std.specs.List.{All, Contains, list_all}
use Rattle.std.specs.Map.{lookup}
use Rattle.std.proofs.lemmas.Option.{same_Some, slice_get_within}
use Rattle.std.proofs.lemmas.List.{take-append-drop}
use Rattle.std.proofs.lemmas.List.Elements.{All-head, All-tail}
use Rattle.hk_term.specs.Shape.{width, AllFitIn}
use Rattle.hk_term.specs.declared.bounds.Bound.{Bound}
use Rattle.hk_term.specs.declared.node.Node.{Node}
use Rattle.hk_term.specs.declared.node.Node.TheVariants.{Choose}
use Rattle.hk_term.proofs.TermLists.{holds}
use Rattle.hk_copy.specs.declared.stand.Stand.{Stand}
use Rattle.hk_cnf.specs.Literal.{value_at}
use Rattle.hk_cnf.specs.Clauses.{clause_value, clauses_value}
use Rattle.hk_cnf.specs.Circuit.{Circuit, all_gate_clauses}
use Rattle.hk_cnf.specs.Required.{required_of}
use Rattle.hk_cnf.proofs.OwnClauses.{gate_value-own, required-satisfied}
use Rattle.hk_circuit.specs.Words.{bit}
use Rattle.hk_blast.specs.Blasted.{Words, word_in, HasWord, IsPart, IsBlasted, AreBlasted, word_number}
use Rattle.hk_blast.proofs.WordLists.{word_of, entry_of, has_more}
use Rattle.hk_blast.proofs.BlastedLaws.{size-in, have-values, word_number-below}
use Rattle.hk_inst.specs.declared.instance.Instance.{Instance}
use Rattle.hk_inst.specs.declared.instance.Instance.TheVariants.{Pair, Tuple}
use Rattle.hk_inst.specs.declared.opening.Opening.{Opening}
use Rattle.hk_inst.specs.Inputs.{Table, number_in}
use Rattle.hk_inst.specs.Demanded.{IsAgreement, IsImplication, IsRefutation, IsChoice, IsDemand}
use Rattle.hk_inst.specs.Demanded.IsRefutation.{ended, ranged}
use Rattle.hk_inst.specs.Questions.{Asked, AreDemands, says, all_said, IsQuestion}
use Rattle.hk_inst.proofs.Tuples.{clash, both-first, both-second, both}
use Rattle.hk_inst.proofs.Members.{contains-cases, contains-head, contains-tail, all-members, of-all}
use Rattle.hk_inst.proofs.RequiredTerms.{Local}

-- ---- tables of words

-- a term with a word has its node, and its parts have words
pub row-of : (nodes : List Node) (c : Circuit) (words : Words) → AreBlasted nodes c words → (t : ℕ) → HasWord words t → (i : ℕ) × (IsBlasted nodes c (take i words) t (word_in words t))
row-of nodes c words h t has =
    let w : (w : List ℤ) × (lookup (nat_eq t) words ≡ Some w) = word_of t words has in
    let r : (i : ℕ) × (slice_get words i ≡ Some (t, w.0)) = entry_of t words w.0 w.1 in
    (r.0, subst (IsBlasted nodes c (take r.0 words) t) (word-is w.0 w.1) (h r.0 (t, w.0) r.1))
  where
    word-is : (w : List ℤ) → lookup (nat_eq t) words ≡ Some w → w ≡ word_in words t
    word-is w e = sym (ap (λ o. unwrap_or o []) e)

pub known-within : (nodes : List Node) (c : Circuit) (words : Words) → AreBlasted nodes c words → (t : ℕ) → HasWord words t → t < length nodes
known-within nodes c words h t has = let r = row-of nodes c words h t has in slice_get_within nodes t r.1.node r.1.at

pub known-parts : (nodes : List Node) (c : Circuit) (words : Words) → AreBlasted nodes c words → (t k : ℕ) (n : Node) → slice_get nodes t ≡ Some n → HasWord words t → IsPart n k → HasWord words k
known-parts nodes c words h t k n at has part =
    let r = row-of nodes c words h t has in
    let same : n ≡ r.1.node = same_Some n r.1.node (sym at ∙ r.1.at) in
    let there : HasWord (take r.0 words) k = r.1.parts k (subst (λ m. IsPart m k) same part) in
    subst (λ ws. HasWord ws k) (take-append-drop r.0 words) (has_more k (take r.0 words) (drop r.0 words) there)

-- ---- the literal of a truth value

pub said-number : (a : List Bool) (ls : List ℤ) → length ls ≡ 1 → clause_value a ls ≡ true → word_number a ls ≡ 1
said-number a [] e h = clash (sym h)
said-number a (l ∷ []) e h = by (value_at a l) h
  where
    by : (b : Bool) → (b || false) ≡ true → bit b + 2 * 0 ≡ 1
    by true g = refl
    by false g = clash (sym g)
said-number a (l ∷ m ∷ ls) e h = absurd (omega (arith, e))

pub number-said : (a : List Bool) (ls : List ℤ) → length ls ≡ 1 → word_number a ls ≡ 1 → clause_value a ls ≡ true
number-said a [] e h = absurd (omega (arith, e))
number-said a (l ∷ []) e h = by (value_at a l) h
  where
    by : (b : Bool) → bit b + 2 * 0 ≡ 1 → (b || false) ≡ true
    by true g = refl
    by false g = absurd (omega (arith, g))
number-said a (l ∷ m ∷ ls) e h = absurd (omega (arith, e))

-- ---- the widths of required terms

module _ (nodes : List Node) (fit : AllFitIn (reverse nodes)) where
  chosen-width : (d c a b : ℕ) → slice_get nodes d ≡ Some (Choose c a b) → width nodes a ≡ 1 → width nodes d ≡ 1
  chosen-width d c a b at e = (holds nodes d _ fit at).width_is ∙ e

  other-width : (d c a b : ℕ) → slice_get nodes d ≡ Some (Choose c a b) → width nodes b ≡ 1 → width nodes d ≡ 1
  other-width d c a b at e = (holds nodes d _ fit at).width_is ∙ (holds nodes d _ fit at).fits.4 ∙ e

  pub agreement-width : (r s i j d : ℕ) → IsAgreement nodes r s i j d → width nodes d ≡ 1
  agreement-width r s i j d h = chosen-width d h.places h.values h.one h.is (holds nodes h.values _ fit h.values_is).width_is

  pub implication-width : (q b d : ℕ) → IsImplication nodes q b d → width nodes d ≡ 1
  implication-width q b d h = other-width d q b h.one h.is (holds nodes h.one _ fit h.one_is).width_is

  pub choice-width : (q b : ℕ) (bound : List Bound) (ss : List Stand) (d : ℕ) → IsChoice nodes q b bound ss d → width nodes d ≡ 1
  choice-width q b bound ss d h = chosen-width d q h.one h.rest h.is (holds nodes h.one _ fit h.one_is).width_is

  pub demand-width : (table : Table) (i : Instance) (d : ℕ) → IsDemand nodes table i d → width nodes d ≡ 1
  demand-width table (Pair a b) d p = agreement-width _ _ _ _ d p.1
  demand-width table (Tuple k ks) d p = implication-width _ _ d p.3

-- ---- instances and their required terms

pub demand-of : (nodes : List Node) (table : Table) (P : ℕ → Type 0) (is : List Instance) (ds : List ℕ) → AreDemands nodes table is ds → All P ds → (i : Instance) → Contains is i → (d : ℕ) × (Contains ds d) × (IsDemand nodes table i d) × (P d)
demand-of nodes table P [] ds h all i (k, l, e) = absurd (omega arith)
demand-of nodes table P (j ∷ is) [] h all i c = absurd h
demand-of nodes table P (j ∷ is) (d ∷ ds) h all i c = by (contains-cases j is i c) (demand-of nodes table P is ds h.1 (All-tail P d ds all) i)
  where
    by : (j ≡ i) ⊎ (Contains is i) → (Contains is i → (f : ℕ) × (Contains ds f) × (IsDemand nodes table i f) × (P f)) → (f : ℕ) × (Contains (d ∷ ds) f) × (IsDemand nodes table i f) × (P f)
    by (inl e) go = (d, contains-head d ds, subst (λ x. IsDemand nodes table x d) e h.0, All-head P d ds all)
    by (inr m) go = let r = go m in (r.0, contains-tail d ds r.0 r.1, r.2, r.3)

-- ---- a refutation knows its body

pub refutation-body : (nodes : List Node) (IsKnown : ℕ → Type 0) (f : ℕ → ℕ) → Local nodes IsKnown f → (b : ℕ) {bs : List Bound} {ss : List Stand} {d : ℕ} → IsRefutation nodes b bs ss d → IsKnown d → IsKnown b
refutation-body nodes IsKnown f l b {d = d} (ended no_ yes_ no_is yes_is is) k = l.parts d b _ is k (inl refl)
refutation-body nodes IsKnown f l b {d = d} (ranged w id z size test rest no_ few z_is size_is test_is no_is is more) k =
    refutation-body nodes IsKnown f l b more (l.parts d rest _ is k (inr (inl refl)))

-- ---- what a satisfying assignment says

module _ (q : Asked) (h : IsQuestion q) (a : List Bool) where
  -- the number of each term
  pub number : ℕ → ℕ
  number t = number_in q.table.words a t

  pub gates-hold : clauses_value a q.circuit.clauses ≡ true → clauses_value a (all_gate_clauses q.circuit.gates) ≡ true
  gates-hold s = both-first (clauses_value a (all_gate_clauses q.circuit.gates)) (clauses_value a (required_of q.circuit)) (sym (required-satisfied q.circuit a h.circuit) ∙ s)

  pub all-hold : clauses_value a q.circuit.clauses ≡ true → all_said q a ≡ true
  all-hold s = sym (h.required a) ∙ both-second (clauses_value a (all_gate_clauses q.circuit.gates)) (clauses_value a (required_of q.circuit)) (sym (required-satisfied q.circuit a h.circuit) ∙ s)

  pub clauses-hold : clauses_value a (all_gate_clauses q.circuit.gates) ≡ true → all_said q a ≡ true → clauses_value a q.circuit.clauses ≡ true
  clauses-hold g s = required-satisfied q.circuit a h.circuit ∙ both (clauses_value a (all_gate_clauses q.circuit.gates)) (clauses_value a (required_of q.circuit)) g (h.required a ∙ s)

  pub local : clauses_value a (all_gate_clauses q.circuit.gates) ≡ true → Local q.nodes (HasWord q.table.words) (number_in q.table.words a)
  local g = record {
    parts = known-parts q.nodes q.circuit q.table.words h.blasted;
    value_is = have-values q.nodes q.circuit q.table.words a h.blasted (gate_value-own q.circuit a h.circuit g);
  }

  pub below-width : (t : ℕ) → HasWord q.table.words t → number_in q.table.words a t < 2 ^ width q.nodes t
  below-width t k = subst (λ w. number_in q.table.words a t < 2 ^ w) (size-in q.nodes q.circuit q.table.words t h.blasted k) (word_number-below a (word_in q.table.words t))

  pub one-said : (t : ℕ) → HasWord q.table.words t → width q.nodes t ≡ 1 → says q.table.words a t ≡ true → number_in q.table.words a t ≡ 1
  one-said t k w s = said-number a (word_in q.table.words t) (size-in q.nodes q.circuit q.table.words t h.blasted k ∙ w) s

  pub said-one : (t : ℕ) → HasWord q.table.words t → width q.nodes t ≡ 1 → number_in q.table.words a t ≡ 1 → says q.table.words a t ≡ true
  said-one t k w s = number-said a (word_in q.table.words t) (size-in q.nodes q.circuit q.table.words t h.blasted k ∙ w) s

  pub goal-one : all_said q a ≡ true → number_in q.table.words a q.goal ≡ 1
  goal-one s = one-said q.goal h.table.of_goal h.truth (both-first (says q.table.words a q.goal) (list_all (λ o. says q.table.words a o.demand) q.table.openings && list_all (says q.table.words a) q.demands) s)

  pub rest-said : all_said q a ≡ true → (list_all (λ o. says q.table.words a o.demand) q.table.openings && list_all (says q.table.words a) q.demands) ≡ true
  rest-said s = both-second (says q.table.words a q.goal) (list_all (λ o. says q.table.words a o.demand) q.table.openings && list_all (says q.table.words a) q.demands) s

  pub opening-one : all_said q a ≡ true → (o : Opening) → Contains q.table.openings o → number_in q.table.words a o.demand ≡ 1
  opening-one s o c =
      let opened = (h.table.openings_are o c).1 in
      one-said o.demand (of-all (λ x. HasWord q.table.words x.demand) q.table.openings o h.openings_known c) (choice-width q.nodes h.fit o.term o.copy opened.bound o.stands o.demand opened.choice)
      (all-members (λ x. says q.table.words a x.demand) q.table.openings o (both-first (list_all (λ x. says q.table.words a x.demand) q.table.openings) (list_all (says q.table.words a) q.demands) (rest-said s)) c)

  pub demand-one : all_said q a ≡ true → (i : Instance) → Contains q.instances i → (d : ℕ) × (IsDemand q.nodes q.table i d) × (HasWord q.table.words d) × (number_in q.table.words a d ≡ 1)
  demand-one s i c =
      let r = demand-of q.nodes q.table (HasWord q.table.words) q.instances q.demands h.demands h.demands_known i c in (
        r.0,
        r.2,
        r.3,
        one-said r.0 r.3 (demand-width q.nodes h.fit q.table i r.0 r.2)
            (all-members (says q.table.words a) q.demands r.0 (both-second (list_all (λ x. says q.table.words a x.demand) q.table.openings) (list_all (says q.table.words a) q.demands) (rest-said s)) r.1),
      )
