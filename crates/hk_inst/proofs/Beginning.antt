-- A question at its start, and once its reads and quantifiers are numbered.
use Rattle.std.proofs.Common.{◌≡◌, ◌⊎◌, inl, inr, ℕ, ◌+◌, ◌≤◌, ◌++◌, ◌&&◌, Bool, true, false, List, [], ◌∷◌, length, take, reverse, Some, refl, sym, ◌∙◌, ap, subst, arith}
use Rattle.std.specs.Prelude.{slice_get}
use Rattle.std.specs.List.{Contains}
use Rattle.std.proofs.Math.Seq.{take-length}
use Rattle.std.proofs.lemmas.List.{append-nil}
use Rattle.hk_term.specs.Shape.{AllFitIn, IsDistinct}
use Rattle.hk_term.specs.declared.bounds.Bound.{Bound}
use Rattle.hk_term.specs.declared.node.Node.{Node}
use Rattle.hk_term.specs.declared.node.Node.TheVariants.{ForAll}
use Rattle.hk_copy.specs.Reach.{Frees, AllPass}
use Rattle.hk_copy.specs.Reach.Reaches.{own}
use Rattle.hk_copy.specs.Reach.Frees.{itself}
use Rattle.hk_cnf.specs.Clauses.{clause_value, clauses_value}
use Rattle.hk_cnf.specs.Circuit.{Circuit}
use Rattle.hk_cnf.specs.Required.{required_of}
use Rattle.hk_blast.specs.Blasted.{Words, word_in, HasWord, Needs}
use Rattle.hk_inst.specs.declared.instance.Instance.{Instance}
use Rattle.hk_inst.specs.declared.opening.Opening.{Opening}
use Rattle.hk_inst.specs.Inputs.{Table, is_select, is_quantifier, AreNumbered, IsNumbering}
use Rattle.hk_inst.specs.Inputs.IsNumbering.{none, step}
use Rattle.hk_inst.specs.Demanded.{IsMentioned}
use Rattle.hk_inst.specs.Demanded.IsMentioned.{goal as its_goal, part as its_part, place as its_place, refuted as its_refuted, added as its_added}
use Rattle.hk_inst.specs.Questions.{Asked, AreDemands, IsQuestion}
use Rattle.hk_inst.specs.Origins.Arises.{goal as arises_goal}
use Rattle.hk_inst.specs.Origins.{Arises}
use Rattle.hk_inst.specs.Growing.{IsGoal, IsOurs, ids_below, IsBase, IsGrowing, IsMade, IsRequiring, AreStepped}
use Rattle.hk_inst.specs.States.{kind_of}
use Rattle.hk_inst.proofs.Tuples.{clash}
use Rattle.hk_inst.proofs.Members.{numbered-all, numbered-are, numbered-kind, quantifier-node}
use Rattle.hk_inst.proofs.WideStands.{free-below}
use Rattle.hk_inst.proofs.OurTerms.{ours-needs, arises-needs}
use Rattle.hk_inst.proofs.GrowthSteps.{base-requiring}

abbrev pub empty_circuit : Circuit
empty_circuit = record { vars = 0; clauses = []; gates = [] }

abbrev pub at_start : List Node → ℕ → Circuit → Words → Asked
at_start nodes goal d words = record { nodes = nodes; goal = goal; circuit = d; table = record { words = words; reads = []; quantifiers = []; openings = [] }; instances = []; demands = [] }

nothing-required : required_of empty_circuit ≡ []
unfolding required_of
nothing-required = refl

module _ (nodes : List Node) (goal : ℕ) (c d : Circuit) (words : Words) (first : ℕ) where
  pub begun : AllFitIn (reverse nodes) → IsDistinct nodes → IsGoal nodes goal → AllPass (ids_below first) nodes → IsMade nodes empty_circuit c [] words goal → IsRequiring c d (word_in words goal) → IsGrowing (at_start nodes goal d words) first first 0
  begun fit distinct is ids m r = record {
    base = base-requiring (at_start nodes goal c words) d (word_in words goal) r first first 0 base;
    opened = record { opened = λ t inner bound has at. clash (sym has); openings_are = λ o n. absurd (omega (arith, n.1)); once = λ i j x a b. absurd (omega (arith, b)); chosen = tt };
    required = record {
      openings_known = λ k x l. absurd (omega (arith, l));
      demands_known = λ k x l. absurd (omega (arith, l));
      demands = tt;
      required = λ a. ap (clauses_value a) asked ∙ both-true (clause_value a (word_in words goal));
      count = ap length asked;
    };
  }
    where
      asked : required_of d ≡ word_in words goal ∷ []
      asked = r.beside ∙ ap (λ cs. cs ++ word_in words goal ∷ []) (m.beside ∙ nothing-required)

      both-true : (b : Bool) → (b && true) ≡ (b && (true && true))
      both-true true = refl
      both-true false = refl

      own-goal : IsOurs nodes goal [] (at_start nodes goal c words).table first goal
      own-goal = record { mentioned = its_goal; reads = λ array size x. x; frees = λ size id x. inl x }

      ours : (t : ℕ) → (HasWord [] t) ⊎ (Needs nodes goal t) → IsOurs nodes goal [] (at_start nodes goal c words).table first t
      ours t (inl has) = clash (sym has)
      ours t (inr needs) = ours-needs nodes goal [] (at_start nodes goal c words).table first goal t needs own-goal

      origin : (t : ℕ) → (HasWord [] t) ⊎ (Needs nodes goal t) → Arises nodes goal [] [] t
      origin t (inl has) = clash (sym has)
      origin t (inr needs) = arises-needs nodes goal [] [] goal t needs arises_goal

      base : IsBase (at_start nodes goal c words) first first 0
      base = record {
        fit = fit;
        distinct = distinct;
        goal_is = is;
        goal_first = λ size id x. free-below nodes first size id goal ids x;
        first_next = omega arith;
        ids = ids;
        circuit = m.circuit;
        blasted = m.table;
        of_goal = m.there;
        ours = λ t has. ours t (m.only t has);
        arises = λ t has. origin t (m.only t has);
        done_there = omega arith;
        places = λ t array size i has at. clash (sym has);
        only = λ p l e. m.inputs p (omega arith) l e;
      }

-- ---- numbers

abbrev pub with_numbers : Asked → List ℕ → List ℕ → Asked
with_numbers q reads quantifiers = record q { table = record q.table { reads = reads; quantifiers = quantifiers } }

mentioned-numbered : (nodes : List Node) (goal : ℕ) (table : Table) (reads quantifiers : List ℕ) (t : ℕ) → IsMentioned nodes goal [] table t → IsMentioned nodes goal [] (record table { reads = reads; quantifiers = quantifiers }) t
mentioned-numbered nodes goal table reads quantifiers _ its_goal = its_goal
mentioned-numbered nodes goal table reads quantifiers t (its_part u k n at part m) = its_part u k n at part (mentioned-numbered nodes goal table reads quantifiers u m)
mentioned-numbered nodes goal table reads quantifiers t (its_place u array size i at m) = its_place u array size i at (mentioned-numbered nodes goal table reads quantifiers u m)
mentioned-numbered nodes goal table reads quantifiers t (its_refuted o c m) = its_refuted o c (mentioned-numbered nodes goal table reads quantifiers o.term m)
mentioned-numbered nodes goal table reads quantifiers t (its_added i d c h) = absurd (omega (arith, c.1))

demands-numbered : (nodes : List Node) (table other : Table) (ds : List ℕ) → AreDemands nodes table [] ds → AreDemands nodes other [] ds
demands-numbered nodes table other [] h = tt
demands-numbered nodes table other (d ∷ ds) h = absurd h

-- a question without instances, whose reads and quantifiers are numbered
pub numbered-growing : (q : Asked) (first next done : ℕ) (reads quantifiers : List ℕ) → q.instances ≡ [] → IsGrowing q first next done → IsGrowing (with_numbers q reads quantifiers) first next done
numbered-growing q first next done reads quantifiers none_added h = record {
  base = record {
    fit = h.base.fit;
    distinct = h.base.distinct;
    goal_is = h.base.goal_is;
    goal_first = h.base.goal_first;
    first_next = h.base.first_next;
    ids = h.base.ids;
    circuit = h.base.circuit;
    blasted = h.base.blasted;
    of_goal = h.base.of_goal;
    ours = λ t has. record { mentioned = again t (h.base.ours t has).mentioned; reads = (h.base.ours t has).reads; frees = (h.base.ours t has).frees };
    arises = h.base.arises;
    done_there = h.base.done_there;
    places = h.base.places;
    only = h.base.only;
  };
  opened = record { opened = h.opened.opened; openings_are = h.opened.openings_are; once = h.opened.once; chosen = h.opened.chosen };
  required = record {
    openings_known = h.required.openings_known;
    demands_known = h.required.demands_known;
    demands = subst (λ is. AreDemands q.nodes (with_numbers q reads quantifiers).table is q.demands) (sym none_added)
        (demands-numbered q.nodes q.table (with_numbers q reads quantifiers).table q.demands (subst (λ is. AreDemands q.nodes q.table is q.demands) none_added h.required.demands));
    required = h.required.required;
    count = h.required.count;
  };
}
  where
    again : (t : ℕ) → IsMentioned q.nodes q.goal q.instances q.table t → IsMentioned q.nodes q.goal q.instances (with_numbers q reads quantifiers).table t
    again t m =
        subst (λ is. IsMentioned q.nodes q.goal is (with_numbers q reads quantifiers).table t) (sym none_added)
        (mentioned-numbered q.nodes q.goal q.table reads quantifiers t (subst (λ is. IsMentioned q.nodes q.goal is q.table t) none_added m))

pub first-step : (q : Asked) → q.instances ≡ [] → AreNumbered q.nodes is_select q.table.words q.table.reads → AreNumbered q.nodes is_quantifier q.table.words q.table.quantifiers → AreStepped q
first-step q none_added reads quantifiers = record {
  steps = q.table.words ∷ [];
  steps_are = sym (append-nil q.table.words);
  each_step = ap (λ is. 1 + length is) (sym none_added);
  reads = subst (IsNumbering q.nodes is_select (q.table.words ∷ [])) (append-nil q.table.reads) (step reads none);
  quantifiers = subst (IsNumbering q.nodes is_quantifier (q.table.words ∷ [])) (append-nil q.table.quantifiers) (step quantifiers none);
}

-- what is kept between calls is a question
pub question-of : (q : Asked) (first next : ℕ) → IsGrowing q first next (length q.table.words) → AreStepped q → IsQuestion q
question-of q first next h s = record {
  fit = h.base.fit;
  distinct = h.base.distinct;
  truth = h.base.goal_is.truth;
  circuit = h.base.circuit;
  blasted = h.base.blasted;
  table = record {
    of_goal = h.base.of_goal;
    mentions = λ t has. (h.base.ours t has).mentioned;
    steps = s.steps;
    steps_are = s.steps_are;
    each_step = s.each_step;
    reads = s.reads;
    quantifiers = s.quantifiers;
    opened = λ t c. opens t c (quantifier-node (slice_get q.nodes t) (numbered-kind q.nodes is_quantifier s.quantifiers t c));
    openings_are = λ o c. (numbers o c, (h.opened.openings_are o c).1);
    once = h.opened.once;
  };
  places = λ t array size i at has. h.base.places t array size i (all-done t has) at;
  openings_known = h.required.openings_known;
  demands_known = h.required.demands_known;
  demands = h.required.demands;
  required = h.required.required;
  count = h.required.count;
  one_width = λ t s size other id a b at there. widths size other id ((h.base.ours t a).frees size id (itself _ at (refl, refl))) ((h.base.ours s b).frees other id (itself _ there (refl, refl)));
  one_size = λ t s array size other i j a b at there. h.base.goal_is.one_size array size other ((h.base.ours t a).reads array size (own _ at (refl, refl))) ((h.base.ours s b).reads array other (own _ there (refl, refl)));
  limit = next;
  chosen = h.opened.chosen;
  only = h.base.only;
}
  where
    all-done : (t : ℕ) → HasWord q.table.words t → HasWord (take (length q.table.words) q.table.words) t
    all-done t has = subst (λ ws. HasWord ws t) (sym (take-length q.table.words)) has

    known : (t : ℕ) → Contains q.table.quantifiers t → HasWord q.table.words t
    known t c = subst (λ ws. HasWord ws t) (sym s.steps_are) (numbered-are q.nodes is_quantifier s.quantifiers t c)

    opens : (t : ℕ) → Contains q.table.quantifiers t → (bound : List Bound) × (inner : ℕ) × (slice_get q.nodes t ≡ Some (ForAll bound inner)) → (o : Opening) × (Contains q.table.openings o) × (o.term ≡ t)
    opens t c (bound, inner, at) = h.opened.opened t inner bound (all-done t (known t c)) at

    numbers : (o : Opening) → Contains q.table.openings o → Contains q.table.quantifiers o.term
    numbers o c =
        let r = h.opened.openings_are o c in
        numbered-all q.nodes is_quantifier s.quantifiers o.term (subst (λ ws. HasWord ws o.term) (take-length q.table.words ∙ s.steps_are) r.0) (ap is_quantifier r.1.at)

    widths : (size other id : ℕ) → (Frees q.nodes size id q.goal) ⊎ ((first ≤ id) × (size ≡ 64)) → (Frees q.nodes other id q.goal) ⊎ ((first ≤ id) × (other ≡ 64)) → size ≡ other
    widths size other id (inl a) (inl b) = h.base.goal_is.one_width id size other a b
    widths size other id (inl a) (inr b) = let low = h.base.goal_first size id a in absurd (omega (arith, low, b.0))
    widths size other id (inr a) (inl b) = let low = h.base.goal_first other id b in absurd (omega (arith, low, a.0))
    widths size other id (inr a) (inr b) = a.1 ∙ sym b.1

pub started : (nodes : List Node) (goal : ℕ) (d : Circuit) (words : Words) (first : ℕ) (rs qs : List ℕ) (os : List Opening) (is : List Instance) (ds : List ℕ) → rs ≡ [] → qs ≡ [] → os ≡ [] → is ≡ [] → ds ≡ []
    → IsGrowing (at_start nodes goal d words) first first 0 → IsGrowing (record { nodes = nodes; goal = goal; circuit = d; table = record { words = words; reads = rs; quantifiers = qs; openings = os }; instances = is; demands = ds }) first first 0
started nodes goal d words first rs qs os is ds a b e f g h =
    subst (λ q. IsGrowing q first first 0) {x = at_start nodes goal d words} {y = record { nodes = nodes; goal = goal; circuit = d; table = record { words = words; reads = rs; quantifiers = qs; openings = os }; instances = is; demands = ds }}
    (λ i. record { nodes = nodes; goal = goal; circuit = d; table = record { words = words; reads = sym a i; quantifiers = sym b i; openings = sym e i }; instances = sym f i; demands = sym g i }) h

pub reads-numbered : (nodes : List Node) (words : Words) (terms : List ℕ) → AreNumbered nodes (kind_of true) words terms → AreNumbered nodes is_select words terms
reads-numbered nodes words terms h = record { rising = h.rising; are = h.are; all = h.all }

pub quantifiers-numbered : (nodes : List Node) (words : Words) (terms : List ℕ) → AreNumbered nodes (kind_of false) words terms → AreNumbered nodes is_quantifier words terms
quantifiers-numbered nodes words terms h = record { rising = h.rising; are = h.are; all = h.all }
