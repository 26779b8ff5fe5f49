-- The steps in which a question grows: more terms in the list, a term that is blasted, a quantifier that is opened, a clause that is required,
-- and an entry that is done.
use Rattle.std.proofs.Common.{◌≡◌, ◌≢◌, ◌⊎◌, inl, inr, ℕ, ◌+◌, ◌<◌, ◌≤◌, ◌++◌, ◌&&◌, ◌||◌, Bool, true, false, nat_eq, List, [], ◌∷◌, length, take, drop, reverse, ℤ, Some, refl, sym, ◌∙◌, ap, subst, arith, get_or}
use Rattle.std.specs.Prelude.{slice_get, is_some}
use Rattle.std.specs.List.{All, AllPairs, Contains, list_all}
use Rattle.std.proofs.lemmas.Bool.{cases_lt}
use Rattle.std.proofs.lemmas.Option.{slice_get_within, get_or_from_slice_get}
use Rattle.std.proofs.lemmas.List.{length-append, reverse-append, take_more, take-append-drop, take-append-le, get_or_append_left, get_or_push}
use Rattle.std.proofs.lemmas.List.Elements.{All-push, Contains-append_left, All-head, All-tail, Contains-push_cases, Contains-push, Contains-get_or}
use Rattle.std.proofs.lemmas.List.Folds.{list_all-append, list_any-append}
use Rattle.std.proofs.lemmas.Grind.{flat_map-append}
use Rattle.hk_term.specs.Shape.{AllFitIn, IsDistinct, Grows}
use Rattle.hk_term.specs.declared.bounds.Bound.{Bound}
use Rattle.hk_term.specs.declared.node.Node.{Node}
use Rattle.hk_term.specs.declared.node.Node.TheVariants.{Select, ForAll}
use Rattle.hk_copy.specs.Reach.{Frees, AllPass}
use Rattle.hk_copy.proofs.ListLaws.{reach-older, free-older}
use Rattle.hk_copy.proofs.StepLaws.{grows-refl, longer-width}
use Rattle.hk_cnf.specs.Clauses.{clause_value, clauses_value}
use Rattle.hk_cnf.specs.Circuit.{Circuit}
use Rattle.hk_cnf.specs.Determined.{is_output}
use Rattle.hk_cnf.specs.Front.{IsFront}
use Rattle.hk_cnf.specs.Required.{required_of}
use Rattle.hk_blast.specs.Blasted.{Words, word_in, HasWord, IsMissing, Needs, places_of, input_places}
use Rattle.hk_blast.proofs.WordLists.{has_more, word_more}
use Rattle.hk_blast.proofs.BlastedLaws.{grown-blasted}
use Rattle.hk_blast.proofs.LongerLists.{blasted-longer, places-longer}
use Rattle.hk_inst.specs.declared.opening.Opening.{Opening}
use Rattle.hk_inst.specs.Demanded.{IsOpening}
use Rattle.hk_inst.specs.Questions.{Asked, says, all_said, IsChosen, AreChosen}
use Rattle.hk_inst.specs.Origins.{Arises}
use Rattle.hk_inst.specs.Growing.{IsOurs, ids_below, IsBase, AreOpened, AreRequired, IsMade, IsRequiring}
use Rattle.hk_inst.proofs.Tuples.{clash}
use Rattle.hk_inst.proofs.Members.{has-head, has-cases, has-either, has-behind}
use Rattle.hk_inst.proofs.QuestionFacts.{known-within}
use Rattle.hk_inst.proofs.Widening.{at-older, reach-longer, free-longer, opening-longer, all-chosen-longer, IsWider, demands-wider, mentioned-wider, arises-wider}
use Rattle.hk_inst.proofs.OurTerms.{ours-needs, arises-needs}

abbrev pub with_nodes : Asked → List Node → Asked
with_nodes q nodes = record q { nodes = nodes }

abbrev pub with_made : Asked → Circuit → Words → Asked
with_made q d words = record q { circuit = d; table = record q.table { words = words } }

abbrev pub with_circuit : Asked → Circuit → Asked
with_circuit q d = record q { circuit = d }

abbrev pub with_opening : Asked → Opening → Asked
with_opening q o = record q { table = record q.table { openings = q.table.openings ++ o ∷ [] } }

pub front-has : (n : ℕ) (words : Words) (t : ℕ) → HasWord (take n words) t → HasWord words t
front-has n words t h = subst (λ ws. HasWord ws t) (take-append-drop n words) (has_more t (take n words) (drop n words) h)

-- ---- more terms in the list

module _ (q : Asked) (longer : List Node) (g : Grows q.nodes longer) where
  more-nodes : IsWider q.nodes longer q.instances q.instances q.table q.table
  more-nodes = record { nodes_grow = g; more_instances = λ i c. c; reads = λ k t e. e; quantifiers = λ k t e. e; openings = λ o c. c }

  pub base-longer : (first next more done : ℕ) → IsBase q first next done → AllFitIn (reverse longer) → IsDistinct longer → next ≤ more → AllPass (ids_below more) longer → IsBase (with_nodes q longer) first more done
  base-longer first next more done h fit distinct le ids = record {
    fit = fit;
    distinct = distinct;
    goal_is = record {
      truth = longer-width q.nodes longer g q.goal goal-there ∙ h.goal_is.truth;
      one_width = λ id size other a b. h.goal_is.one_width id size other (free-older q.nodes longer g fit size id q.goal goal-there a) (free-older q.nodes longer g fit other id q.goal goal-there b);
      one_size = λ array size other a b. h.goal_is.one_size array size other (reach-older q.nodes longer g fit _ _ q.goal goal-there a) (reach-older q.nodes longer g fit _ _ q.goal goal-there b);
    };
    goal_first = λ size id a. h.goal_first size id (free-older q.nodes longer g fit size id q.goal goal-there a);
    first_next = omega (arith, h.first_next, le);
    ids = ids;
    circuit = h.circuit;
    blasted = blasted-longer q.nodes longer q.circuit q.table.words g h.blasted;
    of_goal = h.of_goal;
    ours = ours;
    arises = λ t has. arises-wider q.nodes longer g q.goal q.table.openings q.table.openings q.demands q.demands (λ o c. c) (λ d c. c) t (h.arises t has);
    done_there = h.done_there;
    places = λ t array size i has at. h.places t array size i has (at-older q.nodes longer g t _ (there t (front-has done q.table.words t has)) at);
    only = λ p l e. subst (λ ps. Contains ps p) (sym (places-longer q.nodes longer q.circuit q.table.words g h.blasted)) (h.only p l e);
  }
    where
      there : (t : ℕ) → HasWord q.table.words t → t < length q.nodes
      there = known-within q.nodes q.circuit q.table.words h.blasted

      goal-there : q.goal < length q.nodes
      goal-there = known-within q.nodes q.circuit q.table.words h.blasted q.goal h.of_goal

      wanted : (size id : ℕ) → (Frees q.nodes size id q.goal) ⊎ ((first ≤ id) × (size ≡ 64)) → (Frees longer size id q.goal) ⊎ ((first ≤ id) × (size ≡ 64))
      wanted size id (inl a) = inl (free-longer q.nodes longer g size id q.goal a)
      wanted size id (inr p) = inr p

      ours : (t : ℕ) → HasWord q.table.words t → IsOurs longer q.goal q.instances q.table first t
      ours t has = record {
        mentioned = mentioned-wider q.nodes longer q.instances q.instances q.table q.table more-nodes q.goal t (h.ours t has).mentioned;
        reads = λ array size r. reach-longer q.nodes longer g _ _ q.goal ((h.ours t has).reads array size (reach-older q.nodes longer g fit _ _ t (there t has) r));
        frees = λ size id r. wanted size id ((h.ours t has).frees size id (free-older q.nodes longer g fit size id t (there t has) r));
      }

  pub opened-longer : (first next limit done : ℕ) → IsBase q first next done → AreOpened q limit done → AreOpened (with_nodes q longer) limit done
  opened-longer first next limit done b h = record {
    opened = λ t body bound has at. h.opened t body bound has (at-older q.nodes longer g t _ (known-within q.nodes q.circuit q.table.words b.blasted t (front-has done q.table.words t has)) at);
    openings_are = λ o c. ((h.openings_are o c).0, opening-longer q.nodes longer g o (h.openings_are o c).1);
    once = h.once;
    chosen = all-chosen-longer q.nodes longer g q.goal limit (reverse q.table.openings) h.chosen;
  }

  pub required-longer : AreRequired q → AreRequired (with_nodes q longer)
  required-longer h = record {
    openings_known = h.openings_known;
    demands_known = h.demands_known;
    demands = demands-wider q.nodes longer q.instances q.instances q.table q.table more-nodes q.instances q.demands h.demands;
    required = h.required;
    count = h.count;
  }

-- ---- a term that is blasted

output-before : (c d : Circuit) → IsFront c d → (p : ℕ) → is_output d.gates p ≡ false → is_output c.gates p ≡ false
output-before c d f p e =
    let whole : is_output (take (length c.gates) d.gates ++ drop (length c.gates) d.gates) p ≡ false = ap (λ gs. is_output gs p) (take-append-drop (length c.gates) d.gates) ∙ e in
    let split : (is_output (take (length c.gates) d.gates) p || is_output (drop (length c.gates) d.gates) p) ≡ false =
    sym (list_any-append (λ g. nat_eq p g.1.output) (take (length c.gates) d.gates) (drop (length c.gates) d.gates)) ∙ whole in
    ap (λ gs. is_output gs p) (sym f.gates) ∙ or-first (is_output (take (length c.gates) d.gates) p) (is_output (drop (length c.gates) d.gates) p) split
  where
    or-first : (a b : Bool) → (a || b) ≡ false → a ≡ false
    or-first false b x = refl
    or-first true b x = clash x

module _ (q : Asked) (d : Circuit) (words : Words) (t : ℕ) (m : IsMade q.nodes q.circuit d q.table.words words t) where
  word-kept : (k : ℕ) → HasWord q.table.words k → word_in words k ≡ word_in q.table.words k
  word-kept k has = ap (λ ws. word_in ws k) m.lengthens.is ∙ word_more k q.table.words m.lengthens.more has

  pub known-more : (k : ℕ) → HasWord q.table.words k → HasWord words k
  known-more k has = subst (λ ws. HasWord ws k) (sym m.lengthens.is) (has_more k q.table.words m.lengthens.more has)

  more-words : IsWider q.nodes q.nodes q.instances q.instances q.table (record q.table { words = words })
  more-words = record { nodes_grow = grows-refl q.nodes; more_instances = λ i c. c; reads = λ k u e. e; quantifiers = λ k u e. e; openings = λ o c. c }

  front-same : (done : ℕ) → done ≤ length q.table.words → take done words ≡ take done q.table.words
  front-same done l = ap (take done) m.lengthens.is ∙ take-append-le done q.table.words m.lengthens.more l

  pub base-made : (first next done : ℕ) → IsBase q first next done → IsOurs q.nodes q.goal q.instances q.table first t → Arises q.nodes q.goal q.table.openings q.demands t → IsBase (with_made q d words) first next done
  base-made first next done h mine from = record {
    fit = h.fit;
    distinct = h.distinct;
    goal_is = h.goal_is;
    goal_first = h.goal_first;
    first_next = h.first_next;
    ids = h.ids;
    circuit = m.circuit;
    blasted = m.table;
    of_goal = known-more q.goal h.of_goal;
    ours = λ k has. wider k (by k (m.only k has));
    arises = λ k has. origin k (m.only k has);
    done_there = omega (arith, h.done_there, ap length m.lengthens.is, length-append q.table.words m.lengthens.more);
    places = λ k array size i has at. known-more i (h.places k array size i (subst (λ ws. HasWord ws k) (front-same done h.done_there) has) at);
    only = only;
  }
    where
      wider : (k : ℕ) → IsOurs q.nodes q.goal q.instances q.table first k → IsOurs q.nodes q.goal q.instances (record q.table { words = words }) first k
      wider k o = record {
        mentioned = mentioned-wider q.nodes q.nodes q.instances q.instances q.table (record q.table { words = words }) more-words q.goal k o.mentioned;
        reads = o.reads;
        frees = o.frees;
      }

      by : (k : ℕ) → (HasWord q.table.words k) ⊎ (Needs q.nodes t k) → IsOurs q.nodes q.goal q.instances q.table first k
      by k (inl has) = h.ours k has
      by k (inr needs) = ours-needs q.nodes q.goal q.instances q.table first t k needs mine

      origin : (k : ℕ) → (HasWord q.table.words k) ⊎ (Needs q.nodes t k) → Arises q.nodes q.goal q.table.openings q.demands k
      origin k (inl has) = h.arises k has
      origin k (inr needs) = arises-needs q.nodes q.goal q.table.openings q.demands t k needs from

      only : (p : ℕ) → p < d.vars → is_output d.gates p ≡ false → Contains (input_places q.nodes words) p
      only p l e = pick (cases_lt p q.circuit.vars)
        where
          pick : (p < q.circuit.vars) ⊎ (q.circuit.vars ≤ p) → Contains (input_places q.nodes words) p
          pick (inl b) =
              subst (λ ws. Contains (input_places q.nodes ws) p) (sym m.lengthens.is)
              (subst (λ ps. Contains ps p) (sym (flat_map-append (places_of q.nodes) q.table.words m.lengthens.more))
              (Contains-append_left (input_places q.nodes q.table.words) (input_places q.nodes m.lengthens.more) p (h.only p b (output-before q.circuit d m.front p e))))
          pick (inr b) = m.inputs p b l e

  pub opened-made : (limit done : ℕ) → done ≤ length q.table.words → AreOpened q limit done → AreOpened (with_made q d words) limit done
  opened-made limit done l h = record {
    opened = λ k body bound has at. h.opened k body bound (subst (λ ws. HasWord ws k) (front-same done l) has) at;
    openings_are = λ o c. (subst (λ ws. HasWord ws o.term) (sym (front-same done l)) (h.openings_are o c).0, (h.openings_are o c).1);
    once = h.once;
    chosen = h.chosen;
  }

  pub required-made : HasWord q.table.words q.goal → AreRequired q → AreRequired (with_made q d words)
  required-made goal h = record {
    openings_known = λ k x l. known-more (get_or q.table.openings k x).demand (h.openings_known k x l);
    demands_known = λ k x l. known-more (get_or q.demands k x) (h.demands_known k x l);
    demands = demands-wider q.nodes q.nodes q.instances q.instances q.table (record q.table { words = words }) more-words q.instances q.demands h.demands;
    required = λ a. ap (λ cs. clauses_value a cs) m.beside ∙ h.required a ∙ same a;
    count = ap length m.beside ∙ h.count;
  }
    where
      says-same : (a : List Bool) (k : ℕ) → HasWord q.table.words k → says q.table.words a k ≡ says words a k
      says-same a k has = ap (clause_value a) (sym (word-kept k has))

      all-same : {X : Type 0} (f g : X → Bool) (xs : List X) → All (λ x. f x ≡ g x) xs → list_all f xs ≡ list_all g xs
      all-same f g [] e = refl
      all-same f g (x ∷ xs) e = λ i. All-head (λ y. f y ≡ g y) x xs e i && all-same f g xs (All-tail (λ y. f y ≡ g y) x xs e) i

      same : (a : List Bool) → all_said q a ≡ all_said (with_made q d words) a
      same a = λ i. says-same a q.goal goal i
          && (all-same (λ o. says q.table.words a o.demand) (λ o. says words a o.demand) q.table.openings (λ k x l. says-same a (get_or q.table.openings k x).demand (h.openings_known k x l)) i
          && all-same (says q.table.words a) (says words a) q.demands (λ k x l. says-same a (get_or q.demands k x) (h.demands_known k x l)) i)

-- ---- a clause that is required

pub base-requiring : (q : Asked) (d : Circuit) (clause : List ℤ) → IsRequiring q.circuit d clause → (first next done : ℕ) → IsBase q first next done → IsBase (with_circuit q d) first next done
base-requiring q d clause r first next done h = record {
  fit = h.fit;
  distinct = h.distinct;
  goal_is = h.goal_is;
  goal_first = h.goal_first;
  first_next = h.first_next;
  ids = h.ids;
  circuit = r.circuit;
  blasted = grown-blasted q.nodes q.circuit d q.table.words (omega (arith, r.vars)) (λ l b v. r.keeps l v) h.blasted;
  of_goal = h.of_goal;
  ours = h.ours;
  arises = h.arises;
  done_there = h.done_there;
  places = h.places;
  only = λ p l e. h.only p (omega (arith, l, r.vars)) (sym (ap (λ gs. is_output gs p) r.gates) ∙ e);
}

clauses-push : (a : List Bool) (xs : List (List ℤ)) (x : List ℤ) → clauses_value a (xs ++ x ∷ []) ≡ (clauses_value a xs && (clause_value a x && true))
clauses-push a xs x = list_all-append (clause_value a) xs (x ∷ [])

-- a quantifier's required term, of which the literal was required
pub required-opened : (q : Asked) (d : Circuit) (o : Opening) → AreRequired q → HasWord q.table.words o.demand → IsRequiring q.circuit d (word_in q.table.words o.demand) → AreRequired (with_opening (with_circuit q d) o)
required-opened q d o h known r = record {
  openings_known = All-push (λ p. HasWord q.table.words p.demand) q.table.openings o h.openings_known known;
  demands_known = h.demands_known;
  demands = demands-wider q.nodes q.nodes q.instances q.instances q.table (with_opening q o).table wider q.instances q.demands h.demands;
  required = λ a.
      ap (clauses_value a) r.beside ∙ clauses-push a (required_of q.circuit) (word_in q.table.words o.demand) ∙ ap (λ b. b && (says q.table.words a o.demand && true)) (h.required a)
      ∙ turned (says q.table.words a q.goal) (list_all (λ p. says q.table.words a p.demand) q.table.openings) (list_all (says q.table.words a) q.demands) (says q.table.words a o.demand)
      ∙ ap (λ b. says q.table.words a q.goal && (b && list_all (says q.table.words a) q.demands)) (sym (list_all-append (λ p. says q.table.words a p.demand) q.table.openings (o ∷ [])));
  count = omega (arith, ap length r.beside, length-append (required_of q.circuit) (word_in q.table.words o.demand ∷ []), h.count, length-append q.table.openings (o ∷ []));
}
  where
    turned : (g x y z : Bool) → ((g && (x && y)) && (z && true)) ≡ (g && ((x && (z && true)) && y))
    turned true true true z = sym (and-true (z && true))
      where
        and-true : (b : Bool) → (b && true) ≡ b
        and-true true = refl
        and-true false = refl
    turned true true false true = refl
    turned true true false false = refl
    turned true false y z = refl
    turned false x y z = refl

    wider : IsWider q.nodes q.nodes q.instances q.instances q.table (with_opening q o).table
    wider = record { nodes_grow = grows-refl q.nodes; more_instances = λ i c. c; reads = λ k u e. e; quantifiers = λ k u e. e; openings = λ p c. Contains-append_left q.table.openings (o ∷ []) p c }

-- ---- a quantifier that is opened

pub base-opening : (q : Asked) (o : Opening) (first next done : ℕ) → IsBase q first next done → IsBase (with_opening q o) first next done
base-opening q o first next done h = record {
  fit = h.fit;
  distinct = h.distinct;
  goal_is = h.goal_is;
  goal_first = h.goal_first;
  first_next = h.first_next;
  ids = h.ids;
  circuit = h.circuit;
  blasted = h.blasted;
  of_goal = h.of_goal;
  ours = λ t has. record {
    mentioned = mentioned-wider q.nodes q.nodes q.instances q.instances q.table (with_opening q o).table wider q.goal t (h.ours t has).mentioned;
    reads = (h.ours t has).reads;
    frees = (h.ours t has).frees;
  };
  arises = λ t has. arises-wider q.nodes q.nodes (grows-refl q.nodes) q.goal q.table.openings (q.table.openings ++ o ∷ []) q.demands q.demands (λ p c. Contains-append_left q.table.openings (o ∷ []) p c) (λ d c. c) t (h.arises t has);
  done_there = h.done_there;
  places = h.places;
  only = h.only;
}
  where
    wider : IsWider q.nodes q.nodes q.instances q.instances q.table (with_opening q o).table
    wider = record { nodes_grow = grows-refl q.nodes; more_instances = λ i c. c; reads = λ k u e. e; quantifiers = λ k u e. e; openings = λ p c. Contains-append_left q.table.openings (o ∷ []) p c }

-- ---- an entry that is done

-- the terms of one entry more
pub next-entry : (words : Words) (done : ℕ) (e : ℕ × List ℤ) → slice_get words done ≡ Some e → take (done + 1) words ≡ take done words ++ e ∷ []
next-entry words done e at = take_more words done e (slice_get_within words done e at) ∙ ap (λ x. take done words ++ x ∷ []) (get_or_from_slice_get words done e e at)

pub next-cases : (words : Words) (done : ℕ) (e : ℕ × List ℤ) → slice_get words done ≡ Some e → (t : ℕ) → HasWord (take (done + 1) words) t → (HasWord (take done words) t) ⊎ (t ≡ e.0)
next-cases words done e at t has = by (has-either (take done words) (e ∷ []) t (subst (λ ws. HasWord ws t) (next-entry words done e at) has))
  where
    by : (HasWord (take done words) t) ⊎ (HasWord (e ∷ []) t) → (HasWord (take done words) t) ⊎ (t ≡ e.0)
    by (inl h) = inl h
    by (inr h) = inr (last (has-cases e [] t h))
      where
        last : (t ≡ e.0) ⊎ (HasWord [] t) → t ≡ e.0
        last (inl d) = d
        last (inr d) = clash (sym d)

pub base-done : (q : Asked) (first next done : ℕ) (e : ℕ × List ℤ) → slice_get q.table.words done ≡ Some e → ((array size i : ℕ) → slice_get q.nodes e.0 ≡ Some (Select array size i) → HasWord q.table.words i) → IsBase q first next done → IsBase q first next (done + 1)
base-done q first next done e at place h = record {
  fit = h.fit;
  distinct = h.distinct;
  goal_is = h.goal_is;
  goal_first = h.goal_first;
  first_next = h.first_next;
  ids = h.ids;
  circuit = h.circuit;
  blasted = h.blasted;
  of_goal = h.of_goal;
  ours = h.ours;
  arises = h.arises;
  done_there = let l = slice_get_within q.table.words done e at in omega (arith, l);
  places = λ t array size i has node. by t array size i node (next-cases q.table.words done e at t has);
  only = h.only;
}
  where
    by : (t array size i : ℕ) → slice_get q.nodes t ≡ Some (Select array size i) → (HasWord (take done q.table.words) t) ⊎ (t ≡ e.0) → HasWord q.table.words i
    by t array size i node (inl has) = h.places t array size i has node
    by t array size i node (inr same) = place array size i (ap (slice_get q.nodes) (sym same) ∙ node)

pub opened-passed : (q : Asked) (limit done : ℕ) (e : ℕ × List ℤ) → slice_get q.table.words done ≡ Some e → ((body : ℕ) (bound : List Bound) → slice_get q.nodes e.0 ≡ Some (ForAll bound body) → ⊥) → AreOpened q limit done → AreOpened q limit (done + 1)
opened-passed q limit done e at other h = record {
  opened = λ t body bound has node. by t body bound node (next-cases q.table.words done e at t has);
  openings_are = λ o c. (subst (λ ws. HasWord ws o.term) (sym (next-entry q.table.words done e at)) (has_more o.term (take done q.table.words) (e ∷ []) (h.openings_are o c).0), (h.openings_are o c).1);
  once = h.once;
  chosen = h.chosen;
}
  where
    by : (t body : ℕ) (bound : List Bound) → slice_get q.nodes t ≡ Some (ForAll bound body) → (HasWord (take done q.table.words) t) ⊎ (t ≡ e.0) → (o : Opening) × (Contains q.table.openings o) × (o.term ≡ t)
    by t body bound node (inl has) = h.opened t body bound has node
    by t body bound node (inr same) = absurd (other body bound (ap (slice_get q.nodes) (sym same) ∙ node))

pub opened-more : (q : Asked) (limit next done : ℕ) (e : ℕ × List ℤ) (o : Opening) → slice_get q.table.words done ≡ Some e → o.term ≡ e.0 → IsMissing (take done q.table.words) e.0 → IsOpening q.nodes o
    → (c : IsChosen q.nodes q.goal next (reverse q.table.openings) o) → c.first ≡ limit → AreOpened q limit done → AreOpened (with_opening q o) next (done + 1)
opened-more q limit next done e o at term missing its c first h = record {
  opened = λ t body bound has node. by t body bound node (next-cases q.table.words done e at t has);
  openings_are = λ p d. each p (Contains-push_cases q.table.openings o p d);
  once = once;
  chosen = subst (AreChosen q.nodes q.goal next) (sym (reverse-append q.table.openings (o ∷ []))) (c, subst (λ l. AreChosen q.nodes q.goal l (reverse q.table.openings)) (sym first) h.chosen);
}
  where
    by : (t body : ℕ) (bound : List Bound) → slice_get q.nodes t ≡ Some (ForAll bound body) → (HasWord (take done q.table.words) t) ⊎ (t ≡ e.0) → (p : Opening) × (Contains (q.table.openings ++ o ∷ []) p) × (p.term ≡ t)
    by t body bound node (inl has) = let r = h.opened t body bound has node in (r.0, Contains-append_left q.table.openings (o ∷ []) r.0 r.1, r.2)
    by t body bound node (inr same) = (o, Contains-push q.table.openings o, term ∙ sym same)

    later : (t : ℕ) → HasWord (take done q.table.words) t → HasWord (take (done + 1) q.table.words) t
    later t has = subst (λ ws. HasWord ws t) (sym (next-entry q.table.words done e at)) (has_more t (take done q.table.words) (e ∷ []) has)

    own : HasWord (take (done + 1) q.table.words) o.term
    own = subst (λ ws. HasWord ws o.term) (sym (next-entry q.table.words done e at)) (has-behind (take done q.table.words) (e ∷ []) o.term (subst (HasWord (e ∷ [])) (sym term) (has-head e [])))

    each : (p : Opening) → (Contains q.table.openings p) ⊎ (o ≡ p) → (HasWord (take (done + 1) q.table.words) p.term) × (IsOpening q.nodes p)
    each p (inl d) = (later p.term (h.openings_are p d).0, (h.openings_are p d).1)
    each p (inr d) = subst (λ x. (HasWord (take (done + 1) q.table.words) x.term) × (IsOpening q.nodes x)) d (own, its)

    apart : (p : Opening) → Contains q.table.openings p → p.term ≢ o.term
    apart p d same = clash (sym (subst (HasWord (take done q.table.words)) (same ∙ term) (h.openings_are p d).0) ∙ ap is_some missing)

    once : AllPairs (λ x y. x.term ≢ y.term) (q.table.openings ++ o ∷ [])
    once i j x l b = pick (cases_lt j (length q.table.openings))
      where
        n : length (q.table.openings ++ o ∷ []) ≡ length q.table.openings + 1
        n = length-append q.table.openings (o ∷ [])

        pick : (j < length q.table.openings) ⊎ (length q.table.openings ≤ j) → (get_or (q.table.openings ++ o ∷ []) i x).term ≢ (get_or (q.table.openings ++ o ∷ []) j x).term
        pick (inl s) =
            subst (λ (z : Opening × Opening). z.0.term ≢ z.1.term)
            (λ k. (sym (get_or_append_left q.table.openings (o ∷ []) x i (omega (arith, l, s))) k, sym (get_or_append_left q.table.openings (o ∷ []) x j s) k))
            (h.once i j x l s)
        pick (inr s) =
            let last : length q.table.openings ≡ j = omega (arith, s, b, n) in
            let before : i < length q.table.openings = omega (arith, l, last) in
            subst (λ (z : Opening × Opening). z.0.term ≢ z.1.term)
            (λ k. (sym (get_or_append_left q.table.openings (o ∷ []) x i before) k, sym (get_or_push q.table.openings o x j last) k))
            (apart (get_or q.table.openings i x) (Contains-get_or q.table.openings i x before))
