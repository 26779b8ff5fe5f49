-- The steps in which an instance is added: it is one of the instances, its required term is blasted and required, and the terms that came in
-- have their numbers.
use Rattle.std.proofs.Common.{◌≡◌, ℕ, ◌<◌, ◌++◌, ◌&&◌, Bool, true, false, List, [], ◌∷◌, length, drop, reverse, Some, Option, refl, sym, ◌∙◌, ap, subst, arith}
use Rattle.std.specs.Prelude.{slice_get}
use Rattle.std.specs.List.{list_all, flat_map}
use Rattle.std.proofs.lemmas.List.{length-append, append_assoc, append-nil, take-append-drop}
use Rattle.std.proofs.lemmas.List.Elements.{All-push, Contains-append_left, Contains-push}
use Rattle.std.proofs.lemmas.List.Folds.{list_all-append}
use Rattle.std.proofs.lemmas.Grind.{flat_map-append}
use Rattle.std.proofs.Math.Seq.{take-length}
use Rattle.hk_term.specs.Shape.{AllFitIn, IsDistinct, Grows, width}
use Rattle.hk_term.proofs.Interning.{slice_get-append}
use Rattle.hk_term.specs.declared.node.Node.{Node}
use Rattle.hk_term.proofs.TermLists.{holds}
use Rattle.hk_copy.specs.Reach.{AllPass}
use Rattle.hk_copy.specs.Reach.Reaches.{own}
use Rattle.hk_copy.proofs.StepLaws.{grows-refl}
use Rattle.hk_cnf.specs.Clauses.{clause_value, clauses_value}
use Rattle.hk_cnf.specs.Circuit.{Circuit}
use Rattle.hk_cnf.specs.Required.{required_of}
use Rattle.hk_blast.specs.Blasted.{Words, HasWord, word_in, AreBlasted}
use Rattle.hk_blast.proofs.WordLists.{get_more, has_more}
use Rattle.hk_inst.specs.declared.instance.Instance.{Instance}
use Rattle.hk_inst.specs.declared.instance.Instance.TheVariants.{Pair, Tuple}
use Rattle.hk_inst.specs.declared.subject.Subject.{Subject}
use Rattle.hk_inst.specs.declared.subject.Subject.TheVariants.{Reads}
use Rattle.hk_inst.specs.Adding.{IsSubject, Lengthened}
use Rattle.hk_inst.specs.Inputs.{Table, is_select, is_quantifier, AreNumbered, IsNumbering}
use Rattle.hk_inst.specs.Inputs.IsNumbering.{none, step}
use Rattle.hk_inst.specs.Demanded.{IsDemand}
use Rattle.hk_inst.specs.Questions.{Asked, AreDemands, says}
use Rattle.hk_inst.specs.Origins.{Arises}
use Rattle.hk_inst.specs.Growing.{IsOurs, ids_below, IsBase, AreOpened, AreRequired, IsGrowing, IsMade, IsRequiring, AreStepped}
use Rattle.hk_inst.proofs.Members.{numbered-are, member-at, has-behind}
use Rattle.hk_inst.proofs.OurDemands.{demand-ours, demand-arises}
use Rattle.hk_inst.proofs.QuestionFacts.{known-within}
use Rattle.hk_inst.proofs.Lengthening.{taken}
use Rattle.hk_inst.proofs.Beginning.{with_numbers}
use Rattle.hk_inst.proofs.Widening.{IsWider, demand-wider, demands-wider, mentioned-wider, arises-wider}
use Rattle.hk_inst.proofs.GrowthSteps.{with_nodes, with_made, with_circuit, base-longer, opened-longer, required-longer, base-made, opened-made, required-made, base-requiring}

abbrev pub with_added : Asked → Instance → ℕ → Asked
with_added q i d = record q { instances = q.instances ++ i ∷ []; demands = q.demands ++ d ∷ [] }

wider-instance : (q : Asked) (i : Instance) → IsWider q.nodes q.nodes q.instances (q.instances ++ i ∷ []) q.table q.table
wider-instance q i = record { nodes_grow = grows-refl q.nodes; more_instances = λ j c. Contains-append_left q.instances (i ∷ []) j c; reads = λ k t e. e; quantifiers = λ k t e. e; openings = λ o c. c }

pub base-added : (q : Asked) (i : Instance) (x first next done : ℕ) → IsBase q first next done → IsBase (with_added q i x) first next done
base-added q i x first next done h = record {
  fit = h.fit;
  distinct = h.distinct;
  goal_is = h.goal_is;
  goal_first = h.goal_first;
  first_next = h.first_next;
  ids = h.ids;
  circuit = h.circuit;
  blasted = h.blasted;
  of_goal = h.of_goal;
  ours = λ t has. record {
    mentioned = mentioned-wider q.nodes q.nodes q.instances (q.instances ++ i ∷ []) q.table q.table (wider-instance q i) q.goal t (h.ours t has).mentioned;
    reads = (h.ours t has).reads;
    frees = (h.ours t has).frees;
  };
  arises = λ t has. arises-wider q.nodes q.nodes (grows-refl q.nodes) q.goal q.table.openings q.table.openings q.demands (q.demands ++ x ∷ []) (λ o c. c) (λ d c. Contains-append_left q.demands (x ∷ []) d c) t (h.arises t has);
  done_there = h.done_there;
  places = h.places;
  only = h.only;
}

demands-push : (nodes : List Node) (table : Table) (is : List Instance) (ds : List ℕ) (i : Instance) (d : ℕ) → AreDemands nodes table is ds → IsDemand nodes table i d → AreDemands nodes table (is ++ i ∷ []) (ds ++ d ∷ [])
demands-push nodes table [] [] i d h x = (x, tt)
demands-push nodes table [] (e ∷ ds) i d h x = absurd h
demands-push nodes table (j ∷ is) [] i d h x = absurd h
demands-push nodes table (j ∷ is) (e ∷ ds) i d h x = (h.0, demands-push nodes table is ds i d h.1 x)

-- an instance's required term, of which the literal was required
pub required-added : (q : Asked) (e : Circuit) (i : Instance) (d : ℕ) → AreRequired q → HasWord q.table.words d → IsDemand q.nodes q.table i d → IsRequiring q.circuit e (word_in q.table.words d) → AreRequired (with_added (with_circuit q e) i d)
required-added q e i d h known x r = record {
  openings_known = h.openings_known;
  demands_known = All-push (HasWord q.table.words) q.demands d h.demands_known known;
  demands = demands-push q.nodes q.table q.instances q.demands i d h.demands x;
  required = λ a.
      ap (clauses_value a) r.beside ∙ list_all-append (clause_value a) (required_of q.circuit) (word_in q.table.words d ∷ []) ∙ ap (λ b. b && (says q.table.words a d && true)) (h.required a)
      ∙ turned (says q.table.words a q.goal) (list_all (λ o. says q.table.words a o.demand) q.table.openings) (list_all (says q.table.words a) q.demands) (says q.table.words a d && true)
      ∙ ap (λ b. says q.table.words a q.goal && (list_all (λ o. says q.table.words a o.demand) q.table.openings && b)) (sym (list_all-append (says q.table.words a) q.demands (d ∷ [])));
  count = omega (arith, ap length r.beside, length-append (required_of q.circuit) (word_in q.table.words d ∷ []), h.count, length-append q.instances (i ∷ []));
}
  where
    turned : (g x y z : Bool) → ((g && (x && y)) && z) ≡ (g && (x && (y && z)))
    turned true true y z = refl
    turned true false y z = refl
    turned false x y z = refl

opened-added : (q : Asked) (e : Circuit) (i : Instance) (d limit done : ℕ) → AreOpened q limit done → AreOpened (with_added (with_circuit q e) i d) limit done
opened-added q e i d limit done h = record { opened = h.opened; openings_are = h.openings_are; once = h.once; chosen = h.chosen }

-- reads and quantifiers with numbers have their words
pub reads-known : (q : Asked) → AreStepped q → (k t : ℕ) → slice_get q.table.reads k ≡ Some t → HasWord q.table.words t
reads-known q s k t e = subst (λ ws. HasWord ws t) (sym s.steps_are) (numbered-are q.nodes is_select s.reads t (member-at q.table.reads k t e))

pub quantifiers-known : (q : Asked) → AreStepped q → (k t : ℕ) → slice_get q.table.quantifiers k ≡ Some t → HasWord q.table.words t
quantifiers-known q s k t e = subst (λ ws. HasWord ws t) (sym s.steps_are) (numbered-are q.nodes is_quantifier s.quantifiers t (member-at q.table.quantifiers k t e))

-- an instance that came in: its required term was blasted and required
module _ (q : Asked) (longer : List Node) (g : Grows q.nodes longer) (c d : Circuit) (words : Words) (first next : ℕ) (i : Instance) (x : ℕ) where
  pub brought : AllFitIn (reverse longer) → IsDistinct longer → AllPass (ids_below next) longer → IsDemand longer q.table i x → IsMade longer q.circuit c q.table.words words x → IsRequiring c d (word_in words x)
      → IsGrowing q first next (length q.table.words) → AreStepped q → IsGrowing (with_added (with_circuit (with_made (with_nodes q longer) c words) d) i x) first next (length q.table.words)
  brought fit distinct ids its m r h s = record {
    base = base-requiring (with_made (with_added (with_nodes q longer) i x) c words) d (word_in words x) r first next (length q.table.words)
        (base-made (with_added (with_nodes q longer) i x) c words x m first next (length q.table.words) base mine from);
    opened = opened-added (with_made (with_nodes q longer) c words) d i x next (length q.table.words)
        (opened-made (with_nodes q longer) c words x m next (length q.table.words) h.base.done_there (opened-longer q longer g first next next (length q.table.words) h.base h.opened));
    required = required-added (with_made (with_nodes q longer) c words) d i x (required-made (with_nodes q longer) c words x m h.base.of_goal (required-longer q longer g h.required)) m.there
        (demand-wider longer longer q.instances q.instances q.table (record q.table { words = words }) same i x its) r;
  }
    where
      plain : IsBase (with_nodes q longer) first next (length q.table.words)
      plain = base-longer q longer g first next next (length q.table.words) h.base fit distinct (omega arith) ids

      base : IsBase (with_added (with_nodes q longer) i x) first next (length q.table.words)
      base = base-added (with_nodes q longer) i x first next (length q.table.words) plain

      from : Arises longer q.goal q.table.openings (q.demands ++ x ∷ []) x
      from = demand-arises longer q.goal q.table (q.demands ++ x ∷ []) (HasWord q.table.words) base.arises i x (Contains-push q.demands x) its (reads-known q s)
          (λ t array size j has at. plain.places t array size j (subst (λ ws. HasWord ws t) (sym (take-length q.table.words)) has) at) (quantifiers-known q s)

      same : IsWider longer longer q.instances q.instances q.table (record q.table { words = words })
      same = record { nodes_grow = grows-refl longer; more_instances = λ j e. e; reads = λ k t e. e; quantifiers = λ k t e. e; openings = λ o e. e }

      mine : IsOurs longer q.goal (q.instances ++ i ∷ []) q.table first x
      mine = demand-ours longer q.goal (q.instances ++ i ∷ []) q.table first (HasWord q.table.words) base.ours i x (Contains-push q.instances i) its (reads-known q s)
          (λ t array size j has at. plain.places t array size j (subst (λ ws. HasWord ws t) (sym (take-length q.table.words)) has) at) (quantifiers-known q s)

-- the two reads of a pair have one width
pub pair-widths : (q : Asked) (first next : ℕ) → IsGrowing q first next (length q.table.words) → AreStepped q → (i : Instance) (y : Subject) → IsSubject q.nodes q.table i y → (r s j k : ℕ) → y ≡ Reads r s j k → width q.nodes r ≡ width q.nodes s
pair-widths q first next h st i y its r s j k e = by i (subst (IsSubject q.nodes q.table i) e its)
  where
    known : (n t : ℕ) → slice_get q.table.reads n ≡ Some t → HasWord q.table.words t
    known = reads-known q st

    by : (z : Instance) → IsSubject q.nodes q.table z (Reads r s j k) → width q.nodes r ≡ width q.nodes s
    by (Pair a b) x =
        let p = x.0 in
        let one : p.size ≡ p.other_size = h.base.goal_is.one_size p.array p.size p.other_size ((h.base.ours p.first (known a p.first p.first_at)).reads p.array p.size (own _ p.first_is (refl, refl))) ((h.base.ours p.second (known b p.second p.second_at)).reads p.array p.other_size (own _ p.second_is (refl, refl))) in
        ap (width q.nodes) (sym x.1) ∙ (holds q.nodes p.first _ h.base.fit p.first_is).width_is ∙ one ∙ sym (holds q.nodes p.second _ h.base.fit p.second_is).width_is ∙ ap (width q.nodes) x.2
    by (Tuple n ks) x = absurd x

-- ---- the numbers of what came in

numbering-longer : (nodes longer : List Node) → Grows nodes longer → (kind : Option Node → Bool) {steps : List Words} {terms : List ℕ} → ((t : ℕ) → HasWord (flat_map (λ s. s) steps) t → t < length nodes) → IsNumbering nodes kind steps terms → IsNumbering longer kind steps terms
numbering-longer nodes longer g kind there none = none
numbering-longer nodes longer g kind there (step {entries = entries} {steps = steps} a more) = step (record {
  rising = a.rising;
  are = λ t c. let r = a.are t c in (r.0, ap kind (sym (kept t r.0)) ∙ r.1);
  all = λ t has k. a.all t has (ap kind (kept t has) ∙ k);
}) (numbering-longer nodes longer g kind (λ t has. there t (has-behind entries (flat_map (λ s. s) steps) t has)) more)
  where
    kept : (t : ℕ) → HasWord entries t → slice_get nodes t ≡ slice_get longer t
    kept t has = sym (slice_get-append nodes g.more t (there t (has_more t entries (flat_map (λ s. s) steps) has))) ∙ ap (λ l. slice_get l t) (sym g.is)

numbering-push : (nodes : List Node) (kind : Option Node → Bool) {steps : List Words} {terms : List ℕ} (entries : Words) (more : List ℕ) → IsNumbering nodes kind steps terms → AreNumbered nodes kind entries more → IsNumbering nodes kind (steps ++ entries ∷ []) (terms ++ more)
numbering-push nodes kind entries more none a = subst (IsNumbering nodes kind (entries ∷ [])) (append-nil more) (step a none)
numbering-push nodes kind entries more (step {entries = e} {steps = steps} {first = first} {terms = terms} b rest) a =
    subst (IsNumbering nodes kind (e ∷ (steps ++ entries ∷ []))) (sym (append_assoc first terms more)) (step b (numbering-push nodes kind entries more rest a))

growing-numbered : (q : Asked) (first next done : ℕ) (rs qs : List ℕ) → IsGrowing q first next done → IsGrowing (with_numbers q (q.table.reads ++ rs) (q.table.quantifiers ++ qs)) first next done
growing-numbered q first next done rs qs h = record {
  base = record {
    fit = h.base.fit;
    distinct = h.base.distinct;
    goal_is = h.base.goal_is;
    goal_first = h.base.goal_first;
    first_next = h.base.first_next;
    ids = h.base.ids;
    circuit = h.base.circuit;
    blasted = h.base.blasted;
    of_goal = h.base.of_goal;
    ours = λ t has. record {
      mentioned = mentioned-wider q.nodes q.nodes q.instances q.instances q.table (with_numbers q (q.table.reads ++ rs) (q.table.quantifiers ++ qs)).table wider q.goal t (h.base.ours t has).mentioned;
      reads = (h.base.ours t has).reads;
      frees = (h.base.ours t has).frees;
    };
    arises = h.base.arises;
    done_there = h.base.done_there;
    places = h.base.places;
    only = h.base.only;
  };
  opened = record { opened = h.opened.opened; openings_are = h.opened.openings_are; once = h.opened.once; chosen = h.opened.chosen };
  required = record {
    openings_known = h.required.openings_known;
    demands_known = h.required.demands_known;
    demands = demands-wider q.nodes q.nodes q.instances q.instances q.table (with_numbers q (q.table.reads ++ rs) (q.table.quantifiers ++ qs)).table wider q.instances q.demands h.required.demands;
    required = h.required.required;
    count = h.required.count;
  };
}
  where
    wider : IsWider q.nodes q.nodes q.instances q.instances q.table (with_numbers q (q.table.reads ++ rs) (q.table.quantifiers ++ qs)).table
    wider = record { nodes_grow = grows-refl q.nodes; more_instances = λ i c. c; reads = λ k t e. get_more q.table.reads rs k t e; quantifiers = λ k t e. get_more q.table.quantifiers qs k t e; openings = λ o c. c }

-- the step of an instance that came in
pub stepped-more : (p q : Asked) (i : Instance) (start : ℕ) (rs qs : List ℕ) → AreStepped p → AreBlasted p.nodes p.circuit p.table.words → Lengthened p q → start ≡ length p.table.words → q.table.reads ≡ p.table.reads → q.table.quantifiers ≡ p.table.quantifiers
    → q.instances ≡ p.instances ++ i ∷ [] → AreNumbered q.nodes is_select (drop start q.table.words) rs → AreNumbered q.nodes is_quantifier (drop start q.table.words) qs → AreStepped (with_numbers q (q.table.reads ++ rs) (q.table.quantifiers ++ qs))
stepped-more p q i start rs qs s blasted l at reads quantifiers instances a b = record {
  steps = s.steps ++ drop start q.table.words ∷ [];
  steps_are = sym
      (flat_map-append (λ x. x) s.steps (drop start q.table.words ∷ []) ∙ ap (λ x. flat_map (λ y. y) s.steps ++ x) (append-nil (drop start q.table.words)) ∙ ap (λ x. x ++ drop start q.table.words) (sym s.steps_are ∙ sym (taken p.table.words q.table.words start l.words at))
      ∙ take-append-drop start q.table.words);
  each_step = omega (arith, length-append s.steps (drop start q.table.words ∷ []), s.each_step, ap length instances, length-append p.instances (i ∷ []));
  reads = subst (λ xs. IsNumbering q.nodes is_select (s.steps ++ drop start q.table.words ∷ []) (xs ++ rs)) (sym reads)
      (numbering-push q.nodes is_select (drop start q.table.words) rs (numbering-longer p.nodes q.nodes l.nodes is_select there s.reads) a);
  quantifiers = subst (λ xs. IsNumbering q.nodes is_quantifier (s.steps ++ drop start q.table.words ∷ []) (xs ++ qs)) (sym quantifiers)
      (numbering-push q.nodes is_quantifier (drop start q.table.words) qs (numbering-longer p.nodes q.nodes l.nodes is_quantifier there s.quantifiers) b);
}
  where
    there : (t : ℕ) → HasWord (flat_map (λ x. x) s.steps) t → t < length p.nodes
    there t has = known-within p.nodes p.circuit p.table.words blasted t (subst (λ ws. HasWord ws t) (sym s.steps_are) has)

abbrev pub IsKeptAs : Asked → ℕ → ℕ → Type 0
IsKeptAs q first next = (IsGrowing q first next (length q.table.words)) × (AreStepped q)

pub kept-more : (p q : Asked) (first next : ℕ) (i : Instance) (start : ℕ) (rs qs reads quantifiers : List ℕ) → AreStepped p → AreBlasted p.nodes p.circuit p.table.words → Lengthened p q → start ≡ length p.table.words → q.table.reads ≡ p.table.reads → q.table.quantifiers ≡ p.table.quantifiers
    → q.instances ≡ p.instances ++ i ∷ [] → IsGrowing q first next (length q.table.words) → AreNumbered q.nodes is_select (drop start q.table.words) rs → AreNumbered q.nodes is_quantifier (drop start q.table.words) qs
    → reads ≡ q.table.reads ++ rs → quantifiers ≡ q.table.quantifiers ++ qs → IsKeptAs (with_numbers q reads quantifiers) first next
kept-more p q first next i start rs qs reads quantifiers s blasted l at same other instances h a b e f =
    subst (λ (z : List ℕ × List ℕ). IsKeptAs (with_numbers q z.0 z.1) first next) (λ n. (sym e n, sym f n)) (growing-numbered q first next (length q.table.words) rs qs h, stepped-more p q i start rs qs s blasted l at same other instances a b)
