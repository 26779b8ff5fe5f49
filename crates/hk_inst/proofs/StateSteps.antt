-- One entry of the table after another.
use Rattle.std.proofs.Common.{◌≡◌, ℕ, zero, suc, ◌+◌, ◌<◌, ◌≤◌, ◌++◌, false, List, [], ◌∷◌, length, take, reverse, ℤ, Some, refl, sym, ◌∙◌, ap, subst, get_or}
use Rattle.std.specs.Prelude.{slice_get}
use Rattle.std.specs.List.{All, Contains}
use Rattle.std.proofs.lemmas.Bool.{ltb-true}
use Rattle.std.proofs.lemmas.Option.{same_Some}
use Rattle.std.proofs.lemmas.List.{reverse-reverse}
use Rattle.std.proofs.lemmas.List.Elements.{Contains-get_or, Contains-push}
use Rattle.hk_term.specs.Shape.{AllFitIn, IsDistinct, Grows}
use Rattle.hk_term.specs.declared.bounds.Bound.{Bound}
use Rattle.hk_term.specs.declared.node.Node.{Node}
use Rattle.hk_term.specs.declared.node.Node.TheVariants.{Var, Select, ForAll}
use Rattle.hk_copy.specs.Reach.{AllPass}
use Rattle.hk_cnf.specs.Circuit.{Circuit}
use Rattle.hk_blast.specs.Blasted.{Words, word_in, HasWord, IsMissing}
use Rattle.hk_blast.proofs.WordLists.{get_more}
use Rattle.hk_inst.specs.declared.opening.Opening.{Opening}
use Rattle.hk_inst.specs.Inputs.{is_select, is_quantifier}
use Rattle.hk_inst.specs.Demanded.{IsOpening}
use Rattle.hk_inst.specs.Questions.{Asked, AreVariables, IsChosen}
use Rattle.hk_inst.specs.Origins.{Arises}
use Rattle.hk_inst.specs.Origins.Arises.{place as arises_place, refuted as arises_refuted}
use Rattle.hk_inst.specs.Growing.{IsOurs, ids_below, IsBase, AreOpened, IsGrowing, IsMade, IsRequiring}
use Rattle.hk_inst.proofs.Tuples.{clash}
use Rattle.hk_inst.proofs.Members.{has-head, has-behind, index_of}
use Rattle.hk_inst.proofs.QuestionFacts.{known-within}
use Rattle.hk_inst.proofs.WitnessNumbers.{contains-reverse}
use Rattle.hk_inst.proofs.Widening.{at-longer, at-older, length-longer}
use Rattle.hk_inst.proofs.OurTerms.{ours-place, opening-ours}
use Rattle.hk_inst.proofs.GrowthSteps.{with_nodes, with_made, with_circuit, with_opening, front-has, base-longer, opened-longer, required-longer, base-made, opened-made, required-made, base-requiring, required-opened, base-opening, base-done, opened-passed, opened-more}

-- the term of an entry has its word
pub entry-known : (words : Words) (k : ℕ) (e : ℕ × List ℤ) → slice_get words k ≡ Some e → HasWord words e.0
entry-known [] k e at = cc
entry-known (x ∷ xs) zero e at = subst (λ y. HasWord (x ∷ xs) y.0) (same_Some x e at) (has-head x xs)
entry-known (x ∷ xs) (suc k) e at = has-behind (x ∷ []) xs e.0 (entry-known xs k e at)

-- an entry with nothing to do
pub passed : (q : Asked) (first next done : ℕ) (e : ℕ × List ℤ) → slice_get q.table.words done ≡ Some e → is_select (slice_get q.nodes e.0) ≡ false → is_quantifier (slice_get q.nodes e.0) ≡ false → IsGrowing q first next done → IsGrowing q first next (done + 1)
passed q first next done e at no_read no_quantifier h = record {
  base = base-done q first next done e at (λ array size i node. clash (sym (ap is_select node) ∙ no_read)) h.base;
  opened = opened-passed q next done e at (λ inner bound node. clash (sym (ap is_quantifier node) ∙ no_quantifier)) h.opened;
  required = h.required;
}

-- a read, whose place was blasted
pub placed : (q : Asked) (d : Circuit) (words : Words) (first next done : ℕ) (e : ℕ × List ℤ) (array size i : ℕ) → slice_get q.table.words done ≡ Some e → slice_get q.nodes e.0 ≡ Some (Select array size i) → IsMade q.nodes q.circuit d q.table.words words i
    → IsGrowing q first next done → IsGrowing (with_made q d words) first next (done + 1)
placed q d words first next done e array size i at node m h = record {
  base = base-done (with_made q d words) first next done e there (λ a s j other. subst (HasWord words) (ap index_of (sym node ∙ other)) m.there)
      (base-made q d words i m first next done h.base (ours-place q.nodes q.goal q.instances q.table first e.0 array size i node (h.base.ours e.0 (entry-known q.table.words done e at)))
      (arises_place e.0 array size i node (h.base.arises e.0 (entry-known q.table.words done e at))));
  opened = opened-passed (with_made q d words) next done e there (λ inner bound other. clash (sym (ap is_quantifier other) ∙ ap is_quantifier node)) (opened-made q d words i m next done h.base.done_there h.opened);
  required = required-made q d words i m h.base.of_goal h.required;
}
  where
    there : slice_get words done ≡ Some e
    there = subst (λ ws. slice_get ws done ≡ Some e) (sym m.lengthens.is) (get_more q.table.words m.lengthens.more done e at)

opened-circuit : (q : Asked) (d : Circuit) (limit done : ℕ) → AreOpened q limit done → AreOpened (with_circuit q d) limit done
opened-circuit q d limit done h = record { opened = h.opened; openings_are = h.openings_are; once = h.once; chosen = h.chosen }

abbrev chosen-of : (nodes : List Node) (goal limit : ℕ) (earlier : List Opening) (o : Opening) (made first : ℕ) → made ≤ length nodes → goal < made → o.term < made → All (λ p. p.term < made) earlier
    → ((k size id : ℕ) → k < made → slice_get nodes k ≡ Some (Var size id) → id < first) → AreVariables first limit o.stands → IsChosen nodes goal limit earlier o
chosen-of nodes goal limit earlier o made first there goal_made term_made earlier_made below stands =
    record { made = made; first = first; made_there = there; goal_made = goal_made; term_made = term_made; earlier_made = earlier_made; below = below; stands = stands }

-- a quantifier, which was opened: its required term was blasted and required
module _ (q : Asked) (longer : List Node) (g : Grows q.nodes longer) (c d : Circuit) (words : Words) (first next more done : ℕ) (e : ℕ × List ℤ) (bound : List Bound) (inner : ℕ) (o : Opening) where
  pub opened : slice_get q.table.words done ≡ Some e → slice_get q.nodes e.0 ≡ Some (ForAll bound inner) → o.term ≡ e.0 → AreVariables next more o.stands → IsOpening longer o → next ≤ more
      → AllFitIn (reverse longer) → IsDistinct longer → AllPass (ids_below more) longer → IsMade longer q.circuit c q.table.words words o.demand → IsRequiring c d (word_in words o.demand)
      → IsGrowing q first next done → IsGrowing (with_opening (with_circuit (with_made (with_nodes q longer) c words) d) o) first more (done + 1)
  opened at node term variables its le fit distinct ids m r h = record {
    base = base-done (with_opening (with_circuit (with_made (with_nodes q longer) c words) d) o) first more done e there (λ a s j other. clash (sym (ap is_select other) ∙ ap is_select node-there))
        (base-requiring (with_made (with_opening (with_nodes q longer) o) c words) d (word_in words o.demand) r first more done
        (base-made (with_opening (with_nodes q longer) o) c words o.demand m first more done (base-opening (with_nodes q longer) o first more done base) mine from));
    opened = opened-circuit (with_opening (with_made (with_nodes q longer) c words) o) d more (done + 1)
        (opened-more (with_made (with_nodes q longer) c words) next more done e o there term missing its (chosen-of longer q.goal more (reverse q.table.openings) o (length q.nodes) next (length-longer q.nodes longer g) (within q.goal h.base.of_goal) (subst (λ t. t < length q.nodes) (sym term) (within e.0 known)) earlier (λ k size id l other. ltb-true id next (h.base.ids k _ (at-older q.nodes longer g k _ l other))) variables) refl (opened-made (with_nodes q longer) c words o.demand m next done h.base.done_there (opened-longer q longer g first next next done h.base h.opened)));
    required = required-opened (with_made (with_nodes q longer) c words) d o (required-made (with_nodes q longer) c words o.demand m h.base.of_goal (required-longer q longer g h.required)) m.there r;
  }
    where
      base : IsBase (with_nodes q longer) first more done
      base = base-longer q longer g first next more done h.base fit distinct le ids

      there : slice_get words done ≡ Some e
      there = subst (λ ws. slice_get ws done ≡ Some e) (sym m.lengthens.is) (get_more q.table.words m.lengthens.more done e at)

      node-there : slice_get longer e.0 ≡ Some (ForAll bound inner)
      node-there = at-longer q.nodes longer g e.0 _ node

      missing : IsMissing (take done words) e.0
      missing = (m.table done e there).first

      known : HasWord q.table.words e.0
      known = entry-known q.table.words done e at

      its-term : IsOurs longer q.goal q.instances (with_opening (with_nodes q longer) o).table first o.term
      its-term = subst (IsOurs longer q.goal q.instances (with_opening (with_nodes q longer) o).table first) (sym term) ((base-opening (with_nodes q longer) o first more done base).ours e.0 known)

      mine : IsOurs longer q.goal q.instances (with_opening (with_nodes q longer) o).table first o.demand
      mine = opening-ours longer q.goal q.instances (with_opening (with_nodes q longer) o).table first next more o its (Contains-push q.table.openings o) variables h.base.first_next its-term

      from : Arises longer q.goal (q.table.openings ++ o ∷ []) q.demands o.demand
      from = arises_refuted o (Contains-push q.table.openings o) (subst (Arises longer q.goal (q.table.openings ++ o ∷ []) q.demands) (sym term) ((base-opening (with_nodes q longer) o first more done base).arises e.0 known))

      within : (t : ℕ) → HasWord q.table.words t → t < length q.nodes
      within = known-within q.nodes q.circuit q.table.words h.base.blasted

      earlier : All (λ p. p.term < length q.nodes) (reverse q.table.openings)
      earlier k x l =
          let member : Contains q.table.openings (get_or (reverse q.table.openings) k x) =
          subst (λ os. Contains os (get_or (reverse q.table.openings) k x)) (reverse-reverse q.table.openings) (contains-reverse (reverse q.table.openings) (get_or (reverse q.table.openings) k x) (Contains-get_or (reverse q.table.openings) k x l)) in
          within (get_or (reverse q.table.openings) k x).term (front-has done q.table.words (get_or (reverse q.table.openings) k x).term (h.opened.openings_are (get_or (reverse q.table.openings) k x) member).0)
