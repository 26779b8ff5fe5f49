-- What is said of terms, instances and quantifiers stays true as the term list and the table grow.
use Rattle.std.proofs.Common.{◌≡◌, ℕ, ◌<◌, ◌≤◌, List, [], ◌∷◌, length, map, Some, sym, ◌∙◌, ap, subst, arith}
use Rattle.std.specs.Prelude.{slice_get}
use Rattle.std.specs.List.{Contains}
use Rattle.std.proofs.lemmas.List.{length-append}
use Rattle.hk_term.specs.Shape.{Grows}
use Rattle.hk_term.specs.declared.bounds.Bound.{Bound}
use Rattle.hk_term.specs.declared.node.Node.{Node}
use Rattle.hk_term.proofs.Interning.{slice_get-append}
use Rattle.hk_copy.specs.declared.stand.Stand.{Stand}
use Rattle.hk_copy.specs.declared.stand.Stand.TheVariants.{Number}
use Rattle.hk_copy.specs.Stands.{standing}
use Rattle.hk_copy.specs.Reach.{Reaches, Frees}
use Rattle.hk_copy.specs.Reach.Reaches.{own, under}
use Rattle.hk_copy.specs.Reach.Frees.{itself, within}
use Rattle.hk_copy.proofs.CopyLaws.{copies-grows}
use Rattle.hk_blast.proofs.WordLists.{get_more}
use Rattle.hk_inst.specs.declared.instance.Instance.{Instance}
use Rattle.hk_inst.specs.declared.instance.Instance.TheVariants.{Pair, Tuple}
use Rattle.hk_inst.specs.declared.opening.Opening.{Opening}
use Rattle.hk_inst.specs.Inputs.{Table}
use Rattle.hk_inst.specs.Truths.{PairOf, TupleOf}
use Rattle.hk_inst.specs.Demanded.{IsAgreement, IsImplication, IsRefutation, IsOpening, IsDemand, IsMentioned}
use Rattle.hk_inst.specs.Demanded.IsRefutation.{ended, ranged}
use Rattle.hk_inst.specs.Demanded.IsMentioned.{goal as its_goal, part as its_part, place as its_place, refuted as its_refuted, added as its_added}
use Rattle.hk_inst.specs.Questions.{AreDemands, IsChosen, AreChosen}
use Rattle.hk_inst.specs.Origins.{Arises}
use Rattle.hk_inst.specs.Origins.Arises.{goal as the_goal, part as a_part, place as a_place, refuted as a_refuted, agreed as an_agreed, implied as an_implied}

module _ (old new : List Node) (g : Grows old new) where
  pub at-longer : (k : ℕ) (n : Node) → slice_get old k ≡ Some n → slice_get new k ≡ Some n
  at-longer k n e = subst (λ l. slice_get l k ≡ Some n) (sym g.is) (get_more old g.more k n e)

  pub at-older : (k : ℕ) (n : Node) → k < length old → slice_get new k ≡ Some n → slice_get old k ≡ Some n
  at-older k n h e = sym (slice_get-append old g.more k h) ∙ ap (λ l. slice_get l k) (sym g.is) ∙ e

  pub length-longer : length old ≤ length new
  length-longer = omega (arith, ap length g.is, length-append old g.more)

  pub reach-longer : (R : ℕ → ℕ → Type 0) (Q : List Bound → Type 0) (t : ℕ) → Reaches old R Q t → Reaches new R Q t
  reach-longer R Q t (own n e is) = own n (at-longer t n e) is
  reach-longer R Q t (under n a e part r) = under n a (at-longer t n e) part (reach-longer R Q a r)

  pub free-longer : (size id t : ℕ) → Frees old size id t → Frees new size id t
  free-longer size id t (itself n e is) = itself n (at-longer t n e) is
  free-longer size id t (within n a e off part r) = within n a (at-longer t n e) off part (free-longer size id a r)

  agreement-longer : (r s i j d : ℕ) → IsAgreement old r s i j d → IsAgreement new r s i j d
  agreement-longer r s i j d h = record {
    wide = h.wide;
    other_wide = h.other_wide;
    places = h.places;
    values = h.values;
    one = h.one;
    wide_is = at-longer h.wide _ h.wide_is;
    other_is = at-longer h.other_wide _ h.other_is;
    places_is = at-longer h.places _ h.places_is;
    values_is = at-longer h.values _ h.values_is;
    one_is = at-longer h.one _ h.one_is;
    is = at-longer d _ h.is;
  }

  implication-longer : (q b d : ℕ) → IsImplication old q b d → IsImplication new q b d
  implication-longer q b d h = record { one = h.one; one_is = at-longer h.one _ h.one_is; is = at-longer d _ h.is }

  pub refutation-longer : (b : ℕ) {bs : List Bound} {ss : List Stand} {d : ℕ} → IsRefutation old b bs ss d → IsRefutation new b bs ss d
  refutation-longer b {d = d} (ended no_ yes_ no_is yes_is is) = ended no_ yes_ (at-longer no_ _ no_is) (at-longer yes_ _ yes_is) (at-longer d _ is)
  refutation-longer b {d = d} (ranged w id z size test rest no_ few z_is size_is test_is no_is is more) =
      ranged w id z size test rest no_ few (at-longer z _ z_is) (at-longer size _ size_is) (at-longer test _ test_is) (at-longer no_ _ no_is) (at-longer d _ is) (refutation-longer b more)

  pub opening-longer : (o : Opening) → IsOpening old o → IsOpening new o
  opening-longer o h = record {
    bound = h.bound;
    body = h.body;
    at = at-longer o.term _ h.at;
    copies = copies-grows old new g (standing h.bound o.stands) h.body o.copy h.copies;
    choice = record {
      one = h.choice.one;
      rest = h.choice.rest;
      one_is = at-longer h.choice.one _ h.choice.one_is;
      is = at-longer o.demand _ h.choice.is;
      refutation = refutation-longer o.copy h.choice.refutation;
    };
  }

  chosen-longer : (goal limit : ℕ) (os : List Opening) (o : Opening) → IsChosen old goal limit os o → IsChosen new goal limit os o
  chosen-longer goal limit os o c = record {
    made = c.made;
    first = c.first;
    made_there = omega (arith, c.made_there, length-longer);
    goal_made = c.goal_made;
    term_made = c.term_made;
    earlier_made = c.earlier_made;
    below = λ k size id l at. c.below k size id l (at-older k _ (omega (arith, l, c.made_there)) at);
    stands = c.stands;
  }

  pub all-chosen-longer : (goal limit : ℕ) (os : List Opening) → AreChosen old goal limit os → AreChosen new goal limit os
  unfolding chosen-longer
  all-chosen-longer goal limit [] h = tt
  all-chosen-longer goal limit (o ∷ os) h = (chosen-longer goal limit os o h.0, all-chosen-longer goal h.0.first os h.1)

  -- what arises still does, with more quantifiers and more required terms
  pub arises-wider : (goal : ℕ) (os wider : List Opening) (ds more : List ℕ) → ((o : Opening) → Contains os o → Contains wider o) → ((d : ℕ) → Contains ds d → Contains more d) → (t : ℕ) → Arises old goal os ds t → Arises new goal wider more t
  arises-wider goal os wider ds more f h _ the_goal = the_goal
  arises-wider goal os wider ds more f h t (a_part u k n at part a) = a_part u k n (at-longer u n at) part (arises-wider goal os wider ds more f h u a)
  arises-wider goal os wider ds more f h t (a_place u array size i at a) = a_place u array size i (at-longer u _ at) (arises-wider goal os wider ds more f h u a)
  arises-wider goal os wider ds more f h t (a_refuted o c a) = a_refuted o (f o c) (arises-wider goal os wider ds more f h o.term a)
  arises-wider goal os wider ds more f h t (an_agreed r s i j d c its a b x y) =
      an_agreed r s i j d (h d c) (agreement-longer r s i j d its) (arises-wider goal os wider ds more f h r a) (arises-wider goal os wider ds more f h s b) (arises-wider goal os wider ds more f h i x) (arises-wider goal os wider ds more f h j y)
  arises-wider goal os wider ds more f h t (an_implied q b body d bound c its at a) = an_implied q b body d bound (h d c) (implication-longer q b d its) (at-longer q _ at) (arises-wider goal os wider ds more f h q a)

-- a longer term list, more instances, and a table with more at its end
pub record IsWider (nodes longer : List Node) (instances more : List Instance) (table wider : Table) : Type 0 where
  pub nodes_grow : Grows nodes longer
  pub more_instances : (i : Instance) → Contains instances i → Contains more i
  pub reads : (k t : ℕ) → slice_get table.reads k ≡ Some t → slice_get wider.reads k ≡ Some t
  pub quantifiers : (k t : ℕ) → slice_get table.quantifiers k ≡ Some t → slice_get wider.quantifiers k ≡ Some t
  pub openings : (o : Opening) → Contains table.openings o → Contains wider.openings o

module _ (nodes longer : List Node) (instances more : List Instance) (table wider : Table) (w : IsWider nodes longer instances more table wider) where
  unfoldable pub pair-wider : (a b : ℕ) → PairOf nodes table a b → PairOf longer wider a b
  pair-wider a b p = record {
    array = p.array;
    first = p.first;
    size = p.size;
    place = p.place;
    second = p.second;
    other_size = p.other_size;
    other_place = p.other_place;
    first_at = w.reads a p.first p.first_at;
    second_at = w.reads b p.second p.second_at;
    first_is = at-longer nodes longer w.nodes_grow p.first _ p.first_is;
    second_is = at-longer nodes longer w.nodes_grow p.second _ p.second_is;
  }

  unfoldable pub tuple-wider : (k : ℕ) (ks : List ℕ) → TupleOf nodes table k ks → TupleOf longer wider k ks
  tuple-wider k ks p = record {
    term = p.term;
    bound = p.bound;
    body = p.body;
    at = w.quantifiers k p.term p.at;
    is = at-longer nodes longer w.nodes_grow p.term _ p.is;
    fits = p.fits;
  }

  pub demand-wider : (i : Instance) (d : ℕ) → IsDemand nodes table i d → IsDemand longer wider i d
  unfolding pair-wider tuple-wider
  demand-wider (Pair a b) d (p, h) = (pair-wider a b p, agreement-longer nodes longer w.nodes_grow p.first p.second p.place p.other_place d h)
  demand-wider (Tuple k ks) d (p, b, c, h) =
      (tuple-wider k ks p, b, copies-grows nodes longer w.nodes_grow (standing p.bound (map Number ks)) p.body b c, implication-longer nodes longer w.nodes_grow p.term b d h)

  pub demands-wider : (is : List Instance) (ds : List ℕ) → AreDemands nodes table is ds → AreDemands longer wider is ds
  demands-wider [] [] h = tt
  demands-wider [] (d ∷ ds) h = absurd h
  demands-wider (i ∷ is) [] h = absurd h
  demands-wider (i ∷ is) (d ∷ ds) h = (demand-wider i d h.0, demands-wider is ds h.1)

  pub mentioned-wider : (goal t : ℕ) → IsMentioned nodes goal instances table t → IsMentioned longer goal more wider t
  mentioned-wider goal _ its_goal = its_goal
  mentioned-wider goal t (its_part u k n at part m) = its_part u k n (at-longer nodes longer w.nodes_grow u n at) part (mentioned-wider goal u m)
  mentioned-wider goal t (its_place u array size i at m) = its_place u array size i (at-longer nodes longer w.nodes_grow u _ at) (mentioned-wider goal u m)
  mentioned-wider goal t (its_refuted o c m) = its_refuted o (w.openings o c) (mentioned-wider goal o.term m)
  mentioned-wider goal t (its_added i d c h) = its_added i d (w.more_instances i c) (demand-wider i d h)
