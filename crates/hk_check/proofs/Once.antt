-- What is exact for instances, each once, is exact for them as they stand, also where one is repeated.
use Rattle.std.proofs.Common.{◌≡◌, ◌⊎◌, inl, inr, ◌+◌, ◌-◌, ◌≤◌, ℕ, zero, suc, Bool, true, false, if◌then◌else◌, Option, List, [], ◌∷◌, ◌++◌, fold, length, length-append, refl, sym, ap, ◌∙◌, subst, arith}
use Rattle.std.specs.List.{Contains, flat_map}
use Rattle.std.proofs.lemmas.List.Elements.{Contains-append_left, Contains-push, Contains-push_cases}
use Rattle.hk_term.specs.declared.node.Node.{Node}
use Rattle.hk_term.specs.Meaning.{Reading}
use Rattle.hk_cnf.specs.Clauses.{Clauses}
use Rattle.hk_blast.specs.Blasted.{Words}
use Rattle.hk_inst.specs.declared.instance.Instance.{Instance}
use Rattle.hk_inst.specs.Inputs.{Table, is_select, is_quantifier, AreNumbered, IsNumbering}
use Rattle.hk_inst.specs.Inputs.IsNumbering.{none, step}
use Rattle.hk_inst.specs.Truths.{is_among}
use Rattle.hk_inst.specs.Demanded.{IsMentioned}
use Rattle.hk_inst.specs.Demanded.IsMentioned.{goal as its_goal, part as its_part, place as its_place, refuted as its_refuted, added as its_added}
use Rattle.hk_inst.specs.Exactness.{Exact, IsTable, IsDeterminedBy}
use Rattle.hk_inst.proofs.Tuples.{clash}
use Rattle.hk_inst.proofs.Members.{contains-cases, among-contains}
use Rattle.hk_inst.proofs.SameOnes.{contains-among}
use Rattle.hk_check.specs.Once.{with_instance, once}

-- ---- one instance more

chosen : (P : List Instance → Type 0) (kept : List Instance) (i : Instance) → (is_among kept i ≡ true → P kept) → (is_among kept i ≡ false → P (kept ++ i ∷ [])) → P (with_instance kept i)
chosen P kept i old new = by (is_among kept i) refl
  where
    by : (b : Bool) → is_among kept i ≡ b → P (if is_among kept i then kept else kept ++ i ∷ [])
    by true e = subst (λ b. P (if b then kept else kept ++ i ∷ [])) (sym e) (old e)
    by false e = subst (λ b. P (if b then kept else kept ++ i ∷ [])) (sym e) (new e)

-- ---- the same ones

keeps : (kept : List Instance) (i j : Instance) → Contains kept j → Contains (with_instance kept i) j
keeps kept i j c = chosen (λ l. Contains l j) kept i (λ e. c) (λ e. Contains-append_left kept (i ∷ []) j c)

takes : (kept : List Instance) (i : Instance) → Contains (with_instance kept i) i
takes kept i = chosen (λ l. Contains l i) kept i (among-contains kept i) (λ e. Contains-push kept i)

brings : (kept : List Instance) (i j : Instance) → Contains (with_instance kept i) j → (Contains kept j) ⊎ (i ≡ j)
brings kept i j = chosen (λ l. Contains l j → (Contains kept j) ⊎ (i ≡ j)) kept i (λ e c. inl c) (λ e c. Contains-push_cases kept i j c)

grown : (kept : List Instance) (i : Instance) → length (with_instance kept i) ≤ length kept + 1
grown kept i = chosen (λ l. length l ≤ length kept + 1) kept i (λ e. omega arith) (λ e. let long = length-append kept (i ∷ []) in omega (arith, long))

there_before : (kept is : List Instance) (j : Instance) → Contains kept j → Contains (fold with_instance kept is) j
there_before kept [] j c = c
there_before kept (i ∷ is) j c = there_before (with_instance kept i) is j (keeps kept i j c)

there_still : (kept is : List Instance) (j : Instance) → Contains is j → Contains (fold with_instance kept is) j
there_still kept [] j c = let inside = c.1 in absurd (omega (arith, inside))
there_still kept (i ∷ is) j c = by (contains-cases i is j c) (there_still (with_instance kept i) is j)
  where
    by : (i ≡ j) ⊎ (Contains is j) → (Contains is j → Contains (fold with_instance (with_instance kept i) is) j) → Contains (fold with_instance (with_instance kept i) is) j
    by (inl e) go = there_before (with_instance kept i) is j (subst (Contains (with_instance kept i)) e (takes kept i))
    by (inr d) go = go d

there_only : (kept is : List Instance) (j : Instance) → Contains (fold with_instance kept is) j → (Contains kept j) ⊎ (Contains is j)
there_only kept [] j c = inl c
there_only kept (i ∷ is) j c = by (there_only (with_instance kept i) is j c)
  where
    at_head : (i ≡ j) → Contains (i ∷ is) j
    at_head e = (0, omega arith, e)

    behind : Contains is j → Contains (i ∷ is) j
    behind (k, l, e) = (suc k, omega (arith, l), e)

    of_kept : (Contains kept j) ⊎ (i ≡ j) → (Contains kept j) ⊎ (Contains (i ∷ is) j)
    of_kept (inl d) = inl d
    of_kept (inr e) = inr (at_head e)

    by : (Contains (with_instance kept i) j) ⊎ (Contains is j) → (Contains kept j) ⊎ (Contains (i ∷ is) j)
    by (inl d) = of_kept (brings kept i j d)
    by (inr d) = inr (behind d)

no_more : (kept is : List Instance) → length (fold with_instance kept is) ≤ length kept + length is
no_more kept [] = omega arith
no_more kept (i ∷ is) = let one = grown kept i in let rest = no_more (with_instance kept i) is in omega (arith, one, rest)

fewer : (is : List Instance) → length (once is) ≤ length is
fewer is = let low = no_more [] is in omega (arith, low)

none_among : (is : List Instance) (j : Instance) → is_among (once is) j ≡ false → is_among is j ≡ false
none_among is j e = by (is_among is j) refl
  where
    by : (b : Bool) → is_among is j ≡ b → is_among is j ≡ false
    by false f = f
    by true f = clash (sym (contains-among (once is) j (there_still [] is j (among-contains is j f))) ∙ e)

-- ---- steps in which nothing comes in

abbrev empties : ℕ → List Words
empties zero = []
empties (suc n) = [] ∷ empties n

length-empties : (n : ℕ) → length (empties n) ≡ n
length-empties zero = refl
length-empties (suc n) = ap suc (length-empties n)

joined : (steps : List Words) (n : ℕ) → flat_map (λ (s : Words). s) (steps ++ empties n) ≡ flat_map (λ (s : Words). s) steps
joined [] zero = refl
joined [] (suc n) = joined [] n
joined (s ∷ steps) n = ap (λ l. s ++ l) (joined steps n)

numbers_none : (nodes : List Node) (kind : Option Node → Bool) → AreNumbered nodes kind [] []
numbers_none nodes kind = record {
  rising = λ i j d low high. absurd (omega (arith, low, high));
  are = λ t c. let inside = c.1 in absurd (omega (arith, inside));
  all = λ t has. clash (sym has);
}

still_numbered : (nodes : List Node) (kind : Option Node → Bool) (n : ℕ) {steps : List Words} {terms : List ℕ} → IsNumbering nodes kind steps terms → IsNumbering nodes kind (steps ++ empties n) terms
still_numbered nodes kind n none = by n
  where
    by : (n : ℕ) → IsNumbering nodes kind (empties n) []
    by zero = none
    by (suc n) = step (numbers_none nodes kind) (by n)
still_numbered nodes kind n (step a rest) = step a (still_numbered nodes kind n rest)

-- ---- exactness

module _ (nodes : List Node) (goal : ℕ) (few many : List Instance) (table : Table) (more : (i : Instance) → Contains few i → Contains many i) where
  still_mentioned : (t : ℕ) → IsMentioned nodes goal few table t → IsMentioned nodes goal many table t
  still_mentioned _ its_goal = its_goal
  still_mentioned t (its_part u k n at part m) = its_part u k n at part (still_mentioned u m)
  still_mentioned t (its_place u array size i at m) = its_place u array size i at (still_mentioned u m)
  still_mentioned t (its_refuted o c m) = its_refuted o c (still_mentioned o.term m)
  still_mentioned t (its_added i d c h) = its_added i d (more i c) h

  still_table : length few ≤ length many → IsTable nodes goal few table → IsTable nodes goal many table
  still_table low h = record {
    of_goal = h.of_goal;
    mentions = λ t has. still_mentioned t (h.mentions t has);
    steps = h.steps ++ empties (length many - length few);
    steps_are = h.steps_are ∙ sym (joined h.steps (length many - length few));
    each_step = let each = h.each_step in let long = length-append h.steps (empties (length many - length few)) in let wide = length-empties (length many - length few) in omega (arith, low, each, long, wide);
    reads = still_numbered nodes is_select (length many - length few) h.reads;
    quantifiers = still_numbered nodes is_quantifier (length many - length few) h.quantifiers;
    opened = h.opened;
    openings_are = h.openings_are;
    once = h.once;
  }

still_determined : (nodes : List Node) (few many : List Instance) (table : Table) (list : Clauses) → length few ≤ length many → IsDeterminedBy nodes few table list → IsDeterminedBy nodes many table list
still_determined nodes few many table list low h = record {
  circuit = h.circuit;
  vars = h.vars;
  required = h.required;
  mixes = h.mixes;
  few = let bound = h.few in omega (arith, bound, low);
  determined = h.determined;
  free = h.free;
  only = h.only;
}

pub exact_repeated : (test : Reading → Bool) (is : List Instance) (list : Clauses) → Exact test (once is) list → Exact test is list
exact_repeated test is list e = record {
  nodes = e.nodes;
  goal = e.goal;
  means = e.means;
  table = e.table;
  is_table = still_table e.nodes e.goal (once is) is e.table (λ i c. of_those i (there_only [] is i c)) (fewer is) e.is_table;
  sound = e.sound;
  from_case = e.from_case;
  to_case = λ a long satisfied all. e.to_case a long satisfied (λ i other. all i (none_among is i other));
  determined = still_determined e.nodes (once is) is e.table list (fewer is) e.determined;
}
  where
    of_those : (i : Instance) → (Contains [] i) ⊎ (Contains is i) → Contains is i
    of_those i (inl d) = let inside = d.1 in absurd (omega (arith, inside))
    of_those i (inr d) = d
