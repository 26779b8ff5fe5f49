-- Which terms are of a question: parts of such terms, the places of their reads, and the terms that are required of their quantifiers.
use Rattle.std.proofs.Common.{◌≡◌, ◌⊎◌, inl, inr, ℕ, suc, ◌+◌, ◌≤◌, ◌||◌, Bool, true, false, cond, nat_eq, List, [], ◌∷◌, length, Option, Some, None, refl, sym, ◌∙◌, ap, subst, arith, get_or}
use Rattle.std.specs.Prelude.{slice_get}
use Rattle.std.specs.List.{All, Contains}
use Rattle.std.specs.Map.{lookup}
use Rattle.std.proofs.lemmas.Option.{same_Some}
use Rattle.std.proofs.lemmas.List.Elements.{All-nil, All-cons, All-head, All-tail}
use Rattle.hk_term.specs.declared.bounds.Bound.{Bound}
use Rattle.hk_term.specs.declared.node.Node.{Node}
use Rattle.hk_term.specs.declared.node.Node.TheVariants.{Const, Var, Select, Unary, Binary, Choose, Resize, ForAll}
use Rattle.hk_copy.specs.declared.stand.Stand.{Stand}
use Rattle.hk_copy.specs.declared.stand.Stand.TheVariants.{Number, Other}
use Rattle.hk_copy.specs.Stands.{Stands, is_bound, standing_on, standing}
use Rattle.hk_copy.specs.Reach.{IsAsked, IsVariable, binds, Reaches, Reads, Frees, IsFreed, IsPart as IsReached}
use Rattle.hk_copy.specs.Reach.Reaches.{own, under}
use Rattle.hk_copy.specs.Reach.Frees.{itself, within}
use Rattle.hk_copy.proofs.ReachLaws.{copies-reach, copies-free}
use Rattle.hk_copy.proofs.ReadingLaws.{lookup-all}
use Rattle.hk_blast.specs.Blasted.{IsPart, Needs}
use Rattle.hk_blast.specs.Blasted.Needs.{own as needs_own, part as needs_part}
use Rattle.hk_inst.specs.declared.instance.Instance.{Instance}
use Rattle.hk_inst.specs.declared.opening.Opening.{Opening}
use Rattle.hk_inst.specs.Inputs.{Table}
use Rattle.hk_inst.specs.Demanded.{IsRefutation, IsOpening}
use Rattle.hk_inst.specs.Demanded.IsRefutation.{ended, ranged}
use Rattle.hk_inst.specs.Demanded.IsMentioned.{part as its_part, place as its_place, refuted as its_refuted}
use Rattle.hk_inst.specs.Questions.{AreVariables}
use Rattle.hk_inst.specs.Origins.{Arises}
use Rattle.hk_inst.specs.Origins.Arises.{part as arises_part}
use Rattle.hk_inst.specs.Growing.{IsOurs}

-- ---- what a term reaches, by its node

pub reach-cases : (nodes : List Node) (R : ℕ → ℕ → Type 0) (Q : List Bound → Type 0) (t : ℕ) (n : Node) → slice_get nodes t ≡ Some n → Reaches nodes R Q t → (IsAsked R Q n) ⊎ ((a : ℕ) × (IsReached n a) × (Reaches nodes R Q a))
reach-cases nodes R Q t n e (own m f is) = inl (subst (IsAsked R Q) (same_Some m n (sym f ∙ e)) is)
reach-cases nodes R Q t n e (under m a f part r) = inr (a, subst (λ x. IsReached x a) (same_Some m n (sym f ∙ e)) part, r)

pub free-cases : (nodes : List Node) (size id t : ℕ) (n : Node) → slice_get nodes t ≡ Some n → Frees nodes size id t → (IsVariable size id n) ⊎ ((a : ℕ) × (binds n id ≡ false) × (IsReached n a) × (Frees nodes size id a))
free-cases nodes size id t n e (itself m f is) = inl (subst (IsVariable size id) (same_Some m n (sym f ∙ e)) is)
free-cases nodes size id t n e (within m a f off part r) =
    let same : m ≡ n = same_Some m n (sym f ∙ e) in
    inr (a, subst (λ x. binds x id ≡ false) same off, subst (λ x. IsReached x a) same part, r)

-- a part whose bits are used is reached, outside of quantifiers
part-reached : (n : Node) (k : ℕ) → IsPart n k → IsReached n k
part-reached (Const w x) k p = p
part-reached (Var w i) k p = p
part-reached (Select a w i) k p = absurd p
part-reached (Unary kind a) k p = p
part-reached (Binary kind a b) k p = p
part-reached (Choose c a b) k p = p
part-reached (Resize kind to a) k p = p
part-reached (ForAll b a) k p = absurd p

part-unbound : (n : Node) (k id : ℕ) → IsPart n k → binds n id ≡ false
part-unbound (Const w x) k id p = refl
part-unbound (Var w i) k id p = refl
part-unbound (Select a w i) k id p = refl
part-unbound (Unary kind a) k id p = refl
part-unbound (Binary kind a b) k id p = refl
part-unbound (Choose c a b) k id p = refl
part-unbound (Resize kind to a) k id p = refl
part-unbound (ForAll b a) k id p = absurd p

module _ (nodes : List Node) (goal : ℕ) (instances : List Instance) (table : Table) (first : ℕ) where
  pub ours-part : (t k : ℕ) (n : Node) → slice_get nodes t ≡ Some n → IsPart n k → IsOurs nodes goal instances table first t → IsOurs nodes goal instances table first k
  ours-part t k n at part h = record {
    mentioned = its_part t k n at part h.mentioned;
    reads = λ array size r. h.reads array size (under n k at (part-reached n k part) r);
    frees = λ size id r. h.frees size id (within n k at (part-unbound n k id part) (part-reached n k part) r);
  }

  pub ours-place : (t array size i : ℕ) → slice_get nodes t ≡ Some (Select array size i) → IsOurs nodes goal instances table first t → IsOurs nodes goal instances table first i
  ours-place t array size i at h = record {
    mentioned = its_place t array size i at h.mentioned;
    reads = λ a s r. h.reads a s (under _ i at refl r);
    frees = λ s id r. h.frees s id (within _ i at refl refl r);
  }

  pub ours-needs : (t k : ℕ) → Needs nodes t k → IsOurs nodes goal instances table first t → IsOurs nodes goal instances table first k
  ours-needs t _ needs_own h = h
  ours-needs t _ (needs_part u k n needs at part) h = ours-part u k n at part (ours-needs t u needs h)

-- what an arising term needs arises
pub arises-needs : (nodes : List Node) (goal : ℕ) (openings : List Opening) (demands : List ℕ) (t k : ℕ) → Needs nodes t k → Arises nodes goal openings demands t → Arises nodes goal openings demands k
arises-needs nodes goal openings demands t _ needs_own h = h
arises-needs nodes goal openings demands t _ (needs_part u k n needs at part) h = arises_part u k n at part (arises-needs nodes goal openings demands t u needs h)

-- ---- the term that is required of a quantifier

refutation-reads : (nodes : List Node) (array size b : ℕ) {bs : List Bound} {ss : List Stand} {d : ℕ} → IsRefutation nodes b bs ss d → Reads nodes array size d → Reads nodes array size b
refutation-reads nodes array size b {d = d} (ended no_ yes_ no_is yes_is is) r = by (reach-cases nodes _ _ d _ is r)
  where
    none : (t w x : ℕ) → slice_get nodes t ≡ Some (Const w x) → Reads nodes array size t → ⊥
    none t w x at h = off (reach-cases nodes _ _ t _ at h)
      where
        off : ⊥ ⊎ ((a : ℕ) × ⊥ × (Reads nodes array size a)) → ⊥
        off (inl e) = e
        off (inr p) = p.1

    by : ⊥ ⊎ ((a : ℕ) × ((a ≡ b) ⊎ ((a ≡ no_) ⊎ (a ≡ yes_))) × (Reads nodes array size a)) → Reads nodes array size b
    by (inl e) = absurd e
    by (inr (a, inl e, h)) = subst (Reads nodes array size) e h
    by (inr (a, inr (inl e), h)) = absurd (none no_ 1 0 no_is (subst (Reads nodes array size) e h))
    by (inr (a, inr (inr e), h)) = absurd (none yes_ 1 1 yes_is (subst (Reads nodes array size) e h))
refutation-reads nodes array size b {d = d} (ranged w id z most test rest no_ few z_is most_is test_is no_is is more) r = by (reach-cases nodes _ _ d _ is r) (refutation-reads nodes array size b more)
  where
    none : (t : ℕ) (n : Node) → slice_get nodes t ≡ Some n → IsAsked (λ a s. (a ≡ array) × (s ≡ size)) (λ b. ⊥) n ≡ ⊥ → ((k : ℕ) → IsReached n k → ⊥) → Reads nodes array size t → ⊥
    none t n at no_ask no_part h = off (reach-cases nodes _ _ t n at h)
      where
        off : (IsAsked (λ a s. (a ≡ array) × (s ≡ size)) (λ b. ⊥) n) ⊎ ((a : ℕ) × (IsReached n a) × (Reads nodes array size a)) → ⊥
        off (inl e) = subst (λ T. T) no_ask e
        off (inr p) = no_part p.0 p.1

    no_test : Reads nodes array size test → ⊥
    no_test h = off (reach-cases nodes _ _ test _ test_is h)
      where
        off : ⊥ ⊎ ((a : ℕ) × ((a ≡ z) ⊎ (a ≡ most)) × (Reads nodes array size a)) → ⊥
        off (inl e) = e
        off (inr (a, inl e, g)) = none z _ z_is refl (λ k p. p) (subst (Reads nodes array size) e g)
        off (inr (a, inr e, g)) = none most _ most_is refl (λ k p. p) (subst (Reads nodes array size) e g)

    by : ⊥ ⊎ ((a : ℕ) × ((a ≡ test) ⊎ ((a ≡ rest) ⊎ (a ≡ no_))) × (Reads nodes array size a)) → (Reads nodes array size rest → Reads nodes array size b) → Reads nodes array size b
    by (inl e) go = absurd e
    by (inr (a, inl e, h)) go = absurd (no_test (subst (Reads nodes array size) e h))
    by (inr (a, inr (inl e), h)) go = go (subst (Reads nodes array size) e h)
    by (inr (a, inr (inr e), h)) go = absurd (none no_ _ no_is refl (λ k p. p) (subst (Reads nodes array size) e h))

refutation-frees : (nodes : List Node) (size id b : ℕ) {bs : List Bound} {ss : List Stand} {d : ℕ} → IsRefutation nodes b bs ss d → (limit next : ℕ) → AreVariables limit next ss → Frees nodes size id d → (Frees nodes size id b) ⊎ ((limit ≤ id) × (size ≡ 64))
refutation-frees nodes size id b {d = d} (ended no_ yes_ no_is yes_is is) limit next h r = by (free-cases nodes size id d _ is r)
  where
    none : (t w x : ℕ) → slice_get nodes t ≡ Some (Const w x) → Frees nodes size id t → ⊥
    none t w x at g = off (free-cases nodes size id t _ at g)
      where
        off : ⊥ ⊎ ((a : ℕ) × (false ≡ false) × ⊥ × (Frees nodes size id a)) → ⊥
        off (inl e) = e
        off (inr p) = p.2

    by : ⊥ ⊎ ((a : ℕ) × (false ≡ false) × ((a ≡ b) ⊎ ((a ≡ no_) ⊎ (a ≡ yes_))) × (Frees nodes size id a)) → (Frees nodes size id b) ⊎ ((limit ≤ id) × (size ≡ 64))
    by (inl e) = absurd e
    by (inr (a, u, inl e, g)) = inl (subst (Frees nodes size id) e g)
    by (inr (a, u, inr (inl e), g)) = absurd (none no_ 1 0 no_is (subst (Frees nodes size id) e g))
    by (inr (a, u, inr (inr e), g)) = absurd (none yes_ 1 1 yes_is (subst (Frees nodes size id) e g))
refutation-frees nodes size id b {d = d} (ranged w i z most test rest no_ few z_is most_is test_is no_is is more) limit next h r =
    by (free-cases nodes size id d _ is r) (λ g. later (refutation-frees nodes size id b more (limit + 1) next h.2 g))
  where
    later : (Frees nodes size id b) ⊎ ((limit + 1 ≤ id) × (size ≡ 64)) → (Frees nodes size id b) ⊎ ((limit ≤ id) × (size ≡ 64))
    later (inl g) = inl g
    later (inr p) = inr (omega (arith, p.0), p.1)

    none : (t w x : ℕ) → slice_get nodes t ≡ Some (Const w x) → Frees nodes size id t → ⊥
    none t w x at g = off (free-cases nodes size id t _ at g)
      where
        off : ⊥ ⊎ ((a : ℕ) × (false ≡ false) × ⊥ × (Frees nodes size id a)) → ⊥
        off (inl e) = e
        off (inr p) = p.2

    own-variable : Frees nodes size id z → (Frees nodes size id b) ⊎ ((limit ≤ id) × (size ≡ 64))
    own-variable g = off (free-cases nodes size id z _ z_is g)
      where
        off : ((w ≡ size) × (i ≡ id)) ⊎ ((a : ℕ) × (false ≡ false) × ⊥ × (Frees nodes size id a)) → (Frees nodes size id b) ⊎ ((limit ≤ id) × (size ≡ 64))
        off (inl e) = inr (omega (arith, e.1, h.0), sym e.0 ∙ h.1)
        off (inr p) = absurd p.2

    its-test : Frees nodes size id test → (Frees nodes size id b) ⊎ ((limit ≤ id) × (size ≡ 64))
    its-test g = off (free-cases nodes size id test _ test_is g)
      where
        off : ⊥ ⊎ ((a : ℕ) × (false ≡ false) × ((a ≡ z) ⊎ (a ≡ most)) × (Frees nodes size id a)) → (Frees nodes size id b) ⊎ ((limit ≤ id) × (size ≡ 64))
        off (inl e) = absurd e
        off (inr (a, u, inl e, f)) = own-variable (subst (Frees nodes size id) e f)
        off (inr (a, u, inr e, f)) = absurd (none most _ _ most_is (subst (Frees nodes size id) e f))

    by : ⊥ ⊎ ((a : ℕ) × (false ≡ false) × ((a ≡ test) ⊎ ((a ≡ rest) ⊎ (a ≡ no_))) × (Frees nodes size id a)) → (Frees nodes size id rest → (Frees nodes size id b) ⊎ ((limit ≤ id) × (size ≡ 64))) → (Frees nodes size id b) ⊎ ((limit ≤ id) × (size ≡ 64))
    by (inl e) go = absurd e
    by (inr (a, u, inl e, g)) go = its-test (subst (Frees nodes size id) e g)
    by (inr (a, u, inr (inl e), g)) go = go (subst (Frees nodes size id) e g)
    by (inr (a, u, inr (inr e), g)) go = absurd (none no_ _ _ no_is (subst (Frees nodes size id) e g))

-- ---- what bound variables stand for

pub as-many : (nodes : List Node) (b : ℕ) {bs : List Bound} {ss : List Stand} {d : ℕ} → IsRefutation nodes b bs ss d → length bs ≡ length ss
as-many nodes b (ended no_ yes_ no_is yes_is is) = refl
as-many nodes b (ranged w i z most test rest no_ few z_is most_is test_is no_is is more) = ap suc (as-many nodes b more)

abbrev pub IsWide : ℕ → Stand → Type 0
IsWide limit (Number n) = ⊥
IsWide limit (Other w id) = (limit ≤ id) × (w ≡ 64)

wide-less : (limit more : ℕ) (s : Stand) → limit ≤ more → IsWide more s → IsWide limit s
wide-less limit more (Number n) l h = h
wide-less limit more (Other w id) l h = (omega (arith, l, h.0), h.1)

pub variables-wide : (limit next : ℕ) (ss : List Stand) → AreVariables limit next ss → All (IsWide limit) ss
variables-wide limit next [] h = All-nil (IsWide limit)
variables-wide limit next (Number n ∷ ss) h = absurd h
variables-wide limit next (Other w id ∷ ss) h =
    All-cons (IsWide limit) (Other w id) ss (omega (arith, h.0), h.1) (λ k d l. wide-less limit (limit + 1) (get_or ss k d) (omega arith) (variables-wide (limit + 1) next ss h.2 k d l))

pub standing-all : (P : Stand → Type 0) (bs : List Bound) (ss : List Stand) (env : Stands) → All (λ e. P e.1) env → All P ss → All (λ e. P e.1) (standing_on bs ss env)
standing-all P [] ss env all h = all
standing-all P (b ∷ bs) [] env all h = all
standing-all P (b ∷ bs) (s ∷ ss) env all h = standing-all P bs ss ((b.id, s) ∷ env) (All-cons (λ e. P e.1) (b.id, s) env (All-head P s ss h) all) (All-tail P s ss h)

pub not-bound : (bs : List Bound) (ss : List Stand) (env : Stands) (id : ℕ) → length bs ≡ length ss → lookup (nat_eq id) (standing_on bs ss env) ≡ None → (is_bound bs id ≡ false) × (lookup (nat_eq id) env ≡ None)
not-bound [] ss env id l e = (refl, e)
not-bound (b ∷ bs) [] env id l e = absurd (omega (arith, l))
not-bound (b ∷ bs) (s ∷ ss) env id l e = by (nat_eq id b.id) refl (not-bound bs ss ((b.id, s) ∷ env) id (omega (arith, l)) e)
  where
    none-some : ◌≡◌ {A = Option Stand} (Some s) None → ⊥
    none-some x = cc

    by : (c : Bool) → nat_eq id b.id ≡ c → (is_bound bs id ≡ false) × (cond (nat_eq id b.id) (Some s) (lookup (nat_eq id) env) ≡ None) → ((nat_eq id b.id || is_bound bs id) ≡ false) × (lookup (nat_eq id) env ≡ None)
    by true d r = absurd (none-some (sym (ap (λ c. cond c (Some s) (lookup (nat_eq id) env)) d) ∙ r.1))
    by false d r = (ap (λ c. c || is_bound bs id) d ∙ r.0, sym (ap (λ c. cond c (Some s) (lookup (nat_eq id) env)) d) ∙ r.1)

-- the required term of a quantifier of the question is of the question
pub opening-ours : (nodes : List Node) (goal : ℕ) (instances : List Instance) (table : Table) (first limit next : ℕ) (o : Opening) → IsOpening nodes o → Contains table.openings o → AreVariables limit next o.stands → first ≤ limit
    → IsOurs nodes goal instances table first o.term → IsOurs nodes goal instances table first o.demand
opening-ours nodes goal instances table first limit next o its c variables le h = record { mentioned = its_refuted o c h.mentioned; reads = reads; frees = frees }
  where
    none-read : (array size : ℕ) → Reads nodes array size its.choice.one → ⊥
    none-read array size r = off (reach-cases nodes _ _ its.choice.one _ its.choice.one_is r)
      where
        off : ⊥ ⊎ ((a : ℕ) × ⊥ × (Reads nodes array size a)) → ⊥
        off (inl e) = e
        off (inr p) = p.1

    none-free : (size id : ℕ) → Frees nodes size id its.choice.one → ⊥
    none-free size id r = off (free-cases nodes size id its.choice.one _ its.choice.one_is r)
      where
        off : ⊥ ⊎ ((a : ℕ) × (false ≡ false) × ⊥ × (Frees nodes size id a)) → ⊥
        off (inl e) = e
        off (inr p) = p.2

    reads : (array size : ℕ) → Reads nodes array size o.demand → Reads nodes array size goal
    reads array size r = by (reach-cases nodes _ _ o.demand _ its.choice.is r)
      where
        by : ⊥ ⊎ ((a : ℕ) × ((a ≡ o.term) ⊎ ((a ≡ its.choice.one) ⊎ (a ≡ its.choice.rest))) × (Reads nodes array size a)) → Reads nodes array size goal
        by (inl e) = absurd e
        by (inr (a, inl e, g)) = h.reads array size (subst (Reads nodes array size) e g)
        by (inr (a, inr (inl e), g)) = absurd (none-read array size (subst (Reads nodes array size) e g))
        by (inr (a, inr (inr e), g)) =
            h.reads array size (under _ its.body its.at refl (copies-reach nodes _ _ its.copies (refutation-reads nodes array size o.copy its.choice.refutation (subst (Reads nodes array size) e g))))

    freed : (size id : ℕ) → IsFreed nodes size id (standing its.bound o.stands) its.body → (Frees nodes size id goal) ⊎ ((first ≤ id) × (size ≡ 64))
    freed size id (inl p) = h.frees size id (within _ its.body its.at (not-bound its.bound o.stands [] id (as-many nodes o.copy its.choice.refutation) p.1).0 refl p.0)
    freed size id (inr s) =
        let wide : All (λ e. IsWide limit e.1) (standing its.bound o.stands) = standing-all (IsWide limit) its.bound o.stands [] (All-nil (λ e. IsWide limit e.1)) (variables-wide limit next o.stands variables) in
        let r : (i : ℕ) × ((limit ≤ id) × (size ≡ 64)) = lookup-all (λ e. IsWide limit e.1) (standing its.bound o.stands) s.instead (Other size id) wide s.stand in
        inr (omega (arith, le, r.1.0), r.1.1)

    frees : (size id : ℕ) → Frees nodes size id o.demand → (Frees nodes size id goal) ⊎ ((first ≤ id) × (size ≡ 64))
    frees size id r = by (free-cases nodes size id o.demand _ its.choice.is r)
      where
        inside : (Frees nodes size id o.copy) ⊎ ((limit ≤ id) × (size ≡ 64)) → (Frees nodes size id goal) ⊎ ((first ≤ id) × (size ≡ 64))
        inside (inl g) = freed size id (copies-free nodes size id its.copies g)
        inside (inr p) = inr (omega (arith, le, p.0), p.1)

        by : ⊥ ⊎ ((a : ℕ) × (false ≡ false) × ((a ≡ o.term) ⊎ ((a ≡ its.choice.one) ⊎ (a ≡ its.choice.rest))) × (Frees nodes size id a)) → (Frees nodes size id goal) ⊎ ((first ≤ id) × (size ≡ 64))
        by (inl e) = absurd e
        by (inr (a, u, inl e, g)) = h.frees size id (subst (Frees nodes size id) e g)
        by (inr (a, u, inr (inl e), g)) = absurd (none-free size id (subst (Frees nodes size id) e g))
        by (inr (a, u, inr (inr e), g)) = inside (refutation-frees nodes size id o.copy its.choice.refutation limit next variables (subst (Frees nodes size id) e g))
