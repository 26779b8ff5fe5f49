-- The variables that stand for a tuple: what a copy asks of them.
use Rattle.std.proofs.Common.{◌≡◌, ◌⊎◌, inl, inr, ℕ, suc, ◌+◌, ◌<◌, ◌≤◌, ◌++◌, ◌||◌, true, false, nat_eq, nat_lt, List, [], ◌∷◌, length, reverse, Some, refl, sym, ◌∙◌, ap, subst, arith, get_or}
use Rattle.std.specs.Prelude.{slice_get}
use Rattle.std.specs.List.{All, list_all}
use Rattle.std.specs.Map.{lookup}
use Rattle.std.proofs.lemmas.Bool.{ne_eqb, ltb-true, lt-ltb, cases_lt}
use Rattle.std.proofs.lemmas.Option.{same_Some}
use Rattle.std.proofs.lemmas.List.{append_assoc, reverse-append}
use Rattle.std.proofs.lemmas.List.Elements.{All-nil, All-cons}
use Rattle.hk_term.specs.declared.bounds.Bound.{Bound}
use Rattle.hk_term.specs.declared.node.Node.{Node}
use Rattle.hk_term.specs.declared.node.Node.TheVariants.{Const, Var, Select, Unary, Binary, Choose, Resize, ForAll}
use Rattle.hk_copy.specs.declared.stand.Stand.{Stand}
use Rattle.hk_copy.specs.declared.stand.Stand.TheVariants.{Number, Other}
use Rattle.hk_copy.specs.Stands.{Stands, is_bound, IsApart, HasWidth, standing_on, standing}
use Rattle.hk_copy.specs.Copies.{AreReady}
use Rattle.hk_copy.specs.Reach.{passes, AllPass, StandsPass, IsVariable, Frees}
use Rattle.hk_copy.specs.Reach.Frees.{itself, within}
use Rattle.hk_copy.proofs.ReadingLaws.{lookup-all}
use Rattle.hk_inst.specs.Questions.{AreVariables, wide_from, pairs_from}
use Rattle.hk_inst.specs.Growing.{ids_below}
use Rattle.hk_inst.proofs.Tuples.{both-first, both-second, both}
use Rattle.hk_inst.proofs.OurTerms.{IsWide, variables-wide, standing-all}

pub wide-variables : (bs : List Bound) (first : ℕ) → AreVariables first (first + length bs) (wide_from bs first)
wide-variables [] first = omega arith
wide-variables (b ∷ bs) first =
    let more : first + 1 + length bs ≡ first + suc (length bs) = omega arith in
    (refl, refl, subst (λ n. AreVariables (first + 1) n (wide_from bs (first + 1))) more (wide-variables bs (first + 1)))

-- one pair more stands at the end
pub standing-behind : (bs : List Bound) (ss : List Stand) (env : Stands) → length bs ≡ length ss → standing_on bs ss env ≡ standing_on bs ss [] ++ env
standing-behind [] ss env e = refl
standing-behind (b ∷ bs) [] env e = absurd (omega (arith, e))
standing-behind (b ∷ bs) (s ∷ ss) env e =
    standing-behind bs ss ((b.id, s) ∷ env) (omega (arith, e)) ∙ sym (append_assoc (standing_on bs ss []) ((b.id, s) ∷ []) env)
    ∙ ap (λ l. l ++ env) (sym (standing-behind bs ss ((b.id, s) ∷ []) (omega (arith, e))))

pub wide-length : (bs : List Bound) (first : ℕ) → length bs ≡ length (wide_from bs first)
wide-length [] first = refl
wide-length (b ∷ bs) first = ap suc (wide-length bs (first + 1))

pub wide-pairs : (bs : List Bound) (first : ℕ) → All (λ e. IsWide first e.1) (standing bs (wide_from bs first))
wide-pairs bs first = standing-all (IsWide first) bs (wide_from bs first) [] (All-nil (λ e. IsWide first e.1)) (variables-wide first (first + length bs) (wide_from bs first) (wide-variables bs first))

below-unbound : (bs : List Bound) (first id : ℕ) → list_all (λ b. nat_lt b.id first) bs ≡ true → first ≤ id → is_bound bs id ≡ false
below-unbound [] first id h l = refl
below-unbound (b ∷ bs) first id h l =
    let under : b.id < first = ltb-true b.id first (both-first (nat_lt b.id first) (list_all (λ c. nat_lt c.id first) bs) h) in
    ap (λ c. c || is_bound bs id) (ne_eqb id b.id (λ e. absurd (omega (arith, e, under, l)))) ∙ below-unbound bs first id (both-second (nat_lt b.id first) (list_all (λ c. nat_lt c.id first) bs) h) l

wide-apart : (bs : List Bound) (first : ℕ) → list_all (λ b. nat_lt b.id first) bs ≡ true → (s : Stand) → IsWide first s → IsApart bs s
wide-apart bs first h (Number n) w = absurd w
wide-apart bs first h (Other width id) w = below-unbound bs first id h w.0

wide-width : (first : ℕ) (s : Stand) → IsWide first s → HasWidth s
wide-width first (Number n) w = absurd w
wide-width first (Other width id) w = (omega (arith, w.1), omega (arith, w.1))

-- a copy at such variables may be asked for
pub wide-ready : (nodes : List Node) (bs : List Bound) (first limit : ℕ) (pairs : Stands) → AllPass (ids_below first) nodes → pairs ≡ standing bs (wide_from bs first) → AreReady nodes pairs limit
wide-ready nodes bs first limit pairs ids same = subst (λ e. AreReady nodes e limit) (sym same) (record {
  widths = λ k d l. wide-width first (get_or (standing bs (wide_from bs first)) k d).1 (wide-pairs bs first k d l);
  apart = λ k bound inner h at j d l. wide-apart bound first (ids k (ForAll bound inner) at) (get_or (standing bs (wide_from bs first)) j d).1 (wide-pairs bs first j d l);
})

-- all ids below one are below a later one
pub bounds-more : (first next : ℕ) → first ≤ next → (bs : List Bound) → list_all (λ b. nat_lt b.id first) bs ≡ true → list_all (λ b. nat_lt b.id next) bs ≡ true
bounds-more first next l [] e = refl
bounds-more first next l (b ∷ bs) e =
    let under : b.id < first = ltb-true b.id first (both-first (nat_lt b.id first) (list_all (λ c. nat_lt c.id first) bs) e) in
    both (nat_lt b.id next) (list_all (λ c. nat_lt c.id next) bs) (lt-ltb b.id next (omega (arith, under, l))) (bounds-more first next l bs (both-second (nat_lt b.id first) (list_all (λ c. nat_lt c.id first) bs) e))

pub passes-more : (first next : ℕ) → first ≤ next → (m : Node) → passes (ids_below first) m ≡ true → passes (ids_below next) m ≡ true
passes-more first next l (Const w x) e = refl
passes-more first next l (Var w i) e = let under : i < first = ltb-true i first e in lt-ltb i next (omega (arith, under, l))
passes-more first next l (Select a w i) e = refl
passes-more first next l (Unary kind a) e = refl
passes-more first next l (Binary kind a b) e = refl
passes-more first next l (Choose c a b) e = refl
passes-more first next l (Resize kind to a) e = refl
passes-more first next l (ForAll bound inner) e = bounds-more first next l bound e

pub ids-more : (nodes : List Node) (first next : ℕ) → first ≤ next → AllPass (ids_below first) nodes → AllPass (ids_below next) nodes
ids-more nodes first next l h k n at = passes-more first next l n (h k n at)

-- the first nodes pass, and one more
pub ids-next : (nodes : List Node) (i first next : ℕ) (m : Node) → ((k : ℕ) (n : Node) → k < i → slice_get nodes k ≡ Some n → passes (ids_below first) n ≡ true) → first ≤ next → slice_get nodes i ≡ Some m → passes (ids_below next) m ≡ true
    → (k : ℕ) (n : Node) → k < i + 1 → slice_get nodes k ≡ Some n → passes (ids_below next) n ≡ true
ids-next nodes i first next m h l at e k n b other = by (cases_lt k i)
  where
    by : (k < i) ⊎ (i ≤ k) → passes (ids_below next) n ≡ true
    by (inl c) = passes-more first next l n (h k n c other)
    by (inr c) =
        let last : k ≡ i = omega (arith, b, c) in
        subst (λ x. passes (ids_below next) x ≡ true) (same_Some m n (sym at ∙ ap (slice_get nodes) (sym last) ∙ other)) e

-- a free variable of a term is below
pub free-below : (nodes : List Node) (first size id t : ℕ) → AllPass (ids_below first) nodes → Frees nodes size id t → id < first
free-below nodes first size id t h (itself n at is) = by n is (h t n at)
  where
    by : (m : Node) → IsVariable size id m → passes (ids_below first) m ≡ true → id < first
    by (Const w x) v e = absurd v
    by (Var w i) v e = let under : i < first = ltb-true i first e in omega (arith, under, v.1)
    by (Select a w i) v e = absurd v
    by (Unary kind a) v e = absurd v
    by (Binary kind a b) v e = absurd v
    by (Choose c a b) v e = absurd v
    by (Resize kind to a) v e = absurd v
    by (ForAll bound inner) v e = absurd v
free-below nodes first size id t h (within n a at off part r) = free-below nodes first size id a h r

abbrev IsBelow : ℕ → Stand → Type 0
IsBelow next (Number n) = ⊥
IsBelow next (Other w id) = id < next

-- and so they pass
pub wide-pass : (bs : List Bound) (first : ℕ) (pairs : Stands) → pairs ≡ standing bs (wide_from bs first) → StandsPass (ids_below (first + length bs)) pairs
wide-pass bs first pairs same i size id e =
    lt-ltb id (first + length bs)
    (lookup-all (λ p. IsBelow (first + length bs) p.1) (standing bs (wide_from bs first)) i (Other size id) (standing-all (IsBelow (first + length bs)) bs (wide_from bs first) [] (All-nil (λ p. IsBelow (first + length bs) p.1)) (belows bs first)) (ap (lookup (nat_eq i)) (sym same) ∙ e)).1
  where
    belows : (cs : List Bound) (from : ℕ) → All (IsBelow (from + length cs)) (wide_from cs from)
    belows [] from = All-nil (IsBelow (from + 0))
    belows (c ∷ cs) from =
        let more : from + 1 + length cs ≡ from + suc (length cs) = omega arith in
        All-cons (IsBelow (from + suc (length cs))) (Other 64 from) (wide_from cs (from + 1)) (omega arith) (subst (λ n. All (IsBelow n) (wide_from cs (from + 1))) more (belows cs (from + 1)))

pub pairs-turned : (bs : List Bound) (first : ℕ) → reverse (pairs_from bs first) ≡ standing bs (wide_from bs first)
pairs-turned [] first = refl
pairs-turned (b ∷ bs) first =
    reverse-append ((b.id, Other 64 first) ∷ []) (pairs_from bs (first + 1)) ∙ ap (λ l. l ++ (b.id, Other 64 first) ∷ []) (pairs-turned bs (first + 1))
    ∙ sym (standing-behind bs (wide_from bs (first + 1)) ((b.id, Other 64 first) ∷ []) (wide-length bs (first + 1)))
