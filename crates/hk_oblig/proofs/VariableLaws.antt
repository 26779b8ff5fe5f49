-- Arguments as variables.
use Rattle.std.proofs.Common.{◌≡◌, ◌<◌, ◌≤◌, ◌+◌, ◌%◌, ◌^◌, ℕ, zero, suc, List, [], ◌∷◌, ◌++◌, length, drop, drop-cons, add-one, get_or, refl, sym, ap, ◌∙◌, subst, arith, append_assoc}
use Rattle.hk_term.specs.Meaning.{Reading, value}
use Rattle.hk_term.specs.declared.node.Node.{Node}
use Rattle.hk_symvalue.specs.Growth.{Extends}
use Rattle.hk_symvalue.proofs.Frames.{unchanged, followed}
use Rattle.hk_symvalue.specs.Meaning.{IsWord}
use Rattle.hk_symexpr.specs.Sources.{Agrees}
use Rattle.hk_symspec.specs.States.{numbers_at}
use Rattle.hk_symspec.specs.Standing.{formula_base}
use Rattle.hk_symspec.specs.Steps.{AreArgumentTerms}
use Rattle.hk_oblig.specs.Cases.{arguments_from, arguments_at}
use Rattle.hk_oblig.specs.Under.{AreNumbersAt}

-- what is left of the variables, in any longer list, ends as the whole does
pub record Varied (nodes : List Node) (terms : List ℕ) (id : ℕ) (left whole : List ℕ) : Type 0 where
  pub rest : (new : List Node) (more : List ℕ) → Extends nodes new → AreArgumentTerms new left more → AreArgumentTerms new whole (terms ++ more)
  pub numbers : (new : List Node) (more : List ℕ) (v : Reading) → Extends nodes new → numbers_at new more v ≡ arguments_from id left v.var
      → numbers_at new (terms ++ more) v ≡ arguments_at whole v.var

pub none_varied : (nodes : List Node) (whole : List ℕ) → Varied nodes [] 0 whole whole
none_varied nodes whole = record { rest = λ new more g a. a; numbers = λ new more v g e. e }

pub one_varied : (old new : List Node) (terms : List ℕ) (term id w : ℕ) (left whole : List ℕ) → Extends old new → IsWord new w term → ((v : Reading) → value new term v ≡ v.var id % 2 ^ w)
    → Varied old terms id (w ∷ left) whole → Varied new (terms ++ term ∷ []) (id + 1) left whole
one_varied old new terms term id w left whole grown word is h = record { rest = rest; numbers = numbers }
  where
    joined : (more : List ℕ) → terms ++ term ∷ more ≡ (terms ++ term ∷ []) ++ more
    joined more = sym (append_assoc terms (term ∷ []) more)

    rest : (next : List Node) (more : List ℕ) → Extends new next → AreArgumentTerms next left more → AreArgumentTerms next whole ((terms ++ term ∷ []) ++ more)
    rest next more g a =
        subst (AreArgumentTerms next whole) (joined more)
        (h.rest next (term ∷ more) (followed old new next grown g) (omega (arith, word.0, g.longer), g.widths term word.0 ∙ word.1, a))

    numbers : (next : List Node) (more : List ℕ) (v : Reading) → Extends new next → numbers_at next more v ≡ arguments_from (id + 1) left v.var
        → numbers_at next ((terms ++ term ∷ []) ++ more) v ≡ arguments_at whole v.var
    numbers next more v g e =
        ap (λ l. numbers_at next l v) (sym (joined more))
        ∙ h.numbers next (term ∷ more) v (followed old new next grown g) (λ i. (g.values term word.0 v ∙ is v) i ∷ e i)

-- variables with ids below those of formulas are steady
below : (ws : List ℕ) (first : ℕ) (v u : Reading) → first + length ws ≤ formula_base → Agrees formula_base v u → arguments_from first ws u.var ≡ arguments_from first ws v.var
below [] first v u low a = refl
below (w ∷ ws) first v u low a =
    λ i. a.var first (omega (arith, low)) i % 2 ^ w ∷ below ws (first + 1) v u (omega (arith, low)) a i

nothing_more : (xs : List ℕ) → xs ++ [] ≡ xs
nothing_more [] = refl
nothing_more (x ∷ xs) = ap (λ l. x ∷ l) (nothing_more xs)

pub all_terms : (nodes : List Node) (terms : List ℕ) (id : ℕ) (left whole : List ℕ) → left ≡ [] → Varied nodes terms id left whole → AreArgumentTerms nodes whole terms
all_terms nodes terms id left whole none h =
    subst (AreArgumentTerms nodes whole) (nothing_more terms) (h.rest nodes [] (unchanged nodes) (subst (λ l. AreArgumentTerms nodes l []) (sym none) refl))

pub all_numbers : (nodes : List Node) (terms : List ℕ) (id : ℕ) (left whole : List ℕ) → left ≡ [] → length whole ≤ formula_base → Varied nodes terms id left whole → (v : Reading)
    → AreNumbersAt nodes terms v (arguments_at whole v.var)
all_numbers nodes terms id left whole none few h v = record { same = each v; steady = λ u a. each u ∙ below whole 0 v u (omega (arith, few)) a ∙ sym (each v) }
  where
    each : (u : Reading) → numbers_at nodes terms u ≡ arguments_at whole u.var
    each u =
        ap (λ l. numbers_at nodes l u) (sym (nothing_more terms))
        ∙ h.numbers nodes [] u (unchanged nodes) (ap (λ l. arguments_from id l u.var) (sym none))

-- ---- the loop over widths

pub next_width : (ws : List ℕ) (k w : ℕ) → w ≡ get_or ws k w → k < length ws → drop k ws ≡ w ∷ drop (k + 1) ws
next_width ws k w is low = drop-cons ws k w low ∙ ap (λ x. x ∷ drop (suc k) ws) (sym is) ∙ ap (λ q. w ∷ drop q ws) (sym (add-one k))

pub no_width : (ws : List ℕ) (k : ℕ) → length ws ≤ k → drop k ws ≡ []
no_width [] zero l = refl
no_width [] (suc k) l = refl
no_width (x ∷ ws) zero l = absurd (omega (arith, l))
no_width (x ∷ ws) (suc k) l = no_width ws k (omega (arith, l))
