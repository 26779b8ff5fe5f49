-- How many entries of arrays are read, by how many inputs are.
use Rattle.std.proofs.Common.{◌≡◌, ◌≤◌, ◌+◌, ℕ, Bool, true, false, cond, List, [], ◌∷◌, ◌++◌, length, sym, subst, arith}
use Rattle.std.specs.Prelude.{filter}
use Rattle.hk_term.specs.Shape.{Grows}
use Rattle.hk_term.specs.Inputs.{is_input, inputs_in}
use Rattle.hk_term.specs.declared.node.Node.{Node}
use Rattle.hk_term.specs.declared.node.Node.TheVariants.{Const, Var, Select, Unary, Binary, Choose, Resize, ForAll}
use Rattle.hk_cells.specs.Growth.{Extends, is_select, selects_in}
use Rattle.hk_cells.proofs.Frames.{whole_growth}

-- how many of a list, and of another behind it
counted : (p : Node → Bool) (xs ys : List Node) → length (filter p (xs ++ ys)) ≡ length (filter p xs) + length (filter p ys)
counted p [] ys = none (length (filter p ys))
  where
    none : (n : ℕ) → n ≡ 0 + n
    none n = omega arith
counted p (x ∷ xs) ys = by (p x) (counted p xs ys)
  where
    by : (b : Bool) → length (filter p (xs ++ ys)) ≡ length (filter p xs) + length (filter p ys)
        → length (cond b (x ∷ filter p (xs ++ ys)) (filter p (xs ++ ys))) ≡ length (cond b (x ∷ filter p xs) (filter p xs)) + length (filter p ys)
    by true e = omega (arith, e)
    by false e = e

-- entries are inputs
fewer : (ns : List Node) → length (filter is_select ns) ≤ length (filter is_input ns)
fewer [] = omega arith
fewer (Const w n ∷ ns) = fewer ns
fewer (Var w i ∷ ns) = let f = fewer ns in omega (arith, f)
fewer (Select a w i ∷ ns) = let f = fewer ns in omega (arith, f)
fewer (Unary k a ∷ ns) = fewer ns
fewer (Binary k a b ∷ ns) = fewer ns
fewer (Choose c a b ∷ ns) = fewer ns
fewer (Resize k t a ∷ ns) = fewer ns
fewer (ForAll b t ∷ ns) = let f = fewer ns in omega (arith, f)

few : (old more : List Node) (n : ℕ) → length (inputs_in (old ++ more)) ≤ length (inputs_in old) + n → selects_in (old ++ more) ≤ selects_in old + n
few old more n l = let a = counted is_input old more in let b = counted is_select old more in let c = fewer more in omega (arith, l, a, b, c)

pub few_selects : (old new : List Node) (n : ℕ) → Extends old new → length (inputs_in new) ≤ length (inputs_in old) + n → selects_in new ≤ selects_in old + n
few_selects old new n e l =
    let g : Grows old new = whole_growth old new e in
    subst (λ ns. selects_in ns ≤ selects_in old + n) (sym g.is) (few old g.more n (subst (λ ns. length (inputs_in ns) ≤ length (inputs_in old) + n) g.is l))
