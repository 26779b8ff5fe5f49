-- Copies at a tuple: the bound variables of a quantifier stand for numbers, or for other variables.
use Rattle.std.proofs.Common.{◌≡◌, ℕ, List, [], ◌∷◌, map, reverse, arith, refl, ◌∙◌, ap}
use Rattle.std.specs.List.{All}
use Rattle.std.proofs.lemmas.List.Elements.{All-cons}
use Rattle.hk_term.specs.Shape.{AllFitIn}
use Rattle.hk_term.specs.Meaning.{Reading, value}
use Rattle.hk_term.specs.declared.bounds.Bound.{Bound}
use Rattle.hk_term.specs.declared.node.Node.{Node}
use Rattle.hk_copy.specs.declared.stand.Stand.{Stand}
use Rattle.hk_copy.specs.declared.stand.Stand.TheVariants.{Number}
use Rattle.hk_copy.specs.Stands.{Stands, stand_value, IsApart, HasWidth, standing_on, standing, with_tuple}
use Rattle.hk_copy.specs.Copies.{Copies, AreReady}
use Rattle.hk_copy.proofs.ReadingLaws.{replaced-tuple}
use Rattle.hk_copy.proofs.CopyLaws.{copies-value}

-- the copy of a body has the value of the body at the tuple of what its variables stand for
pub copies-tuple : (nodes : List Node) → AllFitIn (reverse nodes) → (bs : List Bound) (ss : List Stand) (t r : ℕ) → Copies nodes (standing bs ss) t r → (v : Reading) → value nodes r v ≡ value nodes t (with_tuple bs (map (stand_value v) ss) v)
copies-tuple nodes fit bs ss t r c v = copies-value nodes fit c v ∙ ap (value nodes t) (replaced-tuple bs ss v)

-- numbers stand for themselves
pub numbers-tuple : (ks : List ℕ) (v : Reading) → map (stand_value v) (map Number ks) ≡ ks
numbers-tuple [] v = refl
numbers-tuple (k ∷ ks) v = ap (λ l. k ∷ l) (numbers-tuple ks v)

numbers-all : (P : ℕ × Stand → Type 0) → ((i n : ℕ) → P (i, Number n)) → (bs : List Bound) (ks : List ℕ) (env : Stands) → All P env → All P (standing_on bs (map Number ks) env)
numbers-all P h [] ks env all = all
numbers-all P h (b ∷ bs) [] env all = all
numbers-all P h (b ∷ bs) (k ∷ ks) env all =
    numbers-all P h bs ks ((b.id, Number k) ∷ env) (All-cons P (b.id, Number k) env (h b.id k) all)

-- a copy at a tuple of numbers may always be asked for
pub ready-numbers : (nodes : List Node) (bs : List Bound) (ks : List ℕ) (limit : ℕ) → AreReady nodes (standing bs (map Number ks)) limit
ready-numbers nodes bs ks limit = record {
  widths = numbers-all (λ e. HasWidth e.1) (λ i n. tt) bs ks [] (λ k d h. absurd (omega arith));
  apart = λ k bound body l at. numbers-all (λ e. IsApart bound e.1) (λ i n. tt) bs ks [] (λ j d h. absurd (omega arith));
}
