-- The cost of a term over lists that grow, and the cost of a copy.
use Rattle.std.proofs.Common.{◌≡◌, ℕ, ◌+◌, ◌*◌, ◌<◌, ◌≤◌, ◌++◌, false, cond, nat_eq, List, [], ◌∷◌, length, reverse, Some, arith, refl, sym, ◌∙◌, ap}
use Rattle.std.specs.List.{slice_get}
use Rattle.std.proofs.lemmas.List.{append-nil, append_assoc, length-append, length-reverse}
use Rattle.std.proofs.lemmas.Bool.{eq-eqb, ne_eqb}
use Rattle.std.proofs.Math.Nat.{mul-le-mul_left}
use Rattle.hk_term.specs.Shape.{width, NodeFits, AllFitIn, Grows}
use Rattle.hk_term.specs.declared.node.Node.{Node}
use Rattle.hk_term.specs.declared.node.Node.TheVariants.{Const, Var, Select, Unary, Binary, Choose, Resize, ForAll}
use Rattle.hk_term.proofs.TermLists.{reverse-push, holds, parts}
use Rattle.hk_copy.specs.Stands.{Stands}
use Rattle.hk_copy.specs.Copies.{Copies}
use Rattle.hk_copy.specs.Copies.Copies.{constant, plain, stands, resized, select, unary, binary, choose, resize, quantifier}
use Rattle.hk_copy.specs.Cost.{tuples, node_cost, cost_in, cost}

pub cost-new : (ns : List Node) (n : Node) → cost (ns ++ n ∷ []) (length ns) ≡ node_cost n (cost ns)
unfolding cost_in
cost-new ns n =
    ap (λ l. cost_in l (length ns)) (reverse-push ns n)
    ∙ ap (λ b. cond b (node_cost n (cost ns)) (cost ns (length ns))) (eq-eqb (length ns) (length (reverse ns)) (sym (length-reverse ns)))

pub cost-push : (ns : List Node) (n : Node) (k : ℕ) → k < length ns → cost (ns ++ n ∷ []) k ≡ cost ns k
unfolding cost_in
cost-push ns n k h =
    let earlier : nat_eq k (length (reverse ns)) ≡ false = ne_eqb k (length (reverse ns)) (λ e. let same : length (reverse ns) ≡ length ns = length-reverse ns in omega arith) in
    ap (λ l. cost_in l k) (reverse-push ns n) ∙ ap (λ b. cond b (node_cost n (cost ns)) (cost ns k)) earlier

-- a term costs the same in a longer list
pub cost-grows : (ns more : List Node) (k : ℕ) → k < length ns → cost (ns ++ more) k ≡ cost ns k
cost-grows ns [] k h = ap (λ l. cost l k) (append-nil ns)
cost-grows ns (m ∷ more) k h =
    ap (λ l. cost l k) (sym (append_assoc ns (m ∷ []) more))
    ∙ cost-grows (ns ++ m ∷ []) more k (omega (arith, length-append ns (m ∷ [])))
    ∙ cost-push ns m k h

pub cost-longer : (old new : List Node) → Grows old new → (k : ℕ) → k < length old → cost new k ≡ cost old k
cost-longer old new g k h = ap (λ l. cost l k) g.is ∙ cost-grows old g.more k h

-- a node's cost depends on its parts alone
node_cost-same : (n : Node) (t : ℕ) (w c d : ℕ → ℕ) → ((k : ℕ) → k < t → c k ≡ d k) → NodeFits t w n → node_cost n c ≡ node_cost n d
node_cost-same (Const width number) t w c d e fits = refl
node_cost-same (Var width id) t w c d e fits = refl
node_cost-same (Select array width index) t w c d e fits = λ i. 1 + e index fits.1 i
node_cost-same (Unary kind a) t w c d e fits = e a fits
node_cost-same (Binary kind a b) t w c d e fits = λ i. e a fits.0 i + e b fits.1 i
node_cost-same (Choose z a b) t w c d e fits = λ i. e z fits.0 i + e a fits.1 i + e b fits.2 i
node_cost-same (Resize kind to a) t w c d e fits = e a fits.0
node_cost-same (ForAll bound body) t w c d e fits = λ i. 1 + (tuples bound + 1) * (1 + e body fits.0 i)

-- the cost of a term is that of its node over the costs of the list
pub cost_is : (ns : List Node) → AllFitIn (reverse ns) → (t : ℕ) (n : Node) → slice_get ns t ≡ Some n → cost ns t ≡ node_cost n (cost ns)
cost_is ns fit t n at =
    let p = parts ns t n at in
    let all : ns ≡ (p.older ++ n ∷ []) ++ p.later = p.is ∙ sym (append_assoc p.older (n ∷ []) p.later) in
    let last : length p.older < length (p.older ++ n ∷ []) = omega (arith, length-append p.older (n ∷ [])) in
    let here : cost ns t ≡ node_cost n (cost p.older) =
    ap (cost ns) (sym p.place) ∙ ap (λ l. cost l (length p.older)) all ∙ cost-grows (p.older ++ n ∷ []) p.later (length p.older) last ∙ cost-new p.older n in
    here
    ∙ node_cost-same n t (width ns) (cost p.older) (cost ns)
    (λ k h. sym (ap (λ l. cost l k) p.is ∙ cost-grows p.older (n ∷ p.later) k (omega (arith, h, p.place))))
    (holds ns t n fit at).fits

more_tuples : (n a b : ℕ) → a ≤ b → 1 + n * (1 + a) ≤ 1 + n * (1 + b)
more_tuples n a b h =
    let next : 1 + a ≤ 1 + b = omega arith in
    omega (arith, mul-le-mul_left n next)

-- a copy costs no more than its term
pub copies-cost : (nodes : List Node) → AllFitIn (reverse nodes) → {env : Stands} {t r : ℕ} → Copies nodes env t r → cost nodes r ≤ cost nodes t
copies-cost nodes fit {env} {t} {r} (constant n within at is) = omega (arith, cost_is nodes fit r _ at)
copies-cost nodes fit {env} {t} {r} (plain size id from to none) = omega (arith, cost_is nodes fit r _ to)
copies-cost nodes fit {env} {t} {r} (stands size id other from found to) = omega (arith, cost_is nodes fit r _ to)
copies-cost nodes fit {env} {t} {r} (resized size id wide other kind p from found its to cut) =
    omega (arith, cost_is nodes fit r _ to, cost_is nodes fit p _ its)
copies-cost nodes fit {env} {t} {r} (select array size i j from to index) =
    omega (arith, cost_is nodes fit r _ to, cost_is nodes fit t _ from, copies-cost nodes fit index)
copies-cost nodes fit {env} {t} {r} (unary kind a x from to first) =
    omega (arith, cost_is nodes fit r _ to, cost_is nodes fit t _ from, copies-cost nodes fit first)
copies-cost nodes fit {env} {t} {r} (binary kind a b x y from to first second) =
    omega (arith, cost_is nodes fit r _ to, cost_is nodes fit t _ from, copies-cost nodes fit first, copies-cost nodes fit second)
copies-cost nodes fit {env} {t} {r} (choose c a b z x y from to test first second) =
    omega (arith, cost_is nodes fit r _ to, cost_is nodes fit t _ from, copies-cost nodes fit test, copies-cost nodes fit first, copies-cost nodes fit second)
copies-cost nodes fit {env} {t} {r} (resize kind to a x from at first) =
    omega (arith, cost_is nodes fit r _ at, cost_is nodes fit t _ from, copies-cost nodes fit first)
copies-cost nodes fit {env} {t} {r} (quantifier bound a x from to apart body) =
    let more : 1 + (tuples bound + 1) * (1 + cost nodes x) ≤ 1 + (tuples bound + 1) * (1 + cost nodes a) =
    more_tuples (tuples bound + 1) (cost nodes x) (cost nodes a) (copies-cost nodes fit body) in
    omega (arith, cost_is nodes fit r _ to, cost_is nodes fit t _ from, more)
