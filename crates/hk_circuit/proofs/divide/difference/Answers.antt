use Rattle.std.proofs.Common.{◌≡◌, ◌<◌, ◌+◌, ◌-◌, ◌*◌, ◌^◌, ◌&&◌, nat_eq, ℕ, ℤ, Bool, List, length, take, drop, get_or, All, subst, sym, ◌∙◌, ap}
use Rattle.std.proofs.lemmas.List.Elements.{All-take}
use Rattle.hk_cnf.specs.Literal.{IsWithin, IsLiteral}
use Rattle.hk_cnf.specs.Circuit.{gate_value}
use Rattle.hk_circuit.specs.Words.{bit, gate_number}
use Rattle.hk_circuit.proofs.WordNumbers.{words, number-below, front-below}
use Rattle.hk_circuit.proofs.WordArithmetic.{number-split}
use Rattle.hk_circuit.proofs.LongDivision.{fits-is, fitting-is}
use Rattle.hk_circuit.proofs.divide.difference.Goals as goal

pub add_with_carry-requires-clause-second : goal.add_with_carry-requires-clause-second
add_with_carry-requires-clause-second c =
    let n : ℕ = c.args.gates.now.vars in
    subst (λ ls. All (IsWithin n) ls) (sym c.as_slice.ensures.value)
    (c.in_ok-other.ensures.within n (subst (λ ls. All (IsWithin n) ls) (sym c.split_at.ensures.front) (All-take (IsWithin n) (length c.args.a.now) c.args.b.now c.requires.second)))

pub returns-clause-fits : goal.returns-clause-fits
returns-clause-fits c = λ v.
    let start = c.args.gates.now in
    let g = c.add_with_carry.new.gates in
    let e = c.in_ok-sum.ensures in
    let j : ℕ = length c.args.a.now in
    let a : ℕ = gate_number start c.args.a.now v in
    let b : ℕ = gate_number start c.args.b.now v in
    let low : ℕ = gate_number start (take j c.args.b.now) v in
    let high : ℕ = gate_number start (drop j c.args.b.now) v in
    let s : ℕ = gate_number g c.in_ok-sum.sum.word.items v in
    let x : Bool = gate_value g c.in_ok-sum.sum.carry v in
    let o : ℕ = gate_number start c.as_slice.result.now v in
    let literals : (ls : List ℤ) → ls ≡ take j c.args.b.now → (k : ℕ) (d : ℤ) → k < length ls → IsLiteral (get_or ls k d) = λ ls is k d h. (subst (λ xs. All (IsWithin start.vars) xs) (sym is) (All-take (IsWithin start.vars) j c.args.b.now c.requires.second) k d h).literal in
    let other : o ≡ 2 ^ j - 1 - low =
    ap (λ ls. gate_number start ls v) c.as_slice.ensures.value
    ∙ (c.in_ok-other.ensures.value start (literals _ c.split_at.ensures.front) v ∙ (λ k. 2 ^ c.split_at.ensures.front_len k - 1 - gate_number start (c.split_at.ensures.front k) v)) in
    let sum : s + 2 ^ j * bit x ≡ a + o + 1 = e.value v ∙ ap (λ t. a + o + bit t) (c.requires.truth_is v) in
    let clear : gate_value g c.args.clear v ≡ nat_eq high 0 = e.frame.keeps c.args.clear c.requires.clear.below v ∙ c.requires.clear_is v in
    c.in_ok-fits.ensures.value v
    ∙ (ap (λ t. x && t) clear
    ∙ fits-is s a o b low high (2 ^ j) x sum other (number-split start c.args.b.now j v c.requires.wider) (front-below start c.args.b.now j v c.requires.wider) (number-below start c.args.a.now v)
    (subst (λ n. s < 2 ^ n) e.size (number-below g c.in_ok-sum.sum.word.items v)))

pub returns-clause-value : goal.returns-clause-value
returns-clause-value c = λ v h.
    let start = c.args.gates.now in
    let g = c.add_with_carry.new.gates in
    let e = c.in_ok-sum.ensures in
    let j : ℕ = length c.args.a.now in
    let a : ℕ = gate_number start c.args.a.now v in
    let b : ℕ = gate_number start c.args.b.now v in
    let low : ℕ = gate_number start (take j c.args.b.now) v in
    let high : ℕ = gate_number start (drop j c.args.b.now) v in
    let s : ℕ = gate_number g c.in_ok-sum.sum.word.items v in
    let x : Bool = gate_value g c.in_ok-sum.sum.carry v in
    let o : ℕ = gate_number start c.as_slice.result.now v in
    let literals : (ls : List ℤ) → ls ≡ take j c.args.b.now → (k : ℕ) (d : ℤ) → k < length ls → IsLiteral (get_or ls k d) = λ ls is k d l. (subst (λ xs. All (IsWithin start.vars) xs) (sym is) (All-take (IsWithin start.vars) j c.args.b.now c.requires.second) k d l).literal in
    let other : o ≡ 2 ^ j - 1 - low =
    ap (λ ls. gate_number start ls v) c.as_slice.ensures.value
    ∙ (c.in_ok-other.ensures.value start (literals _ c.split_at.ensures.front) v ∙ (λ k. 2 ^ c.split_at.ensures.front_len k - 1 - gate_number start (c.split_at.ensures.front k) v)) in
    let sum : s + 2 ^ j * bit x ≡ a + o + 1 = e.value v ∙ ap (λ t. a + o + bit t) (c.requires.truth_is v) in
    words g c.and.new.gates c.in_ok-fits.ensures.frame.keeps c.in_ok-sum.sum.word.items e.word_within v
    ∙ fitting-is s a o b low high (2 ^ j) x sum other (number-split start c.args.b.now j v c.requires.wider) (front-below start c.args.b.now j v c.requires.wider) (number-below start c.args.a.now v)
    (subst (λ n. s < 2 ^ n) e.size (number-below g c.in_ok-sum.sum.word.items v)) h
