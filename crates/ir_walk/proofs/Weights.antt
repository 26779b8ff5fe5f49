-- The blocks of an order weigh at most what all blocks weigh, where none is listed twice.
use Rattle.std.proofs.Common.{◌≡◌, ◌≢◌, ◌⊎◌, inl, inr, ℕ, zero, suc, ◌+◌, ◌<◌, ◌≤◌, List, [], ◌∷◌, map, length, get_or, set, slice_get, slice_index_or, Contains, All, AllPairs, sum_by, sum, refl, sym, ap, subst, arith, zero-le}
use Rattle.std.proofs.lemmas.Bool.{cases_lt}
use Rattle.std.proofs.lemmas.List.{get_or-set_other, get_or_past, set_past}
use Rattle.std.proofs.lemmas.List.Elements.{All-head, All-tail}
use Rattle.std.proofs.lemmas.List.Sums.{sum_by-cons, sum_by-set, get_or-le-sum_by, sum-map}
use Rattle.ir_code.specs.declared.act.Act.{Act}
use Rattle.ir_code.specs.declared.act.Act.TheVariants as act
use Rattle.ir_code.specs.declared.program.Block.{Block}
use Rattle.ir_code.specs.declared.program.Program.{Program}
use Rattle.ir_machine.specs.Step.{steps_in, steps_of}
use Rattle.ir_walk.specs.LoopFree.{body_of, callees, HasCall, weight, weight_of, AreLengths}
use Rattle.ir_walk.proofs.Blocks.{order_weight}

same_sums : (g h : ℕ → ℕ) (order : List ℕ) → All (λ j. g j ≡ h j) order → sum_by g order ≡ sum_by h order
same_sums g h [] same = refl
same_sums g h (k ∷ order) same =
    let first : g k ≡ h k = All-head (λ j. g j ≡ h j) k order same in
    let rest = same_sums g h order (All-tail (λ j. g j ≡ h j) k order same) in
    omega (arith, sum_by-cons g k order, sum_by-cons h k order, first, rest)

taken_out : (xs : List ℕ) (k : ℕ) → (k < length xs) ⊎ (length xs ≤ k) → sum (set xs k 0) + get_or xs k 0 ≡ sum xs
taken_out xs k (inl inside) = omega (arith, sum_by-set (λ x. x) xs k 0 0 inside)
taken_out xs k (inr past) = omega (arith, ap sum (set_past xs k 0 past), get_or_past xs k 0 past)

-- places of a list, none twice
some_of : (order xs : List ℕ) → AllPairs (λ k j. k ≢ j) order → sum_by (λ k. get_or xs k 0) order ≤ sum xs
some_of [] xs once = zero-le
some_of (k ∷ order) xs once =
    let left = set xs k 0 in
    let others : All (λ j. get_or xs j 0 ≡ get_or left j 0) order =
    λ j d below. sym (get_or-set_other xs k (get_or order j d) 0 0 (λ same. once 0 (suc j) d (omega arith) (omega (arith, below)) (sym same))) in
    let rest = some_of order left (λ i j d before below. once (suc i) (suc j) d (omega (arith, before)) (omega (arith, below))) in
    omega (arith, sum_by-cons (λ j. get_or xs j 0) k order, same_sums (λ j. get_or xs j 0) (λ j. get_or left j 0) order others, rest, taken_out xs k (cases_lt k (length xs)))

at_place : (E : ℕ → ℕ) (bs : List Block) (k : ℕ) → weight_of E (steps_in (slice_get bs k)) ≡ get_or (map (λ b. weight_of E b.steps) bs) k 0
at_place E [] k = refl
at_place E (b ∷ bs) zero = refl
at_place E (b ∷ bs) (suc k) = at_place E bs k

pub order_weighs : (P : Program) (E : ℕ → ℕ) (f : ℕ) (order : List ℕ) → AllPairs (λ k j. k ≢ j) order → AreLengths P E → order_weight E P f order ≤ E f
order_weighs P E f order once lengths =
    let blocks = body_of P f in
    let weights = map (λ b. weight_of E b.steps) blocks in
    let same = same_sums (λ k. weight_of E (steps_of P f k)) (λ k. get_or weights k 0) order (λ j d below. at_place E blocks (get_or order j d)) in
    omega (arith, same, some_of order weights once, sum-map (λ b. weight_of E b.steps) blocks, lengths f)

-- a block weighs at most what all of them do
block_weighs : (E : ℕ → ℕ) (bs : List Block) (k : ℕ) → weight_of E (steps_in (slice_get bs k)) ≤ sum_by (λ b. weight_of E b.steps) bs
block_weighs E [] k = zero-le
block_weighs E (b ∷ bs) zero = omega (arith, sum_by-cons (λ b'. weight_of E b'.steps) b bs)
block_weighs E (b ∷ bs) (suc k) = omega (arith, block_weighs E bs k, sum_by-cons (λ b'. weight_of E b'.steps) b bs)

called : (E : ℕ → ℕ) (h g k : ℕ) → k < 1 → slice_index_or (h ∷ []) k g ≡ g → 1 + E g ≤ 1 + E h
called E h g zero below is = omega (arith, ap E is)
called E h g (suc k) below is = absurd (omega (arith, below))

call_weighs : (E : ℕ → ℕ) (a : Act) (g : ℕ) → Contains (callees a) g → 1 + E g ≤ weight E a
call_weighs E (act.Call h arguments) g i = called E h g i.0 i.1 i.2
call_weighs E a g i = absurd (omega (arith, i.1))

pub length_falls : (P : Program) (E : ℕ → ℕ) → AreLengths P E → (f k g : ℕ) → HasCall P f k g → E g < E f
length_falls P E lengths f k g call =
    let s = call.0 in
    let ss = steps_of P f k in
    let place = call.1.0 in
    let is_call = call_weighs E s.act g call.2 in
    let in_block = subst (λ x. weight E x.act ≤ weight_of E ss) call.1.2 (get_or-le-sum_by (λ x. weight E x.act) ss place s call.1.1) in
    let in_function = block_weighs E (body_of P f) k in
    omega (arith, is_call, in_block, in_function, lengths f)
