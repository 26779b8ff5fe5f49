-- New names differ from one another.
use Rattle.std.proofs.Common.{◌≡◌, ℕ, zero, suc, ◌+◌, ◌%◌, ◌^◌, ◌<◌, ◌≤◌, List, [], ◌∷◌, ◌++◌, refl, sym, ◌∙◌, ap, subst, arith, append_assoc, replicate}
use Rattle.std.specs.Prelude.{decimal}
use Rattle.std.proofs.lemmas.List.{append_cancel_left}
use Rattle.std.proofs.lemmas.Fmt.{decimal_by_steps, decimal_injective}
use Rattle.hk_unroll.specs.declared.copies.BlockCopy.{BlockCopy}
use Rattle.hk_unroll.specs.Names.{prefix, block_name, register_name, phi_name, end_name, IsShort}

pub slashes_and_colon : (d : ℕ) → replicate d 47 ++ 58 ∷ [] ≡ prefix d
slashes_and_colon zero = refl
slashes_and_colon (suc d) = ap (λ xs. 47 ∷ xs) (slashes_and_colon d)

-- ---- digits

abbrev AreDigits : List ℕ → Type 0
AreDigits [] = Unit {0}
AreDigits (x ∷ xs) = (48 ≤ x) × ((x < 58) × AreDigits xs)

digits_push : (xs : List ℕ) (x : ℕ) → AreDigits xs → 48 ≤ x → x < 58 → AreDigits (xs ++ x ∷ [])
digits_push [] x all low high = (low, (high, tt))
digits_push (y ∷ xs) x all low high = (all.0, (all.1.0, digits_push xs x all.1.1 low high))

digits : (n : ℕ) → n < 2 ^ 64 → AreDigits (decimal n)
digits n h = decimal_by_steps (λ n ds. AreDigits ds) (λ n small. (omega arith, (omega arith, tt))) (λ n ds large all. digits_push ds (48 + n % 10) all (omega arith) (omega arith)) n h

-- texts of digits, each with a colon behind, are told apart by their colons
at_colon : (p q xs ys : List ℕ) → AreDigits p → AreDigits q → p ++ 58 ∷ xs ≡ q ++ 58 ∷ ys → (p ≡ q) × (xs ≡ ys)
at_colon [] [] xs ys a b e = (refl, cc)
at_colon [] (y ∷ q) xs ys a b e = let same : 58 ≡ y = cc in absurd (omega (arith, same, b.1.0))
at_colon (x ∷ p) [] xs ys a b e = let same : x ≡ 58 = cc in absurd (omega (arith, same, a.1.0))
at_colon (x ∷ p) (y ∷ q) xs ys a b e =
    let head : x ≡ y = cc in
    let tail : p ++ 58 ∷ xs ≡ q ++ 58 ∷ ys = cc in
    let rest : (p ≡ q) × (xs ≡ ys) = at_colon p q xs ys a.1.1 b.1.1 tail in
    let both : x ∷ p ≡ y ∷ q = ap (λ z. z ∷ p) head ∙ ap (λ zs. y ∷ zs) rest.0 in
    (both, rest.1)

no_colon : (p xs : List ℕ) → AreDigits (p ++ 58 ∷ xs) → ⊥
no_colon [] xs a = omega (arith, a.1.0)
no_colon (x ∷ p) xs a = no_colon p xs a.1.1

-- what begins with a letter is not digits with a colon behind
no_letter : (z : ℕ) (p xs ys : List ℕ) → 58 < z → AreDigits p → z ∷ xs ≡ p ++ 58 ∷ ys → ⊥
no_letter z [] xs ys h a e = let same : z ≡ 58 = cc in omega (arith, same)
no_letter z (x ∷ p) xs ys h a e = let same : z ≡ x = cc in omega (arith, same, a.1.0)

no_letter_first : (z : ℕ) (p xs : List ℕ) → 58 < z → AreDigits p → p ≡ z ∷ xs → ⊥
no_letter_first z [] xs h a e = cc
no_letter_first z (x ∷ p) xs h a e = let same : x ≡ z = cc in omega (arith, same, a.1.0)

-- ---- the names behind their prefix

abbrev block_rest : BlockCopy → List ℕ
block_rest c = decimal c.turns ++ 58 ∷ decimal c.block

abbrev register_rest : ℕ → ℕ → List ℕ
register_rest turns r = decimal turns ++ 58 ∷ 114 ∷ decimal r

abbrev phi_rest : BlockCopy → ℕ → List ℕ
phi_rest c r = decimal c.turns ++ 58 ∷ (decimal c.block ++ 58 ∷ 114 ∷ decimal r)

three : (a b x y : List ℕ) → a ++ b ++ x ++ y ≡ a ++ (b ++ (x ++ y))
three a b x y = append_assoc (a ++ b) x y ∙ append_assoc a b (x ++ y)

block_is : (d : ℕ) (c : BlockCopy) → block_name d c ≡ prefix d ++ block_rest c
block_is d c = three (prefix d) (decimal c.turns) (58 ∷ []) (decimal c.block)

register_is : (d turns r : ℕ) → register_name d turns r ≡ prefix d ++ register_rest turns r
register_is d turns r = three (prefix d) (decimal turns) (58 ∷ 114 ∷ []) (decimal r)

phi_is : (d : ℕ) (c : BlockCopy) (r : ℕ) → phi_name d c r ≡ prefix d ++ phi_rest c r
phi_is d c r =
    append_assoc (prefix d ++ decimal c.turns ++ 58 ∷ [] ++ decimal c.block) (58 ∷ 114 ∷ []) (decimal r)
    ∙ append_assoc (prefix d ++ decimal c.turns ++ 58 ∷ []) (decimal c.block) (58 ∷ 114 ∷ decimal r)
    ∙ three (prefix d) (decimal c.turns) (58 ∷ []) (decimal c.block ++ 58 ∷ 114 ∷ decimal r)

behind_prefix : (d : ℕ) (x y xs ys : List ℕ) → x ≡ prefix d ++ xs → y ≡ prefix d ++ ys → x ≡ y → xs ≡ ys
behind_prefix d x y xs ys e f g = append_cancel_left (prefix d) xs ys (sym e ∙ g ∙ f)

-- ---- names apart

whole : (ct cb dt db : ℕ) → ct ≡ dt → cb ≡ db → (let r : BlockCopy = record { turns = ct; block = cb } in r) ≡ (let r : BlockCopy = record { turns = dt; block = db } in r)
whole ct cb dt db e f = cc

pub blocks_apart : (d : ℕ) (c e : BlockCopy) → IsShort c → IsShort e → block_name d c ≡ block_name d e → c ≡ e
blocks_apart d c e s t same =
    let rest : block_rest c ≡ block_rest e = behind_prefix d (block_name d c) (block_name d e) (block_rest c) (block_rest e) (block_is d c) (block_is d e) same in
    let parts = at_colon (decimal c.turns) (decimal e.turns) (decimal c.block) (decimal e.block) (digits c.turns s.turns) (digits e.turns t.turns) rest in
    whole c.turns c.block e.turns e.block (decimal_injective c.turns e.turns s.turns t.turns parts.0) (decimal_injective c.block e.block s.block t.block parts.1)

pub registers_apart : (d j k q r : ℕ) → j < 2 ^ 64 → k < 2 ^ 64 → q < 2 ^ 64 → r < 2 ^ 64 → register_name d j q ≡ register_name d k r → (j ≡ k) × (q ≡ r)
registers_apart d j k q r hj hk hq hr same =
    let rest : register_rest j q ≡ register_rest k r = behind_prefix d (register_name d j q) (register_name d k r) (register_rest j q) (register_rest k r) (register_is d j q) (register_is d k r) same in
    let parts = at_colon (decimal j) (decimal k) (114 ∷ decimal q) (114 ∷ decimal r) (digits j hj) (digits k hk) rest in
    let tails : 114 ∷ decimal q ≡ 114 ∷ decimal r = parts.1 in
    let numbers : decimal q ≡ decimal r = cc in
    (decimal_injective j k hj hk parts.0, decimal_injective q r hq hr numbers)

pub phis_apart : (d : ℕ) (c e : BlockCopy) (q r : ℕ) → IsShort c → IsShort e → q < 2 ^ 64 → r < 2 ^ 64 → phi_name d c q ≡ phi_name d e r → (c ≡ e) × (q ≡ r)
phis_apart d c e q r s t hq hr same =
    let rest : phi_rest c q ≡ phi_rest e r = behind_prefix d (phi_name d c q) (phi_name d e r) (phi_rest c q) (phi_rest e r) (phi_is d c q) (phi_is d e r) same in
    let parts = at_colon (decimal c.turns) (decimal e.turns) (decimal c.block ++ 58 ∷ 114 ∷ decimal q) (decimal e.block ++ 58 ∷ 114 ∷ decimal r) (digits c.turns s.turns) (digits e.turns t.turns) rest in
    let more = at_colon (decimal c.block) (decimal e.block) (114 ∷ decimal q) (114 ∷ decimal r) (digits c.block s.block) (digits e.block t.block) parts.1 in
    let tails : 114 ∷ decimal q ≡ 114 ∷ decimal r = more.1 in
    let numbers : decimal q ≡ decimal r = cc in
    (whole c.turns c.block e.turns e.block (decimal_injective c.turns e.turns s.turns t.turns parts.0) (decimal_injective c.block e.block s.block t.block more.0), decimal_injective q r hq hr numbers)

pub block_is_no_register : (d : ℕ) (c : BlockCopy) (k r : ℕ) → IsShort c → k < 2 ^ 64 → block_name d c ≡ register_name d k r → ⊥
block_is_no_register d c k r s h same =
    let rest : block_rest c ≡ register_rest k r = behind_prefix d (block_name d c) (register_name d k r) (block_rest c) (register_rest k r) (block_is d c) (register_is d k r) same in
    let parts = at_colon (decimal c.turns) (decimal k) (decimal c.block) (114 ∷ decimal r) (digits c.turns s.turns) (digits k h) rest in
    no_letter_first 114 (decimal c.block) (decimal r) (omega arith) (digits c.block s.block) parts.1

pub block_is_no_phi : (d : ℕ) (c e : BlockCopy) (r : ℕ) → IsShort c → IsShort e → block_name d c ≡ phi_name d e r → ⊥
block_is_no_phi d c e r s t same =
    let rest : block_rest c ≡ phi_rest e r = behind_prefix d (block_name d c) (phi_name d e r) (block_rest c) (phi_rest e r) (block_is d c) (phi_is d e r) same in
    let parts = at_colon (decimal c.turns) (decimal e.turns) (decimal c.block) (decimal e.block ++ 58 ∷ 114 ∷ decimal r) (digits c.turns s.turns) (digits e.turns t.turns) rest in
    no_colon (decimal e.block) (114 ∷ decimal r) (subst AreDigits parts.1 (digits c.block s.block))

pub register_is_no_phi : (d k q : ℕ) (e : BlockCopy) (r : ℕ) → k < 2 ^ 64 → IsShort e → register_name d k q ≡ phi_name d e r → ⊥
register_is_no_phi d k q e r h t same =
    let rest : register_rest k q ≡ phi_rest e r = behind_prefix d (register_name d k q) (phi_name d e r) (register_rest k q) (phi_rest e r) (register_is d k q) (phi_is d e r) same in
    let parts = at_colon (decimal k) (decimal e.turns) (114 ∷ decimal q) (decimal e.block ++ 58 ∷ 114 ∷ decimal r) (digits k h) (digits e.turns t.turns) rest in
    no_letter 114 (decimal e.block) (decimal q) (114 ∷ decimal r) (omega arith) (digits e.block t.block) parts.1

pub end_is_no_block : (d : ℕ) (c : BlockCopy) → IsShort c → end_name d ≡ block_name d c → ⊥
end_is_no_block d c s same =
    no_letter 101 (decimal c.turns) [] (decimal c.block) (omega arith) (digits c.turns s.turns) (behind_prefix d (end_name d) (block_name d c) (101 ∷ []) (block_rest c) refl (block_is d c) same)

pub end_is_no_register : (d k r : ℕ) → k < 2 ^ 64 → end_name d ≡ register_name d k r → ⊥
end_is_no_register d k r h same =
    no_letter 101 (decimal k) [] (114 ∷ decimal r) (omega arith) (digits k h) (behind_prefix d (end_name d) (register_name d k r) (101 ∷ []) (register_rest k r) refl (register_is d k r) same)

pub end_is_no_phi : (d : ℕ) (c : BlockCopy) (r : ℕ) → IsShort c → end_name d ≡ phi_name d c r → ⊥
end_is_no_phi d c r s same =
    no_letter 101 (decimal c.turns) [] (decimal c.block ++ 58 ∷ 114 ∷ decimal r) (omega arith) (digits c.turns s.turns)
    (behind_prefix d (end_name d) (phi_name d c r) (101 ∷ []) (phi_rest c r) refl (phi_is d c r) same)
