-- Bits for the inputs of a table, so that each input's word has the input's value under a reading.
use Rattle.std.proofs.Common.{◌≡◌, ◌⊎◌, inl, inr, ℕ, zero, suc, ◌+◌, ◌-◌, ◌/◌, ◌%◌, ◌^◌, ◌<◌, ◌≤◌, Bool, true, false, ◌&&◌, cond, nat_eq, nat_le, List, [], ◌∷◌, ◌++◌, length, map, take, reverse, ℤ, Some, refl, sym, ◌∙◌, ap, subst, arith, add-one}
use Rattle.std.specs.Prelude.{slice_get}
use Rattle.std.specs.List.{All}
use Rattle.std.proofs.Math.Seq.{get_or-append_seam, take-append_seam}
use Rattle.std.proofs.lemmas.Bool.{le-leb, leb-true}
use Rattle.std.proofs.lemmas.List.{append_assoc, append-nil, reverse-append, length-append}
use Rattle.std.proofs.lemmas.List.Elements.{All-cons, All-head, All-tail}
use Rattle.std.proofs.lemmas.Option.{same_Some, slice_get-get_or}
use Rattle.hk_term.specs.Meaning.{Reading, value}
use Rattle.hk_term.specs.declared.node.Node.{Node}
use Rattle.hk_cnf.specs.Literal.{place_of, value_at}
use Rattle.hk_cnf.specs.Circuit.{Circuit, variable}
use Rattle.hk_cnf.specs.CircuitGrowth.{values_of}
use Rattle.hk_cnf.proofs.Running.{place_of-variable}
use Rattle.hk_circuit.specs.Words.{bit}
use Rattle.hk_blast.specs.Blasted.{Words, is_input_at, places_of, input_places, variables_from, IsFree, IsBlasted, AreBlasted, word_number}
use Rattle.hk_blast.proofs.WordLists.{get_push, is_input-at}
use Rattle.hk_blast.proofs.BlastedLaws.{front-blasted}

-- the bit of a number at a place, the least at 0
abbrev pub bit_at : ℕ → ℕ → Bool
bit_at n zero = nat_eq (n % 2) 1
bit_at n (suc k) = bit_at (n / 2) k

-- where a word begins
abbrev pub start_of : List ℤ → ℕ
start_of [] = 0
start_of (l ∷ ls) = place_of l

-- the bit for a place: that of the latest input whose word does not begin behind it
abbrev pub chosen : List Node → Reading → Words → ℕ → Bool
chosen nodes w [] p = false
chosen nodes w (e ∷ es) p = cond (is_input_at nodes e.0 && nat_le (start_of e.1) p) (bit_at (value nodes e.0 w) (p - start_of e.1)) (chosen nodes w es p)

parity : (n : ℕ) → bit (nat_eq (n % 2) 1) ≡ n % 2
parity n = by (n % 2) refl
  where
    small : n % 2 < 2
    small = omega arith

    by : (m : ℕ) → n % 2 ≡ m → bit (nat_eq (n % 2) 1) ≡ n % 2
    by zero e = ap (λ k. bit (nat_eq k 1)) e ∙ sym e
    by (suc m) e = let one : n % 2 ≡ 1 = omega (arith, small, e) in ap (λ k. bit (nat_eq k 1)) one ∙ sym one

-- a word of variables has the number whose bits they have
pub word-bits : (a : List Bool) (n s m : ℕ) → m < 2 ^ n → ((k : ℕ) → k < n → values_of a (s + k) ≡ bit_at m k) → word_number a (variables_from s n) ≡ m
word-bits a zero s m l h = omega (arith, l)
word-bits a (suc n) s m l h =
    let first : bit (value_at a (variable s)) ≡ m % 2 = ap bit (value-own s ∙ ap (values_of a) (omega arith) ∙ h 0 (omega arith)) ∙ parity m in
    let half : m / 2 < 2 ^ n = omega (arith, l) in
    let rest : word_number a (variables_from (suc s) n) ≡ m / 2 = word-bits a n (suc s) (m / 2) half (λ k b. ap (values_of a) (omega arith) ∙ h (suc k) (omega (arith, b))) in
    omega (arith, first, rest)
  where
    value-own : (k : ℕ) → value_at a (variable k) ≡ values_of a k
    value-own k = rw add-one refl

-- ---- input places

pub all-first : (P : ℕ → Type 0) (xs ys : List ℕ) → All P (xs ++ ys) → All P xs
all-first P [] ys h = λ k d l. absurd (omega (arith, l))
all-first P (x ∷ xs) ys h = All-cons P x xs (All-head P x (xs ++ ys) h) (all-first P xs ys (All-tail P x (xs ++ ys) h))

pub all-behind : (P : ℕ → Type 0) (xs ys : List ℕ) → All P (xs ++ ys) → All P ys
all-behind P [] ys h = h
all-behind P (x ∷ xs) ys h = all-behind P xs ys (All-tail P x (xs ++ ys) h)

-- what holds of all places of inputs holds of those of each
pub places-of-entry : (P : ℕ → Type 0) (nodes : List Node) (xs : Words) (i : ℕ) (e : ℕ × List ℤ) → All P (input_places nodes xs) → slice_get xs i ≡ Some e → is_input_at nodes e.0 ≡ true → All P (map place_of e.1)
places-of-entry P nodes [] i e h at b = cc
places-of-entry P nodes (x ∷ xs) zero e h at b =
    let same : x ≡ e = same_Some x e at in
    subst (All P) (ap (λ y. places_of nodes y) same ∙ ap (λ c. cond c (map place_of e.1) []) b) (all-first P (places_of nodes x) (input_places nodes xs) h)
places-of-entry P nodes (x ∷ xs) (suc i) e h at b = places-of-entry P nodes xs i e (all-behind P (places_of nodes x) (input_places nodes xs) h) at b

pub variables-at : (P : ℕ → Type 0) (s n k : ℕ) → All P (map place_of (variables_from s n)) → k < n → P (s + k)
variables-at P s zero k h l = absurd (omega (arith, l))
variables-at P s (suc n) zero h l = subst P (place_of-variable s ∙ omega arith) (All-head P (place_of (variable s)) (map place_of (variables_from (suc s) n)) h)
variables-at P s (suc n) (suc k) h l =
    subst P (omega arith) (variables-at P (suc s) n k (All-tail P (place_of (variable s)) (map place_of (variables_from (suc s) n)) h) (omega (arith, l)))

-- ---- the choice

pub start-is : (word : List ℤ) (s : ℕ) → word ≡ variables_from s (length word) → 1 ≤ length word → start_of word ≡ s
start-is [] s e l = absurd (omega (arith, l))
start-is (l ∷ ls) s e some = ap start_of e ∙ place_of-variable s

-- each input's bits are those of its value
abbrev pub HaveBits : List Node → Reading → Words → (ℕ → Bool) → Type 0
HaveBits nodes w xs choice = (i : ℕ) (e : ℕ × List ℤ) → slice_get xs i ≡ Some e → is_input_at nodes e.0 ≡ true → (k : ℕ) → k < length e.1 → choice (start_of e.1 + k) ≡ bit_at (value nodes e.0 w) k

module _ (nodes : List Node) (c : Circuit) (w : Reading) where
  one-more : (front : Words) (e : ℕ × List ℤ) → AreBlasted nodes c front → IsBlasted nodes c front e.0 e.1 → HaveBits nodes w front (chosen nodes w (reverse front)) → HaveBits nodes w (front ++ e ∷ []) (chosen nodes w (e ∷ reverse front))
  one-more front e all row before i g at input k l = by (get_push front e i g at)
    where
      own-start : is_input_at nodes e.0 ≡ true → (f : IsFree nodes c front e.1) × (start_of e.1 ≡ f.start)
      own-start b =
          let f : IsFree nodes c front e.1 = row.free (sym (is_input-at nodes e.0 row.node row.at) ∙ b) in
          (f, start-is e.1 f.start f.is row.is_width.0)

      place : IsBlasted nodes c (take i front) g.0 g.1 → (All (λ p. p < start_of e.1) (map place_of g.1)) → start_of g.1 + k < start_of e.1
      place r h =
          let f : IsFree nodes c (take i front) g.1 = r.free (sym (is_input-at nodes g.0 r.node r.at) ∙ input) in
          subst (λ s. s + k < start_of e.1) (sym (start-is g.1 f.start f.is r.is_width.0))
          (variables-at (λ p. p < start_of e.1) f.start (length g.1) k (subst (λ ws. All (λ p. p < start_of e.1) (map place_of ws)) f.is h) l)

      passed : slice_get front i ≡ Some g → (b : Bool) → is_input_at nodes e.0 ≡ b → (is_input_at nodes e.0 && nat_le (start_of e.1) (start_of g.1 + k)) ≡ false
      passed there false d = ap (λ x. x && nat_le (start_of e.1) (start_of g.1 + k)) d
      passed there true d =
          let f : (f : IsFree nodes c front e.1) × (start_of e.1 ≡ f.start) = own-start d in
          let later : All (λ p. p < start_of e.1) (input_places nodes front) = subst (λ s. All (λ p. p < s) (input_places nodes front)) (sym f.1) f.0.later in
          let b : start_of g.1 + k < start_of e.1 = place (all i g there) (places-of-entry (λ p. p < start_of e.1) nodes front i g later there input) in
          ap (λ x. x && nat_le (start_of e.1) (start_of g.1 + k)) d ∙ not-le (start_of e.1) (start_of g.1 + k) b
        where
          not-le : (m n : ℕ) → n < m → nat_le m n ≡ false
          not-le m n b = pick (nat_le m n) refl
            where
              pick : (t : Bool) → nat_le m n ≡ t → nat_le m n ≡ false
              pick false t = t
              pick true t = absurd (omega (arith, b, leb-true m n t))

      by : ((slice_get front i ≡ Some g) × (take i (front ++ e ∷ []) ≡ take i front)) ⊎ ((take i (front ++ e ∷ []) ≡ front) × (e ≡ g)) → chosen nodes w (e ∷ reverse front) (start_of g.1 + k) ≡ bit_at (value nodes g.0 w) k
      by (inl p) =
          ap (λ t. cond t (bit_at (value nodes e.0 w) (start_of g.1 + k - start_of e.1)) (chosen nodes w (reverse front) (start_of g.1 + k))) (passed p.0 (is_input_at nodes e.0) refl)
          ∙ before i g p.0 input k l
      by (inr p) =
          subst (λ x. chosen nodes w (e ∷ reverse front) (start_of x.1 + k) ≡ bit_at (value nodes x.0 w) k) p.1 own
        where
          test : (is_input_at nodes e.0 && nat_le (start_of e.1) (start_of e.1 + k)) ≡ true
          test = λ t. (ap (λ x. is_input_at nodes x.0) p.1 ∙ input) t && le-leb (start_of e.1) (start_of e.1 + k) (omega arith) t

          back : start_of e.1 + k - start_of e.1 ≡ k
          back = omega arith

          own : chosen nodes w (e ∷ reverse front) (start_of e.1 + k) ≡ bit_at (value nodes e.0 w) k
          own =
              ap (λ t. cond t (bit_at (value nodes e.0 w) (start_of e.1 + k - start_of e.1)) (chosen nodes w (reverse front) (start_of e.1 + k))) test
              ∙ ap (bit_at (value nodes e.0 w)) back

  many-more : (front more : Words) → AreBlasted nodes c (front ++ more) → HaveBits nodes w front (chosen nodes w (reverse front)) → HaveBits nodes w (front ++ more) (chosen nodes w (reverse (front ++ more)))
  many-more front [] all h = subst (λ xs. HaveBits nodes w xs (chosen nodes w (reverse xs))) (sym (append-nil front)) h
  many-more front (e ∷ more) all h =
      subst (λ xs. HaveBits nodes w xs (chosen nodes w (reverse xs))) (append_assoc front (e ∷ []) more)
      (many-more (front ++ e ∷ []) more (subst (AreBlasted nodes c) (sym (append_assoc front (e ∷ []) more)) all)
      (subst (λ es. HaveBits nodes w (front ++ e ∷ []) (chosen nodes w es)) (sym (reverse-append front (e ∷ []))) (one-more front e front-all row h)))
    where
      at : slice_get (front ++ e ∷ more) (length front) ≡ Some e
      at = slice_get-get_or (front ++ e ∷ more) (length front) e (omega (arith, length-append front (e ∷ more))) ∙ ap Some (get_or-append_seam front e more e)

      row : IsBlasted nodes c front e.0 e.1
      row = subst (λ before. IsBlasted nodes c before e.0 e.1) (take-append_seam front (e ∷ more)) (all (length front) e at)

      front-all : AreBlasted nodes c front
      front-all = subst (AreBlasted nodes c) (take-append_seam front (e ∷ more)) (front-blasted nodes c (front ++ e ∷ more) (length front) all)

  pub chosen-bits : (words : Words) → AreBlasted nodes c words → HaveBits nodes w words (chosen nodes w (reverse words))
  chosen-bits words all = many-more [] words all (λ i e at. cc)
