-- The indices of an entry are read back.
use Rattle.std.proofs.Common.{◌≡◌, ℕ, suc, ◌-◌, ◌/◌, ◌%◌, ◌^◌, ◌≤◌, true, false, cond, List, [], ◌∷◌, ◌++◌, length, Option, Some, None, refl, sym, ◌∙◌, ap, arith}
use Rattle.std.proofs.Math.Nat.{mod-le, div-le_self}
use Rattle.std.proofs.lemmas.Bool.{cond-true}
use Rattle.std.proofs.lemmas.List.{append_assoc, append-nil}
use Rattle.std.specs.Prelude.{codes}
use Rattle.std.specs.Char.{is_ascii_digit}
use Rattle.std.specs.List.{flat_map}
use Rattle.std.specs.Fmt.{decimal}
use Rattle.spec_tree.specs.Plain.{Key}
use Rattle.spec_tree.specs.Sorted.{product, key_sizes}
use Rattle.spec_tree.specs.Value.{tuple_at}
use Rattle.hk_rows.specs.Texts.{numbered, indices_text}
use Rattle.hk_cert_lines.specs.Words.{is_decimal, behind}
use Rattle.hk_cert_lines.specs.Blocks.{digits_of, behind_digits, mark_of, capped, index_of, closed, at_index, indices_from, entry_parts}
use Rattle.hk_cert_law.specs.Entries.{IsNumber}
use Rattle.hk_cert_law.proofs.Lines.{is_inner, is_one_line, all_append}
use Rattle.hk_cert_law.proofs.Numbers.{digits, number_decimal, number_read}
use Rattle.hk_cert_law.proofs.Arguments.{number_inner}
use Rattle.hk_cert_law.proofs.Fronts.{behind_put, taken_word, left_behind}
use Rattle.hk_cert_law.proofs.Each.{Each}

-- ---- what stands behind an index

-- what is written behind the first index: the others, and what closes them
abbrev pub others_text : List ℕ → List ℕ → List ℕ
others_text indices word = flat_map (numbered (codes ", ")) indices ++ (codes "] = " ++ word)

-- it begins with no digit
pub record Stops (text : List ℕ) : Type 0 where
  pub byte : ℕ
  pub rest : List ℕ
  pub is : text ≡ byte ∷ rest
  pub outside : is_ascii_digit byte ≡ false

others_stop : (indices word : List ℕ) → Stops (others_text indices word)
others_stop [] word = record { byte = 93; rest = codes " = " ++ word; is = refl; outside = refl }
others_stop (i ∷ indices) word = record { byte = 44; rest = ((32 ∷ decimal i) ++ flat_map (numbered (codes ", ")) indices) ++ (codes "] = " ++ word); is = refl; outside = refl }

module _ (n : ℕ) (small : IsNumber n) (text : List ℕ) (stops : Stops text) where
  pub digits_read : digits_of (decimal n ++ text) ≡ decimal n
  digits_read = ap (λ t. digits_of (decimal n ++ t)) stops.is ∙ taken_word is_ascii_digit (decimal n) stops.byte stops.rest (digits n small) stops.outside

  pub digits_left : behind_digits (decimal n ++ text) ≡ text
  digits_left = ap (λ t. behind_digits (decimal n ++ t)) stops.is ∙ left_behind is_ascii_digit (decimal n) stops.byte stops.rest (digits n small) stops.outside ∙ sym stops.is

-- ---- indices

index_read : (n : ℕ) → IsNumber n → index_of (decimal n) ≡ n
index_read n small = ap capped (number_read (2 ^ 64 - 1) n (omega (arith, small)) small)

-- an index, and what follows it
index_taken : (n : ℕ) (text : List ℕ) (next : List ℕ → List ℕ → Option (List ℕ × List ℕ)) → IsNumber n → Stops text → at_index (Some (decimal n ++ text)) next ≡ next (decimal n) text
index_taken n text next small stops =
    ap (λ w. cond (is_decimal w) (next w (behind_digits (decimal n ++ text))) None) (digits_read n small text stops)
    ∙ cond-true (is_decimal (decimal n)) (next (decimal n) (behind_digits (decimal n ++ text))) None (number_decimal n small)
    ∙ ap (next (decimal n)) (digits_left n small text stops)

others_read : (keys : List Key) (indices before word : List ℕ) → length indices ≡ length keys → Each IsNumber indices
    → indices_from before false keys (others_text indices word) ≡ Some (before ++ indices, word)
others_read [] [] before word same small =
    ap (closed before) (behind_put (codes "] = ") word) ∙ ap (λ ns. Some (ns, word)) (sym (append-nil before))
others_read [] (i ∷ indices) before word same small = absurd (omega (arith, same))
others_read (k ∷ keys) [] before word same small = absurd (omega (arith, same))
others_read (k ∷ keys) (i ∷ indices) before word same small =
    let rest = others_text indices word in
    let next = λ (w behind : List ℕ). indices_from (before ++ index_of w ∷ []) false keys behind in
    ap (λ t. at_index (behind (codes ", ") (codes ", " ++ t)) next) (append_assoc (decimal i) (flat_map (numbered (codes ", ")) indices) (codes "] = " ++ word))
    ∙ ap (λ o. at_index o next) (behind_put (codes ", ") (decimal i ++ rest))
    ∙ index_taken i rest next small.0 (others_stop indices word)
    ∙ ap (λ n. indices_from (before ++ n ∷ []) false keys rest) (index_read i small.0)
    ∙ others_read keys indices (before ++ i ∷ []) word (omega (arith, same)) small.1
    ∙ ap (λ ns. Some (ns, word)) (append_assoc before (i ∷ []) indices)

-- what follows the mark of an entry
abbrev pub parts_text : List ℕ → List ℕ → List ℕ
parts_text [] word = word
parts_text (i ∷ indices) word = decimal i ++ others_text indices word

pub parts_read : (keys : List Key) (indices word : List ℕ) → length indices ≡ length keys → Each IsNumber indices → entry_parts keys (parts_text indices word) ≡ Some (indices, word)
parts_read [] [] word same small = refl
parts_read [] (i ∷ indices) word same small = absurd (omega (arith, same))
parts_read (k ∷ keys) [] word same small = absurd (omega (arith, same))
parts_read (k ∷ keys) (i ∷ indices) word same small =
    let rest = others_text indices word in
    let next = λ (w behind : List ℕ). indices_from (index_of w ∷ []) false keys behind in
    index_taken i rest next small.0 (others_stop indices word)
    ∙ ap (λ n. indices_from (n ∷ []) false keys rest) (index_read i small.0)
    ∙ others_read keys indices (i ∷ []) word (omega (arith, same)) small.1

-- an index tuple and ` = ` begin with the mark
pub marked : (keys : List Key) (indices word : List ℕ) → length indices ≡ length keys → indices_text indices ++ (codes " = " ++ word) ≡ mark_of keys ++ parts_text indices word
marked [] [] word same = refl
marked [] (i ∷ indices) word same = absurd (omega (arith, same))
marked (k ∷ keys) [] word same = absurd (omega (arith, same))
marked (k ∷ keys) (i ∷ indices) word same =
    let f = flat_map (numbered (codes ", ")) indices in
    ap (λ t. 91 ∷ t) (append_assoc (decimal i) (f ++ codes "]") (codes " = " ++ word) ∙ ap (λ t. decimal i ++ t) (append_assoc f (codes "]") (codes " = " ++ word)))

-- the parts are one line
others_inner : (indices word : List ℕ) → Each IsNumber indices → is_one_line word ≡ true → is_one_line (others_text indices word) ≡ true
others_inner [] word small h = h
others_inner (i ∷ indices) word small h =
    ap (λ t. is_one_line (codes ", " ++ t)) (append_assoc (decimal i) (flat_map (numbered (codes ", ")) indices) (codes "] = " ++ word))
    ∙ all_append is_inner (decimal i) (others_text indices word) (number_inner i small.0) (others_inner indices word small.1 h)

pub parts_inner : (indices word : List ℕ) → Each IsNumber indices → is_one_line word ≡ true → is_one_line (parts_text indices word) ≡ true
parts_inner [] word small h = h
parts_inner (i ∷ indices) word small h = all_append is_inner (decimal i) (others_text indices word) (number_inner i small.0) (others_inner indices word small.1 h)

-- ---- tuples

pub tuple_long : (keys : List Key) (k : ℕ) → length (tuple_at (key_sizes keys) k) ≡ length keys
tuple_long [] k = refl
tuple_long (a ∷ keys) k = ap suc (tuple_long keys (k % product (key_sizes keys)))

pub tuple_small : (sizes : List ℕ) (k : ℕ) → IsNumber k → Each IsNumber (tuple_at sizes k)
tuple_small [] k small = tt
tuple_small (n ∷ sizes) k small =
    let first : k / product sizes ≤ k = div-le_self k (product sizes) in
    let rest : k % product sizes ≤ k = mod-le k (product sizes) in
    (omega (arith, small, first), tuple_small sizes (k % product sizes) (omega (arith, small, rest)))
