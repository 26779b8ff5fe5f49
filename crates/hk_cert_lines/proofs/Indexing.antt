-- Indices of an entry, one key at a time.
use Rattle.std.proofs.Common.{◌≡◌, ◌+◌, ◌<◌, ℕ, Bool, true, false, List, [], ◌∷◌, ◌++◌, Some, None, map, drop, length, get_or, ap, sym, ◌∙◌, add-one}
use Rattle.std.proofs.lemmas.Bool.{cond-true, cond-false}
use Rattle.std.proofs.Math.Seq.{drop-cons}
use Rattle.spec_tree.specs.declared.sort.Sort.{Sort}
use Rattle.spec_tree.specs.View.{view_key}
use Rattle.hk_cert_lines.specs.Words.{is_decimal}
use Rattle.hk_cert_lines.specs.Blocks.{digits_of, behind_digits, index_of, at_index, opened, indices_from}

no_key : Sort
no_key = record { width = 0; size = None }

keys_split : (keys : List Sort) (k : ℕ) → k < length keys → drop k keys ≡ get_or keys k no_key ∷ drop (k + 1) keys
keys_split keys k within = drop-cons keys k no_key within ∙ ap (λ n. get_or keys k no_key ∷ drop n keys) (sym (add-one k))

module _ (acc : List ℕ) (first : Bool) (keys : List Sort) (k : ℕ) (rest : List ℕ) (within : k < length keys) where
  shape : indices_from acc first (map view_key (drop k keys)) rest
      ≡ at_index (opened first rest) (λ word behind. indices_from (acc ++ index_of word ∷ []) false (map view_key (drop (k + 1) keys)) behind)
  shape = ap (λ ks. indices_from acc first (map view_key ks) rest) (keys_split keys k within)

  pub indices_none : opened first rest ≡ None → indices_from acc first (map view_key (drop k keys)) rest ≡ None
  indices_none e = shape ∙ ap (λ o. at_index o (λ word behind. indices_from (acc ++ index_of word ∷ []) false (map view_key (drop (k + 1) keys)) behind)) e

  module _ (front : List ℕ) (open_is : opened first rest ≡ Some front) where
    pub indices_word : is_decimal (digits_of front) ≡ false → indices_from acc first (map view_key (drop k keys)) rest ≡ None
    indices_word refused =
        shape ∙ ap (λ o. at_index o (λ word behind. indices_from (acc ++ index_of word ∷ []) false (map view_key (drop (k + 1) keys)) behind)) open_is
        ∙ cond-false (is_decimal (digits_of front)) (indices_from (acc ++ index_of (digits_of front) ∷ []) false (map view_key (drop (k + 1) keys)) (behind_digits front)) None refused

    pub indices_more : is_decimal (digits_of front) ≡ true
        → indices_from acc first (map view_key (drop k keys)) rest ≡ indices_from (acc ++ index_of (digits_of front) ∷ []) false (map view_key (drop (k + 1) keys)) (behind_digits front)
    indices_more taken =
        shape ∙ ap (λ o. at_index o (λ word behind. indices_from (acc ++ index_of word ∷ []) false (map view_key (drop (k + 1) keys)) behind)) open_is
        ∙ cond-true (is_decimal (digits_of front)) (indices_from (acc ++ index_of (digits_of front) ∷ []) false (map view_key (drop (k + 1) keys)) (behind_digits front)) None taken
