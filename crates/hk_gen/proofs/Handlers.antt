-- A text grows by one handler.

use Rattle.std.proofs.Common.{ℕ, ◌≡◌, ◌+◌, List, [], ◌∷◌, ◌++◌, map, ap, sym, ◌∙◌, zero-add, append_assoc}
use Rattle.std.proofs.lemmas.List.{append-nil}
use Rattle.std.proofs.lemmas.List.Folds.{concat-append}
use Rattle.std.proofs.lemmas.List.FromFn.{map-range_with_len_more}
use Rattle.std.specs.List.{concat, range_with_len}
use Rattle.hk_gen.specs.Workload.{handlers}

next : (f : ℕ → List ℕ) (k : ℕ) → handlers f (k + 1) ≡ handlers f k ++ f k
next f k =
    ap concat (map-range_with_len_more f 0 k k (zero-add k)) ∙ concat-append (map f (range_with_len 0 k)) (f k ∷ [])
    ∙ ap (λ l. handlers f k ++ l) (append-nil (f k))

pub one_more : (f : ℕ → List ℕ) (k : ℕ) (head old new : List ℕ) → old ≡ head ++ handlers f k → new ≡ old ++ f k → new ≡ head ++ handlers f (k + 1)
one_more f k head old new so_far added =
    added ∙ ap (λ l. l ++ f k) so_far ∙ append_assoc head (handlers f k) (f k) ∙ ap (λ l. head ++ l) (sym (next f k))
