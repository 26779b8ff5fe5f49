-- Lists: elements with a comma before each, and the mark that closes them.
use Rattle.std.specs.Prelude.{ℕ, zero, suc, Option, Some, None, List, [], ◌∷◌, length, codes}
use Rattle.spec_expr.specs.Words.{Text}
use Rattle.spec_expr.specs.Reading.{Reader, after, name_at}
use Rattle.spec_expr.specs.Fronts.{behind, gone_on}

abbrev pub closed_or : {L : Type 0} → Option (List Text) → L → Option (L × List Text) → Option (L × List Text)
closed_or None end other = other
closed_or (Some rest) end other = Some (end, rest)

-- at most so many, put together by these two
unfoldable pub many_at : {A L : Type 0} → Text → Reader A → (A → L → L) → L → ℕ → Reader L
many_at close item add end zero ts = None
many_at close item add end (suc m) ts =
    closed_or (behind close ts) end
    (gone_on (behind (codes ",") ts) (λ us. after (item us) (λ x rest. after (many_at close item add end m rest) (λ xs rest. Some (add x xs, rest)))))

-- one, and those with a comma before each
abbrev pub listed : {A L : Type 0} → Text → Reader A → (A → L → L) → L → Reader L
listed close item add end ts = after (item ts) (λ x rest. after (many_at close item add end (length rest) rest) (λ xs rest. Some (add x xs, rest)))

abbrev pub listed_names : Text → Reader (List Text)
listed_names close ts = listed close name_at (λ x xs. x ∷ xs) [] ts
