-- The parts of sorts.
use Rattle.std.specs.Prelude.{nat_le, if◌then◌else◌, Option, Some, None, List, [], ◌∷◌, length, codes}
use Rattle.spec_ast.specs.declared.raw.RawSort.{RawSort}
use Rattle.spec_ast.specs.declared.raw.RawSort.TheVariants.{Named, Bits, Index}
use Rattle.spec_expr.specs.Words.{Text, is_name}
use Rattle.spec_expr.specs.Reading.{Reader, after, past, number_at, number_comma_at}
use Rattle.spec_expr.specs.Many.{listed}
use Rattle.spec_read.specs.ItemReading.{sort_at, more_sorts_at, few_keys}

abbrev pub named_sort : Text → Reader RawSort
named_sort t ts = if is_name t then Some (Named t, ts) else None

-- `n )`
abbrev pub bits_at : Reader RawSort
bits_at ts = after (number_at ts) (λ n rest. past (codes ")") rest (λ rest. Some (Bits n, rest)))

-- `w , n )`
abbrev pub index_at : Reader RawSort
index_at ts = after (number_comma_at ts) (λ w rest. after (number_at rest) (λ n rest. past (codes ")") rest (λ rest. Some (Index w n, rest))))

abbrev pub listed_sorts : Reader (List RawSort)
listed_sorts ts = listed (codes ")") sort_at (λ s ss. s ∷ ss) [] ts

abbrev pub few_by : Option (List RawSort × List Text) → Option (List RawSort × List Text)
few_by None = None
few_by (Some got) = if nat_le (length got.0) 4 then Some got else None

-- one to four
abbrev pub few_keys_at : Reader (List RawSort)
few_keys_at ts = few_by (listed_sorts ts)

abbrev pub one_key_at : Reader (List RawSort)
one_key_at ts = after (sort_at ts) (λ s rest. Some (s ∷ [], rest))

-- the same, as keys are read
abbrev pub few_at : Reader (List RawSort)
few_at ts = after (sort_at ts) (λ s rest. after (more_sorts_at (length rest) rest) (λ ss rest. few_keys s ss rest))
