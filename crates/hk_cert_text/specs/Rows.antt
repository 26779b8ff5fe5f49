-- How instances and the rows of a log are written: decimal numbers and single spaces. A row is one of LRAT (Cruz-Filipe et al. 2017), a
-- deletion with the id 0.
use Rattle.std.specs.Prelude.{ℕ, List, [], ◌∷◌, ◌++◌, codes}
use Rattle.std.specs.List.{flat_map}
use Rattle.std.specs.Fmt.{decimal}
use Rattle.hk_cnf.specs.DimacsText.{literal_text}
use Rattle.hk_lrat.specs.declared.log.LratRow.{LratRow}
use Rattle.hk_lrat.specs.declared.log.LratRow.TheVariants.{Add, Delete}
use Rattle.hk_inst.specs.declared.instance.Instance.{Instance}
use Rattle.hk_inst.specs.declared.instance.Instance.TheVariants.{Pair, Tuple}
use Rattle.hk_rows.specs.Texts.{line, numbered}

-- an instance: two reads, or a quantifier with its tuple
abbrev pub instance_line : Instance → List ℕ
instance_line (Pair a b) = line (codes "pair " ∷ decimal a ∷ codes " " ∷ decimal b ∷ [])
instance_line (Tuple quantifier indices) = line (codes "tuple " ∷ decimal quantifier ∷ flat_map (numbered (codes " ")) indices ∷ [])

-- an id, or a hint, with a space behind it
abbrev pub id_text : ℕ → List ℕ
id_text id = decimal id ++ 32 ∷ []

-- a row of a log
abbrev pub row_line : LratRow → List ℕ
row_line (Add id clause hints) =
    line (id_text id ∷ flat_map literal_text clause ∷ codes "0 " ∷ flat_map id_text hints ∷ codes "0" ∷ [])
row_line (Delete ids) = line (codes "0 d " ∷ flat_map id_text ids ∷ codes "0" ∷ [])
