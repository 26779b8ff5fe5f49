-- Where the lines at the front of a text end.
use Rattle.std.specs.Prelude.{◌≡◌, ℕ, ◌≤◌, ◌<◌, true, false, not, List, [], ◌∷◌, ◌++◌, length, take, drop}
use Rattle.std.specs.List.{list_all}
use Rattle.hk_cnf.specs.Text.{lines_of}
use Rattle.hk_lrat.specs.LogText.{is_skipped}

-- a text whose lines are not changed by what follows it
abbrev pub IsClosed : List ℕ → Type 0
IsClosed front = (more : List ℕ) → lines_of (front ++ more) ≡ lines_of front ++ lines_of more

-- the first line ends here, with its newline, and is not skipped
pub record IsRowEnd (text : List ℕ) (end : ℕ) : Type 0 where
  pub line : List ℕ
  pub some : 0 < end
  pub within : end ≤ length text
  pub whole : lines_of (take end text) ≡ line ∷ []
  pub parts : lines_of text ≡ line ∷ lines_of (drop end text)
  pub kept : is_skipped line ≡ false
  pub closed : end < length text → IsClosed (take end text)

-- no line is left, or the next is one that readers of logs skip
abbrev pub IsOver : List (List ℕ) → Type 0
IsOver [] = Unit {0}
IsOver (line ∷ lines) = is_skipped line ≡ true

-- so many lines at the front of a text end here, and none of them is skipped
pub record AreLines (text : List ℕ) (rows end : ℕ) : Type 0 where
  pub within : end ≤ length text
  pub parts : lines_of text ≡ lines_of (take end text) ++ lines_of (drop end text)
  pub count : length (lines_of (take end text)) ≡ rows
  pub kept : list_all (λ line. not (is_skipped line)) (lines_of (take end text)) ≡ true
  pub closed : end < length text → IsClosed (take end text)

-- as many as are due, or as there are before one that is skipped
pub record IsExtent (due : ℕ) (text : List ℕ) (rows end : ℕ) : Type 0 where
  pub lines : AreLines text rows end
  pub few : rows ≤ due
  pub over : rows < due → IsOver (lines_of (drop end text))
