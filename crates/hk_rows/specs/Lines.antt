-- How a line is put piece by piece: what of it is shown, and what is held back to be put with what follows.

use Rattle.std.specs.Prelude.{ℕ, ◌≡◌, ◌≤◌, ◌<◌, ◌^◌, List, ◌++◌, Option}
use Rattle.hk_io.specs.Shown.{shown_with, ShowsPrefix}
use Rattle.hk_io.specs.Faults.{Rose}

-- A text was added to a line: of what was held back and the text all is shown but for what is held back now.
pub record Adds (shown shown' : Option (List ℕ)) (faults faults' : ℕ) (held held' text : List ℕ) : Type 0 where
  pub put : List ℕ
  pub is_shown : shown' ≡ shown_with shown put
  pub parts : held ++ text ≡ put ++ held'
  pub still : faults' ≡ faults

-- A put failed, with a prefix of this text shown.
pub record Fails (shown shown' : Option (List ℕ)) (faults faults' : ℕ) (text : List ℕ) : Type 0 where
  pub cut : ShowsPrefix shown shown' text
  pub failed : Rose faults faults'
  pub later : faults ≤ faults'
  pub fits : faults' < 2 ^ 64

-- A text was put whole.
pub record Shows (shown shown' : Option (List ℕ)) (faults faults' : ℕ) (text : List ℕ) : Type 0 where
  pub whole : shown' ≡ shown_with shown text
  pub still : faults' ≡ faults

-- A put of a text's lines failed, with a prefix of the text shown.
pub record Cuts (shown shown' : Option (List ℕ)) (faults faults' : ℕ) (text : List ℕ) : Type 0 where
  pub cut : ShowsPrefix shown shown' text
  pub failed : Rose faults faults'
  pub later : faults ≤ faults'
