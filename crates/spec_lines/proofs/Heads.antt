-- Fields by their lines and names.
use Rattle.std.proofs.Common.{◌≡◌, Bool, true, false, if◌then◌else◌, List, [], ◌∷◌, ◌++◌, map, is_some, refl, sym}
use Rattle.std.proofs.lemmas.List.{map-append}
use Rattle.spec_scope.specs.Scope.{Declared, place_in, with_field}
use Rattle.spec_lines.specs.View.{head_of, with_head}

by_test : (t : Bool) (fields : List Declared) (d : Declared)
    → (if t then map head_of fields else map head_of fields ++ head_of d ∷ []) ≡ map head_of (if t then fields else fields ++ d ∷ [])
by_test true fields d = refl
by_test false fields d = sym (map-append head_of fields (d ∷ []))

pub heads_with : (fields : List Declared) (d : Declared) → with_head fields (map head_of fields) (head_of d) ≡ map head_of (with_field fields d)
heads_with fields d = by_test (is_some (place_in fields d.name)) fields d
