-- The names that the lines of a specification define, as its text spells them.
use Rattle.std.specs.Prelude.{◌≡◌, true, List, [], ◌∷◌}
use Rattle.spec_ast.specs.Raw.{Item, Line, field_line, def_line}
use Rattle.hk_cert_lines.specs.Words.{is_name}

-- a function's name and a field's begin with no digit and are no keywords
abbrev pub IsSpelled : Item → Type 0
IsSpelled (def_line x parameters) = is_name x ≡ true
IsSpelled (field_line x keys entry) = is_name x ≡ true
IsSpelled _ = Unit {0}

abbrev pub AreSpelled : List Line → Type 0
AreSpelled [] = Unit {0}
AreSpelled (l ∷ lines) = IsSpelled l.item × AreSpelled lines
