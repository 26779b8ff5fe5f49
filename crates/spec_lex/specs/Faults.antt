-- Why a text has no logical lines to be read on: the first one that fails, and its least reason.
use Rattle.std.specs.Prelude.{◌≡◌, ℕ, Bool, true, false, not, ◌||◌, if◌then◌else◌, Option, Some, None, List, [], ◌∷◌, ◌++◌, All, codes, bytes_eq}
use Rattle.std.specs.List.{list_any}
use Rattle.spec_ast.specs.declared.fault.SpecReason.{SpecReason}
use Rattle.spec_ast.specs.declared.fault.SpecReason.TheVariants.{S1, S2}
use Rattle.spec_ast.specs.declared.fault.SpecFault.{SpecFault}
use Rattle.spec_lex.specs.Lines.{Line}
use Rattle.spec_lex.specs.declared.token.TokenKind.{TokenKind}
use Rattle.spec_lex.specs.declared.token.TokenKind.TheVariants.{Word, Mark, Outside}

abbrev pub is_outside_kind : TokenKind → Bool
is_outside_kind Word = false
is_outside_kind Mark = false
is_outside_kind Outside = true

-- S1: a byte outside the tokens
abbrev pub is_s1 : Line → Bool
is_s1 l = list_any (λ t. is_outside_kind t.kind) l.tokens

-- S2: an indentation other than none or four spaces
abbrev pub is_s2 : Line → Bool
is_s2 l = not (bytes_eq l.blanks [] || bytes_eq l.blanks (codes "    "))

-- the line has no fault of these
pub record IsCleanLine (l : Line) : Type 0 where
  pub tokens : is_s1 l ≡ false
  pub indentation : is_s2 l ≡ false

abbrev pub AreClean : List Line → Type 0
AreClean ls = All IsCleanLine ls

-- the line fails, and this is its least reason
abbrev pub Falls : Line → SpecReason → Type 0
Falls l S1 = is_s1 l ≡ true
Falls l S2 = (is_s1 l ≡ false) × (is_s2 l ≡ true)
Falls l _ = ⊥

-- the first line that fails, and its least reason
pub record IsFirstFault (ls : List Line) (fault : SpecFault) : Type 0 where
  pub before : List Line
  pub failing : Line
  pub after : List Line
  pub parts : ls ≡ before ++ failing ∷ after
  pub earlier : AreClean before
  pub place : failing.line ≡ fault.line
  pub falls : Falls failing fault.reason

-- the least reason of a line
abbrev pub reason_of : Line → Option SpecReason
reason_of l = if is_s1 l then Some S1 else (if is_s2 l then Some S2 else None)

abbrev pub or_later : ℕ → Option SpecReason → Option SpecFault → Option SpecFault
or_later line None later = later
or_later line (Some reason) later = Some (record { line = line; reason = reason })

-- the first fault, as it is looked for
abbrev pub first_fault : List Line → Option SpecFault
first_fault [] = None
first_fault (l ∷ ls) = or_later l.line (reason_of l) (first_fault ls)
