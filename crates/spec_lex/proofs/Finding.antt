-- One step of the search for the first fault.
use Rattle.std.proofs.Common.{◌≡◌, ℕ, ◌+◌, ◌<◌, ◌||◌, List, [], ◌∷◌, length, drop, get_or, refl, ap, sym, ◌∙◌, add-one, drop-cons}
use Rattle.std.specs.Prelude.{Some, None}
use Rattle.std.specs.List.{list_any}
use Rattle.spec_ast.specs.declared.fault.SpecReason.{SpecReason}
use Rattle.spec_lex.specs.Token.{tokens_of}
use Rattle.spec_lex.specs.Lines.{line_of, lines_of}
use Rattle.spec_lex.specs.Faults.{is_outside_kind, reason_of, or_later, first_fault}
use Rattle.spec_lex.specs.declared.token.Token.{Token}
use Rattle.spec_lex.specs.declared.line.LogicalLine.{LogicalLine}

pub any_of_tokens : (ts : List Token) → list_any (λ t. is_outside_kind t.kind) (tokens_of ts) ≡ list_any (λ t. is_outside_kind t.kind) ts
any_of_tokens [] = refl
any_of_tokens (t ∷ ts) = ap (λ b. is_outside_kind t.kind || b) (any_of_tokens ts)

-- the fault of a list from a line on is that of the line, or of what follows
pub at_line : (ls : List LogicalLine) (i : ℕ) (d : LogicalLine) → i < length ls →
    first_fault (lines_of (drop i ls)) ≡ or_later (line_of (get_or ls i d)).line (reason_of (line_of (get_or ls i d))) (first_fault (lines_of (drop (i + 1) ls)))
at_line ls i d within = rw (drop-cons ls i d) (rw add-one refl)

pub past : (ls : List LogicalLine) (i : ℕ) (d : LogicalLine) → i < length ls → reason_of (line_of (get_or ls i d)) ≡ None →
    first_fault (lines_of (drop (i + 1) ls)) ≡ first_fault (lines_of (drop i ls))
past ls i d within none = sym (at_line ls i d within ∙ ap (λ r. or_later (line_of (get_or ls i d)).line r (first_fault (lines_of (drop (i + 1) ls)))) none)

pub found : (ls : List LogicalLine) (i : ℕ) (d : LogicalLine) (reason : SpecReason) → i < length ls → reason_of (line_of (get_or ls i d)) ≡ Some reason →
    first_fault (lines_of (drop i ls)) ≡ Some (record { line = (get_or ls i d).line; reason = reason })
found ls i d reason within some = at_line ls i d within ∙ ap (λ r. or_later (line_of (get_or ls i d)).line r (first_fault (lines_of (drop (i + 1) ls)))) some

pub ruleset finding = (past, found)
