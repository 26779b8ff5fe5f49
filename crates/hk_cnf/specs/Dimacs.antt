-- Clause files: DIMACS CNF.
use Rattle.std.specs.Prelude.{◌≡◌, ℕ, ◌+◌, ◌-◌, ◌^◌, max, Bool, true, false, ◌&&◌, ◌||◌, ◌==◌, nat_eq, if◌then◌else◌, List, [], ◌∷◌, ◌++◌, length, ℤ, zero, suc, pos, negsuc, Option, Some, None, Result, Ok, Err}
use Rattle.std.specs.List.{list_all}
use Rattle.std.specs.Cmp.Lexicographic.{pointwise}
use Rattle.hk_cnf.specs.Clauses.{Clauses}
use Rattle.hk_cnf.specs.Partial.{Partial}
use Rattle.hk_cnf.specs.Text.{lines_of, words_of, is_numeral, natural_of, unsigned, number_in}
use Rattle.hk_cnf.specs.declared.dimacs_read.CnfReason.{CnfReason}
use Rattle.hk_cnf.specs.declared.dimacs_read.CnfReason.TheVariants.{C1, C2, C3}
use Rattle.hk_cnf.specs.declared.dimacs_read.CnfStop.{CnfStop}
use Rattle.hk_cnf.specs.declared.dimacs_read.CnfStop.TheVariants.{Refused, Memory}
use Rattle.hk_cnf.specs.declared.dimacs_read.LineStop.{LineStop}
use Rattle.hk_cnf.specs.declared.dimacs_read.LineStop.TheVariants.{Reason, Memory as LineMemory}

abbrev pub is_nil : {X : Type 0} → List X → Bool
is_nil [] = true
is_nil (x ∷ xs) = false

-- a comment begins with `c`
abbrev pub is_comment : List ℕ → Bool
is_comment [] = false
is_comment (b ∷ line) = b == 99

-- comments and lines of blanks alone say nothing
abbrev pub is_skipped : List ℕ → Bool
is_skipped line = is_comment line || is_nil (words_of true line)

-- an optional `-` and decimal digits
abbrev pub is_number : List ℕ → Bool
is_number word = is_numeral (unsigned word)

-- the numbers of variables and of clauses, of a line `p cnf V C`
abbrev pub pair_of : Option ℕ → Option ℕ → Option (ℕ × ℕ)
pair_of (Some v) (Some c) = Some (v, c)
pair_of o p = None

abbrev pub header_of : List (List ℕ) → Option (ℕ × ℕ)
header_of (p ∷ cnf ∷ v ∷ c ∷ []) =
    if pointwise nat_eq p (112 ∷ []) && pointwise nat_eq cnf (99 ∷ 110 ∷ 102 ∷ [])
    then pair_of (natural_of (2 ^ 63 - 1) v) (natural_of (2 ^ 64 - 1) c)
    else None
header_of words = None

-- one number more: 0 ends the clause
abbrev pub with_number : Partial → ℤ → Partial
with_number p (pos zero) = record p { clauses = p.clauses ++ p.begun ∷ []; begun = [] }
with_number p (pos (suc n)) = record p { begun = p.begun ++ pos (suc n) ∷ [] }
with_number p (negsuc n) = record p { begun = p.begun ++ negsuc n ∷ [] }

abbrev pub at_number : Option ℤ → (ℤ → Result Partial CnfReason) → Result Partial CnfReason
at_number None next = Err C2
at_number (Some z) next = next z

abbrev pub with_words : Partial → List (List ℕ) → Result Partial CnfReason
with_words p [] = Ok p
with_words p (w ∷ ws) = at_number (number_in p.vars w) (λ z. with_words (with_number p z) ws)

-- a line after the header
abbrev pub with_line : Partial → List ℕ → Result Partial CnfReason
with_line p line =
    if is_skipped line then Ok p
    else (if list_all is_number (words_of true line) then with_words p (words_of true line) else Err C1)

-- a line, counted from 1, and the first reason against it
abbrev pub Fault : Type 0
Fault = ℕ × CnfReason

abbrev pub finished : ℕ → ℕ → Partial → Result Clauses Fault
finished n count p = if is_nil p.begun && (length p.clauses == count) then Ok (record { vars = p.vars; clauses = p.clauses }) else Err (n, C3)

abbrev pub at_line : ℕ → Result Partial CnfReason → (Partial → Result Clauses Fault) → Result Clauses Fault
at_line n (Ok p) next = next p
at_line n (Err reason) next = Err (n, reason)

-- the lines after the header, after n lines
abbrev pub from_body : ℕ → ℕ → Partial → List (List ℕ) → Result Clauses Fault
from_body n count p [] = finished n count p
from_body n count p (line ∷ lines) = at_line (n + 1) (with_line p line) (λ q. from_body (n + 1) count q lines)

abbrev pub at_header : ℕ → Option (ℕ × ℕ) → (ℕ × ℕ → Result Clauses Fault) → Result Clauses Fault
at_header n None next = Err (n, C1)
at_header n (Some h) next = next h

-- the lines up to the header, after n lines
abbrev pub from_top : ℕ → List (List ℕ) → Result Clauses Fault
from_top n [] = Err (max 1 n, C1)
from_top n (line ∷ lines) =
    if is_skipped line then from_top (n + 1) lines
    else at_header (n + 1) (header_of (words_of true line)) (λ h. from_body (n + 1) h.1 (record { vars = h.0; clauses = []; begun = [] }) lines)

-- the list that the text spells, or the first line that fails with its reason
abbrev pub dimacs_of : List ℕ → Result Clauses Fault
dimacs_of text = from_top 0 (lines_of text)

-- the answer is that of the definition, or want of memory
abbrev pub Reads : Result Clauses CnfStop → Result Clauses Fault → Type 0
Reads (Ok list) answer = answer ≡ Ok list
Reads (Err (Refused f)) answer = answer ≡ Err (f.line, f.reason)
Reads (Err Memory) answer = Unit {0}

-- the same of a line
abbrev pub StopsWith : LineStop → Result Partial CnfReason → Type 0
StopsWith (Reason reason) answer = answer ≡ Err reason
StopsWith LineMemory answer = Unit {0}

abbrev pub stop_at : ℕ → LineStop → CnfStop
stop_at n (Reason reason) = Refused (record { line = n; reason = reason })
stop_at n LineMemory = Memory
