-- The lines behind the one that an obligation's proof begins with: `cases`, an instance, or the number of rows of the log.
use Rattle.std.specs.Prelude.{ℕ, ◌≡◌, ◌^◌, ◌-◌, ◌++◌, Bool, true, false, ◌&&◌, if◌then◌else◌, List, [], ◌∷◌, Option, Some, None, Result, Ok, Err, codes, bytes_eq}
use Rattle.std.specs.List.{list_all}
use Rattle.hk_cnf.specs.Text.{words_of, natural_of}
use Rattle.hk_inst.specs.declared.instance.Instance.TheVariants.{Pair, Tuple}
use Rattle.hk_cert_lines.specs.declared.reason.CertReason.{CertReason}
use Rattle.hk_cert_lines.specs.declared.reason.CertReason.TheVariants.{Q1, Q2}
use Rattle.hk_cert_lines.specs.declared.shown.Shown.{Shown}
use Rattle.hk_cert_lines.specs.declared.shown.Shown.TheVariants.{Cases, Log, Added}
use Rattle.hk_cert_lines.specs.declared.shown.LineStop.{LineStop}
use Rattle.hk_cert_lines.specs.declared.shown.LineStop.TheVariants as stop
use Rattle.hk_cert_lines.specs.Words.{is_spaced, is_decimal, number_at}

-- a number of 64 bits
abbrev pub number_in : List ℕ → Option ℕ
number_in word = natural_of (2 ^ 64 - 1) word

-- the line `cases`: a number of case bits that is out of its range is Q2
abbrev pub cases_of : Bool → List (List ℕ) → Result Shown CertReason
cases_of wide [] = if wide then Err Q2 else Ok Cases
cases_of wide (w ∷ words) = Err Q1

abbrev pub with_count : Result ℕ CertReason → Result Shown CertReason
with_count (Ok n) = Ok (Log n)
with_count (Err reason) = Err reason

abbrev pub log_of : List (List ℕ) → Result Shown CertReason
log_of [] = Err Q1
log_of (w ∷ []) = with_count (number_at (2 ^ 64 - 1) w)
log_of (w ∷ v ∷ words) = Err Q1

abbrev pub pair_in : Option ℕ → Option ℕ → Result Shown CertReason
pair_in None b = Err Q2
pair_in (Some a) None = Err Q2
pair_in (Some a) (Some b) = Ok (Added (Pair a b))

abbrev pub pair_of : List (List ℕ) → Result Shown CertReason
pair_of [] = Err Q1
pair_of (a ∷ []) = Err Q1
pair_of (a ∷ b ∷ []) = if is_decimal a && is_decimal b then pair_in (number_in a) (number_in b) else Err Q1
pair_of (a ∷ b ∷ c ∷ words) = Err Q1

abbrev pub with_number : Option ℕ → Option (List ℕ) → Option (List ℕ)
with_number None ns = None
with_number (Some n) None = None
with_number (Some n) (Some ns) = Some (n ∷ ns)

abbrev pub numbers_in : List (List ℕ) → Option (List ℕ)
numbers_in [] = Some []
numbers_in (w ∷ words) = with_number (number_in w) (numbers_in words)

-- numbers behind those that were read before
abbrev pub after_numbers : List ℕ → Option (List ℕ) → Option (List ℕ)
after_numbers ns None = None
after_numbers ns (Some ms) = Some (ns ++ ms)

abbrev pub tuple_in : Option ℕ → Option (List ℕ) → Result Shown CertReason
tuple_in None indices = Err Q2
tuple_in (Some quantifier) None = Err Q2
tuple_in (Some quantifier) (Some indices) = Ok (Added (Tuple quantifier indices))

abbrev pub tuple_by : List ℕ → List (List ℕ) → Result Shown CertReason
tuple_by q words = if is_decimal q && list_all is_decimal words then tuple_in (number_in q) (numbers_in words) else Err Q1

-- a quantifier with at least one index
abbrev pub tuple_of : List (List ℕ) → Result Shown CertReason
tuple_of [] = Err Q1
tuple_of (q ∷ []) = Err Q1
tuple_of (q ∷ i ∷ words) = tuple_by q (i ∷ words)

abbrev pub first_cases : Bool → Bool → List (List ℕ) → Result Shown CertReason
first_cases first wide words = if first then cases_of wide words else Err Q1

-- by the first word; `first`: no instance stands before; `wide`: the obligation has more case bits than all cases are tried of
abbrev pub shown_by : Bool → Bool → List ℕ → List (List ℕ) → Result Shown CertReason
shown_by first wide verb words =
    if bytes_eq verb (codes "pair") then pair_of words
    else (if bytes_eq verb (codes "tuple") then tuple_of words
    else (if bytes_eq verb (codes "log") then log_of words
    else (if bytes_eq verb (codes "cases") then first_cases first wide words
    else Err Q1)))

abbrev pub shown_of : Bool → Bool → List (List ℕ) → Result Shown CertReason
shown_of first wide [] = Err Q1
shown_of first wide (verb ∷ words) = shown_by first wide verb words

abbrev pub shown_at : Bool → Bool → List ℕ → Result Shown CertReason
shown_at first wide line = if is_spaced true line then shown_of first wide (words_of false line) else Err Q1

-- the answer to a line is that of the definition, or want of memory
abbrev pub Says : {A : Type 0} → Result A LineStop → Result A CertReason → Type 0
Says (Ok x) answer = answer ≡ Ok x
Says (Err (stop.Reason reason)) answer = answer ≡ Err reason
Says (Err stop.Memory) answer = Unit {0}
