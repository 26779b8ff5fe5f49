-- The forms of the command words.

use Rattle.std.specs.Prelude.{ℕ, ◌≡◌, ◌<◌, ◌≤◌, ◌^◌, ◌⊎◌, List, [], ◌∷◌, ◌++◌, map, codes, String, string_bytes, All}
use Rattle.std.specs.Fmt.{decimal}
use Rattle.std.specs.declared.alloc.Global.{Global}

-- The bytes of each word.
abbrev pub bytes_of : List (String Global) → List (List ℕ)
bytes_of words = map string_bytes words

-- The conflicts that a round of the solver may take where the words name no number, and the most that they may name.
abbrev pub usual_conflicts : ℕ
usual_conflicts = 20000

abbrev pub most_conflicts : ℕ
most_conflicts = 1000000

-- The option `--conflicts N`: N is the decimal digits of a number.
pub record NamesConflicts (options : List (List ℕ)) (budget : ℕ) : Type 0 where
  pub form : options ≡ codes "--conflicts" ∷ decimal budget ∷ []
  pub some : 1 ≤ budget
  pub most : budget ≤ most_conflicts

-- The conflicts that a round may take by these options.
abbrev pub AllowConflicts : List (List ℕ) → ℕ → Type 0
AllowConflicts options budget = ((options ≡ []) × (budget ≡ usual_conflicts)) ⊎ NamesConflicts options budget

-- The words `verify KERNEL SPEC [--conflicts N]`, by which a round may take so many conflicts.
pub record IsVerify (words : List (List ℕ)) (kernel spec : List ℕ) (budget : ℕ) : Type 0 where
  pub options : List (List ℕ)
  pub form : words ≡ codes "verify" ∷ kernel ∷ spec ∷ options
  pub allowed : AllowConflicts options budget

-- These options ask for a certificate under this name, and let a round take so many conflicts.
pub record AsksFor (options : List (List ℕ)) (budget : ℕ) (cert : List ℕ) : Type 0 where
  pub front : List (List ℕ)
  pub form : options ≡ front ++ codes "--cert" ∷ cert ∷ []
  pub allowed : AllowConflicts front budget

-- The words `verify KERNEL SPEC [--conflicts N] --cert FILE`.
pub record IsCertifying (words : List (List ℕ)) (kernel spec : List ℕ) (budget : ℕ) (cert : List ℕ) : Type 0 where
  pub options : List (List ℕ)
  pub form : words ≡ codes "verify" ∷ kernel ∷ spec ∷ options
  pub asked : AsksFor options budget cert

-- No certificate is asked for.
abbrev pub IsNotCertifying : List (List ℕ) → Type 0
IsNotCertifying words = (kernel spec : List ℕ) (budget : ℕ) (cert : List ℕ) → IsCertifying words kernel spec budget cert → ⊥

-- The words of `verify`, with a certificate asked for or without.
abbrev pub IsVerification : List (List ℕ) → List ℕ → List ℕ → ℕ → Type 0
IsVerification words kernel spec budget = IsVerify words kernel spec budget ⊎ ((cert : List ℕ) × IsCertifying words kernel spec budget cert)

-- The words `lrat CNF PROOF`.
abbrev pub IsLrat : List (List ℕ) → List ℕ → List ℕ → Type 0
IsLrat words cnf proof = words ≡ codes "lrat" ∷ cnf ∷ proof ∷ []

-- The words `run KERNEL FUNCTION [ARG ..]`: an argument is the decimal digits of a number below 2^64.
pub record IsRun (words : List (List ℕ)) (kernel function : List ℕ) (arguments : List ℕ) : Type 0 where
  pub form : words ≡ codes "run" ∷ kernel ∷ function ∷ map decimal arguments
  pub numbers : All (λ n. n < 2 ^ 64) arguments

-- The words `bench N`: N is the decimal digits of a number from 1 to 64.
pub record IsBench (words : List (List ℕ)) (n : ℕ) : Type 0 where
  pub form : words ≡ codes "bench" ∷ decimal n ∷ []
  pub some : 1 ≤ n
  pub few : n ≤ 64

-- The words `check KERNEL SPEC CERT` and `replay KERNEL SPEC CERT`.
abbrev pub IsCheck : List (List ℕ) → List ℕ → List ℕ → List ℕ → Type 0
IsCheck words kernel spec cert = words ≡ codes "check" ∷ kernel ∷ spec ∷ cert ∷ []

abbrev pub IsReplay : List (List ℕ) → List ℕ → List ℕ → List ℕ → Type 0
IsReplay words kernel spec cert = words ≡ codes "replay" ∷ kernel ∷ spec ∷ cert ∷ []

-- Each word is the decimal digits of a number below 2^64.
pub record AreNumbers (words : List (List ℕ)) : Type 0 where
  pub numbers : List ℕ
  pub spelled : words ≡ map decimal numbers
  pub small : All (λ n. n < 2 ^ 64) numbers

-- The words have no form.
pub record HasNoForm (words : List (List ℕ)) : Type 0 where
  pub no_verify : (kernel spec : List ℕ) (budget : ℕ) → IsVerify words kernel spec budget → ⊥
  pub no_cert : (kernel spec : List ℕ) (budget : ℕ) (cert : List ℕ) → IsCertifying words kernel spec budget cert → ⊥
  pub no_check : (kernel spec cert : List ℕ) → IsCheck words kernel spec cert → ⊥
  pub no_replay : (kernel spec cert : List ℕ) → IsReplay words kernel spec cert → ⊥
  pub no_lrat : (cnf proof : List ℕ) → IsLrat words cnf proof → ⊥
  pub no_run : (kernel function : List ℕ) (arguments : List ℕ) → IsRun words kernel function arguments → ⊥
  pub no_bench : (n : ℕ) → IsBench words n → ⊥
