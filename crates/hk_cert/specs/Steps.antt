-- Reading line by line: each reader takes the lines that are its own, and the first line that fails ends the whole.
use Rattle.std.specs.Prelude.{◌≡◌, ℕ, ◌+◌, List, [], ◌∷◌, Result, Ok, Err}
use Rattle.hk_cnf.specs.Text.{lines_of}
use Rattle.hk_cert_lines.specs.declared.reason.CertReason.{CertReason}
use Rattle.hk_cert_lines.specs.declared.reason.CertReason.TheVariants.{Q1}
use Rattle.hk_cert_lines.specs.declared.shown.LineStop.{LineStop}
use Rattle.hk_cert_lines.specs.declared.shown.LineStop.TheVariants as stop
use Rattle.hk_cert.specs.declared.fault.CertFault.{CertFault}
use Rattle.hk_cert.specs.declared.fault.CertStop.{CertStop}
use Rattle.hk_cert.specs.declared.fault.CertStop.TheVariants.{Refused, Memory}
use Rattle.hk_cert.specs.declared.at.At.{At}

-- where a reader stands: the number of the next line, counted from 1, and the lines from it on
pub record Place : Type 0 where
  pub next : ℕ
  pub lines : List (List ℕ)

-- what a reader comes to: what it has read and where it stands then, or the first line that fails with its least reason
abbrev pub Reading : Type 0 → Type 0
Reading A = Result (A × Place) CertFault

abbrev pub fault : ℕ → CertReason → CertFault
fault n reason = record { line = n; reason = reason }

-- a reader goes on where the one before it stands
abbrev pub and_then : {A B : Type 0} → Reading A → (A → Place → Reading B) → Reading B
and_then (Ok p) next = next p.0 p.1
and_then (Err f) next = Err f

-- the line with this number says this
abbrev pub judged : {A : Type 0} → ℕ → List (List ℕ) → Result A CertReason → Reading A
judged n behind (Ok x) = Ok (x, record { next = n + 1; lines = behind })
judged n behind (Err reason) = Err (fault n reason)

-- the next line, by what each line says; a text that has ended fails at the line behind its last
abbrev pub first_says : {A : Type 0} → (List ℕ → Result A CertReason) → ℕ → List (List ℕ) → Reading A
first_says says n [] = Err (fault n Q1)
first_says says n (line ∷ behind) = judged n behind (says line)

abbrev pub line_at : {A : Type 0} → (List ℕ → Result A CertReason) → Place → Reading A
line_at says p = first_says says p.next p.lines

-- ---- what the code answers

abbrev pub place_of : At → Place
place_of a = record { next = a.line; lines = lines_of a.text.now }

abbrev pub Gives : {A B : Type 0} → (A → B) → Result (A × At) CertStop → Reading B → Type 0
Gives view (Ok x) reading = reading ≡ Ok (view x.0, place_of x.1)
Gives view (Err (Refused f)) reading = reading ≡ Err f
Gives view (Err Memory) reading = Unit {0}

-- memory is wanting
abbrev pub Stops : CertStop → Type 0
Stops (Refused f) = ⊥
Stops Memory = Unit {0}

-- the stop at the line with this number
abbrev pub stop_at : ℕ → LineStop → CertStop
stop_at n (stop.Reason reason) = Refused (fault n reason)
stop_at n stop.Memory = Memory

-- the stop is what a reader comes to, or want of memory
abbrev pub FailsAs : {A : Type 0} → CertStop → Reading A → Type 0
FailsAs (Refused f) reading = reading ≡ Err f
FailsAs Memory reading = Unit {0}
