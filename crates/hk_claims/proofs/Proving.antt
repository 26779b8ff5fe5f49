-- The proofs that are read: one for each obligation, all cases at obligations of few cases alone, and how many lines they take.
use Rattle.std.proofs.Common.{◌≡◌, inl, inr, ℕ, zero, suc, ◌+◌, ◌-◌, ◌^◌, Bool, true, false, if◌then◌else◌, List, [], ◌∷◌, ◌++◌, length, Option, Some, None, Result, Ok, Err, refl, sym, ap, ◌∙◌, subst, append_assoc, append-nil, arith}
use Rattle.std.specs.Prelude.{bytes_eq, codes, slice_get, ◌&&◌}
use Rattle.std.specs.List.{list_all}
use Rattle.std.proofs.lemmas.Bool.{ltb-false}
use Rattle.std.proofs.lemmas.List.{length-append}
use Rattle.ir_layout.specs.declared.object.Object.{Object}
use Rattle.spec_tree.specs.Plain.{Transition, Spec}
use Rattle.hk_cnf.specs.Text.{words_of}
use Rattle.hk_lrat.specs.declared.log.LratRow.{LratRow}
use Rattle.hk_lrat.specs.declared.log.RowReason.{RowReason}
use Rattle.hk_lrat.specs.LogText.{row_of}
use Rattle.hk_inst.specs.declared.instance.Instance.{Instance}
use Rattle.hk_proof.specs.declared.Proof.{Proof}
use Rattle.hk_proof.specs.declared.Proof.TheVariants.{Refuted, AllCases}
use Rattle.hk_case.specs.declared.Obligation.{Obligation}
use Rattle.hk_case.specs.Obligations.{case_bits}
use Rattle.hk_decide.specs.Right.{IsSmall}
use Rattle.hk_cert_lines.specs.declared.reason.CertReason.{CertReason}
use Rattle.hk_cert_lines.specs.declared.reason.CertReason.TheVariants.{Q1}
use Rattle.hk_cert_lines.specs.declared.shown.Shown.{Shown}
use Rattle.hk_cert_lines.specs.declared.shown.Shown.TheVariants.{Cases, Log, Added}
use Rattle.hk_cert_lines.specs.Words.{is_spaced, is_decimal, number_at}
use Rattle.hk_cert_lines.specs.Handlers.{prove_at}
use Rattle.hk_cert_lines.specs.Shown.{number_in, numbers_in, cases_of, with_count, log_of, pair_in, pair_of, tuple_in, tuple_of, first_cases, shown_by, shown_of, shown_at}
use Rattle.hk_cert.specs.Steps.{Place, Reading, line_at}
use Rattle.hk_cert.specs.Reading.{at_log_row, log_from, is_first, refuted, at_shown, proof_from, is_wide, proved_at, proofs_from}
use Rattle.hk_claims.specs.Fitting.{lines_of_proof, lines_of_proofs}
use Rattle.hk_claims.proofs.Followed.{place, ok_is, guarded, either_of, followed, total, line_was}

-- ---- the line `cases`

no_pair : (a b : Option ℕ) → pair_in a b ≡ Ok Cases → ⊥
no_pair None b h = cc
no_pair (Some a) None h = cc
no_pair (Some a) (Some b) h = cc

no_pair_of : (words : List (List ℕ)) → pair_of words ≡ Ok Cases → ⊥
no_pair_of [] h = cc
no_pair_of (a ∷ []) h = cc
no_pair_of (a ∷ b ∷ []) h = no_pair (number_in a) (number_in b) (guarded (is_decimal a && is_decimal b) (pair_in (number_in a) (number_in b)) Q1 Cases h).1
no_pair_of (a ∷ b ∷ c ∷ words) h = cc

no_tuple : (q : Option ℕ) (is : Option (List ℕ)) → tuple_in q is ≡ Ok Cases → ⊥
no_tuple None is h = cc
no_tuple (Some q) None h = cc
no_tuple (Some q) (Some is) h = cc

no_tuple_of : (words : List (List ℕ)) → tuple_of words ≡ Ok Cases → ⊥
no_tuple_of [] h = cc
no_tuple_of (q ∷ []) h = cc
no_tuple_of (q ∷ i ∷ words) h =
    no_tuple (number_in q) (numbers_in (i ∷ words)) (guarded (is_decimal q && list_all is_decimal (i ∷ words)) (tuple_in (number_in q) (numbers_in (i ∷ words))) Q1 Cases h).1

no_count : (r : Result ℕ CertReason) → with_count r ≡ Ok Cases → ⊥
no_count (Ok n) h = cc
no_count (Err reason) h = cc

no_log_of : (words : List (List ℕ)) → log_of words ≡ Ok Cases → ⊥
no_log_of [] h = cc
no_log_of (w ∷ []) h = no_count (number_at (2 ^ 64 - 1) w) h
no_log_of (w ∷ v ∷ words) h = cc

narrow_cases : (wide : Bool) (words : List (List ℕ)) → cases_of wide words ≡ Ok Cases → wide ≡ false
narrow_cases true [] h = cc
narrow_cases false [] h = refl
narrow_cases wide (w ∷ words) h = cc

first_narrow : (first wide : Bool) (words : List (List ℕ)) → first_cases first wide words ≡ Ok Cases → (first ≡ true) × (wide ≡ false)
first_narrow first wide words h =
    let g = guarded first (cases_of wide words) Q1 Cases h in
    (g.0, narrow_cases wide words g.1)

cases_by : (first wide : Bool) (verb : List ℕ) (words : List (List ℕ)) → shown_by first wide verb words ≡ Ok Cases → (first ≡ true) × (wide ≡ false)
cases_by first wide verb words h =
    elim (either_of (bytes_eq verb (codes "pair")) (pair_of words) (if bytes_eq verb (codes "tuple") then tuple_of words else (if bytes_eq verb (codes "log") then log_of words else (if bytes_eq verb (codes "cases") then first_cases first wide words else Err Q1))) (Ok Cases) h) [
      | inl a ↦ absurd (no_pair_of words a)
      | inr a ↦ elim (either_of (bytes_eq verb (codes "tuple")) (tuple_of words) (if bytes_eq verb (codes "log") then log_of words else (if bytes_eq verb (codes "cases") then first_cases first wide words else Err Q1)) (Ok Cases) a) [
        | inl b ↦ absurd (no_tuple_of words b)
        | inr b ↦ elim (either_of (bytes_eq verb (codes "log")) (log_of words) (if bytes_eq verb (codes "cases") then first_cases first wide words else Err Q1) (Ok Cases) b) [
          | inl c ↦ absurd (no_log_of words c)
          | inr c ↦ first_narrow first wide words (guarded (bytes_eq verb (codes "cases")) (first_cases first wide words) Q1 Cases c).1
        ]
      ]
    ]

cases_in : (first wide : Bool) (words : List (List ℕ)) → shown_of first wide words ≡ Ok Cases → (first ≡ true) × (wide ≡ false)
cases_in first wide [] h = cc
cases_in first wide (verb ∷ words) h = cases_by first wide verb words h

cases_at : (first wide : Bool) (line : List ℕ) → shown_at first wide line ≡ Ok Cases → (first ≡ true) × (wide ≡ false)
cases_at first wide line h = cases_in first wide (words_of false line) (guarded (is_spaced true line) (shown_of first wide (words_of false line)) Q1 Cases h).1

-- ---- a log

pub record Rows (log : List LratRow) (count n : ℕ) (lines : List (List ℕ)) (y : List LratRow × Place) : Type 0 where
  pub many : length y.0 ≡ length log + count
  pub next : y.1.next ≡ n + count
  pub kept : total y.1 ≡ n + length lines

record Row (n : ℕ) (r : Result LratRow RowReason) (next : LratRow → Reading (List LratRow)) (y : List LratRow × Place) : Type 0 where
  row : LratRow
  after : next row ≡ Ok y

row_was : (n : ℕ) (r : Result LratRow RowReason) (next : LratRow → Reading (List LratRow)) (y : List LratRow × Place) → at_log_row n r next ≡ Ok y → Row n r next y
row_was n (Ok row) next y h = record { row = row; after = h }
row_was n (Err reason) next y h = cc

log_was : (count : ℕ) (log : List LratRow) (n : ℕ) (lines : List (List ℕ)) (y : List LratRow × Place) → log_from count log n lines ≡ Ok y → Rows log count n lines y
log_was zero log n lines y h =
    let e : (log, place n lines) ≡ y = ok_is (log, place n lines) y h in
    let a : length log ≡ length y.0 = ap (λ (z : List LratRow × Place). length z.0) e in
    let b : n ≡ y.1.next = ap (λ (z : List LratRow × Place). z.1.next) e in
    let c : n + length lines ≡ total y.1 = ap (λ (z : List LratRow × Place). total z.1) e in
    record { many = omega (arith, a); next = omega (arith, b); kept = omega (arith, c) }
log_was (suc count) log n [] y h = cc
log_was (suc count) log n (line ∷ behind) y h =
    let r = row_was n (row_of (words_of false line)) (λ row. log_from count (log ++ row ∷ []) (n + 1) behind) y h in
    let i = log_was count (log ++ r.row ∷ []) (n + 1) behind y r.after in
    let a = length-append log (r.row ∷ []) in
    let many : length y.0 ≡ length log + suc count = omega (arith, a, i.many) in
    record { many = many; next = omega (arith, i.next); kept = omega (arith, i.kept) }

-- ---- the proof of an obligation

-- what follows the line of the obligation, where so many instances were read before
pub record Proved (wide : Bool) (before n left : ℕ) (y : Proof × Place) : Type 0 where
  pub narrow : y.0 ≡ AllCases → wide ≡ false
  pub next : y.1.next + before + 1 ≡ n + lines_of_proof y.0
  pub kept : total y.1 ≡ n + left

none_before : (instances : List Instance) → is_first instances ≡ true → length instances ≡ 0
none_before [] h = refl
none_before (i ∷ is) h = cc

refuted_was : (wide : Bool) (instances : List Instance) (n left : ℕ) (r : Reading (List LratRow)) (y : Proof × Place) → ((z : List LratRow × Place) → r ≡ Ok z → (length z.0 + n + 1 ≡ z.1.next) × (total z.1 ≡ n + left)) → refuted instances r ≡ Ok y
    → Proved wide (length instances) n left y
refuted_was wide instances n left (Ok p) y given h =
    let e : (Refuted instances p.0, p.1) ≡ y = ok_is (Refuted instances p.0, p.1) y h in
    let g = given p refl in
    subst (λ (z : Proof × Place). Proved wide (length instances) n left z) e (record { narrow = λ is. cc; next = omega (arith, g.0); kept = g.1 })
refuted_was wide instances n left (Err f) y given h = cc

shown_was : (wide : Bool) (instances : List Instance) (n : ℕ) (behind : List (List ℕ)) (r : Result Shown CertReason) (next : Instance → Reading Proof) (y : Proof × Place)
    → (r ≡ Ok Cases → (is_first instances ≡ true) × (wide ≡ false)) → ((i : Instance) → next i ≡ Ok y → Proved wide (length instances + 1) (n + 1) (length behind) y)
    → at_shown n behind instances r next ≡ Ok y → Proved wide (length instances) n (length behind + 1) y
shown_was wide instances n behind (Ok Cases) next y cases more h =
    let e : (AllCases, place (n + 1) behind) ≡ y = ok_is (AllCases, place (n + 1) behind) y h in
    let c = cases refl in
    let none = none_before instances c.0 in
    subst (λ (z : Proof × Place). Proved wide (length instances) n (length behind + 1) z) e (record { narrow = λ _. c.1; next = omega (arith, none); kept = omega arith })
shown_was wide instances n behind (Ok (Log count)) next y cases more h =
    refuted_was wide instances n (length behind + 1) (log_from count [] (n + 1) behind) y
    (λ z is. let w = log_was count [] (n + 1) behind z is in (omega (arith, w.many, w.next), omega (arith, w.kept))) h
shown_was wide instances n behind (Ok (Added i)) next y cases more h =
    let m = more i h in
    record { narrow = m.narrow; next = omega (arith, m.next); kept = omega (arith, m.kept) }
shown_was wide instances n behind (Err reason) next y cases more h = cc

proof_was : (wide : Bool) (instances : List Instance) (n : ℕ) (lines : List (List ℕ)) (y : Proof × Place) → proof_from wide instances n lines ≡ Ok y → Proved wide (length instances) n (length lines) y
proof_was wide instances n [] y h = cc
proof_was wide instances n (line ∷ behind) y h =
    let s = shown_was wide instances n behind (shown_at (is_first instances) wide line) (λ i. proof_from wide (instances ++ i ∷ []) (n + 1) behind) y
    (cases_at (is_first instances) wide line)
    (λ i is. subst (λ k. Proved wide k (n + 1) (length behind) y) (length-append instances (i ∷ [])) (proof_was wide (instances ++ i ∷ []) (n + 1) behind y is)) h in
    record { narrow = s.narrow; next = s.next; kept = omega (arith, s.kept) }

pub record ProvedAt (objects : List Object) (s : Spec) (t : Transition) (o : Obligation) (p : Place) (y : Proof × Place) : Type 0 where
  pub small : y.0 ≡ AllCases → IsSmall objects s t o
  pub next : y.1.next ≡ p.next + lines_of_proof y.0
  pub kept : total y.1 ≡ total p

proved_was : (objects : List Object) (s : Spec) (t : Transition) (o : Obligation) (p : Place) (y : Proof × Place) → proved_at objects s t o p ≡ Ok y → ProvedAt objects s t o p y
proved_was objects s t o p y h =
    let f = followed (line_at (prove_at s o) p) (λ _ q. proof_from (is_wide objects s t o) [] q.next q.lines) y h in
    let l = line_was (prove_at s o) p f.before f.first in
    let w = proof_was (is_wide objects s t o) [] f.before.1.next f.before.1.lines y f.after in
    record { small = λ is. ltb-false 16 (case_bits objects s t o) (w.narrow is); next = omega (arith, l.next, w.next); kept = omega (arith, l.kept, w.kept) }

-- ---- the proofs of a handler

-- each proof by all cases is that of an obligation with few
abbrev pub AreSmall : List Object → Spec → Transition → List Obligation → List Proof → Type 0
AreSmall objects s t owed proofs = (k : ℕ) (o : Obligation) → slice_get owed k ≡ Some o → slice_get proofs k ≡ Some AllCases → IsSmall objects s t o

small_more : (objects : List Object) (s : Spec) (t : Transition) (o : Obligation) (owed : List Obligation) (p : Proof) (proofs : List Proof) → (p ≡ AllCases → IsSmall objects s t o)
    → AreSmall objects s t owed proofs → AreSmall objects s t (o ∷ owed) (p ∷ proofs)
small_more objects s t o owed p proofs here more zero x a b =
    let is : o ≡ x = cc in
    subst (λ (z : Obligation). IsSmall objects s t z) is (here cc)
small_more objects s t o owed p proofs here more (suc k) x a b = more k x a b

pub record AreProved (objects : List Object) (s : Spec) (t : Transition) (proofs : List Proof) (owed : List Obligation) (p : Place) (y : List Proof × Place) : Type 0 where
  pub news : List Proof
  pub are : y.0 ≡ proofs ++ news
  pub many : length news ≡ length owed
  pub small : AreSmall objects s t owed news
  pub next : y.1.next ≡ p.next + lines_of_proofs news
  pub kept : total y.1 ≡ total p

pub proofs_were : (objects : List Object) (s : Spec) (t : Transition) (proofs : List Proof) (owed : List Obligation) (p : Place) (y : List Proof × Place) → proofs_from objects s t proofs owed p ≡ Ok y
    → AreProved objects s t proofs owed p y
proofs_were objects s t proofs [] p y h =
    let e : (proofs, p) ≡ y = ok_is (proofs, p) y h in
    subst (λ (z : List Proof × Place). AreProved objects s t proofs [] p z) e
    (record { news = []; are = sym (append-nil proofs); many = refl; small = λ k o a b. cc; next = omega arith; kept = refl })
proofs_were objects s t proofs (o ∷ owed) p y h =
    let f = followed (proved_at objects s t o p) (λ proof q. proofs_from objects s t (proofs ++ proof ∷ []) owed q) y h in
    let one = proved_was objects s t o p f.before f.first in
    let rest = proofs_were objects s t (proofs ++ f.before.0 ∷ []) owed f.before.1 y f.after in
    record {
      news = f.before.0 ∷ rest.news;
      are = rest.are ∙ append_assoc proofs (f.before.0 ∷ []) rest.news;
      many = ap suc rest.many;
      small = small_more objects s t o owed f.before.0 rest.news one.small rest.small;
      next = omega (arith, one.next, rest.next);
      kept = rest.kept ∙ one.kept;
    }
