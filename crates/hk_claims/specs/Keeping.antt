-- What checking one acceptance comes to in code.
use Rattle.std.specs.Prelude.{ℕ, ◌≡◌, List, Some}
use Rattle.ir_ast.specs.Program.{ModuleView}
use Rattle.ir_layout.specs.Layouts.{LayoutView, IsLayoutOf}
use Rattle.spec_tree.specs.Plain.{Transition, Spec}
use Rattle.hk_lrat.specs.declared.log.RowReason.{RowReason}
use Rattle.hk_lrat.specs.Log.{log_fault}
use Rattle.hk_proof.specs.declared.Proof.{Proof}
use Rattle.hk_verdict.specs.declared.verdict.Verdict.{Verdict}
use Rattle.hk_verdict.specs.declared.verdict.Verdict.TheVariants as verdict
use Rattle.hk_cert_text.specs.declared.entry.Entry.TheVariants as entry
use Rattle.hk_claims.specs.declared.checking.Kept.{Kept}
use Rattle.hk_claims.specs.declared.stop.ClaimStop.{ClaimStop}
use Rattle.hk_claims.specs.declared.stop.ClaimStop.TheVariants as stop
use Rattle.hk_claims.specs.Checks.{IsVerdictOf, NamesNothing}

-- the row and the reason are those at which the log fails
abbrev pub SaysOf : Verdict → ℕ → RowReason → Type 0
SaysOf (verdict.Accepted proofs) row reason = Unit {0}
SaysOf (verdict.Rejected o case) row reason = Unit {0}
SaysOf (verdict.Unknown o instances clauses log) row reason = log_fault clauses log ≡ Some (row, reason)
SaysOf verdict.Memory row reason = Unit {0}

abbrev pub SaysWhy : Kept → Type 0
SaysWhy kept = SaysOf kept.verdict kept.row kept.reason

pub record IsKeptOf (m : ModuleView) (s : Spec) (t : Transition) (proofs : List Proof) (kept : Kept) : Type 0 where
  pub is_verdict : (l : LayoutView) → IsLayoutOf m l → IsVerdictOf m l.objects s t proofs kept.verdict
  pub says : SaysWhy kept

-- no put was tried
abbrev pub IsStopOf : ModuleView → Spec → Transition → ℕ → List Proof → ClaimStop → Type 0
IsStopOf m s t at proofs stop.Write = ⊥
IsStopOf m s t at proofs stop.Memory = Unit {0}
IsStopOf m s t at proofs (stop.NoSuch line) = NamesNothing m s (t, entry.Accept at proofs) line
