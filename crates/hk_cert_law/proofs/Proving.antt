-- The obligations of an acceptance are read back, each with its proof.
use Rattle.std.proofs.Common.{List, [], ◌∷◌, ◌++◌, Ok, sym, ap, subst}
use Rattle.std.proofs.lemmas.Bool.{le-ltb}
use Rattle.std.proofs.lemmas.List.{append_assoc, append-nil}
use Rattle.ir_layout.specs.declared.object.Object.{Object}
use Rattle.spec_tree.specs.Plain.{Transition, Spec}
use Rattle.hk_proof.specs.declared.Proof.{Proof}
use Rattle.hk_proof.specs.declared.Proof.TheVariants.{Refuted, AllCases}
use Rattle.hk_case.specs.declared.Obligation.{Obligation}
use Rattle.hk_case.specs.Obligations.{case_bits}
use Rattle.hk_cert_text.specs.Certificate.{prove_line, proof_text, proved_text, proofs_text}
use Rattle.hk_cert_lines.specs.Handlers.{prove_at}
use Rattle.hk_cert.specs.Reading.{proof_from, is_wide, proved_at, proofs_from}
use Rattle.hk_cert.specs.Steps.{Place, Reading, line_at}
use Rattle.hk_cert_law.specs.Entries.{IsProof, AreProofs}
use Rattle.hk_cert_law.proofs.Takes.{Takes, AnyText, line_takes, then_takes, none_takes}
use Rattle.hk_cert_law.proofs.Showing.{refuted_taken, cases_taken}
use Rattle.hk_cert_law.proofs.Each.{Each}
use Rattle.hk_cert_law.proofs.Naming.{IsNamed}
use Rattle.hk_cert_law.proofs.Claims.{prove_says}

module _ (objects : List Object) (s : Spec) (t : Transition) where
  abbrev shown : Obligation → Place → Reading Proof
  shown o p = proof_from (is_wide objects s t o) [] p.next p.lines

  proof_takes : (o : Obligation) (proof : Proof) → IsProof objects s t o proof → Takes AnyText (proof_text proof) (shown o) proof
  proof_takes o (Refuted instances log) h = record { takes = λ n rest ahead. refuted_taken (is_wide objects s t o) log h.1 h.2 instances [] n rest h.0 }
  proof_takes o AllCases h = record { takes = λ n rest ahead. cases_taken (is_wide objects s t o) n rest (le-ltb 16 (case_bits objects s t o) h) }

  proved_takes : (o : Obligation) (proof : Proof) → IsNamed s o → IsProof objects s t o proof → Takes AnyText (proved_text s o proof) (proved_at objects s t o) proof
  proved_takes o proof named h =
      then_takes AnyText AnyText (prove_line s o) (proof_text proof) (line_at (prove_at s o)) (λ _ q. shown o q) tt proof
      (line_takes AnyText (prove_line s o) (prove_at s o) tt (prove_says s o named)) (proof_takes o proof h) (λ rest ahead. tt)

  pub proofs_take : (obligations : List Obligation) (proofs before : List Proof) → Each (IsNamed s) obligations → AreProofs objects s t obligations proofs
      → Takes AnyText (proofs_text s obligations proofs) (proofs_from objects s t before obligations) (before ++ proofs)
  proofs_take [] proofs before named h =
      subst (λ ps. Takes AnyText [] (proofs_from objects s t before []) (before ++ ps)) (sym h)
      (none_takes AnyText (proofs_from objects s t before []) (before ++ []) (λ p. ap (λ ps. Ok (ps, p)) (sym (append-nil before))))
  proofs_take (o ∷ obligations) [] before named h = absurd h
  proofs_take (o ∷ obligations) (proof ∷ proofs) before named h =
      let next = proofs_take obligations proofs (before ++ proof ∷ []) named.1 h.1 in
      subst (λ ps. Takes AnyText (proofs_text s (o ∷ obligations) (proof ∷ proofs)) (proofs_from objects s t before (o ∷ obligations)) ps) (append_assoc before (proof ∷ []) proofs)
      (then_takes AnyText AnyText (proved_text s o proof) (proofs_text s obligations proofs) (proved_at objects s t o) (λ proof q. proofs_from objects s t (before ++ proof ∷ []) obligations q) proof ((before ++ proof ∷ []) ++ proofs)
      (proved_takes o proof named.0 h.0) next (λ rest ahead. tt))
