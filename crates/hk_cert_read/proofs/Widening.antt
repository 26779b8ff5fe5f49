-- The readers over a test of widths are those over a handler's case bits.
use Rattle.std.proofs.Common.{◌≡◌, ◌<◌, ◌≤◌, ℕ, ◌+◌, ◌-◌, ◌^◌, min, Bool, true, false, ltb, List, [], ◌∷◌, ◌++◌, map, Ok, Err, refl, sym, ◌∙◌, ap, arith}
use Rattle.std.proofs.lemmas.Bool.{lt-ltb, le-ltb, ltb-true, ltb-false}
use Rattle.ir_ast.specs.Program.{ModuleView}
use Rattle.ir_layout.specs.declared.object.Object.{Object}
use Rattle.spec_tree.specs.Plain.{Transition, Spec}
use Rattle.hk_proof.specs.declared.Proof.{Proof}
use Rattle.hk_case.specs.declared.Obligation.{Obligation}
use Rattle.hk_case.specs.declared.Obligation.TheVariants.{Undefined, Invariant, State, ResultValue, Property}
use Rattle.hk_case.specs.Obligations.{obligations_of}
use Rattle.hk_cert_text.specs.declared.entry.Entry.TheVariants as entry
use Rattle.hk_cert_lines.specs.declared.handlers.Claim.{Claim}
use Rattle.hk_cert_lines.specs.declared.handlers.Claim.TheVariants.{Accept, Reject, Unknown, Memory}
use Rattle.hk_cert_lines.specs.Handlers.{claim_at, prove_at}
use Rattle.hk_cert.specs.Steps.{Place, Reading, and_then, line_at}
use Rattle.hk_cert.specs.States.{case_at}
use Rattle.hk_cert.specs.Reading as definition
use Rattle.hk_cert.specs.Reading.{is_wide, proof_from, proved_at, proofs_from, entry_at}
use Rattle.hk_cert_read.specs.Proving.{proofs_by}
use Rattle.hk_cert_read.specs.Handling.{claimed_by, entry_by}
use Rattle.hk_cert_read.specs.declared.widths.Wide.{Wide}
use Rattle.hk_cert_read.specs.Widths.{wide_for}

then_same : {A B : Type 0} (r : Reading A) (f g : A → Place → Reading B) → ((x : A) (q : Place) → f x q ≡ g x q) → and_then r f ≡ and_then r g
then_same (Ok p) f g same = same p.0 p.1
then_same (Err fault) f g same = refl

module _ (objects : List Object) (s : Spec) (t : Transition) (wide : Obligation → Bool) (same : (o : Obligation) → wide o ≡ is_wide objects s t o) where
  proofs_same : (proofs : List Proof) (owed : List Obligation) (p : Place) → proofs_by wide s proofs owed p ≡ proofs_from objects s t proofs owed p
  proofs_same proofs [] p = refl
  proofs_same proofs (o ∷ owed) p =
      ap (λ b. and_then (and_then (line_at (prove_at s o) p) (λ _ q. proof_from b [] q.next q.lines)) (λ proof q. proofs_by wide s (proofs ++ proof ∷ []) owed q)) (same o)
      ∙ then_same (proved_at objects s t o p) (λ proof q. proofs_by wide s (proofs ++ proof ∷ []) owed q) (λ proof q. proofs_from objects s t (proofs ++ proof ∷ []) owed q) (λ proof q. proofs_same (proofs ++ proof ∷ []) owed q)

  module _ (m : ModuleView) (initial : List (List ℕ)) (first : initial ≡ map (λ o. o.bytes) objects) where
    claimed_same : (n : ℕ) (claim : Claim) (p : Place) → claimed_by m initial wide s t (obligations_of s t) n claim p ≡ definition.entry_by m objects s t n claim p
    claimed_same n Accept p = ap (λ r. and_then r (λ proofs q. Ok (entry.Accept n proofs, q))) (proofs_same [] (obligations_of s t) p)
    claimed_same n (Reject o) p = ap (λ i. and_then (case_at m i s t o p) (λ case q. Ok (entry.Reject o case, q))) first
    claimed_same n (Unknown o) p = refl
    claimed_same n Memory p = refl

    pub entry_same : (p : Place) → entry_by m initial wide s t p ≡ entry_at m objects s t p
    entry_same p =
        then_same (line_at (claim_at s t (obligations_of s t)) p) (λ claim q. claimed_by m initial wide s t (obligations_of s t) p.next claim q) (λ claim q. definition.entry_by m objects s t p.next claim q)
        (λ claim q. claimed_same p.next claim q)

-- ---- bits that are counted up to a bound

pub capped_same : (n b : ℕ) → n ≡ min b (2 ^ 64 - 1) → ltb 16 n ≡ ltb 16 b
capped_same n b is = pick (ltb 16 b) refl
  where
    pick : (x : Bool) → ltb 16 b ≡ x → ltb 16 n ≡ ltb 16 b
    pick true h =
        let low : 16 < b = ltb-true 16 b h in
        lt-ltb 16 n (omega (arith, is, low)) ∙ sym h
    pick false h =
        let high : b ≤ 16 = ltb-false 16 b h in
        le-ltb 16 n (omega (arith, is, high)) ∙ sym h

pub wide_same : (objects : List Object) (s : Spec) (t : Transition) (w : Wide) → w.properties ≡ is_wide objects s t (Property 0) → w.others ≡ is_wide objects s t Undefined
    → (o : Obligation) → wide_for w o ≡ is_wide objects s t o
wide_same objects s t w first second (Property p) = first
wide_same objects s t w first second Undefined = second
wide_same objects s t w first second (Invariant i) = second
wide_same objects s t w first second (State f) = second
wide_same objects s t w first second ResultValue = second
