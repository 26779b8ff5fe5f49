-- A text spells at most one raw specification, and none where it fails; and it fails at one line at most.
use Rattle.std.proofs.Common.{◌≡◌, ℕ, inl, inr, Some, None, List, [], ◌∷◌, refl, ap, sym, subst, ◌∙◌}
use Rattle.spec_ast.specs.declared.fault.SpecReason.{SpecReason}
use Rattle.spec_ast.specs.declared.fault.SpecReason.TheVariants.{S3, S4}
use Rattle.spec_ast.specs.declared.fault.SpecFault.{SpecFault}
use Rattle.spec_ast.specs.Raw as raw
use Rattle.spec_ast.specs.Raw.{Item}
use Rattle.spec_lex.specs.Lines.{Line, AreLinesOf}
use Rattle.spec_lex.specs.Faults.{AreClean, IsFirstFault}
use Rattle.spec_lex.proofs.LineLaws.{lines_complete}
use Rattle.spec_lex.proofs.FaultLaws.{clean_none, first_found}
use Rattle.spec_read.specs.Places.{Place, nowhere}
use Rattle.spec_read.specs.Texts.{texts, place_of, place_behind, SpellsLine, IsS4, SpellsLines, IsLineFault, FailsAt}
use Rattle.spec_read.specs.Laws.{IsSpecOf, IsTextFault, FailsText}
use Rattle.spec_read.proofs.ItemComplete.{one_item}

same_item : (place : Place) (l : Line) (ls : List Line) (i j : Item) → SpellsLine place l ls i → SpellsLine place l ls j → i ≡ j
same_item place l ls i j a b = one_item (place_of place l) i j (texts l) a.spelled b.spelled

lines_one : (ls : List Line) (place : Place) (a b : List raw.Line) → SpellsLines place ls a → SpellsLines place ls b → a ≡ b
lines_one [] place a b none_a none_b = none_a ∙ sym none_b
lines_one (l ∷ ls) place a b (i, xs, si, oki, mi, pi) (j, ys, sj, okj, mj, pj) =
    let e : i ≡ j = same_item place l ls i j si sj in
    let rest : xs ≡ ys = lines_one ls (place_behind place l j) xs ys (subst (λ k. SpellsLines (place_behind place l k) ls xs) e mi) mj in
    pi ∙ ap (λ k. record { line = l.line; item = k } ∷ xs) e ∙ ap (λ os. record { line = l.line; item = j } ∷ os) rest ∙ sym pj

faulty : (place : Place) (l : Line) (ls : List Line) (reason : SpecReason) (item : Item) → IsLineFault place l ls reason → SpellsLine place l ls item → (IsS4 item → ⊥) → ⊥
faulty place l ls S3 item fault spelled fine = fault item spelled
faulty place l ls S4 item (other, so, deep) spelled fine = fine (subst IsS4 (same_item place l ls other item so spelled) deep)
faulty place l ls _ item fault spelled fine = absurd fault

fails_spells : (ls : List Line) (place : Place) (line : ℕ) (reason : SpecReason) (raws : List raw.Line) → FailsAt place ls line reason → SpellsLines place ls raws → ⊥
fails_spells [] place line reason raws fails spells = fails
fails_spells (l ∷ ls) place line reason raws (inl (at, fault)) (i, others, si, fine, more, parts) = faulty place l ls reason i fault si fine
fails_spells (l ∷ ls) place line reason raws (inr (j, sj, ok, later)) (i, others, si, fine, more, parts) =
    fails_spells ls (place_behind place l i) line reason others (subst (λ k. FailsAt (place_behind place l k) ls line reason) (same_item place l ls j i sj si) later) more

same_reason : (place : Place) (l : Line) (ls : List Line) (r s : SpecReason) → IsLineFault place l ls r → IsLineFault place l ls s → r ≡ s
same_reason place l ls S3 S3 a b = refl
same_reason place l ls S3 S4 a (item, spelled, deep) = absurd (a item spelled)
same_reason place l ls S4 S3 (item, spelled, deep) b = absurd (b item spelled)
same_reason place l ls S4 S4 a b = refl
same_reason place l ls S3 _ a b = absurd b
same_reason place l ls S4 _ a b = absurd b
same_reason place l ls _ s a b = absurd a

one_fault : (ls : List Line) (place : Place) (m n : ℕ) (r s : SpecReason) → FailsAt place ls m r → FailsAt place ls n s → (m ≡ n) × (r ≡ s)
one_fault [] place m n r s a b = absurd a
one_fault (l ∷ ls) place m n r s (inl (at, fault)) (inl (bt, other)) = (sym at ∙ bt, same_reason place l ls r s fault other)
one_fault (l ∷ ls) place m n r s (inl (at, fault)) (inr (j, sj, fine, later)) = absurd (faulty place l ls r j fault sj fine)
one_fault (l ∷ ls) place m n r s (inr (i, si, fine, later)) (inl (bt, fault)) = absurd (faulty place l ls s i fault si fine)
one_fault (l ∷ ls) place m n r s (inr (i, si, fi, mi)) (inr (j, sj, fj, mj)) =
    one_fault ls (place_behind place l j) m n r s (subst (λ k. FailsAt (place_behind place l k) ls m r) (same_item place l ls i j si sj) mi) mj

same_lines : (text : List ℕ) (a b : List Line) → AreLinesOf text a → AreLinesOf text b → a ≡ b
same_lines text a b first second = sym (lines_complete text a first) ∙ lines_complete text b second

pub one_spec : (text : List ℕ) (a b : List raw.Line) → IsSpecOf text a → IsSpecOf text b → a ≡ b
one_spec text a b (ls, are, clean, spells) (ms, also, tidy, others) = lines_one ms nowhere a b (subst (λ ks. SpellsLines nowhere ks a) (same_lines text ls ms are also) spells) others

-- lines without a fault of the first kinds have none
clean_first : (ls : List Line) (fault : SpecFault) → AreClean ls → IsFirstFault ls fault → ⊥
clean_first ls fault clean first = let both : None ≡ Some fault = sym (clean_none ls clean) ∙ first_found ls fault first in cc

pub fails_or_spells : (text : List ℕ) (raws : List raw.Line) (fault : SpecFault) → IsSpecOf text raws → FailsText text fault → ⊥
fails_or_spells text raws fault (ls, are, clean, spells) (ms, also, inl first) = clean_first ls fault clean (subst (λ ks. IsFirstFault ks fault) (same_lines text ms ls also are) first)
fails_or_spells text raws fault (ls, are, clean, spells) (ms, also, inr (tidy, fails)) =
    fails_spells ls nowhere fault.line fault.reason raws (subst (λ ks. FailsAt nowhere ks fault.line fault.reason) (same_lines text ms ls also are) fails) spells

same_some : (f g : SpecFault) → Some f ≡ Some g → f ≡ g
same_some f g h = cc

same_parts : (f g : SpecFault) → f.line ≡ g.line → f.reason ≡ g.reason → f ≡ g
same_parts f g lines reasons = ap (λ n. record { line = n; reason = f.reason }) lines ∙ ap (λ r. record { line = g.line; reason = r }) reasons

one_text_fault : (ls : List Line) (f g : SpecFault) → IsTextFault ls f → IsTextFault ls g → f ≡ g
one_text_fault ls f g (inl a) (inl b) = same_some f g (sym (first_found ls f a) ∙ first_found ls g b)
one_text_fault ls f g (inl a) (inr (clean, b)) = absurd (clean_first ls f clean a)
one_text_fault ls f g (inr (clean, a)) (inl b) = absurd (clean_first ls g clean b)
one_text_fault ls f g (inr (clean, a)) (inr (tidy, b)) = let both = one_fault ls nowhere f.line g.line f.reason g.reason a b in same_parts f g both.0 both.1

pub one_fault_only : (text : List ℕ) (f g : SpecFault) → FailsText text f → FailsText text g → f ≡ g
one_fault_only text f g (ls, are, fails) (ms, also, others) = one_text_fault ms f g (subst (λ ks. IsTextFault ks f) (same_lines text ls ms are also) fails) others
