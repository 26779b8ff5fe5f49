-- An alignment is read exactly where it is spelled.
use Rattle.std.proofs.Common.{◌≡◌, ℕ, Option, Some, None, List, [], ◌∷◌, ◌++◌, refl, sym, ◌∙◌, ap, inl, inr}
use Rattle.std.specs.Prelude.{codes}
use Rattle.ir_lex.specs.Tok.{Tok, word, mark}
use Rattle.ir_lex.specs.Parts.{SpellsAlign}
use Rattle.ir_lex.specs.declared.token.TokenKind.TheVariants.{Number}
use Rattle.ir_part.specs.Reader.{Takes, IsSound}
use Rattle.ir_part.specs.Fronts.{after_mark, after_word}
use Rattle.ir_part.specs.Numbers.{after_align, align_by, align_at}
use Rattle.ir_part.proofs.Fronts.{bound, some_is, after_mark_is, after_word_is, count_sound, count_complete}

after_align_is : (ts rest : List Tok) → after_align ts ≡ Some rest → ts ≡ mark 44 ∷ word (codes "align") ∷ rest
after_align_is ts rest h =
    let b = bound (after_mark 44 ts) (after_word (codes "align")) rest h in
    after_mark_is 44 ts b.value b.was ∙ ap (λ us. mark 44 ∷ us) (after_word_is (codes "align") b.value rest b.rest)

align_found : (o : Option (List Tok)) (ts : List Tok) (n : ℕ) (rest : List Tok) → after_align ts ≡ o → align_by o ts ≡ Some (n, rest) → Takes SpellsAlign ts n rest
align_found None ts n rest is h =
    let e : (0, ts) ≡ (n, rest) = some_is h in
    record { front = []; spelled = inl (sym (ap (λ q. q.0) e), refl); parts = ap (λ q. q.1) e }
align_found (Some us) ts n rest is h =
    let s = count_sound us n rest h in
    record {
      front = mark 44 ∷ word (codes "align") ∷ s.front;
      spelled = inr (s.spelled.0, s.spelled.1, ap (λ vs. mark 44 ∷ word (codes "align") ∷ vs) s.spelled.2);
      parts = after_align_is ts us is ∙ ap (λ vs. mark 44 ∷ word (codes "align") ∷ vs) s.parts;
    }

pub align_sound : IsSound SpellsAlign align_at
align_sound ts n rest h = align_found (after_align ts) ts n rest refl h

pub align_complete : (n : ℕ) (front rest : List Tok) → after_align rest ≡ None → SpellsAlign n front → align_at (front ++ rest) ≡ Some (n, rest)
align_complete n front rest none (inl s) = ap (λ us. align_at (us ++ rest)) s.1 ∙ ap (λ o. align_by o rest) none ∙ ap (λ m. Some (m, rest)) (sym s.0)
align_complete n front rest none (inr s) = ap (λ us. align_at (us ++ rest)) s.2 ∙ count_complete n ((Number, s.0) ∷ []) rest (s.0, s.1, refl)
