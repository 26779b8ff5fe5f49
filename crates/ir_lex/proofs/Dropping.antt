-- One step of dropping tokens.
use Rattle.std.proofs.Common.{◌≡◌, ℕ, zero, suc, ◌-◌, ◌<◌, Bool, false, List, [], ◌∷◌, ◌++◌, length, get_or, take, drop, refl, ap, sym, ◌∙◌, append_assoc, append-nil, arith}
use Rattle.std.proofs.Math.Seq.{drop-length}
use Rattle.ir_lex.specs.Lexeme.{Lexeme, lexeme, lexemes}
use Rattle.ir_lex.specs.Marks.{is_mark}
use Rattle.ir_lex.specs.Drop.{front_of, after_front, remaining, remaining_from, label_length}
use Rattle.ir_lex.specs.declared.drops.Front.{Front}
use Rattle.ir_lex.specs.declared.drops.Front.TheVariants.{Kept, Dropped, Unclosed}
use Rattle.ir_lex.specs.declared.token.Token.{Token}
use Rattle.ir_lex.proofs.Lexing.{lexemes-append}
use Rattle.ir_lex.proofs.Cutting.{drop-lexemes, take-lexemes}

passes_dropped : (k : ℕ) (comma : Bool) (ts : List Lexeme) → remaining_from k comma ts ≡ remaining_from 0 comma (drop k ts)
unfolding remaining_from
passes_dropped zero comma ts = refl
passes_dropped (suc k) comma [] = refl
passes_dropped (suc k) comma (t ∷ ts) = passes_dropped k comma ts

front_step : (comma : Bool) (t : Lexeme) (ts : List Lexeme) (front : Front) → front ≡ front_of comma (t ∷ ts) →
    remaining_from 0 comma (t ∷ ts) ≡ after_front front t ts (λ skip after. remaining_from skip after ts)
unfolding remaining_from
front_step comma t ts front is = ap (λ f. after_front f t ts (λ skip after. remaining_from skip after ts)) (sym is)

dropped_step : (n : ℕ) (comma : Bool) (ts : List Lexeme) → Dropped n ≡ front_of comma ts → 0 < n → remaining_from 0 comma ts ≡ remaining_from 0 false (drop n ts)
dropped_step n comma [] is some = cc
dropped_step zero comma (t ∷ ts) is some = absurd (omega arith)
dropped_step (suc m) comma (t ∷ ts) is some =
    let e : suc m - 1 ≡ m = omega arith in
    front_step comma t ts (Dropped (suc m)) is ∙ ap (λ k. remaining_from k false ts) e ∙ passes_dropped m false ts

unclosed_step : (comma : Bool) (ts : List Lexeme) → Unclosed ≡ front_of comma ts → remaining_from 0 comma ts ≡ ts
unclosed_step comma [] is = cc
unclosed_step comma (t ∷ ts) is = front_step comma t ts Unclosed is

pub starts_dropped : (kept ts : List Token) (n : ℕ) → kept ≡ take n ts → n ≡ label_length (lexemes ts) →
    lexemes kept ++ remaining_from 0 false (lexemes (drop n ts)) ≡ remaining (lexemes ts)
unfolding remaining
starts_dropped kept ts n taken is =
    ap (λ ls. ls ++ remaining_from 0 false (lexemes (drop n ts))) (ap lexemes taken ∙ take-lexemes n ts)
    ∙ ap (λ ls. take n (lexemes ts) ++ remaining_from 0 false ls) (drop-lexemes n ts)
    ∙ ap (λ k. take k (lexemes ts) ++ remaining_from 0 false (drop k (lexemes ts))) is

pub goes_kept : (kept : List Token) (first : Token) (comma after : Bool) (rest : List Token) (whole : List Lexeme) → 0 < length rest →
    Kept ≡ front_of comma (lexemes rest) → after ≡ is_mark 44 (lexeme (get_or rest 0 first)) →
    lexemes kept ++ remaining_from 0 comma (lexemes rest) ≡ whole →
    lexemes (kept ++ get_or rest 0 first ∷ []) ++ remaining_from 0 after (lexemes (drop 1 rest)) ≡ whole
goes_kept kept first comma after [] whole some is marks so_far = absurd (omega arith)
goes_kept kept first comma after (t ∷ rest) whole some is marks so_far =
    ap (λ ls. ls ++ remaining_from 0 after (lexemes rest)) (lexemes-append kept (t ∷ []))
    ∙ append_assoc (lexemes kept) (lexeme t ∷ []) (remaining_from 0 after (lexemes rest))
    ∙ ap (λ a. lexemes kept ++ lexeme t ∷ remaining_from 0 a (lexemes rest)) marks
    ∙ ap (λ ls. lexemes kept ++ ls) (sym (front_step comma (lexeme t) (lexemes rest) Kept is))
    ∙ so_far

pub goes_dropped : (kept : List Token) (n : ℕ) (comma : Bool) (rest : List Token) (whole : List Lexeme) → 0 < n →
    Dropped n ≡ front_of comma (lexemes rest) → lexemes kept ++ remaining_from 0 comma (lexemes rest) ≡ whole →
    lexemes kept ++ remaining_from 0 false (lexemes (drop n rest)) ≡ whole
goes_dropped kept n comma rest whole some is so_far =
    ap (λ ls. lexemes kept ++ remaining_from 0 false ls) (drop-lexemes n rest)
    ∙ ap (λ ls. lexemes kept ++ ls) (sym (dropped_step n comma (lexemes rest) is some))
    ∙ so_far

pub goes_unclosed : (kept : List Token) (comma : Bool) (rest : List Token) (whole : List Lexeme) →
    Unclosed ≡ front_of comma (lexemes rest) → lexemes kept ++ remaining_from 0 comma (lexemes rest) ≡ whole →
    lexemes (kept ++ rest) ≡ whole
goes_unclosed kept comma rest whole is so_far =
    lexemes-append kept rest ∙ ap (λ ls. lexemes kept ++ ls) (sym (unclosed_step comma (lexemes rest) is)) ∙ so_far

pub ends_dropped : (kept : List Token) (comma : Bool) (rest : List Token) (whole : List Lexeme) → length rest ≡ 0 →
    lexemes kept ++ remaining_from 0 comma (lexemes rest) ≡ whole → lexemes kept ≡ whole
unfolding remaining_from
ends_dropped kept comma [] whole none so_far = sym (append-nil (lexemes kept)) ∙ so_far
ends_dropped kept comma (t ∷ rest) whole none so_far = absurd (omega arith)

nothing_left : (comma : Bool) → remaining_from 0 comma [] ≡ []
unfolding remaining_from
nothing_left comma = refl

pub goes_end : (kept : List Token) (comma : Bool) (ts : List Token) (whole : List Lexeme) → lexemes kept ≡ whole →
    lexemes kept ++ remaining_from 0 comma (lexemes (drop (length ts) ts)) ≡ whole
goes_end kept comma ts whole is =
    ap (λ us. lexemes kept ++ remaining_from 0 comma (lexemes us)) (drop-length ts)
    ∙ ap (λ ls. lexemes kept ++ ls) (nothing_left comma)
    ∙ append-nil (lexemes kept)
    ∙ is
