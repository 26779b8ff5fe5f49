-- One turn of the loop over tokens up to a `)`.
use Rattle.std.proofs.Common.{◌≡◌, ◌+◌, ◌<◌, ℕ, Bool, true, false, ◌&&◌, List, ◌∷◌, length, drop, get_or, sym, ◌∙◌, ap}
use Rattle.std.specs.Prelude.{if◌then◌else◌}
use Rattle.std.proofs.lemmas.List.{at_drop_more}
use Rattle.ir_lex.specs.Lexeme.{lexeme}
use Rattle.ir_lex.specs.Tok.{tok}
use Rattle.ir_lex.specs.Cut.{open_after, is_none_open}
use Rattle.ir_lex.specs.Cut.{closes}
use Rattle.ir_lex.specs.Items.{bracket_of}
use Rattle.ir_lex.specs.declared.token.Token.{Token}
use Rattle.ir_part.specs.Reader.{seen}
use Rattle.ir_part.specs.Fronts.{is_this_mark}
use Rattle.ir_part.specs.Many.{is_ended}
use Rattle.ir_top.specs.Tops.{is_list}

here : (open_marks : List ℕ) (ts : List Token) (i : ℕ) (d : Token) → i < length ts → is_list open_marks (seen (drop i ts)) ≡ is_list open_marks (tok (lexeme (get_or ts i d)) ∷ seen (drop (i + 1) ts))
here open_marks ts i d h = at_drop_more (λ us. is_list open_marks (seen us)) ts i d h

pub last_turn : (open_marks : List ℕ) (ts rest : List Token) (i : ℕ) (d : Token) (whole ends_there : Bool) → i < length ts → rest ≡ drop (i + 1) ts → is_ended (seen rest) ≡ true
    → is_list open_marks (seen (drop i ts)) ≡ whole → ends_there ≡ (is_none_open open_marks && is_this_mark 41 (tok (lexeme (get_or ts i d)))) → ends_there ≡ whole
last_turn open_marks ts rest i d whole ends_there h at e so_far is =
    let t = tok (lexeme (get_or ts i d)) in
    let ends : is_ended (seen (drop (i + 1) ts)) ≡ true = ap (λ us. is_ended (seen us)) (sym at) ∙ e in
    is
    ∙ ap (λ (b : Bool). if b then is_none_open open_marks && is_this_mark 41 t else closes open_marks (bracket_of t) && is_list (open_after open_marks (bracket_of t)) (seen (drop (i + 1) ts))) (sym ends)
    ∙ sym (here open_marks ts i d h) ∙ so_far

on : (open_marks : List ℕ) (ts rest : List Token) (i : ℕ) (d : Token) (whole : Bool) → i < length ts → rest ≡ drop (i + 1) ts → is_ended (seen rest) ≡ false → is_list open_marks (seen (drop i ts)) ≡ whole
    → whole ≡ (closes open_marks (bracket_of (tok (lexeme (get_or ts i d)))) && is_list (open_after open_marks (bracket_of (tok (lexeme (get_or ts i d))))) (seen (drop (i + 1) ts)))
on open_marks ts rest i d whole h at e so_far =
    let t = tok (lexeme (get_or ts i d)) in
    let ends : is_ended (seen (drop (i + 1) ts)) ≡ false = ap (λ us. is_ended (seen us)) (sym at) ∙ e in
    sym so_far ∙ here open_marks ts i d h
    ∙ ap (λ (b : Bool). if b then is_none_open open_marks && is_this_mark 41 t else closes open_marks (bracket_of t) && is_list (open_after open_marks (bracket_of t)) (seen (drop (i + 1) ts))) ends

pub wrong_turn : (open_marks : List ℕ) (ts rest : List Token) (i : ℕ) (d : Token) (whole : Bool) → i < length ts → rest ≡ drop (i + 1) ts → is_ended (seen rest) ≡ false → is_list open_marks (seen (drop i ts)) ≡ whole
    → closes open_marks (bracket_of (tok (lexeme (get_or ts i d)))) ≡ false → false ≡ whole
wrong_turn open_marks ts rest i d whole h at e so_far wrong =
    sym (on open_marks ts rest i d whole h at e so_far ∙ ap (λ b. b && is_list (open_after open_marks (bracket_of (tok (lexeme (get_or ts i d))))) (seen (drop (i + 1) ts))) wrong)

pub next_turn : (open_marks after : List ℕ) (ts rest : List Token) (i : ℕ) (d : Token) (whole : Bool) → i < length ts → rest ≡ drop (i + 1) ts → is_ended (seen rest) ≡ false → is_list open_marks (seen (drop i ts)) ≡ whole
    → closes open_marks (bracket_of (tok (lexeme (get_or ts i d)))) ≡ true → after ≡ open_after open_marks (bracket_of (tok (lexeme (get_or ts i d)))) → is_list after (seen (drop (i + 1) ts)) ≡ whole
next_turn open_marks after ts rest i d whole h at e so_far right is =
    sym (on open_marks ts rest i d whole h at e so_far ∙ ap (λ b. b && is_list (open_after open_marks (bracket_of (tok (lexeme (get_or ts i d))))) (seen (drop (i + 1) ts))) right
    ∙ ap (λ marks. is_list marks (seen (drop (i + 1) ts))) (sym is))
