-- One token further in the search for what is left out.
use Rattle.std.proofs.Common.{◌≡◌, ℕ, suc, ◌+◌, ◌<◌, Bool, true, false, ◌||◌, List, ◌∷◌, length, get_or, drop, refl, sym, ◌∙◌, ap, add-one, drop-cons}
use Rattle.std.specs.Prelude.{codes}
use Rattle.ir_lex.specs.Lexeme.{Lexeme, lexeme, lexemes}
use Rattle.ir_lex.specs.Marks.{is_word}
use Rattle.ir_lex.specs.Items.{holds_left_out}
use Rattle.ir_lex.specs.declared.token.Token.{Token}
use Rattle.ir_body.specs.LeftOut.{first_operation, next_operation, last_operation, out_word, out_type, out_operation, out_wide, is_left_out}

or_parts : (n a b c d e : Bool) → (n || a || b || c || d || e) ≡ (n || (a || b || c || d || e))
or_parts true a b c d e = refl
or_parts false a b c d e = refl

pub operation_parts : (t : Lexeme) → out_operation t ≡ (next_operation t || last_operation t)
unfolding out_operation first_operation next_operation last_operation
operation_parts t = or_parts (next_operation t) (is_word (codes "cmpxchg") t) (is_word (codes "atomicrmw") t) (is_word (codes "extractelement") t) (is_word (codes "insertelement") t) (is_word (codes "shufflevector") t)

holds_step : (t : Lexeme) (ts : List Lexeme) → holds_left_out (t ∷ ts) ≡ (is_left_out t ts || holds_left_out ts)
unfolding is_left_out out_word out_type out_operation out_wide
holds_step t ts = refl

front_is : (at : ℕ) (tokens : List Token) (token : Token) → at < length tokens → holds_left_out (lexemes (drop at tokens)) ≡ (is_left_out (lexeme (get_or tokens at token)) (lexemes (drop (at + 1) tokens)) || holds_left_out (lexemes (drop (at + 1) tokens)))
front_is at tokens token below =
    rw (add-one at) (ap (λ ts. holds_left_out (lexemes ts)) (drop-cons tokens at token below) ∙ holds_step (lexeme (get_or tokens at token)) (lexemes (drop (suc at) tokens)))

pub found_here : (at : ℕ) (tokens : List Token) (token : Token) → at < length tokens → is_left_out (lexeme (get_or tokens at token)) (lexemes (drop (at + 1) tokens)) ≡ true → holds_left_out (lexemes (drop at tokens)) ≡ true
found_here at tokens token below is = front_is at tokens token below ∙ ap (λ b. b || holds_left_out (lexemes (drop (at + 1) tokens))) is

pub goes_on : (at : ℕ) (tokens : List Token) (token : Token) → at < length tokens → is_left_out (lexeme (get_or tokens at token)) (lexemes (drop (at + 1) tokens)) ≡ false → holds_left_out (lexemes (drop (at + 1) tokens)) ≡ holds_left_out (lexemes (drop at tokens))
goes_on at tokens token below is = sym (front_is at tokens token below ∙ ap (λ b. b || holds_left_out (lexemes (drop (at + 1) tokens))) is)
