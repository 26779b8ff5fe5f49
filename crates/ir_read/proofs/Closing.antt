-- An item that closes a body is `}` and nothing else.
use Rattle.std.proofs.Common.{◌≡◌, ℕ, Bool, true, false, ◌&&◌, Option, List, [], ◌∷◌, ◌++◌, refl, sym, ◌∙◌, ap}
use Rattle.std.proofs.lemmas.Bool.{eqb-true}
use Rattle.ir_ast.specs.Program.{Act}
use Rattle.ir_lex.specs.Lexeme.{Lexeme}
use Rattle.ir_lex.specs.Marks.{is_mark, is_mark_kind, is_byte}
use Rattle.ir_lex.specs.Tok.{Tok, tok, toks, word, mark}
use Rattle.ir_lex.specs.Drop.{is_dropped_item, remaining}
use Rattle.ir_lex.specs.Rows.{SpellsInstr}
use Rattle.ir_lex.specs.Items.{Inner, label_item, instr_item, close_item, ReadsInner}
use Rattle.ir_lex.specs.declared.token.TokenKind.{TokenKind}
use Rattle.ir_lex.specs.declared.token.TokenKind.TheVariants.{Word, Number, Quoted, Local, Global, Metadata, Attribute, Mark}
use Rattle.ir_read.specs.Ahead.{is_only_mark, is_close}

mark_by : (kind : TokenKind) (text : List ℕ) → (is_mark_kind kind && is_byte 125 text) ≡ true → ◌≡◌ {A = Tok} (kind, text) (mark 125)
mark_by Word text e = cc
mark_by Number text e = cc
mark_by Quoted text e = cc
mark_by Local text e = cc
mark_by Global text e = cc
mark_by Metadata text e = cc
mark_by Attribute text e = cc
mark_by Mark [] e = cc
mark_by Mark (b ∷ []) e = ap mark (eqb-true b 125 e)
mark_by Mark (b ∷ c ∷ text) e = cc

mark_is : (t : Lexeme) → is_mark 125 t ≡ true → tok t ≡ mark 125
unfolding is_mark
mark_is t e = mark_by t.kind t.text e

only_is : (ts : List Lexeme) → is_only_mark 125 ts ≡ true → toks ts ≡ mark 125 ∷ []
only_is [] e = cc
only_is (t ∷ []) e = ap (λ u. u ∷ []) (mark_is t e)
only_is (t ∷ u ∷ ts) e = cc

never_pair : (a b : Tok) (ts : List Tok) → ts ≡ a ∷ b ∷ [] → ts ≡ mark 125 ∷ [] → ⊥
never_pair a b ts e f = cc

first_is : (a b : Tok) (ts us : List Tok) → a ∷ ts ≡ b ∷ us → a ≡ b
first_is a b ts us e = cc

never_word : (w : List ℕ) (s rest : List Tok) → mark 125 ∷ [] ≡ s ++ word w ∷ rest → ⊥
never_word w [] rest e = let wrong : Mark ≡ Word = ap (λ (t : Tok). t.0) (first_is (mark 125) (word w) [] rest e) in cc
never_word w (t ∷ []) rest e = cc
never_word w (t ∷ u ∷ s) rest e = cc

never_instr : (result : Option (List ℕ)) (act : Act) (ts : List Tok) → SpellsInstr result act ts → ts ≡ mark 125 ∷ [] → ⊥
unfolding SpellsInstr
never_instr result act ts (k, row, lt, is, (setting, rest, got, sets, spelled, built, parts)) e = never_word row.0 setting rest (sym e ∙ parts)

both : (a b : Bool) → (a && b) ≡ true → (a ≡ true) × (b ≡ true)
both true b h = (refl, h)
both false b h = cc

-- what is read of an item that is `}`
pub close_is : (inner : Inner) (ts : List Lexeme) → ReadsInner inner ts → is_close ts ≡ true → inner ≡ close_item
close_is (label_item name) ts (kept, (kind, text, label, is, parts)) e =
    absurd (never_pair (kind, text) (mark 58) (toks (remaining ts)) parts (only_is (remaining ts) (both _ (is_only_mark 125 (remaining ts)) e).1))
close_is (instr_item result act) ts (kept, spelled) e = absurd (never_instr result act (toks (remaining ts)) spelled (only_is (remaining ts) (both _ (is_only_mark 125 (remaining ts)) e).1))
close_is close_item ts h e = refl

pub dropped_open : (ts : List Lexeme) → is_dropped_item ts ≡ true → is_close ts ≡ false
dropped_open ts h = rw h refl
