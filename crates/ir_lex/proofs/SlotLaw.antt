-- A token list spells at most one `alloca`, with its alignment or without.
use Rattle.std.proofs.Common.{◌≡◌, ℕ, List, [], ◌∷◌, ◌++◌, sym, ◌∙◌, ap, subst, append-nil, inl, inr}
use Rattle.std.specs.Prelude.{Option, Some, None, codes}
use Rattle.ir_ast.specs.Program.{Act}
use Rattle.ir_lex.specs.Tok.{Tok, word, mark}
use Rattle.ir_lex.specs.Names.{sigil_name}
use Rattle.ir_lex.specs.Decimal.{count_of}
use Rattle.ir_lex.specs.Parts.{SpellsAlign}
use Rattle.ir_lex.specs.Rows.{does, SpellsSetting, SpellsRow, reserving}
use Rattle.ir_lex.specs.declared.token.TokenKind.TheVariants.{Number, Local}
use Rattle.ir_lex.proofs.TypeLaws.{type_at_front, cons_head, cons_tail, same_value}

-- the register that an instruction sets, written out
record Set (result : Option (List ℕ)) (setting : List Tok) : Type 0 where
  text : List ℕ
  is : result ≡ Some (sigil_name text)
  parts : setting ≡ (Local, text) ∷ mark 61 ∷ []

set_of : (result : Option (List ℕ)) (setting : List Tok) → SpellsSetting does result setting → Set result setting
set_of None setting s = absurd s
set_of (Some name) setting s = record { text = s.1.0; is = ap Some (sym s.1.1); parts = s.2 ∙ ap (λ r. r ++ mark 61 ∷ []) s.1.2 }

number_apart : (a b : List ℕ) → mark 44 ∷ word (codes "align") ∷ (Number, a) ∷ [] ≡ mark 44 ∷ word (codes "align") ∷ (Number, b) ∷ [] → a ≡ b
number_apart a b e =
    let e1 = cons_tail (mark 44) (mark 44) (word (codes "align") ∷ (Number, a) ∷ []) (word (codes "align") ∷ (Number, b) ∷ []) e in
    let e2 = cons_tail (word (codes "align")) (word (codes "align")) ((Number, a) ∷ []) ((Number, b) ∷ []) e1 in
    ap (λ p. p.1) (cons_head (Number, a) (Number, b) [] [] e2)

nothing_there : (t : Tok) (ts : List Tok) → [] ≡ t ∷ ts → ⊥
nothing_there t ts e = cc

one_align : (m n : ℕ) (ts : List Tok) → SpellsAlign m ts → SpellsAlign n ts → m ≡ n
one_align m n ts (inl s) (inl r) = s.0 ∙ sym r.0
one_align m n ts (inl s) (inr r) = absurd (nothing_there (mark 44) (word (codes "align") ∷ (Number, r.0) ∷ []) (sym s.1 ∙ r.2))
one_align m n ts (inr s) (inl r) = absurd (nothing_there (mark 44) (word (codes "align") ∷ (Number, s.0) ∷ []) (sym r.1 ∙ s.2))
one_align m n ts (inr s) (inr r) = same_value count_of s.0 r.0 m n s.1 r.1 (number_apart s.0 r.0 (sym s.2 ∙ r.2))

one_act : (a b : Act) → Some a ≡ Some b → a ≡ b
one_act a b e = cc

written : (setting rest ts : List Tok) (text op : List ℕ) → setting ≡ (Local, text) ∷ mark 61 ∷ [] → ts ≡ setting ++ word op ∷ rest → ts ≡ (Local, text) ∷ mark 61 ∷ word op ∷ rest
written setting rest ts text op parts is = is ∙ ap (λ s. s ++ word op ∷ rest) parts

pub spells_one_slot : (r s : Option (List ℕ)) (a b : Act) (ts : List Tok) →
    SpellsRow (codes "alloca", reserving) r a ts → SpellsRow (codes "alloca", reserving) s b ts → (r ≡ s) × (a ≡ b)
spells_one_slot r s a b ts f g =
    let fs = set_of r f.0 f.3 in
    let gs = set_of s g.0 g.3 in
    let e0 = sym (written f.0 f.1 ts fs.text (codes "alloca") fs.parts f.6) ∙ written g.0 g.1 ts gs.text (codes "alloca") gs.parts g.6 in
    let text = ap (λ p. p.1) (cons_head (Local, fs.text) (Local, gs.text) (mark 61 ∷ word (codes "alloca") ∷ f.1) (mark 61 ∷ word (codes "alloca") ∷ g.1) e0) in
    let e1 = cons_tail (Local, fs.text) (Local, gs.text) (mark 61 ∷ word (codes "alloca") ∷ f.1) (mark 61 ∷ word (codes "alloca") ∷ g.1) e0 in
    let e2 = cons_tail (mark 61) (mark 61) (word (codes "alloca") ∷ f.1) (word (codes "alloca") ∷ g.1) e1 in
    let e3 = cons_tail (word (codes "alloca")) (word (codes "alloca")) f.1 g.1 e2 in
    let over = type_at_front f.2.0 g.2.0 f.4.0 g.4.0 f.4.1 g.4.1 f.4.2.0 g.4.2.0 (sym f.4.4 ∙ e3 ∙ g.4.4) in
    let fa = f.4.3.4 ∙ ap (λ us. f.4.3.0 ++ us) f.4.3.3 ∙ append-nil f.4.3.0 in
    let ga = g.4.3.4 ∙ ap (λ us. g.4.3.0 ++ us) g.4.3.3 ∙ append-nil g.4.3.0 in
    let align = one_align f.2.1.0 g.2.1.0 g.4.3.0 (subst (SpellsAlign f.2.1.0) (sym fa ∙ over.1 ∙ ga) f.4.3.2) g.4.3.2 in
    let got : f.2 ≡ g.2 = ap (λ t. (t, (f.2.1.0, tt))) over.0 ∙ ap (λ n. (g.2.0, (n, tt))) align in
    (fs.is ∙ ap (λ x. Some (sigil_name x)) text ∙ sym gs.is, one_act a b (sym f.5 ∙ ap reserving.build got ∙ g.5))
