-- What a walk foresees of the items behind an item, where they are printed.
use Rattle.std.proofs.Common.{Option, ◌≡◌, ℕ, Bool, true, false, not, ◌&&◌, ◌||◌, ◌==◌, cond, if◌then◌else◌, List, [], ◌∷◌, ◌++◌, take, drop, codes, bytes_eq, get_or, refl, sym, ap, subst, ◌∙◌, arith}
use Rattle.std.proofs.lemmas.Bool.{eqb-true}
use Rattle.ir_lex.specs.Lexeme.{Lexeme}
use Rattle.ir_lex.specs.Marks.{is_word, is_word_kind, is_mark, is_mark_kind, is_byte}
use Rattle.ir_lex.specs.Cut.{Cut, begins_define}
use Rattle.ir_lex.specs.Drop.{is_dropped_item, remaining, remaining_from, is_label, label_kind}
use Rattle.ir_lex.specs.Names.{plain_name}
use Rattle.ir_lex.specs.Tok.{Tok, tok, toks, word, mark}
use Rattle.ir_lex.specs.Items.{layout_item, type_item, global_item, declare_item, label_item, instr_item, close_item, storage_word, SpellsInner, ReadsTop, ReadsInner}
use Rattle.ir_lex.specs.declared.token.TokenKind.{TokenKind}
use Rattle.ir_lex.specs.declared.token.TokenKind.TheVariants.{Word, Number, Quoted, Local, Global, Metadata, Attribute, Mark}
use Rattle.ir_ast.specs.Program.{Act, InstrView}
use Rattle.ir_body.proofs.InnerLaws.{spelled_apart}
use Rattle.ir_read.specs.Ahead.{is_only_mark, is_close, holds_close, begins_block, begins_unlabelled}
use Rattle.ir_read.specs.Printing.{Print, inner_on, closing, instr_print, ArePrints, kept}
use Rattle.ir_read.proofs.Closing.{close_is}

-- ---- tokens

word_by : (text : List ℕ) (kind : TokenKind) (own : List ℕ) → (is_word_kind kind && bytes_eq own text) ≡ true → (kind ≡ Word) × (bytes_eq own text ≡ true)
word_by text Word own e = (refl, e)
word_by text Number own e = cc
word_by text Quoted own e = cc
word_by text Local own e = cc
word_by text Global own e = cc
word_by text Metadata own e = cc
word_by text Attribute own e = cc
word_by text Mark own e = cc

abbrev as_word : List ℕ → ℕ → Lexeme
as_word text line = record { kind = Word; line = line; text = text }

word_is : (text : List ℕ) (t : Lexeme) → is_word text t ≡ true → t ≡ as_word text t.line
unfolding is_word
word_is text t e = let p = word_by text t.kind t.text e in
    let same : t.text ≡ text = bytes_same t.text text p.1 in
    (λ i. record { kind = p.0 i; line = t.line; text = same i })
  where
    bytes_same : (xs ys : List ℕ) → bytes_eq xs ys ≡ true → xs ≡ ys
    bytes_same [] [] e = refl
    bytes_same [] (y ∷ ys) e = cc
    bytes_same (x ∷ xs) [] e = cc
    bytes_same (x ∷ xs) (y ∷ ys) e = let b = both (x == y) (bytes_eq xs ys) e in ap (λ z. z ∷ xs) (eqb-true x y b.0) ∙ ap (λ zs. y ∷ zs) (bytes_same xs ys b.1)
      where
        both : (a b : Bool) → (a && b) ≡ true → (a ≡ true) × (b ≡ true)
        both true b h = (refl, h)
        both false b h = cc

-- ---- the word `define`

define_kept : (line : ℕ) (ts : List Lexeme) → is_dropped_item (as_word (codes "define") line ∷ ts) ≡ false
unfolding is_dropped_item is_word is_mark
define_kept line ts = refl

record Begins (t : Tok) (ts : List Tok) : Type 0 where
  rest : List Tok
  is : ts ≡ t ∷ rest

define_first : (line : ℕ) (ts : List Lexeme) → Begins (word (codes "define")) (toks (remaining (as_word (codes "define") line ∷ ts)))
unfolding remaining remaining_from is_word is_mark
define_first line [] = record { rest = []; is = refl }
define_first line (u ∷ us) = by (is_mark 58 u)
  where
    t : Lexeme
    t = as_word (codes "define") line

    by : (b : Bool) → Begins (word (codes "define")) (toks (take (if b then 2 else 0) (t ∷ u ∷ us) ++ remaining_from 0 false (drop (if b then 2 else 0) (t ∷ u ∷ us))))
    by true = record { rest = toks (u ∷ remaining_from 0 false us); is = refl }
    by false = record { rest = toks (remaining_from 0 false (u ∷ us)); is = refl }

pub and_true : (a b : Bool) → (a && b) ≡ true → (a ≡ true) × (b ≡ true)
and_true true b h = (refl, h)
and_true false b h = cc

first_define : (t : Lexeme) (ts : List Lexeme) → begins_define (t ∷ ts) ≡ true → t ≡ as_word (codes "define") t.line
first_define t [] e = word_is (codes "define") t e
first_define t (u ∷ us) e = word_is (codes "define") t (and_true (is_word (codes "define") t) (not (is_mark 58 u && u.line == t.line)) e).0

-- an item that begins with `define` is kept, and still does
defines_kept : (ts : List Lexeme) → begins_define ts ≡ true → is_dropped_item ts ≡ false
defines_kept [] e = cc
defines_kept (t ∷ ts) e = ap (λ u. is_dropped_item (u ∷ ts)) (first_define t ts e) ∙ define_kept t.line ts

defines_first : (ts : List Lexeme) → begins_define ts ≡ true → Begins (word (codes "define")) (toks (remaining ts))
defines_first [] e = cc
defines_first (t ∷ ts) e = subst (λ u. Begins (word (codes "define")) (toks (remaining (u ∷ ts)))) (sym (first_define t ts e)) (define_first t.line ts)

flips : (b : Bool) → (b ≡ true → ⊥) → b ≡ false
flips true h = absurd (h refl)
flips false h = refl

true_false : true ≡ false → ⊥
true_false e = cc

pub dropped_no_define : (ts : List Lexeme) → is_dropped_item ts ≡ true → begins_define ts ≡ false
dropped_no_define ts h = flips (begins_define ts) (λ e. true_false (sym h ∙ defines_kept ts e))

tokens_apart : (t : Tok) (ts rest : List Tok) → ts ≡ t ∷ rest → (word (codes "define") ≡ t → ⊥) → Begins (word (codes "define")) ts → ⊥
tokens_apart t ts rest is apart b = apart (front (sym b.is ∙ is))
  where
    front : word (codes "define") ∷ b.rest ≡ t ∷ rest → word (codes "define") ≡ t
    front e = cc

starts_apart : (ts : List Lexeme) (t : Tok) (rest : List Tok) → toks (remaining ts) ≡ t ∷ rest → (word (codes "define") ≡ t → ⊥) → begins_define ts ≡ false
starts_apart ts t rest is apart = flips (begins_define ts) (λ e. tokens_apart t (toks (remaining ts)) rest is apart (defines_first ts e))

letter_apart : (text : List ℕ) (at : ℕ) → (get_or (codes "define") at 0 ≡ get_or text at 0 → ⊥) → word (codes "define") ≡ word text → ⊥
letter_apart text at apart e = apart (ap (λ (t : Tok). get_or t.1 at 0) e)

kind_apart : (kind : TokenKind) (text : List ℕ) → (Word ≡ kind → ⊥) → word (codes "define") ≡ (kind, text) → ⊥
kind_apart kind text apart e = apart (ap (λ (t : Tok). t.0) e)

no_target : get_or (codes "define") 0 0 ≡ get_or (codes "target") 0 0 → ⊥
no_target e = omega (arith, e)

no_declare : get_or (codes "define") 2 0 ≡ get_or (codes "declare") 2 0 → ⊥
no_declare e = omega (arith, e)

no_local : Word ≡ Local → ⊥
no_local e = cc

no_global : Word ≡ Global → ⊥
no_global e = cc

no_mark : Word ≡ Mark → ⊥
no_mark e = cc

pub layout_no_define : (bytes : List ℕ) (ts : List Lexeme) → ReadsTop (layout_item bytes) ts → begins_define ts ≡ false
layout_no_define bytes ts (keeps, (text, spelled, is)) = starts_apart ts (word (codes "target")) _ is (letter_apart (codes "target") 0 no_target)

pub type_no_define : (name : List ℕ) (over : _) (ts : List Lexeme) → ReadsTop (type_item name over) ts → begins_define ts ≡ false
type_no_define name over ts (keeps, (local, overs, (text, named, local_is), spelled, is)) =
    starts_apart ts (Local, text) _ (is ∙ ap (λ us. us ++ mark 61 ∷ word (codes "type") ∷ overs) local_is) (kind_apart Local text no_local)

pub global_no_define : (name : List ℕ) (constant : Bool) (over : _) (init : _) (align : _) (ts : List Lexeme) → ReadsTop (global_item name constant over init align) ts → begins_define ts ≡ false
global_no_define name constant over init align ts (keeps, (global, overs, value, aligned, (text, named, global_is), s1, s2, s3, is)) =
    starts_apart ts (Global, text) _ (is ∙ ap (λ us. us ++ mark 61 ∷ word (storage_word constant) ∷ (overs ++ value ++ aligned)) global_is) (kind_apart Global text no_global)

pub declare_no_define : (name : List ℕ) (result : _) (ts : List Lexeme) → ReadsTop (declare_item name result) ts → begins_define ts ≡ false
declare_no_define name result ts (keeps, (over, global, inner, s1, s2, s3, is)) = starts_apart ts (word (codes "declare")) _ is (letter_apart (codes "declare") 2 no_declare)

pub close_no_define : (ts : List Lexeme) → ReadsInner close_item ts → begins_define ts ≡ false
close_no_define ts (keeps, is) = starts_apart ts (mark 125) [] is (kind_apart Mark (125 ∷ []) no_mark)

-- ---- `}`

is_only : (ts : List Lexeme) → toks ts ≡ mark 125 ∷ [] → is_only_mark 125 ts ≡ true
unfolding is_mark
is_only [] e = cc
is_only (t ∷ []) e = let same : tok t ≡ mark 125 = first e in ap (λ (u : Tok). is_mark_kind u.0 && is_byte 125 u.1) same
  where
    first : tok t ∷ [] ≡ mark 125 ∷ [] → tok t ≡ mark 125
    first e = cc
is_only (t ∷ u ∷ ts) e = cc

closes : (ts : List Lexeme) → ReadsInner close_item ts → is_close ts ≡ true
closes ts (keeps, is) = ap (λ b. not b && is_only_mark 125 (remaining ts)) keeps ∙ is_only (remaining ts) is

pub or_true : (a : Bool) → (a || true) ≡ true
or_true true = refl
or_true false = refl

no_prints : {G : Type 0} (ps qs : List Print) (p : Print) → ArePrints (ps ++ p ∷ qs) [] → G
no_prints [] qs p h = absurd h
no_prints (q ∷ ps) qs p h = absurd h

-- a `}` that is still to come
pub close_ahead : (cs : List Cut) (ps qs : List Print) → ArePrints (ps ++ closing ∷ qs) (kept cs) → holds_close cs ≡ true
close_ahead [] ps qs h = no_prints ps qs closing h
close_ahead (c ∷ cs) ps qs h = by (is_dropped_item c.lexemes) ps h (λ ps h. close_ahead cs ps qs h)
  where
    by : (b : Bool) → (ps : List Print) → ArePrints (ps ++ closing ∷ qs) (cond (not b) (c ∷ kept cs) (kept cs)) → ((ps : List Print) → ArePrints (ps ++ closing ∷ qs) (kept cs) → holds_close cs ≡ true)
        → holds_close (c ∷ cs) ≡ true
    by true ps h further = ap (λ b. is_close c.lexemes || b) (further ps h) ∙ or_true (is_close c.lexemes)
    by false [] h further = ap (λ b. b || holds_close cs) (closes c.lexemes h.0)
    by false (p ∷ ps) h further = ap (λ b. is_close c.lexemes || b) (further ps h.1) ∙ or_true (is_close c.lexemes)

-- ---- a first block

label_there : (name : List ℕ) (ts : List Lexeme) → SpellsInner (label_item name) (toks ts) → is_label ts ≡ true
unfolding is_mark
label_there name [] (kind, text, label, named, is) = cc
label_there name (t ∷ []) (kind, text, label, named, is) = cc
label_there name (t ∷ u ∷ []) (kind, text, label, named, is) =
    let first : tok t ≡ (kind, text) = front is in
    let second : tok u ≡ mark 58 = next is in
    ap (λ (v : Tok). label_kind v.0 v.1 && (is_mark_kind u.kind && is_byte 58 u.text)) first
    ∙ ap (λ b. b && (is_mark_kind u.kind && is_byte 58 u.text)) label
    ∙ ap (λ (v : Tok). is_mark_kind v.0 && is_byte 58 v.1) second
  where
    front : tok t ∷ tok u ∷ [] ≡ (kind, text) ∷ mark 58 ∷ [] → tok t ≡ (kind, text)
    front e = cc

    next : tok t ∷ tok u ∷ [] ≡ (kind, text) ∷ mark 58 ∷ [] → tok u ≡ mark 58
    next e = cc
label_there name (t ∷ u ∷ v ∷ ts) (kind, text, label, named, is) = cc

mark_by : (byte : ℕ) (kind : TokenKind) (text : List ℕ) → (is_mark_kind kind && is_byte byte text) ≡ true → ◌≡◌ {A = Tok} (kind, text) (mark byte)
mark_by byte Word text e = cc
mark_by byte Number text e = cc
mark_by byte Quoted text e = cc
mark_by byte Local text e = cc
mark_by byte Global text e = cc
mark_by byte Metadata text e = cc
mark_by byte Attribute text e = cc
mark_by byte Mark [] e = cc
mark_by byte Mark (b ∷ []) e = ap mark (eqb-true b byte e)
mark_by byte Mark (b ∷ c ∷ text) e = cc

label_spelled : (ts : List Lexeme) → is_label ts ≡ true → (name : List ℕ) × SpellsInner (label_item name) (toks ts)
unfolding is_mark
label_spelled [] e = cc
label_spelled (t ∷ []) e = cc
label_spelled (t ∷ u ∷ []) e =
    let p = and_true (label_kind t.kind t.text) (is_mark_kind u.kind && is_byte 58 u.text) e in
    (plain_name t.text, (t.kind, t.text, p.0, refl, ap (λ v. tok t ∷ v ∷ []) (mark_by 58 u.kind u.text p.1)))
label_spelled (t ∷ u ∷ v ∷ ts) e = cc

instr_label : (name : List ℕ) (result : Option (List ℕ)) (act : Act) → instr_item result act ≡ label_item name → ⊥
instr_label name result act e = cc

instr_close : (result : Option (List ℕ)) (act : Act) → instr_item result act ≡ close_item → ⊥
instr_close result act e = cc

instr_begins : (result : Option (List ℕ)) (act : Act) (ts : List Lexeme) → ReadsInner (instr_item result act) ts → begins_block ts ≡ true
instr_begins result act ts reads =
    ap (λ b. not b && not (is_only_mark 125 (remaining ts))) no_label ∙ ap not no_close
  where
    no_label : is_label (remaining ts) ≡ false
    no_label = flips (is_label (remaining ts)) (λ e. let l = label_spelled (remaining ts) e in instr_label l.0 result act (spelled_apart (instr_item result act) (label_item l.0) (toks (remaining ts)) reads.1 l.1))

    no_close : is_only_mark 125 (remaining ts) ≡ false
    no_close = flips (is_only_mark 125 (remaining ts)) (λ e. instr_close result act (close_is (instr_item result act) ts reads (ap (λ b. not b && is_only_mark 125 (remaining ts)) reads.0 ∙ e)))

pub label_ahead : (cs : List Cut) (line : ℕ) (name : List ℕ) (ps : List Print) → ArePrints (inner_on line (label_item name) ∷ ps) (kept cs) → begins_unlabelled cs ≡ false
label_ahead [] line name ps h = absurd h
label_ahead (c ∷ cs) line name ps h = by (is_dropped_item c.lexemes) h (λ h. label_ahead cs line name ps h)
  where
    by : (b : Bool) → ArePrints (inner_on line (label_item name) ∷ ps) (cond (not b) (c ∷ kept cs) (kept cs)) → (ArePrints (inner_on line (label_item name) ∷ ps) (kept cs) → begins_unlabelled cs ≡ false)
        → (if b then begins_unlabelled cs else begins_block c.lexemes) ≡ false
    by true h further = further h
    by false h further = ap (λ b. not b && not (is_only_mark 125 (remaining c.lexemes))) (label_there name (remaining c.lexemes) h.0.1.1)

pub instr_ahead : (cs : List Cut) (i : InstrView) (ps : List Print) → ArePrints (instr_print i ∷ ps) (kept cs) → begins_unlabelled cs ≡ true
instr_ahead [] i ps h = absurd h
instr_ahead (c ∷ cs) i ps h = by (is_dropped_item c.lexemes) h (λ h. instr_ahead cs i ps h)
  where
    by : (b : Bool) → ArePrints (instr_print i ∷ ps) (cond (not b) (c ∷ kept cs) (kept cs)) → (ArePrints (instr_print i ∷ ps) (kept cs) → begins_unlabelled cs ≡ true) → (if b then begins_unlabelled cs else begins_block c.lexemes) ≡ true
    by true h further = further h
    by false h further = instr_begins i.result i.act c.lexemes h.0.1
