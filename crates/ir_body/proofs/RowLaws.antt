-- A row reads exactly what it spells.
use Rattle.std.proofs.Common.{◌≡◌, ℕ, Bool, true, false, not, ◌&&◌, Option, Some, None, List, [], ◌∷◌, ◌++◌, refl, sym, ◌∙◌, ap, subst, append_assoc, append-nil}
use Rattle.std.specs.Prelude.{if◌then◌else◌, codes, bytes_eq}
use Rattle.ir_ast.specs.Plain.{Ty, integer, Val}
use Rattle.ir_ast.specs.Program.{Act}
use Rattle.ir_lex.specs.Decimal.{width_of}
use Rattle.ir_lex.specs.Tok.{Tok, word, mark}
use Rattle.ir_lex.specs.Parts.{Part, sign, key, may, width, over, returned, callee, register, predicate, target, part, bit, place, width_value, width_pair, typed, typed_pair, twice, alignment, access, arms, offsets, arguments, choices, Got, AllGot, predicate_word, SpellsPart, SpellsAll, SpellsTyped}
use Rattle.ir_ast.specs.declared.instr.Predicate.{Predicate}
use Rattle.ir_lex.specs.Rows.{Row}
use Rattle.ir_part.specs.Reader.{◌>>=◌, ended, Takes}
use Rattle.ir_part.specs.Fronts.{after_word}
use Rattle.ir_part.proofs.Fronts.{bound, some_is, text_is}
use Rattle.ir_part.proofs.TypeLaws.{no_word}
use Rattle.ir_part.proofs.OperandLaws.{flag_complete}
use Rattle.ir_body.specs.Rows.{read_part, read_all, read_row, is_no_type, is_no_predicate, never_first, is_ready}
use Rattle.ir_body.specs.Words.{predicate_of}
use Rattle.ir_body.proofs.WordLaws.{predicate_there}
use Rattle.ir_body.proofs.PartSound.{part_sound}
use Rattle.ir_body.proofs.PartComplete.{is_plain, part_complete, last_complete, access_last, arms_last, offsets_last}

-- ---- what is read is spelled

all_sound : (ps : List Part) (ts : List Tok) (got : AllGot ps) (rest : List Tok) → read_all ps ts ≡ Some (got, rest) → Takes (SpellsAll ps) ts got rest
all_sound [] ts got rest h =
    let e : (tt, ts) ≡ (got, rest) = some_is h in
    record { front = []; spelled = refl; parts = ap (λ q. q.1) e }
all_sound (p ∷ ps) ts got rest h =
    let a = bound (read_part p ts) (λ (x : Got p × List Tok). read_all ps x.1 >>= (λ (others : AllGot ps × List Tok). Some ((x.0, others.0), others.1))) (got, rest) h in
    let b = bound (read_all ps a.value.1) (λ (others : AllGot ps × List Tok). Some ((a.value.0, others.0), others.1)) (got, rest) a.rest in
    let e : ((a.value.0, b.value.0), b.value.1) ≡ (got, rest) = some_is b.rest in
    let one = part_sound p ts a.value.0 a.value.1 a.was in
    let others = all_sound ps a.value.1 b.value.0 b.value.1 b.was in
    record {
      front = one.front ++ others.front;
      spelled = subst (λ g. SpellsAll (p ∷ ps) g (one.front ++ others.front)) (ap (λ q. q.0) e) (one.front, others.front, one.spelled, others.spelled, refl);
      parts = one.parts ∙ ap (λ us. one.front ++ us) (others.parts ∙ ap (λ q. others.front ++ q.1) e) ∙ sym (append_assoc one.front others.front rest);
    }

pub record Made (row : Row) (ts : List Tok) (act : Act) : Type 0 where
  pub got : AllGot row.parts
  pub spelled : SpellsAll row.parts got ts
  pub built : row.build got ≡ Some act

ended_is : (ts : List Tok) (u : Unit {0}) → ended ts ≡ Some u → ts ≡ []
ended_is [] u h = refl
ended_is (t ∷ ts) u h = cc

pub row_sound : (row : Row) (ts : List Tok) (act : Act) → read_row row ts ≡ Some act → Made row ts act
unfolding read_row
row_sound row ts act h =
    let a = bound (read_all row.parts ts) (λ (got : AllGot row.parts × List Tok). ended got.1 >>= (λ (u : Unit {0}). row.build got.0)) act h in
    let b = bound (ended a.value.1) (λ (u : Unit {0}). row.build a.value.0) act a.rest in
    let s = all_sound row.parts ts a.value.0 a.value.1 a.was in
    let whole : ts ≡ s.front = s.parts ∙ ap (λ us. s.front ++ us) (ended_is a.value.1 b.value b.was) ∙ append-nil s.front in
    record { got = a.value.0; spelled = subst (λ us. SpellsAll row.parts a.value.0 us) (sym whole) s.spelled; built = b.rest }

-- ---- a word that no part at the front begins with

both_true : (a b : Bool) → (a && b) ≡ true → (a ≡ true) × (b ≡ true)
both_true true b h = (refl, h)
both_true false b h = cc

record NoType (text : List ℕ) : Type 0 where
  narrow : width_of text ≡ None
  other : bytes_eq text (codes "ptr") ≡ false

not_true : (b : Bool) → not b ≡ true → b ≡ false
not_true true h = cc
not_true false h = refl

no_type_by : (text : List ℕ) (o : Option ℕ) → width_of text ≡ o → is_no_type text o ≡ true → NoType text
no_type_by text (Some w) is h = cc
no_type_by text None is h = record { narrow = is; other = not_true (bytes_eq text (codes "ptr")) h }

no_type : (text : List ℕ) → is_no_type text (width_of text) ≡ true → NoType text
no_type text h = no_type_by text (width_of text) refl h

typed_front : (text : List ℕ) → NoType text → (t : Ty) (v : Val) (front rest : List Tok) → SpellsTyped t v front → after_word text (front ++ rest) ≡ None
typed_front text free t v front rest s =
    ap (λ us. after_word text (us ++ rest)) s.4 ∙ ap (after_word text) (append_assoc s.0 s.1 rest) ∙ no_word text free.narrow free.other t s.0 (s.1 ++ rest) s.2.0

other_word : (text other : List ℕ) (rest : List Tok) → bytes_eq other text ≡ false → after_word text (word other ∷ rest) ≡ None
other_word text other rest h = ap (λ b. if b then Some rest else None) h

may_follows : (text other : List ℕ) (ps : List Part) (b : Bool) (ts first rest : List Tok) → bytes_eq other text ≡ false → SpellsPart (may other) b first → ts ≡ first ++ rest → after_word text rest ≡ None → after_word text ts ≡ None
may_follows text other ps true ts first rest apart s is none = ap (after_word text) (is ∙ ap (λ us. us ++ rest) s) ∙ other_word text other rest apart
may_follows text other ps false ts first rest apart s is none = ap (after_word text) (is ∙ ap (λ us. us ++ rest) s) ∙ none

no_predicate : (text : List ℕ) (p : Predicate) → is_no_predicate (predicate_of text) ≡ true → bytes_eq (predicate_word p) text ≡ false
no_predicate text p h = by (bytes_eq (predicate_word p) text) refl
  where
    clash : is_no_predicate (Some p) ≡ true → ⊥
    clash e = cc

    by : (b : Bool) → bytes_eq (predicate_word p) text ≡ b → bytes_eq (predicate_word p) text ≡ false
    by false e = e
    by true e = absurd (clash (sym (ap is_no_predicate (sym (ap predicate_of (text_is (predicate_word p) text e)) ∙ predicate_there p)) ∙ h))

never_follows : (text : List ℕ) (ps : List Part) → never_first text ps ≡ true → (got : AllGot ps) (ts : List Tok) → SpellsAll ps got ts → after_word text ts ≡ None
never_follows text [] h got ts s = cc
never_follows text (may other ∷ ps) h got ts s =
    let p = both_true (not (bytes_eq other text)) (never_first text ps) h in
    may_follows text other ps got.0 ts s.0 s.1 (not_true (bytes_eq other text) p.0) s.2 s.4 (never_follows text ps p.1 got.1 s.1 s.3)
never_follows text (predicate ∷ ps) h got ts s = ap (after_word text) (s.4 ∙ ap (λ us. us ++ s.1) s.2) ∙ other_word text (predicate_word got.0) s.1 (no_predicate text got.0 h)
never_follows text (width_pair ∷ ps) h got ts s =
    let pair = s.2 in
    ap (after_word text) (s.4 ∙ ap (λ us. us ++ s.1) pair.4 ∙ append_assoc pair.0 (mark 44 ∷ pair.1) s.1)
    ∙ typed_front text (no_type text h) (integer got.0.0) got.0.1 pair.0 (mark 44 ∷ (pair.1 ++ s.1)) pair.2
never_follows text (width_value ∷ ps) h got ts s = ap (after_word text) s.4 ∙ typed_front text (no_type text h) (integer got.0.0) got.0.1 s.0 s.1 s.2
never_follows text (over ∷ ps) h got ts s =
    let free = no_type text h in
    ap (after_word text) s.4 ∙ no_word text free.narrow free.other got.0 s.0 s.1 s.2.0
never_follows text (p ∷ ps) h got ts s = cc

-- ---- what is spelled is read

plain_step : (p : Part) (ps : List Part) → is_plain p ≡ true → (got : AllGot (p ∷ ps)) (ts : List Tok) (s : SpellsAll (p ∷ ps) got ts) → read_all ps s.1 ≡ Some (got.1, []) → read_all (p ∷ ps) ts ≡ Some (got, [])
plain_step p ps plain got ts s others =
    ap (read_all (p ∷ ps)) s.4
    ∙ ap (λ o. o >>= (λ (x : Got p × List Tok). read_all ps x.1 >>= (λ (y : AllGot ps × List Tok). Some ((x.0, y.0), y.1)))) (part_complete p plain got.0 s.0 s.1 s.2)
    ∙ ap (λ o. o >>= (λ (y : AllGot ps × List Tok). Some ((got.0, y.0), y.1))) others

may_step : (text : List ℕ) (ps : List Part) → bytes_eq text text ≡ true → (got : AllGot (may text ∷ ps)) (ts : List Tok) (s : SpellsAll (may text ∷ ps) got ts) → after_word text s.1 ≡ None → read_all ps s.1 ≡ Some (got.1, [])
    → read_all (may text ∷ ps) ts ≡ Some (got, [])
may_step text ps same got ts s none others =
    ap (read_all (may text ∷ ps)) s.4
    ∙ ap (λ o. o >>= (λ (x : Bool × List Tok). read_all ps x.1 >>= (λ (y : AllGot ps × List Tok). Some ((x.0, y.0), y.1)))) (flag_complete text same got.0 s.0 s.1 none s.2)
    ∙ ap (λ o. o >>= (λ (y : AllGot ps × List Tok). Some ((got.0, y.0), y.1))) others

last_step : (p : Part) (got : AllGot (p ∷ [])) (ts : List Tok) (s : SpellsAll (p ∷ []) got ts) → ((x : Got p) (us : List Tok) → SpellsPart p x us → read_part p us ≡ Some (x, [])) → read_all (p ∷ []) ts ≡ Some (got, [])
last_step p got ts s reads =
    ap (read_all (p ∷ [])) (s.4 ∙ ap (λ us. s.0 ++ us) s.3 ∙ append-nil s.0)
    ∙ ap (λ o. o >>= (λ (x : Got p × List Tok). read_all [] x.1 >>= (λ (y : AllGot [] × List Tok). Some ((x.0, y.0), y.1)))) (reads got.0 s.0 s.2)

all_complete : (ps : List Part) → is_ready ps ≡ true → (got : AllGot ps) (ts : List Tok) → SpellsAll ps got ts → read_all ps ts ≡ Some (got, [])
all_complete [] ready got ts s = ap (read_all []) s
all_complete (may text ∷ ps) ready got ts s =
    let p = both_true (bytes_eq text text && never_first text ps) (is_ready ps) ready in
    let q = both_true (bytes_eq text text) (never_first text ps) p.0 in
    may_step text ps q.0 got ts s (never_follows text ps q.1 got.1 s.1 s.3) (all_complete ps p.1 got.1 s.1 s.3)
all_complete (alignment ∷ []) ready got ts s = last_step alignment got ts s last_complete
all_complete (alignment ∷ p ∷ ps) ready got ts s = cc
all_complete (access ∷ []) ready got ts s = last_step access got ts s access_last
all_complete (access ∷ p ∷ ps) ready got ts s = cc
all_complete (arms ∷ []) ready got ts s = last_step arms got ts s arms_last
all_complete (arms ∷ p ∷ ps) ready got ts s = cc
all_complete (offsets ∷ []) ready got ts s = last_step offsets got ts s offsets_last
all_complete (offsets ∷ p ∷ ps) ready got ts s = cc
all_complete (sign byte ∷ ps) ready got ts s = plain_step (sign byte) ps refl got ts s (all_complete ps ready got.1 s.1 s.3)
all_complete (key text ∷ ps) ready got ts s = plain_step (key text) ps refl got ts s (all_complete ps ready got.1 s.1 s.3)
all_complete (width ∷ ps) ready got ts s = plain_step width ps refl got ts s (all_complete ps ready got.1 s.1 s.3)
all_complete (over ∷ ps) ready got ts s = plain_step over ps refl got ts s (all_complete ps ready got.1 s.1 s.3)
all_complete (returned ∷ ps) ready got ts s = plain_step returned ps refl got ts s (all_complete ps ready got.1 s.1 s.3)
all_complete (callee ∷ ps) ready got ts s = plain_step callee ps refl got ts s (all_complete ps ready got.1 s.1 s.3)
all_complete (register ∷ ps) ready got ts s = plain_step register ps refl got ts s (all_complete ps ready got.1 s.1 s.3)
all_complete (predicate ∷ ps) ready got ts s = plain_step predicate ps refl got ts s (all_complete ps ready got.1 s.1 s.3)
all_complete (target ∷ ps) ready got ts s = plain_step target ps refl got ts s (all_complete ps ready got.1 s.1 s.3)
all_complete (part ∷ ps) ready got ts s = plain_step part ps refl got ts s (all_complete ps ready got.1 s.1 s.3)
all_complete (bit ∷ ps) ready got ts s = plain_step bit ps refl got ts s (all_complete ps ready got.1 s.1 s.3)
all_complete (place ∷ ps) ready got ts s = plain_step place ps refl got ts s (all_complete ps ready got.1 s.1 s.3)
all_complete (width_value ∷ ps) ready got ts s = plain_step width_value ps refl got ts s (all_complete ps ready got.1 s.1 s.3)
all_complete (width_pair ∷ ps) ready got ts s = plain_step width_pair ps refl got ts s (all_complete ps ready got.1 s.1 s.3)
all_complete (typed ∷ ps) ready got ts s = plain_step typed ps refl got ts s (all_complete ps ready got.1 s.1 s.3)
all_complete (typed_pair ∷ ps) ready got ts s = plain_step typed_pair ps refl got ts s (all_complete ps ready got.1 s.1 s.3)
all_complete (twice ∷ ps) ready got ts s = plain_step twice ps refl got ts s (all_complete ps ready got.1 s.1 s.3)
all_complete (arguments ∷ ps) ready got ts s = plain_step arguments ps refl got ts s (all_complete ps ready got.1 s.1 s.3)
all_complete (choices ∷ ps) ready got ts s = plain_step choices ps refl got ts s (all_complete ps ready got.1 s.1 s.3)

pub row_complete : (row : Row) → is_ready row.parts ≡ true → (ts : List Tok) (act : Act) (got : AllGot row.parts) → SpellsAll row.parts got ts → row.build got ≡ Some act → read_row row ts ≡ Some act
unfolding read_row
row_complete row ready ts act got s built =
    ap (λ o. o >>= (λ (g : AllGot row.parts × List Tok). ended g.1 >>= (λ (u : Unit {0}). row.build g.0))) (all_complete row.parts ready got ts s) ∙ built
