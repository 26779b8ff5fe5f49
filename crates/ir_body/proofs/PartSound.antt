-- A part that is read is spelled.
use Rattle.std.proofs.Common.{◌≡◌, ℕ, Bool, true, false, ◌==◌, ℤ, Option, Some, None, List, [], ◌∷◌, ◌++◌, refl, sym, ◌∙◌, ap, subst, inl, inr, append_assoc, arith}
use Rattle.std.specs.Prelude.{if◌then◌else◌, drop, codes, bytes_eq}
use Rattle.std.proofs.lemmas.Bool.{eqb-true}
use Rattle.ir_ast.specs.Plain.{Ty, integer, pointer, Val, local, index_and}
use Rattle.ir_ast.specs.declared.instr.Predicate.{Predicate}
use Rattle.ir_lex.specs.Drop.{are_digits}
use Rattle.ir_lex.specs.Tok.{Tok, word, mark, IsLocal, IsLabel}
use Rattle.ir_lex.specs.TypeSpelling.{SpellsType}
use Rattle.ir_lex.specs.ValueSpelling.{IsNumber, SpellsOperand, HasIndices}
use Rattle.ir_lex.specs.Parts.{Part, sign, key, may, width, over, returned, callee, register, predicate, target, part, bit, place, width_value, width_pair, typed, typed_pair, twice, alignment, access, arms, offsets, arguments, choices, SpellsPart, SpellsTyped, SpellsPair, SpellsRange, SpellsArm, SpellsMoreArms, SpellsArms, SpellsOffsets, SpellsMoreArguments, SpellsArguments, SpellsCases}
use Rattle.ir_lex.specs.declared.token.TokenKind.TheVariants.{Word, Number, Quoted, Local, Global, Metadata, Attribute, Mark}
use Rattle.ir_part.specs.Reader.{◌>>=◌, Takes, IsSound}
use Rattle.ir_part.specs.Fronts.{after_mark, after_word, local_at, label_at}
use Rattle.ir_part.specs.Many.{separated, behind_comma, is_closed, is_ended}
use Rattle.ir_part.specs.Lists.{Row, Behind, Leading, Parted}
use Rattle.ir_part.specs.Numbers.{width_at, number_at, align_at}
use Rattle.ir_part.specs.Types.{type_at, is_bit, same_type}
use Rattle.ir_part.specs.Operands.{operand_at, typed_at, indices_from}
use Rattle.ir_part.specs.Laws.{IsTyped, IsWidth}
use Rattle.ir_part.proofs.Fronts.{bound, some_is, if_some, text_is, after_mark_is, after_word_is, local_sound, global_sound, label_sound, count_sound, number_sound, width_sound}
use Rattle.ir_part.proofs.Lists.{some_sound, separated_sound, behind_sound}
use Rattle.ir_part.proofs.TypeLaws.{type_sound, result_sound}
use Rattle.ir_part.proofs.SameLaw.{same_is}
use Rattle.ir_part.proofs.AlignLaw.{align_sound}
use Rattle.ir_part.proofs.OperandLaws.{flag_sound, operand_sound, typed_sound}
use Rattle.ir_body.specs.Words.{predicate_of}
use Rattle.ir_body.specs.Parts.{register_at, predicate_at, width_value_at, bit_at, place_at, width_pair_at, typed_pair_at, twice_at, after_range_word, after_range, range_name_at, range_by, range_at, access_at, arm_at, some_arms, arms_at, offset_at, some_offsets, offsets_at, arguments_at, case_at, some_cases, cases_at, choice_head, choices_at}
use Rattle.ir_body.specs.Rows.{read_part}
use Rattle.ir_body.proofs.WordLaws.{predicate_found}

abbrev pub tok_pair : {A : Type 0} → A → List Tok → A × List Tok
tok_pair a ts = (a, ts)

-- two parts one behind the other
joined : (ts a t1 b rest : List Tok) → ts ≡ a ++ t1 → t1 ≡ b ++ rest → ts ≡ (a ++ b) ++ rest
joined ts a t1 b rest p q = p ∙ ap (λ us. a ++ us) q ∙ sym (append_assoc a b rest)

-- with a mark between them
parted : (byte : ℕ) (ts a t1 t2 b rest : List Tok) → ts ≡ a ++ t1 → t1 ≡ mark byte ∷ t2 → t2 ≡ b ++ rest → ts ≡ (a ++ mark byte ∷ b) ++ rest
parted byte ts a t1 t2 b rest p m q = joined ts a t1 (mark byte ∷ b) rest p (m ∙ ap (λ us. mark byte ∷ us) q)

-- ---- operands

wide : (w : ℕ) (ts : List Tok) → IsWidth w ts → SpellsType (integer w) ts
wide w ts s = (s, omega arith)

abbrev IsWidthValue : ℕ × Val → List Tok → Type 0
IsWidthValue p ts = SpellsTyped (integer p.0) p.1 ts

pub width_value_sound : IsSound IsWidthValue width_value_at
width_value_sound ts x rest h =
    let w = bound (width_at ts) (λ (w : ℕ × List Tok). operand_at (w.0 == 1) w.1 >>= (λ (v : Val × List Tok). Some ((w.0, v.0), v.1))) (x, rest) h in
    let v = bound (operand_at (w.value.0 == 1) w.value.1) (λ (v : Val × List Tok). Some ((w.value.0, v.0), v.1)) (x, rest) w.rest in
    let e : ((w.value.0, v.value.0), v.value.1) ≡ (x, rest) = some_is v.rest in
    let a = width_sound ts w.value.0 w.value.1 w.was in
    let b = operand_sound (integer w.value.0) w.value.1 v.value.0 v.value.1 v.was in
    record {
      front = a.front ++ b.front;
      spelled = subst (λ p. IsWidthValue p (a.front ++ b.front)) (ap (λ q. q.0) e) (a.front, b.front, wide w.value.0 a.front a.spelled, b.spelled, refl);
      parts = joined ts a.front w.value.1 b.front rest a.parts (b.parts ∙ ap (λ q. b.front ++ q.1) e);
    }

bit_sound : IsSound (SpellsPart bit) bit_at
bit_sound ts x rest h =
    let v = bound (width_value_at ts) (λ (v : (ℕ × Val) × List Tok). if v.0.0 == 1 then Some (v.0.1, v.1) else None) (x, rest) h in
    let s = width_value_sound ts v.value.0 v.value.1 v.was in
    elim (if_some (v.value.0.0 == 1) (Some (tok_pair v.value.0.1 v.value.1)) None (x, rest) v.rest) [
      | inl p ↦ (let e : (v.value.0.1, v.value.1) ≡ (x, rest) = some_is p.1 in
          let one : v.value.0.0 ≡ 1 = eqb-true v.value.0.0 1 p.0 in
          record {
            front = s.front;
            spelled = subst (λ y. SpellsTyped (integer 1) y s.front) (ap (λ q. q.0) e) (subst (λ w. SpellsTyped (integer w) v.value.0.1 s.front) one s.spelled);
            parts = s.parts ∙ ap (λ q. s.front ++ q.1) e;
          })
      | inr p ↦ (let wrong = p.1 in cc)
    ]

place_sound : IsSound (SpellsPart place) place_at
place_sound ts x rest h =
    let w = bound (after_word (codes "ptr") ts) (λ (us : List Tok). operand_at false us) (x, rest) h in
    let v = operand_sound pointer w.value x rest w.rest in
    let front = word (codes "ptr") ∷ v.front in
    record {
      front = front;
      spelled = (word (codes "ptr") ∷ [], v.front, (refl, omega arith), v.spelled, refl);
      parts = after_word_is (codes "ptr") ts w.value w.was ∙ ap (λ us. word (codes "ptr") ∷ us) v.parts;
    }

width_pair_sound : IsSound (SpellsPart width_pair) width_pair_at
width_pair_sound ts x rest h =
    let a = bound (width_value_at ts) (λ (a : (ℕ × Val) × List Tok). after_mark 44 a.1 >>= (λ (us : List Tok). operand_at (a.0.0 == 1) us >>= (λ (b : Val × List Tok). Some ((a.0.0, a.0.1, b.0), b.1)))) (x, rest) h in
    let m = bound (after_mark 44 a.value.1) (λ (us : List Tok). operand_at (a.value.0.0 == 1) us >>= (λ (b : Val × List Tok). Some ((a.value.0.0, a.value.0.1, b.0), b.1))) (x, rest) a.rest in
    let b = bound (operand_at (a.value.0.0 == 1) m.value) (λ (b : Val × List Tok). Some ((a.value.0.0, a.value.0.1, b.0), b.1)) (x, rest) m.rest in
    let e : ((a.value.0.0, a.value.0.1, b.value.0), b.value.1) ≡ (x, rest) = some_is b.rest in
    let s = width_value_sound ts a.value.0 a.value.1 a.was in
    let v = operand_sound (integer a.value.0.0) m.value b.value.0 b.value.1 b.was in
    let front = s.front ++ mark 44 ∷ v.front in
    record {
      front = front;
      spelled = subst (λ y. SpellsPair (integer y.0) y.1 y.2 front) (ap (λ q. q.0) e) (s.front, v.front, s.spelled, v.spelled, refl);
      parts = parted 44 ts s.front a.value.1 m.value v.front rest s.parts (after_mark_is 44 a.value.1 m.value m.was) (v.parts ∙ ap (λ q. v.front ++ q.1) e);
    }

typed_pair_sound : IsSound (SpellsPart typed_pair) typed_pair_at
typed_pair_sound ts x rest h =
    let a = bound (typed_at ts) (λ (a : (Ty × Val) × List Tok). after_mark 44 a.1 >>= (λ (us : List Tok). operand_at (is_bit a.0.0) us >>= (λ (b : Val × List Tok). Some ((a.0.0, a.0.1, b.0), b.1)))) (x, rest) h in
    let m = bound (after_mark 44 a.value.1) (λ (us : List Tok). operand_at (is_bit a.value.0.0) us >>= (λ (b : Val × List Tok). Some ((a.value.0.0, a.value.0.1, b.0), b.1))) (x, rest) a.rest in
    let b = bound (operand_at (is_bit a.value.0.0) m.value) (λ (b : Val × List Tok). Some ((a.value.0.0, a.value.0.1, b.0), b.1)) (x, rest) m.rest in
    let e : ((a.value.0.0, a.value.0.1, b.value.0), b.value.1) ≡ (x, rest) = some_is b.rest in
    let s = typed_sound ts a.value.0 a.value.1 a.was in
    let v = operand_sound a.value.0.0 m.value b.value.0 b.value.1 b.was in
    let front = s.front ++ mark 44 ∷ v.front in
    record {
      front = front;
      spelled = subst (λ y. SpellsPair y.0 y.1 y.2 front) (ap (λ q. q.0) e) (s.front, v.front, s.spelled, v.spelled, refl);
      parts = parted 44 ts s.front a.value.1 m.value v.front rest s.parts (after_mark_is 44 a.value.1 m.value m.was) (v.parts ∙ ap (λ q. v.front ++ q.1) e);
    }

abbrev same_pair : Bool → Ty → Val → Val → List Tok → Option ((Ty × Val × Val) × List Tok)
same_pair b t v u ts = if b then Some ((t, v, u), ts) else None

twice_by : (t u : Ty) (b : Bool) (v w : Val) (ts t1 t2 t3 : List Tok) (x : Ty × Val × Val) (rest : List Tok) → same_type t u ≡ b → Takes IsTyped ts (t, v) t1 → t1 ≡ mark 44 ∷ t2 → Takes IsTyped t2 (u, w) t3
    → same_pair b t v w t3 ≡ Some (x, rest) → Takes (SpellsPart twice) ts x rest
twice_by t u false v w ts t1 t2 t3 x rest same s m r h = cc
twice_by t u true v w ts t1 t2 t3 x rest same s m r h =
    let e : ((t, v, w), t3) ≡ (x, rest) = some_is h in
    let front = s.front ++ mark 44 ∷ r.front in
    record {
      front = front;
      spelled = subst (λ y. SpellsPart twice y front) (ap (λ q. q.0) e) (s.front, r.front, s.spelled, subst (λ z. SpellsTyped z w r.front) (sym ((same_is t u).0 same)) r.spelled, refl);
      parts = parted 44 ts s.front t1 t2 r.front rest s.parts m (r.parts ∙ ap (λ q. r.front ++ q.1) e);
    }

twice_sound : IsSound (SpellsPart twice) twice_at
twice_sound ts x rest h =
    let a = bound (typed_at ts) (λ (a : (Ty × Val) × List Tok). after_mark 44 a.1 >>= (λ (us : List Tok). typed_at us >>= (λ (b : (Ty × Val) × List Tok). same_pair (same_type a.0.0 b.0.0) a.0.0 a.0.1 b.0.1 b.1))) (x, rest) h in
    let m = bound (after_mark 44 a.value.1) (λ (us : List Tok). typed_at us >>= (λ (b : (Ty × Val) × List Tok). same_pair (same_type a.value.0.0 b.0.0) a.value.0.0 a.value.0.1 b.0.1 b.1)) (x, rest) a.rest in
    let b = bound (typed_at m.value) (λ (b : (Ty × Val) × List Tok). same_pair (same_type a.value.0.0 b.0.0) a.value.0.0 a.value.0.1 b.0.1 b.1) (x, rest) m.rest in
    twice_by a.value.0.0 b.value.0.0 (same_type a.value.0.0 b.value.0.0) a.value.0.1 b.value.0.1 ts a.value.1 m.value b.value.1 x rest refl
    (typed_sound ts a.value.0 a.value.1 a.was) (after_mark_is 44 a.value.1 m.value m.was) (typed_sound m.value b.value.0 b.value.1 b.was) b.rest

register_sound : IsSound (SpellsPart register) register_at
register_sound ts x rest h =
    let n = bound (local_at ts) (λ (n : List ℕ × List Tok). Some (local n.0, n.1)) (x, rest) h in
    let e : (local n.value.0, n.value.1) ≡ (x, rest) = some_is n.rest in
    let s = local_sound ts n.value.0 n.value.1 n.was in
    record { front = s.front; spelled = (n.value.0, sym (ap (λ q. q.0) e), s.spelled); parts = s.parts ∙ ap (λ q. s.front ++ q.1) e }

predicate_sound : IsSound (SpellsPart predicate) predicate_at
predicate_sound [] x rest h = cc
predicate_sound ((Word, text) ∷ ts) x rest h =
    let p = bound (predicate_of text) (λ (p : Predicate). Some (p, ts)) (x, rest) h in
    let e : (p.value, ts) ≡ (x, rest) = some_is p.rest in
    let same = predicate_found text x (p.was ∙ ap (λ q. Some q.0) e) in
    record { front = word text ∷ []; spelled = ap (λ y. word y ∷ []) same; parts = ap (λ q. word text ∷ q.1) e }
predicate_sound ((Number, text) ∷ ts) x rest h = cc
predicate_sound ((Quoted, text) ∷ ts) x rest h = cc
predicate_sound ((Local, text) ∷ ts) x rest h = cc
predicate_sound ((Global, text) ∷ ts) x rest h = cc
predicate_sound ((Metadata, text) ∷ ts) x rest h = cc
predicate_sound ((Attribute, text) ∷ ts) x rest h = cc
predicate_sound ((Mark, text) ∷ ts) x rest h = cc

-- ---- alignments and ranges

range_word_is : (ts rest : List Tok) → after_range_word ts ≡ Some rest → ts ≡ (Metadata, codes "!range") ∷ rest
range_word_is [] rest h = cc
range_word_is ((Metadata, text) ∷ ts) rest h =
    elim (if_some (bytes_eq text (codes "!range")) (Some ts) None rest h) [
      | inl p ↦ (let same : ts ≡ rest = some_is p.1 in ap (λ y. (Metadata, y) ∷ ts) (text_is text (codes "!range") p.0) ∙ ap (λ us. (Metadata, codes "!range") ∷ us) same)
      | inr p ↦ (let wrong = p.1 in cc)
    ]
range_word_is ((Word, text) ∷ ts) rest h = cc
range_word_is ((Number, text) ∷ ts) rest h = cc
range_word_is ((Quoted, text) ∷ ts) rest h = cc
range_word_is ((Local, text) ∷ ts) rest h = cc
range_word_is ((Global, text) ∷ ts) rest h = cc
range_word_is ((Attribute, text) ∷ ts) rest h = cc
range_word_is ((Mark, text) ∷ ts) rest h = cc

-- `!N`
abbrev IsRangeName : Option (List ℕ) → List Tok → Type 0
IsRangeName x ts = (text : List ℕ) × (are_digits (drop 1 text) ≡ true) × (x ≡ Some (drop 1 text)) × (ts ≡ (Metadata, text) ∷ [])

range_name_sound : IsSound IsRangeName range_name_at
range_name_sound [] x rest h = cc
range_name_sound ((Metadata, text) ∷ ts) x rest h =
    elim (if_some (are_digits (drop 1 text)) (Some (tok_pair (Some (drop 1 text)) ts)) None (x, rest) h) [
      | inl p ↦ (let e : (Some (drop 1 text), ts) ≡ (x, rest) = some_is p.1 in
          record { front = (Metadata, text) ∷ []; spelled = (text, p.0, sym (ap (λ q. q.0) e), refl); parts = ap (λ q. (Metadata, text) ∷ q.1) e })
      | inr p ↦ (let wrong = p.1 in cc)
    ]
range_name_sound ((Word, text) ∷ ts) x rest h = cc
range_name_sound ((Number, text) ∷ ts) x rest h = cc
range_name_sound ((Quoted, text) ∷ ts) x rest h = cc
range_name_sound ((Local, text) ∷ ts) x rest h = cc
range_name_sound ((Global, text) ∷ ts) x rest h = cc
range_name_sound ((Attribute, text) ∷ ts) x rest h = cc
range_name_sound ((Mark, text) ∷ ts) x rest h = cc

after_range_is : (ts rest : List Tok) → after_range ts ≡ Some rest → ts ≡ mark 44 ∷ (Metadata, codes "!range") ∷ rest
after_range_is ts rest h =
    let b = bound (after_mark 44 ts) after_range_word rest h in
    after_mark_is 44 ts b.value b.was ∙ ap (λ us. mark 44 ∷ us) (range_word_is b.value rest b.rest)

range_found : (o : Option (List Tok)) (ts : List Tok) (x : Option (List ℕ)) (rest : List Tok) → after_range ts ≡ o → range_by o ts ≡ Some (x, rest) → Takes SpellsRange ts x rest
range_found None ts x rest is h =
    let e : (None, ts) ≡ (x, rest) = some_is h in
    record { front = []; spelled = subst (λ y. SpellsRange y []) (ap (λ q. q.0) e) refl; parts = ap (λ q. q.1) e }
range_found (Some us) ts x rest is h =
    let s = range_name_sound us x rest h in
    let front = mark 44 ∷ (Metadata, codes "!range") ∷ s.front in
    record {
      front = front;
      spelled = subst (λ y. SpellsRange y front) (sym s.spelled.2) (s.spelled.0, s.spelled.1, refl, ap (λ vs. mark 44 ∷ (Metadata, codes "!range") ∷ vs) s.spelled.3);
      parts = after_range_is ts us is ∙ ap (λ vs. mark 44 ∷ (Metadata, codes "!range") ∷ vs) s.parts;
    }

access_sound : IsSound (SpellsPart access) access_at
access_sound ts x rest h =
    let a = bound (align_at ts) (λ (a : ℕ × List Tok). range_at a.1 >>= (λ (r : Option (List ℕ) × List Tok). Some ((a.0, r.0), r.1))) (x, rest) h in
    let r = bound (range_at a.value.1) (λ (r : Option (List ℕ) × List Tok). Some ((a.value.0, r.0), r.1)) (x, rest) a.rest in
    let e : ((a.value.0, r.value.0), r.value.1) ≡ (x, rest) = some_is r.rest in
    let s = align_sound ts a.value.0 a.value.1 a.was in
    let n = range_found (after_range a.value.1) a.value.1 r.value.0 r.value.1 refl r.was in
    record {
      front = s.front ++ n.front;
      spelled = subst (λ y. SpellsPart access y (s.front ++ n.front)) (ap (λ q. q.0) e) (s.front, n.front, s.spelled, n.spelled, refl);
      parts = joined ts s.front a.value.1 n.front rest s.parts (n.parts ∙ ap (λ q. n.front ++ q.1) e);
    }

-- ---- the arms of a phi

abbrev pub IsArm : Ty → Val × List ℕ → List Tok → Type 0
IsArm t arm ts = SpellsArm t arm.0 arm.1 ts

arm_shape : (t : Ty) (ts t1 t2 t3 t4 t5 : List Tok) (v : Val) (b : List ℕ) (x : Val × List ℕ) (rest : List Tok) → ts ≡ mark 91 ∷ t1 → Takes (SpellsOperand t) t1 v t2 → t2 ≡ mark 44 ∷ t3 → Takes IsLocal t3 b t4
    → t4 ≡ mark 93 ∷ t5 → tok_pair (v, b) t5 ≡ (x, rest) → Takes (IsArm t) ts x rest
arm_shape t ts t1 t2 t3 t4 t5 v b x rest a s m l z e =
    let front = mark 91 ∷ (s.front ++ mark 44 ∷ (l.front ++ mark 93 ∷ [])) in
    let tail : t3 ≡ (l.front ++ mark 93 ∷ []) ++ rest = joined t3 l.front t4 (mark 93 ∷ []) rest l.parts (z ∙ ap (λ q. mark 93 ∷ q.1) e) in
    record {
      front = front;
      spelled = subst (λ y. IsArm t y front) (ap (λ q. q.0) e) (s.front, l.front, s.spelled, l.spelled, refl);
      parts = a ∙ ap (λ us. mark 91 ∷ us) (parted 44 t1 s.front t2 t3 (l.front ++ mark 93 ∷ []) rest s.parts m tail);
    }

arm_sound : (t : Ty) → IsSound (IsArm t) (arm_at (is_bit t))
arm_sound t ts x rest h =
    let a = bound (after_mark 91 ts) (λ (us : List Tok). operand_at (is_bit t) us >>= (λ (v : Val × List Tok). after_mark 44 v.1 >>= (λ (vs : List Tok). local_at vs >>= (λ (b : List ℕ × List Tok). after_mark 93 b.1 >>= (λ (ws : List Tok). Some ((v.0, b.0), ws)))))) (x, rest) h in
    let v = bound (operand_at (is_bit t) a.value) (λ (v : Val × List Tok). after_mark 44 v.1 >>= (λ (vs : List Tok). local_at vs >>= (λ (b : List ℕ × List Tok). after_mark 93 b.1 >>= (λ (ws : List Tok). Some ((v.0, b.0), ws))))) (x, rest) a.rest in
    let m = bound (after_mark 44 v.value.1) (λ (vs : List Tok). local_at vs >>= (λ (b : List ℕ × List Tok). after_mark 93 b.1 >>= (λ (ws : List Tok). Some ((v.value.0, b.0), ws)))) (x, rest) v.rest in
    let b = bound (local_at m.value) (λ (b : List ℕ × List Tok). after_mark 93 b.1 >>= (λ (ws : List Tok). Some ((v.value.0, b.0), ws))) (x, rest) m.rest in
    let z = bound (after_mark 93 b.value.1) (λ (ws : List Tok). Some ((v.value.0, b.value.0), ws)) (x, rest) b.rest in
    arm_shape t ts a.value v.value.1 m.value b.value.1 z.value v.value.0 b.value.0 x rest (after_mark_is 91 ts a.value a.was) (operand_sound t a.value v.value.0 v.value.1 v.was)
    (after_mark_is 44 v.value.1 m.value m.was) (local_sound m.value b.value.0 b.value.1 b.was) (after_mark_is 93 b.value.1 z.value z.was) (some_is z.rest)

more_arms : (t : Ty) (xs : List (Val × List ℕ)) (ts : List Tok) → Row (Behind (IsArm t)) xs ts → SpellsMoreArms t xs ts
more_arms t [] ts s = s
more_arms t (x ∷ xs) ts s = (s.2.0, s.1, s.2.1, more_arms t xs s.1 s.3, s.4 ∙ ap (λ us. us ++ s.1) s.2.2)

all_arms : (t : Ty) (xs : List (Val × List ℕ)) (ts : List Tok) → Leading (IsArm t) (Behind (IsArm t)) xs ts → SpellsArms t xs ts
all_arms t [] ts s = absurd s
all_arms t (x ∷ xs) ts s = (s.0, s.1, s.2, more_arms t xs s.1 s.3, s.4)

arms_sound : IsSound (SpellsPart arms) arms_at
arms_sound ts x rest h =
    let t = bound (type_at ts) (λ (t : Ty × List Tok). some_arms (is_bit t.0) t.1 >>= (λ (a : List (Val × List ℕ) × List Tok). Some ((t.0, a.0), a.1))) (x, rest) h in
    let a = bound (some_arms (is_bit t.value.0) t.value.1) (λ (a : List (Val × List ℕ) × List Tok). Some ((t.value.0, a.0), a.1)) (x, rest) t.rest in
    let e : ((t.value.0, a.value.0), a.value.1) ≡ (x, rest) = some_is a.rest in
    let s = type_sound ts t.value.0 t.value.1 t.was in
    let led = some_sound (IsArm t.value.0) (Behind (IsArm t.value.0)) is_ended (arm_at (is_bit t.value.0)) (behind_comma (arm_at (is_bit t.value.0))) (arm_sound t.value.0)
    (behind_sound (IsArm t.value.0) (arm_at (is_bit t.value.0)) (arm_sound t.value.0)) t.value.1 a.value.0 a.value.1 a.was in
    let front = s.front ++ led.takes.front in
    record {
      front = front;
      spelled = subst (λ y. SpellsPart arms y front) (ap (λ q. q.0) e) (s.front, led.takes.front, s.spelled, all_arms t.value.0 a.value.0 led.takes.front led.takes.spelled, refl);
      parts = joined ts s.front t.value.1 led.takes.front rest s.parts (led.takes.parts ∙ ap (λ q. led.takes.front ++ q.1) e);
    }

-- ---- the indices of an address

abbrev pub IsOffset : Ty × Val → List Tok → Type 0
IsOffset p ts = (w : ℕ) × (inner : List Tok) × (p.0 ≡ integer w) × SpellsTyped (integer w) p.1 inner × (ts ≡ mark 44 ∷ inner)

offset_sound : IsSound IsOffset offset_at
offset_sound ts x rest h =
    let m = bound (after_mark 44 ts) (λ (us : List Tok). width_value_at us >>= (λ (v : (ℕ × Val) × List Tok). Some ((integer v.0.0, v.0.1), v.1))) (x, rest) h in
    let v = bound (width_value_at m.value) (λ (v : (ℕ × Val) × List Tok). Some ((integer v.0.0, v.0.1), v.1)) (x, rest) m.rest in
    let e : ((integer v.value.0.0, v.value.0.1), v.value.1) ≡ (x, rest) = some_is v.rest in
    let s = width_value_sound m.value v.value.0 v.value.1 v.was in
    let front = mark 44 ∷ s.front in
    record {
      front = front;
      spelled = subst (λ y. IsOffset y front) (ap (λ q. q.0) e) (v.value.0.0, s.front, refl, s.spelled, refl);
      parts = after_mark_is 44 ts m.value m.was ∙ ap (λ us. mark 44 ∷ us) (s.parts ∙ ap (λ q. s.front ++ q.1) e);
    }

row_offsets : (xs : List (Ty × Val)) (ts : List Tok) → Row IsOffset xs ts → SpellsOffsets (indices_from xs) ts
row_offsets [] ts s = s
row_offsets (x ∷ xs) ts s =
    let one = s.2 in
    subst (λ t. SpellsOffsets (index_and t x.1 (indices_from xs)) ts) (sym one.2) (one.1, s.1, one.3, row_offsets xs s.1 s.3, s.4 ∙ ap (λ us. us ++ s.1) one.4)

all_offsets : (xs : List (Ty × Val)) (ts : List Tok) → Leading IsOffset IsOffset xs ts → SpellsOffsets (indices_from xs) ts × HasIndices (indices_from xs)
all_offsets [] ts s = absurd s
all_offsets (x ∷ xs) ts s = (row_offsets (x ∷ xs) ts s, tt)

offsets_sound : IsSound (SpellsPart offsets) offsets_at
offsets_sound ts x rest h =
    let i = bound (some_offsets ts) (λ (i : List (Ty × Val) × List Tok). Some (indices_from i.0, i.1)) (x, rest) h in
    let e : (indices_from i.value.0, i.value.1) ≡ (x, rest) = some_is i.rest in
    let led = some_sound IsOffset IsOffset is_ended offset_at offset_at offset_sound offset_sound ts i.value.0 i.value.1 i.was in
    record {
      front = led.takes.front;
      spelled = subst (λ y. SpellsPart offsets y led.takes.front) (ap (λ q. q.0) e) (all_offsets i.value.0 led.takes.front led.takes.spelled);
      parts = led.takes.parts ∙ ap (λ q. led.takes.front ++ q.1) e;
    }

-- ---- the arguments of a call

more_arguments : (xs : List (Ty × Val)) (ts : List Tok) → Row (Behind IsTyped) xs ts → SpellsMoreArguments xs ts
more_arguments [] ts s = s
more_arguments (x ∷ xs) ts s = (s.2.0, s.1, s.2.1, more_arguments xs s.1 s.3, s.4 ∙ ap (λ us. us ++ s.1) s.2.2)

all_arguments : (xs : List (Ty × Val)) (ts : List Tok) → Parted IsTyped xs ts → SpellsArguments xs ts
all_arguments [] ts s = s
all_arguments (x ∷ xs) ts s = (s.0, s.1, s.2, more_arguments xs s.1 s.3, s.4)

arguments_sound : IsSound (SpellsPart arguments) arguments_at
arguments_sound ts x rest h =
    let m = bound (after_mark 40 ts) (λ (us : List Tok). separated typed_at 41 us) (x, rest) h in
    let s = separated_sound IsTyped typed_at 41 typed_sound m.value x rest m.rest in
    record {
      front = mark 40 ∷ s.front;
      spelled = (s.spelled.0, all_arguments x s.spelled.0 s.spelled.1, ap (λ us. mark 40 ∷ us) s.spelled.2);
      parts = after_mark_is 40 ts m.value m.was ∙ ap (λ us. mark 40 ∷ us) s.parts;
    }

-- ---- the cases of a switch

abbrev pub IsCase : ℕ → ℤ × List ℕ → List Tok → Type 0
IsCase w c ts = (over : List Tok) × (at : List Tok) × (to : List Tok) × SpellsType (integer w) over × IsNumber c.0 at × IsLabel c.1 to × (ts ≡ over ++ at ++ mark 44 ∷ to)

abbrev case_pair : Bool → ℤ → List ℕ → List Tok → Option ((ℤ × List ℕ) × List Tok)
case_pair b n l ts = if b then Some ((n, l), ts) else None

case_by : (w v : ℕ) (b : Bool) (n : ℤ) (l : List ℕ) (ts t1 t2 t3 t4 : List Tok) (x : ℤ × List ℕ) (rest : List Tok) → (v == w) ≡ b → Takes IsWidth ts v t1 → Takes IsNumber t1 n t2 → t2 ≡ mark 44 ∷ t3 → Takes IsLabel t3 l t4
    → case_pair b n l t4 ≡ Some (x, rest) → Takes (IsCase w) ts x rest
case_by w v false n l ts t1 t2 t3 t4 x rest same a b m c h = cc
case_by w v true n l ts t1 t2 t3 t4 x rest same a b m c h =
    let e : ((n, l), t4) ≡ (x, rest) = some_is h in
    let front = a.front ++ b.front ++ mark 44 ∷ c.front in
    record {
      front = front;
      spelled = subst (λ y. IsCase w y front) (ap (λ q. q.0) e)
          (a.front, b.front, c.front, subst (λ z. SpellsType (integer z) a.front) (eqb-true v w same) (wide v a.front a.spelled), b.spelled, c.spelled, refl);
      parts = parted 44 ts (a.front ++ b.front) t2 t3 c.front rest (joined ts a.front t1 b.front t2 a.parts b.parts) m (c.parts ∙ ap (λ q. c.front ++ q.1) e);
    }

case_sound : (w : ℕ) → IsSound (IsCase w) (case_at w)
case_sound w ts x rest h =
    let v = bound (width_at ts) (λ (v : ℕ × List Tok). number_at v.1 >>= (λ (n : ℤ × List Tok). after_mark 44 n.1 >>= (λ (us : List Tok). label_at us >>= (λ (l : List ℕ × List Tok). case_pair (v.0 == w) n.0 l.0 l.1)))) (x, rest) h in
    let n = bound (number_at v.value.1) (λ (n : ℤ × List Tok). after_mark 44 n.1 >>= (λ (us : List Tok). label_at us >>= (λ (l : List ℕ × List Tok). case_pair (v.value.0 == w) n.0 l.0 l.1))) (x, rest) v.rest in
    let m = bound (after_mark 44 n.value.1) (λ (us : List Tok). label_at us >>= (λ (l : List ℕ × List Tok). case_pair (v.value.0 == w) n.value.0 l.0 l.1)) (x, rest) n.rest in
    let l = bound (label_at m.value) (λ (l : List ℕ × List Tok). case_pair (v.value.0 == w) n.value.0 l.0 l.1) (x, rest) m.rest in
    case_by w v.value.0 (v.value.0 == w) n.value.0 l.value.0 ts v.value.1 n.value.1 m.value l.value.1 x rest refl (width_sound ts v.value.0 v.value.1 v.was) (number_sound v.value.1 n.value.0 n.value.1 n.was)
    (after_mark_is 44 n.value.1 m.value m.was) (label_sound m.value l.value.0 l.value.1 l.was) l.rest

row_cases : (w : ℕ) (xs : List (ℤ × List ℕ)) (ts : List Tok) → Row (IsCase w) xs ts → SpellsCases w xs ts
row_cases w [] ts s = s
row_cases w (x ∷ xs) ts s =
    let one = s.2 in (
      one.0,
      one.1,
      one.2,
      s.1,
      one.3,
      one.4,
      one.5,
      row_cases w xs s.1 s.3,
      s.4 ∙ ap (λ us. us ++ s.1) one.6 ∙ append_assoc (one.0 ++ one.1) (mark 44 ∷ one.2) s.1,
    )

lead_cases : (w : ℕ) (xs : List (ℤ × List ℕ)) (ts : List Tok) → Leading (IsCase w) (IsCase w) xs ts → Row (IsCase w) xs ts
lead_cases w [] ts s = absurd s
lead_cases w (x ∷ xs) ts s = s

abbrev no_cases : Bool → ℕ → List Tok → Option (List (ℤ × List ℕ) × List Tok)
no_cases b w ts = if b then Some ([], ts) else some_cases w ts

cases_sound : (w : ℕ) → IsSound (SpellsCases w) (cases_at w)
cases_sound w ts x rest h =
    elim (if_some (is_closed 93 ts) (Some (tok_pair [] ts)) (some_cases w ts) (x, rest) h) [
      | inl p ↦ (let e : ([], ts) ≡ (x, rest) = some_is p.1 in
          record { front = []; spelled = subst (λ y. SpellsCases w y []) (ap (λ q. q.0) e) refl; parts = ap (λ q. q.1) e })
      | inr p ↦ (let led = some_sound (IsCase w) (IsCase w) (is_closed 93) (case_at w) (case_at w) (case_sound w) (case_sound w) ts x rest p.1 in
          record { front = led.takes.front; spelled = row_cases w x led.takes.front (lead_cases w x led.takes.front led.takes.spelled); parts = led.takes.parts })
    ]

abbrev pub IsChoiceHead : ℕ × Val × List ℕ → List Tok → Type 0
IsChoiceHead c ts = (on : List Tok) × (default : List Tok) × SpellsTyped (integer c.0) c.1 on × IsLabel c.2 default × (ts ≡ on ++ mark 44 ∷ (default ++ mark 91 ∷ []))

choice_shape : (w : ℕ) (v : Val) (l : List ℕ) (ts t1 t2 t3 t4 : List Tok) (x : ℕ × Val × List ℕ) (rest : List Tok) → Takes IsWidthValue ts (w, v) t1 → t1 ≡ mark 44 ∷ t2 → Takes IsLabel t2 l t3 → t3 ≡ mark 91 ∷ t4
    → tok_pair (w, v, l) t4 ≡ (x, rest) → Takes IsChoiceHead ts x rest
choice_shape w v l ts t1 t2 t3 t4 x rest a m b z e =
    let front = a.front ++ mark 44 ∷ (b.front ++ mark 91 ∷ []) in
    record {
      front = front;
      spelled = subst (λ y. IsChoiceHead y front) (ap (λ q. q.0) e) (a.front, b.front, a.spelled, b.spelled, refl);
      parts = parted 44 ts a.front t1 t2 (b.front ++ mark 91 ∷ []) rest a.parts m (joined t2 b.front t3 (mark 91 ∷ []) rest b.parts (z ∙ ap (λ q. mark 91 ∷ q.1) e));
    }

choice_head_sound : IsSound IsChoiceHead choice_head
choice_head_sound ts x rest h =
    let v = bound (width_value_at ts) (λ (v : (ℕ × Val) × List Tok). after_mark 44 v.1 >>= (λ (us : List Tok). label_at us >>= (λ (l : List ℕ × List Tok). after_mark 91 l.1 >>= (λ (vs : List Tok). Some ((v.0.0, v.0.1, l.0), vs))))) (x, rest) h in
    let m = bound (after_mark 44 v.value.1) (λ (us : List Tok). label_at us >>= (λ (l : List ℕ × List Tok). after_mark 91 l.1 >>= (λ (vs : List Tok). Some ((v.value.0.0, v.value.0.1, l.0), vs)))) (x, rest) v.rest in
    let l = bound (label_at m.value) (λ (l : List ℕ × List Tok). after_mark 91 l.1 >>= (λ (vs : List Tok). Some ((v.value.0.0, v.value.0.1, l.0), vs))) (x, rest) m.rest in
    let z = bound (after_mark 91 l.value.1) (λ (vs : List Tok). Some ((v.value.0.0, v.value.0.1, l.value.0), vs)) (x, rest) l.rest in
    choice_shape v.value.0.0 v.value.0.1 l.value.0 ts v.value.1 m.value l.value.1 z.value x rest (width_value_sound ts v.value.0 v.value.1 v.was) (after_mark_is 44 v.value.1 m.value m.was)
    (label_sound m.value l.value.0 l.value.1 l.was) (after_mark_is 91 l.value.1 z.value z.was) (some_is z.rest)

choices_join : (on default tail front : List Tok) → front ≡ on ++ mark 44 ∷ (default ++ mark 91 ∷ []) → front ++ tail ≡ on ++ mark 44 ∷ (default ++ mark 91 ∷ tail)
choices_join on default tail front is =
    ap (λ us. us ++ tail) is ∙ append_assoc on (mark 44 ∷ (default ++ mark 91 ∷ [])) tail ∙ ap (λ us. on ++ mark 44 ∷ us) (append_assoc default (mark 91 ∷ []) tail)

choices_shape : (c : ℕ × Val × List ℕ) (cs : List (ℤ × List ℕ)) (ts t1 t2 t3 : List Tok) (x : ℕ × Val × List ℕ × List (ℤ × List ℕ)) (rest : List Tok) → Takes IsChoiceHead ts c t1 → Takes (SpellsCases c.0) t1 cs t2 → t2 ≡ mark 93 ∷ t3
    → tok_pair (c.0, c.1, c.2, cs) t3 ≡ (x, rest) → Takes (SpellsPart choices) ts x rest
choices_shape c cs ts t1 t2 t3 x rest a b z e =
    let s = a.spelled in
    let front = s.0 ++ mark 44 ∷ (s.1 ++ mark 91 ∷ (b.front ++ mark 93 ∷ [])) in
    let tail : t1 ≡ (b.front ++ mark 93 ∷ []) ++ rest = joined t1 b.front t2 (mark 93 ∷ []) rest b.parts (z ∙ ap (λ q. mark 93 ∷ q.1) e) in
    record {
      front = front;
      spelled = subst (λ y. SpellsPart choices y front) (ap (λ q. q.0) e) (s.0, s.1, b.front, s.2, s.3, b.spelled, refl);
      parts = joined ts a.front t1 (b.front ++ mark 93 ∷ []) rest a.parts tail ∙ ap (λ us. us ++ rest) (choices_join s.0 s.1 (b.front ++ mark 93 ∷ []) a.front s.4);
    }

choices_sound : IsSound (SpellsPart choices) choices_at
choices_sound ts x rest h =
    let c = bound (choice_head ts) (λ (c : (ℕ × Val × List ℕ) × List Tok). cases_at c.0.0 c.1 >>= (λ (k : List (ℤ × List ℕ) × List Tok). after_mark 93 k.1 >>= (λ (us : List Tok). Some ((c.0.0, c.0.1, c.0.2, k.0), us)))) (x, rest) h in
    let k = bound (cases_at c.value.0.0 c.value.1) (λ (k : List (ℤ × List ℕ) × List Tok). after_mark 93 k.1 >>= (λ (us : List Tok). Some ((c.value.0.0, c.value.0.1, c.value.0.2, k.0), us))) (x, rest) c.rest in
    let z = bound (after_mark 93 k.value.1) (λ (us : List Tok). Some ((c.value.0.0, c.value.0.1, c.value.0.2, k.value.0), us)) (x, rest) k.rest in
    choices_shape c.value.0 k.value.0 ts c.value.1 k.value.1 z.value x rest (choice_head_sound ts c.value.0 c.value.1 c.was) (cases_sound c.value.0.0 c.value.1 k.value.0 k.value.1 k.was)
    (after_mark_is 93 k.value.1 z.value z.was) (some_is z.rest)

-- ---- every part

pub part_sound : (p : Part) → IsSound (SpellsPart p) (read_part p)
part_sound (sign byte) ts x rest h =
    let b = bound (after_mark byte ts) (λ (us : List Tok). Some (tok_pair tt us)) (x, rest) h in
    let e : (tt, b.value) ≡ (x, rest) = some_is b.rest in
    record { front = mark byte ∷ []; spelled = refl; parts = after_mark_is byte ts b.value b.was ∙ ap (λ q. mark byte ∷ q.1) e }
part_sound (key text) ts x rest h =
    let b = bound (after_word text ts) (λ (us : List Tok). Some (tok_pair tt us)) (x, rest) h in
    let e : (tt, b.value) ≡ (x, rest) = some_is b.rest in
    record { front = word text ∷ []; spelled = refl; parts = after_word_is text ts b.value b.was ∙ ap (λ q. word text ∷ q.1) e }
part_sound (may text) ts x rest h = flag_sound text ts x rest h
part_sound width ts x rest h = let s = width_sound ts x rest h in record { front = s.front; spelled = wide x s.front s.spelled; parts = s.parts }
part_sound over ts x rest h = type_sound ts x rest h
part_sound returned ts x rest h = result_sound ts x rest h
part_sound callee ts x rest h = global_sound ts x rest h
part_sound register ts x rest h = register_sound ts x rest h
part_sound predicate ts x rest h = predicate_sound ts x rest h
part_sound target ts x rest h = label_sound ts x rest h
part_sound part ts x rest h = count_sound ts x rest h
part_sound bit ts x rest h = bit_sound ts x rest h
part_sound place ts x rest h = place_sound ts x rest h
part_sound width_value ts x rest h = width_value_sound ts x rest h
part_sound width_pair ts x rest h = width_pair_sound ts x rest h
part_sound typed ts x rest h = typed_sound ts x rest h
part_sound typed_pair ts x rest h = typed_pair_sound ts x rest h
part_sound twice ts x rest h = twice_sound ts x rest h
part_sound alignment ts x rest h = align_sound ts x rest h
part_sound access ts x rest h = access_sound ts x rest h
part_sound arms ts x rest h = arms_sound ts x rest h
part_sound offsets ts x rest h = offsets_sound ts x rest h
part_sound arguments ts x rest h = arguments_sound ts x rest h
part_sound choices ts x rest h = choices_sound ts x rest h
