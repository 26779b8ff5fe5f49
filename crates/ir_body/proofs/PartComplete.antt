-- A part that is spelled is read, where it is told from what stands behind it.
use Rattle.std.proofs.Common.{◌≡◌, ℕ, Bool, true, false, ◌==◌, ℤ, Option, Some, None, List, [], ◌∷◌, ◌++◌, refl, sym, ◌∙◌, ap, subst, append_assoc, append-nil}
use Rattle.std.specs.Prelude.{if◌then◌else◌, drop, bytes_eq}
use Rattle.std.proofs.lemmas.Bool.{eq-eqb}
use Rattle.std.proofs.lemmas.Slice.Eq.{bytes_eq-Decides}
use Rattle.ir_ast.specs.Plain.{Ty, nothing, integer, pointer, array, structure, packed, named, opaque, Val, local, Indices, no_indices, index_and}
use Rattle.ir_ast.specs.declared.instr.Predicate.{Predicate}
use Rattle.ir_lex.specs.Tok.{Tok, word, mark}
use Rattle.ir_lex.specs.TypeSpelling.{SpellsType}
use Rattle.ir_lex.specs.ValueSpelling.{HasIndices}
use Rattle.ir_lex.specs.Parts.{Part, sign, key, may, width, over, returned, callee, register, predicate, target, part, bit, place, width_value, width_pair, typed, typed_pair, twice, alignment, access, arms, offsets, arguments, choices, Got, SpellsPart, SpellsTyped, SpellsAlign, SpellsRange, SpellsMoreArms, SpellsArms, SpellsOffsets, SpellsMoreArguments, SpellsArguments, SpellsCases}
use Rattle.ir_part.specs.Reader.{◌>>=◌, IsComplete}
use Rattle.ir_part.specs.Fronts.{after_mark, local_at, label_at}
use Rattle.ir_part.specs.Many.{behind_comma, is_closed, is_ended}
use Rattle.ir_part.specs.Lists.{Row, Behind, Leading, Parted}
use Rattle.ir_part.specs.Numbers.{number_at, after_align, align_at}
use Rattle.ir_part.specs.Types.{is_bit, same_type}
use Rattle.ir_part.specs.Operands.{operand_at, typed_at, indices_from}
use Rattle.ir_part.specs.Laws.{IsTyped, IsWidth}
use Rattle.ir_part.proofs.Fronts.{local_complete, global_complete, label_complete, count_complete, number_complete, width_complete}
use Rattle.ir_part.proofs.Lists.{IsElement, some_complete, separated_complete, behind_element_end}
use Rattle.ir_part.proofs.TypeLaws.{type_complete, result_complete}
use Rattle.ir_part.proofs.SameLaw.{same_is}
use Rattle.ir_part.proofs.AlignLaw.{align_complete}
use Rattle.ir_part.proofs.OperandLaws.{operand_complete, typed_complete}
use Rattle.ir_body.specs.Parts.{register_at, predicate_at, width_value_at, bit_at, place_at, width_pair_at, typed_pair_at, twice_at, range_at, access_at, arm_at, some_arms, arms_at, offset_at, offsets_at, arguments_at, case_at, some_cases, cases_at, choice_head, choices_at}
use Rattle.ir_body.specs.Rows.{read_part}
use Rattle.ir_body.proofs.WordLaws.{predicate_there}
use Rattle.ir_body.proofs.PartSound.{IsArm, IsOffset, IsCase, IsChoiceHead, tok_pair}

narrow : (w : ℕ) (ts : List Tok) → SpellsType (integer w) ts → IsWidth w ts
narrow w ts s = s.0

pub width_value_complete : (x : ℕ × Val) (front rest : List Tok) → SpellsTyped (integer x.0) x.1 front → width_value_at (front ++ rest) ≡ Some (x, rest)
width_value_complete x front rest s =
    ap (λ us. width_value_at (us ++ rest)) s.4
    ∙ ap width_value_at (append_assoc s.0 s.1 rest)
    ∙ ap (λ o. o >>= (λ (w : ℕ × List Tok). operand_at (w.0 == 1) w.1 >>= (λ (v : Val × List Tok). Some ((w.0, v.0), v.1)))) (width_complete x.0 s.0 (s.1 ++ rest) (narrow x.0 s.0 s.2))
    ∙ ap (λ o. o >>= (λ (v : Val × List Tok). Some ((x.0, v.0), v.1))) (operand_complete (integer x.0) x.1 s.1 rest s.3)

bit_complete : IsComplete (SpellsPart bit) bit_at
bit_complete x front rest s = ap (λ o. o >>= (λ (v : (ℕ × Val) × List Tok). if v.0.0 == 1 then Some (tok_pair v.0.1 v.1) else None)) (width_value_complete (1, x) front rest s)

place_complete : IsComplete (SpellsPart place) place_at
place_complete x front rest s =
    ap (λ us. place_at (us ++ rest)) (s.4 ∙ ap (λ us. us ++ s.1) s.2.0) ∙ operand_complete pointer x s.1 rest s.3

spread : (byte : ℕ) (a b rest : List Tok) → (a ++ mark byte ∷ b) ++ rest ≡ a ++ (mark byte ∷ (b ++ rest))
spread byte a b rest = append_assoc a (mark byte ∷ b) rest

width_pair_complete : IsComplete (SpellsPart width_pair) width_pair_at
width_pair_complete x front rest s =
    ap (λ us. width_pair_at (us ++ rest)) s.4
    ∙ ap width_pair_at (spread 44 s.0 s.1 rest)
    ∙ ap (λ o. o >>= (λ (a : (ℕ × Val) × List Tok). after_mark 44 a.1 >>= (λ (us : List Tok). operand_at (a.0.0 == 1) us >>= (λ (b : Val × List Tok). Some ((a.0.0, a.0.1, b.0), b.1))))) (width_value_complete (x.0, x.1) s.0 (mark 44 ∷ (s.1 ++ rest)) s.2)
    ∙ ap (λ o. o >>= (λ (b : Val × List Tok). Some ((x.0, x.1, b.0), b.1))) (operand_complete (integer x.0) x.2 s.1 rest s.3)

typed_pair_complete : IsComplete (SpellsPart typed_pair) typed_pair_at
typed_pair_complete x front rest s =
    ap (λ us. typed_pair_at (us ++ rest)) s.4
    ∙ ap typed_pair_at (spread 44 s.0 s.1 rest)
    ∙ ap (λ o. o >>= (λ (a : (Ty × Val) × List Tok). after_mark 44 a.1 >>= (λ (us : List Tok). operand_at (is_bit a.0.0) us >>= (λ (b : Val × List Tok). Some ((a.0.0, a.0.1, b.0), b.1))))) (typed_complete (x.0, x.1) s.0 (mark 44 ∷ (s.1 ++ rest)) s.2)
    ∙ ap (λ o. o >>= (λ (b : Val × List Tok). Some ((x.0, x.1, b.0), b.1))) (operand_complete x.0 x.2 s.1 rest s.3)

abbrev same_pair : Bool → Ty → Val → Val → List Tok → Option ((Ty × Val × Val) × List Tok)
same_pair b t v u ts = if b then Some ((t, v, u), ts) else None

twice_complete : IsComplete (SpellsPart twice) twice_at
twice_complete x front rest s =
    ap (λ us. twice_at (us ++ rest)) s.4
    ∙ ap twice_at (spread 44 s.0 s.1 rest)
    ∙ ap (λ o. o >>= (λ (a : (Ty × Val) × List Tok). after_mark 44 a.1 >>= (λ (us : List Tok). typed_at us >>= (λ (b : (Ty × Val) × List Tok). same_pair (same_type a.0.0 b.0.0) a.0.0 a.0.1 b.0.1 b.1)))) (typed_complete (x.0, x.1) s.0 (mark 44 ∷ (s.1 ++ rest)) s.2)
    ∙ ap (λ o. o >>= (λ (b : (Ty × Val) × List Tok). same_pair (same_type x.0 b.0.0) x.0 x.1 b.0.1 b.1)) (typed_complete (x.0, x.2) s.1 rest s.3)
    ∙ ap (λ b. same_pair b x.0 x.1 x.2 rest) ((same_is x.0 x.0).1 refl)

register_complete : IsComplete (SpellsPart register) register_at
register_complete x front rest s =
    ap (λ o. o >>= (λ (n : List ℕ × List Tok). Some (local n.0, n.1))) (local_complete s.0 front rest s.2) ∙ ap (λ v. Some (v, rest)) (sym s.1)

predicate_complete : IsComplete (SpellsPart predicate) predicate_at
predicate_complete x front rest s = ap (λ us. predicate_at (us ++ rest)) s ∙ ap (λ o. o >>= (λ (p : Predicate). Some (p, rest))) (predicate_there x)

-- ---- alignments and ranges up to the end

ended_align : after_align [] ≡ None
ended_align = refl

range_complete : (x : Option (List ℕ)) (ts : List Tok) → SpellsRange x ts → range_at ts ≡ Some (x, [])
range_complete None ts s = ap range_at s
range_complete (Some name) ts s =
    ap range_at s.3 ∙ ap (λ b. if b then Some (tok_pair (Some (drop 1 s.0)) []) else None) s.1 ∙ ap (λ n. Some (Some n, [])) s.2

-- a range is no alignment
range_no_align : (x : Option (List ℕ)) (ts : List Tok) → SpellsRange x ts → after_align ts ≡ None
range_no_align None ts s = ap after_align s
range_no_align (Some name) ts s = ap after_align s.3

access_complete : (x : ℕ × Option (List ℕ)) (ts : List Tok) → SpellsPart access x ts → access_at ts ≡ Some (x, [])
access_complete x ts s =
    ap access_at s.4
    ∙ ap (λ o. o >>= (λ (a : ℕ × List Tok). range_at a.1 >>= (λ (r : Option (List ℕ) × List Tok). Some ((a.0, r.0), r.1)))) (align_complete x.0 s.0 s.1 (range_no_align x.1 s.1 s.3) s.2)
    ∙ ap (λ o. o >>= (λ (r : Option (List ℕ) × List Tok). Some ((x.0, r.0), r.1))) (range_complete x.1 s.1 s.3)

-- ---- the arms of a phi

arm_complete : (t : Ty) → IsComplete (IsArm t) (arm_at (is_bit t))
arm_complete t x front rest s =
    let shape : (s.0 ++ mark 44 ∷ (s.1 ++ mark 93 ∷ [])) ++ rest ≡ s.0 ++ (mark 44 ∷ (s.1 ++ (mark 93 ∷ rest))) =
    spread 44 s.0 (s.1 ++ mark 93 ∷ []) rest ∙ ap (λ us. s.0 ++ (mark 44 ∷ us)) (append_assoc s.1 (mark 93 ∷ []) rest) in
    ap (λ us. arm_at (is_bit t) (us ++ rest)) s.4
    ∙ ap (λ us. arm_at (is_bit t) (mark 91 ∷ us)) shape
    ∙ ap (λ o. o >>= (λ (v : Val × List Tok). after_mark 44 v.1 >>= (λ (vs : List Tok). local_at vs >>= (λ (b : List ℕ × List Tok). after_mark 93 b.1 >>= (λ (ws : List Tok). Some ((v.0, b.0), ws)))))) (operand_complete t x.0 s.0 (mark 44 ∷ (s.1 ++ (mark 93 ∷ rest))) s.2)
    ∙ ap (λ o. o >>= (λ (b : List ℕ × List Tok). after_mark 93 b.1 >>= (λ (ws : List Tok). Some ((x.0, b.0), ws)))) (local_complete x.1 s.1 (mark 93 ∷ rest) s.3)

more_arms_listed : (t : Ty) (xs : List (Val × List ℕ)) (ts : List Tok) → SpellsMoreArms t xs ts → Row (Behind (IsArm t)) xs ts
more_arms_listed t [] ts s = s
more_arms_listed t (x ∷ xs) ts s = (mark 44 ∷ s.0, s.1, (s.0, s.2, refl), more_arms_listed t xs s.1 s.3, s.4)

arms_listed : (t : Ty) (xs : List (Val × List ℕ)) (ts : List Tok) → SpellsArms t xs ts → Leading (IsArm t) (Behind (IsArm t)) xs ts
arms_listed t [] ts s = absurd s
arms_listed t (x ∷ xs) ts s = (s.0, s.1, s.2, more_arms_listed t xs s.1 s.3, s.4)

arms_complete : (x : Ty × List (Val × List ℕ)) (ts : List Tok) → SpellsPart arms x ts → arms_at ts ≡ Some (x, [])
arms_complete x ts s =
    let read = some_complete (IsArm x.0) (Behind (IsArm x.0)) is_ended (arm_at (is_bit x.0)) (behind_comma (arm_at (is_bit x.0))) (arm_complete x.0)
    (behind_element_end (IsArm x.0) (arm_at (is_bit x.0)) (arm_complete x.0)) x.1 s.1 [] (arms_listed x.0 x.1 s.1 s.3) refl in
    ap arms_at s.4
    ∙ ap (λ o. o >>= (λ (t : Ty × List Tok). some_arms (is_bit t.0) t.1 >>= (λ (a : List (Val × List ℕ) × List Tok). Some ((t.0, a.0), a.1)))) (type_complete x.0 s.0 s.1 s.2)
    ∙ ap (λ us. some_arms (is_bit x.0) us >>= (λ (a : List (Val × List ℕ) × List Tok). Some ((x.0, a.0), a.1))) (sym (append-nil s.1))
    ∙ ap (λ o. o >>= (λ (a : List (Val × List ℕ) × List Tok). Some ((x.0, a.0), a.1))) read

-- ---- the indices of an address

offset_complete : IsComplete IsOffset offset_at
offset_complete x front rest s =
    ap (λ us. offset_at (us ++ rest)) s.4
    ∙ ap (λ o. o >>= (λ (v : (ℕ × Val) × List Tok). Some ((integer v.0.0, v.0.1), v.1))) (width_value_complete (s.0, x.1) s.1 rest s.3)
    ∙ ap (λ t. Some ((t, x.1), rest)) (sym s.2)

nothing_there : (t : Tok) (ts : List Tok) → [] ≡ t ∷ ts → ⊥
nothing_there t ts e = cc

offset_element : IsElement IsOffset is_ended offset_at
offset_element = record {
  complete = offset_complete;
  goes_on = λ x front rest s. ap (λ us. is_ended (us ++ rest)) s.4;
  fills = λ x s. nothing_there (mark 44) s.1 s.4;
}

list_of : Indices → List (Ty × Val)
list_of no_indices = []
list_of (index_and t v is) = (t, v) ∷ list_of is

of_list : (is : Indices) → indices_from (list_of is) ≡ is
unfolding list_of
of_list no_indices = refl
of_list (index_and t v is) = ap (index_and t v) (of_list is)

offsets_listed : (is : Indices) (ts : List Tok) → SpellsOffsets is ts → Row IsOffset (list_of is) ts
unfolding list_of
offsets_listed no_indices ts s = s
offsets_listed (index_and (integer w) v is) ts s = (mark 44 ∷ s.0, s.1, (w, s.0, refl, s.2, refl), offsets_listed is s.1 s.3, s.4)
offsets_listed (index_and nothing v is) ts s = absurd s
offsets_listed (index_and pointer v is) ts s = absurd s
offsets_listed (index_and (array n t) v is) ts s = absurd s
offsets_listed (index_and (structure us) v is) ts s = absurd s
offsets_listed (index_and (packed us) v is) ts s = absurd s
offsets_listed (index_and (named x) v is) ts s = absurd s
offsets_listed (index_and opaque v is) ts s = absurd s

leading_of : (is : List (Ty × Val)) (ts : List Tok) → HasIndices (indices_from is) → Row IsOffset is ts → Leading IsOffset IsOffset is ts
leading_of [] ts has s = absurd has
leading_of (i ∷ is) ts has s = s

offsets_complete : (x : Indices) (ts : List Tok) → SpellsPart offsets x ts → offsets_at ts ≡ Some (x, [])
offsets_complete x ts s =
    let led = leading_of (list_of x) ts (subst HasIndices (sym (of_list x)) s.1) (offsets_listed x ts s.0) in
    ap offsets_at (sym (append-nil ts))
    ∙ ap (λ o. o >>= (λ (i : List (Ty × Val) × List Tok). Some (indices_from i.0, i.1))) (some_complete IsOffset IsOffset is_ended offset_at offset_at offset_complete offset_element (list_of x) ts [] led refl)
    ∙ ap (λ is. Some (is, [])) (of_list x)

-- ---- the arguments of a call

more_arguments_listed : (xs : List (Ty × Val)) (ts : List Tok) → SpellsMoreArguments xs ts → Row (Behind IsTyped) xs ts
more_arguments_listed [] ts s = s
more_arguments_listed (x ∷ xs) ts s = (mark 44 ∷ s.0, s.1, (s.0, s.2, refl), more_arguments_listed xs s.1 s.3, s.4)

arguments_listed : (xs : List (Ty × Val)) (ts : List Tok) → SpellsArguments xs ts → Parted IsTyped xs ts
arguments_listed [] ts s = s
arguments_listed (x ∷ xs) ts s = (s.0, s.1, s.2, more_arguments_listed xs s.1 s.3, s.4)

-- no argument begins with a closing mark
no_close : (t : Ty) (front rest : List Tok) → SpellsType t front → after_mark 41 (front ++ rest) ≡ None
no_close nothing front rest s = absurd s.0
no_close (integer w) front rest s = ap (λ us. after_mark 41 (us ++ rest)) s.0.2
no_close pointer front rest s = ap (λ us. after_mark 41 (us ++ rest)) s.0
no_close (array n t) front rest s = ap (λ us. after_mark 41 (us ++ rest)) s.0.4
no_close (structure ts) front rest s = ap (λ us. after_mark 41 (us ++ rest)) s.0.2
no_close (packed ts) front rest s = ap (λ us. after_mark 41 (us ++ rest)) s.0.2
no_close (named name) front rest s = ap (λ us. after_mark 41 (us ++ rest)) s.0.2
no_close opaque front rest s = absurd s.0

typed_no_close : (x : Ty × Val) (front rest : List Tok) → IsTyped x front → after_mark 41 (front ++ rest) ≡ None
typed_no_close x front rest s = ap (λ us. after_mark 41 (us ++ rest)) s.4 ∙ ap (after_mark 41) (append_assoc s.0 s.1 rest) ∙ no_close x.0 s.0 (s.1 ++ rest) s.2

arguments_complete : IsComplete (SpellsPart arguments) arguments_at
arguments_complete x front rest s =
    ap (λ us. arguments_at (us ++ rest)) s.2
    ∙ separated_complete IsTyped typed_at 41 refl refl typed_no_close typed_complete x (s.0 ++ mark 41 ∷ []) rest (s.0, arguments_listed x s.0 s.1, refl)

-- ---- the cases of a switch

abbrev case_pair : Bool → ℤ → List ℕ → List Tok → Option ((ℤ × List ℕ) × List Tok)
case_pair b n l ts = if b then Some ((n, l), ts) else None

case_complete : (w : ℕ) → IsComplete (IsCase w) (case_at w)
case_complete w x front rest s =
    let shape : (s.0 ++ s.1 ++ mark 44 ∷ s.2) ++ rest ≡ s.0 ++ (s.1 ++ (mark 44 ∷ (s.2 ++ rest))) =
    append_assoc (s.0 ++ s.1) (mark 44 ∷ s.2) rest ∙ append_assoc s.0 s.1 (mark 44 ∷ (s.2 ++ rest)) in
    ap (λ us. case_at w (us ++ rest)) s.6
    ∙ ap (case_at w) shape
    ∙ ap (λ o. o >>= (λ (v : ℕ × List Tok). number_at v.1 >>= (λ (n : ℤ × List Tok). after_mark 44 n.1 >>= (λ (us : List Tok). label_at us >>= (λ (l : List ℕ × List Tok). case_pair (v.0 == w) n.0 l.0 l.1))))) (width_complete w s.0 (s.1 ++ (mark 44 ∷ (s.2 ++ rest))) (narrow w s.0 s.3))
    ∙ ap (λ o. o >>= (λ (n : ℤ × List Tok). after_mark 44 n.1 >>= (λ (us : List Tok). label_at us >>= (λ (l : List ℕ × List Tok). case_pair (w == w) n.0 l.0 l.1)))) (number_complete x.0 s.1 (mark 44 ∷ (s.2 ++ rest)) s.4)
    ∙ ap (λ o. o >>= (λ (l : List ℕ × List Tok). case_pair (w == w) x.0 l.0 l.1)) (label_complete x.1 s.2 rest s.5)
    ∙ ap (λ b. case_pair b x.0 x.1 rest) (eq-eqb w w refl)

case_element : (w : ℕ) → IsElement (IsCase w) (is_closed 93) (case_at w)
case_element w = record {
  complete = case_complete w;
  goes_on = λ x front rest s. ap (λ us. is_closed 93 (us ++ rest)) (s.6 ∙ ap (λ us. us ++ s.1 ++ mark 44 ∷ s.2) s.3.0.2);
  fills = λ x s. nothing_there (word s.3.0.0) (s.1 ++ mark 44 ∷ s.2) (s.6 ∙ ap (λ us. us ++ s.1 ++ mark 44 ∷ s.2) s.3.0.2);
}

cases_listed : (w : ℕ) (xs : List (ℤ × List ℕ)) (ts : List Tok) → SpellsCases w xs ts → Row (IsCase w) xs ts
cases_listed w [] ts s = s
cases_listed w (x ∷ xs) ts s = (
  s.0 ++ s.1 ++ mark 44 ∷ s.2,
  s.3,
  (s.0, s.1, s.2, s.4, s.5, s.6, refl),
  cases_listed w xs s.3 s.7,
  s.8 ∙ sym (append_assoc (s.0 ++ s.1) (mark 44 ∷ s.2) s.3),
)

cases_complete : (w : ℕ) (xs : List (ℤ × List ℕ)) (front rest : List Tok) → SpellsCases w xs front → cases_at w (front ++ mark 93 ∷ rest) ≡ Some (xs, mark 93 ∷ rest)
cases_complete w [] front rest s = ap (λ us. cases_at w (us ++ mark 93 ∷ rest)) s
cases_complete w (x ∷ xs) front rest s =
    let row = cases_listed w (x ∷ xs) front s in
    let goes : is_closed 93 (front ++ mark 93 ∷ rest) ≡ false = ap (λ us. is_closed 93 (us ++ mark 93 ∷ rest)) (s.8 ∙ ap (λ us. us ++ s.1 ++ mark 44 ∷ (s.2 ++ s.3)) s.4.0.2) in
    ap (λ b. if b then Some (tok_pair [] (front ++ mark 93 ∷ rest)) else some_cases w (front ++ mark 93 ∷ rest)) goes
    ∙ some_complete (IsCase w) (IsCase w) (is_closed 93) (case_at w) (case_at w) (case_complete w) (case_element w) (x ∷ xs) front (mark 93 ∷ rest) row refl

choice_head_complete : IsComplete IsChoiceHead choice_head
choice_head_complete x front rest s =
    ap (λ us. choice_head (us ++ rest)) s.4
    ∙ ap choice_head (spread 44 s.0 (s.1 ++ mark 91 ∷ []) rest ∙ ap (λ us. s.0 ++ (mark 44 ∷ us)) (append_assoc s.1 (mark 91 ∷ []) rest))
    ∙ ap (λ o. o >>= (λ (v : (ℕ × Val) × List Tok). after_mark 44 v.1 >>= (λ (us : List Tok). label_at us >>= (λ (l : List ℕ × List Tok). after_mark 91 l.1 >>= (λ (vs : List Tok). Some ((v.0.0, v.0.1, l.0), vs)))))) (width_value_complete (x.0, x.1) s.0 (mark 44 ∷ (s.1 ++ (mark 91 ∷ rest))) s.2)
    ∙ ap (λ o. o >>= (λ (l : List ℕ × List Tok). after_mark 91 l.1 >>= (λ (vs : List Tok). Some ((x.0, x.1, l.0), vs)))) (label_complete x.2 s.1 (mark 91 ∷ rest) s.3)

choices_spread : (on default inner rest : List Tok)
    → (on ++ mark 44 ∷ (default ++ mark 91 ∷ (inner ++ mark 93 ∷ []))) ++ rest ≡ (on ++ mark 44 ∷ (default ++ mark 91 ∷ [])) ++ (inner ++ mark 93 ∷ rest)
choices_spread on default inner rest =
    let back = inner ++ mark 93 ∷ [] in
    append_assoc on (mark 44 ∷ (default ++ mark 91 ∷ back)) rest
    ∙ ap (λ us. on ++ (mark 44 ∷ us)) (append_assoc default (mark 91 ∷ back) rest ∙ ap (λ us. default ++ (mark 91 ∷ us)) (append_assoc inner (mark 93 ∷ []) rest))
    ∙ sym (append_assoc on (mark 44 ∷ (default ++ mark 91 ∷ [])) (inner ++ mark 93 ∷ rest) ∙ ap (λ us. on ++ (mark 44 ∷ us)) (append_assoc default (mark 91 ∷ []) (inner ++ mark 93 ∷ rest)))

choices_complete : IsComplete (SpellsPart choices) choices_at
choices_complete x front rest s =
    ap (λ us. choices_at (us ++ rest)) s.6
    ∙ ap choices_at (choices_spread s.0 s.1 s.2 rest)
    ∙ ap (λ o. o >>= (λ (c : (ℕ × Val × List ℕ) × List Tok). cases_at c.0.0 c.1 >>= (λ (k : List (ℤ × List ℕ) × List Tok). after_mark 93 k.1 >>= (λ (us : List Tok). Some ((c.0.0, c.0.1, c.0.2, k.0), us))))) (choice_head_complete (x.0, x.1, x.2) (s.0 ++ mark 44 ∷ (s.1 ++ mark 91 ∷ [])) (s.2 ++ mark 93 ∷ rest) (s.0, s.1, s.3, s.4, refl))
    ∙ ap (λ o. o >>= (λ (k : List (ℤ × List ℕ) × List Tok). after_mark 93 k.1 >>= (λ (us : List Tok). Some ((x.0, x.1, x.2, k.0), us)))) (cases_complete x.0 x.3 s.2 rest s.5)

-- ---- every part

-- a part that is read whatever stands behind it
abbrev pub is_plain : Part → Bool
is_plain (may text) = false
is_plain alignment = false
is_plain access = false
is_plain arms = false
is_plain offsets = false
is_plain _ = true

abbrev unit_pair : List Tok → Unit {0} × List Tok
unit_pair ts = (tt, ts)

abbrev unit_read : Bool → List Tok → Option (Unit {0} × List Tok)
unit_read b rest = (if b then Some rest else None) >>= (λ (us : List Tok). Some (unit_pair us))

word_there : (text : List ℕ) → bytes_eq text text ≡ true
word_there text = (bytes_eq-Decides text text).1 refl

pub part_complete : (p : Part) → is_plain p ≡ true → (x : Got p) (front rest : List Tok) → SpellsPart p x front → read_part p (front ++ rest) ≡ Some (x, rest)
part_complete (sign byte) plain x front rest s = ap (λ us. read_part (sign byte) (us ++ rest)) s ∙ ap (λ b. unit_read b rest) (eq-eqb byte byte refl)
part_complete (key text) plain x front rest s = ap (λ us. read_part (key text) (us ++ rest)) s ∙ ap (λ b. unit_read b rest) (word_there text)
part_complete (may text) plain x front rest s = cc
part_complete width plain x front rest s = width_complete x front rest (narrow x front s)
part_complete over plain x front rest s = type_complete x front rest s
part_complete returned plain x front rest s = result_complete x front rest s
part_complete callee plain x front rest s = global_complete x front rest s
part_complete register plain x front rest s = register_complete x front rest s
part_complete predicate plain x front rest s = predicate_complete x front rest s
part_complete target plain x front rest s = label_complete x front rest s
part_complete part plain x front rest s = count_complete x front rest s
part_complete bit plain x front rest s = bit_complete x front rest s
part_complete place plain x front rest s = place_complete x front rest s
part_complete width_value plain x front rest s = width_value_complete x front rest s
part_complete width_pair plain x front rest s = width_pair_complete x front rest s
part_complete typed plain x front rest s = typed_complete x front rest s
part_complete typed_pair plain x front rest s = typed_pair_complete x front rest s
part_complete twice plain x front rest s = twice_complete x front rest s
part_complete alignment plain x front rest s = cc
part_complete access plain x front rest s = cc
part_complete arms plain x front rest s = cc
part_complete offsets plain x front rest s = cc
part_complete arguments plain x front rest s = arguments_complete x front rest s
part_complete choices plain x front rest s = choices_complete x front rest s

-- a part that goes on to the end
pub last_complete : (x : ℕ) (ts : List Tok) → SpellsAlign x ts → align_at ts ≡ Some (x, [])
last_complete x ts s = ap align_at (sym (append-nil ts)) ∙ align_complete x ts [] refl s

pub access_last : (x : ℕ × Option (List ℕ)) (ts : List Tok) → SpellsPart access x ts → access_at ts ≡ Some (x, [])
access_last x ts s = access_complete x ts s

pub arms_last : (x : Ty × List (Val × List ℕ)) (ts : List Tok) → SpellsPart arms x ts → arms_at ts ≡ Some (x, [])
arms_last x ts s = arms_complete x ts s

pub offsets_last : (x : Indices) (ts : List Tok) → SpellsPart offsets x ts → offsets_at ts ≡ Some (x, [])
offsets_last x ts s = offsets_complete x ts s
