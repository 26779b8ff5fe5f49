-- What is noted of an item is noted of the types that it spells: some is bad, some is large.
use Rattle.std.proofs.Common.{◌≡◌, ℕ, Bool, true, false, ◌||◌, Some, None, List, [], ◌∷◌, ◌++◌, map, refl, sym, ◌∙◌, ap}
use Rattle.std.specs.Prelude.{flat_map}
use Rattle.std.specs.List.{list_any}
use Rattle.ir_ast.specs.Plain.{Ty, integer, pointer, Val, local, global, number, null, poison, address, Form, form, Indices, no_indices, index_and, Ini, Inis, zero_init, number_init, truth_init, bytes_init, array_init, structure_init, packed_init, pointer_init, no_inits, init_and}
use Rattle.ir_ast.specs.Program.{Act, binary, compare, select, convert, freeze, phi, slot, load, store, offset, call, extract, goto, branch, switch, give, unreachable}
use Rattle.ir_type.specs.Names.{types_in, form_types_in, index_types_in, init_types_in, all_init_types_in}
use Rattle.ir_type.specs.Rows.{operands, source, own_types}
use Rattle.ir_type.specs.Items.{act_types}
use Rattle.ir_layout.specs.declared.fact.Fact.{Fact}
use Rattle.ir_layout.specs.declared.marks.Marks.{Marks}
use Rattle.ir_layout.specs.Noting.{note, note_all, note_value, note_form, note_indices, note_init, note_inits, note_values, note_arms, note_typed, note_act}
use Rattle.ir_layout.proofs.Anyhow.{any_append, any_flat, any_map, any_shared}

-- P is a mark, and q the test of a type that sets it
module _ (look : List ℕ → Fact) (P : Marks → Bool) (q : Ty → Bool) (step : (marks : Marks) (t : Ty) → P (note look marks t) ≡ (P marks || q t)) where
  or_assoc : (a b c : Bool) → ((a || b) || c) ≡ (a || (b || c))
  or_assoc true b c = refl
  or_assoc false b c = refl

  or_none : (a : Bool) → a ≡ (a || false)
  or_none true = refl
  or_none false = refl

  pub all_noted : (marks : Marks) (ts : List Ty) → P (note_all look marks ts) ≡ (P marks || list_any q ts)
  all_noted marks [] = or_none (P marks)
  all_noted marks (t ∷ ts) = all_noted (note look marks t) ts ∙ ap (λ b. b || list_any q ts) (step marks t) ∙ or_assoc (P marks) (q t) (list_any q ts)

  three : (p a b c : Bool) (x y z w : Bool) → x ≡ (p || a) → y ≡ (x || b) → z ≡ (y || c) → w ≡ (b || c) → z ≡ (p || (a || w))
  three true a b c x y z w e f g h = g ∙ ap (λ v. v || c) (f ∙ ap (λ v. v || b) e)
  three false true b c x y z w e f g h = g ∙ ap (λ v. v || c) (f ∙ ap (λ v. v || b) e)
  three false false b c x y z w e f g h = g ∙ ap (λ v. v || c) (f ∙ ap (λ v. v || b) e) ∙ sym h

  mutual
    pub value_noted : (marks : Marks) (v : Val) → P (note_value look marks v) ≡ (P marks || list_any q (types_in v))
    value_noted marks (local x) = or_none (P marks)
    value_noted marks (global x) = or_none (P marks)
    value_noted marks (number n) = or_none (P marks)
    value_noted marks null = or_none (P marks)
    value_noted marks poison = or_none (P marks)
    value_noted marks (address f) = form_noted marks f

    pub form_noted : (marks : Marks) (f : Form) → P (note_form look marks f) ≡ (P marks || list_any q (form_types_in f))
    form_noted marks (form flags over base indices) =
        three (P marks) (q over) (list_any q (types_in base)) (list_any q (index_types_in indices))
        (P (note look marks over)) (P (note_value look (note look marks over) base)) (P (note_indices look (note_value look (note look marks over) base) indices))
        (list_any q (types_in base ++ index_types_in indices))
        (step marks over) (value_noted (note look marks over) base) (indices_noted (note_value look (note look marks over) base) indices)
        (any_append q (types_in base) (index_types_in indices))

    indices_noted : (marks : Marks) (is : Indices) → P (note_indices look marks is) ≡ (P marks || list_any q (index_types_in is))
    indices_noted marks no_indices = or_none (P marks)
    indices_noted marks (index_and t v is) =
        three (P marks) (q t) (list_any q (types_in v)) (list_any q (index_types_in is))
        (P (note look marks t)) (P (note_value look (note look marks t) v)) (P (note_indices look (note_value look (note look marks t) v) is))
        (list_any q (types_in v ++ index_types_in is))
        (step marks t) (value_noted (note look marks t) v) (indices_noted (note_value look (note look marks t) v) is)
        (any_append q (types_in v) (index_types_in is))

  mutual
    pub init_noted : (marks : Marks) (i : Ini) → P (note_init look marks i) ≡ (P marks || list_any q (init_types_in i))
    init_noted marks zero_init = or_none (P marks)
    init_noted marks (number_init n) = or_none (P marks)
    init_noted marks (truth_init b) = or_none (P marks)
    init_noted marks (bytes_init bs) = or_none (P marks)
    init_noted marks (array_init is) = inits_noted marks is
    init_noted marks (structure_init is) = inits_noted marks is
    init_noted marks (packed_init is) = inits_noted marks is
    init_noted marks pointer_init = or_none (P marks)

    inits_noted : (marks : Marks) (is : Inis) → P (note_inits look marks is) ≡ (P marks || list_any q (all_init_types_in is))
    inits_noted marks no_inits = or_none (P marks)
    inits_noted marks (init_and t i is) =
        three (P marks) (q t) (list_any q (init_types_in i)) (list_any q (all_init_types_in is))
        (P (note look marks t)) (P (note_init look (note look marks t) i)) (P (note_inits look (note_init look (note look marks t) i) is))
        (list_any q (init_types_in i ++ all_init_types_in is))
        (step marks t) (init_noted (note look marks t) i) (inits_noted (note_init look (note look marks t) i) is)
        (any_append q (init_types_in i) (all_init_types_in is))

  -- the tests of an operand
  abbrev tests : Val → Bool
  tests v = list_any q (types_in v)

  values_noted : (marks : Marks) (vs : List (Val × List ℕ)) → P (note_values look marks vs) ≡ (P marks || list_any (λ v. list_any q (types_in v.0)) vs)
  values_noted marks [] = or_none (P marks)
  values_noted marks (v ∷ vs) =
      values_noted (note_value look marks v.0) vs ∙ ap (λ b. b || list_any (λ v. list_any q (types_in v.0)) vs) (value_noted marks v.0)
      ∙ or_assoc (P marks) (list_any q (types_in v.0)) (list_any (λ v. list_any q (types_in v.0)) vs)

  typed_noted : (marks : Marks) (ps : List (Ty × Val)) → P (note_typed look marks ps) ≡ (P marks || list_any (λ p. q p.0 || list_any q (types_in p.1)) ps)
  typed_noted marks [] = or_none (P marks)
  typed_noted marks (p ∷ ps) =
      typed_noted (note_value look (note look marks p.0) p.1) ps
      ∙ ap (λ b. b || list_any (λ p. q p.0 || list_any q (types_in p.1)) ps)
      (value_noted (note look marks p.0) p.1 ∙ ap (λ b. b || list_any q (types_in p.1)) (step marks p.0) ∙ or_assoc (P marks) (q p.0) (list_any q (types_in p.1)))
      ∙ or_assoc (P marks) (q p.0 || list_any q (types_in p.1)) (list_any (λ p. q p.0 || list_any q (types_in p.1)) ps)

  -- the types of an instruction, row by row
  act_is : (act : Act)
      → list_any q (act_types act) ≡ ((list_any q (own_types act) || list_any (λ p. q p.0 || list_any q (types_in p.1)) (operands act)) || list_any (λ v. list_any q (types_in v)) (source act))
  act_is act =
      any_append q (own_types act ++ flat_map (λ p. p.0 ∷ types_in p.1) (operands act)) (flat_map types_in (source act))
      ∙ ap (λ b. b || list_any q (flat_map types_in (source act))) (any_append q (own_types act) (flat_map (λ p. p.0 ∷ types_in p.1) (operands act)))
      ∙ ap (λ b. (list_any q (own_types act) || b) || list_any q (flat_map types_in (source act))) (any_flat q (λ p. p.0 ∷ types_in p.1) (operands act))
      ∙ ap (λ b. (list_any q (own_types act) || list_any (λ p. q p.0 || list_any q (types_in p.1)) (operands act)) || b) (any_flat q types_in (source act))

  two_noted : (marks : Marks) (a b : Val) → P (note_value look (note_value look marks a) b) ≡ ((P marks || list_any q (types_in a)) || list_any q (types_in b))
  two_noted marks a b = value_noted (note_value look marks a) b ∙ ap (λ x. x || list_any q (types_in b)) (value_noted marks a)

  typed_value : (marks : Marks) (t : Ty) (a : Val) → P (note_value look (note look marks t) a) ≡ ((P marks || q t) || list_any q (types_in a))
  typed_value marks t a = value_noted (note look marks t) a ∙ ap (λ x. x || list_any q (types_in a)) (step marks t)

  typed_two : (marks : Marks) (t : Ty) (a b : Val) → P (note_value look (note_value look (note look marks t) a) b) ≡ (((P marks || q t) || list_any q (types_in a)) || list_any q (types_in b))
  typed_two marks t a b = two_noted (note look marks t) a b ∙ ap (λ x. (x || list_any q (types_in a)) || list_any q (types_in b)) (step marks t)

  module _ (no_integer : (w : ℕ) → q (integer w) ≡ false) (no_pointer : q pointer ≡ false) where
    binary_row : (p i a b : Bool) → i ≡ false → ((p || a) || b) ≡ (p || ((false || ((i || a) || ((i || b) || false))) || false))
    binary_row true i a b e = refl
    binary_row false i true b e = ap (λ j. (false || ((j || true) || ((j || b) || false))) || false) (sym e)
    binary_row false i false true e = ap (λ j. (false || ((j || false) || ((j || true) || false))) || false) (sym e)
    binary_row false i false false e = ap (λ j. (false || ((j || false) || ((j || false) || false))) || false) (sym e)

    compare_row : (p o a b : Bool) → (((p || o) || a) || b) ≡ (p || ((false || ((o || a) || ((o || b) || false))) || false))
    compare_row true o a b = refl
    compare_row false true a b = refl
    compare_row false false true b = refl
    compare_row false false false true = refl
    compare_row false false false false = refl

    select_row : (p i c o a b : Bool) → i ≡ false → ((((p || c) || o) || a) || b) ≡ (p || ((false || ((i || c) || ((o || a) || ((o || b) || false)))) || false))
    select_row p i c o a b e = plain p c o a b ∙ ap (λ j. p || ((false || ((j || c) || ((o || a) || ((o || b) || false)))) || false)) (sym e)
      where
        plain : (p c o a b : Bool) → ((((p || c) || o) || a) || b) ≡ (p || ((false || ((false || c) || ((o || a) || ((o || b) || false)))) || false))
        plain true c o a b = refl
        plain false true o a b = refl
        plain false false true a b = refl
        plain false false false true b = refl
        plain false false false false true = refl
        plain false false false false false = refl

    one_row : (p i a : Bool) → i ≡ false → (p || a) ≡ (p || ((false || ((i || a) || false)) || false))
    one_row p i a e = plain p a ∙ ap (λ j. p || ((false || ((j || a) || false)) || false)) (sym e)
      where
        plain : (p a : Bool) → (p || a) ≡ (p || ((false || ((false || a) || false)) || false))
        plain true a = refl
        plain false true = refl
        plain false false = refl

    typed_row : (p o a : Bool) → ((p || o) || a) ≡ (p || ((false || ((o || a) || false)) || false))
    typed_row true o a = refl
    typed_row false true a = refl
    typed_row false false true = refl
    typed_row false false false = refl

    own_row : (p o : Bool) → (p || o) ≡ (p || (((o || false) || false) || false))
    own_row true o = refl
    own_row false true = refl
    own_row false false = refl

    load_row : (p o a : Bool) → ((p || o) || a) ≡ (p || (((o || false) || false) || (a || false)))
    load_row true o a = refl
    load_row false true a = refl
    load_row false false true = refl
    load_row false false false = refl

    store_row : (p o v t : Bool) → (((p || o) || v) || t) ≡ (p || ((false || ((o || v) || false)) || (t || false)))
    store_row true o v t = refl
    store_row false true v t = refl
    store_row false false true t = refl
    store_row false false false true = refl
    store_row false false false false = refl

    call_row : (p o r : Bool) → ((p || o) || r) ≡ (p || (((o || false) || r) || false))
    call_row true o r = refl
    call_row false true r = refl
    call_row false false true = refl
    call_row false false false = refl

    extract_row : (p a : Bool) → (p || a) ≡ (p || ((false || false) || (a || false)))
    extract_row true a = refl
    extract_row false true = refl
    extract_row false false = refl

    give_row : (p o a : Bool) → ((p || o) || a) ≡ (p || (((o || false) || ((o || a) || false)) || false))
    give_row true o a = refl
    give_row false true a = refl
    give_row false false true = refl
    give_row false false false = refl

    phi_row : (p o r : Bool) → ((p || o) || r) ≡ (p || ((false || (o || r)) || false))
    phi_row true o r = refl
    phi_row false true r = refl
    phi_row false false true = refl
    phi_row false false false = refl

    arms_noted : (marks : Marks) (over : Ty) (arms : List (Val × List ℕ))
        → P (note_arms look marks over arms) ≡ (P marks || ((false || list_any {X = Ty × Val} (λ p. q p.0 || list_any q (types_in p.1)) (map (λ arm. (over, arm.0)) arms)) || false))
    arms_noted marks over [] = or_none (P marks)
    arms_noted marks over (v ∷ vs) =
        values_noted (note look marks over) (v ∷ vs)
        ∙ ap (λ b. b || list_any (λ v. list_any q (types_in v.0)) (v ∷ vs)) (step marks over)
        ∙ phi_row (P marks) (q over) (list_any (λ v. list_any q (types_in v.0)) (v ∷ vs))
        ∙ ap (λ b. P marks || ((false || b) || false))
        (sym (any_map {Y = Ty × Val} (λ p. q p.0 || list_any q (types_in p.1)) (λ arm. (over, arm.0)) (v ∷ vs) ∙ any_shared (q over) (λ w. list_any q (types_in w.0)) v vs))

    rows_noted : (marks : Marks) (act : Act)
        → P (note_act look marks act) ≡ (P marks || ((list_any q (own_types act) || list_any (λ p. q p.0 || list_any q (types_in p.1)) (operands act)) || list_any (λ v. list_any q (types_in v)) (source act)))
    rows_noted marks (binary kind flags w a b) = two_noted marks a b ∙ binary_row (P marks) (q (integer w)) (tests a) (tests b) (no_integer w)
    rows_noted marks (compare samesign predicate over a b) = typed_two marks over a b ∙ compare_row (P marks) (q over) (tests a) (tests b)
    rows_noted marks (select condition over a b) =
        typed_two (note_value look marks condition) over a b
        ∙ ap (λ x. ((x || q over) || list_any q (types_in a)) || list_any q (types_in b)) (value_noted marks condition)
        ∙ select_row (P marks) (q (integer 1)) (tests condition) (q over) (tests a) (tests b) (no_integer 1)
    rows_noted marks (convert kind flags from to a) = value_noted marks a ∙ one_row (P marks) (q (integer from)) (tests a) (no_integer from)
    rows_noted marks (freeze over a) = typed_value marks over a ∙ typed_row (P marks) (q over) (tests a)
    rows_noted marks (phi over arms) = arms_noted marks over arms
    rows_noted marks (slot over align) = step marks over ∙ own_row (P marks) (q over)
    rows_noted marks (load over target align range) = typed_value marks over target ∙ load_row (P marks) (q over) (tests target)
    rows_noted marks (store over value target align) = typed_two marks over value target ∙ store_row (P marks) (q over) (tests value) (tests target)
    rows_noted marks (offset f) = form_noted marks f ∙ one_row (P marks) (q pointer) (list_any q (form_types_in f)) no_pointer
    rows_noted marks (call result callee arguments) =
        typed_noted (note look marks result) arguments
        ∙ ap (λ b. b || list_any (λ p. q p.0 || list_any q (types_in p.1)) arguments) (step marks result)
        ∙ call_row (P marks) (q result) (list_any (λ p. q p.0 || list_any q (types_in p.1)) arguments)
    rows_noted marks (extract w from part) = value_noted marks from ∙ extract_row (P marks) (tests from)
    rows_noted marks (goto target) = or_none (P marks)
    rows_noted marks (branch condition taken other) = value_noted marks condition ∙ one_row (P marks) (q (integer 1)) (tests condition) (no_integer 1)
    rows_noted marks (switch w on default cases) = value_noted marks on ∙ one_row (P marks) (q (integer w)) (tests on) (no_integer w)
    rows_noted marks (give over None) = step marks over ∙ own_row (P marks) (q over)
    rows_noted marks (give over (Some value)) = typed_value marks over value ∙ give_row (P marks) (q over) (tests value)
    rows_noted marks unreachable = or_none (P marks)

    pub act_noted : (marks : Marks) (act : Act) → P (note_act look marks act) ≡ (P marks || list_any q (act_types act))
    act_noted marks act = rows_noted marks act ∙ ap (λ b. P marks || b) (sym (act_is act))
