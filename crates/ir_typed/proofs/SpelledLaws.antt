-- What the code tells of a module's functions is told of all their instructions.
use Rattle.std.proofs.Common.{◌≡◌, ℕ, zero, suc, ◌+◌, Bool, true, false, ◌&&◌, Option, Some, None, option_map, List, [], ◌∷◌, drop, MatchBool, refl, sym, ◌∙◌, ap, subst, arith}
use Rattle.std.specs.Prelude.{Contains, flat_map, option_to_list, slice_get, bytes_eq}
use Rattle.std.specs.List.{list_all, IsDistinct}
use Rattle.std.proofs.lemmas.List.{append-nil}
use Rattle.std.proofs.lemmas.List.Elements.{Contains-append_right}
use Rattle.ir_ast.specs.Program.{InstrView, BlockView, FunctionView}
use Rattle.ir_ast.specs.Table.{names_of}
use Rattle.ir_ast.specs.ProgramView.{view_op, view_instr, view_block, view_blocks, view_function, view_module}
use Rattle.ir_ast.specs.declared.instr.Instr.{Instr}
use Rattle.ir_ast.specs.declared.instr.Block.{Block}
use Rattle.ir_ast.specs.declared.instr.BlockList.{BlockList}
use Rattle.ir_ast.specs.declared.instr.Function.{Function}
use Rattle.ir_ast.specs.declared.module.Module.{Module}
use Rattle.ir_type.specs.Items.{IsFunction}
use Rattle.ir_type.proofs.Places.{some_same}
use Rattle.ir_typing.specs.Registers.{blocks_of}
use Rattle.ir_check.proofs.Undefined.{Contains-map, of_map}
use Rattle.ir_check.specs.Checked.{IsChecked}
use Rattle.ir_typed.specs.Endings.{IsRunnable}
use Rattle.ir_typed.specs.Spelled.{is_spelled, AreSpelled}
use Rattle.ir_typed.specs.SpelledCode.{are_instrs_spelled, are_blocks_spelled, is_body_spelled, are_functions_spelled}
use Rattle.ir_typed.proofs.Using.{each_true}

-- ---- a turn of the loop

turn : (fs : List (List ℕ × Function)) (k : ℕ) (f : Function) → option_map (λ (e : List ℕ × Function). e.1) (slice_get fs k) ≡ Some f
    → are_functions_spelled (drop k fs) ≡ (is_body_spelled f.body && are_functions_spelled (drop (suc k) fs))
turn [] k f e = absurd cc
turn (x ∷ fs) zero f e = ap (λ (f : Function). is_body_spelled f.body && are_functions_spelled fs) (some_same x.1 f e)
turn (x ∷ fs) (suc k) f e = turn fs k f e

next : (fs : List (List ℕ × Function)) (k : ℕ) (f : Function) → option_map (λ (e : List ℕ × Function). e.1) (slice_get fs k) ≡ Some f
    → are_functions_spelled (drop k fs) ≡ (is_body_spelled f.body && are_functions_spelled (drop (k + 1) fs))
next fs k f e =
    let n : suc k ≡ k + 1 = omega arith in
    turn fs k f e ∙ ap (λ n. is_body_spelled f.body && are_functions_spelled (drop n fs)) n

pub one_on : (fs : List (List ℕ × Function)) (k : ℕ) (f : Function) → option_map (λ (e : List ℕ × Function). e.1) (slice_get fs k) ≡ Some f → is_body_spelled f.body ≡ true
    → are_functions_spelled (drop (k + 1) fs) ≡ are_functions_spelled (drop k fs)
one_on fs k f e h = sym (next fs k f e ∙ ap (λ b. b && are_functions_spelled (drop (k + 1) fs)) h)

pub one_not : (fs : List (List ℕ × Function)) (k : ℕ) (f : Function) → option_map (λ (e : List ℕ × Function). e.1) (slice_get fs k) ≡ Some f → is_body_spelled f.body ≡ false
    → are_functions_spelled (drop k fs) ≡ false
one_not fs k f e h = next fs k f e ∙ ap (λ b. b && are_functions_spelled (drop (k + 1) fs)) h

-- ---- all instructions

all_true : {A : Type 0} (test : A → Bool) (xs : List A) → ((x : A) → Contains xs x → test x ≡ true) → list_all test xs ≡ true
all_true test [] each = refl
all_true test (x ∷ xs) each =
    ap (λ b. b && list_all test xs) (each x (0, omega arith, refl)) ∙ all_true test xs (λ y c. each y (Contains-append_right (x ∷ []) xs y c))

abbrev block_list : List (List BlockView) → List BlockView
block_list bs = flat_map (λ (bs : List BlockView). bs) bs

in_blocks : (o : Option BlockList) (b : BlockView) → Contains (block_list (option_to_list (option_map view_blocks o))) b → (l : BlockList) × (c : Block) × (o ≡ Some l) × Contains l.items.items c × (view_block c ≡ b)
in_blocks None b (k, l, e) = absurd (omega (arith, l))
in_blocks (Some l) b d =
    let r = of_map view_block l.items.items b (subst (λ bs. Contains bs b) (append-nil (view_blocks l)) d) in
    (l, r.0, refl, r.1, r.2)

of_blocks : (l : BlockList) (c : Block) → Contains l.items.items c → Contains (block_list (view_blocks l ∷ [])) (view_block c)
of_blocks l c d = subst (λ bs. Contains bs (view_block c)) (sym (append-nil (view_blocks l))) (Contains-map view_block l.items.items c d)

spelled_all : (m : Module) → are_functions_spelled m.functions ≡ true → AreSpelled (view_module m)
spelled_all m all f b i own in_body in_block =
    let see : List ℕ × Function → List ℕ × FunctionView = λ e. (e.0, view_function e.1) in
    let e = of_map see m.functions (own.0, f) own.1 in
    let second : List ℕ × FunctionView → FunctionView = λ e. e.1 in
    let same : view_function e.0.1 ≡ f = ap second e.2 in
    let block = in_blocks e.0.1.body b (subst (λ (f : FunctionView). Contains (blocks_of f) b) (sym same) in_body) in
    let instr = of_map view_instr block.1.instrs.items.items i (subst (λ (b : BlockView). Contains b.instrs i) (sym block.4) in_block) in
    let one = each_true (λ (e : List ℕ × Function). is_body_spelled e.1.body) m.functions all e.0 e.1 in
    let two : are_blocks_spelled block.0.items.items ≡ true = ap is_body_spelled (sym block.2) ∙ one in
    let three = each_true (λ (b : Block). are_instrs_spelled b.instrs.items.items) block.0.items.items two block.1 block.3 in
    let four = each_true (λ (i : Instr). is_spelled (view_op i.op)) block.1.instrs.items.items three instr.0 instr.1 in
    ap (λ (i : InstrView). is_spelled i.act) (sym instr.2) ∙ four

all_spelled : (m : Module) → AreSpelled (view_module m) → are_functions_spelled m.functions ≡ true
all_spelled m spelled = all_true (λ (e : List ℕ × Function). is_body_spelled e.1.body) m.functions (λ e c. body e c e.1.body refl)
  where
    body : (e : List ℕ × Function) → Contains m.functions e → (o : Option BlockList) → e.1.body ≡ o → is_body_spelled e.1.body ≡ true
    body e c None h = ap is_body_spelled h
    body e c (Some l) h =
        let see : List ℕ × Function → List ℕ × FunctionView = λ e. (e.0, view_function e.1) in
        let own : IsFunction (view_module m) (view_function e.1) = (e.0, Contains-map see m.functions e c) in
        ap is_body_spelled h ∙ all_true (λ (b : Block). are_instrs_spelled b.instrs.items.items) l.items.items
        (λ b d. all_true (λ (i : Instr). is_spelled (view_op i.op)) b.instrs.items.items
        (λ i g. spelled (view_function e.1) (view_block b) (view_instr i) own
        (subst (λ o. Contains (block_list (option_to_list (option_map view_blocks o))) (view_block b)) (sym h) (of_blocks l b d)) (Contains-map view_instr b.instrs.items.items i g)))

pub told : (m : Module) (b : Bool) → b ≡ are_functions_spelled m.functions → MatchBool b (AreSpelled (view_module m)) (AreSpelled (view_module m) → ⊥)
told m true e = spelled_all m (sym e)
told m false e = λ spelled. clash (e ∙ all_spelled m spelled)
  where
    clash : false ≡ true → ⊥
    clash e = cc

pub runnable : (k c n : Module) (b : Bool) → c ≡ k → n ≡ c → IsChecked (view_module k) → IsDistinct bytes_eq (names_of (view_module k).functions)
    → MatchBool b (AreSpelled (view_module n)) (AreSpelled (view_module n) → ⊥) → MatchBool b (IsRunnable (view_module k)) (IsRunnable (view_module k) → ⊥)
runnable k c n b same is checked distinct h = by b (subst (λ (m : Module). MatchBool b (AreSpelled (view_module m)) (AreSpelled (view_module m) → ⊥)) (is ∙ same) h)
  where
    by : (b : Bool) → MatchBool b (AreSpelled (view_module k)) (AreSpelled (view_module k) → ⊥) → MatchBool b (IsRunnable (view_module k)) (IsRunnable (view_module k) → ⊥)
    by true h = record { checked = checked; distinct = distinct; spelled = h }
    by false h = λ r. h r.spelled
