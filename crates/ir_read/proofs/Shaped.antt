-- The module that a text spells has the shape that layout and checks ask for: each body has a block, each block ends with its only last
-- instruction, the names of a function differ, and a function stands under its name.
use Rattle.std.proofs.Common.{◌≡◌, ℕ, Bool, true, false, not, ◌&&◌, ◌||◌, ◌⊎◌, inl, inr, if◌then◌else◌, Option, Some, None, option_to_list, Result, Ok, Err, IfOk, List, [], ◌∷◌, ◌++◌, map, flat_map, All, Contains, bytes_eq, refl, sym, ap, subst, ◌∙◌, arith}
use Rattle.std.specs.List.{list_any, IsDistinct}
use Rattle.std.specs.Cmp.Lexicographic.{nat_list_eq_equiv}
use Rattle.std.proofs.lemmas.List.{append_assoc, append-nil, flat_map_more}
use Rattle.std.proofs.lemmas.List.Elements.{All-push, Contains-push_cases}
use Rattle.std.proofs.lemmas.List.Folds.{list_any-append}
use Rattle.std.proofs.lemmas.Map.Keys.{IsDistinct-push}
use Rattle.ir_ast.specs.Program.{LineView, TypeView, GlobalView, RangeView, Act, goto, branch, switch, give, unreachable, binary, compare, select, convert, freeze, phi, slot, load, store, offset, call, extract, InstrView, BlockView, FunctionView, ModuleView}
use Rattle.ir_ast.specs.ProgramView.{view_module}
use Rattle.ir_ast.specs.declared.module.Module.{Module}
use Rattle.ir_ast.specs.declared.fault.KernelStop.{KernelStop}
use Rattle.ir_ast.specs.declared.fault.KernelReason.{KernelReason}
use Rattle.ir_ast.specs.declared.fault.KernelReason.TheVariants.{K2, K4}
use Rattle.ir_lex.specs.Lexeme.{Lexeme}
use Rattle.ir_lex.specs.Cut.{Cut, cut}
use Rattle.ir_lex.specs.Items.{Top, layout_item, type_item, global_item, define_item, declare_item, Inner, label_item, instr_item, close_item, ReadsInner}
use Rattle.ir_read.specs.Ahead.{ends, holds_close, begins_unlabelled}
use Rattle.ir_read.specs.State.{BodyState, State, at_start, is_inside}
use Rattle.ir_read.specs.Reads.{Reading, passed, ranged, top_of, inner_of, refused, Reads}
use Rattle.ir_read.specs.Steps.{Out, is_among, with_name, with_names, after_name, with_block, scope_of, begun, label_in, labelled, with_result, instr_in, instr_at, grown_body, closed_at, then_closed, then_inside, with_function, with_declared, with_global, with_new_global, layout_in, types_in, ranges_in, then_outside, then_whole, top_at, inner_at, after_top, after_inner, first_block, first_name, begun_by, with_head, is_end, grown_block, after_reading, is_symbol}
use Rattle.ir_read.specs.Spelling.{Passes, SpellsFrom, IsModuleText}
use Rattle.ir_read.proofs.Noted.{instr, spelled_is_kept}
use Rattle.ir_type.specs.Shape.{is_last, Ends, keeps_notes, sets_its_own, IsShapedBody, IsShaped}

-- ---- answers

pub ok_is : {A : Type 0} {a b : A} → ◌≡◌ {A = Out A} (Ok a) (Ok b) → a ≡ b
ok_is {A} {a} h = ap (λ o. value a o) h
  where
    value : A → Out A → A
    value a (Ok b) = b
    value a (Err reason) = a

pub no_ok : {A G : Type 0} (reason : KernelReason) (a : A) → ◌≡◌ {A = Out A} (Err reason) (Ok a) → G
no_ok reason a h = absurd cc

pub chosen : {A : Type 0} (b : Bool) (reason : KernelReason) (o : Out A) (a : A) → (if b then Err reason else o) ≡ Ok a → (b ≡ false) × (o ≡ Ok a)
chosen true reason o a h = no_ok reason a h
chosen false reason o a h = (refl, h)

-- ---- names of a scope

record Grows (names others out : List (List ℕ)) : Type 0 where
  is : out ≡ names ++ others
  distinct : IsDistinct bytes_eq out

one_name : (name : List ℕ) (names out : List (List ℕ)) → with_name name names ≡ Ok out → IsDistinct bytes_eq names → Grows names (name ∷ []) out
one_name name names out h d =
    let c = chosen (is_among name names) K4 (Ok (names ++ name ∷ [])) out h in
    record { is = sym (ok_is c.1); distinct = subst (IsDistinct bytes_eq) (ok_is c.1) (IsDistinct-push nat_list_eq_equiv names name d c.0) }

more_names : (names others out : List (List ℕ)) → with_names names others ≡ Ok out → IsDistinct bytes_eq names → Grows names others out
more_names names [] out h d = record { is = sym (ok_is h) ∙ sym (append-nil names); distinct = subst (IsDistinct bytes_eq) (ok_is h) d }
more_names names (name ∷ others) out h d = by (with_name name names) refl h (λ next d h. more_names next others out h d)
  where
    by : (o : Out (List (List ℕ))) → with_name name names ≡ o → after_name o (λ names. with_names names others) ≡ Ok out
        → ((next : List (List ℕ)) → IsDistinct bytes_eq next → with_names next others ≡ Ok out → Grows next others out) → Grows names (name ∷ others) out
    by (Err reason) e h further = no_ok reason out h
    by (Ok next) e h further =
        let first = one_name name names next e d in
        let rest = further next first.distinct h in
        record { is = rest.is ∙ ap (λ xs. xs ++ others) first.is ∙ append_assoc names (name ∷ []) others; distinct = rest.distinct }

-- ---- bodies

abbrev results : List InstrView → List (List ℕ)
results is = flat_map (λ i. option_to_list i.result) is

abbrev names_of : BlockView → List (List ℕ)
names_of b = b.name ∷ results b.instrs

abbrev scope : FunctionView → List BlockView → List (List ℕ)
scope f blocks = map (λ p. p.1) f.parameters ++ flat_map names_of blocks

abbrev IsNoted : InstrView → Type 0
IsNoted i = (keeps_notes i.act && sets_its_own i) ≡ true

-- the names of the scope so far, and what holds of the block that has not ended
abbrev IsScope : FunctionView → List BlockView → Option BlockView → List (List ℕ) → Type 0
IsScope f blocks None names = names ≡ scope f blocks
IsScope f blocks (Some b) names = names ≡ scope f (blocks ++ b ∷ [])

abbrev IsOpen : Option BlockView → Type 0
IsOpen None = Unit {0}
IsOpen (Some b) = (list_any is_last b.instrs ≡ false) × All IsNoted b.instrs

record IsBody (b : BodyState) : Type 0 where
  names : IsScope b.head b.blocks b.block b.names
  distinct : IsDistinct bytes_eq b.names
  ended : All Ends b.blocks
  noted : All (λ b. All IsNoted b.instrs) b.blocks
  going : IsOpen b.block

nothing_ends : All Ends []
nothing_ends k d below = absurd (omega (arith, below))

nothing_noted : All (λ (b : BlockView). All IsNoted b.instrs) []
nothing_noted k d below = absurd (omega (arith, below))

no_notes : All IsNoted []
no_notes k d below = absurd (omega (arith, below))

-- a body begins with its parameters, and with its first block where that has no label
begins_with_block : (f : FunctionView) (unlabelled : Bool) (names : List (List ℕ)) → scope_of f.parameters (first_block unlabelled f) ≡ Ok names
    → IsScope f [] (first_block unlabelled f) names × IsDistinct bytes_eq names × IsOpen (first_block unlabelled f)
unfolding IsDistinct
begins_with_block f unlabelled names h = by (with_names [] (map (λ p. p.1) f.parameters)) refl h
  where
    by : (o : Out (List (List ℕ))) → with_names [] (map (λ p. p.1) f.parameters) ≡ o → after_name o (with_block (first_block unlabelled f)) ≡ Ok names
        → IsScope f [] (first_block unlabelled f) names × IsDistinct bytes_eq names × IsOpen (first_block unlabelled f)
    by (Err reason) e h = no_ok reason names h
    by (Ok params) e h = behind (more_names [] (map (λ p. p.1) f.parameters) params e none_differ) unlabelled h
      where
        none_differ : IsDistinct bytes_eq []
        none_differ = tt

        behind : Grows [] (map (λ p. p.1) f.parameters) params → (unlabelled : Bool) → with_block (first_block unlabelled f) params ≡ Ok names
            → IsScope f [] (first_block unlabelled f) names × IsDistinct bytes_eq names × IsOpen (first_block unlabelled f)
        behind g true h =
            let more = one_name (first_name f.parameters) params names h g.distinct in
            (more.is ∙ ap (λ xs. xs ++ first_name f.parameters ∷ []) g.is, more.distinct, (refl, no_notes))
        behind g false h = (sym (ok_is h) ∙ g.is ∙ sym (append-nil (map (λ p. p.1) f.parameters)), subst (IsDistinct bytes_eq) (ok_is h) g.distinct, tt)

body_begins : (f : FunctionView) (unlabelled : Bool) (b : BodyState) → begun_by unlabelled f ≡ Ok b → IsBody b × (b.head ≡ f)
body_begins f unlabelled b h = by (scope_of f.parameters (first_block unlabelled f)) refl h
  where
    by : (o : Out (List (List ℕ))) → scope_of f.parameters (first_block unlabelled f) ≡ o → begun o f (first_block unlabelled f) ≡ Ok b → IsBody b × (b.head ≡ f)
    by (Err reason) e h = no_ok reason b h
    by (Ok names) e h =
        let s = begins_with_block f unlabelled names e in
        subst (λ c. IsBody c × (c.head ≡ f)) (ok_is h)
        (record { names = s.0; distinct = s.1; ended = nothing_ends; noted = nothing_noted; going = s.2 }, refl)

-- a label
labelled_body : (b next : BodyState) (line : ℕ) (name : List ℕ) → IsBody b → label_in b.block (record { line = line; name = name; instrs = [] }) b ≡ Ok next → IsBody next × (next.head ≡ b.head)
labelled_body b next line name body h = by b.block refl h
  where
    new : BlockView
    new = record { line = line; name = name; instrs = [] }

    named : (o : Out (List (List ℕ))) → with_name name b.names ≡ o → b.block ≡ None → labelled o new b ≡ Ok next → IsBody next × (next.head ≡ b.head)
    named (Err reason) e none h = no_ok reason next h
    named (Ok names) e none h =
        let g = one_name name b.names names e body.distinct in
        let before : b.names ≡ scope b.head b.blocks = subst (λ o. IsScope b.head b.blocks o b.names) none body.names in
        subst (λ c. IsBody c × (c.head ≡ b.head)) (ok_is h) (
          record {
            names = g.is ∙ ap (λ xs. xs ++ name ∷ []) before ∙ flat_map_more names_of (map (λ p. p.1) b.head.parameters) b.blocks new;
            distinct = g.distinct;
            ended = body.ended;
            noted = body.noted;
            going = (refl, no_notes);
          },
          refl,
        )

    by : (o : Option BlockView) → b.block ≡ o → label_in o new b ≡ Ok next → IsBody next × (next.head ≡ b.head)
    by (Some earlier) e h = no_ok K2 next h
    by None e h = named (with_name name b.names) refl e h

-- an instruction
pub is_last_same : (line : ℕ) (result : Option (List ℕ)) (act : Act) → is_end act ≡ is_last (instr line result act)
is_last_same line result (binary kind flags w a b) = refl
is_last_same line result (compare samesign predicate over a b) = refl
is_last_same line result (select condition over a b) = refl
is_last_same line result (convert kind flags from to a) = refl
is_last_same line result (freeze over a) = refl
is_last_same line result (phi over arms) = refl
is_last_same line result (slot over align) = refl
is_last_same line result (load over target align range) = refl
is_last_same line result (store over value target align) = refl
is_last_same line result (offset f) = refl
is_last_same line result (call over callee arguments) = refl
is_last_same line result (extract w from at) = refl
is_last_same line result (goto target) = refl
is_last_same line result (branch condition taken other) = refl
is_last_same line result (switch w on default cases) = refl
is_last_same line result (give over value) = refl
is_last_same line result unreachable = refl

-- the names behind an instruction of the last block
result_named : (f : FunctionView) (blocks : List BlockView) (block : BlockView) (i : InstrView) (names out : List (List ℕ)) → names ≡ scope f (blocks ++ block ∷ []) → IsDistinct bytes_eq names
    → with_result i.result names ≡ Ok out → (out ≡ scope f (blocks ++ grown_block block i ∷ [])) × IsDistinct bytes_eq out
result_named f blocks block i names out before d h = by i.result refl h
  where
    ps : List (List ℕ)
    ps = map (λ p. p.1) f.parameters

    front : List (List ℕ)
    front = ps ++ flat_map names_of blocks

    parts : names ≡ front ++ names_of block
    parts = before ∙ sym (flat_map_more names_of ps blocks block)

    whole : (rs : List (List ℕ)) → option_to_list i.result ≡ rs → (front ++ names_of block) ++ rs ≡ scope f (blocks ++ grown_block block i ∷ [])
    whole rs e =
        append_assoc front (names_of block) rs
        ∙ ap (λ xs. front ++ (block.name ∷ (results block.instrs ++ xs))) (sym e)
        ∙ ap (λ xs. front ++ (block.name ∷ xs)) (flat_map_more (λ i. option_to_list i.result) [] block.instrs i)
        ∙ flat_map_more names_of ps blocks (grown_block block i)

    by : (r : Option (List ℕ)) → i.result ≡ r → with_result r names ≡ Ok out → (out ≡ scope f (blocks ++ grown_block block i ∷ [])) × IsDistinct bytes_eq out
    by None e h = (sym (ok_is h) ∙ parts ∙ sym (append-nil (front ++ names_of block)) ∙ whole [] (ap option_to_list e), subst (IsDistinct bytes_eq) (ok_is h) d)
    by (Some name) e h =
        let g = one_name name names out h d in
        (g.is ∙ ap (λ xs. xs ++ name ∷ []) parts ∙ whole (name ∷ []) (ap option_to_list e), g.distinct)

grown_is : (names : List (List ℕ)) (i : InstrView) (block : BlockView) (f : FunctionView) (blocks : List BlockView) → names ≡ scope f (blocks ++ grown_block block i ∷ []) → IsDistinct bytes_eq names
    → All Ends blocks → All (λ (b : BlockView). All IsNoted b.instrs) blocks → list_any is_last block.instrs ≡ false → All IsNoted block.instrs → IsNoted i
    → IsBody (grown_body names i block f blocks) × ((grown_body names i block f blocks).head ≡ f)
grown_is names i block f blocks named d ended noted none before kept = by (is_end i.act) refl
  where
    all_kept : All IsNoted (grown_block block i).instrs
    all_kept = All-push IsNoted block.instrs i before kept

    Grown : Bool → Type 0
    Grown last = let g : BodyState = if last then record { head = f; names = names; blocks = blocks ++ grown_block block i ∷ []; block = None }
        else record { head = f; names = names; blocks = blocks; block = Some (grown_block block i) } in IsBody g × (g.head ≡ f)

    last_of : is_end i.act ≡ is_last i
    last_of = is_last_same i.line i.result i.act

    by : (last : Bool) → is_end i.act ≡ last → Grown last
    by true e = (
      record {
        names = named;
        distinct = d;
        ended = All-push Ends blocks (grown_block block i) ended (block.instrs, i, refl, sym last_of ∙ e, none);
        noted = All-push (λ (b : BlockView). All IsNoted b.instrs) blocks (grown_block block i) noted all_kept;
        going = tt;
      },
      refl,
    )
    by false e = (
      record {
        names = named;
        distinct = d;
        ended = ended;
        noted = noted;
        going = (list_any-append is_last block.instrs (i ∷ []) ∙ ap (λ b. b || (is_last i || false)) none ∙ ap (λ b. b || false) (sym last_of ∙ e), all_kept);
      },
      refl,
    )

instr_body : (b next : BodyState) (i : InstrView) → IsBody b → IsNoted i → instr_at b.block i b ≡ Ok next → IsBody next × (next.head ≡ b.head)
instr_body b next i body kept h = by b.block refl h
  where
    at : (block : BlockView) → b.block ≡ Some block → (o : Out (List (List ℕ))) → with_result i.result b.names ≡ o → instr_in o i block b ≡ Ok next → IsBody next × (next.head ≡ b.head)
    at block is (Err reason) e h = no_ok reason next h
    at block is (Ok names) e h =
        let before : b.names ≡ scope b.head (b.blocks ++ block ∷ []) = subst (λ o. IsScope b.head b.blocks o b.names) is body.names in
        let open_block : (list_any is_last block.instrs ≡ false) × All IsNoted block.instrs = subst IsOpen is body.going in
        let r = result_named b.head b.blocks block i b.names names before body.distinct e in
        subst (λ c. IsBody c × (c.head ≡ b.head)) (ok_is h) (grown_is names i block b.head b.blocks r.0 r.1 body.ended body.noted open_block.0 open_block.1 kept)

    by : (o : Option BlockView) → b.block ≡ o → instr_at o i b ≡ Ok next → IsBody next × (next.head ≡ b.head)
    by None e h = no_ok K2 next h
    by (Some block) e h = at block e (with_result i.result b.names) refl h

-- ---- functions

abbrev IsFine : FunctionView → Type 0
IsFine f = (f.body ≡ None) ⊎ ((b : BlockView) × (rest : List BlockView) × IsShapedBody f b rest)

closed_is : (b : BodyState) (f : FunctionView) → IsBody b → closed_at b.block b.blocks b.head ≡ Ok f → IsFine f × (f.name ≡ b.head.name)
closed_is b f body h = by b.block refl b.blocks refl h
  where
    by : (o : Option BlockView) → b.block ≡ o → (blocks : List BlockView) → b.blocks ≡ blocks → closed_at o blocks b.head ≡ Ok f → IsFine f × (f.name ≡ b.head.name)
    by (Some block) e blocks is h = no_ok K2 f h
    by None e [] is h = no_ok K2 f h
    by None e (first ∷ others) is h =
        let named : b.names ≡ scope b.head b.blocks = subst (λ o. IsScope b.head b.blocks o b.names) e body.names in
        subst (λ g. IsFine g × (g.name ≡ b.head.name)) (ok_is h) (
          inr (
            first,
            others,
            record {
              body = refl;
              ended = subst (All Ends) is body.ended;
              noted = subst (All (λ (b : BlockView). All IsNoted b.instrs)) is body.noted;
              distinct = subst (λ bs. IsDistinct bytes_eq (scope b.head bs)) is (subst (IsDistinct bytes_eq) named body.distinct);
            },
          ),
          refl,
        )

record IsFit (m : ModuleView) : Type 0 where
  named : (x : List ℕ) (f : FunctionView) → Contains m.functions (x, f) → f.name ≡ x
  fine : (x : List ℕ) (f : FunctionView) → Contains m.functions (x, f) → IsFine f

with_fit : (m : ModuleView) (f : FunctionView) → IsFit m → IsFine f → IsFit (with_function f m)
with_fit m f fit fine = record {
  named = λ x g c. by x g (Contains-push_cases m.functions (f.name, f) (x, g) c);
  fine = λ x g c. is_fine x g (Contains-push_cases m.functions (f.name, f) (x, g) c);
}
  where
    by : (x : List ℕ) (g : FunctionView) → Contains m.functions (x, g) ⊎ ◌≡◌ {A = List ℕ × FunctionView} (f.name, f) (x, g) → g.name ≡ x
    by x g (inl c) = fit.named x g c
    by x g (inr e) = sym (ap (λ p. p.1.name) e) ∙ ap (λ p. p.0) e

    is_fine : (x : List ℕ) (g : FunctionView) → Contains m.functions (x, g) ⊎ ◌≡◌ {A = List ℕ × FunctionView} (f.name, f) (x, g) → IsFine g
    is_fine x g (inl c) = fit.fine x g c
    is_fine x g (inr e) = subst IsFine (ap (λ p. p.1) e) fine

-- ---- states

abbrev BodyHolds : Option BodyState → Type 0
BodyHolds None = Unit {0}
BodyHolds (Some b) = IsBody b

record Holds (s : State) : Type 0 where
  fit : IsFit s.whole
  body : BodyHolds s.body

-- the functions are as they were
kept_fit : (m n : ModuleView) → n.functions ≡ m.functions → IsFit m → IsFit n
kept_fit m n same fit = record {
  named = λ x f c. fit.named x f (subst (λ fs. Contains fs (x, f)) same c);
  fine = λ x f c. fit.fine x f (subst (λ fs. Contains fs (x, f)) same c);
}

outside_holds : (o : Out ModuleView) (m : ModuleView) (next : State) → ((n : ModuleView) → o ≡ Ok n → IsFit n) → then_outside o ≡ Ok next → Holds next
outside_holds (Err reason) m next fit h = no_ok reason next h
outside_holds (Ok n) m next fit h = subst Holds (ok_is h) (record { fit = fit n refl; body = tt })

pub layout_kept : (o : Option LineView) (text : LineView) (m n : ModuleView) → layout_in o text m ≡ Ok n → n.functions ≡ m.functions
layout_kept None text m n h = ap (λ k. k.functions) (sym (ok_is h))
layout_kept (Some earlier) text m n h = no_ok K2 n h

pub types_kept : (o : Out (List (List ℕ × TypeView))) (m n : ModuleView) → types_in o m ≡ Ok n → n.functions ≡ m.functions
types_kept (Ok types) m n h = ap (λ k. k.functions) (sym (ok_is h))
types_kept (Err reason) m n h = no_ok reason n h

pub ranges_kept : (o : Out (List (List ℕ × RangeView))) (m n : ModuleView) → ranges_in o m ≡ Ok n → n.functions ≡ m.functions
ranges_kept (Ok ranges) m n h = ap (λ k. k.functions) (sym (ok_is h))
ranges_kept (Err reason) m n h = no_ok reason n h

pub global_kept : (g : GlobalView) (m n : ModuleView) → with_global g m ≡ Ok n → n.functions ≡ m.functions
global_kept g m n h = let c = chosen (is_symbol g.name m) K4 (Ok (with_new_global g m)) n h in ap (λ k. k.functions) (sym (ok_is c.1))

declared_fit : (f : FunctionView) (m n : ModuleView) → f.body ≡ None → IsFit m → with_declared f m ≡ Ok n → IsFit n
declared_fit f m n none fit h = let c = chosen (is_symbol f.name m) K4 (Ok (with_function f m)) n h in subst IsFit (ok_is c.1) (with_fit m f fit (inl none))

head_is : (f : FunctionView) (after : List Cut) (m : ModuleView) (b : BodyState) → with_head f after m ≡ Ok b → IsBody b
head_is f after m b h =
    let first = chosen (not (holds_close after)) K2 (if is_symbol f.name m then Err K4 else begun_by (begins_unlabelled after) f) b h in
    let second = chosen (is_symbol f.name m) K4 (begun_by (begins_unlabelled after) f) b first.1 in
    (body_begins f (begins_unlabelled after) b second.1).0

inside_holds : (o : Out BodyState) (m : ModuleView) (next : State) → IsFit m → ((b : BodyState) → o ≡ Ok b → IsBody b) → then_inside o m ≡ Ok next → Holds next
inside_holds (Err reason) m next fit body h = no_ok reason next h
inside_holds (Ok b) m next fit body h = subst Holds (ok_is h) (record { fit = fit; body = body b refl })

top_holds : (top : Top) (line : ℕ) (after : List Cut) (m : ModuleView) (next : State) → IsFit m → after_top top line after m ≡ Ok next → Holds next
top_holds (layout_item bytes) line after m next fit h = outside_holds _ m next (λ n e. kept_fit m n (layout_kept m.layout_text _ m n e) fit) h
top_holds (type_item name over) line after m next fit h = outside_holds _ m next (λ n e. kept_fit m n (types_kept _ m n e) fit) h
top_holds (global_item name constant over init align) line after m next fit h = outside_holds _ m next (λ n e. kept_fit m n (global_kept _ m n e) fit) h
top_holds (define_item name result parameters) line after m next fit h = inside_holds _ m next fit (λ b e. head_is (record { line = line; name = name; result = result; parameters = parameters; body = None }) after m b e) h
top_holds (declare_item name result) line after m next fit h = outside_holds _ m next (λ n e. declared_fit (record { line = line; name = name; result = result; parameters = []; body = None }) m n refl fit e) h

closed_holds : (o : Out FunctionView) (m : ModuleView) (next : State) → IsFit m → ((f : FunctionView) → o ≡ Ok f → IsFine f) → then_closed o m ≡ Ok next → Holds next
closed_holds (Err reason) m next fit fine h = no_ok reason next h
closed_holds (Ok f) m next fit fine h = subst Holds (ok_is h) (record { fit = with_fit m f fit (fine f refl); body = tt })

inner_holds : (inner : Inner) (line : ℕ) (b : BodyState) (m : ModuleView) (next : State) (ts : List Lexeme) → IsFit m → IsBody b → ReadsInner inner ts → after_inner inner line b m ≡ Ok next → Holds next
inner_holds (label_item name) line b m next ts fit body reads h = inside_holds _ m next fit (λ c e. (labelled_body b c line name body e).0) h
inner_holds (instr_item result act) line b m next ts fit body reads h =
    inside_holds _ m next fit (λ c e. (instr_body b c (instr line result act) body (spelled_is_kept line result act _ reads.1) e).0) h
inner_holds close_item line b m next ts fit body reads h = closed_holds _ m next fit (λ f e. (closed_is b f body e).0) h

whole_holds : (o : Out ModuleView) (s next : State) → Holds s → ((n : ModuleView) → o ≡ Ok n → n.functions ≡ s.whole.functions) → then_whole o s ≡ Ok next → Holds next
whole_holds (Err reason) s next holds same h = no_ok reason next h
whole_holds (Ok n) s next holds same h = subst Holds (ok_is h) (record { fit = kept_fit s.whole n (same n refl) holds.fit; body = holds.body })

-- behind one item
reading_holds : (r : Reading) (c : Cut) (after : List Cut) (s next : State) → Holds s → Reads (is_inside s) r c.lexemes → after_reading r c.line after s ≡ Ok next → Holds next
reading_holds passed c after s next holds reads h = subst Holds (ok_is h) holds
reading_holds (ranged name numbers) c after s next holds reads h = whole_holds _ s next holds (λ n e. ranges_kept _ s.whole n e) h
reading_holds (top_of top) c after s next holds reads h = by s.body h
  where
    by : (o : Option BodyState) → top_at o top c.line after s.whole ≡ Ok next → Holds next
    by None h = top_holds top c.line after s.whole next holds.fit h
    by (Some b) h = no_ok K2 next h
reading_holds (inner_of inner) c after s next holds reads h = by s.body holds.body h
  where
    by : (o : Option BodyState) → BodyHolds o → inner_at o inner c.line s.whole ≡ Ok next → Holds next
    by None body h = no_ok K2 next h
    by (Some b) body h = inner_holds inner c.line b s.whole next c.lexemes holds.fit body reads.1 h
reading_holds (refused reason) c after s next holds reads h = no_ok reason next h

item_holds : (whole : Bool) (c : Cut) (after : List Cut) (s next : State) → Holds s → Passes whole s c after (Ok next) → Holds next
item_holds false c after s next holds h = no_ok K2 next (sym h)
item_holds true c after s next holds h = reading_holds h.0 c after s next holds h.1 (sym h.2)

-- behind all items
items_hold : (cs : List Cut) (s : State) (m : ModuleView) → Holds s → SpellsFrom s cs m → IsFit m
items_hold [] s m holds h = subst IsFit h.1 holds.fit
items_hold (c ∷ cs) s m holds h = items_hold cs h.0 m (item_holds (ends c cs) c cs s h.0 holds h.1) h.2

no_function : (x : List ℕ) (f : FunctionView) → Contains {X = List ℕ × FunctionView} [] (x, f) → ⊥
no_function x f (k, below, e) = omega (arith, below)

-- a module that items spell has its shape
pub spelled_is_shaped : (cs : List Cut) (m : ModuleView) → SpellsFrom at_start cs m → IsShaped m
spelled_is_shaped cs m h =
    let fit = items_hold cs at_start m (record { fit = record { named = λ x f c. absurd (no_function x f c); fine = λ x f c. absurd (no_function x f c) }; body = tt }) h in
    record { named = fit.named; bodies = λ f is. fit.fine is.0 f is.1 }

-- the same of an answer over a text
pub shaped_answer : (r : Result Module KernelStop) (text : List ℕ) → IfOk r (λ m. IsModuleText text (view_module m)) → IfOk r (λ m. IsShaped (view_module m))
shaped_answer (Ok m) text h = spelled_is_shaped (cut h.tokens) (view_module m) h.spelled
shaped_answer (Err stop) text h = h
