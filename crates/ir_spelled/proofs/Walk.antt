-- Behind each item of a text, every instruction of the module so far, and of the body that goes on, is spelled.
use Rattle.std.proofs.Common.{◌≡◌, ℕ, Bool, true, false, not, ◌⊎◌, inl, inr, if◌then◌else◌, Option, Some, None, unwrap_or, Ok, Err, List, [], ◌∷◌, ◌++◌, refl, sym, ap, subst, ◌∙◌, arith}
use Rattle.std.specs.Prelude.{All, Contains, flat_map, option_to_list}
use Rattle.std.proofs.lemmas.List.{append-nil}
use Rattle.std.proofs.lemmas.List.Elements.{All-nil, All-push, All-contains, Contains-push_cases}
use Rattle.ir_ast.specs.Program.{InstrView, BlockView, FunctionView, ModuleView}
use Rattle.ir_ast.specs.declared.fault.KernelReason.TheVariants.{K2, K4}
use Rattle.ir_lex.specs.Cut.{Cut, cut}
use Rattle.ir_lex.specs.Lexeme.{Lexeme}
use Rattle.ir_lex.specs.Items.{Top, layout_item, type_item, global_item, define_item, declare_item, Inner, label_item, instr_item, close_item, ReadsInner}
use Rattle.ir_read.specs.Ahead.{ends, holds_close, begins_unlabelled}
use Rattle.ir_read.specs.State.{BodyState, State, at_start, is_inside}
use Rattle.ir_read.specs.Reads.{Reading, passed, ranged, top_of, inner_of, refused, Reads}
use Rattle.ir_read.specs.Steps.{Out, with_name, scope_of, begun, begun_by, first_block, label_in, labelled, with_result, instr_in, instr_at, grown_block, grown_body, closed_at, then_closed, then_inside, then_outside, then_whole, with_function, with_declared, with_head, top_at, inner_at, after_top, after_inner, after_reading, is_end, is_symbol}
use Rattle.ir_read.specs.Spelling.{Passes, SpellsFrom, IsModuleText}
use Rattle.ir_read.proofs.Shaped.{ok_is, no_ok, chosen, layout_kept, types_kept, ranges_kept, global_kept}
use Rattle.ir_type.specs.Items.{IsFunction}
use Rattle.ir_typing.specs.Registers.{blocks_of}
use Rattle.ir_typed.specs.Spelled.{is_spelled, AreSpelled}
use Rattle.ir_spelled.proofs.Rows.{instr_is}

abbrev IsFineBlock : BlockView → Type 0
IsFineBlock b = All (λ (i : InstrView). is_spelled i.act ≡ true) b.instrs

abbrev IsFine : FunctionView → Type 0
IsFine f = (blocks : List BlockView) → f.body ≡ Some blocks → All IsFineBlock blocks

abbrev IsFit : ModuleView → Type 0
IsFit m = (x : List ℕ) (f : FunctionView) → Contains m.functions (x, f) → IsFine f

abbrev BlockHolds : Option BlockView → Type 0
BlockHolds None = Unit {0}
BlockHolds (Some b) = IsFineBlock b

record IsBody (b : BodyState) : Type 0 where
  ended : All IsFineBlock b.blocks
  going : BlockHolds b.block

some_is : {A : Type 0} {a b : A} → ◌≡◌ {A = Option A} (Some a) (Some b) → a ≡ b
some_is {A} {a} h = ap (λ o. unwrap_or o a) h

no_instr : All (λ (i : InstrView). is_spelled i.act ≡ true) []
no_instr = All-nil (λ (i : InstrView). is_spelled i.act ≡ true)

-- ---- bodies

body_begins : (o : Out (List (List ℕ))) (f : FunctionView) (unlabelled : Bool) (b : BodyState) → begun o f (first_block unlabelled f) ≡ Ok b → IsBody b
body_begins (Err reason) f unlabelled b h = no_ok reason b h
body_begins (Ok names) f true b h = subst IsBody (ok_is h) (record { ended = All-nil IsFineBlock; going = no_instr })
body_begins (Ok names) f false b h = subst IsBody (ok_is h) (record { ended = All-nil IsFineBlock; going = tt })

labelled_body : (b next : BodyState) (new : BlockView) → IsBody b → IsFineBlock new → label_in b.block new b ≡ Ok next → IsBody next
labelled_body b next new body fine h = by b.block h
  where
    named : (o : Out (List (List ℕ))) → labelled o new b ≡ Ok next → IsBody next
    named (Err reason) h = no_ok reason next h
    named (Ok names) h = subst IsBody (ok_is h) (record { ended = body.ended; going = fine })

    by : (o : Option BlockView) → label_in o new b ≡ Ok next → IsBody next
    by (Some earlier) h = no_ok K2 next h
    by None h = named (with_name new.name b.names) h

grown_is : (names : List (List ℕ)) (i : InstrView) (block : BlockView) (f : FunctionView) (blocks : List BlockView) → All IsFineBlock blocks → IsFineBlock block → is_spelled i.act ≡ true
    → IsBody (grown_body names i block f blocks)
grown_is names i block f blocks ended before is = by (is_end i.act)
  where
    grown : IsFineBlock (grown_block block i)
    grown = All-push (λ (i : InstrView). is_spelled i.act ≡ true) block.instrs i before is

    by : (last : Bool) → IsBody (if last then record { head = f; names = names; blocks = blocks ++ grown_block block i ∷ []; block = None } else record { head = f; names = names; blocks = blocks; block = Some (grown_block block i) })
    by true = record { ended = All-push IsFineBlock blocks (grown_block block i) ended grown; going = tt }
    by false = record { ended = ended; going = grown }

instr_body : (b next : BodyState) (i : InstrView) → IsBody b → is_spelled i.act ≡ true → instr_at b.block i b ≡ Ok next → IsBody next
instr_body b next i body is h = by b.block refl h
  where
    at : (block : BlockView) → b.block ≡ Some block → (o : Out (List (List ℕ))) → instr_in o i block b ≡ Ok next → IsBody next
    at block e (Err reason) h = no_ok reason next h
    at block e (Ok names) h = subst IsBody (ok_is h) (grown_is names i block b.head b.blocks body.ended (subst BlockHolds e body.going) is)

    by : (o : Option BlockView) → b.block ≡ o → instr_at o i b ≡ Ok next → IsBody next
    by None e h = no_ok K2 next h
    by (Some block) e h = at block e (with_result i.result b.names) h

closed_is : (b : BodyState) (f : FunctionView) → IsBody b → closed_at b.block b.blocks b.head ≡ Ok f → IsFine f
closed_is b f body h = by b.block b.blocks refl h
  where
    by : (o : Option BlockView) (blocks : List BlockView) → b.blocks ≡ blocks → closed_at o blocks b.head ≡ Ok f → IsFine f
    by (Some block) blocks is h = no_ok K2 f h
    by None [] is h = no_ok K2 f h
    by None (first ∷ others) is h = subst IsFine (ok_is h) (λ blocks e. subst (All IsFineBlock) (is ∙ some_is e) body.ended)

-- ---- modules

with_fit : (m : ModuleView) (f : FunctionView) → IsFit m → IsFine f → IsFit (with_function f m)
with_fit m f fit fine x g c = by (Contains-push_cases m.functions (f.name, f) (x, g) c)
  where
    by : Contains m.functions (x, g) ⊎ ◌≡◌ {A = List ℕ × FunctionView} (f.name, f) (x, g) → IsFine g
    by (inl c) = fit x g c
    by (inr e) = subst IsFine (ap (λ p. p.1) e) fine

declared_fine : (f : FunctionView) → f.body ≡ None → IsFine f
declared_fine f none blocks e = absurd (clash (sym none ∙ e))
  where
    clash : ◌≡◌ {A = Option (List BlockView)} None (Some blocks) → ⊥
    clash e = cc

kept_fit : (m n : ModuleView) → n.functions ≡ m.functions → IsFit m → IsFit n
kept_fit m n same fit x f c = fit x f (subst (λ fs. Contains fs (x, f)) same c)

declared_fit : (f : FunctionView) (m n : ModuleView) → f.body ≡ None → IsFit m → with_declared f m ≡ Ok n → IsFit n
declared_fit f m n none fit h = let c = chosen (is_symbol f.name m) K4 (Ok (with_function f m)) n h in subst IsFit (ok_is c.1) (with_fit m f fit (declared_fine f none))

head_is : (f : FunctionView) (after : List Cut) (m : ModuleView) (b : BodyState) → with_head f after m ≡ Ok b → IsBody b
head_is f after m b h =
    let first = chosen (not (holds_close after)) K2 (if is_symbol f.name m then Err K4 else begun_by (begins_unlabelled after) f) b h in
    let second = chosen (is_symbol f.name m) K4 (begun_by (begins_unlabelled after) f) b first.1 in
    body_begins (scope_of f.parameters (first_block (begins_unlabelled after) f)) f (begins_unlabelled after) b second.1

-- ---- states

abbrev BodyHolds : Option BodyState → Type 0
BodyHolds None = Unit {0}
BodyHolds (Some b) = IsBody b

record Holds (s : State) : Type 0 where
  fit : IsFit s.whole
  body : BodyHolds s.body

outside_holds : (o : Out ModuleView) (next : State) → ((n : ModuleView) → o ≡ Ok n → IsFit n) → then_outside o ≡ Ok next → Holds next
outside_holds (Err reason) next fit h = no_ok reason next h
outside_holds (Ok n) next fit h = subst Holds (ok_is h) (record { fit = fit n refl; body = tt })

inside_holds : (o : Out BodyState) (m : ModuleView) (next : State) → IsFit m → ((b : BodyState) → o ≡ Ok b → IsBody b) → then_inside o m ≡ Ok next → Holds next
inside_holds (Err reason) m next fit body h = no_ok reason next h
inside_holds (Ok b) m next fit body h = subst Holds (ok_is h) (record { fit = fit; body = body b refl })

top_holds : (top : Top) (line : ℕ) (after : List Cut) (m : ModuleView) (next : State) → IsFit m → after_top top line after m ≡ Ok next → Holds next
top_holds (layout_item bytes) line after m next fit h = outside_holds _ next (λ n e. kept_fit m n (layout_kept m.layout_text _ m n e) fit) h
top_holds (type_item name over) line after m next fit h = outside_holds _ next (λ n e. kept_fit m n (types_kept _ m n e) fit) h
top_holds (global_item name constant over init align) line after m next fit h = outside_holds _ next (λ n e. kept_fit m n (global_kept _ m n e) fit) h
top_holds (define_item name result parameters) line after m next fit h =
    inside_holds _ m next fit (λ b e. head_is (record { line = line; name = name; result = result; parameters = parameters; body = None }) after m b e) h
top_holds (declare_item name result) line after m next fit h =
    outside_holds _ next (λ n e. declared_fit (record { line = line; name = name; result = result; parameters = []; body = None }) m n refl fit e) h

closed_holds : (o : Out FunctionView) (m : ModuleView) (next : State) → IsFit m → ((f : FunctionView) → o ≡ Ok f → IsFine f) → then_closed o m ≡ Ok next → Holds next
closed_holds (Err reason) m next fit fine h = no_ok reason next h
closed_holds (Ok f) m next fit fine h = subst Holds (ok_is h) (record { fit = with_fit m f fit (fine f refl); body = tt })

inner_holds : (inner : Inner) (line : ℕ) (b : BodyState) (m : ModuleView) (next : State) (ts : List Lexeme) → IsFit m → IsBody b → ReadsInner inner ts → after_inner inner line b m ≡ Ok next → Holds next
inner_holds (label_item name) line b m next ts fit body reads h = inside_holds _ m next fit (λ c e. labelled_body b c (record { line = line; name = name; instrs = [] }) body no_instr e) h
inner_holds (instr_item result act) line b m next ts fit body reads h =
    inside_holds _ m next fit (λ c e. instr_body b c (record { line = line; result = result; act = act }) body (instr_is result act _ reads.1) e) h
inner_holds close_item line b m next ts fit body reads h = closed_holds _ m next fit (λ f e. closed_is b f body e) h

whole_holds : (o : Out ModuleView) (s next : State) → Holds s → ((n : ModuleView) → o ≡ Ok n → n.functions ≡ s.whole.functions) → then_whole o s ≡ Ok next → Holds next
whole_holds (Err reason) s next holds same h = no_ok reason next h
whole_holds (Ok n) s next holds same h = subst Holds (ok_is h) (record { fit = kept_fit s.whole n (same n refl) holds.fit; body = holds.body })

reading_holds : (r : Reading) (c : Cut) (after : List Cut) (s next : State) → Holds s → Reads (is_inside s) r c.lexemes → after_reading r c.line after s ≡ Ok next → Holds next
reading_holds passed c after s next holds reads h = subst Holds (ok_is h) holds
reading_holds (ranged name numbers) c after s next holds reads h = whole_holds _ s next holds (λ n e. ranges_kept _ s.whole n e) h
reading_holds (top_of top) c after s next holds reads h = by s.body h
  where
    by : (o : Option BodyState) → top_at o top c.line after s.whole ≡ Ok next → Holds next
    by None h = top_holds top c.line after s.whole next holds.fit h
    by (Some b) h = no_ok K2 next h
reading_holds (inner_of inner) c after s next holds reads h = by s.body holds.body h
  where
    by : (o : Option BodyState) → BodyHolds o → inner_at o inner c.line s.whole ≡ Ok next → Holds next
    by None body h = no_ok K2 next h
    by (Some b) body h = inner_holds inner c.line b s.whole next c.lexemes holds.fit body reads.1 h
reading_holds (refused reason) c after s next holds reads h = no_ok reason next h

item_holds : (whole : Bool) (c : Cut) (after : List Cut) (s next : State) → Holds s → Passes whole s c after (Ok next) → Holds next
item_holds false c after s next holds h = no_ok K2 next (sym h)
item_holds true c after s next holds h = reading_holds h.0 c after s next holds h.1 (sym h.2)

items_hold : (cs : List Cut) (s : State) (m : ModuleView) → Holds s → SpellsFrom s cs m → IsFit m
items_hold [] s m holds h = subst IsFit h.1 holds.fit
items_hold (c ∷ cs) s m holds h = items_hold cs h.0 m (item_holds (ends c cs) c cs s h.0 holds h.1) h.2

no_function : (x : List ℕ) (f : FunctionView) → Contains {X = List ℕ × FunctionView} [] (x, f) → ⊥
no_function x f (k, below, e) = omega (arith, below)

-- ---- the module of a text

abbrev flat : Option (List BlockView) → List BlockView
flat o = flat_map (λ (blocks : List BlockView). blocks) (option_to_list o)

fine_is : (f : FunctionView) (b : BlockView) (i : InstrView) → IsFine f → Contains (blocks_of f) b → Contains b.instrs i → is_spelled i.act ≡ true
fine_is f b i fine within among = by f.body refl
  where
    none : Contains {X = BlockView} [] b → ⊥
    none (k, below, e) = omega (arith, below)

    by : (o : Option (List BlockView)) → f.body ≡ o → is_spelled i.act ≡ true
    by None e = absurd (none (subst (λ o. Contains (flat o) b) e within))
    by (Some blocks) e =
        let at : Contains blocks b = subst (λ bs. Contains bs b) (append-nil blocks) (subst (λ o. Contains (flat o) b) e within) in
        All-contains (λ (i : InstrView). is_spelled i.act ≡ true) b.instrs i (All-contains IsFineBlock blocks b (fine blocks e) at) among

pub text_is : (text : List ℕ) (m : ModuleView) → IsModuleText text m → AreSpelled m
text_is text m h f b i own within among =
    let fit = items_hold (cut h.tokens) at_start m (record { fit = λ x f c. absurd (no_function x f c); body = tt }) h.spelled in
    fine_is f b i (fit own.0 f own.1) within among
