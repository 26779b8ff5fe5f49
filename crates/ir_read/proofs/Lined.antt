-- In a module that items spell, each instruction stands behind the line on which its function begins.
use Rattle.std.proofs.Common.{◌≡◌, ◌<◌, ◌≤◌, ℕ, zero, suc, Bool, true, false, not, ◌⊎◌, inl, inr, if◌then◌else◌, Option, Some, None, Result, Ok, Err, IfOk, List, [], ◌∷◌, ◌++◌, Contains, length, slice_index_or, refl, sym, ap, subst, arith}
use Rattle.std.proofs.lemmas.List.Elements.{Contains-push_cases}
use Rattle.ir_ast.specs.Program.{InstrView, BlockView, FunctionView, ModuleView}
use Rattle.ir_ast.specs.ProgramView.{view_module}
use Rattle.ir_ast.specs.declared.module.Module.{Module}
use Rattle.ir_ast.specs.declared.fault.KernelStop.{KernelStop}
use Rattle.ir_ast.specs.declared.fault.KernelReason.TheVariants.{K2, K4}
use Rattle.ir_lex.specs.Cut.{Cut, cut}
use Rattle.ir_lex.specs.Items.{Top, layout_item, type_item, global_item, define_item, declare_item, Inner, label_item, instr_item, close_item}
use Rattle.ir_read.specs.LineOrder.{Rises}
use Rattle.ir_read.specs.Ahead.{ends, holds_close, begins_unlabelled}
use Rattle.ir_read.specs.State.{BodyState, State, at_start}
use Rattle.ir_read.specs.Reads.{Reading, passed, ranged, top_of, inner_of, refused}
use Rattle.ir_read.specs.Steps.{Out, with_name, scope_of, first_block, begun, begun_by, with_head, labelled, label_in, is_end, grown_block, grown_body, with_result, instr_in, instr_at, closed_at, then_closed, then_inside, then_outside, then_whole, with_function, with_declared, is_symbol, after_top, after_inner, top_at, inner_at, after_reading}
use Rattle.ir_read.specs.Spelling.{Passes, SpellsFrom, IsModuleText}
use Rattle.ir_read.proofs.LineOrder.{items_rise}
use Rattle.ir_read.proofs.Noted.{instr}
use Rattle.ir_read.proofs.Shaped.{ok_is, no_ok, chosen, layout_kept, types_kept, ranges_kept, global_kept}
use Rattle.ir_type.specs.Shape.{IsLined}

-- these instructions, and those of these blocks, stand behind this line
abbrev AreBehind : ℕ → List InstrView → Type 0
AreBehind line [] = Unit {0}
AreBehind line (i ∷ is) = (line < i.line) × AreBehind line is

abbrev AreLined : ℕ → List BlockView → Type 0
AreLined line [] = Unit {0}
AreLined line (b ∷ bs) = AreBehind line b.instrs × AreLined line bs

behind-push : (line : ℕ) (is : List InstrView) (i : InstrView) → AreBehind line is → line < i.line → AreBehind line (is ++ i ∷ [])
behind-push line [] i h less = (less, tt)
behind-push line (j ∷ is) i h less = (h.0, behind-push line is i h.1 less)

lined-push : (line : ℕ) (bs : List BlockView) (b : BlockView) → AreLined line bs → AreBehind line b.instrs → AreLined line (bs ++ b ∷ [])
lined-push line [] b h last = (last, tt)
lined-push line (c ∷ bs) b h last = (h.0, lined-push line bs b h.1 last)

behind_at : (line : ℕ) (before : List InstrView) (i : InstrView) (after : List InstrView) → AreBehind line (before ++ i ∷ after) → line < i.line
behind_at line [] i after h = h.0
behind_at line (j ∷ before) i after h = behind_at line before i after h.1

lined_at : (line : ℕ) (bs : List BlockView) (k : ℕ) (b : BlockView) → AreLined line bs → k < length bs → slice_index_or bs k b ≡ b → AreBehind line b.instrs
lined_at line [] k b h below e = absurd (omega (arith, below))
lined_at line (c ∷ bs) zero b h below e = subst (λ c. AreBehind line c.instrs) e h.0
lined_at line (c ∷ bs) (suc k) b h below e = lined_at line bs k b h.1 (omega (arith, below)) e

-- ---- bodies

abbrev IsOpen : ℕ → Option BlockView → Type 0
IsOpen line None = Unit {0}
IsOpen line (Some b) = AreBehind line b.instrs

record IsLinedBody (line : ℕ) (b : BodyState) : Type 0 where
  before : b.head.line ≤ line
  blocks : AreLined b.head.line b.blocks
  going : IsOpen b.head.line b.block

first_open : (line : ℕ) (unlabelled : Bool) (f : FunctionView) → IsOpen line (first_block unlabelled f)
first_open line true f = tt
first_open line false f = tt

body_begins : (f : FunctionView) (unlabelled : Bool) (b : BodyState) → begun_by unlabelled f ≡ Ok b → IsLinedBody f.line b
body_begins f unlabelled b h = by (scope_of f.parameters (first_block unlabelled f)) h
  where
    by : (o : Out (List (List ℕ))) → begun o f (first_block unlabelled f) ≡ Ok b → IsLinedBody f.line b
    by (Err reason) h = no_ok reason b h
    by (Ok names) h = subst (IsLinedBody f.line) (ok_is h) (record { before = omega arith; blocks = tt; going = first_open f.line unlabelled f })

head_is : (f : FunctionView) (after : List Cut) (m : ModuleView) (b : BodyState) → with_head f after m ≡ Ok b → IsLinedBody f.line b
head_is f after m b h =
    let first = chosen (not (holds_close after)) K2 (if is_symbol f.name m then Err K4 else begun_by (begins_unlabelled after) f) b h in
    let second = chosen (is_symbol f.name m) K4 (begun_by (begins_unlabelled after) f) b first.1 in
    body_begins f (begins_unlabelled after) b second.1

later : (line next : ℕ) (b : BodyState) → line < next → IsLinedBody line b → IsLinedBody next b
later line next b less body = record { before = omega (arith, body.before, less); blocks = body.blocks; going = body.going }

labelled_body : (line : ℕ) (b next : BodyState) (block : BlockView) → block.instrs ≡ [] → IsLinedBody line b → label_in b.block block b ≡ Ok next → IsLinedBody line next
labelled_body line b next block none body h = by b.block h
  where
    named : (o : Out (List (List ℕ))) → labelled o block b ≡ Ok next → IsLinedBody line next
    named (Err reason) h = no_ok reason next h
    named (Ok names) h = subst (IsLinedBody line) (ok_is h) (record { before = body.before; blocks = body.blocks; going = subst (AreBehind b.head.line) (sym none) tt })

    by : (o : Option BlockView) → label_in o block b ≡ Ok next → IsLinedBody line next
    by (Some earlier) h = no_ok K2 next h
    by None h = named (with_name block.name b.names) h

grown_lined : (line : ℕ) (names : List (List ℕ)) (i : InstrView) (block : BlockView) (f : FunctionView) (blocks : List BlockView) → f.line ≤ line → AreLined f.line blocks → AreBehind f.line block.instrs
    → f.line < i.line → IsLinedBody line (grown_body names i block f blocks)
grown_lined line names i block f blocks before lined behind less = by (is_end i.act)
  where
    Grown : Bool → Type 0
    Grown last = IsLinedBody line (if last then record { head = f; names = names; blocks = blocks ++ grown_block block i ∷ []; block = None }
        else record { head = f; names = names; blocks = blocks; block = Some (grown_block block i) })

    more : AreBehind f.line (grown_block block i).instrs
    more = behind-push f.line block.instrs i behind less

    by : (last : Bool) → Grown last
    by true = record { before = before; blocks = lined-push f.line blocks (grown_block block i) lined more; going = tt }
    by false = record { before = before; blocks = lined; going = more }

instr_body : (line : ℕ) (b next : BodyState) (i : InstrView) → IsLinedBody line b → b.head.line < i.line → instr_at b.block i b ≡ Ok next → IsLinedBody line next
instr_body line b next i body less h = by b.block refl h
  where
    named : (block : BlockView) → b.block ≡ Some block → (o : Out (List (List ℕ))) → instr_in o i block b ≡ Ok next → IsLinedBody line next
    named block is (Err reason) h = no_ok reason next h
    named block is (Ok names) h = subst (IsLinedBody line) (ok_is h) (grown_lined line names i block b.head b.blocks body.before body.blocks (subst (IsOpen b.head.line) is body.going) less)

    by : (o : Option BlockView) → b.block ≡ o → instr_at o i b ≡ Ok next → IsLinedBody line next
    by None e h = no_ok K2 next h
    by (Some block) e h = named block e (with_result i.result b.names) h

-- ---- functions

abbrev BodyBehind : ℕ → Option (List BlockView) → Type 0
BodyBehind line None = Unit {0}
BodyBehind line (Some blocks) = AreLined line blocks

abbrev AllLined : ModuleView → Type 0
AllLined m = (x : List ℕ) (f : FunctionView) → Contains m.functions (x, f) → BodyBehind f.line f.body

closed_is : (b : BodyState) (f : FunctionView) → (line : ℕ) → IsLinedBody line b → closed_at b.block b.blocks b.head ≡ Ok f → BodyBehind f.line f.body
closed_is b f line body h = by b.block b.blocks refl h
  where
    by : (o : Option BlockView) → (blocks : List BlockView) → b.blocks ≡ blocks → closed_at o blocks b.head ≡ Ok f → BodyBehind f.line f.body
    by (Some block) blocks is h = no_ok K2 f h
    by None [] is h = no_ok K2 f h
    by None (first ∷ others) is h = subst (λ g. BodyBehind g.line g.body) (ok_is h) (subst (AreLined b.head.line) is body.blocks)

with_lined : (m : ModuleView) (f : FunctionView) → AllLined m → BodyBehind f.line f.body → AllLined (with_function f m)
with_lined m f all own x g c = by (Contains-push_cases m.functions (f.name, f) (x, g) c)
  where
    by : Contains m.functions (x, g) ⊎ ◌≡◌ {A = List ℕ × FunctionView} (f.name, f) (x, g) → BodyBehind g.line g.body
    by (inl h) = all x g h
    by (inr e) = subst (λ h. BodyBehind h.line h.body) (ap (λ p. p.1) e) own

kept_lined : (m n : ModuleView) → n.functions ≡ m.functions → AllLined m → AllLined n
kept_lined m n same all x f c = all x f (subst (λ fs. Contains fs (x, f)) same c)

declared_lined : (f : FunctionView) (m n : ModuleView) → f.body ≡ None → AllLined m → with_declared f m ≡ Ok n → AllLined n
declared_lined f m n none all h =
    let c = chosen (is_symbol f.name m) K4 (Ok (with_function f m)) n h in
    subst AllLined (ok_is c.1) (with_lined m f all (subst (BodyBehind f.line) (sym none) tt))

-- ---- states: behind an item that begins on this line

abbrev BodyHolds : ℕ → Option BodyState → Type 0
BodyHolds line None = Unit {0}
BodyHolds line (Some b) = IsLinedBody line b

record Holds (line : ℕ) (s : State) : Type 0 where
  functions : AllLined s.whole
  body : BodyHolds line s.body

later_holds : (line next : ℕ) (s : State) → line < next → Holds line s → Holds next s
later_holds line next s less holds = record { functions = holds.functions; body = by s.body holds.body }
  where
    by : (o : Option BodyState) → BodyHolds line o → BodyHolds next o
    by None h = tt
    by (Some b) h = later line next b less h

outside_holds : (line : ℕ) (o : Out ModuleView) (next : State) → ((n : ModuleView) → o ≡ Ok n → AllLined n) → then_outside o ≡ Ok next → Holds line next
outside_holds line (Err reason) next all h = no_ok reason next h
outside_holds line (Ok n) next all h = subst (Holds line) (ok_is h) (record { functions = all n refl; body = tt })

inside_holds : (line : ℕ) (o : Out BodyState) (m : ModuleView) (next : State) → AllLined m → ((b : BodyState) → o ≡ Ok b → IsLinedBody line b) → then_inside o m ≡ Ok next → Holds line next
inside_holds line (Err reason) m next all body h = no_ok reason next h
inside_holds line (Ok b) m next all body h = subst (Holds line) (ok_is h) (record { functions = all; body = body b refl })

top_holds : (top : Top) (line : ℕ) (after : List Cut) (m : ModuleView) (next : State) → AllLined m → after_top top line after m ≡ Ok next → Holds line next
top_holds (layout_item bytes) line after m next all h = outside_holds line _ next (λ n e. kept_lined m n (layout_kept m.layout_text _ m n e) all) h
top_holds (type_item name over) line after m next all h = outside_holds line _ next (λ n e. kept_lined m n (types_kept _ m n e) all) h
top_holds (global_item name constant over init align) line after m next all h = outside_holds line _ next (λ n e. kept_lined m n (global_kept _ m n e) all) h
top_holds (define_item name result parameters) line after m next all h =
    inside_holds line _ m next all (λ b e. head_is (record { line = line; name = name; result = result; parameters = parameters; body = None }) after m b e) h
top_holds (declare_item name result) line after m next all h =
    outside_holds line _ next (λ n e. declared_lined (record { line = line; name = name; result = result; parameters = []; body = None }) m n refl all e) h

closed_holds : (line : ℕ) (o : Out FunctionView) (m : ModuleView) (next : State) → AllLined m → ((f : FunctionView) → o ≡ Ok f → BodyBehind f.line f.body) → then_closed o m ≡ Ok next → Holds line next
closed_holds line (Err reason) m next all own h = no_ok reason next h
closed_holds line (Ok f) m next all own h = subst (Holds line) (ok_is h) (record { functions = with_lined m f all (own f refl); body = tt })

inner_holds : (inner : Inner) (line : ℕ) (b : BodyState) (m : ModuleView) (next : State) → AllLined m → IsLinedBody line b → b.head.line < line → after_inner inner line b m ≡ Ok next → Holds line next
inner_holds (label_item name) line b m next all body less h = inside_holds line _ m next all (λ c e. labelled_body line b c (record { line = line; name = name; instrs = [] }) refl body e) h
inner_holds (instr_item result act) line b m next all body less h = inside_holds line _ m next all (λ c e. instr_body line b c (instr line result act) body less e) h
inner_holds close_item line b m next all body less h = closed_holds line _ m next all (λ f e. closed_is b f line body e) h

whole_holds : (line : ℕ) (o : Out ModuleView) (s next : State) → Holds line s → ((n : ModuleView) → o ≡ Ok n → n.functions ≡ s.whole.functions) → then_whole o s ≡ Ok next → Holds line next
whole_holds line (Err reason) s next holds same h = no_ok reason next h
whole_holds line (Ok n) s next holds same h = subst (Holds line) (ok_is h) (record { functions = kept_lined s.whole n (same n refl) holds.functions; body = holds.body })

-- behind one item, which begins behind the one before
reading_holds : (r : Reading) (before line : ℕ) (after : List Cut) (s next : State) → before < line → Holds before s → after_reading r line after s ≡ Ok next → Holds line next
reading_holds passed before line after s next less holds h = subst (Holds line) (ok_is h) (later_holds before line s less holds)
reading_holds (ranged name numbers) before line after s next less holds h = whole_holds line _ s next (later_holds before line s less holds) (λ n e. ranges_kept _ s.whole n e) h
reading_holds (top_of top) before line after s next less holds h = by s.body h
  where
    by : (o : Option BodyState) → top_at o top line after s.whole ≡ Ok next → Holds line next
    by None h = top_holds top line after s.whole next holds.functions h
    by (Some b) h = no_ok K2 next h
reading_holds (inner_of inner) before line after s next less holds h = by s.body holds.body h
  where
    by : (o : Option BodyState) → BodyHolds before o → inner_at o inner line s.whole ≡ Ok next → Holds line next
    by None body h = no_ok K2 next h
    by (Some b) body h = inner_holds inner line b s.whole next holds.functions (later before line b less body) (omega (arith, body.before, less)) h
reading_holds (refused reason) before line after s next less holds h = no_ok reason next h

item_holds : (whole : Bool) (c : Cut) (after : List Cut) (before : ℕ) (s next : State) → before < c.line → Holds before s → Passes whole s c after (Ok next) → Holds c.line next
item_holds false c after before s next less holds h = no_ok K2 next (sym h)
item_holds true c after before s next less holds h = reading_holds h.0 before c.line after s next less holds (sym h.2)

items_hold : (cs : List Cut) (before : ℕ) (s : State) (m : ModuleView) → Rises before cs → Holds before s → SpellsFrom s cs m → AllLined m
items_hold [] before s m rises holds h = subst AllLined h.1 holds.functions
items_hold (c ∷ cs) before s m rises holds h = items_hold cs c.line h.0 m rises.1 (item_holds (ends c cs) c cs before s h.0 rises.0 holds h.1) h.2

no_function : (x : List ℕ) (f : FunctionView) → Contains {X = List ℕ × FunctionView} [] (x, f) → ⊥
no_function x f (k, below, e) = omega (arith, below)

-- the instructions of a module that items spell, which each begin behind the one before
pub spelled_is_lined : (cs : List Cut) (m : ModuleView) → Rises 0 cs → SpellsFrom at_start cs m → IsLined m
spelled_is_lined cs m rises h f b before i (is, blocks, body, (k, below, e), after, parts) =
    let all = items_hold cs 0 at_start m rises (record { functions = λ x f c. absurd (no_function x f c); body = tt }) h in
    behind_at f.line before i after (subst (AreBehind f.line) parts (lined_at f.line blocks k b (subst (BodyBehind f.line) body (all is.0 f is.1)) below e))

-- the same of an answer over a text
pub lined_answer : (r : Result Module KernelStop) (text : List ℕ) → IfOk r (λ m. IsModuleText text (view_module m)) → IfOk r (λ m. IsLined (view_module m))
lined_answer (Ok m) text h = spelled_is_lined (cut h.tokens) (view_module m) (items_rise text h.tokens h.lexed) h.spelled
lined_answer (Err stop) text h = h
