-- What holds of a state, and stays so behind an item.
use Rattle.std.proofs.Common.{◌≡◌, ℕ, Bool, true, false, cond, not, ◌||◌, Option, Some, None, Ok, Err, List, [], ◌∷◌, refl, sym, ◌∙◌, ap, subst}
use Rattle.ir_lex.specs.Drop.{is_dropped_item}
use Rattle.ir_ast.specs.Program.{Act, InstrView, BlockView, FunctionView, RangeView, ModuleView}
use Rattle.ir_ast.specs.declared.fault.KernelReason.{KernelReason}
use Rattle.ir_ast.specs.declared.fault.KernelReason.TheVariants.{K2, K4}
use Rattle.ir_lex.specs.Cut.{Cut}
use Rattle.ir_lex.specs.Items.{Top, layout_item, type_item, global_item, define_item, declare_item, Inner, label_item, instr_item, close_item}
use Rattle.ir_read.specs.State.{BodyState, State, is_inside, outside, inside}
use Rattle.ir_read.specs.Ahead.{is_close, holds_close, begins_unlabelled, ends}
use Rattle.ir_read.specs.Reads.{Reading, passed, ranged, top_of, inner_of, refused, Reads}
use Rattle.ir_read.specs.Steps.{Out, is_symbol, is_end, with_entry, then_outside, ranges_in, then_whole, then_inside, then_closed, begun, scope_of, first_block, labelled, label_in, with_name, instr_in, instr_at, with_result, grown_body, closed_at, after_inner, after_top, after_reading}
use Rattle.ir_read.specs.Spelling.{Leads, Passes}
use Rattle.ir_read.specs.Answers.{IsNew, IsNewBody, IsPending, IsPendingBody}
use Rattle.ir_read.proofs.Closing.{close_is, dropped_open}

-- both facts about a state, before these items
pub record Holds (s : State) (cuts : List Cut) : Type 0 where
  pub new : IsNew s
  pub pending : IsPending s cuts

ok_is : {A : Type 0} → (a b : A) → ◌≡◌ {A = Out A} (Ok a) (Ok b) → a ≡ b
ok_is a b h = cc

never : {A : Type 0} → {B : Type 0} → (a : A) → (reason : KernelReason) → ◌≡◌ {A = Out A} (Err reason) (Ok a) → B
never a reason h = absurd cc

open_on : (q : Bool) (cuts : List Cut) → (q || holds_close cuts) ≡ true → q ≡ false → holds_close cuts ≡ true
open_on true cuts h e = absurd cc
open_on false cuts h e = h

-- outside of bodies both hold
closed_holds : (m : ModuleView) (next : State) (cuts : List Cut) → ◌≡◌ {A = Out State} (Ok (outside m)) (Ok next) → Holds next cuts
closed_holds m next cuts h = subst (λ s. Holds s cuts) (ok_is _ _ h) (record { new = tt; pending = tt })

then_outside_holds : (o : Out ModuleView) (next : State) (cuts : List Cut) → then_outside o ≡ Ok next → Holds next cuts
then_outside_holds (Ok m) next cuts h = closed_holds m next cuts h
then_outside_holds (Err reason) next cuts h = never next reason h

then_closed_holds : (o : Out FunctionView) (m : ModuleView) (next : State) (cuts : List Cut) → then_closed o m ≡ Ok next → Holds next cuts
then_closed_holds (Ok f) m next cuts h = closed_holds _ next cuts h
then_closed_holds (Err reason) m next cuts h = never next reason h

-- inside of one, both hold where they do of its head
inside_holds : (m : ModuleView) (b : BodyState) (next : State) (cuts : List Cut) → is_symbol b.head.name m ≡ false → holds_close cuts ≡ true
    → ◌≡◌ {A = Out State} (Ok (inside m b)) (Ok next) → Holds next cuts
inside_holds m b next cuts new pending h = subst (λ s. Holds s cuts) (ok_is _ _ h) (record { new = new; pending = pending })

begun_holds : (o : Out (List (List ℕ))) (f : FunctionView) (block : Option BlockView) (m : ModuleView) (next : State) (cuts : List Cut) → is_symbol f.name m ≡ false → holds_close cuts ≡ true
    → then_inside (begun o f block) m ≡ Ok next → Holds next cuts
begun_holds (Ok names) f block m next cuts new pending h = inside_holds m _ next cuts new pending h
begun_holds (Err reason) f block m next cuts new pending h = never next reason h

head_by : (closes repeated : Bool) (o : Out (List (List ℕ))) (f : FunctionView) (block : Option BlockView) (m : ModuleView) (next : State) (cuts : List Cut)
    → is_symbol f.name m ≡ repeated → holds_close cuts ≡ closes
    → then_inside (cond {A = Out BodyState} (not closes) (Err K2) (cond {A = Out BodyState} repeated (Err K4) (begun o f block))) m ≡ Ok next → Holds next cuts
head_by false repeated o f block m next cuts new pending h = never next K2 h
head_by true true o f block m next cuts new pending h = never next K4 h
head_by true false o f block m next cuts new pending h = begun_holds o f block m next cuts new pending h

top_holds : (top : Top) (line : ℕ) (cuts : List Cut) (m : ModuleView) (next : State) → after_top top line cuts m ≡ Ok next → Holds next cuts
top_holds (layout_item bytes) line cuts m next h = then_outside_holds _ next cuts h
top_holds (type_item name over) line cuts m next h = then_outside_holds _ next cuts h
top_holds (global_item name constant over init align) line cuts m next h = then_outside_holds _ next cuts h
top_holds (define_item name result parameters) line cuts m next h =
    let f : FunctionView = record { line = line; name = name; result = result; parameters = parameters; body = None } in
    let block = first_block (begins_unlabelled cuts) f in
    head_by (holds_close cuts) (is_symbol name m) (scope_of parameters block) f block m next cuts refl refl h
top_holds (declare_item name result) line cuts m next h = then_outside_holds _ next cuts h

labelled_holds : (o : Out (List (List ℕ))) (block : BlockView) (b : BodyState) (m : ModuleView) (next : State) (cuts : List Cut) → is_symbol b.head.name m ≡ false → holds_close cuts ≡ true
    → then_inside (labelled o block b) m ≡ Ok next → Holds next cuts
labelled_holds (Ok names) block b m next cuts new pending h = inside_holds m _ next cuts new pending h
labelled_holds (Err reason) block b m next cuts new pending h = never next reason h

label_holds : (earlier : Option BlockView) (block : BlockView) (b : BodyState) (m : ModuleView) (next : State) (cuts : List Cut) → is_symbol b.head.name m ≡ false → holds_close cuts ≡ true
    → then_inside (label_in earlier block b) m ≡ Ok next → Holds next cuts
label_holds None block b m next cuts new pending h = labelled_holds (with_name block.name b.names) block b m next cuts new pending h
label_holds (Some earlier) block b m next cuts new pending h = never next K2 h

grown_head : (names : List (List ℕ)) (i : InstrView) (block : BlockView) (head : FunctionView) (blocks : List BlockView) (q : Bool) → is_end i.act ≡ q → (grown_body names i block head blocks).head ≡ head
grown_head names i block head blocks true e = rw e refl
grown_head names i block head blocks false e = rw e refl

instr_in_holds : (o : Out (List (List ℕ))) (i : InstrView) (block : BlockView) (b : BodyState) (m : ModuleView) (next : State) (cuts : List Cut) → is_symbol b.head.name m ≡ false → holds_close cuts ≡ true
    → then_inside (instr_in o i block b) m ≡ Ok next → Holds next cuts
instr_in_holds (Ok names) i block b m next cuts new pending h =
    inside_holds m (grown_body names i block b.head b.blocks) next cuts
    (ap (λ (f : FunctionView). is_symbol f.name m) (grown_head names i block b.head b.blocks (is_end i.act) refl) ∙ new) pending h
instr_in_holds (Err reason) i block b m next cuts new pending h = never next reason h

instr_holds : (open_block : Option BlockView) (i : InstrView) (b : BodyState) (m : ModuleView) (next : State) (cuts : List Cut) → is_symbol b.head.name m ≡ false → holds_close cuts ≡ true
    → then_inside (instr_at open_block i b) m ≡ Ok next → Holds next cuts
instr_holds None i b m next cuts new pending h = never next K2 h
instr_holds (Some block) i b m next cuts new pending h = instr_in_holds (with_result i.result b.names) i block b m next cuts new pending h

-- another item than `}` does not close the body
not_closed : (q : Bool) (c : Cut) (inner : Inner) → is_close c.lexemes ≡ q → Reads true (inner_of inner) c.lexemes → (inner ≡ close_item → ⊥) → q ≡ false
not_closed true c inner e h other = absurd (other (close_is inner c.lexemes h.1 e))
not_closed false c inner e h other = refl

still_open : (c : Cut) (cuts : List Cut) (inner : Inner) → Reads true (inner_of inner) c.lexemes → (inner ≡ close_item → ⊥) → holds_close (c ∷ cuts) ≡ true → holds_close cuts ≡ true
still_open c cuts inner h other pending = open_on (is_close c.lexemes) cuts pending (not_closed (is_close c.lexemes) c inner refl h other)

label_other : (name : List ℕ) → label_item name ≡ close_item → ⊥
label_other name h = cc

instr_other : (result : Option (List ℕ)) (act : Act) → instr_item result act ≡ close_item → ⊥
instr_other result act h = cc

inner_holds : (inner : Inner) (c : Cut) (cuts : List Cut) (b : BodyState) (m : ModuleView) (next : State) → Reads true (inner_of inner) c.lexemes → is_symbol b.head.name m ≡ false
    → holds_close (c ∷ cuts) ≡ true → after_inner inner c.line b m ≡ Ok next → Holds next cuts
inner_holds (label_item name) c cuts b m next h new pending e =
    label_holds b.block (record { line = c.line; name = name; instrs = [] }) b m next cuts new (still_open c cuts (label_item name) h (label_other name) pending) e
inner_holds (instr_item result act) c cuts b m next h new pending e =
    instr_holds b.block (record { line = c.line; result = result; act = act }) b m next cuts new (still_open c cuts (instr_item result act) h (instr_other result act) pending) e
inner_holds close_item c cuts b m next h new pending e = then_closed_holds (closed_at b.block b.blocks b.head) m next cuts e

-- a dropped item
ranged_holds : (o : Out (List (List ℕ × RangeView))) (b : Option BodyState) (m : ModuleView) (next : State) (cuts : List Cut) → IsNewBody b (record { whole = m; body = b }) → IsPendingBody b cuts
    → then_whole (ranges_in o m) (record { whole = m; body = b }) ≡ Ok next → Holds next cuts
ranged_holds (Ok ranges) None m next cuts new pending h = subst (λ s. Holds s cuts) (ok_is _ _ h) (record { new = new; pending = pending })
ranged_holds (Ok ranges) (Some b) m next cuts new pending h = subst (λ s. Holds s cuts) (ok_is _ _ h) (record { new = new; pending = pending })
ranged_holds (Err reason) b m next cuts new pending h = never next reason h

pending_on : (b : Option BodyState) (c : Cut) (cuts : List Cut) → is_dropped_item c.lexemes ≡ true → IsPendingBody b (c ∷ cuts) → IsPendingBody b cuts
pending_on None c cuts dropped h = tt
pending_on (Some b) c cuts dropped h = open_on (is_close c.lexemes) cuts h (dropped_open c.lexemes dropped)

reading_holds : (r : Reading) (c : Cut) (cuts : List Cut) (b : Option BodyState) (m : ModuleView) (next : State) → Reads (is_inside (record { whole = m; body = b })) r c.lexemes
    → Holds (record { whole = m; body = b }) (c ∷ cuts) → after_reading r c.line cuts (record { whole = m; body = b }) ≡ Ok next → Holds next cuts
reading_holds passed c cuts b m next read h e = subst (λ s. Holds s cuts) (ok_is _ _ e) (record { new = h.new; pending = pending_on b c cuts read.0 h.pending })
reading_holds (ranged name numbers) c cuts b m next read h e =
    ranged_holds (with_entry name (record { line = c.line; numbers = numbers }) m.ranges) b m next cuts h.new (pending_on b c cuts read.0 h.pending) e
reading_holds (top_of top) c cuts None m next read h e = top_holds top c.line cuts m next e
reading_holds (top_of top) c cuts (Some b) m next read h e = never next K2 e
reading_holds (inner_of inner) c cuts None m next read h e = never next K2 e
reading_holds (inner_of inner) c cuts (Some b) m next read h e = inner_holds inner c cuts b m next read h.new h.pending e
reading_holds (refused reason) c cuts b m next read h e = never next reason e

leads_by : (closed : Bool) (s : State) (c : Cut) (cuts : List Cut) (next : State) → Holds s (c ∷ cuts) → Passes closed s c cuts (Ok next) → Holds next cuts
leads_by true s c cuts next h (r, read, is) = reading_holds r c cuts s.body s.whole next read h (sym is)
leads_by false s c cuts next h e = never next K2 (sym e)

-- both stay so behind an item
pub still_holds : (s : State) (c : Cut) (cuts : List Cut) (next : State) → Holds s (c ∷ cuts) → Leads s c cuts next → Holds next cuts
still_holds s c cuts next h leads = leads_by (ends c cuts) s c cuts next h leads
