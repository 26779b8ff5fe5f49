-- Items that print a module spell it.
use Rattle.std.proofs.Common.{◌≡◌, ℕ, zero, suc, Bool, true, false, not, ◌&&◌, ◌||◌, ◌⊎◌, inl, inr, cond, if◌then◌else◌, Option, Some, None, option_to_list, Result, Ok, Err, IfOk, IfErr, List, [], ◌∷◌, ◌++◌, map, flat_map, All, Contains, bytes_eq, refl, sym, ap, subst, ◌∙◌, arith}
use Rattle.std.specs.List.{list_any, list_all, AllByRecursion, IsDistinct}
use Rattle.std.specs.Cmp.Lexicographic.{nat_list_eq_equiv}
use Rattle.std.proofs.lemmas.List.{append_assoc, append-nil}
use Rattle.std.proofs.lemmas.List.Folds.{list_any-append}
use Rattle.ir_ast.specs.Plain.{Ty}
use Rattle.ir_ast.specs.Program.{LineView, TypeView, GlobalView, RangeView, InstrView, BlockView, FunctionView, ModuleView}
use Rattle.ir_ast.specs.ProgramView.{view_module}
use Rattle.ir_ast.specs.Table.{names_of}
use Rattle.ir_ast.proofs.Placing.{place_among}
use Rattle.ir_ast.specs.declared.module.Module.{Module}
use Rattle.ir_ast.specs.declared.fault.KernelStop.{KernelStop}
use Rattle.ir_ast.specs.declared.fault.KernelReason.TheVariants.{K2, K4}
use Rattle.ir_lex.specs.Cut.{Cut, cut, begins_define}
use Rattle.ir_lex.specs.Drop.{is_dropped_item}
use Rattle.ir_lex.specs.Items.{layout_item, type_item, global_item, define_item, declare_item, label_item, instr_item, close_item}
use Rattle.ir_read.specs.Ahead.{holds_close, begins_unlabelled}
use Rattle.ir_read.specs.State.{BodyState, State, at_start, is_inside}
use Rattle.ir_read.specs.Reads.{Reading, passed, ranged, top_of, inner_of, Reads}
use Rattle.ir_read.specs.Steps.{is_entry, is_symbol, with_name, with_names, after_name, with_block, scope_of, begun, labelled, with_result, instr_in, grown_body, closed_at, then_closed, then_inside, with_function, with_new_global, layout_in, types_in, ranges_in, then_outside, then_whole, first_block, first_name, begun_by, grown_block, after_reading}
use Rattle.ir_read.specs.Spelling.{Leads, Passes, SpellsFrom, IsModuleText, IsStop, IsModule}
use Rattle.ir_read.specs.Printing.{Section, layout_section, type_section, global_section, declared_section, labelled_section, unlabelled_section, unlabelled_block, with_blocks, layouts_in, globals_in, functions_in, Print, inner_on, closing, instr_print, block_prints, head_print, section_prints, IsPrint, ArePrints, SpellsNoRange, IsRange, HoldRanges, kept, dropped, AreScopes, IsFunctionBody, IsPrinting, IsPrintedText}
use Rattle.ir_read.specs.Printing as print
use Rattle.ir_read.proofs.One.{module_only}
use Rattle.ir_read.proofs.Shaped.{is_last_same}
use Rattle.ir_read.proofs.Printed.{either_false, both_true, Adds, Behind, Inside, more_prints, with_range}
use Rattle.ir_read.proofs.Foreseen.{and_true, or_true, close_ahead, label_ahead, instr_ahead, dropped_no_define, layout_no_define, type_no_define, global_no_define, declare_no_define, close_no_define}
use Rattle.ir_type.specs.Items.{IsFunction}
use Rattle.ir_type.specs.Shape.{is_last, Ends}

record Good (m : ModuleView) : Type 0 where
  scopes : AreScopes m
  bodies : (f : FunctionView) (blocks : List BlockView) → IsFunction m f → f.body ≡ Some blocks → IsFunctionBody f blocks

-- ---- names that differ

none_any : (x : List ℕ) (ys : List (List ℕ)) → AllByRecursion (λ y. bytes_eq x y ≡ false) ys → list_any (bytes_eq x) ys ≡ false
none_any x [] h = refl
none_any x (y ∷ ys) h = ap (λ b. b || list_any (bytes_eq x) ys) h.0 ∙ none_any x ys h.1

all_middle : (P : List ℕ → Type 0) (xs ys : List (List ℕ)) (x : List ℕ) → AllByRecursion P (xs ++ x ∷ ys) → P x
all_middle P [] ys x h = h.0
all_middle P (z ∷ xs) ys x h = all_middle P xs ys x h.1

absent : (xs ys : List (List ℕ)) (x : List ℕ) → IsDistinct bytes_eq (xs ++ x ∷ ys) → list_any (bytes_eq x) (xs ++ ys) ≡ false
unfolding IsDistinct
absent [] ys x d = none_any x ys d.0
absent (z ∷ xs) ys x d =
    ap (λ b. b || list_any (bytes_eq x) (xs ++ ys)) (nat_list_eq_equiv.symm x z ∙ all_middle (λ y. bytes_eq z y ≡ false) xs ys x d.0) ∙ absent xs ys x d.1

any_parts : (x : List ℕ) (xs ys : List (List ℕ)) → list_any (bytes_eq x) (xs ++ ys) ≡ false → (list_any (bytes_eq x) xs ≡ false) × (list_any (bytes_eq x) ys ≡ false)
any_parts x xs ys h = either_false (list_any (bytes_eq x) xs) (list_any (bytes_eq x) ys) (sym (list_any-append (bytes_eq x) xs ys) ∙ h)

before_absent : (xs ys : List (List ℕ)) (x : List ℕ) → IsDistinct bytes_eq (xs ++ x ∷ ys) → list_any (bytes_eq x) xs ≡ false
before_absent xs ys x d = (any_parts x xs ys (absent xs ys x d)).0

names-append : {E : Type 0} (xs ys : List (List ℕ × E)) → names_of (xs ++ ys) ≡ names_of xs ++ names_of ys
names-append [] ys = refl
names-append (x ∷ xs) ys = ap (λ ns. x.0 ∷ ns) (names-append xs ys)

entry_new : {E : Type 0} (all before after : List (List ℕ × E)) (x : List ℕ) (e : E) → all ≡ before ++ (x, e) ∷ after → IsDistinct bytes_eq (names_of all) → is_entry x before ≡ false
entry_new all before after x e is d =
    place_among x before ∙ before_absent (names_of before) (names_of after) x (subst (IsDistinct bytes_eq) (ap names_of is ∙ names-append before ((x, e) ∷ after)) d)

symbol_by : (x : List ℕ) (w : ModuleView) → list_any (bytes_eq x) (names_of w.globals) ≡ false → list_any (bytes_eq x) (names_of w.functions) ≡ false → is_symbol x w ≡ false
symbol_by x w g f = ap (λ b. b || is_entry x w.functions) (place_among x w.globals ∙ g) ∙ place_among x w.functions ∙ f

global_new : (w m : ModuleView) (x : List ℕ) (g : GlobalView) (gs : List (List ℕ × GlobalView)) (fs : List (List ℕ × FunctionView)) → m.globals ≡ w.globals ++ (x, g) ∷ gs → m.functions ≡ w.functions ++ fs → AreScopes m
    → is_symbol x w ≡ false
global_new w m x g gs fs gis fis scopes =
    let wg = names_of w.globals in
    let wf = names_of w.functions in
    let parts : names_of m.globals ++ names_of m.functions ≡ wg ++ x ∷ (names_of gs ++ (wf ++ names_of fs)) =
    ap (λ ns. ns ++ names_of m.functions) (ap names_of gis ∙ names-append w.globals ((x, g) ∷ gs))
    ∙ append_assoc wg (x ∷ names_of gs) (names_of m.functions)
    ∙ ap (λ ns. wg ++ x ∷ (names_of gs ++ ns)) (ap names_of fis ∙ names-append w.functions fs) in
    let none = any_parts x wg (names_of gs ++ (wf ++ names_of fs)) (absent wg (names_of gs ++ (wf ++ names_of fs)) x (subst (IsDistinct bytes_eq) parts scopes.symbols)) in
    symbol_by x w none.0 (any_parts x wf (names_of fs) (any_parts x (names_of gs) (wf ++ names_of fs) none.1).1).0

function_new : (w m : ModuleView) (x : List ℕ) (f : FunctionView) (gs : List (List ℕ × GlobalView)) (fs : List (List ℕ × FunctionView)) → m.globals ≡ w.globals ++ gs → m.functions ≡ w.functions ++ (x, f) ∷ fs → AreScopes m
    → is_symbol x w ≡ false
function_new w m x f gs fs gis fis scopes =
    let wg = names_of w.globals in
    let wf = names_of w.functions in
    let front = (wg ++ names_of gs) ++ wf in
    let parts : names_of m.globals ++ names_of m.functions ≡ front ++ x ∷ names_of fs =
    ap (λ ns. ns ++ names_of m.functions) (ap names_of gis ∙ names-append w.globals gs)
    ∙ ap (λ ns. (wg ++ names_of gs) ++ ns) (ap names_of fis ∙ names-append w.functions ((x, f) ∷ fs))
    ∙ sym (append_assoc (wg ++ names_of gs) wf (x ∷ names_of fs)) in
    let none = any_parts x (wg ++ names_of gs) wf (before_absent front (names_of fs) x (subst (IsDistinct bytes_eq) parts scopes.symbols)) in
    symbol_by x w (any_parts x wg (names_of gs) none.0).0 none.1

name_new : (names more : List (List ℕ)) (x : List ℕ) → IsDistinct bytes_eq (names ++ x ∷ more) → with_name x names ≡ Ok (names ++ x ∷ [])
name_new names more x d = ap (λ b. if b then Err K4 else Ok (names ++ x ∷ [])) (before_absent names more x d)

one_on : (names more : List (List ℕ)) (x : List ℕ) → IsDistinct bytes_eq (names ++ x ∷ more) → IsDistinct bytes_eq ((names ++ x ∷ []) ++ more)
one_on names more x d = subst (IsDistinct bytes_eq) (sym (append_assoc names (x ∷ []) more)) d

names_new : (names others more : List (List ℕ)) → IsDistinct bytes_eq (names ++ (others ++ more)) → with_names names others ≡ Ok (names ++ others)
names_new names [] more d = ap Ok (sym (append-nil names))
names_new names (x ∷ others) more d =
    ap (λ o. after_name o (λ names. with_names names others)) (name_new names (others ++ more) x d)
    ∙ names_new (names ++ x ∷ []) others more (one_on names (others ++ more) x d)
    ∙ ap Ok (append_assoc names (x ∷ []) others)

-- ---- blocks that end

abbrev ends_well : List InstrView → Bool
ends_well [] = false
ends_well (i ∷ []) = is_last i
ends_well (i ∷ j ∷ is) = not (is_last i) && ends_well (j ∷ is)

well_by : (before : List InstrView) (last : InstrView) → is_last last ≡ true → list_any is_last before ≡ false → ends_well (before ++ last ∷ []) ≡ true
well_by [] last h none = h
well_by (i ∷ []) last h none = both_true (not (is_last i)) (is_last last) (ap not (either_false (is_last i) false none).0) h
well_by (i ∷ j ∷ before) last h none =
    let e = either_false (is_last i) (list_any is_last (j ∷ before)) none in
    both_true (not (is_last i)) (ends_well ((j ∷ before) ++ last ∷ [])) (ap not e.0) (well_by (j ∷ before) last h e.1)

block_well : (b : BlockView) → Ends b → ends_well b.instrs ≡ true
block_well b (before, last, is, h, none) = ap ends_well is ∙ well_by before last h none

abbrev all_well : List BlockView → Bool
all_well bs = list_all (λ b. ends_well b.instrs) bs

blocks_well : (bs : List BlockView) → All Ends bs → all_well bs ≡ true
blocks_well [] h = refl
blocks_well (b ∷ bs) h = both_true (ends_well b.instrs) (all_well bs) (block_well b (h zero b (omega arith))) (blocks_well bs (λ k d below. h (suc k) d (omega (arith, below))))

-- ---- what is still to come of a body

abbrev results : List InstrView → List (List ℕ)
results is = flat_map (λ i. option_to_list i.result) is

abbrev names_in : BlockView → List (List ℕ)
names_in b = b.name ∷ results b.instrs

abbrev names_to_come : Option BlockView → List InstrView → List BlockView → List (List ℕ)
names_to_come None more others = flat_map names_in others
names_to_come (Some block) more others = results more ++ flat_map names_in others

abbrev are_well : Option BlockView → List InstrView → List BlockView → Bool
are_well None more others = all_well others
are_well (Some block) more others = ends_well more && all_well others

record Going (names : List (List ℕ)) (block : Option BlockView) (more : List InstrView) (others : List BlockView) : Type 0 where
  distinct : IsDistinct bytes_eq (names ++ names_to_come block more others)
  ended : are_well block more others ≡ true

abbrev Coming : Option BodyState → ModuleView → List Cut → ModuleView → Type 0
Coming None w cs m = Behind w [] cs m
Coming (Some b) w cs m = (r : Inside w b.head b.blocks b.block cs m) × Going b.names b.block r.more r.others

abbrev state : ModuleView → Option BodyState → State
state w o = record { whole = w; body = o }

-- an item that leads on
record Step (w : ModuleView) (o : Option BodyState) (c : Cut) (after : List Cut) (m : ModuleView) : Type 0 where
  whole : ModuleView
  body : Option BodyState
  leads : Leads (state w o) c after (state whole body)
  coming : Coming body whole after m

lead : (s next : State) (c : Cut) (after : List Cut) → c.closed ≡ true → (not (begins_define c.lexemes) || holds_close after) ≡ true → (r : Reading) → Reads (is_inside s) r c.lexemes → after_reading r c.line after s ≡ Ok next → Leads s c after next
lead s next c after closed on r reads is = subst (λ b. Passes b s c after (Ok next)) (sym (both_true c.closed (not (begins_define c.lexemes) || holds_close after) closed on)) (r, reads, sym is)

no_define : (c : Cut) (after : List Cut) → begins_define c.lexemes ≡ false → (not (begins_define c.lexemes) || holds_close after) ≡ true
no_define c after h = ap (λ b. not b || holds_close after) h

closes_later : (c : Cut) (after : List Cut) → holds_close after ≡ true → (not (begins_define c.lexemes) || holds_close after) ≡ true
closes_later c after h = ap (λ b. not (begins_define c.lexemes) || b) h ∙ or_true (not (begins_define c.lexemes))

at_line : (r : Reading) (line : ℕ) (c : Cut) (after : List Cut) (s next : State) → line ≡ c.line → after_reading r line after s ≡ Ok next → after_reading r c.line after s ≡ Ok next
at_line r line c after s next is h = subst (λ l. after_reading r l after s ≡ Ok next) is h

-- ---- dropped items

kept_on : (c : Cut) (cs : List Cut) (ps : List Print) → is_dropped_item c.lexemes ≡ true → ArePrints ps (kept (c ∷ cs)) → ArePrints ps (kept cs)
kept_on c cs ps drops h = subst (λ b. ArePrints ps (cond (not b) (c ∷ kept cs) (kept cs))) drops h

kept_here : (c : Cut) (cs : List Cut) (ps : List Print) → is_dropped_item c.lexemes ≡ false → ArePrints ps (kept (c ∷ cs)) → ArePrints ps (c ∷ kept cs)
kept_here c cs ps keeps h = subst (λ b. ArePrints ps (cond (not b) (c ∷ kept cs) (kept cs))) keeps h

dropped_here : (c : Cut) (cs : List Cut) (ranges : List (List ℕ × RangeView)) → is_dropped_item c.lexemes ≡ true → HoldRanges (dropped (c ∷ cs)) ranges → HoldRanges (c ∷ dropped cs) ranges
dropped_here c cs ranges drops h = subst (λ b. HoldRanges (cond b (c ∷ dropped cs) (dropped cs)) ranges) drops h

dropped_on : (c : Cut) (cs : List Cut) (ranges : List (List ℕ × RangeView)) → is_dropped_item c.lexemes ≡ false → HoldRanges (dropped (c ∷ cs)) ranges → HoldRanges (dropped cs) ranges
dropped_on c cs ranges keeps h = subst (λ b. HoldRanges (cond b (c ∷ dropped cs) (dropped cs)) ranges) keeps h

-- the item is kept as a range, or spells none
record Ranged (w : ModuleView) (c : Cut) (G : ModuleView → Type 0) : Type 0 where
  name : List ℕ
  range : RangeView
  own : IsRange (name, range) c
  new : is_entry name w.ranges ≡ false
  on : G (with_range w name range)

drop_item : (w : ModuleView) (first : List Print) (c : Cut) (after : List Cut) (m : ModuleView) → Good m → is_dropped_item c.lexemes ≡ true → Behind w first (c ∷ after) m
    → (SpellsNoRange c × Behind w first after m) ⊎ Ranged w c (λ n. Behind n first after m)
drop_item w first c after m good drops r = by (dropped_here c after r.ranges drops r.dropped_items)
  where
    closed : list_all (λ c. c.closed) after ≡ true
    closed = (and_true c.closed (list_all (λ c. c.closed) after) r.closed).1

    prints : ArePrints (first ++ flat_map section_prints r.sections) (kept after)
    prints = kept_on c after (first ++ flat_map section_prints r.sections) drops r.kept_items

    by : HoldRanges (c ∷ dropped after) r.ranges → (SpellsNoRange c × Behind w first after m) ⊎ Ranged w c (λ n. Behind n first after m)
    by (inl (none, h)) = inl (none, record { sections = r.sections; ranges = r.ranges; closed = closed; kept_items = prints; dropped_items = h; adds = r.adds })
    by (inr ((name, range), others, is, own, h)) =
        let all : m.ranges ≡ w.ranges ++ (name, range) ∷ others = r.adds.ranges ∙ ap (λ xs. w.ranges ++ xs) is in
        inr (record {
          name = name;
          range = range;
          own = own;
          new = entry_new m.ranges w.ranges others name range all good.scopes.ranges;
          on = record {
            sections = r.sections;
            ranges = others;
            closed = closed;
            kept_items = prints;
            dropped_items = h;
            adds = record {
              layout = r.adds.layout;
              types = r.adds.types;
              globals = r.adds.globals;
              functions = r.adds.functions;
              ranges = all ∙ sym (append_assoc w.ranges ((name, range) ∷ []) others);
              scopes = λ sc. good.scopes;
            };
          };
        })

drop_coming : (o : Option BodyState) (w : ModuleView) (c : Cut) (after : List Cut) (m : ModuleView) → Good m → is_dropped_item c.lexemes ≡ true → Coming o w (c ∷ after) m
    → (c.closed ≡ true) × ((SpellsNoRange c × Coming o w after m) ⊎ Ranged w c (λ n. Coming o n after m))
drop_coming None w c after m good drops r = ((and_true c.closed (list_all (λ c. c.closed) after) r.closed).0, drop_item w [] c after m good drops r)
drop_coming (Some b) w c after m good drops (r, going) =
    ((and_true c.closed (list_all (λ c. c.closed) after) r.behind.closed).0, by (drop_item whole prints c after m good drops r.behind))
  where
    whole : ModuleView
    whole = with_function (with_blocks b.head (r.first ∷ r.rest)) w

    prints : List Print
    prints = more_prints b.block r.more r.others ++ closing ∷ []

    by : (SpellsNoRange c × Behind whole prints after m) ⊎ Ranged whole c (λ n. Behind n prints after m) → (SpellsNoRange c × Coming (Some b) w after m) ⊎ Ranged w c (λ n. Coming (Some b) n after m)
    by (inl (none, h)) = inl (none, (record { more = r.more; others = r.others; first = r.first; rest = r.rest; whole = r.whole; behind = h }, going))
    by (inr h) = inr (record {
      name = h.name;
      range = h.range;
      own = h.own;
      new = h.new;
      on = (record { more = r.more; others = r.others; first = r.first; rest = r.rest; whole = r.whole; behind = h.on }, going);
    })

drop_step : (o : Option BodyState) (w : ModuleView) (c : Cut) (after : List Cut) (m : ModuleView) → Good m → is_dropped_item c.lexemes ≡ true → Coming o w (c ∷ after) m → Step w o c after m
drop_step o w c after m good drops coming = by (drop_coming o w c after m good drops coming)
  where
    on : (not (begins_define c.lexemes) || holds_close after) ≡ true
    on = no_define c after (dropped_no_define c.lexemes drops)

    by : (c.closed ≡ true) × ((SpellsNoRange c × Coming o w after m) ⊎ Ranged w c (λ n. Coming o n after m)) → Step w o c after m
    by (closed, inl (none, h)) = record { whole = w; body = o; leads = lead (state w o) (state w o) c after closed on passed (drops, none) refl; coming = h }
    by (closed, inr h) =
        let next = state (with_range w h.name h.range) o in
        record {
          whole = with_range w h.name h.range;
          body = o;
          leads = lead (state w o) next c after closed on (ranged h.name h.range.numbers) (drops, h.own.1)
              (at_line (ranged h.name h.range.numbers) h.range.line c after (state w o) next h.own.0
              (ap (λ b. then_whole (ranges_in (if b then Err K4 else Ok (w.ranges ++ (h.name, h.range) ∷ [])) w) (state w o)) h.new));
          coming = h.on;
        }

-- ---- kept items

-- behind an item that is kept
record Kept (w : ModuleView) (p : Print) (first : List Print) (c : Cut) (after : List Cut) (m : ModuleView) : Type 0 where
  closed : c.closed ≡ true
  own : IsPrint p c
  behind : Behind w first after m

keep_item : (w : ModuleView) (p : Print) (first : List Print) (c : Cut) (after : List Cut) (m : ModuleView) → is_dropped_item c.lexemes ≡ false → Behind w (p ∷ first) (c ∷ after) m → Kept w p first c after m
keep_item w p first c after m keeps r =
    let closed = and_true c.closed (list_all (λ c. c.closed) after) r.closed in
    let prints = kept_here c after (p ∷ (first ++ flat_map section_prints r.sections)) keeps r.kept_items in
    record {
      closed = closed.0;
      own = prints.0;
      behind = record { sections = r.sections; ranges = r.ranges; closed = closed.1; kept_items = prints.1; dropped_items = dropped_on c after r.ranges keeps r.dropped_items; adds = r.adds };
    }

-- the `}` of a body is still to come
close_comes : (w : ModuleView) (ps : List Print) (after : List Cut) (m : ModuleView) → Behind w (ps ++ closing ∷ []) after m → holds_close after ≡ true
close_comes w ps after m r =
    close_ahead after ps (flat_map section_prints r.sections) (subst (λ qs. ArePrints qs (kept after)) (append_assoc ps (closing ∷ []) (flat_map section_prints r.sections)) r.kept_items)

-- ---- items of bodies

closed_whole : (blocks : List BlockView) (first : BlockView) (rest : List BlockView) (head : FunctionView) → blocks ≡ first ∷ rest → closed_at None blocks head ≡ Ok (with_blocks head (first ∷ rest))
closed_whole blocks first rest head is = ap (λ bs. closed_at None bs head) is

between_step : (w : ModuleView) (head : FunctionView) (names : List (List ℕ)) (blocks others : List BlockView) (first : BlockView) (rest : List BlockView) (c : Cut) (after : List Cut) (m : ModuleView)
    → is_dropped_item c.lexemes ≡ false → blocks ++ others ≡ first ∷ rest → IsDistinct bytes_eq (names ++ flat_map names_in others) → all_well others ≡ true
    → Behind (with_function (with_blocks head (first ∷ rest)) w) (flat_map block_prints others ++ closing ∷ []) (c ∷ after) m
    → Step w (Some (record { head = head; names = names; blocks = blocks; block = None })) c after m
between_step w head names blocks [] first rest c after m keeps is d well r =
    let b : BodyState = record { head = head; names = names; blocks = blocks; block = None } in
    let f = with_blocks head (first ∷ rest) in
    let k = keep_item (with_function f w) closing [] c after m keeps r in
    record {
      whole = with_function f w;
      body = None;
      leads = lead (state w (Some b)) (state (with_function f w) None) c after k.closed (no_define c after (close_no_define c.lexemes k.own)) (inner_of close_item) (refl, k.own)
          (ap (λ o. then_closed o w) (closed_whole blocks first rest head (sym (append-nil blocks) ∙ is)));
      coming = k.behind;
    }
between_step w head names blocks (block ∷ others) first rest c after m keeps is d well r =
    let b : BodyState = record { head = head; names = names; blocks = blocks; block = None } in
    let new : BlockView = record { line = block.line; name = block.name; instrs = [] } in
    let next : BodyState = record { head = head; names = names ++ block.name ∷ []; blocks = blocks; block = Some new } in
    let f = with_blocks head (first ∷ rest) in
    let ps = map instr_print block.instrs ++ flat_map block_prints others in
    let k = keep_item (with_function f w) (inner_on block.line (label_item block.name)) (ps ++ closing ∷ []) c after m keeps r in
    record {
      whole = w;
      body = Some next;
      leads = lead (state w (Some b)) (state w (Some next)) c after k.closed (closes_later c after (close_comes (with_function f w) ps after m k.behind)) (inner_of (label_item block.name)) (refl, k.own.1)
          (at_line (inner_of (label_item block.name)) block.line c after (state w (Some b)) (state w (Some next)) k.own.0
          (ap (λ o. then_inside (labelled o new b) w) (name_new names (results block.instrs ++ flat_map names_in others) block.name d)));
      coming = (
        record { more = block.instrs; others = others; first = first; rest = rest; whole = is; behind = k.behind },
        record { distinct = one_on names (results block.instrs ++ flat_map names_in others) block.name d; ended = well },
      );
    }

result_new : (names more : List (List ℕ)) (o : Option (List ℕ)) → IsDistinct bytes_eq (names ++ (option_to_list o ++ more)) → with_result o names ≡ Ok (names ++ option_to_list o)
result_new names more None d = ap Ok (sym (append-nil names))
result_new names more (Some x) d = name_new names more x d

-- the state behind an instruction, which ends its block or does not
grown_last : (names : List (List ℕ)) (i : InstrView) (block : BlockView) (head : FunctionView) (blocks : List BlockView) → is_last i ≡ true
    → grown_body names i block head blocks ≡ record { head = head; names = names; blocks = blocks ++ grown_block block i ∷ []; block = None }
grown_last names i block head blocks h =
    ap (λ b. if b then record { head = head; names = names; blocks = blocks ++ grown_block block i ∷ []; block = None } else record { head = head; names = names; blocks = blocks; block = Some (grown_block block i) })
    (is_last_same i.line i.result i.act ∙ h)

grown_more : (names : List (List ℕ)) (i : InstrView) (block : BlockView) (head : FunctionView) (blocks : List BlockView) → is_last i ≡ false
    → grown_body names i block head blocks ≡ record { head = head; names = names; blocks = blocks; block = Some (grown_block block i) }
grown_more names i block head blocks h =
    ap (λ b. if b then record { head = head; names = names; blocks = blocks ++ grown_block block i ∷ []; block = None } else record { head = head; names = names; blocks = blocks; block = Some (grown_block block i) })
    (is_last_same i.line i.result i.act ∙ h)

not_true : (b : Bool) → not b ≡ true → b ≡ false
not_true true h = cc
not_true false h = refl

instr_leads : (w : ModuleView) (head : FunctionView) (names : List (List ℕ)) (blocks : List BlockView) (block : BlockView) (i : InstrView) (more : List (List ℕ)) (next : BodyState) (c : Cut) (after : List Cut)
    → c.closed ≡ true → holds_close after ≡ true → IsPrint (instr_print i) c → IsDistinct bytes_eq (names ++ (option_to_list i.result ++ more)) → grown_body (names ++ option_to_list i.result) i block head blocks ≡ next
    → Leads (state w (Some (record { head = head; names = names; blocks = blocks; block = Some block }))) c after (state w (Some next))
instr_leads w head names blocks block i more next c after closed comes own d grows =
    let b : BodyState = record { head = head; names = names; blocks = blocks; block = Some block } in
    lead (state w (Some b)) (state w (Some next)) c after closed (closes_later c after comes) (inner_of (instr_item i.result i.act)) (refl, own.1)
    (at_line (inner_of (instr_item i.result i.act)) i.line c after (state w (Some b)) (state w (Some next)) own.0
    (ap (λ o. then_inside (instr_in o i block b) w) (result_new names more i.result d) ∙ ap (λ n. then_inside (Ok n) w) grows))

within_step : (w : ModuleView) (head : FunctionView) (names : List (List ℕ)) (blocks : List BlockView) (block : BlockView) (more : List InstrView) (others : List BlockView) (first : BlockView) (rest : List BlockView) (c : Cut)
    (after : List Cut) (m : ModuleView) → is_dropped_item c.lexemes ≡ false → blocks ++ record block { instrs = block.instrs ++ more } ∷ others ≡ first ∷ rest
    → IsDistinct bytes_eq (names ++ (results more ++ flat_map names_in others)) → (ends_well more && all_well others) ≡ true
    → Behind (with_function (with_blocks head (first ∷ rest)) w) ((map instr_print more ++ flat_map block_prints others) ++ closing ∷ []) (c ∷ after) m
    → Step w (Some (record { head = head; names = names; blocks = blocks; block = Some block })) c after m
within_step w head names blocks block [] others first rest c after m keeps is d well r = cc
within_step w head names blocks block (i ∷ []) others first rest c after m keeps is d well r =
    let f = with_blocks head (first ∷ rest) in
    let ps = flat_map block_prints others in
    let k = keep_item (with_function f w) (instr_print i) (ps ++ closing ∷ []) c after m keeps r in
    let own = option_to_list i.result in
    let to_come = flat_map names_in others in
    let e = and_true (is_last i) (all_well others) well in
    let d2 : IsDistinct bytes_eq (names ++ (own ++ to_come)) = subst (λ xs. IsDistinct bytes_eq (names ++ xs)) (append_assoc own [] to_come) d in
    let next : BodyState = record { head = head; names = names ++ own; blocks = blocks ++ grown_block block i ∷ []; block = None } in
    record {
      whole = w;
      body = Some next;
      leads = instr_leads w head names blocks block i to_come next c after k.closed (close_comes (with_function f w) ps after m k.behind) k.own d2 (grown_last (names ++ own) i block head blocks e.0);
      coming = (
        record { more = []; others = others; first = first; rest = rest; whole = append_assoc blocks (grown_block block i ∷ []) others ∙ is; behind = k.behind },
        record { distinct = subst (IsDistinct bytes_eq) (sym (append_assoc names own to_come)) d2; ended = e.1 },
      );
    }
within_step w head names blocks block (i ∷ j ∷ more) others first rest c after m keeps is d well r =
    let f = with_blocks head (first ∷ rest) in
    let ps = map instr_print (j ∷ more) ++ flat_map block_prints others in
    let k = keep_item (with_function f w) (instr_print i) (ps ++ closing ∷ []) c after m keeps r in
    let own = option_to_list i.result in
    let to_come = results (j ∷ more) ++ flat_map names_in others in
    let e = and_true (not (is_last i) && ends_well (j ∷ more)) (all_well others) well in
    let e2 = and_true (not (is_last i)) (ends_well (j ∷ more)) e.0 in
    let d2 : IsDistinct bytes_eq (names ++ (own ++ to_come)) = subst (λ xs. IsDistinct bytes_eq (names ++ xs)) (append_assoc own (results (j ∷ more)) (flat_map names_in others)) d in
    let next : BodyState = record { head = head; names = names ++ own; blocks = blocks; block = Some (grown_block block i) } in
    record {
      whole = w;
      body = Some next;
      leads = instr_leads w head names blocks block i to_come next c after k.closed (close_comes (with_function f w) ps after m k.behind) k.own d2 (grown_more (names ++ own) i block head blocks (not_true (is_last i) e2.0));
      coming = (
        record { more = j ∷ more; others = others; first = first; rest = rest; whole = ap (λ is. blocks ++ record block { instrs = is } ∷ others) (append_assoc block.instrs (i ∷ []) (j ∷ more)) ∙ is; behind = k.behind },
        record { distinct = subst (IsDistinct bytes_eq) (sym (append_assoc names own to_come)) d2; ended = both_true (ends_well (j ∷ more)) (all_well others) e2.1 e.1 },
      );
    }

inside_step : (w : ModuleView) (head : FunctionView) (names : List (List ℕ)) (blocks : List BlockView) (block : Option BlockView) (c : Cut) (after : List Cut) (m : ModuleView) → is_dropped_item c.lexemes ≡ false
    → (r : Inside w head blocks block (c ∷ after) m) → Going names block r.more r.others → Step w (Some (record { head = head; names = names; blocks = blocks; block = block })) c after m
inside_step w head names blocks None c after m keeps r going = between_step w head names blocks r.others r.first r.rest c after m keeps r.whole going.distinct going.ended r.behind
inside_step w head names blocks (Some block) c after m keeps r going =
    within_step w head names blocks block r.more r.others r.first r.rest c after m keeps r.whole going.distinct going.ended r.behind

-- ---- items outside of bodies

-- the sections behind the first
record Sections (w : ModuleView) (section : Section) (c : Cut) (after : List Cut) (m : ModuleView) : Type 0 where
  others : List Section
  ranges : List (List ℕ × RangeView)
  closed_item : c.closed ≡ true
  closed : list_all (λ c. c.closed) after ≡ true
  keeps : is_dropped_item c.lexemes ≡ false
  prints : ArePrints (section_prints section ++ flat_map section_prints others) (c ∷ kept after)
  dropped_items : HoldRanges (dropped after) ranges
  adds : Adds w (section ∷ others) ranges m

one_layout : (o p : Option LineView) (text : LineView) (ts : List LineView) → option_to_list o ≡ option_to_list p ++ text ∷ ts → p ≡ None
one_layout o None text ts e = refl
one_layout None (Some a) text ts e = cc
one_layout (Some b) (Some a) text ts e = cc

layout_step : (w : ModuleView) (text : LineView) (c : Cut) (after : List Cut) (m : ModuleView) → Good m → Sections w (layout_section text) c after m → Step w None c after m
layout_step w text c after m good r =
    let none = one_layout m.layout_text w.layout_text text (flat_map layouts_in r.others) r.adds.layout in
    let next : ModuleView = record w { layout_text = Some text } in
    let own = r.prints.0 in
    record {
      whole = next;
      body = None;
      leads = lead (state w None) (state next None) c after r.closed_item (no_define c after (layout_no_define text.bytes c.lexemes own.1)) (top_of (layout_item text.bytes)) (refl, own.1)
          (at_line (top_of (layout_item text.bytes)) text.line c after (state w None) (state next None) own.0 (ap (λ o. then_outside (layout_in o text w)) none));
      coming = record {
        sections = r.others;
        ranges = r.ranges;
        closed = r.closed;
        kept_items = r.prints.1;
        dropped_items = r.dropped_items;
        adds = record {
          layout = r.adds.layout ∙ ap (λ o. option_to_list o ++ text ∷ flat_map layouts_in r.others) none;
          types = r.adds.types;
          globals = r.adds.globals;
          functions = r.adds.functions;
          ranges = r.adds.ranges;
          scopes = λ sc. good.scopes;
        };
      };
    }

type_step : (w : ModuleView) (name : List ℕ) (t : TypeView) (c : Cut) (after : List Cut) (m : ModuleView) → Good m → Sections w (type_section name t) c after m → Step w None c after m
type_step w name t c after m good r =
    let rest = flat_map print.types_in r.others in
    let new = entry_new m.types w.types rest name t r.adds.types good.scopes.types in
    let next : ModuleView = record w { types = w.types ++ (name, t) ∷ [] } in
    let own = r.prints.0 in
    record {
      whole = next;
      body = None;
      leads = lead (state w None) (state next None) c after r.closed_item (no_define c after (type_no_define name t.over c.lexemes own.1)) (top_of (type_item name t.over)) (refl, own.1)
          (at_line (top_of (type_item name t.over)) t.line c after (state w None) (state next None) own.0 (ap (λ b. then_outside (types_in (if b then Err K4 else Ok (w.types ++ (name, t) ∷ [])) w)) new));
      coming = record {
        sections = r.others;
        ranges = r.ranges;
        closed = r.closed;
        kept_items = r.prints.1;
        dropped_items = r.dropped_items;
        adds = record {
          layout = r.adds.layout;
          types = r.adds.types ∙ sym (append_assoc w.types ((name, t) ∷ []) rest);
          globals = r.adds.globals;
          functions = r.adds.functions;
          ranges = r.adds.ranges;
          scopes = λ sc. good.scopes;
        };
      };
    }

global_step : (w : ModuleView) (g : GlobalView) (c : Cut) (after : List Cut) (m : ModuleView) → Good m → Sections w (global_section g) c after m → Step w None c after m
global_step w g c after m good r =
    let rest = flat_map globals_in r.others in
    let new = global_new w m g.name g rest (flat_map functions_in r.others) r.adds.globals r.adds.functions good.scopes in
    let next = with_new_global g w in
    let item = global_item g.name g.constant g.over g.init g.align in
    let own = r.prints.0 in
    record {
      whole = next;
      body = None;
      leads = lead (state w None) (state next None) c after r.closed_item (no_define c after (global_no_define g.name g.constant g.over g.init g.align c.lexemes own.1)) (top_of item) (refl, own.1)
          (at_line (top_of item) g.line c after (state w None) (state next None) own.0 (ap (λ b. then_outside (if b then Err K4 else Ok (with_new_global g w))) new));
      coming = record {
        sections = r.others;
        ranges = r.ranges;
        closed = r.closed;
        kept_items = r.prints.1;
        dropped_items = r.dropped_items;
        adds = record {
          layout = r.adds.layout;
          types = r.adds.types;
          globals = r.adds.globals ∙ sym (append_assoc w.globals ((g.name, g) ∷ []) rest);
          functions = r.adds.functions;
          ranges = r.adds.ranges;
          scopes = λ sc. good.scopes;
        };
      };
    }

-- a section of a function, by the tables that it adds to
adds_on : (w : ModuleView) (section : Section) (f : FunctionView) (others : List Section) (more : List (List ℕ × RangeView)) (m : ModuleView) → Good m → functions_in section ≡ (f.name, f) ∷ [] → layouts_in section ≡ []
    → print.types_in section ≡ [] → globals_in section ≡ [] → Adds w (section ∷ others) more m → Adds (with_function f w) others more m
adds_on w section f others more m good own no_layout no_type no_global h = record {
  layout = h.layout ∙ ap (λ xs. option_to_list w.layout_text ++ (xs ++ flat_map layouts_in others)) no_layout;
  types = h.types ∙ ap (λ xs. w.types ++ (xs ++ flat_map print.types_in others)) no_type;
  globals = h.globals ∙ ap (λ xs. w.globals ++ (xs ++ flat_map globals_in others)) no_global;
  functions = h.functions ∙ ap (λ xs. w.functions ++ (xs ++ flat_map functions_in others)) own ∙ sym (append_assoc w.functions ((f.name, f) ∷ []) (flat_map functions_in others));
  ranges = h.ranges;
  scopes = λ sc. good.scopes;
}

declared_step : (w : ModuleView) (line : ℕ) (name : List ℕ) (result : Ty) (c : Cut) (after : List Cut) (m : ModuleView) → Good m → Sections w (declared_section line name result) c after m → Step w None c after m
declared_step w line name result c after m good r =
    let f : FunctionView = record { line = line; name = name; result = result; parameters = []; body = None } in
    let new = function_new w m name f (flat_map globals_in r.others) (flat_map functions_in r.others) r.adds.globals r.adds.functions good.scopes in
    let next = with_function f w in
    let own = r.prints.0 in
    record {
      whole = next;
      body = None;
      leads = lead (state w None) (state next None) c after r.closed_item (no_define c after (declare_no_define name result c.lexemes own.1)) (top_of (declare_item name result)) (refl, own.1)
          (at_line (top_of (declare_item name result)) line c after (state w None) (state next None) own.0 (ap (λ b. then_outside (if b then Err K4 else Ok (with_function f w))) new));
      coming = record {
        sections = r.others;
        ranges = r.ranges;
        closed = r.closed;
        kept_items = r.prints.1;
        dropped_items = r.dropped_items;
        adds = adds_on w (declared_section line name result) f r.others r.ranges m good refl refl refl refl r.adds;
      };
    }

contains_at : {E : Type 0} (xs ys : List E) (x : E) → Contains (xs ++ x ∷ ys) x
contains_at [] ys x = (zero, omega arith, refl)
contains_at (z ∷ xs) ys x = let c = contains_at xs ys x in (suc c.0, omega (arith, c.1), c.2)

-- the head of a function, and the state behind it
body_leads : (w : ModuleView) (head : FunctionView) (block : Option BlockView) (names : List (List ℕ)) (unlabelled : Bool) (c : Cut) (after : List Cut) → c.closed ≡ true → IsPrint (head_print head) c → holds_close after ≡ true
    → is_symbol head.name w ≡ false → begins_unlabelled after ≡ unlabelled → first_block unlabelled (record head { body = None }) ≡ block → scope_of head.parameters block ≡ Ok names
    → Leads (state w None) c after (state w (Some (record { head = record head { body = None }; names = names; blocks = []; block = block })))
body_leads w head block names unlabelled c after closed own comes new begins first scope =
    let f : FunctionView = record head { body = None } in
    let b : BodyState = record { head = f; names = names; blocks = []; block = block } in
    let item = define_item head.name head.result head.parameters in
    lead (state w None) (state w (Some b)) c after closed (closes_later c after comes) (top_of item) (refl, own.1)
    (at_line (top_of item) head.line c after (state w None) (state w (Some b)) own.0
    (ap (λ q. then_inside (if not q then Err K2 else (if is_symbol head.name w then Err K4 else begun_by (begins_unlabelled after) f)) w) comes
    ∙ ap (λ q. then_inside (if q then Err K4 else begun_by (begins_unlabelled after) f) w) new
    ∙ ap (λ q. then_inside (begun_by q f) w) begins
    ∙ ap (λ o. then_inside (begun (scope_of head.parameters o) f o) w) first
    ∙ ap (λ o. then_inside (begun o f block) w) scope))

function_there : (w m : ModuleView) (f : FunctionView) (others : List (List ℕ × FunctionView)) → m.functions ≡ w.functions ++ (f.name, f) ∷ others → IsFunction m f
function_there w m f others is = (f.name, subst (λ fs. Contains fs (f.name, f)) (sym is) (contains_at w.functions others (f.name, f)))

labelled_step : (w : ModuleView) (head : FunctionView) (first : BlockView) (rest : List BlockView) (c : Cut) (after : List Cut) (m : ModuleView) → Good m → Sections w (labelled_section head first rest) c after m → Step w None c after m
labelled_step w head first rest c after m good r =
    let f = with_blocks head (first ∷ rest) in
    let blocks = first ∷ rest in
    let params = map (λ p. p.1) head.parameters in
    let fine = good.bodies f blocks (function_there w m f (flat_map functions_in r.others) r.adds.functions) refl in
    let new = function_new w m head.name f (flat_map globals_in r.others) (flat_map functions_in r.others) r.adds.globals r.adds.functions good.scopes in
    let ps = flat_map block_prints blocks in
    let behind : Behind (with_function f w) (ps ++ closing ∷ []) after m = record {
      sections = r.others;
      ranges = r.ranges;
      closed = r.closed;
      kept_items = r.prints.1;
      dropped_items = r.dropped_items;
      adds = adds_on w (labelled_section head first rest) f r.others r.ranges m good refl refl refl refl r.adds;
    } in
    let begins = label_ahead after first.line first.name _ r.prints.1 in
    let scope = ap (λ o. after_name o (with_block None)) (names_new [] params (flat_map names_in blocks) fine.distinct) in
    record {
      whole = w;
      body = Some (record { head = record head { body = None }; names = params; blocks = []; block = None });
      leads = body_leads w head None params false c after r.closed_item r.prints.0 (close_comes (with_function f w) ps after m behind) new begins refl scope;
      coming = (record { more = []; others = blocks; first = first; rest = rest; whole = refl; behind = behind }, record { distinct = fine.distinct; ended = blocks_well blocks fine.ended });
    }

well_begins : (instrs : List InstrView) → ends_well instrs ≡ true → (i : InstrView) × (more : List InstrView) × (instrs ≡ i ∷ more)
well_begins [] h = cc
well_begins (i ∷ more) h = (i, more, refl)

unlabelled_step : (w : ModuleView) (head : FunctionView) (instrs : List InstrView) (rest : List BlockView) (c : Cut) (after : List Cut) (m : ModuleView) → Good m → Sections w (unlabelled_section head instrs rest) c after m
    → Step w None c after m
unlabelled_step w head instrs rest c after m good r =
    let first = unlabelled_block head instrs in
    let f = with_blocks head (first ∷ rest) in
    let blocks = first ∷ rest in
    let params = map (λ p. p.1) head.parameters in
    let to_come = results instrs ++ flat_map names_in rest in
    let fine = good.bodies f blocks (function_there w m f (flat_map functions_in r.others) r.adds.functions) refl in
    let new = function_new w m head.name f (flat_map globals_in r.others) (flat_map functions_in r.others) r.adds.globals r.adds.functions good.scopes in
    let ps = map instr_print instrs ++ flat_map block_prints rest in
    let well = blocks_well blocks fine.ended in
    let begin = well_begins instrs (and_true (ends_well instrs) (all_well rest) well).0 in
    let behind : Behind (with_function f w) (ps ++ closing ∷ []) after m = record {
      sections = r.others;
      ranges = r.ranges;
      closed = r.closed;
      kept_items = r.prints.1;
      dropped_items = r.dropped_items;
      adds = adds_on w (unlabelled_section head instrs rest) f r.others r.ranges m good refl refl refl refl r.adds;
    } in
    let begins = instr_ahead after begin.0 _
    (subst (λ is. ArePrints (((map instr_print is ++ flat_map block_prints rest) ++ closing ∷ []) ++ flat_map section_prints r.others) (kept after)) begin.2 r.prints.1) in
    let block : BlockView = record { line = head.line; name = first_name head.parameters; instrs = [] } in
    let scope = ap (λ o. after_name o (with_block (Some block))) (names_new [] params (first.name ∷ to_come) fine.distinct) ∙ name_new params to_come first.name fine.distinct in
    record {
      whole = w;
      body = Some (record { head = record head { body = None }; names = params ++ first.name ∷ []; blocks = []; block = Some block });
      leads = body_leads w head (Some block) (params ++ first.name ∷ []) true c after r.closed_item r.prints.0 (close_comes (with_function f w) ps after m behind) new begins refl scope;
      coming = (record { more = instrs; others = rest; first = first; rest = rest; whole = refl; behind = behind }, record { distinct = one_on params to_come first.name fine.distinct; ended = well });
    }

section_step : (w : ModuleView) (section : Section) (c : Cut) (after : List Cut) (m : ModuleView) → Good m → Sections w section c after m → Step w None c after m
section_step w (layout_section text) c after m good r = layout_step w text c after m good r
section_step w (type_section name t) c after m good r = type_step w name t c after m good r
section_step w (global_section g) c after m good r = global_step w g c after m good r
section_step w (declared_section line name result) c after m good r = declared_step w line name result c after m good r
section_step w (labelled_section head first rest) c after m good r = labelled_step w head first rest c after m good r
section_step w (unlabelled_section head instrs rest) c after m good r = unlabelled_step w head instrs rest c after m good r

outside_step : (w : ModuleView) (c : Cut) (after : List Cut) (m : ModuleView) → Good m → is_dropped_item c.lexemes ≡ false → Behind w [] (c ∷ after) m → Step w None c after m
outside_step w c after m good keeps r = by r.sections (kept_here c after (flat_map section_prints r.sections) keeps r.kept_items) r.adds
  where
    closed : (c.closed ≡ true) × (list_all (λ c. c.closed) after ≡ true)
    closed = and_true c.closed (list_all (λ c. c.closed) after) r.closed

    by : (sections : List Section) → ArePrints (flat_map section_prints sections) (c ∷ kept after) → Adds w sections r.ranges m → Step w None c after m
    by [] h adds = absurd h
    by (section ∷ others) h adds = section_step w section c after m good (record {
      others = others;
      ranges = r.ranges;
      closed_item = closed.0;
      closed = closed.1;
      keeps = keeps;
      prints = h;
      dropped_items = dropped_on c after r.ranges keeps r.dropped_items;
      adds = adds;
    })

-- ---- all items

item_step : (o : Option BodyState) (w : ModuleView) (c : Cut) (after : List Cut) (m : ModuleView) → Good m → Coming o w (c ∷ after) m → (drops : Bool) → is_dropped_item c.lexemes ≡ drops → Step w o c after m
item_step o w c after m good coming true e = drop_step o w c after m good e coming
item_step None w c after m good coming false e = outside_step w c after m good e coming
item_step (Some b) w c after m good coming false e = inside_step w b.head b.names b.blocks b.block c after m e coming.0 coming.1

no_sections : (sections : List Section) → ArePrints (flat_map section_prints sections) [] → sections ≡ []
no_sections [] h = refl
no_sections (layout_section text ∷ others) h = absurd h
no_sections (type_section name t ∷ others) h = absurd h
no_sections (global_section g ∷ others) h = absurd h
no_sections (declared_section line name result ∷ others) h = absurd h
no_sections (labelled_section head first rest ∷ others) h = absurd h
no_sections (unlabelled_section head instrs rest ∷ others) h = absurd h

list_option : (o p : Option LineView) → option_to_list o ≡ option_to_list p → o ≡ p
list_option None None e = refl
list_option None (Some a) e = cc
list_option (Some b) None e = cc
list_option (Some b) (Some a) e = cc

nothing_more : (w m : ModuleView) (sections : List Section) (ranges : List (List ℕ × RangeView)) → sections ≡ [] → ranges ≡ [] → Adds w sections ranges m → w ≡ m
nothing_more w m sections ranges none free h =
    let layout : option_to_list m.layout_text ≡ option_to_list w.layout_text = h.layout ∙ ap (λ ss. option_to_list w.layout_text ++ flat_map layouts_in ss) none ∙ append-nil (option_to_list w.layout_text) in
    let text = list_option w.layout_text m.layout_text (sym layout) in
    let types : w.types ≡ m.types = sym (h.types ∙ ap (λ ss. w.types ++ flat_map print.types_in ss) none ∙ append-nil w.types) in
    let globals : w.globals ≡ m.globals = sym (h.globals ∙ ap (λ ss. w.globals ++ flat_map globals_in ss) none ∙ append-nil w.globals) in
    let functions : w.functions ≡ m.functions = sym (h.functions ∙ ap (λ ss. w.functions ++ flat_map functions_in ss) none ∙ append-nil w.functions) in
    let ranged : w.ranges ≡ m.ranges = sym (h.ranges ∙ ap (λ rs. w.ranges ++ rs) free ∙ append-nil w.ranges) in
    λ i. record { layout_text = text i; types = types i; globals = globals i; functions = functions i; ranges = ranged i }

items_end : (o : Option BodyState) (w m : ModuleView) → Coming o w [] m → SpellsFrom (state w o) [] m
items_end None w m r = (refl, nothing_more w m r.sections r.ranges (no_sections r.sections r.kept_items) r.dropped_items r.adds)
items_end (Some b) w m (r, going) =
    let ps = more_prints b.block r.more r.others in
    let wrong : holds_close [] ≡ true = close_comes (with_function (with_blocks b.head (r.first ∷ r.rest)) w) ps [] m r.behind in cc

items_spell : (cs : List Cut) (o : Option BodyState) (w m : ModuleView) → Good m → Coming o w cs m → SpellsFrom (state w o) cs m
items_spell [] o w m good coming = items_end o w m coming
items_spell (c ∷ after) o w m good coming =
    let s = item_step o w c after m good coming (is_dropped_item c.lexemes) refl in
    (state s.whole s.body, s.leads, items_spell after s.body s.whole m good s.coming)

-- items that print a module spell it
pub printed_is_spelled : (cs : List Cut) (m : ModuleView) → IsPrinting cs m → SpellsFrom at_start cs m
printed_is_spelled cs m h =
    items_spell cs None at_start.whole m (record { scopes = h.scopes; bodies = h.bodies }) (record {
      sections = h.sections;
      ranges = m.ranges;
      closed = h.closed;
      kept_items = h.kept_items;
      dropped_items = h.dropped_items;
      adds = record {
        layout = h.tables.layout;
        types = h.tables.types;
        globals = h.tables.globals;
        functions = h.tables.functions;
        ranges = refl;
        scopes = λ sc. h.scopes;
      };
    })

-- the same of whole texts
pub printed_text_is_spelled : (text : List ℕ) (m : ModuleView) → IsPrintedText text m → IsModuleText text m
printed_text_is_spelled text m h = record { tokens = h.tokens; lexed = h.lexed; spelled = printed_is_spelled (cut h.tokens) m h.printed }

-- a text that prints a module is answered by this module, but for memory
pub only_printed : (r : Result Module KernelStop) (text : List ℕ) → IfOk r (λ m. IsModuleText text (view_module m)) → IfErr r (IsStop text) → (m : ModuleView) → IsPrintedText text m → IsModule r m
only_printed r text found fault m is = module_only r text found fault m (printed_text_is_spelled text m is)
