-- A module that items spell is printed by them.
use Rattle.std.proofs.Common.{◌≡◌, ℕ, Bool, true, false, not, ◌&&◌, ◌||◌, ◌⊎◌, inl, inr, cond, if◌then◌else◌, Option, Some, None, option_to_list, Result, Ok, Err, IfOk, List, [], ◌∷◌, ◌++◌, map, flat_map, bytes_eq, refl, sym, ap, subst, ◌∙◌}
use Rattle.std.specs.List.{list_any, list_all, AllByRecursion, IsDistinct}
use Rattle.std.specs.Cmp.Lexicographic.{nat_list_eq_equiv}
use Rattle.std.proofs.lemmas.List.{append_assoc, append-nil}
use Rattle.std.proofs.lemmas.List.Folds.{list_any-append}
use Rattle.std.proofs.lemmas.Map.Keys.{IsDistinct-push}
use Rattle.ir_ast.specs.Plain.{Ty}
use Rattle.ir_ast.specs.Program.{LineView, TypeView, GlobalView, RangeView, InstrView, BlockView, FunctionView, ModuleView}
use Rattle.ir_ast.specs.ProgramView.{view_module}
use Rattle.ir_ast.specs.Table.{names_of}
use Rattle.ir_ast.proofs.Placing.{place_among}
use Rattle.ir_ast.specs.declared.module.Module.{Module}
use Rattle.ir_ast.specs.declared.fault.KernelStop.{KernelStop}
use Rattle.ir_ast.specs.declared.fault.KernelReason.TheVariants.{K2, K4}
use Rattle.ir_lex.specs.Cut.{Cut, cut, begins_define}
use Rattle.ir_lex.specs.Drop.{is_dropped_item}
use Rattle.ir_lex.specs.Items.{Top, layout_item, type_item, global_item, define_item, declare_item, Inner, label_item, instr_item, close_item, ReadsTop, ReadsInner}
use Rattle.ir_read.specs.Ahead.{holds_close, begins_unlabelled}
use Rattle.ir_read.specs.State.{BodyState, State, no_items, at_start, is_inside}
use Rattle.ir_read.specs.Reads.{Reading, passed, ranged, top_of, inner_of, refused, Reads}
use Rattle.ir_read.specs.Steps.{Out, is_entry, with_entry, is_symbol, with_name, scope_of, begun, label_in, labelled, with_result, instr_in, instr_at, closed_at, then_closed, then_inside, with_function, with_declared, with_global, with_new_global, layout_in, types_in, ranges_in, then_outside, then_whole, top_at, inner_at, after_top, after_inner, first_block, begun_by, with_head, is_end, grown_block, after_reading}
use Rattle.ir_read.specs.Spelling.{Passes, SpellsFrom, IsModuleText}
use Rattle.ir_read.specs.Printing.{Section, layout_section, type_section, global_section, declared_section, labelled_section, unlabelled_section, with_blocks, layouts_in, globals_in, functions_in, Print, top_on, inner_on, closing, instr_print, block_prints, head_print, section_prints, IsPrint, ArePrints, SpellsNoRange, IsRange, HoldRanges, kept, dropped, AreScopes, IsFunctionBody, IsPrinting, IsPrintedText}
use Rattle.ir_read.specs.Printing as print
use Rattle.ir_read.proofs.Shaped.{ok_is, no_ok, chosen, spelled_is_shaped}
use Rattle.ir_type.specs.Items.{IsFunction}
use Rattle.ir_type.specs.Shape.{IsShaped, IsShapedBody}

pub either_false : (a b : Bool) → (a || b) ≡ false → (a ≡ false) × (b ≡ false)
either_false true b h = cc
either_false false b h = (refl, h)

-- ---- names of a scope

none_equal : (x : List ℕ) (ys : List (List ℕ)) → list_any (bytes_eq x) ys ≡ false → AllByRecursion (λ y. bytes_eq x y ≡ false) ys
none_equal x [] h = tt
none_equal x (y ∷ ys) h = let e = either_false (bytes_eq x y) (list_any (bytes_eq x) ys) h in (e.0, none_equal x ys e.1)

all_insert : (P : List ℕ → Type 0) (xs ys : List (List ℕ)) (x : List ℕ) → AllByRecursion P (xs ++ ys) → P x → AllByRecursion P (xs ++ x ∷ ys)
all_insert P [] ys x h own = (own, h)
all_insert P (z ∷ xs) ys x h own = (h.0, all_insert P xs ys x h.1 own)

-- a new name among others
insert_distinct : (xs ys : List (List ℕ)) (x : List ℕ) → IsDistinct bytes_eq (xs ++ ys) → list_any (bytes_eq x) (xs ++ ys) ≡ false → IsDistinct bytes_eq (xs ++ x ∷ ys)
unfolding IsDistinct
insert_distinct [] ys x d none = (none_equal x ys none, d)
insert_distinct (z ∷ xs) ys x d none =
    let e = either_false (bytes_eq x z) (list_any (bytes_eq x) (xs ++ ys)) none in
    (all_insert (λ y. bytes_eq z y ≡ false) xs ys x d.0 (nat_list_eq_equiv.symm z x ∙ e.0), insert_distinct xs ys x d.1 e.1)

pub names-push : {E : Type 0} (entries : List (List ℕ × E)) (x : List ℕ) (e : E) → names_of (entries ++ (x, e) ∷ []) ≡ names_of entries ++ x ∷ []
names-push [] x e = refl
names-push (y ∷ entries) x e = ap (λ xs. y.0 ∷ xs) (names-push entries x e)

-- a table with a new entry
push_entry : {E : Type 0} (entries : List (List ℕ × E)) (x : List ℕ) (e : E) → is_entry x entries ≡ false → IsDistinct bytes_eq (names_of entries) → IsDistinct bytes_eq (names_of (entries ++ (x, e) ∷ []))
push_entry entries x e new d = subst (IsDistinct bytes_eq) (sym (names-push entries x e)) (IsDistinct-push nat_list_eq_equiv (names_of entries) x d (sym (place_among x entries) ∙ new))

-- globals and functions have one scope
symbol_new : (x : List ℕ) (m : ModuleView) → is_symbol x m ≡ false → list_any (bytes_eq x) (names_of m.globals ++ names_of m.functions) ≡ false
symbol_new x m new =
    let e = either_false (is_entry x m.globals) (is_entry x m.functions) new in
    list_any-append (bytes_eq x) (names_of m.globals) (names_of m.functions)
    ∙ ap (λ b. b || list_any (bytes_eq x) (names_of m.functions)) (sym (place_among x m.globals) ∙ e.0)
    ∙ sym (place_among x m.functions) ∙ e.1

global_scopes : (g : GlobalView) (m : ModuleView) → is_symbol g.name m ≡ false → AreScopes m → AreScopes (with_new_global g m)
global_scopes g m new h =
    let fs = names_of m.functions in
    record {
      types = h.types;
      ranges = h.ranges;
      symbols = subst (IsDistinct bytes_eq) (sym (ap (λ xs. xs ++ fs) (names-push m.globals g.name g) ∙ append_assoc (names_of m.globals) (g.name ∷ []) fs))
          (insert_distinct (names_of m.globals) fs g.name h.symbols (symbol_new g.name m new));
    }

function_scopes : (f : FunctionView) (m : ModuleView) → is_symbol f.name m ≡ false → AreScopes m → AreScopes (with_function f m)
function_scopes f m new h =
    let gs = names_of m.globals in
    record {
      types = h.types;
      ranges = h.ranges;
      symbols = subst (IsDistinct bytes_eq) (append_assoc gs (names_of m.functions) (f.name ∷ []) ∙ ap (λ xs. gs ++ xs) (sym (names-push m.functions f.name f)))
          (IsDistinct-push nat_list_eq_equiv (gs ++ names_of m.functions) f.name h.symbols (symbol_new f.name m new));
    }

-- ---- what is printed behind a state

-- what sections and ranges add to what is whole
pub record Adds (w : ModuleView) (sections : List Section) (more : List (List ℕ × RangeView)) (m : ModuleView) : Type 0 where
  pub layout : option_to_list m.layout_text ≡ option_to_list w.layout_text ++ flat_map layouts_in sections
  pub types : m.types ≡ w.types ++ flat_map print.types_in sections
  pub globals : m.globals ≡ w.globals ++ flat_map globals_in sections
  pub functions : m.functions ≡ w.functions ++ flat_map functions_in sections
  pub ranges : m.ranges ≡ w.ranges ++ more
  pub scopes : AreScopes w → AreScopes m

-- the items say these things, and then what sections say
pub record Behind (w : ModuleView) (first : List Print) (cs : List Cut) (m : ModuleView) : Type 0 where
  pub sections : List Section
  pub ranges : List (List ℕ × RangeView)
  pub closed : list_all (λ c. c.closed) cs ≡ true
  pub kept_items : ArePrints (first ++ flat_map section_prints sections) (kept cs)
  pub dropped_items : HoldRanges (dropped cs) ranges
  pub adds : Adds w sections ranges m

-- the blocks of a body in the end, and what is said of them yet
abbrev pub all_blocks : List BlockView → Option BlockView → List InstrView → List BlockView → List BlockView
all_blocks blocks None more others = blocks ++ others
all_blocks blocks (Some block) more others = blocks ++ record block { instrs = block.instrs ++ more } ∷ others

abbrev pub more_prints : Option BlockView → List InstrView → List BlockView → List Print
more_prints None more others = flat_map block_prints others
more_prints (Some block) more others = map instr_print more ++ flat_map block_prints others

pub record Inside (w : ModuleView) (head : FunctionView) (blocks : List BlockView) (block : Option BlockView) (cs : List Cut) (m : ModuleView) : Type 0 where
  pub more : List InstrView
  pub others : List BlockView
  pub first : BlockView
  pub rest : List BlockView
  pub whole : all_blocks blocks block more others ≡ first ∷ rest
  pub behind : Behind (with_function (with_blocks head (first ∷ rest)) w) (more_prints block more others ++ closing ∷ []) cs m

abbrev RestOf : Option BodyState → ModuleView → List Cut → ModuleView → Type 0
RestOf None w cs m = Behind w [] cs m
RestOf (Some b) w cs m = Inside w b.head b.blocks b.block cs m

abbrev Rest : State → List Cut → ModuleView → Type 0
Rest s cs m = RestOf s.body s.whole cs m

-- ---- one more item

kept_more : (c : Cut) (cs : List Cut) (first : List Print) → is_dropped_item c.lexemes ≡ false → (p : Print) → IsPrint p c → ArePrints first (kept cs) → ArePrints (p ∷ first) (kept (c ∷ cs))
kept_more c cs first keeps p own h = subst (λ b. ArePrints (p ∷ first) (cond (not b) (c ∷ kept cs) (kept cs))) (sym keeps) (own, h)

kept_less : (c : Cut) (cs : List Cut) (ps : List Print) → is_dropped_item c.lexemes ≡ true → ArePrints ps (kept cs) → ArePrints ps (kept (c ∷ cs))
kept_less c cs ps drops h = subst (λ b. ArePrints ps (cond (not b) (c ∷ kept cs) (kept cs))) (sym drops) h

dropped_less : (c : Cut) (cs : List Cut) (ranges : List (List ℕ × RangeView)) → is_dropped_item c.lexemes ≡ false → HoldRanges (dropped cs) ranges → HoldRanges (dropped (c ∷ cs)) ranges
dropped_less c cs ranges keeps h = subst (λ b. HoldRanges (cond b (c ∷ dropped cs) (dropped cs)) ranges) (sym keeps) h

dropped_more : (c : Cut) (cs : List Cut) (ranges : List (List ℕ × RangeView)) → is_dropped_item c.lexemes ≡ true → HoldRanges (c ∷ dropped cs) ranges → HoldRanges (dropped (c ∷ cs)) ranges
dropped_more c cs ranges drops h = subst (λ b. HoldRanges (cond b (c ∷ dropped cs) (dropped cs)) ranges) (sym drops) h

pub both_true : (a b : Bool) → a ≡ true → b ≡ true → (a && b) ≡ true
both_true true b h k = k
both_true false b h k = cc

keeps_of : (p : Print) (c : Cut) → IsPrint p c → is_dropped_item c.lexemes ≡ false
keeps_of (top_on line top) c h = h.1.0
keeps_of (inner_on line inner) c h = h.1.0
keeps_of closing c h = h.0

-- an item that is kept
with_print : (w : ModuleView) (first : List Print) (c : Cut) (cs : List Cut) (m : ModuleView) (p : Print) → c.closed ≡ true → IsPrint p c → Behind w first cs m → Behind w (p ∷ first) (c ∷ cs) m
with_print w first c cs m p closed own h = record {
  sections = h.sections;
  ranges = h.ranges;
  closed = both_true c.closed (list_all (λ c. c.closed) cs) closed h.closed;
  kept_items = kept_more c cs (first ++ flat_map section_prints h.sections) (keeps_of p c own) p own h.kept_items;
  dropped_items = dropped_less c cs h.ranges (keeps_of p c own) h.dropped_items;
  adds = h.adds;
}

-- one that is dropped
with_passed : (w : ModuleView) (first : List Print) (c : Cut) (cs : List Cut) (m : ModuleView) → c.closed ≡ true → is_dropped_item c.lexemes ≡ true → SpellsNoRange c → Behind w first cs m → Behind w first (c ∷ cs) m
with_passed w first c cs m closed drops none h = record {
  sections = h.sections;
  ranges = h.ranges;
  closed = both_true c.closed (list_all (λ c. c.closed) cs) closed h.closed;
  kept_items = kept_less c cs (first ++ flat_map section_prints h.sections) drops h.kept_items;
  dropped_items = dropped_more c cs h.ranges drops (inl (none, h.dropped_items));
  adds = h.adds;
}

abbrev pub with_range : ModuleView → List ℕ → RangeView → ModuleView
with_range w name range = record w { ranges = w.ranges ++ (name, range) ∷ [] }

-- one that is dropped and kept as a range
with_ranged : (w : ModuleView) (first : List Print) (c : Cut) (cs : List Cut) (m : ModuleView) (name : List ℕ) (range : RangeView) → c.closed ≡ true → is_dropped_item c.lexemes ≡ true → IsRange (name, range) c
    → is_entry name w.ranges ≡ false → Behind (with_range w name range) first cs m → Behind w first (c ∷ cs) m
with_ranged w first c cs m name range closed drops own new h = record {
  sections = h.sections;
  ranges = (name, range) ∷ h.ranges;
  closed = both_true c.closed (list_all (λ c. c.closed) cs) closed h.closed;
  kept_items = kept_less c cs (first ++ flat_map section_prints h.sections) drops h.kept_items;
  dropped_items = dropped_more c cs ((name, range) ∷ h.ranges) drops (inr ((name, range), h.ranges, refl, own, h.dropped_items));
  adds = record {
    layout = h.adds.layout;
    types = h.adds.types;
    globals = h.adds.globals;
    functions = h.adds.functions;
    ranges = h.adds.ranges ∙ append_assoc w.ranges ((name, range) ∷ []) h.ranges;
    scopes = λ sc. h.adds.scopes (record { types = sc.types; ranges = push_entry w.ranges name range new sc.ranges; symbols = sc.symbols });
  };
}

-- what is said are the items of a section
with_section : (w n : ModuleView) (section : Section) (cs : List Cut) (m : ModuleView) → ((others : List Section) → (more : List (List ℕ × RangeView)) → Adds n others more m → Adds w (section ∷ others) more m)
    → Behind n (section_prints section) cs m → Behind w [] cs m
with_section w n section cs m adds h = record {
  sections = section ∷ h.sections;
  ranges = h.ranges;
  closed = h.closed;
  kept_items = h.kept_items;
  dropped_items = h.dropped_items;
  adds = adds h.sections h.ranges h.adds;
}

-- ---- sections

adds_layout : (w : ModuleView) (text : LineView) (m : ModuleView) → w.layout_text ≡ None → (others : List Section) → (more : List (List ℕ × RangeView)) → Adds (record w { layout_text = Some text }) others more m
    → Adds w (layout_section text ∷ others) more m
adds_layout w text m none others more h = record {
  layout = h.layout ∙ ap (λ o. option_to_list o ++ text ∷ flat_map layouts_in others) (sym none);
  types = h.types;
  globals = h.globals;
  functions = h.functions;
  ranges = h.ranges;
  scopes = λ sc. h.scopes (record { types = sc.types; ranges = sc.ranges; symbols = sc.symbols });
}

adds_type : (w : ModuleView) (name : List ℕ) (t : TypeView) (m : ModuleView) → is_entry name w.types ≡ false → (others : List Section) → (more : List (List ℕ × RangeView))
    → Adds (record w { types = w.types ++ (name, t) ∷ [] }) others more m → Adds w (type_section name t ∷ others) more m
adds_type w name t m new others more h = record {
  layout = h.layout;
  types = h.types ∙ append_assoc w.types ((name, t) ∷ []) (flat_map print.types_in others);
  globals = h.globals;
  functions = h.functions;
  ranges = h.ranges;
  scopes = λ sc. h.scopes (record { types = push_entry w.types name t new sc.types; ranges = sc.ranges; symbols = sc.symbols });
}

adds_global : (w : ModuleView) (g : GlobalView) (m : ModuleView) → is_symbol g.name w ≡ false → (others : List Section) → (more : List (List ℕ × RangeView))
    → Adds (with_new_global g w) others more m → Adds w (global_section g ∷ others) more m
adds_global w g m new others more h = record {
  layout = h.layout;
  types = h.types;
  globals = h.globals ∙ append_assoc w.globals ((g.name, g) ∷ []) (flat_map globals_in others);
  functions = h.functions;
  ranges = h.ranges;
  scopes = λ sc. h.scopes (global_scopes g w new sc);
}

adds_function : (w : ModuleView) (f : FunctionView) (m : ModuleView) → is_symbol f.name w ≡ false → (section : Section) → functions_in section ≡ (f.name, f) ∷ [] → layouts_in section ≡ []
    → print.types_in section ≡ [] → globals_in section ≡ [] → (others : List Section) → (more : List (List ℕ × RangeView)) → Adds (with_function f w) others more m → Adds w (section ∷ others) more m
adds_function w f m new section own no_layout no_type no_global others more h = record {
  layout = h.layout ∙ ap (λ xs. option_to_list w.layout_text ++ (xs ++ flat_map layouts_in others)) (sym no_layout);
  types = h.types ∙ ap (λ xs. w.types ++ (xs ++ flat_map print.types_in others)) (sym no_type);
  globals = h.globals ∙ ap (λ xs. w.globals ++ (xs ++ flat_map globals_in others)) (sym no_global);
  functions = h.functions ∙ append_assoc w.functions ((f.name, f) ∷ []) (flat_map functions_in others) ∙ ap (λ xs. w.functions ++ (xs ++ flat_map functions_in others)) (sym own);
  ranges = h.ranges;
  scopes = λ sc. h.scopes (function_scopes f w new sc);
}

-- ---- items of bodies

close_rest : (w : ModuleView) (head : FunctionView) (blocks : List BlockView) (block : Option BlockView) (c : Cut) (after : List Cut) (m : ModuleView) (f : FunctionView) → c.closed ≡ true → ReadsInner close_item c.lexemes
    → closed_at block blocks head ≡ Ok f → Behind (with_function f w) [] after m → Inside w head blocks block (c ∷ after) m
close_rest w head blocks (Some block) c after m f closed reads h rest = no_ok K2 f h
close_rest w head [] None c after m f closed reads h rest = no_ok K2 f h
close_rest w head (first ∷ others) None c after m f closed reads h rest =
    let whole = with_blocks head (first ∷ others) in
    record {
      more = [];
      others = [];
      first = first;
      rest = others;
      whole = append-nil (first ∷ others);
      behind = with_print (with_function whole w) [] c after m closing closed reads (subst (λ f. Behind (with_function f w) [] after m) (sym (ok_is h)) rest);
    }

label_rest : (w : ModuleView) (b next : BodyState) (name : List ℕ) (c : Cut) (after : List Cut) (m : ModuleView) → c.closed ≡ true → ReadsInner (label_item name) c.lexemes
    → label_in b.block (record { line = c.line; name = name; instrs = [] }) b ≡ Ok next → Inside w next.head next.blocks next.block after m → Inside w b.head b.blocks b.block (c ∷ after) m
label_rest w b next name c after m closed reads h rest = by b.block h
  where
    new : BlockView
    new = record { line = c.line; name = name; instrs = [] }

    named : (o : Out (List (List ℕ))) → labelled o new b ≡ Ok next → Inside w b.head b.blocks None (c ∷ after) m
    named (Err reason) h = no_ok reason next h
    named (Ok names) h =
        let r : Inside w b.head b.blocks (Some new) after m = subst (λ (n : BodyState). Inside w n.head n.blocks n.block after m) (sym (ok_is h)) rest in
        let block : BlockView = record new { instrs = r.more } in
        record {
          more = [];
          others = block ∷ r.others;
          first = r.first;
          rest = r.rest;
          whole = r.whole;
          behind = with_print (with_function (with_blocks b.head (r.first ∷ r.rest)) w) (more_prints (Some new) r.more r.others ++ closing ∷ []) c after m (inner_on c.line (label_item name)) closed (refl, reads) r.behind;
        }

    by : (o : Option BlockView) → label_in o new b ≡ Ok next → Inside w b.head b.blocks o (c ∷ after) m
    by (Some earlier) h = no_ok K2 next h
    by None h = named (with_name name b.names) h

grown_rest : (w : ModuleView) (names : List (List ℕ)) (i : InstrView) (block : BlockView) (head : FunctionView) (blocks : List BlockView) (c : Cut) (after : List Cut) (m : ModuleView) → c.closed ≡ true
    → IsPrint (instr_print i) c → (last : Bool) → (let g : BodyState = if last then record { head = head; names = names; blocks = blocks ++ grown_block block i ∷ []; block = None }
    else record { head = head; names = names; blocks = blocks; block = Some (grown_block block i) } in Inside w g.head g.blocks g.block after m)
    → Inside w head blocks (Some block) (c ∷ after) m
grown_rest w names i block head blocks c after m closed own true r = record {
  more = i ∷ [];
  others = r.others;
  first = r.first;
  rest = r.rest;
  whole = sym (append_assoc blocks (grown_block block i ∷ []) r.others) ∙ r.whole;
  behind = with_print (with_function (with_blocks head (r.first ∷ r.rest)) w) (flat_map block_prints r.others ++ closing ∷ []) c after m (instr_print i) closed own r.behind;
}
grown_rest w names i block head blocks c after m closed own false r = record {
  more = i ∷ r.more;
  others = r.others;
  first = r.first;
  rest = r.rest;
  whole = ap (λ is. blocks ++ record block { instrs = is } ∷ r.others) (sym (append_assoc block.instrs (i ∷ []) r.more)) ∙ r.whole;
  behind = with_print (with_function (with_blocks head (r.first ∷ r.rest)) w) (more_prints (Some block) r.more r.others ++ closing ∷ []) c after m (instr_print i) closed own r.behind;
}

instr_rest : (w : ModuleView) (b next : BodyState) (i : InstrView) (c : Cut) (after : List Cut) (m : ModuleView) → c.closed ≡ true → IsPrint (instr_print i) c
    → instr_at b.block i b ≡ Ok next → Inside w next.head next.blocks next.block after m → Inside w b.head b.blocks b.block (c ∷ after) m
instr_rest w b next i c after m closed own h rest = by b.block h
  where
    named : (block : BlockView) → (o : Out (List (List ℕ))) → instr_in o i block b ≡ Ok next → Inside w b.head b.blocks (Some block) (c ∷ after) m
    named block (Err reason) h = no_ok reason next h
    named block (Ok names) h = grown_rest w names i block b.head b.blocks c after m closed own (is_end i.act) (subst (λ (n : BodyState). Inside w n.head n.blocks n.block after m) (sym (ok_is h)) rest)

    by : (o : Option BlockView) → instr_at o i b ≡ Ok next → Inside w b.head b.blocks o (c ∷ after) m
    by None h = no_ok K2 next h
    by (Some block) h = named block (with_result i.result b.names) h

-- ---- items outside of bodies

body_rest : (w : ModuleView) (f : FunctionView) (unlabelled : Bool) (c : Cut) (after : List Cut) (m : ModuleView) → c.closed ≡ true → IsPrint (head_print f) c → is_symbol f.name w ≡ false
    → Inside w f [] (first_block unlabelled f) after m → Behind w [] (c ∷ after) m
body_rest w f true c after m closed own new r =
    let section = unlabelled_section f r.more r.others in
    let g = with_blocks f (print.unlabelled_block f r.more ∷ r.others) in
    with_section w (with_function g w) section (c ∷ after) m (adds_function w g m new section refl refl refl refl)
    (with_print (with_function g w) ((map instr_print r.more ++ flat_map block_prints r.others) ++ closing ∷ []) c after m (head_print f) closed own
    (subst (λ bs. Behind (with_function (with_blocks f bs) w) (more_prints (first_block true f) r.more r.others ++ closing ∷ []) after m) (sym r.whole) r.behind))
body_rest w f false c after m closed own new r =
    let section = labelled_section f r.first r.rest in
    let g = with_blocks f (r.first ∷ r.rest) in
    with_section w (with_function g w) section (c ∷ after) m (adds_function w g m new section refl refl refl refl)
    (with_print (with_function g w) (flat_map block_prints (r.first ∷ r.rest) ++ closing ∷ []) c after m (head_print f) closed own
    (subst (λ bs. Behind (with_function g w) (flat_map block_prints bs ++ closing ∷ []) after m) r.whole r.behind))

head_rest : (w : ModuleView) (f : FunctionView) (b : BodyState) (c : Cut) (after : List Cut) (m : ModuleView) → c.closed ≡ true → IsPrint (head_print f) c → with_head f after w ≡ Ok b
    → Inside w b.head b.blocks b.block after m → Behind w [] (c ∷ after) m
head_rest w f b c after m closed own h rest = by (scope_of f.parameters (first_block (begins_unlabelled after) f)) second.1
  where
    first : (not (holds_close after) ≡ false) × ((if is_symbol f.name w then Err K4 else begun_by (begins_unlabelled after) f) ≡ Ok b)
    first = chosen (not (holds_close after)) K2 (if is_symbol f.name w then Err K4 else begun_by (begins_unlabelled after) f) b h

    second : (is_symbol f.name w ≡ false) × (begun_by (begins_unlabelled after) f ≡ Ok b)
    second = chosen (is_symbol f.name w) K4 (begun_by (begins_unlabelled after) f) b first.1

    by : (o : Out (List (List ℕ))) → begun o f (first_block (begins_unlabelled after) f) ≡ Ok b → Behind w [] (c ∷ after) m
    by (Err reason) h = no_ok reason b h
    by (Ok names) h = body_rest w f (begins_unlabelled after) c after m closed own second.0 (subst (λ (n : BodyState). Inside w n.head n.blocks n.block after m) (sym (ok_is h)) rest)

-- the state behind an item of one step
outside_rest : (o : Out ModuleView) (next : State) (after : List Cut) (m : ModuleView) (G : Type 0) → ((n : ModuleView) → o ≡ Ok n → Behind n [] after m → G) → then_outside o ≡ Ok next → Rest next after m → G
outside_rest (Err reason) next after m G f h rest = no_ok reason next h
outside_rest (Ok n) next after m G f h rest = f n refl (subst (λ s. Rest s after m) (sym (ok_is h)) rest)

inside_rest : (o : Out BodyState) (w : ModuleView) (next : State) (after : List Cut) (m : ModuleView) (G : Type 0) → ((b : BodyState) → o ≡ Ok b → Inside w b.head b.blocks b.block after m → G) → then_inside o w ≡ Ok next
    → Rest next after m → G
inside_rest (Err reason) w next after m G f h rest = no_ok reason next h
inside_rest (Ok b) w next after m G f h rest = f b refl (subst (λ s. Rest s after m) (sym (ok_is h)) rest)

closed_rest : (o : Out FunctionView) (w : ModuleView) (next : State) (after : List Cut) (m : ModuleView) (G : Type 0) → ((f : FunctionView) → o ≡ Ok f → Behind (with_function f w) [] after m → G) → then_closed o w ≡ Ok next
    → Rest next after m → G
closed_rest (Err reason) w next after m G f h rest = no_ok reason next h
closed_rest (Ok g) w next after m G f h rest = f g refl (subst (λ s. Rest s after m) (sym (ok_is h)) rest)

layout_rest : (o : Option LineView) (w n : ModuleView) (text : LineView) (c : Cut) (after : List Cut) (m : ModuleView) → w.layout_text ≡ o → c.closed ≡ true → IsPrint (top_on text.line (layout_item text.bytes)) c → layout_in o text w ≡ Ok n
    → Behind n [] after m → Behind w [] (c ∷ after) m
layout_rest (Some earlier) w n text c after m is closed own h rest = no_ok K2 n h
layout_rest None w n text c after m is closed own h rest =
    let k : ModuleView = record w { layout_text = Some text } in
    with_section w k (layout_section text) (c ∷ after) m (adds_layout w text m is) (with_print k [] c after m (top_on text.line (layout_item text.bytes)) closed own (subst (λ n. Behind n [] after m) (sym (ok_is h)) rest))

type_rest : (w n : ModuleView) (name : List ℕ) (t : TypeView) (c : Cut) (after : List Cut) (m : ModuleView) → c.closed ≡ true → IsPrint (top_on t.line (type_item name t.over)) c → types_in (with_entry name t w.types) w ≡ Ok n
    → Behind n [] after m → Behind w [] (c ∷ after) m
type_rest w n name t c after m closed own h rest = by (is_entry name w.types) refl h
  where
    by : (b : Bool) → is_entry name w.types ≡ b → types_in (if b then Err K4 else Ok (w.types ++ (name, t) ∷ [])) w ≡ Ok n → Behind w [] (c ∷ after) m
    by true e h = no_ok K4 n h
    by false e h =
        let k : ModuleView = record w { types = w.types ++ (name, t) ∷ [] } in
        with_section w k (type_section name t) (c ∷ after) m (adds_type w name t m e) (with_print k [] c after m (top_on t.line (type_item name t.over)) closed own (subst (λ n. Behind n [] after m) (sym (ok_is h)) rest))

global_rest : (w n : ModuleView) (g : GlobalView) (c : Cut) (after : List Cut) (m : ModuleView) → c.closed ≡ true → IsPrint (top_on g.line (global_item g.name g.constant g.over g.init g.align)) c → with_global g w ≡ Ok n
    → Behind n [] after m → Behind w [] (c ∷ after) m
global_rest w n g c after m closed own h rest =
    let e = chosen (is_symbol g.name w) K4 (Ok (with_new_global g w)) n h in
    let k = with_new_global g w in
    with_section w k (global_section g) (c ∷ after) m (adds_global w g m e.0)
    (with_print k [] c after m (top_on g.line (global_item g.name g.constant g.over g.init g.align)) closed own (subst (λ n. Behind n [] after m) (sym (ok_is e.1)) rest))

declared_rest : (w n : ModuleView) (name : List ℕ) (result : Ty) (c : Cut) (after : List Cut) (m : ModuleView) → c.closed ≡ true → ReadsTop (declare_item name result) c.lexemes
    → with_declared (record { line = c.line; name = name; result = result; parameters = []; body = None }) w ≡ Ok n → Behind n [] after m → Behind w [] (c ∷ after) m
declared_rest w n name result c after m closed own h rest =
    let f : FunctionView = record { line = c.line; name = name; result = result; parameters = []; body = None } in
    let e = chosen (is_symbol name w) K4 (Ok (with_function f w)) n h in
    let section = declared_section c.line name result in
    with_section w (with_function f w) section (c ∷ after) m (adds_function w f m e.0 section refl refl refl refl)
    (with_print (with_function f w) [] c after m (top_on c.line (declare_item name result)) closed (refl, own) (subst (λ n. Behind n [] after m) (sym (ok_is e.1)) rest))

top_rest : (top : Top) (c : Cut) (after : List Cut) (w : ModuleView) (next : State) (m : ModuleView) → c.closed ≡ true → ReadsTop top c.lexemes → after_top top c.line after w ≡ Ok next → Rest next after m
    → Behind w [] (c ∷ after) m
top_rest (layout_item bytes) c after w next m closed reads h rest =
    let text : LineView = record { line = c.line; bytes = bytes } in
    outside_rest (layout_in w.layout_text text w) next after m (Behind w [] (c ∷ after) m) (λ n e r. layout_rest w.layout_text w n text c after m refl closed (refl, reads) e r) h rest
top_rest (type_item name over) c after w next m closed reads h rest =
    let t : TypeView = record { line = c.line; over = over } in
    outside_rest (types_in (with_entry name t w.types) w) next after m (Behind w [] (c ∷ after) m) (λ n e r. type_rest w n name t c after m closed (refl, reads) e r) h rest
top_rest (global_item name constant over init align) c after w next m closed reads h rest =
    let g : GlobalView = record { line = c.line; name = name; constant = constant; over = over; init = init; align = align } in
    outside_rest (with_global g w) next after m (Behind w [] (c ∷ after) m) (λ n e r. global_rest w n g c after m closed (refl, reads) e r) h rest
top_rest (define_item name result parameters) c after w next m closed reads h rest =
    let f : FunctionView = record { line = c.line; name = name; result = result; parameters = parameters; body = None } in
    inside_rest (with_head f after w) w next after m (Behind w [] (c ∷ after) m) (λ b e r. head_rest w f b c after m closed (refl, reads) e r) h rest
top_rest (declare_item name result) c after w next m closed reads h rest =
    let f : FunctionView = record { line = c.line; name = name; result = result; parameters = []; body = None } in
    outside_rest (with_declared f w) next after m (Behind w [] (c ∷ after) m) (λ n e r. declared_rest w n name result c after m closed reads e r) h rest

inner_rest : (inner : Inner) (c : Cut) (after : List Cut) (b : BodyState) (w : ModuleView) (next : State) (m : ModuleView) → c.closed ≡ true → ReadsInner inner c.lexemes → after_inner inner c.line b w ≡ Ok next → Rest next after m
    → Inside w b.head b.blocks b.block (c ∷ after) m
inner_rest (label_item name) c after b w next m closed reads h rest =
    inside_rest (label_in b.block (record { line = c.line; name = name; instrs = [] }) b) w next after m (Inside w b.head b.blocks b.block (c ∷ after) m) (λ n e r. label_rest w b n name c after m closed reads e r) h rest
inner_rest (instr_item result act) c after b w next m closed reads h rest =
    let i : InstrView = record { line = c.line; result = result; act = act } in
    inside_rest (instr_at b.block i b) w next after m (Inside w b.head b.blocks b.block (c ∷ after) m) (λ n e r. instr_rest w b n i c after m closed (refl, reads) e r) h rest
inner_rest close_item c after b w next m closed reads h rest =
    closed_rest (closed_at b.block b.blocks b.head) w next after m (Inside w b.head b.blocks b.block (c ∷ after) m) (λ f e r. close_rest w b.head b.blocks b.block c after m f closed reads e r) h rest

-- ---- all items

ranged_rest : (o : Out ModuleView) (s next : State) (after : List Cut) (m : ModuleView) (G : Type 0) → ((n : ModuleView) → o ≡ Ok n → RestOf s.body n after m → G) → then_whole o s ≡ Ok next → Rest next after m → G
ranged_rest (Err reason) s next after m G f h rest = no_ok reason next h
ranged_rest (Ok n) s next after m G f h rest = f n refl (subst (λ s. Rest s after m) (sym (ok_is h)) rest)

passed_rest : (b : Option BodyState) (w : ModuleView) (c : Cut) (after : List Cut) (m : ModuleView) → c.closed ≡ true → is_dropped_item c.lexemes ≡ true → SpellsNoRange c → RestOf b w after m → RestOf b w (c ∷ after) m
passed_rest None w c after m closed drops none r = with_passed w [] c after m closed drops none r
passed_rest (Some b) w c after m closed drops none r = record {
  more = r.more;
  others = r.others;
  first = r.first;
  rest = r.rest;
  whole = r.whole;
  behind = with_passed (with_function (with_blocks b.head (r.first ∷ r.rest)) w) (more_prints b.block r.more r.others ++ closing ∷ []) c after m closed drops none r.behind;
}

kept_range : (b : Option BodyState) (w : ModuleView) (c : Cut) (after : List Cut) (m : ModuleView) (name : List ℕ) (range : RangeView) → c.closed ≡ true → is_dropped_item c.lexemes ≡ true → IsRange (name, range) c
    → is_entry name w.ranges ≡ false → RestOf b (with_range w name range) after m → RestOf b w (c ∷ after) m
kept_range None w c after m name range closed drops own new r = with_ranged w [] c after m name range closed drops own new r
kept_range (Some b) w c after m name range closed drops own new r = record {
  more = r.more;
  others = r.others;
  first = r.first;
  rest = r.rest;
  whole = r.whole;
  behind = with_ranged (with_function (with_blocks b.head (r.first ∷ r.rest)) w) (more_prints b.block r.more r.others ++ closing ∷ []) c after m name range closed drops own new r.behind;
}

range_rest : (b : Option BodyState) (w n : ModuleView) (c : Cut) (after : List Cut) (m : ModuleView) (name : List ℕ) (range : RangeView) → c.closed ≡ true → is_dropped_item c.lexemes ≡ true → IsRange (name, range) c
    → ranges_in (with_entry name range w.ranges) w ≡ Ok n → RestOf b n after m → RestOf b w (c ∷ after) m
range_rest b w n c after m name range closed drops own h rest = by (is_entry name w.ranges) refl h
  where
    by : (q : Bool) → is_entry name w.ranges ≡ q → ranges_in (if q then Err K4 else Ok (w.ranges ++ (name, range) ∷ [])) w ≡ Ok n → RestOf b w (c ∷ after) m
    by true e h = no_ok K4 n h
    by false e h = kept_range b w c after m name range closed drops own e (subst (λ n. RestOf b n after m) (sym (ok_is h)) rest)

reading_rest : (r : Reading) (c : Cut) (after : List Cut) (s next : State) (m : ModuleView) → c.closed ≡ true → Reads (is_inside s) r c.lexemes → after_reading r c.line after s ≡ Ok next → Rest next after m → Rest s (c ∷ after) m
reading_rest passed c after s next m closed reads h rest = passed_rest s.body s.whole c after m closed reads.0 reads.1 (subst (λ s. Rest s after m) (sym (ok_is h)) rest)
reading_rest (ranged name numbers) c after s next m closed reads h rest =
    let range : RangeView = record { line = c.line; numbers = numbers } in
    ranged_rest (ranges_in (with_entry name range s.whole.ranges) s.whole) s next after m (Rest s (c ∷ after) m) (λ n e r. range_rest s.body s.whole n c after m name range closed reads.0 (refl, reads.1) e r) h rest
reading_rest (top_of top) c after s next m closed reads h rest = by s.body h
  where
    by : (o : Option BodyState) → top_at o top c.line after s.whole ≡ Ok next → RestOf o s.whole (c ∷ after) m
    by None h = top_rest top c after s.whole next m closed reads.1 h rest
    by (Some b) h = no_ok K2 next h
reading_rest (inner_of inner) c after s next m closed reads h rest = by s.body h
  where
    by : (o : Option BodyState) → inner_at o inner c.line s.whole ≡ Ok next → RestOf o s.whole (c ∷ after) m
    by None h = no_ok K2 next h
    by (Some b) h = inner_rest inner c after b s.whole next m closed reads.1 h rest
reading_rest (refused reason) c after s next m closed reads h rest = no_ok reason next h

item_rest : (c : Cut) (after : List Cut) (s next : State) (m : ModuleView) → (closed goes_on : Bool) → c.closed ≡ closed → Passes (closed && goes_on) s c after (Ok next) → Rest next after m → Rest s (c ∷ after) m
item_rest c after s next m false goes_on closed h rest = no_ok K2 next (sym h)
item_rest c after s next m true false closed h rest = no_ok K2 next (sym h)
item_rest c after s next m true true closed (r, reads, is) rest = reading_rest r c after s next m closed reads (sym is) rest

no_rest : (w m : ModuleView) → w ≡ m → Behind w [] [] m
no_rest w m is = record {
  sections = [];
  ranges = [];
  closed = refl;
  kept_items = tt;
  dropped_items = refl;
  adds = record {
    layout = ap (λ n. option_to_list n.layout_text) (sym is) ∙ sym (append-nil (option_to_list w.layout_text));
    types = ap (λ n. n.types) (sym is) ∙ sym (append-nil w.types);
    globals = ap (λ n. n.globals) (sym is) ∙ sym (append-nil w.globals);
    functions = ap (λ n. n.functions) (sym is) ∙ sym (append-nil w.functions);
    ranges = ap (λ n. n.ranges) (sym is) ∙ sym (append-nil w.ranges);
    scopes = λ sc. subst AreScopes is sc;
  };
}

items_rest : (cs : List Cut) (s : State) (m : ModuleView) → SpellsFrom s cs m → Rest s cs m
items_rest [] s m h = subst (λ o. RestOf o s.whole [] m) (sym h.0) (no_rest s.whole m h.1)
items_rest (c ∷ after) s m (next, leads, later) = item_rest c after s next m c.closed (not (begins_define c.lexemes) || holds_close after) refl leads (items_rest after next m later)

-- ---- functions of a module that has its shape

body_is : (m : ModuleView) → IsShaped m → (f : FunctionView) (blocks : List BlockView) → IsFunction m f → f.body ≡ Some blocks → IsFunctionBody f blocks
body_is m shaped f blocks own is = by (shaped.bodies f own)
  where
    by : (f.body ≡ None) ⊎ ((b : BlockView) × (rest : List BlockView) × IsShapedBody f b rest) → IsFunctionBody f blocks
    by (inl none) = absurd (never (sym none ∙ is))
      where
        never : ◌≡◌ {A = Option (List BlockView)} None (Some blocks) → ⊥
        never e = cc
    by (inr (b, rest, body)) =
        let same : b ∷ rest ≡ blocks = some_is (sym body.body ∙ is) in
        subst (IsFunctionBody f) same (record { ended = body.ended; distinct = body.distinct })
      where
        some_is : {x y : List BlockView} → ◌≡◌ {A = Option (List BlockView)} (Some x) (Some y) → x ≡ y
        some_is e = cc

no_names : AreScopes no_items
unfolding IsDistinct
no_names = record { types = tt; ranges = tt; symbols = tt }

-- a module that items spell is printed by them
pub spelled_is_printed : (cs : List Cut) (m : ModuleView) → SpellsFrom at_start cs m → IsPrinting cs m
spelled_is_printed cs m h =
    let r : Behind no_items [] cs m = items_rest cs at_start m h in
    record {
      sections = r.sections;
      closed = r.closed;
      kept_items = r.kept_items;
      dropped_items = subst (HoldRanges (dropped cs)) (sym r.adds.ranges) r.dropped_items;
      tables = record { layout = r.adds.layout; types = r.adds.types; globals = r.adds.globals; functions = r.adds.functions };
      scopes = r.adds.scopes no_names;
      bodies = body_is m (spelled_is_shaped cs m h);
    }

-- the same of an answer over a text
pub printed_answer : (r : Result Module KernelStop) (text : List ℕ) → IfOk r (λ m. IsModuleText text (view_module m)) → IfOk r (λ m. IsPrintedText text (view_module m))
printed_answer (Ok m) text h = record { tokens = h.tokens; lexed = h.lexed; printed = spelled_is_printed (cut h.tokens) (view_module m) h.spelled }
printed_answer (Err stop) text h = h
