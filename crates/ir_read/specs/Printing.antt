-- How a module is printed as a text (LLVM Language Reference, "High Level Structure"), with no word of how a text is read.
use Rattle.std.specs.Prelude.{◌≡◌, ℕ, ℤ, true, not, ◌⊎◌, Some, None, option_to_list, Ok, List, [], ◌∷◌, ◌++◌, map, flat_map, All, bytes_eq, decimal}
use Rattle.std.specs.List.{filter, list_all, IsDistinct}
use Rattle.ir_ast.specs.Plain.{Ty}
use Rattle.ir_ast.specs.Program.{InstrView, BlockView, FunctionView, TypeView, GlobalView, RangeView, LineView, ModuleView}
use Rattle.ir_ast.specs.Table.{names_of}
use Rattle.ir_lex.specs.Lexeme.{Lexeme}
use Rattle.ir_lex.specs.Lex.{lex}
use Rattle.ir_lex.specs.Cut.{Cut, cut}
use Rattle.ir_lex.specs.Drop.{is_dropped_item}
use Rattle.ir_lex.specs.Tok.{toks}
use Rattle.ir_lex.specs.Items.{Top, layout_item, type_item, global_item, define_item, declare_item, Inner, label_item, instr_item, close_item, ReadsTop, ReadsInner, SpellsRangeItem, number_behind}
use Rattle.ir_type.specs.Items.{IsFunction}
use Rattle.ir_type.specs.Shape.{Ends}

-- a piece of a module that is printed as one run of items
pub data Section : Type 0 where
  layout_section : LineView → Section
  type_section : List ℕ → TypeView → Section
  global_section : GlobalView → Section
  -- line, name, result
  declared_section : ℕ → List ℕ → Ty → Section
  -- the head, the first block and the others, each with its label
  labelled_section : FunctionView → BlockView → List BlockView → Section
  -- the head, the instructions of the first block, which has no label, and the other blocks
  unlabelled_section : FunctionView → List InstrView → List BlockView → Section

-- ---- what a section is

-- a first block without a label has the line of its `define`, and the number behind the parameters as its name
abbrev pub unlabelled_block : FunctionView → List InstrView → BlockView
unlabelled_block head instrs = record { line = head.line; name = decimal (number_behind 0 head.parameters); instrs = instrs }

abbrev pub with_blocks : FunctionView → List BlockView → FunctionView
with_blocks head blocks = record head { body = Some blocks }

abbrev pub layouts_in : Section → List LineView
layouts_in (layout_section text) = text ∷ []
layouts_in _ = []

abbrev pub types_in : Section → List (List ℕ × TypeView)
types_in (type_section name t) = (name, t) ∷ []
types_in _ = []

abbrev pub globals_in : Section → List (List ℕ × GlobalView)
globals_in (global_section g) = (g.name, g) ∷ []
globals_in _ = []

abbrev pub functions_in : Section → List (List ℕ × FunctionView)
functions_in (declared_section line name result) = (name, record { line = line; name = name; result = result; parameters = []; body = None }) ∷ []
functions_in (labelled_section head first others) = (head.name, with_blocks head (first ∷ others)) ∷ []
functions_in (unlabelled_section head instrs others) = (head.name, with_blocks head (unlabelled_block head instrs ∷ others)) ∷ []
functions_in _ = []

-- ---- what its items say

-- an item outside of bodies, on this line; one of a body, on this line; the `}` of a body, on any
pub data Print : Type 0 where
  top_on : ℕ → Top → Print
  inner_on : ℕ → Inner → Print
  closing : Print

abbrev pub instr_print : InstrView → Print
instr_print i = inner_on i.line (instr_item i.result i.act)

abbrev pub block_prints : BlockView → List Print
block_prints b = inner_on b.line (label_item b.name) ∷ map instr_print b.instrs

abbrev pub head_print : FunctionView → Print
head_print f = top_on f.line (define_item f.name f.result f.parameters)

abbrev pub section_prints : Section → List Print
section_prints (layout_section text) = top_on text.line (layout_item text.bytes) ∷ []
section_prints (type_section name t) = top_on t.line (type_item name t.over) ∷ []
section_prints (global_section g) = top_on g.line (global_item g.name g.constant g.over g.init g.align) ∷ []
section_prints (declared_section line name result) = top_on line (declare_item name result) ∷ []
section_prints (labelled_section head first others) = head_print head ∷ (flat_map block_prints (first ∷ others) ++ closing ∷ [])
section_prints (unlabelled_section head instrs others) = head_print head ∷ ((map instr_print instrs ++ flat_map block_prints others) ++ closing ∷ [])

-- ---- items that say so

-- the item says this
abbrev pub IsPrint : Print → Cut → Type 0
IsPrint (top_on line top) c = (line ≡ c.line) × ReadsTop top c.lexemes
IsPrint (inner_on line inner) c = (line ≡ c.line) × ReadsInner inner c.lexemes
IsPrint closing c = ReadsInner close_item c.lexemes

-- the items say these things, in their order
abbrev pub ArePrints : List Print → List Cut → Type 0
ArePrints [] [] = Unit {0}
ArePrints (p ∷ ps) (c ∷ cs) = IsPrint p c × ArePrints ps cs
ArePrints _ _ = ⊥

abbrev pub SpellsNoRange : Cut → Type 0
SpellsNoRange c = (name : List ℕ) → (numbers : List (Ty × ℤ)) → SpellsRangeItem name numbers (toks c.lexemes) → ⊥

abbrev pub IsRange : List ℕ × RangeView → Cut → Type 0
IsRange (name, range) c = (range.line ≡ c.line) × SpellsRangeItem name range.numbers (toks c.lexemes)

-- of these items some spell the ranges, in their order, and the others spell none
abbrev pub HoldRanges : List Cut → List (List ℕ × RangeView) → Type 0
HoldRanges [] ranges = ranges ≡ []
HoldRanges (c ∷ cs) ranges =
    (SpellsNoRange c × HoldRanges cs ranges) ⊎ ((first : List ℕ × RangeView) × (others : List (List ℕ × RangeView)) × (ranges ≡ first ∷ others) × IsRange first c × HoldRanges cs others)

-- ---- whole texts

abbrev pub kept : List Cut → List Cut
kept cs = filter (λ c. not (is_dropped_item c.lexemes)) cs

abbrev pub dropped : List Cut → List Cut
dropped cs = filter (λ c. is_dropped_item c.lexemes) cs

-- each table of the module is the sections of its kind; so there is at most one layout text
pub record AreTables (sections : List Section) (m : ModuleView) : Type 0 where
  pub layout : option_to_list m.layout_text ≡ flat_map layouts_in sections
  pub types : m.types ≡ flat_map types_in sections
  pub globals : m.globals ≡ flat_map globals_in sections
  pub functions : m.functions ≡ flat_map functions_in sections

-- types have one scope, ranges one, and globals and functions one
pub record AreScopes (m : ModuleView) : Type 0 where
  pub types : IsDistinct bytes_eq (names_of m.types)
  pub ranges : IsDistinct bytes_eq (names_of m.ranges)
  pub symbols : IsDistinct bytes_eq (names_of m.globals ++ names_of m.functions)

-- each block ends with its only last instruction; parameters, blocks and registers have one scope
pub record IsFunctionBody (f : FunctionView) (blocks : List BlockView) : Type 0 where
  pub ended : All Ends blocks
  pub distinct : IsDistinct bytes_eq (map (λ p. p.1) f.parameters ++ flat_map (λ b. b.name ∷ flat_map (λ i. option_to_list i.result) b.instrs) blocks)

-- the items print the module
pub record IsPrinting (cs : List Cut) (m : ModuleView) : Type 0 where
  pub sections : List Section
  pub closed : list_all (λ c. c.closed) cs ≡ true
  pub kept_items : ArePrints (flat_map section_prints sections) (kept cs)
  pub dropped_items : HoldRanges (dropped cs) m.ranges
  pub tables : AreTables sections m
  pub scopes : AreScopes m
  pub bodies : (f : FunctionView) (blocks : List BlockView) → IsFunction m f → f.body ≡ Some blocks → IsFunctionBody f blocks

-- the text prints the module: it has tokens alone, and their items print it
pub record IsPrintedText (text : List ℕ) (m : ModuleView) : Type 0 where
  pub tokens : List Lexeme
  pub lexed : lex text ≡ Ok tokens
  pub printed : IsPrinting (cut tokens) m
