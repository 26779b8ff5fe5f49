-- The least fault: that of the earliest line, and on one line that of the least number.
use Rattle.std.specs.Prelude.{ℕ, ◌==◌, ◌&&◌, ◌||◌, Bool, nat_lt, if◌then◌else◌, Option, Some, None, List, [], ◌∷◌, ◌+◌, min, map, not}
use Rattle.ir_ast.specs.declared.fault.KernelFault.{KernelFault}
use Rattle.ir_ast.specs.declared.fault.KernelReason.{KernelReason}
use Rattle.ir_ast.specs.declared.fault.KernelReason.TheVariants as code
use Rattle.ir_ast.specs.Program.{TypeView, GlobalView, RangeView, FunctionView, BlockView, InstrView, LineView, ModuleView}
use Rattle.ir_type.specs.Items.{Rule, K5, K6, K7, K8, K9, K10, K11, K12, K13, K14, K15}
use Rattle.ir_layout.specs.declared.fact.Fact.{Fact}
use Rattle.ir_layout.specs.declared.marks.Marks.{Marks}
use Rattle.ir_layout.specs.Facts.{fact_by}
use Rattle.ir_layout.specs.Noting.{clear, note, note_all, note_init, note_act}
use Rattle.ir_layout.specs.Texts.{has_bad_component}

-- what a report prints for a rule
abbrev pub reason_of : Rule → KernelReason
reason_of K5 = code.K5
reason_of K6 = code.K6
reason_of K7 = code.K7
reason_of K8 = code.K8
reason_of K9 = code.K9
reason_of K10 = code.K10
reason_of K11 = code.K11
reason_of K12 = code.K12
reason_of K13 = code.K13
reason_of K14 = code.K14
reason_of K15 = code.K15

abbrev pub number_of_reason : KernelReason → ℕ
number_of_reason code.K1 = 1
number_of_reason code.K2 = 2
number_of_reason code.K3 = 3
number_of_reason code.K4 = 4
number_of_reason code.K5 = 5
number_of_reason code.K6 = 6
number_of_reason code.K7 = 7
number_of_reason code.K8 = 8
number_of_reason code.K9 = 9
number_of_reason code.K10 = 10
number_of_reason code.K11 = 11
number_of_reason code.K12 = 12
number_of_reason code.K13 = 13
number_of_reason code.K14 = 14
number_of_reason code.K15 = 15

abbrev pub is_before : ℕ → KernelReason → KernelFault → Bool
is_before line reason f = nat_lt line f.line || ((line == f.line) && nat_lt (number_of_reason reason) (number_of_reason f.reason))

abbrev pub offer : Option KernelFault → ℕ → KernelReason → Option KernelFault
offer None line reason = Some (record { line = line; reason = reason })
offer (Some f) line reason = if is_before line reason f then Some (record { line = line; reason = reason }) else Some f

abbrev pub offer_marks : Option KernelFault → ℕ → Marks → Option KernelFault
offer_marks least line marks = if marks.bad then offer least line code.K5 else (if marks.large then offer least line code.K6 else least)

-- ---- over the items of a module

abbrev pub least_type : (List ℕ → Fact) → Option KernelFault → TypeView → Option KernelFault
least_type look least e = offer_marks least e.line (note look clear e.over)

abbrev pub least_types : (List ℕ → Fact) → Option KernelFault → List (List ℕ × TypeView) → Option KernelFault
least_types look least [] = least
least_types look least (e ∷ es) = least_types look (least_type look least e.1) es

-- the bytes of globals, cut at one over the limit
abbrev pub cut_total : ℕ → ℕ
cut_total n = min n 4194305

abbrev pub counted : Fact → ℕ
counted f = if f.known && not f.odd then f.size else 0

abbrev pub total_with : (List ℕ → Fact) → ℕ → GlobalView → ℕ
total_with look total g = cut_total (total + counted (fact_by look g.over))

-- what is noted of a global, of whose type this is kept, where the globals up to it have so many bytes
abbrev pub marks_with : (List ℕ → Fact) → Fact → ℕ → GlobalView → Marks
marks_with look f total g = record {
  bad = (note_init look (record { bad = f.bad; large = f.large }) g.init).bad || f.odd;
  large = (note_init look (record { bad = f.bad; large = f.large }) g.init).large || nat_lt 4194304 total;
}

abbrev pub marks_of_global : (List ℕ → Fact) → ℕ → GlobalView → Marks
marks_of_global look total g = marks_with look (fact_by look g.over) (total_with look total g) g

abbrev pub least_globals : (List ℕ → Fact) → Option KernelFault → ℕ → List (List ℕ × GlobalView) → Option KernelFault
least_globals look least total [] = least
least_globals look least total (g ∷ gs) = least_globals look (offer_marks least g.1.line (marks_of_global look total g.1)) (total_with look total g.1) gs

abbrev pub least_range : (List ℕ → Fact) → Option KernelFault → RangeView → Option KernelFault
least_range look least r = offer_marks least r.line (note_all look clear (map (λ n. n.0) r.numbers))

abbrev pub least_ranges : (List ℕ → Fact) → Option KernelFault → List (List ℕ × RangeView) → Option KernelFault
least_ranges look least [] = least
least_ranges look least (r ∷ rs) = least_ranges look (least_range look least r.1) rs

abbrev pub least_instrs : (List ℕ → Fact) → Option KernelFault → List InstrView → Option KernelFault
least_instrs look least [] = least
least_instrs look least (i ∷ is) = least_instrs look (offer_marks least i.line (note_act look clear i.act)) is

abbrev pub least_blocks : (List ℕ → Fact) → Option KernelFault → List BlockView → Option KernelFault
least_blocks look least [] = least
least_blocks look least (b ∷ bs) = least_blocks look (least_instrs look least b.instrs) bs

abbrev pub least_body : (List ℕ → Fact) → Option KernelFault → Option (List BlockView) → Option KernelFault
least_body look least None = least
least_body look least (Some blocks) = least_blocks look least blocks

abbrev pub least_head : (List ℕ → Fact) → Option KernelFault → FunctionView → Option KernelFault
least_head look least f = offer_marks least f.line (note_all look (note look clear f.result) (map (λ p. p.0) f.parameters))

abbrev pub least_function : (List ℕ → Fact) → Option KernelFault → FunctionView → Option KernelFault
least_function look least f = least_body look (least_head look least f) f.body

abbrev pub least_functions : (List ℕ → Fact) → Option KernelFault → List (List ℕ × FunctionView) → Option KernelFault
least_functions look least [] = least
least_functions look least (f ∷ fs) = least_functions look (least_function look least f.1) fs

abbrev pub least_text : Option LineView → Option KernelFault
least_text None = None
least_text (Some l) = if has_bad_component l.bytes then Some (record { line = l.line; reason = code.K7 }) else None

abbrev pub least_fault : (List ℕ → Fact) → ModuleView → Option KernelFault
least_fault look m =
    least_functions look (least_ranges look (least_globals look (least_types look (least_text m.layout_text) m.types) 0 m.globals) m.ranges) m.functions
