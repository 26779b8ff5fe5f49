-- Which rules the types that an item spells make it fall under, noted one type after another.
use Rattle.std.specs.Prelude.{ℕ, false, ◌||◌, Option, Some, None, List, [], ◌∷◌}
use Rattle.ir_ast.specs.Plain.{Ty, Val, Form, Indices, address, form, no_indices, index_and, Ini, Inis, array_init, structure_init, packed_init, no_inits, init_and}
use Rattle.ir_ast.specs.Program.{Act, binary, compare, select, convert, freeze, phi, slot, load, store, offset, call, extract, goto, branch, switch, give, unreachable}
use Rattle.ir_layout.specs.declared.fact.Fact.{Fact}
use Rattle.ir_layout.specs.declared.marks.Marks.{Marks}
use Rattle.ir_layout.specs.Facts.{fact_by}

-- a type of no name that is bad, and none over the limit
abbrev pub clear : Marks
clear = record { bad = false; large = false }

abbrev pub note : (List ℕ → Fact) → Marks → Ty → Marks
note look marks t = record { bad = marks.bad || (fact_by look t).bad; large = marks.large || (fact_by look t).large }

abbrev pub note_all : (List ℕ → Fact) → Marks → List Ty → Marks
note_all look marks [] = marks
note_all look marks (t ∷ ts) = note_all look (note look marks t) ts

abbrev mutual
  pub note_value : (List ℕ → Fact) → Marks → Val → Marks
  note_value look marks (address f) = note_form look marks f
  note_value look marks _ = marks

  pub note_form : (List ℕ → Fact) → Marks → Form → Marks
  note_form look marks (form flags over base indices) = note_indices look (note_value look (note look marks over) base) indices

  pub note_indices : (List ℕ → Fact) → Marks → Indices → Marks
  note_indices look marks no_indices = marks
  note_indices look marks (index_and t v is) = note_indices look (note_value look (note look marks t) v) is

abbrev mutual
  pub note_init : (List ℕ → Fact) → Marks → Ini → Marks
  note_init look marks (array_init is) = note_inits look marks is
  note_init look marks (structure_init is) = note_inits look marks is
  note_init look marks (packed_init is) = note_inits look marks is
  note_init look marks _ = marks

  pub note_inits : (List ℕ → Fact) → Marks → Inis → Marks
  note_inits look marks no_inits = marks
  note_inits look marks (init_and t i is) = note_inits look (note_init look (note look marks t) i) is

abbrev pub note_values : (List ℕ → Fact) → Marks → List (Val × List ℕ) → Marks
note_values look marks [] = marks
note_values look marks (v ∷ vs) = note_values look (note_value look marks v.0) vs

-- the type of a phi counts where it has an arm
abbrev pub note_arms : (List ℕ → Fact) → Marks → Ty → List (Val × List ℕ) → Marks
note_arms look marks over [] = marks
note_arms look marks over (v ∷ vs) = note_values look (note look marks over) (v ∷ vs)

abbrev pub note_typed : (List ℕ → Fact) → Marks → List (Ty × Val) → Marks
note_typed look marks [] = marks
note_typed look marks (p ∷ ps) = note_typed look (note_value look (note look marks p.0) p.1) ps

abbrev pub note_given : (List ℕ → Fact) → Marks → Option Val → Marks
note_given look marks None = marks
note_given look marks (Some v) = note_value look marks v

-- each type of an instruction once
abbrev pub note_act : (List ℕ → Fact) → Marks → Act → Marks
note_act look marks (binary kind flags w a b) = note_value look (note_value look marks a) b
note_act look marks (compare samesign predicate over a b) = note_value look (note_value look (note look marks over) a) b
note_act look marks (select condition over a b) = note_value look (note_value look (note look (note_value look marks condition) over) a) b
note_act look marks (convert kind flags from to a) = note_value look marks a
note_act look marks (freeze over a) = note_value look (note look marks over) a
note_act look marks (phi over arms) = note_arms look marks over arms
note_act look marks (slot over align) = note look marks over
note_act look marks (load over target align range) = note_value look (note look marks over) target
note_act look marks (store over value target align) = note_value look (note_value look (note look marks over) value) target
note_act look marks (offset f) = note_form look marks f
note_act look marks (call result callee arguments) = note_typed look (note look marks result) arguments
note_act look marks (extract w from part) = note_value look marks from
note_act look marks (goto target) = marks
note_act look marks (branch condition taken other) = note_value look marks condition
note_act look marks (switch w on default cases) = note_value look marks on
note_act look marks (give over value) = note_given look (note look marks over) value
note_act look marks unreachable = marks
