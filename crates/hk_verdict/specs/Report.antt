-- The report of a verification: the line of the opening, and then the lines of each verdict.
use Rattle.std.specs.Prelude.{ℕ, List, [], ◌∷◌, ◌++◌, Option, Some, None, slice_get, codes}
use Rattle.std.specs.List.{flat_map, zip, enumerate_from}
use Rattle.std.specs.Fmt.{decimal}
use Rattle.ir_ast.specs.Program.{ModuleView}
use Rattle.spec_tree.specs.Plain.{Field, Named, Transition, Spec}
use Rattle.spec_tree.specs.Sorted.{field_sorts}
use Rattle.spec_tree.specs.Shapes.{IsState}
use Rattle.hk_case.specs.declared.Obligation.{Obligation}
use Rattle.hk_case.specs.declared.Obligation.TheVariants.{Undefined, Invariant, State, ResultValue, Property}
use Rattle.hk_case.specs.declared.Case.{Case}
use Rattle.hk_case.specs.declared.Case.TheVariants.{Machine, Abstract}
use Rattle.hk_rows.specs.Texts.{line}
use Rattle.hk_rows.specs.Rows.{memory_text}
use Rattle.hk_verdict.specs.declared.verdict.Verdict.{Verdict}
use Rattle.hk_verdict.specs.declared.verdict.Verdict.TheVariants as verdict
use Rattle.hk_verdict.specs.declared.verdict.InitVerdict.{InitVerdict}
use Rattle.hk_verdict.specs.declared.verdict.InitVerdict.TheVariants as init
use Rattle.hk_verdict.specs.Entries.{entries_text}

-- the name of an invariant, a property or a field; nothing where there is none
abbrev pub named_text : Option Named → List ℕ
named_text (Some n) = n.name
named_text None = []

abbrev pub field_name : Option Field → List ℕ
field_name (Some f) = f.name
field_name None = []

-- a line of two texts
abbrev pub two_texts : List ℕ → List ℕ → List ℕ
two_texts first second = line (first ∷ second ∷ [])

-- what is said of the initial memory: nothing where it was not tested
abbrev pub init_text : Spec → InitVerdict → List ℕ
init_text s init.NotRun = []
init_text s init.Holds = line (codes "init holds" ∷ [])
init_text s (init.FailsInvariant i) = two_texts (codes "init fails invariant ") (named_text (slice_get s.invariants i))
init_text s (init.FailsProperty p) = two_texts (codes "init fails property ") (named_text (slice_get s.properties p))

-- the arguments of a case: a line for each, counted from 0
abbrev pub arg_text : ℕ × ℕ → List ℕ
arg_text arg = line (codes "  arg " ∷ decimal arg.0 ∷ codes " = " ∷ decimal arg.1 ∷ [])

abbrev pub args_text : List ℕ → List ℕ
args_text args = flat_map arg_text (enumerate_from 0 args)

-- a state block: the arguments, and the rows of a machine state or the entries of an abstract one
abbrev pub case_text : ModuleView → Spec → Case → List ℕ
case_text m s (Machine memory args) = args_text args ++ memory_text m.globals memory
case_text m s (Abstract state args) = args_text args ++ entries_text [] s state

-- a line of a word, a handler, and an obligation by its own word and the name that it has
abbrev pub named_line : List ℕ → List ℕ → List ℕ → List ℕ → List ℕ
named_line word handler kind name = line (word ∷ handler ∷ codes " " ∷ kind ∷ name ∷ [])

abbrev pub obligation_line : List ℕ → Spec → List ℕ → Obligation → List ℕ
obligation_line word s handler Undefined = named_line word handler (codes "undefined") []
obligation_line word s handler (Invariant i) = named_line word handler (codes "invariant ") (named_text (slice_get s.invariants i))
obligation_line word s handler (State f) = named_line word handler (codes "state ") (field_name (slice_get s.fields f))
obligation_line word s handler ResultValue = named_line word handler (codes "result") []
obligation_line word s handler (Property p) = named_line word handler (codes "property ") (named_text (slice_get s.properties p))

-- the line of a rejection
abbrev pub named_rejection : List ℕ → List ℕ → List ℕ → List ℕ
named_rejection handler kind name = named_line (codes "reject ") handler kind name

abbrev pub rejection_line : Spec → Transition → Obligation → List ℕ
rejection_line s t o = obligation_line (codes "reject ") s t.name o

-- the line of a handler that was not decided, by the obligation that was not
abbrev pub unknown_line : Spec → Transition → Obligation → List ℕ
unknown_line s t o = obligation_line (codes "unknown ") s t.name o

-- the lines of a handler's verdict
abbrev pub verdict_text : ModuleView → Spec → Transition → Verdict → List ℕ
verdict_text m s t (verdict.Accepted proofs) = two_texts (codes "accept ") t.name
verdict_text m s t (verdict.Rejected o case) = rejection_line s t o ++ case_text m s case
verdict_text m s t (verdict.Unknown o instances clauses log) = unknown_line s t o
verdict_text m s t verdict.Memory = two_texts (codes "memory ") t.name

-- what a case must be for its lines: an abstract state has the specification's shape
abbrev pub IsShown : Spec → Case → Type 0
IsShown s (Machine memory args) = Unit {0}
IsShown s (Abstract state args) = IsState (field_sorts s) state

abbrev pub IsShownVerdict : Spec → Verdict → Type 0
IsShownVerdict s (verdict.Rejected o case) = IsShown s case
IsShownVerdict s _ = Unit {0}

-- the lines of the first verdicts, in the order of the handlers
abbrev pub verdicts_text : ModuleView → Spec → List Verdict → List ℕ
verdicts_text m s verdicts = flat_map (λ v. verdict_text m s v.0 v.1) (zip s.transitions verdicts)

-- the report
abbrev pub report_text : ModuleView → Spec → InitVerdict → List Verdict → List ℕ
report_text m s init verdicts = init_text s init ++ verdicts_text m s verdicts
