-- Where the lines of a transition are gone through: the terms of what is named and read so far.
use Rattle.std.specs.Prelude.{◌≡◌, ℕ, List, [], ◌∷◌, All}
use Rattle.hk_term.specs.Meaning.{Reading, value}
use Rattle.hk_term.specs.declared.node.Node.{Node}
use Rattle.spec_tree.specs.Plain.{Spec, Trees, no_trees, tree_and}
use Rattle.spec_tree.specs.Sorted.{Context, IsSorted, field_sorts, over_step, width_of}
use Rattle.spec_tree.specs.Value.{Env}
use Rattle.hk_symexpr.specs.Sources.{Source}
use Rattle.hk_symexpr.specs.Scope.{Scope}
use Rattle.hk_symexpr.specs.Naming.{AreNames, Suits, context_of}
use Rattle.hk_symexpr.specs.declared.names.NamedTerm.{NamedTerm}
use Rattle.hk_symexpr.specs.declared.names.Limit.{Limit}
use Rattle.hk_symspec.specs.declared.write.EntryWrite.{EntryWrite}
use Rattle.hk_symspec.specs.States.{StateView, after_writes, kernel_at, state_at}
use Rattle.hk_symspec.specs.Standing.{formula_base}
use Rattle.hk_symspec.specs.KeptLaws.{IsReadOver}

-- what a line names: the arguments, the local names of the earlier lines, and what is known of terms
abbrev pub line_scope : List NamedTerm → List Limit → List NamedTerm → Scope
line_scope args known locals = record { args = args; locals = locals; keys = []; sizes = []; known = known; base = formula_base }

abbrev pub line_context : Spec → List NamedTerm → List NamedTerm → Context
line_context s args locals = context_of (over_step s []) (line_scope args [] locals)

-- what a line reads: the state that came in, and the copy of it behind the writes of the earlier lines
abbrev pub line_source : Spec → List Node → StateView → List EntryWrite → Reading → Source
line_source s nodes a writes v =
    record { old = state_at s nodes a v; new = after_writes (field_sorts s) nodes v writes (state_at s nodes a v); memory = kernel_at nodes a.memory v }

-- the list holds the terms of all that a line names and reads, and the earlier writes are done under every reading
pub record IsPoint (s : Spec) (nodes : List Node) (a : StateView) (args : List NamedTerm) (known : List Limit) (locals : List NamedTerm) (writes : List EntryWrite) : Type 0 where
  pub read : IsReadOver s nodes a writes
  pub names : AreNames nodes (line_scope args known locals)
  pub done : All (λ w. (v : Reading) → value nodes w.guard v ≡ 1) writes

-- under a reading this is what a line reads
abbrev pub LineReads : Spec → List Node → StateView → List NamedTerm → List Limit → List NamedTerm → List EntryWrite → Reading → Env → Type 0
LineReads s nodes a args known locals writes v env = Suits (line_source s nodes a writes) (line_context s args locals) nodes (line_scope args known locals) v env

-- each of these is well sorted
abbrev pub AreSorted : Context → Trees → Type 0
AreSorted c no_trees = Unit {0}
AreSorted c (tree_and e es) = IsSorted c e × AreSorted c es

-- the widths of expressions
abbrev pub widths_of : Context → Trees → List ℕ
widths_of c no_trees = []
widths_of c (tree_and e es) = width_of c e ∷ widths_of c es

-- the write with another guard
abbrev pub guarded : ℕ → EntryWrite → EntryWrite
guarded guard w = record w { guard = guard }
