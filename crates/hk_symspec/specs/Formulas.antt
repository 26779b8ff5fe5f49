-- The names of a formula: terms for arguments and local names, and variables of quantifiers from an id on.
use Rattle.std.specs.Prelude.{ℕ, ◌^◌, ◌<◌, ◌≤◌, List, [], All}
use Rattle.hk_term.specs.Meaning.{Reading}
use Rattle.hk_term.specs.declared.node.Node.{Node}
use Rattle.spec_tree.specs.Sorted.{Context, IsFieldSort}
use Rattle.spec_tree.specs.Value.{Env}
use Rattle.hk_symexpr.specs.Sources.{Source}
use Rattle.hk_symexpr.specs.Scope.{Scope}
use Rattle.hk_symexpr.specs.Naming.{AreNames, Suits, context_of}
use Rattle.hk_symexpr.specs.declared.names.NamedTerm.{NamedTerm}

abbrev pub formula_scope : List NamedTerm → List NamedTerm → ℕ → Scope
formula_scope args locals base = record { args = args; locals = locals; keys = []; sizes = []; known = []; base = base }

-- what may be named, where this may be read
abbrev pub formula_context : Context → List NamedTerm → List NamedTerm → ℕ → Context
formula_context c args locals base = context_of c (formula_scope args locals base)

-- the list holds the terms of the names, ids are left for quantifiers, and fields and objects are within the limits
pub record IsFormula (c : Context) (limit : ℕ) (nodes : List Node) (args locals : List NamedTerm) (base : ℕ) : Type 0 where
  pub names : AreNames nodes (formula_scope args locals base)
  pub ids : base ≤ limit
  pub fields : All IsFieldSort c.fields
  pub objects : All (λ n. n < 2 ^ 64) c.objects

-- under a reading this is what the formula reads, and no variable of a quantifier changes it
abbrev pub Reads : (Reading → Source) → Context → List Node → List NamedTerm → List NamedTerm → ℕ → Reading → Env → Type 0
Reads source c nodes args locals base v env = Suits source (formula_context c args locals base) nodes (formula_scope args locals base) v env
