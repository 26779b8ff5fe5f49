-- The lines of a transition, one at a time, over what is read and named so far.
use Rattle.std.specs.Prelude.{◌≡◌, Some, slice_get, slice_index_or}
use Rattle.spec_tree.specs.Plain.{Trees, no_trees, tree_and, Line, let_line, write_line}
use Rattle.spec_tree.specs.Sorted.{Context, FieldSort, HasLimits, IsSorted, AreIndices, no_field, width_of, with_local}
use Rattle.spec_tree.specs.Value.{Env, value, values, place_behind}
use Rattle.spec_tree.specs.Shapes.{Fits}
use Rattle.spec_tree.specs.Meaning as meaning
use Rattle.spec_tree.specs.Meaning.{State, with_value, entry_set}
use Rattle.spec_number.specs.Scope.{Scope}
use Rattle.spec_number.specs.Evaluation.{context_of}
use Rattle.spec_number.specs.declared.reading.Reading.{Reading}
use Rattle.spec_state.specs.declared.steps.Step.{Step}

-- each of these is well sorted
abbrev pub AreSorted : Context → Trees → Type 0
AreSorted c no_trees = Unit {0}
AreSorted c (tree_and e es) = IsSorted c e × AreSorted c es

-- a line is well sorted
abbrev pub IsLine : Context → Line → Type 0
IsLine c (let_line e) = IsSorted c e
IsLine c (write_line f at e) = (sort : FieldSort) × (slice_get c.fields f ≡ Some sort) × AreIndices c sort.keys at × IsSorted c e × (width_of c e ≡ sort.width)

-- what may be named behind a line, and what is read there
abbrev pub behind_line : Context → Line → Context
behind_line c (let_line e) = with_local c e
behind_line c (write_line f at e) = c

abbrev pub after_line : Context → Env → Line → Env
after_line c v (let_line e) = with_value c v e
after_line c v (write_line f at e) =
    record v { new = entry_set v.new f (place_behind 0 (slice_index_or c.fields f no_field).keys (values c v at)) (value c v e) }

-- what is read in a transition whose copy is this state
abbrev pub env_with : Reading → State → Scope → Env
env_with r new s = record { old = r.old.now; new = new; memory = r.memory.now; args = r.args.now; locals = s.locals; bounds = s.indices }

pub record StandsWith (r : Reading) (new : State) (s : Scope) : Type 0 where
  pub limits : HasLimits (context_of r s)
  pub fits : Fits (context_of r s) (env_with r new s)

-- the step of the code, with the state as its entries
abbrev pub view_step : Step → meaning.Step
view_step s = record { valid = s.valid; state = s.state; result = s.result }
