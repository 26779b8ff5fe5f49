-- What is made so far is well sorted.
use Rattle.std.proofs.Common.{◌≡◌, ℕ, Bool, true, false, Some, List, [], ◌∷◌, ◌++◌, All}
use Rattle.std.proofs.lemmas.List.Elements.{All-nil, All-cons, All-append}
use Rattle.spec_tree.specs.Plain as tree
use Rattle.spec_tree.specs.Plain.{Field, Named, Transition}
use Rattle.spec_tree.specs.Sorted.{FieldSort, IsSorted, IsWidth, width_of, with_locals, AreLocals, AreLines, lets_of, IsNamed, IsResult}
use Rattle.spec_lines.specs.Whole.{Made, put_let}
use Rattle.spec_sound.proofs.Bodies.{kernel_over, state_over, step_over}
use Rattle.spec_sound.proofs.Values.{IsFieldIn}

-- a transition is well sorted over these fields and objects
pub record IsStep (F : List FieldSort) (O : List ℕ) (t : Transition) : Type 0 where
  pub widths : All IsWidth t.widths
  pub lines : AreLines (step_over F O t.widths) t.lines
  pub valid : IsSorted (with_locals (step_over F O t.widths) (lets_of t.lines)) t.valid
  pub truth : width_of (with_locals (step_over F O t.widths) (lets_of t.lines)) t.valid ≡ 1
  pub result : IsResult (with_locals (step_over F O t.widths) (lets_of t.lines)) t.result_width t.result

-- what is made so far is well sorted over these fields and objects
pub record Sound (F : List FieldSort) (O : List ℕ) (m : Made) : Type 0 where
  pub fields : (fs : List Field) → m.fields ≡ Some fs → All (IsFieldIn (with_locals (kernel_over F O) m.equation_locals)) fs
  pub equation_locals : AreLocals (kernel_over F O) m.equation_locals
  pub invariants : All (IsNamed (kernel_over F O)) m.invariants
  pub properties : All (IsNamed (state_over F O)) m.properties
  pub transitions : All (IsStep F O) m.transitions

pub with_one : {A : Type 0} (P : A → Type 0) (xs : List A) (x : A) → All P xs → P x → All P (xs ++ x ∷ [])
with_one P xs x all p = All-append P xs (x ∷ []) all (All-cons P x [] p (All-nil P))

pub with_others : (F : List FieldSort) (O : List ℕ) (m : Made) (locals : List tree.Tree) (lines : List tree.Line) → Sound F O m
    → Sound F O (record m { locals = locals; lines = lines })
with_others F O m locals lines is =
    record { fields = is.fields; equation_locals = is.equation_locals; invariants = is.invariants; properties = is.properties; transitions = is.transitions }

pub with_put : (F : List FieldSort) (O : List ℕ) (m : Made) (y : tree.Tree) (skipped by_line : Bool) → Sound F O m → Sound F O (put_let skipped by_line m y)
with_put F O m y true by_line is = is
with_put F O m y false true is = with_others F O m m.locals (m.lines ++ tree.let_line y ∷ []) is
with_put F O m y false false is = with_others F O m (m.locals ++ y ∷ []) m.lines is
