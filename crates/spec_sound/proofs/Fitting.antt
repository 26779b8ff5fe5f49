-- The specification that lines stand for fits the kernel.
use Rattle.std.proofs.Common.{◌≡◌, ℕ, ◌-◌, Bool, true, false, Option, Some, None, option_map, List, [], ◌∷◌, length, map, All, refl, sym, ap, subst, ◌∙◌}
use Rattle.std.proofs.lemmas.List.Elements.{All-nil, All-cons, All-append}
use Rattle.spec_ast.specs.declared.fault.SpecReason.TheVariants.{S10, S14}
use Rattle.spec_ast.specs.Raw.{Tree, Item, Line, sort_line, constant_line, hook_line, class_line, field_line, def_line, var_line, let_line, copy_line, write_line, return_line, end_line}
use Rattle.spec_tree.specs.Plain as tree
use Rattle.spec_tree.specs.Plain.{Transition, Spec}
use Rattle.spec_names.specs.Kernel.{Name, number, Function, Kernel, function_place, function_named}
use Rattle.spec_kernel.specs.Fit.{Handles, FitsKernel, IsResult}
use Rattle.spec_read.specs.Places.{function_of}
use Rattle.spec_read.specs.Places as kinds
use Rattle.spec_scope.specs.declared.meaning.Kind.TheVariants.{Truth}
use Rattle.spec_scope.specs.Taking.{one, take}
use Rattle.spec_lines.specs.Behind.{Head, Here, kind_of, is_handler, width_of_type, types_of, result_of, behind, begin}
use Rattle.spec_lines.specs.Faults.{Text, values_of}
use Rattle.spec_lines.specs.Laws.{Stands, AllStand}
use Rattle.spec_lines.specs.Whole.{Made, nothing_made, equivalence_made, with_invariant, with_property, return_made, result_made, result_width, transition_with, head_made, end_made, ended, made_behind, made_from, spec_with, spec_of}
use Rattle.spec_sound.proofs.Parts.{neither, behind_true, chain_is, one_is}
use Rattle.spec_sound.proofs.Walking.{walk, along_stands}
use Rattle.spec_sound.proofs.Named.{IsHandled, handled, at_place, its_name, all_numbers, result_is}
use Rattle.spec_sound.proofs.Untouched.{same_let, same_write, same_def, same_all}

-- the function that goes on has its place; that of a handler is one, and this is its result
pub record HeadFits (k : Kernel) (head : Head) (result : Option ℕ) : Type 0 where
  pub placed : head.place ≡ function_place k head.name
  pub handled : is_handler head.kind ≡ true → (f : Function) × IsHandled k head.name f × (result ≡ option_map width_of_type f.result)

abbrev HeadsFit : Kernel → Option Head → Option ℕ → Type 0
HeadsFit k None result = Unit {0}
HeadsFit k (Some head) result = HeadFits k head result

record Fitting (k : Kernel) (h : Here) (m : Made) : Type 0 where
  kernel : h.scope.kernel ≡ k
  head : HeadsFit h.scope.kernel h.head h.result
  made : All (Handles h.scope.kernel) m.transitions

-- ---- what no other line adds

abbrev view : Made → List Transition
view m = m.transitions

ignores : (m : Made) (locals : List tree.Tree) (lines : List tree.Line) → view m ≡ view (record m { locals = locals; lines = lines })
ignores m locals lines = refl

same_return : (kind : Option kinds.Function) (h : Here) (m n : Made) (e : Tree) → return_made kind h.scope m e ≡ Some n → m.transitions ≡ n.transitions
same_return (Some kinds.equivalence) h m n e made = ap view (one_is (equivalence_made h.scope m) (values_of h.scope e) n made).2
same_return (Some (kinds.invariant x)) h m n e made = ap view (one_is (with_invariant x m) (take h.scope [] Truth e) n made).2
same_return (Some (kinds.property x)) h m n e made = ap view (one_is (with_property x m) (take h.scope [] Truth e) n made).2
same_return (Some kinds.handler) h m n e made = ap view (one_is (λ y. m) (take h.scope [] Truth e) n made).2
same_return None h m n e made = ap view (one_is (λ y. m) (take h.scope [] Truth e) n made).2

-- ---- the end line of a handler

handles : (h : Here) (lines : List tree.Line) (c : Name) (head : Head) (place : ℕ) (valid : tree.Tree) (result : Option tree.Tree) (f : Function)
    → function_place h.scope.kernel head.name ≡ Some place → IsHandled h.scope.kernel head.name f → h.result ≡ option_map width_of_type f.result
    → Handles h.scope.kernel (transition_with h lines c head place valid result)
handles h lines c head place valid result f placed is given =
    let k = h.scope.kernel in
    let n = neither _ _ is.numbers in (
      f,
      at_place k head.name f place placed is.named,
      its_name k head.name f place placed is.named,
      is.defined,
      subst (λ (o : Option Function). f.parameters ≡ map number (map width_of_type (types_of o))) (sym is.named) (all_numbers f.parameters n.0),
      subst (λ (r : Option ℕ). IsResult f.result (result_width r)) (sym given) (result_is f.result n.1),
    )

ends_head : (h : Here) (m : Made) (c : Name) (valid : tree.Tree) (result : Option tree.Tree) (head : Head) → HeadFits h.scope.kernel head h.result
    → All (Handles h.scope.kernel) m.transitions → (o : Option ℕ) → head.place ≡ o → (b : Bool) → is_handler head.kind ≡ b
    → All (Handles h.scope.kernel) (head_made h m c valid result head o).transitions
ends_head h m c valid result head fits made None placed b is = made
ends_head h m c valid result head fits made (Some place) placed true is =
    let f = fits.handled is in
    rw is (All-append (Handles h.scope.kernel) m.transitions (transition_with h m.lines c head place valid result ∷ []) made
    (All-cons (Handles h.scope.kernel) _ [] (handles h m.lines c head place valid result f.0 (sym fits.placed ∙ placed) f.1 f.2) (All-nil (Handles h.scope.kernel))))
ends_head h m c valid result head fits made (Some place) placed false is = rw is made

ends : (h : Here) (m : Made) (c : Name) (valid : tree.Tree) (result : Option tree.Tree) (o : Option Head) → HeadsFit h.scope.kernel o h.result
    → All (Handles h.scope.kernel) m.transitions → All (Handles h.scope.kernel) (end_made h m c valid result o).transitions
ends h m c valid result None fits made = made
ends h m c valid result (Some head) fits made = ends_head h m c valid result head fits made head.place refl (is_handler head.kind) refl

at_end : (h : Here) (m n : Made) (e : Tree) (c : Name) (r : Option Tree) → HeadsFit h.scope.kernel h.head h.result
    → All (Handles h.scope.kernel) m.transitions → ended h m e c r ≡ Some n → All (Handles h.scope.kernel) n.transitions
at_end h m n e c r fits made done =
    let a = chain_is (take h.scope [] Truth e) (λ valid. one (λ y. end_made h m c valid y h.head) (result_made h r)) n done in
    let b = one_is (λ y. end_made h m c a.0 y h.head) (result_made h r) n a.2 in
    subst (λ (o : Made). All (Handles h.scope.kernel) o.transitions) b.2 (ends h m c a.0 b.0 h.head fits made)

-- ---- lines

begins : (t : Text) (h : Here) (line : ℕ) (x : Name) (parameters : List Name) → Stands t h (def_line x parameters)
    → HeadFits h.scope.kernel (record { line = line; name = x; kind = function_of x parameters; place = function_place h.scope.kernel x })
    (result_of (function_named h.scope.kernel x))
begins t h line x parameters stands = record { placed = refl; handled = λ is. named_so is } where
  named_so : is_handler (function_of x parameters) ≡ true
      → (f : Function) × IsHandled h.scope.kernel x f × (result_of (function_named h.scope.kernel x) ≡ option_map width_of_type f.result)
  named_so is =
      let p = handled h.scope.kernel x (length parameters - 1) (behind_true _ _ (stands S10) is) (behind_true _ _ (stands S14) is) in
      (p.0, p.1, ap result_of p.1.named)

moved : (k : Kernel) (h : Here) (m n : Made) → Fitting k h m → m.transitions ≡ n.transitions → All (Handles h.scope.kernel) n.transitions
moved k h m n p e = subst (All (Handles h.scope.kernel)) e p.made

step : (t : Text) (k : Kernel) (h : Here) (m n : Made) (line : ℕ) (item : Item) → Fitting k h m → Stands t h item → made_behind h m item ≡ Some n
    → Fitting k (behind h line item) n
step t k h m n line (sort_line x s) p stands made = record { kernel = p.kernel; head = tt; made = moved k h m n p (same_all view ignores m n made) }
step t k h m n line (constant_line x c) p stands made = record { kernel = p.kernel; head = tt; made = moved k h m n p (same_all view ignores m n made) }
step t k h m n line (hook_line x) p stands made = record { kernel = p.kernel; head = tt; made = moved k h m n p (same_all view ignores m n made) }
step t k h m n line (class_line x) p stands made = record { kernel = p.kernel; head = tt; made = moved k h m n p (same_all view ignores m n made) }
step t k h m n line (field_line x keys s) p stands made = record { kernel = p.kernel; head = p.head; made = moved k h m n p (same_all view ignores m n made) }
step t k h m n line (def_line x ps) p stands made =
    record { kernel = p.kernel; head = begins t h line x ps stands; made = moved k h m n p (same_def view ignores m n made) }
step t k h m n line (var_line x s) p stands made = record { kernel = p.kernel; head = p.head; made = moved k h m n p (same_all view ignores m n made) }
step t k h m n line (let_line x e) p stands made = record { kernel = p.kernel; head = p.head; made = moved k h m n p (same_let view ignores h m n e made) }
step t k h m n line (copy_line x o) p stands made = record { kernel = p.kernel; head = p.head; made = moved k h m n p (same_all view ignores m n made) }
step t k h m n line (write_line c f at e) p stands made = record { kernel = p.kernel; head = p.head; made = moved k h m n p (same_write view ignores h.scope m n f at e made) }
step t k h m n line (return_line e) p stands made = record { kernel = p.kernel; head = tt; made = moved k h m n p (same_return (kind_of h.head) h m n e made) }
step t k h m n line (end_line e c r) p stands made = record { kernel = p.kernel; head = tt; made = at_end h m n e c r p.head p.made made }

-- ---- the whole

with_objects : (k : Kernel) (m : Made) (spec : Spec) → spec_with k m ≡ Some spec
    → (spec.objects ≡ map (λ g. g.size) k.globals) × (spec.transitions ≡ m.transitions)
with_objects k m spec made =
    let p = one_is _ m.fields spec made in
    (sym (ap (λ (s : Spec). s.objects) p.2), sym (ap (λ (s : Spec). s.transitions) p.2))

pub fits_kernel : (t : Text) (k : Kernel) (raw : List Line) (spec : Spec) → AllStand t (begin k raw) raw → spec_of k raw ≡ Some spec → FitsKernel k spec
fits_kernel t k raw spec stand made =
    let p = chain_is (made_from (begin k raw) nothing_made raw) (spec_with k) spec made in
    let first : Fitting k (begin k raw) nothing_made = record { kernel = refl; head = tt; made = All-nil (Handles k) } in
    let w = walk (Stands t) (Fitting k) (λ h m n l q s e. step t k h m n l.line l.item q s e) (begin k raw) nothing_made p.0 raw first
    (along_stands t (begin k raw) raw stand) p.1 in
    let o = with_objects k p.0 spec p.2 in
    let made : All (Handles k) (p.0).transitions = subst (λ (j : Kernel). All (Handles j) (p.0).transitions) (w.1).kernel (w.1).made in
    record { objects = o.0; handlers = subst (All (Handles k)) (sym o.1) made }
