-- Where the code of an instruction leads, and what it calls.
use Rattle.std.proofs.Common.{◌≡◌, ℕ, zero, suc, ◌+◌, ◌≤◌, Bool, true, false, Option, Some, None, List, [], ◌∷◌, map, refl, sym, ◌∙◌, ap, arith}
use Rattle.std.specs.Prelude.{Contains, ℤ, is_some, unwrap_or, position, bytes_eq, sum, option_and_then, slice_get, slice_index_or, if◌then◌else◌}
use Rattle.std.proofs.lemmas.List.Sums.{sum_by-cons}
use Rattle.ir_ast.specs.Plain.{Ty, Val}
use Rattle.ir_ast.specs.Program as plain
use Rattle.ir_ast.specs.Program.{FunctionView, InstrView, ModuleView}
use Rattle.ir_ast.specs.Table.{names_of, place_of}
use Rattle.ir_ast.specs.declared.instr.Predicate.{Predicate}
use Rattle.ir_type.specs.Whole.{meant, is_pointer}
use Rattle.ir_type.specs.Rows as rows
use Rattle.ir_type.specs.Shape.{is_last}
use Rattle.ir_type.proofs.Places.{at_place, some_same}
use Rattle.ir_typing.specs.Registers.{has_body}
use Rattle.ir_typing.specs.Intrinsics.{intrinsic_of}
use Rattle.ir_value.specs.declared.intrinsics.OverflowKind.{OverflowKind}
use Rattle.ir_value.specs.declared.intrinsics.PairKind.{PairKind}
use Rattle.ir_code.specs.declared.input.Input.{Input}
use Rattle.ir_code.specs.declared.act.Span.{Span}
use Rattle.ir_code.specs.declared.act.Case.{Case}
use Rattle.ir_code.specs.declared.act.Act.{Act}
use Rattle.ir_code.specs.declared.act.Act.TheVariants as act
use Rattle.ir_resolve.specs.Operands.{input_of, width_in}
use Rattle.ir_resolve.specs.Acts.{act_of, block_place, compared, compare_by, extract_of, register_place, load_by, store_by, spans_of, number_width, slot_place, overflow_kind, pair_kind, overflow_act, pair_act, assume_act, other_act, intrinsic_act, bodies_of, body_place, where_true, call_by, cases_of}
use Rattle.ir_resolve.specs.Resolved.{step_of}
use Rattle.ir_walk.specs.LoopFree.{targets, callees, is_terminator, weight}

-- code that leads nowhere and calls nothing
record IsPlain (a : Act) : Type 0 where
  pub nowhere : targets a ≡ []
  pub none : callees a ≡ []

compared_plain : (p : Predicate) (pointers : Bool) (x y : Input) → IsPlain (compared p pointers x y)
compared_plain p true x y = record { nowhere = refl; none = refl }
compared_plain p false x y = record { nowhere = refl; none = refl }

compare_plain : (m : ModuleView) (f : FunctionView) (samesign : Bool) (p : Predicate) (w : Option ℕ) (pointers : Bool) (a b : Val) → IsPlain (compare_by m f samesign p w pointers a b)
compare_plain m f samesign p (Some w) pointers a b = record { nowhere = refl; none = refl }
compare_plain m f samesign p None pointers a b = compared_plain p pointers (input_of m f None a) (input_of m f None b)

load_plain : (m : ModuleView) (f : FunctionView) (t : Ty) (target : Val) (align : ℕ) (spans : Option (List Span)) (slot : Option ℕ) → IsPlain (load_by m f t target align spans slot)
load_plain m f t target align spans None = record { nowhere = refl; none = refl }
load_plain m f t target align spans (Some k) = record { nowhere = refl; none = refl }

store_plain : (m : ModuleView) (f : FunctionView) (t : Ty) (v target : Val) (align : ℕ) (slot : Option ℕ) → IsPlain (store_by m f t v target align slot)
store_plain m f t v target align None = record { nowhere = refl; none = refl }
store_plain m f t v target align (Some k) = record { nowhere = refl; none = refl }

extract_plain : (o : Option ℕ) (part : ℕ) → IsPlain (extract_of o part)
extract_plain None part = record { nowhere = refl; none = refl }
extract_plain (Some k) part = record { nowhere = refl; none = refl }

overflow_plain : (m : ModuleView) (f : FunctionView) (kind : OverflowKind × Bool) (arguments : List (Ty × Val)) → IsPlain (overflow_act m f kind arguments)
overflow_plain m f kind [] = record { nowhere = refl; none = refl }
overflow_plain m f kind (a ∷ []) = record { nowhere = refl; none = refl }
overflow_plain m f kind (a ∷ b ∷ []) = record { nowhere = refl; none = refl }
overflow_plain m f kind (a ∷ b ∷ c ∷ rest) = record { nowhere = refl; none = refl }

pair_plain : (m : ModuleView) (f : FunctionView) (kind : PairKind) (arguments : List (Ty × Val)) → IsPlain (pair_act m f kind arguments)
pair_plain m f kind [] = record { nowhere = refl; none = refl }
pair_plain m f kind (a ∷ []) = record { nowhere = refl; none = refl }
pair_plain m f kind (a ∷ b ∷ []) = record { nowhere = refl; none = refl }
pair_plain m f kind (a ∷ b ∷ c ∷ rest) = record { nowhere = refl; none = refl }

assume_plain : (m : ModuleView) (f : FunctionView) (arguments : List (Ty × Val)) → IsPlain (assume_act m f arguments)
assume_plain m f [] = record { nowhere = refl; none = refl }
assume_plain m f (a ∷ []) = record { nowhere = refl; none = refl }
assume_plain m f (a ∷ b ∷ rest) = record { nowhere = refl; none = refl }

other_plain : (m : ModuleView) (f : FunctionView) (kind : Option PairKind) (arguments : List (Ty × Val)) → IsPlain (other_act m f kind arguments)
other_plain m f None arguments = assume_plain m f arguments
other_plain m f (Some kind) arguments = pair_plain m f kind arguments

intrinsic_plain : (m : ModuleView) (f : FunctionView) (kind : Option (OverflowKind × Bool)) (name : List ℕ) (arguments : List (Ty × Val)) → IsPlain (intrinsic_act m f kind name arguments)
intrinsic_plain m f None name arguments = other_plain m f (pair_kind name) arguments
intrinsic_plain m f (Some kind) name arguments = overflow_plain m f kind arguments

call_nowhere : (m : ModuleView) (f : FunctionView) (name : List ℕ) (arguments : List (Ty × Val)) (body : Option ℕ) (listed : Bool) → targets (call_by m f name arguments body listed) ≡ []
call_nowhere m f name arguments (Some k) listed = refl
call_nowhere m f name arguments None true = (intrinsic_plain m f (overflow_kind name) name arguments).nowhere
call_nowhere m f name arguments None false = refl

-- ---- where it leads

module _ (m : ModuleView) (f : FunctionView) where
  cases_lead : (cases : List (ℤ × List ℕ)) (w : ℕ)
      → map (λ (c : Case). c.block) (cases_of f w cases) ≡ map (block_place f) (map (λ (c : ℤ × List ℕ). c.1) cases)
  cases_lead [] w = refl
  cases_lead (c ∷ cases) w = ap (λ bs. block_place f c.1 ∷ bs) (cases_lead cases w)

  pub targets_are : (a : plain.Act) → targets (act_of m f a) ≡ map (block_place f) (rows.targets a)
  targets_are (plain.binary kind flags w a b) = refl
  targets_are (plain.compare samesign p over a b) = (compare_plain m f samesign p (width_in m over) (is_pointer (meant m.types over)) a b).nowhere
  targets_are (plain.select c over a b) = refl
  targets_are (plain.convert kind flags from to a) = refl
  targets_are (plain.freeze over a) = refl
  targets_are (plain.phi over arms) = refl
  targets_are (plain.slot over align) = refl
  targets_are (plain.load over target align range) =
      (load_plain m f (meant m.types over) target align (spans_of m (number_width (meant m.types over)) range) (slot_place f target)).nowhere
  targets_are (plain.store over v target align) = (store_plain m f (meant m.types over) v target align (slot_place f target)).nowhere
  targets_are (plain.offset a) = refl
  targets_are (plain.call over name arguments) = call_nowhere m f name arguments (body_place m name) (is_some (intrinsic_of name))
  targets_are (plain.extract w from part) = (extract_plain (register_place f from) part).nowhere
  targets_are (plain.goto b) = refl
  targets_are (plain.branch c taken other) = refl
  targets_are (plain.switch w on default cases) = ap (λ bs. block_place f default ∷ bs) (cases_lead cases w)
  targets_are (plain.give over None) = refl
  targets_are (plain.give over (Some v)) = refl
  targets_are plain.unreachable = refl

  pub ends_as : (i : InstrView) → is_last i ≡ true → is_terminator (step_of m f i).act ≡ true
  ends_as i e = by i.act refl e
    where
      by : (a : plain.Act) → i.act ≡ a → is_last (record i { act = a }) ≡ true → is_terminator (act_of m f i.act) ≡ true
      by (plain.goto b) s e = ap (λ a. is_terminator (act_of m f a)) s
      by (plain.branch c taken other) s e = ap (λ a. is_terminator (act_of m f a)) s
      by (plain.switch w on default cases) s e = ap (λ a. is_terminator (act_of m f a)) s
      by (plain.give over None) s e = ap (λ a. is_terminator (act_of m f a)) s
      by (plain.give over (Some v)) s e = ap (λ a. is_terminator (act_of m f a)) s
      by plain.unreachable s e = ap (λ a. is_terminator (act_of m f a)) s
      by a s e = absurd cc

-- ---- what it calls

abbrev pub function_place : ModuleView → List ℕ → ℕ
function_place m name = unwrap_or (position (bytes_eq name) (names_of m.functions)) 0

-- the function is called by name
pub record IsCalled (m : ModuleView) (a : plain.Act) (g : ℕ) : Type 0 where
  pub name : List ℕ
  pub named : Contains (rows.callees a) name
  pub body : has_body m name ≡ true
  pub place : function_place m name ≡ g

flag_there : (entries : List (List ℕ × FunctionView)) (p : ℕ) (e : List ℕ × FunctionView) → slice_get entries p ≡ Some e → slice_index_or (map (λ (e : List ℕ × FunctionView). is_some e.1.body) entries) p false ≡ is_some e.1.body
flag_there [] p e h = absurd cc
flag_there (x ∷ xs) zero e h = ap (λ (q : List ℕ × FunctionView). is_some q.1.body) (some_same x e h)
flag_there (x ∷ xs) (suc p) e h = flag_there xs p e h

chosen : (flag : Bool) (p k : ℕ) → (if flag then Some p else None) ≡ Some k → (flag ≡ true) × (p ≡ k)
chosen true p k e = (refl, some_same p k e)
chosen false p k e = absurd cc

-- the place of a function with a body is that of its name
body_called : (m : ModuleView) (name : List ℕ) (k : ℕ) → body_place m name ≡ Some k → (has_body m name ≡ true) × (function_place m name ≡ k)
body_called m name k e = by (place_of name m.functions) refl
  where
    none_is : None ≡ Some k → ⊥
    none_is h = cc

    by : (o : Option ℕ) → place_of name m.functions ≡ o → (has_body m name ≡ true) × (function_place m name ≡ k)
    by None h = absurd (none_is (sym (ap (option_and_then (where_true (bodies_of m))) h) ∙ e))
    by (Some p) h =
        let at = at_place m.functions name p h in
        let c = chosen (slice_index_or (bodies_of m) p false) p k (sym (ap (option_and_then (where_true (bodies_of m))) h) ∙ e) in
        (ap (λ (o : Option FunctionView). is_some (option_and_then (λ (f : FunctionView). f.body) o)) at.1.found ∙ sym (flag_there m.functions p (name, at.0) at.1.there) ∙ c.0, ap (λ (o : Option ℕ). unwrap_or o 0) h ∙ c.1)

none_called : {A : Type 0} (xs : List ℕ) (g : ℕ) → xs ≡ [] → Contains xs g → A
none_called [] g e (k, l, s) = absurd (omega (arith, l))
none_called (x ∷ xs) g e c = absurd cc

light : (E : ℕ → ℕ) (a : Act) → callees a ≡ [] → weight E a ≡ 1
light E (act.Call g arguments) e = absurd cc
light E a e = refl

module _ (m : ModuleView) (f : FunctionView) where
  module _ (over : Ty) (name : List ℕ) (arguments : List (Ty × Val)) where
    call_called : (g : ℕ) (body : Option ℕ) (listed : Bool) → body_place m name ≡ body → Contains (callees (call_by m f name arguments body listed)) g → IsCalled m (plain.call over name arguments) g
    call_called g (Some k) listed e (zero, l, s) =
        let c = body_called m name k e in
        record { name = name; named = (0, omega arith, refl); body = c.0; place = c.1 ∙ s }
    call_called g (Some k) listed e (suc j, l, s) = absurd (omega (arith, l))
    call_called g None true e c = none_called (callees (call_by m f name arguments None true)) g (intrinsic_plain m f (overflow_kind name) name arguments).none c
    call_called g None false e c = none_called [] g refl c

    call_weighs : (E : ℕ → ℕ) (L : List ℕ → ℕ) (body : Option ℕ) (listed : Bool) → body_place m name ≡ body → ((x : List ℕ) → has_body m x ≡ true → E (function_place m x) ≡ L x)
        → weight E (call_by m f name arguments body listed) ≤ 1 + sum (map L (name ∷ []))
    call_weighs E L (Some k) listed e same =
        let c = body_called m name k e in
        let s = sum_by-cons (λ n. n) (L name) [] in
        let h : E k ≡ L name = ap E (sym c.1) ∙ same name c.0 in
        omega (arith, s, h)
    call_weighs E L None true e same = omega (arith, light E (call_by m f name arguments None true) (intrinsic_plain m f (overflow_kind name) name arguments).none)
    call_weighs E L None false e same = omega arith

  pub called_by_name : (a : plain.Act) (g : ℕ) → Contains (callees (act_of m f a)) g → IsCalled m a g
  called_by_name (plain.call over name arguments) g c = call_called over name arguments g (body_place m name) (is_some (intrinsic_of name)) refl c
  called_by_name (plain.compare samesign p over a b) g c = none_called _ g (compare_plain m f samesign p (width_in m over) (is_pointer (meant m.types over)) a b).none c
  called_by_name (plain.load over target align range) g c =
      none_called _ g (load_plain m f (meant m.types over) target align (spans_of m (number_width (meant m.types over)) range) (slot_place f target)).none c
  called_by_name (plain.store over v target align) g c = none_called _ g (store_plain m f (meant m.types over) v target align (slot_place f target)).none c
  called_by_name (plain.extract w from part) g c = none_called _ g (extract_plain (register_place f from) part).none c
  called_by_name (plain.give over None) g c = none_called _ g refl c
  called_by_name (plain.give over (Some v)) g c = none_called _ g refl c
  called_by_name a g c = none_called _ g refl c

  pub weighs : (E : ℕ → ℕ) (L : List ℕ → ℕ) (a : plain.Act) → ((x : List ℕ) → has_body m x ≡ true → E (function_place m x) ≡ L x)
      → weight E (act_of m f a) ≤ 1 + sum (map L (rows.callees a))
  weighs E L (plain.call over name arguments) same = call_weighs over name arguments E L (body_place m name) (is_some (intrinsic_of name)) refl same
  weighs E L (plain.compare samesign p over a b) same = omega (arith, light E _ (compare_plain m f samesign p (width_in m over) (is_pointer (meant m.types over)) a b).none)
  weighs E L (plain.load over target align range) same =
      omega (arith, light E _ (load_plain m f (meant m.types over) target align (spans_of m (number_width (meant m.types over)) range) (slot_place f target)).none)
  weighs E L (plain.store over v target align) same = omega (arith, light E _ (store_plain m f (meant m.types over) v target align (slot_place f target)).none)
  weighs E L (plain.extract w from part) same = omega (arith, light E _ (extract_plain (register_place f from) part).none)
  weighs E L (plain.give over None) same = omega arith
  weighs E L (plain.give over (Some v)) same = omega arith
  weighs E L a same = omega arith
