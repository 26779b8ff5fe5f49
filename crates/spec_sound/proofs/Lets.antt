-- A local name's line.
use Rattle.std.proofs.Common.{◌≡◌, ℕ, ◌+◌, ◌⊎◌, inl, inr, Bool, true, false, ◌&&◌, nat_le, Option, Some, None, List, [], ◌∷◌, ◌++◌, refl, ap, ◌∙◌}
use Rattle.spec_ast.specs.Raw.{Tree}
use Rattle.spec_tree.specs.Plain as tree
use Rattle.spec_tree.specs.Plain.{let_line}
use Rattle.spec_tree.specs.Sorted.{Context, FieldSort, IsSorted, width_of, with_locals, lets_of}
use Rattle.spec_names.specs.Kernel.{Name}
use Rattle.spec_read.specs.Places.{Function, equivalence, invariant, property, handler}
use Rattle.spec_scope.specs.declared.meaning.Kind.{Kind}
use Rattle.spec_scope.specs.declared.meaning.Kind.TheVariants.{Truth, Number}
use Rattle.spec_scope.specs.declared.meaning.Meaning.TheVariants as means
use Rattle.spec_scope.specs.Scope.{with_name, Scope, own}
use Rattle.spec_scope.specs.Taking.{take}
use Rattle.spec_scope.specs.Tests.{somewhere, is_wide}
use Rattle.spec_lines.specs.Behind.{Head, kind_of, is_equivalence, is_handler, within, let_kind, reads_state, lets_behind}
use Rattle.spec_lines.specs.Whole.{Made, put_let}
use Rattle.spec_sorts.specs.Matching.{Matches, kind_width, IsKind}
use Rattle.spec_sorts.specs.Laws.{TakenIsSorted, OwnIsKind}
use Rattle.spec_sound.proofs.Parts.{none_some, then_is, no, not_so}
use Rattle.spec_sound.proofs.Meanings.{IsTop, IsPlain, Means, AllNames, named}
use Rattle.spec_sound.proofs.Contexts.{is_behind}
use Rattle.spec_sound.proofs.Scopes.{Fixed, IsOver, matches}
use Rattle.spec_sound.proofs.Bodies.{kernel_over, state_over, step_over, InLocals, InHandler, InBody, InHead, widths_of, local_more, let_more}

within_is : (o : Option Kind) (k : Kind) → within o ≡ Some k → o ≡ Some k
within_is None k e = absurd (none_some k e)
within_is (Some Truth) k e = e
within_is (Some (Number w)) k e = ap (λ q. Some q) (then_is (nat_le w 64) (Number w) k e).1

pub over_locals : (F : List FieldSort) (O : List ℕ) (c : Context) (es : List tree.Tree) → IsOver F O c → IsOver F O (with_locals c es)
over_locals F O c es over =
    let b = is_behind c es in
    record { fields = b.fields ∙ over.fields; objects = b.objects ∙ over.objects; bounds = b.bounds ∙ over.bounds }

-- what is known of the scope, and what is used of expressions
pub record Known (F : List FieldSort) (O : List ℕ) (s : Scope) : Type 0 where
  pub fixed : Fixed F O s.kernel s.fields
  pub top : AllNames IsTop s.top
  pub plain : AllNames IsPlain s.inner
  pub taken : TakenIsSorted
  pub owned : OwnIsKind

pub matching : (reading : Bool) (F : List FieldSort) (O : List ℕ) (s : Scope) (base : Context) (es : List tree.Tree) → Known F O s → IsOver F O base
    → AllNames (Means reading (with_locals base es)) s.inner → Matches reading s [] (with_locals base es)
matching reading F O s base es known over names =
    matches reading F O s (with_locals base es) known.fixed (over_locals F O base es over) (record { top = known.top; plain = known.plain; inner = names })

pub record IsTaken (c : Context) (kind : Kind) (y : tree.Tree) : Type 0 where
  pub sorted : IsSorted c y
  pub wide : width_of c y ≡ kind_width kind
  pub is_kind : IsKind kind

let_taken : (reading : Bool) (F : List FieldSort) (O : List ℕ) (s : Scope) (base : Context) (es : List tree.Tree) (e : Tree) (kind : Kind) (y : tree.Tree)
    → Known F O s → IsOver F O base → AllNames (Means reading (with_locals base es)) s.inner → somewhere (is_wide s) [] e ≡ false
    → (reading ≡ true) ⊎ (reads_state s e ≡ false) → let_kind s e ≡ Some kind → take s [] kind e ≡ Some y → IsTaken (with_locals base es) kind y
let_taken reading F O s base es e kind y known over names narrow reads own_kind take_is =
    let m = matching reading F O s base es known over names in
    let k = known.owned reading s [] (with_locals base es) kind e y m reads take_is (within_is (own s e) kind own_kind) in
    let t = known.taken reading s [] (with_locals base es) kind e y m k narrow reads take_is in
    record { sorted = t.0; wide = t.1; is_kind = k }

-- ---- by the kind of the function

module _ (F : List FieldSort) (O : List ℕ) (s : Scope) (known : Known F O s) (x : Name) (e : Tree) (kind : Kind) (y : tree.Tree)
    (narrow : somewhere (is_wide s) [] e ≡ false) (own_kind : let_kind s e ≡ Some kind) (take_is : take s [] kind e ≡ Some y) where
  reading_let : (base : Context) (lets : ℕ) (locals : List tree.Tree) → IsOver F O base → InLocals true base s.inner lets locals
      → InLocals true base (with_name s.inner x (means.Local lets (Some kind) false)) (lets + 1) (locals ++ y ∷ [])
  reading_let base lets locals over is =
      let t = let_taken true F O s base locals e kind y known over is.names narrow (inl refl) own_kind take_is in
      local_more true base s.inner lets locals x kind y is t.sorted t.wide t.is_kind

  handler_let : (widths : List ℕ) (result : Option ℕ) (lets : ℕ) (lines : List tree.Line) → InHandler F O widths result s.inner lets lines
      → InHandler F O widths result (with_name s.inner x (means.Local lets (Some kind) false)) (lets + 1) (lines ++ let_line y ∷ [])
  handler_let widths result lets lines is =
      let base = step_over F O widths in
      let t = let_taken true F O s base (lets_of lines) e kind y known (record { fields = refl; objects = refl; bounds = refl }) is.in_lines.names narrow (inl refl) own_kind take_is in
      record { are_widths = is.are_widths; has_width = is.has_width; in_lines = let_more base s.inner lets lines x kind y is.in_lines t.sorted t.wide t.is_kind }

  skipped_means : (c : Context) (lets : ℕ) → Means false c (means.Local lets (Some kind) true)
  skipped_means c lets (inl p) = absurd (not_so p)
  skipped_means c lets (inr p) = absurd (no p)

  equation_let : (skipped : Bool) (lets : ℕ) (m : Made) → reads_state s e ≡ skipped → InLocals false (kernel_over F O) s.inner lets m.locals
      → InLocals false (kernel_over F O) (with_name s.inner x (means.Local lets (Some kind) skipped)) (lets_behind lets skipped) (put_let skipped false m y).locals
  equation_let true lets m reads is = record {
    names = named (Means false (with_locals (kernel_over F O) m.locals)) s.inner x (means.Local lets (Some kind) true) is.names (skipped_means (with_locals (kernel_over F O) m.locals) lets);
    counted = is.counted;
    sorted = is.sorted;
  }
  equation_let false lets m reads is =
      let t = let_taken false F O s (kernel_over F O) m.locals e kind y known (record { fields = refl; objects = refl; bounds = refl }) is.names narrow (inr reads) own_kind take_is in
      local_more false (kernel_over F O) s.inner lets m.locals x kind y is t.sorted t.wide t.is_kind

  body_let : (function : Option Function) (widths : List ℕ) (result : Option ℕ) (lets : ℕ) (m : Made)
      → InBody F O function widths result s.inner lets m.locals m.lines
      → InBody F O function widths result (with_name s.inner x (means.Local lets (Some kind) (is_equivalence function && reads_state s e)))
      (lets_behind lets (is_equivalence function && reads_state s e)) (put_let (is_equivalence function && reads_state s e) (is_handler function) m y).locals
      (put_let (is_equivalence function && reads_state s e) (is_handler function) m y).lines
  body_let (Some equivalence) widths result lets m is = equation_let (reads_state s e) lets m refl is
  body_let (Some (invariant z)) widths result lets m is = reading_let (kernel_over F O) lets m.locals (record { fields = refl; objects = refl; bounds = refl }) is
  body_let (Some (property z)) widths result lets m is = reading_let (state_over F O) lets m.locals (record { fields = refl; objects = refl; bounds = refl }) is
  body_let (Some handler) widths result lets m is = handler_let widths result lets m.lines is
  body_let None widths result lets m is = tt

  pub head_let : (head : Option Head) (result : Option ℕ) (lets : ℕ) (m : Made) → InHead F O s.kernel head result s.inner lets m.locals m.lines
      → InHead F O s.kernel head result (with_name s.inner x (means.Local lets (Some kind) (is_equivalence (kind_of head) && reads_state s e)))
      (lets_behind lets (is_equivalence (kind_of head) && reads_state s e)) (put_let (is_equivalence (kind_of head) && reads_state s e) (is_handler (kind_of head)) m y).locals
      (put_let (is_equivalence (kind_of head) && reads_state s e) (is_handler (kind_of head)) m y).lines
  head_let None result lets m is = tt
  head_let (Some head) result lets m is = body_let head.kind (widths_of s.kernel head.name) result lets m is
