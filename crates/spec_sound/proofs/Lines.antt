-- What holds along lines, and that the lines of functions keep it.
use Rattle.std.proofs.Common.{◌≡◌, ℕ, ◌-◌, true, Option, Some, None, List, [], ◌∷◌, ◌++◌, length, refl, sym, ap, subst}
use Rattle.spec_ast.specs.declared.fault.SpecReason.TheVariants.{S10, S14}
use Rattle.spec_ast.specs.Raw.{Tree, Trees, def_line, let_line, write_line, return_line, end_line}
use Rattle.spec_tree.specs.Plain as tree
use Rattle.spec_tree.specs.Plain.{Key}
use Rattle.spec_tree.specs.Sorted.{FieldSort}
use Rattle.spec_names.specs.Kernel.{Name, Kernel, function_named}
use Rattle.spec_read.specs.Places.{function_of}
use Rattle.spec_scope.specs.declared.meaning.Kind.{Kind}
use Rattle.spec_scope.specs.declared.meaning.Meaning.TheVariants as means
use Rattle.spec_scope.specs.Scope.{Names, with_name}
use Rattle.spec_scope.specs.Taking.{one, take}
use Rattle.spec_lines.specs.Behind.{Head, Here, kind_of, is_handler, types_of, result_of, let_kind, lets_behind, skips, behind}
use Rattle.spec_lines.specs.Faults.{Text}
use Rattle.spec_lines.specs.Laws.{Stands}
use Rattle.spec_lines.specs.Whole.{Made, put_let, let_made, made_behind}
use Rattle.spec_sorts.specs.Laws.{TakenIsSorted, OwnIsKind, KeysAreSorted, EquationIsSorted}
use Rattle.spec_sound.proofs.Parts.{behind_true, chain_is, one_is}
use Rattle.spec_sound.proofs.Named.{handled}
use Rattle.spec_sound.proofs.Meanings.{IsTop, IsPlain, AllNames, named}
use Rattle.spec_sound.proofs.Scopes.{Fixed}
use Rattle.spec_sound.proofs.Bodies.{InBody, InHead, widths_of}
use Rattle.spec_sound.proofs.Beginnings.{HasNumbers, has_numbers, plain_parameters, body_begins}
use Rattle.spec_sound.proofs.Lets.{Known, head_let}
use Rattle.spec_sound.proofs.Taken.{let_narrow}
use Rattle.spec_sound.proofs.Writes.{is_written, head_write}
use Rattle.spec_sound.proofs.Sounds.{Sound, with_others, with_put}
use Rattle.spec_sound.proofs.Returns.{return_sorted}
use Rattle.spec_sound.proofs.Ends.{end_sorted}

pub record Holds (F : List FieldSort) (O : List ℕ) (h : Here) (m : Made) : Type 0 where
  pub fixed : Fixed F O h.scope.kernel h.scope.fields
  pub top : AllNames IsTop h.scope.top
  pub plain : AllNames IsPlain h.scope.inner
  pub body : InHead F O h.scope.kernel h.head h.result h.scope.inner h.lets m.locals m.lines
  pub sound : Sound F O m

-- ---- the function that goes on

widths_at : Kernel → Option Head → List ℕ
widths_at k None = []
widths_at k (Some head) = widths_of k head.name

body_of : (F : List FieldSort) (O : List ℕ) (k : Kernel) (head : Option Head) (result : Option ℕ) (inner : Names) (lets : ℕ) (locals : List tree.Tree)
    (lines : List tree.Line) → InHead F O k head result inner lets locals lines → InBody F O (kind_of head) (widths_at k head) result inner lets locals lines
unfolding widths_at
body_of F O k None result inner lets locals lines is = tt
body_of F O k (Some head) result inner lets locals lines is = is

-- ---- lines

module _ (taken : TakenIsSorted) (owned : OwnIsKind) (keyed : KeysAreSorted) (equations : EquationIsSorted) (F : List FieldSort) (O : List ℕ) (t : Text) where
  known : (h : Here) (m : Made) → Holds F O h m → Known F O h.scope
  known h m p = record { fixed = p.fixed; top = p.top; plain = p.plain; taken = taken; owned = owned }

  pub at_def : (h : Here) (m : Made) (line : ℕ) (x : Name) (ps : List Name) → Holds F O h m → Stands t h (def_line x ps)
      → Holds F O (behind h line (def_line x ps)) (record m { locals = []; lines = [] })
  at_def h m line x ps p stands = record {
    fixed = p.fixed;
    top = named IsTop h.scope.top x means.Nothing p.top tt;
    plain = plain_parameters (function_of x ps) ps (types_of (function_named h.scope.kernel x));
    body = body_begins F O (function_of x ps) ps (types_of (function_named h.scope.kernel x)) (result_of (function_named h.scope.kernel x)) numbers;
    sound = with_others F O m [] [] p.sound;
  } where
    numbers : is_handler (function_of x ps) ≡ true → HasNumbers (types_of (function_named h.scope.kernel x)) (result_of (function_named h.scope.kernel x))
    numbers so =
        let f = handled h.scope.kernel x (length ps - 1) (behind_true _ _ (stands S10) so) (behind_true _ _ (stands S14) so) in
        has_numbers h.scope.kernel x p.fixed.widths (f.0, f.1, ap result_of (f.1).named)

  pub at_let : (h : Here) (m n : Made) (line : ℕ) (x : Name) (e : Tree) → Holds F O h m → Stands t h (let_line x e) → let_made h m e ≡ Some n
      → Holds F O (behind h line (let_line x e)) n
  at_let h m n line x e p stands made =
      let a = chain_is (let_kind h.scope e) (λ kind. one (put_let (skips h e) (is_handler (kind_of h.head)) m) (take h.scope [] kind e)) n made in
      let b = one_is (put_let (skips h e) (is_handler (kind_of h.head)) m) (take h.scope [] a.0 e) n a.2 in
      let body = head_let F O h.scope (known h m p) x e a.0 b.0 (let_narrow t h x e stands) a.1 b.1 h.head h.result h.lets m p.body in
      subst (Holds F O (behind h line (let_line x e))) b.2 (record {
        fixed = p.fixed;
        top = p.top;
        plain = named IsPlain h.scope.inner x (means.Local h.lets (let_kind h.scope e) (skips h e)) p.plain tt;
        body = subst (λ (k : Option Kind). InHead F O h.scope.kernel h.head h.result (with_name h.scope.inner x (means.Local h.lets k (skips h e))) (lets_behind h.lets (skips h e))
            (put_let (skips h e) (is_handler (kind_of h.head)) m b.0).locals (put_let (skips h e) (is_handler (kind_of h.head)) m b.0).lines) (sym a.1) body;
        sound = with_put F O m b.0 (skips h e) (is_handler (kind_of h.head)) p.sound;
      })

  pub at_write : (h : Here) (m n : Made) (line : ℕ) (c f : Name) (at : Option Trees) (e : Tree) → Holds F O h m → Stands t h (write_line c f at e)
      → made_behind h m (write_line c f at e) ≡ Some n → Holds F O h n
  at_write h m n line c f at e p stands made =
      let w = is_written h.scope m n f at e made in
      subst (Holds F O h) w.made (record {
        fixed = p.fixed;
        top = p.top;
        plain = p.plain;
        body = head_write F O t h (known h m p) keyed c f at e stands m n w h.head h.result p.body;
        sound = with_others F O m m.locals (m.lines ++ tree.write_line w.place w.indices w.number ∷ []) p.sound;
      })

  pub at_return : (h : Here) (m n : Made) (line : ℕ) (e : Tree) → Holds F O h m → Stands t h (return_line e) → made_behind h m (return_line e) ≡ Some n
      → Holds F O (behind h line (return_line e)) n
  at_return h m n line e p stands made = record {
    fixed = p.fixed;
    top = p.top;
    plain = p.plain;
    body = tt;
    sound = return_sorted F O t h (known h m p) equations m n e (kind_of h.head) (widths_at h.scope.kernel h.head) refl stands
        (body_of F O h.scope.kernel h.head h.result h.scope.inner h.lets m.locals m.lines p.body) p.sound made;
  }

  pub at_end : (h : Here) (m n : Made) (line : ℕ) (e : Tree) (c : Name) (r : Option Tree) → Holds F O h m → Stands t h (end_line e c r)
      → made_behind h m (end_line e c r) ≡ Some n → Holds F O (behind h line (end_line e c r)) n
  at_end h m n line e c r p stands made = record {
    fixed = p.fixed;
    top = p.top;
    plain = p.plain;
    body = tt;
    sound = end_sorted F O t h (known h m p) m n e c r stands p.body p.sound made;
  }
