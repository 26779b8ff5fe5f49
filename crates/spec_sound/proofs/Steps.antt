-- Each line keeps what holds along lines.
use Rattle.std.proofs.Common.{◌≡◌, ℕ, Some, List, subst}
use Rattle.spec_ast.specs.Raw.{Item, sort_line, constant_line, hook_line, class_line, field_line, def_line, var_line, let_line, copy_line, write_line, return_line, end_line}
use Rattle.spec_tree.specs.declared.expr.StateName.TheVariants.{New}
use Rattle.spec_tree.specs.Sorted.{FieldSort}
use Rattle.spec_scope.specs.declared.meaning.Meaning.TheVariants as means
use Rattle.spec_lines.specs.Sorts.{key_for, sort_for, sort_meaning, variable_meaning}
use Rattle.spec_lines.specs.Behind.{Here, behind}
use Rattle.spec_lines.specs.Faults.{Text}
use Rattle.spec_lines.specs.Whole.{Made, made_behind}
use Rattle.spec_sorts.specs.Laws.{TakenIsSorted, OwnIsKind, KeysAreSorted, EquationIsSorted}
use Rattle.spec_sound.proofs.Parts.{some_is}
use Rattle.spec_sound.proofs.Walking.{StandsHere}
use Rattle.spec_sound.proofs.Meanings.{IsTop, IsPlain, named}
use Rattle.spec_sound.proofs.Sorts.{is_top_sort, is_plain_variable}
use Rattle.spec_sound.proofs.Writes.{head_copy}
use Rattle.spec_sound.proofs.Variables.{head_variable}
use Rattle.spec_sound.proofs.Lines.{Holds, at_def, at_let, at_write, at_return, at_end}

module _ (taken : TakenIsSorted) (owned : OwnIsKind) (keyed : KeysAreSorted) (equations : EquationIsSorted) (F : List FieldSort) (O : List ℕ) (t : Text) where
  -- each line keeps it
  pub keeps : (h : Here) (m n : Made) (line : ℕ) (item : Item) → Holds F O h m → StandsHere t h item → made_behind h m item ≡ Some n
      → Holds F O (behind h line item) n
  keeps h m n line (sort_line x s) p stands made = subst (Holds F O (behind h line (sort_line x s))) (some_is m n made) (record {
    fixed = p.fixed;
    top = named IsTop h.scope.top x (sort_meaning (sort_for h.scope s)) p.top (is_top_sort h.scope s p.plain p.top);
    plain = tt;
    body = tt;
    sound = p.sound;
  })
  keeps h m n line (constant_line x c) p stands made = subst (Holds F O (behind h line (constant_line x c))) (some_is m n made) (record {
    fixed = p.fixed;
    top = named IsTop h.scope.top x (means.Constant c) p.top tt;
    plain = tt;
    body = tt;
    sound = p.sound;
  })
  keeps h m n line (hook_line x) p stands made = subst (Holds F O (behind h line (hook_line x))) (some_is m n made) (record {
    fixed = p.fixed;
    top = named IsTop h.scope.top x means.Nothing p.top tt;
    plain = tt;
    body = tt;
    sound = p.sound;
  })
  keeps h m n line (class_line x) p stands made = subst (Holds F O (behind h line (class_line x))) (some_is m n made) (record {
    fixed = p.fixed;
    top = named IsTop h.scope.top x means.Nothing p.top tt;
    plain = tt;
    body = tt;
    sound = p.sound;
  })
  keeps h m n line (field_line x keys s) p stands made = subst (Holds F O (behind h line (field_line x keys s))) (some_is m n made) (record {
    fixed = p.fixed;
    top = p.top;
    plain = p.plain;
    body = p.body;
    sound = p.sound;
  })
  keeps h m n line (def_line x ps) p stands made = subst (Holds F O (behind h line (def_line x ps))) (some_is _ n made) (at_def taken owned keyed equations F O t h m line x ps p stands.0)
  keeps h m n line (var_line x s) p stands made = subst (Holds F O (behind h line (var_line x s))) (some_is m n made) (record {
    fixed = p.fixed;
    top = p.top;
    plain = named IsPlain h.scope.inner x (variable_meaning (key_for h.scope s)) p.plain (is_plain_variable h.scope s p.plain p.top);
    body = head_variable F O h.scope.kernel h.head h.result h.scope.inner h.lets m.locals m.lines x (key_for h.scope s) p.body;
    sound = p.sound;
  })
  keeps h m n line (let_line x e) p stands made = at_let taken owned keyed equations F O t h m n line x e p stands.0 made
  keeps h m n line (copy_line x o) p stands made = subst (Holds F O (behind h line (copy_line x o))) (some_is m n made) (record {
    fixed = p.fixed;
    top = p.top;
    plain = named IsPlain h.scope.inner x (means.State New) p.plain tt;
    body = head_copy F O h.scope h.head h.result h.lets m.locals m.lines x stands.1 p.body;
    sound = p.sound;
  })
  keeps h m n line (write_line c f at e) p stands made = at_write taken owned keyed equations F O t h m n line c f at e p stands.0 made
  keeps h m n line (return_line e) p stands made = at_return taken owned keyed equations F O t h m n line e p stands.0 made
  keeps h m n line (end_line e c r) p stands made = at_end taken owned keyed equations F O t h m n line e c r p stands.0 made
