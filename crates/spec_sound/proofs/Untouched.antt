-- What no local name's line and no write touches.
use Rattle.std.proofs.Common.{◌≡◌, Bool, true, false, Option, Some, List, [], ◌∷◌, ◌++◌, refl, ap, ◌∙◌}
use Rattle.spec_ast.specs.Raw.{Tree, Trees}
use Rattle.spec_tree.specs.Plain as tree
use Rattle.spec_names.specs.Kernel.{Name}
use Rattle.spec_scope.specs.Scope.{Scope}
use Rattle.spec_scope.specs.Taking.{one, take}
use Rattle.spec_lines.specs.Behind.{Here, kind_of, is_handler, let_kind, skips}
use Rattle.spec_lines.specs.Whole.{Made, put_let, let_made, written}
use Rattle.spec_sound.proofs.Parts.{chain_is, one_is, some_is}
use Rattle.spec_sound.proofs.Writes.{is_written}

-- what does not depend on the local names and the lines of the function that goes on
module _ {A : Type 0} (view : Made → A) (ignores : (m : Made) (locals : List tree.Tree) (lines : List tree.Line) → view m ≡ view (record m { locals = locals; lines = lines })) where
  same_put : (m : Made) (y : tree.Tree) (skipped by_line : Bool) → view m ≡ view (put_let skipped by_line m y)
  same_put m y true by_line = refl
  same_put m y false true = ignores m m.locals (m.lines ++ tree.let_line y ∷ [])
  same_put m y false false = ignores m (m.locals ++ y ∷ []) m.lines

  pub same_let : (h : Here) (m n : Made) (e : Tree) → let_made h m e ≡ Some n → view m ≡ view n
  same_let h m n e made =
      let c = chain_is (let_kind h.scope e) (λ kind. one (put_let (skips h e) (is_handler (kind_of h.head)) m) (take h.scope [] kind e)) n made in
      let d = one_is (put_let (skips h e) (is_handler (kind_of h.head)) m) (take h.scope [] c.0 e) n c.2 in
      same_put m d.0 (skips h e) (is_handler (kind_of h.head)) ∙ ap view d.2

  pub same_write : (s : Scope) (m n : Made) (f : Name) (at : Option Trees) (e : Tree) → written s m f at e ≡ Some n → view m ≡ view n
  same_write s m n f at e made =
      let w = is_written s m n f at e made in
      ignores m m.locals (m.lines ++ tree.write_line w.place w.indices w.number ∷ []) ∙ ap view w.made

  pub same_def : (m n : Made) → ◌≡◌ {A = Option Made} (Some (record m { locals = []; lines = [] })) (Some n) → view m ≡ view n
  same_def m n made = ignores m [] [] ∙ ap view (some_is (record m { locals = []; lines = [] }) n made)

  pub same_all : (m n : Made) → ◌≡◌ {A = Option Made} (Some m) (Some n) → view m ≡ view n
  same_all m n made = ap view (some_is m n made)
