-- What is kept along the lines of a specification, and what local names and writes do not touch.
use Rattle.std.proofs.Common.{◌≡◌, ℕ, Bool, true, false, Option, Some, None, unwrap_or, List, [], ◌∷◌, ◌++◌, refl, ◌∙◌, ap, subst}
use Rattle.spec_ast.specs.Raw.{Tree, Trees, Item, Line}
use Rattle.spec_tree.specs.Plain as tree
use Rattle.spec_tree.specs.Sorted.{FieldSort}
use Rattle.spec_names.specs.Kernel.{Name}
use Rattle.spec_scope.specs.declared.meaning.Kind.TheVariants.{Number}
use Rattle.spec_scope.specs.Scope.{Scope, field_place, field_sort}
use Rattle.spec_scope.specs.Taking.{chain, one, take}
use Rattle.spec_lines.specs.Behind.{Here, behind, kind_of, is_handler, let_kind, skips}
use Rattle.spec_lines.specs.Faults.{written_at}
use Rattle.spec_lines.specs.Whole.{Made, made_behind, made_from, put_let, let_made, write_at, sorted_write, written}

-- ---- parts of answers that are there

pub some_is : {A : Type 0} (a b : A) → ◌≡◌ {A = Option A} (Some a) (Some b) → a ≡ b
some_is a b e = ap (λ o. unwrap_or o a) e

pub chain_is : {A B : Type 0} (o : Option A) (f : A → Option B) (b : B) → chain o f ≡ Some b → (a : A) × (o ≡ Some a) × (f a ≡ Some b)
chain_is None f b e = absurd (cc e)
chain_is (Some a) f b e = (a, refl, e)

pub one_is : {A B : Type 0} (f : A → B) (o : Option A) (b : B) → one f o ≡ Some b → (a : A) × (o ≡ Some a) × (f a ≡ b)
one_is f None b e = absurd (cc e)
one_is f (Some a) b e = (a, refl, some_is (f a) b e)

-- ---- lines

-- this holds of each line where it stands
abbrev pub Along : (Here → Item → Type 0) → Here → List Line → Type 0
Along S h [] = Unit {0}
Along S h (l ∷ ls) = S h l.item × Along S (behind h l.line l.item) ls

-- what each line keeps holds behind all
pub walk : (S : Here → Item → Type 0) (P : Here → Made → Type 0)
    → ((h : Here) (m n : Made) (l : Line) → P h m → S h l.item → made_behind h m l.item ≡ Some n → P (behind h l.line l.item) n)
    → (h : Here) (m n : Made) (raw : List Line) → P h m → Along S h raw → made_from h m raw ≡ Some n → (z : Here) × P z n
walk S P step h m n [] p along made = (h, subst (P h) (some_is m n made) p)
walk S P step h m n (l ∷ ls) p along made =
    let c = chain_is (made_behind h m l.item) (λ o. made_from (behind h l.line l.item) o ls) n made in
    walk S P step (behind h l.line l.item) c.0 n ls (step h m c.0 l p along.0 c.1) along.1 c.2

-- ---- what does not depend on the local names and the lines of the function that goes on

module _ {A : Type 0} (view : Made → A) (ignores : (m : Made) (locals : List tree.Tree) (lines : List tree.Line) → view m ≡ view (record m { locals = locals; lines = lines })) where
  same_put : (m : Made) (y : tree.Tree) (skipped by_line : Bool) → view m ≡ view (put_let skipped by_line m y)
  same_put m y true by_line = refl
  same_put m y false true = ignores m m.locals (m.lines ++ tree.let_line y ∷ [])
  same_put m y false false = ignores m (m.locals ++ y ∷ []) m.lines

  pub same_let : (h : Here) (m n : Made) (e : Tree) → let_made h m e ≡ Some n → view m ≡ view n
  same_let h m n e made =
      let c = chain_is (let_kind h.scope e) (λ kind. one (put_let (skips h e) (is_handler (kind_of h.head)) m) (take h.scope [] kind e)) n made in
      let d = one_is (put_let (skips h e) (is_handler (kind_of h.head)) m) (take h.scope [] c.0 e) n c.2 in
      same_put m d.0 (skips h e) (is_handler (kind_of h.head)) ∙ ap view d.2

  same_placed : (o : Option ℕ) (m n : Made) (xs : tree.Trees) (y : tree.Tree) → write_at o m xs y ≡ Some n → view m ≡ view n
  same_placed None m n xs y made = absurd (cc made)
  same_placed (Some place) m n xs y made = ignores m m.locals (m.lines ++ tree.write_line place xs y ∷ []) ∙ ap view (some_is _ n made)

  pub same_write : (s : Scope) (m n : Made) (f : Name) (at : Option Trees) (e : Tree) → written s m f at e ≡ Some n → view m ≡ view n
  same_write s m n f at e made =
      let a = chain_is (field_sort s f) (sorted_write s m f at e) n made in
      let sort : FieldSort = a.0 in
      let b = chain_is (written_at s sort.keys at) (λ xs. chain (take s [] (Number sort.width) e) (λ y. write_at (field_place s f) m xs y)) n a.2 in
      let c = chain_is (take s [] (Number sort.width) e) (λ y. write_at (field_place s f) m b.0 y) n b.2 in
      same_placed (field_place s f) m n b.0 c.0 c.2

  pub same_def : (m n : Made) → ◌≡◌ {A = Option Made} (Some (record m { locals = []; lines = [] })) (Some n) → view m ≡ view n
  same_def m n made = ignores m [] [] ∙ ap view (some_is (record m { locals = []; lines = [] }) n made)

  pub same_all : (m n : Made) → ◌≡◌ {A = Option Made} (Some m) (Some n) → view m ≡ view n
  same_all m n made = ap view (some_is m n made)
