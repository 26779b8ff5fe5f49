-- The specification that lines stand for is well sorted.
use Rattle.std.proofs.Common.{◌≡◌, ℕ, inl, Some, option_map, List, [], map, slice_get, All, refl, sym, ap, subst, ◌∙◌}
use Rattle.std.proofs.lemmas.List.Elements.{All-nil, recursion_from_All}
use Rattle.std.proofs.lemmas.Option.{slice_get_within, get_or_from_slice_get, slice_get-map}
use Rattle.spec_ast.specs.Raw.{Line}
use Rattle.spec_tree.specs.Plain.{Field, Spec}
use Rattle.spec_tree.specs.Sorted.{IsFieldSort, sort_of, IsWellSorted}
use Rattle.spec_names.specs.Kernel.{Global, Kernel}
use Rattle.spec_names.specs.Room.{HasLeaves, Lies}
use Rattle.spec_scope.specs.Scope.{Declared}
use Rattle.spec_lines.specs.Behind.{Here, fields_of, behind, begin}
use Rattle.spec_lines.specs.Faults.{Text}
use Rattle.spec_lines.specs.Laws.{Stands, AllStand}
use Rattle.spec_lines.specs.Whole.{Made, nothing_made, made_behind, made_from, spec_with, spec_of}
use Rattle.spec_kernel.specs.Widths.{HaveWidths}
use Rattle.spec_sound.specs.Limits.{IsWithin}
use Rattle.spec_sorts.specs.Laws.{TakenIsSorted, OwnIsKind, KeysAreSorted, EquationIsSorted}
use Rattle.spec_sound.proofs.Parts.{chain_is, one_is, some_is}
use Rattle.spec_sound.proofs.Walking.{StandsHere, walk, along_stands, along_copies}
use Rattle.spec_sound.proofs.Scopes.{Fixed}
use Rattle.spec_sound.proofs.Values.{IsFieldIn}
use Rattle.spec_sound.proofs.Declared.{their_sorts, within_limits, FieldsFrom, fields_have_sorts, from_line, same_fields}
use Rattle.spec_sound.proofs.Lines.{Holds}
use Rattle.spec_sound.proofs.Steps.{keeps}

-- ---- the declared fields

record AtFields (D : List Declared) (h : Here) (m : Made) : Type 0 where
  declared : h.scope.fields ≡ D
  fields : FieldsFrom h.scope.fields m.fields

next_fields : (D : List Declared) (h : Here) (m n : Made) (l : Line) → AtFields D h m → made_behind h m l.item ≡ Some n → AtFields D (behind h l.line l.item) n
next_fields D h m n l p made =
    let same = same_fields h l.line l.item in
    record { declared = same ∙ p.declared; fields = subst (λ (E : List Declared). FieldsFrom E n.fields) (sym same) (from_line h m n l.item made p.fields) }

fields_from_lines : (t : Text) (k : Kernel) (raw : List Line) (m : Made) → AllStand t (begin k raw) raw → made_from (begin k raw) nothing_made raw ≡ Some m
    → FieldsFrom (fields_of k raw) m.fields
fields_from_lines t k raw m stand made =
    let D = fields_of k raw in
    let first : AtFields D (begin k raw) nothing_made = record { declared = refl; fields = inl refl } in
    let w = walk (Stands t) (AtFields D) (λ h a b l p s e. next_fields D h a b l p e) (begin k raw) nothing_made m raw first (along_stands t (begin k raw) raw stand) made in
    subst (λ (E : List Declared). FieldsFrom E m.fields) (w.1).declared (w.1).fields

-- ---- objects

object_at : (k : Kernel) → All (λ g. HasLeaves g.shape) k.globals → All (λ g. Lies g.shape g.size) k.globals → (place : ℕ) (g : Global) → slice_get k.globals place ≡ Some g
    → (slice_get (map (λ (x : Global). x.size) k.globals) place ≡ Some g.size) × HasLeaves g.shape × Lies g.shape g.size
object_at k leaves lies place g is =
    let inside = slice_get_within k.globals place g is in
    let same = get_or_from_slice_get k.globals place g g is in (
      slice_get-map (λ (x : Global). x.size) k.globals place ∙ ap (option_map (λ (x : Global). x.size)) is,
      subst (λ (x : Global). HasLeaves x.shape) same (leaves place g inside),
      subst (λ (x : Global). Lies x.shape x.size) same (lies place g inside),
    )

-- ---- the whole

module _ (taken : TakenIsSorted) (owned : OwnIsKind) (keyed : KeysAreSorted) (equations : EquationIsSorted) (t : Text) (k : Kernel) (raw : List Line)
    (leaves : All (λ g. HasLeaves g.shape) k.globals) (lies : All (λ g. Lies g.shape g.size) k.globals) (widths : HaveWidths k) (stand : AllStand t (begin k raw) raw) where
  abbrev spec_by : Made → List Field → Spec
  spec_by m fs = record {
    fields = fs;
    equation_locals = m.equation_locals;
    invariants = m.invariants;
    properties = m.properties;
    transitions = m.transitions;
    objects = map (λ g. g.size) k.globals;
  }

  sorted_by : (m : Made) (fs : List Field) → made_from (begin k raw) nothing_made raw ≡ Some m → m.fields ≡ Some fs → IsWithin k raw (spec_by m fs) → IsWellSorted (spec_by m fs)
  sorted_by m fs made has within =
      let F = map sort_of fs in
      let O = map (λ (g : Global). g.size) k.globals in
      let D = fields_of k raw in
      let from : FieldsFrom D (Some fs) = subst (FieldsFrom D) has (fields_from_lines t k raw m stand made) in
      let have = fields_have_sorts D fs from within.counted in
      let limits = recursion_from_All (λ (f : Field). IsFieldSort (sort_of f)) fs within.sorts in
      let fixed : Fixed F O k D = record {
        fields = λ place sort is. their_sorts D fs place sort have is;
        sorts = λ place sort is. within_limits D fs place sort have limits is;
        objects = object_at k leaves lies;
        widths = widths;
      } in
      let first : Holds F O (begin k raw) nothing_made = record {
        fixed = fixed;
        top = tt;
        plain = tt;
        body = tt;
        sound = record {
          fields = λ gs e. subst (All (IsFieldIn _)) (some_is [] gs e) (All-nil (IsFieldIn _));
          equation_locals = tt;
          invariants = All-nil _;
          properties = All-nil _;
          transitions = All-nil _;
        };
      } in
      let w = walk (StandsHere t) (Holds F O) (λ h a b l p s e. keeps taken owned keyed equations F O t h a b l.line l.item p s e) (begin k raw) nothing_made m raw first
      (along_copies t (begin k raw) raw stand within.copies) made in
      let sound = (w.1).sound in
      record {
        equation_locals = sound.equation_locals;
        fields = λ i d l. let f = sound.fields fs has i d l in record { sort = f.sort; sorted = f.value.0; given = f.value.1 };
        entries = within.entries;
        invariants = sound.invariants;
        properties = sound.properties;
        transitions = λ i d l. let s = sound.transitions i d l in record { widths = s.widths; lines = s.lines; valid = s.valid; truth = s.truth; result = s.result };
        handlers = within.handlers;
      }

  pub well_sorted : (spec : Spec) → spec_of k raw ≡ Some spec → IsWithin k raw spec → IsWellSorted spec
  well_sorted spec made within =
      let p = chain_is (made_from (begin k raw) nothing_made raw) (spec_with k) spec made in
      let q = one_is (spec_by p.0) (p.0).fields spec p.2 in
      subst IsWellSorted q.2 (sorted_by p.0 q.0 p.1 q.1 (subst (IsWithin k raw) (sym q.2) within))
