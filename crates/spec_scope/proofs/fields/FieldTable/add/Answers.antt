use Rattle.std.proofs.Common.{◌≡◌, ◌∙◌, sym, ap, None, bytes_eq, ℕ, List}
use Rattle.std.specs.Map.{lookup}
use Rattle.indexmap.proofs.CallerLemmas.{insert_entry-new}
use Rattle.spec_scope.specs.Scope.{with_field}
use Rattle.spec_scope.specs.Fields.{view_row}
use Rattle.spec_scope.proofs.Tables.{field_kept, field_added, none_is}
use Rattle.spec_scope.proofs.fields.FieldTable.add.Goals as goal
use denote.Ref.{Bor}

pub returns-then-is_some : goal.returns-then-is_some
returns-then-is_some c =
    let name = c.args.name in
    let kept = field_kept c.self.inside.rows.entries name c.args.row c.place_of.result c.place_of.ensures.value (sym c.is_some.ensures ∙ c.if-is_some.true) in
    sym c.self.view_is ∙ kept ∙ ap (λ fs. with_field fs (view_row (name, c.args.row))) c.self.view_is

pub returns : goal.returns
returns c =
    let name = c.args.name in
    let rows = c.self.inside.rows in
    let none : lookup (λ (w : Bor (List ℕ)). bytes_eq name.now w.now) rows.entries ≡ None
    = none_is _ (sym c.place_of.ensures.found ∙ sym c.is_some.ensures ∙ c.if-is_some.false) in
    field_added rows.entries c.insert.new.self.entries name c.args.row c.place_of.result c.place_of.ensures.value (sym c.is_some.ensures ∙ c.if-is_some.false)
    (c.in_ok-insert.ensures.entries ∙ insert_entry-new _ rows name c.args.row none)
    ∙ ap (λ fs. with_field fs (view_row (name, c.args.row))) c.self.view_is
