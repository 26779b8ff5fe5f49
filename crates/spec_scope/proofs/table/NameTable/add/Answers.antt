use Rattle.std.proofs.Common.{◌≡◌, ◌∙◌, sym, ap, None, bytes_eq, ℕ, List}
use Rattle.std.specs.Map.{lookup}
use Rattle.indexmap.proofs.CallerLemmas.{insert_entry-new}
use Rattle.spec_scope.specs.Scope.{with_name}
use Rattle.spec_scope.proofs.Tables.{added, none_is}
use Rattle.spec_scope.proofs.table.NameTable.add.Goals as goal
use denote.Ref.{Bor}

pub returns : goal.returns
returns c =
    let name = c.args.name in
    let rows = c.self.inside.rows in
    let none : lookup (λ (w : Bor (List ℕ)). bytes_eq name.now w.now) rows.entries ≡ None
    = sym c.row.ensures ∙ none_is c.row.result (sym c.is_some.ensures ∙ c.if-is_some.false) in
    added rows.entries c.insert.new.self.entries name c.args.meaning none (c.in_ok-insert.ensures.entries ∙ insert_entry-new _ rows name c.args.meaning none)
    ∙ ap (λ es. with_name es name.now c.args.meaning) c.self.view_is
