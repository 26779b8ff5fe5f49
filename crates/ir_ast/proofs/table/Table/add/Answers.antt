use Rattle.std.proofs.Common.{◌∙◌, sym, ap}
use Rattle.std.specs.Prelude.{is_some}
use Rattle.ir_ast.specs.Table.{place_of}
use Rattle.ir_ast.proofs.Placing.{stepped, absent}
use Rattle.ir_ast.proofs.table.Table.add.Goals as goal

pub invariant_of-self : goal.invariant_of-self
invariant_of-self g c =
    let none = absent (place_of c.args.name c.self.inside.entries.items) (ap (λ es. is_some (place_of c.args.name es)) c.self.view_is ∙ sym c.contains.ensures ∙ c.if-contains.false) in
    let e = c.put_entry.ensures in
    stepped c.put_entry.result c.self.inside.places c.put_entry.new.places c.self.inside.entries.items c.put_entry.new.entries.items c.in-Ok.key c.args.name c.args.entry c.self.invariant c.in-Ok.ensures none e.placed e.added e.places e.entries
