use Rattle.spec_kernel.specs.Seen.{seen_of}
use Rattle.spec_kernel.proofs.NameLaws.{global_found}
use Rattle.spec_kernel.proofs.names.KernelNames.global.Goals as goal

pub returns-clause-place : goal.returns-clause-place
returns-clause-place c =
    let k = seen_of c.self.inside.shapes c.self.inside.globals.items c.self.inside.functions.items in
    global_found k c.args.self.now c.self.inside.global_places c.args.name.now c.get.result c.self.invariant.global_names c.self.view_is c.get.ensures
