use Rattle.std.proofs.Common.{map, refl}
use Rattle.ir_ast.specs.ProgramView.{view_block, view_function}
use Rattle.ir_check.proofs.SiteLaws.{sites_made}
use Rattle.ir_check.proofs.sites.register_sites.Goals as goal

pub returns : goal.returns
returns c =
    sites_made (view_function c.args.function.now) c.args.function.now.parameters.items.items c.deref.result.now (map view_block c.blocks_of.result.now)
    c.new-sites.result c.add_parameters.new.sites c.add_blocks.new.sites refl c.deref.ensures.value c.blocks_of.ensures c.new-sites.ensures
    c.in_ok-add_parameters.ensures c.in_ok-add_blocks.ensures
