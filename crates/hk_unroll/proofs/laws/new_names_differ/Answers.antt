use Rattle.hk_unroll.proofs.NameLaws.{blocks_apart, registers_apart, phis_apart, block_is_no_register, block_is_no_phi, register_is_no_phi, end_is_no_block, end_is_no_register, end_is_no_phi}
use Rattle.hk_unroll.proofs.laws.new_names_differ.Goals as goal

pub returns-clause-blocks : goal.returns-clause-blocks
returns-clause-blocks c = blocks_apart

pub returns-clause-registers : goal.returns-clause-registers
returns-clause-registers c = registers_apart

pub returns-clause-phis : goal.returns-clause-phis
returns-clause-phis c = phis_apart

pub returns-clause-no_register : goal.returns-clause-no_register
returns-clause-no_register c = block_is_no_register

pub returns-clause-no_phi : goal.returns-clause-no_phi
returns-clause-no_phi c = block_is_no_phi

pub returns-clause-neither : goal.returns-clause-neither
returns-clause-neither c = register_is_no_phi

pub returns-clause-end_block : goal.returns-clause-end_block
returns-clause-end_block c = end_is_no_block

pub returns-clause-end_register : goal.returns-clause-end_register
returns-clause-end_register c = end_is_no_register

pub returns-clause-end_phi : goal.returns-clause-end_phi
returns-clause-end_phi c = end_is_no_phi
