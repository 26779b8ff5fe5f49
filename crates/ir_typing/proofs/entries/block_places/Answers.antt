use Rattle.std.proofs.Common.{◌≡◌, ℕ, List, length, map, take, ap, sym, subst, ◌∙◌, arith}
use Rattle.std.proofs.lemmas.List.{take_all}
use Rattle.ir_ast.specs.ProgramView.{view_block}
use Rattle.ir_ast.specs.declared.instr.Block.{Block}
use Rattle.ir_typing.specs.Places.{AreFirsts}
use Rattle.ir_typing.proofs.FirstPlaces.{firsts_next, grown, seen_names}
use Rattle.ir_typing.proofs.entries.block_places.Goals as goal

pub loop-at-preserved : goal.loop-at-preserved
loop-at-preserved c = record {
  places = firsts_next (λ (b : Block). b.name) c.args.blocks.now c.loop-at.at c.index-blocks-at.result c.loop-at.table c.add_first.new.table c.loop-at-test.true
      c.index-blocks-at.is c.loop-at.invariant.places c.in_ok-add_first.ensures;
  few = let g = grown c.loop-at.table c.index-blocks-at.result.name c.loop-at.at in let l = ap length c.in_ok-add_first.ensures in omega arith;
}

pub returns-clause-places : goal.returns-clause-places
returns-clause-places c =
    let end : take c.loop-at.at c.args.blocks.now ≡ c.args.blocks.now = take_all c.loop-at.at c.args.blocks.now c.loop-at-test.false in
    let P : List (List ℕ) → Type 0 = λ ns. AreFirsts c.loop-at.table ns in
    subst P (ap (map (λ (b : Block). b.name)) end ∙ sym (seen_names view_block (λ b. b.name) c.args.blocks.now)) c.loop-at.invariant.places
