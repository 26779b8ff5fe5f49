use Rattle.hk_term.proofs.KeptNumbers.{new_for}
use Rattle.hk_term.proofs.room.ValueRoom.new.Goals as goal

pub returns : goal.returns
returns c = λ r. new_for c.args.terms.now r c.in_ok-values.values.items c.in_ok-marks.marks.items c.len-len.result (c.in_ok-values.ensures.items_if_clones_equal (λ y e. e)) (c.in_ok-marks.ensures.items_if_clones_equal (λ y e. e)) c.len-len.ensures.len
