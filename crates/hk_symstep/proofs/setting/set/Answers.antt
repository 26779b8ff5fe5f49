use Rattle.std.proofs.Common.{◌∙◌, subst, sym, ap}
use Rattle.std.specs.Prelude.{Some, slice_set}
use Rattle.hk_symstep.specs.Held.{held_meaning, place_meaning, Keeps}
use Rattle.hk_symstep.specs.Files.{place_at, IsFile, Covers}
use Rattle.hk_symstep.proofs.FileLaws.{file_set, covers_here, covers_away}
use Rattle.hk_symstep.proofs.Growing.{file_kept, covers_kept, place_same}
use Rattle.hk_symstep.proofs.setting.set.Goals as goal

pub returns-clause-within : goal.returns-clause-within
returns-clause-within c = subst (IsFile c.joined.new.t) (sym c.put.ensures) (file_set c.joined.new.t c.args.file.now c.args.place c.in_ok-next.next (file_kept c.args.t.now c.joined.new.t c.joined.ensures.frame c.args.file.now c.requires.file) c.in_ok-next.ensures.within)

pub returns-clause-here : goal.returns-clause-here
returns-clause-here c = λ v rs e k.
    subst (λ f. Covers c.joined.new.t v f (slice_set rs c.args.place (Some (held_meaning c.args.t.now v c.args.held)))) (sym c.put.ensures)
    (covers_here c.joined.new.t v c.args.file.now rs c.args.place c.in_ok-next.next (held_meaning c.args.t.now v c.args.held) (c.in_ok-next.ensures.here v e) (covers_kept c.args.t.now c.joined.new.t c.joined.ensures.frame v c.args.file.now rs c.requires.file k))

pub returns-clause-away : goal.returns-clause-away
returns-clause-away c = λ v rs e k.
    subst (λ f. Covers c.joined.new.t v f rs) (sym c.put.ensures)
    (covers_away c.joined.new.t v c.args.file.now rs c.args.place c.in_ok-next.next
    (subst (λ p. Keeps p (held_meaning c.joined.new.t v c.in_ok-next.next)) (ap (place_meaning c.args.t.now v) c.held.ensures.held ∙ sym (place_same c.args.t.now c.joined.new.t c.joined.ensures.frame v (place_at c.args.file.now c.args.place) (c.requires.file c.args.place))) (c.in_ok-next.ensures.away v e))
    (covers_kept c.args.t.now c.joined.new.t c.joined.ensures.frame v c.args.file.now rs c.requires.file k))
