use Rattle.std.proofs.Common.{Some, refl, sym, subst, slice_set}
use Rattle.hk_symstep.specs.Held.{held_meaning}
use Rattle.hk_symstep.specs.Files.{registers_of}
use Rattle.hk_symexec.specs.Seen.{seen}
use Rattle.hk_symexec.specs.Tracks.{Tracks}
use Rattle.hk_symexec.proofs.Following.{sets}
use Rattle.hk_symexec.proofs.settle.set_here.Goals as goal

pub returns-clause-tracks : goal.returns-clause-tracks
returns-clause-tracks c = λ P f v memory go e h.
    subst (λ s. Tracks P f s memory go e) (sym (c.in_ok-made.ensures.seen v))
    (sets P f (seen c.args.t.now v c.args.x) memory (λ rs m. go (slice_set rs c.args.place (Some (held_meaning c.args.t.now v c.args.held))) m) go e
    (registers_of c.set.new.t v c.in_ok-made.made.file) (λ rs. slice_set rs c.args.place (Some (held_meaning c.args.t.now v c.args.held)))
    (λ g rs w. c.in_ok-made.ensures.set v rs g w) (λ g rs w. c.in_ok-made.ensures.kept v rs g w) (λ rs. refl) h)
