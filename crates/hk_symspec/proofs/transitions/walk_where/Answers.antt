use Rattle.std.proofs.Common.{◌≡◌, ◌<◌, [], length, arith, refl, sym, subst}
use Rattle.std.specs.Prelude.{All}
use Rattle.hk_term.specs.Meaning.{Reading, value}
use Rattle.spec_tree.specs.View.{view_spec}
use Rattle.hk_symexpr.specs.Naming.{AreLimited}
use Rattle.hk_symspec.proofs.LineLaws.{copy_behind, point_knowing, reads_knowing, unchanged}
use Rattle.hk_symspec.proofs.transitions.walk_where.Goals as goal

pub learn-requires-clause-known : goal.learn-requires-clause-known
learn-requires-clause-known g c = subst (All (λ l. l.term < length c.args.t.now)) (sym c.new-learned.ensures.items) (λ k d l. absurd (omega (arith, l)))

pub walk-requires-clause-point : goal.walk-requires-clause-point
walk-requires-clause-point g c =
    point_knowing (view_spec c.args.setting.now.spec.now) c.args.t.now c.args.setting.now.state.now c.args.setting.now.args.now c.args.setting.now.known.now c.as_slice-known.result.now [] []
    (subst (All (λ l. l.term < length c.args.t.now)) (sym c.as_slice-known.ensures.value) c.learn.ensures.known) c.requires.point

pub returns-clause-over : goal.returns-clause-over
returns-clause-over g c = c.in_ok-walked.ensures.point.read.later

pub returns-clause-done : goal.returns-clause-done
returns-clause-done g c = c.in_ok-walked.ensures.point.done

pub returns-clause-copy : goal.returns-clause-copy
returns-clause-copy g c = λ v env h true.
    let s = view_spec c.args.setting.now.spec.now in
    let a = c.args.setting.now.state.now in
    let args = c.args.setting.now.args.now in
    let old = c.args.t.now in
    let new = c.walk.new.t in
    let known = c.as_slice-known.result.now in
    let none : (u : Reading) → AreLimited old c.new-learned.result.items u = λ u. subst (λ l. AreLimited old l u) (sym c.new-learned.ensures.items) (λ k d l. absurd (omega (arith, l))) in
    let limits : (u : Reading) → value old c.args.condition u ≡ 1 → AreLimited old known u =
    λ u one. subst (λ l. AreLimited old l u) (sym c.as_slice-known.ensures.value) (c.learn.ensures.holds u one (none u)) in
    copy_behind s new new a args known c.in_ok-walked.walked.locals.items c.in_ok-walked.walked.writes.items c.in_ok-walked.walked.writes.items v _ refl c.in_ok-walked.ensures.point (unchanged new)
    (c.in_ok-walked.ensures.reads v env (reads_knowing s old a args c.args.setting.now.known.now known [] [] v env (λ u b. limits u (true u b)) h))
