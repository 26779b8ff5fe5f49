use Rattle.std.proofs.Common.{ℕ, ◌<◌, ◌≤◌, List, take, refl, subst}
use Rattle.std.specs.List.{All, AllPairs}
use Rattle.hk_cdcl.specs.declared.watched.Watched.{Watched}
use Rattle.hk_cdcl.proofs.Attaching.{fits-cut}
use Rattle.hk_cdcl.proofs.watched.WatchedPropagate.cut.Goals as goal

pub returns : goal.returns
returns c = λ clauses seen f.
    let low : AllPairs (λ d e. d < e) c.args.self.now.ends.items → All (λ e. e ≤ c.args.length) (take c.ends_until-count.result c.args.self.now.ends.items) =
    subst (λ (es : List ℕ). AllPairs (λ d e. d < e) es → All (λ e. e ≤ c.args.length) (take c.ends_until-count.result es)) c.as_slice.ensures.value c.ends_until-count.ensures in
    let u : Watched = record c.args.self.now { ends = c.truncate.new.self } in
    fits-cut c.args.self.now u clauses seen c.args.length c.ends_until-count.result refl c.truncate.ensures.items low f
