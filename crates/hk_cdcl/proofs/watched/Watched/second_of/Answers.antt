use Rattle.std.proofs.Common.{List, ℕ, ◌<◌, ◌≤◌, take, subst}
use Rattle.std.specs.List.{All, AllPairs}
use Rattle.hk_cnf.specs.Literal.{IsWithin}
use Rattle.hk_cnf.proofs.Members.{all-has}
use Rattle.hk_cdcl.proofs.Attaching.{ended-lone}
use Rattle.hk_cdcl.proofs.watched.Watched.second_of.Goals as goal

pub place-requires : goal.place-requires
place-requires c = all-has (IsWithin c.args.trail.now.vars) c.args.clause.now c.in-Some.second c.requires.within c.in-Some.ensures.member

pub returns-in-Some-clause-ended : goal.returns-in-Some-clause-ended
returns-in-Some-clause-ended c = λ rising inside.
    let low : All (λ e. e ≤ c.place.result) (take c.ends_until-count.result c.args.self.now.ends.items) =
    subst (λ (es : List ℕ). AllPairs (λ d e. d < e) es → All (λ e. e ≤ c.place.result) (take c.ends_until-count.result es)) c.as_slice.ensures.value c.ends_until-count.ensures rising in
    ended-lone c.args.trail.now c.args.clause.now c.args.first c.in-Some.second c.args.self.now.ends.items c.truncate.new.self.items c.ends_until-count.result c.place.result
    c.len-path.ensures.path c.requires.holds c.in-Some.ensures c.place.ensures c.truncate.ensures.items low inside
