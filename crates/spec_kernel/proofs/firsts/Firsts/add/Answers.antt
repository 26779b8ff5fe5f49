use Rattle.std.proofs.Common.{◌≡◌, ◌∙◌, sym, ap, None, bytes_eq, ℕ, List}
use Rattle.std.specs.Map.{lookup}
use Rattle.indexmap.proofs.CallerLemmas.{insert_entry-new}
use Rattle.spec_kernel.specs.Firsts.{with_place}
use Rattle.spec_kernel.proofs.FirstPlaces.{added, none_is}
use Rattle.spec_kernel.proofs.firsts.Firsts.add.Goals as goal
use denote.Ref.{Bor}

pub returns : goal.returns
returns c =
    let name = c.args.name in
    let places = c.self.inside.places in
    let none : lookup (λ (w : Bor (List ℕ)). bytes_eq name.now w.now) places.entries ≡ None
    = sym c.place.ensures ∙ none_is c.place.result (sym c.is_some.ensures ∙ c.if-is_some.false) in
    added places.entries c.insert.new.self.entries name c.args.at none (c.in_ok-insert.ensures.entries ∙ insert_entry-new _ places name c.args.at none)
    ∙ ap (λ es. with_place es name.now c.args.at) c.self.view_is
