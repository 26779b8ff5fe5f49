use Rattle.std.proofs.Common.{ℕ, ◌∷◌, [], List, length, sym, subst}
use Rattle.hk_cnf.proofs.FrontLaws.{IsFront-trans}
use Rattle.hk_blast.proofs.LongerLists.{blasted-longer}
use Rattle.hk_inst.specs.declared.instance.Instance.{Instance}
use Rattle.hk_inst.specs.Growing.{IsGrowing, ids_below}
use Rattle.hk_inst.specs.States.{asked_of}
use Rattle.hk_inst.proofs.Lengthening.{longer-refl, longer-words, nothing-more, ahead, ahead-added}
use Rattle.hk_inst.proofs.AddedSteps.{brought, pair-widths}
use Rattle.hk_inst.proofs.adding.bring.Goals as goal

pub demand_of-requires-clause-widths : goal.demand_of-requires-clause-widths
demand_of-requires-clause-widths c = pair-widths (asked_of c.args.s.now) c.args.s.now.first c.args.s.now.next c.requires.kept.growing c.requires.kept.stepped c.args.instance c.args.subject.now c.requires.subject

pub make-requires-clause-table : goal.make-requires-clause-table
make-requires-clause-table c = blasted-longer c.args.s.now.terms c.demand_of.new.terms c.args.s.now.gates c.args.s.now.bits c.in_ok-demand.ensures.grows c.requires.kept.growing.base.blasted

pub returns-in_err-make-clause-front : goal.returns-in_err-make-clause-front
returns-in_err-make-clause-front c = λ q h.
    ahead q (asked_of c.args.s.now) h c.demand_of.new.terms c.make.new.gates c.make.new.bits c.args.s.now.openings.items c.in_ok-demand.ensures.grows c.make.ensures.front (longer-words c.demand_of.new.terms c.args.s.now.gates.vars c.args.s.now.bits c.make.new.bits c.make.ensures.lengthens) (longer-refl c.args.s.now.openings.items)

pub returns-in_err-require-clause-front : goal.returns-in_err-require-clause-front
returns-in_err-require-clause-front c = λ q h.
    ahead q (asked_of c.args.s.now) h c.demand_of.new.terms c.require.new.gates c.make.new.bits c.args.s.now.openings.items c.in_ok-demand.ensures.grows (IsFront-trans c.args.s.now.gates c.make.new.gates c.require.new.gates c.make.ensures.front c.require.ensures.front) (longer-words c.demand_of.new.terms c.args.s.now.gates.vars c.args.s.now.bits c.make.new.bits c.make.ensures.lengthens) (longer-refl c.args.s.now.openings.items)

pub returns-in_err-push-clause-front : goal.returns-in_err-push-clause-front
returns-in_err-push-clause-front c = λ q h.
    ahead-added q (asked_of c.args.s.now) h c.demand_of.new.terms c.require.new.gates c.make.new.bits c.args.s.now.instances c.push.new.self.items c.in_ok-demand.ensures.grows (IsFront-trans c.args.s.now.gates c.make.new.gates c.require.new.gates c.make.ensures.front c.require.ensures.front) (longer-words c.demand_of.new.terms c.args.s.now.gates.vars c.args.s.now.bits c.make.new.bits c.make.ensures.lengthens)
    (longer-refl c.args.s.now.instances) (nothing-more c.args.s.now.demands.items c.push.new.self.items c.in_err-push.ensures.items)

pub returns-in_err-push-2-clause-front : goal.returns-in_err-push-2-clause-front
returns-in_err-push-2-clause-front c = λ q h.
    ahead-added q (asked_of c.args.s.now) h c.demand_of.new.terms c.require.new.gates c.make.new.bits c.push-2.new.self c.push.new.self.items c.in_ok-demand.ensures.grows (IsFront-trans c.args.s.now.gates c.make.new.gates c.require.new.gates c.make.ensures.front c.require.ensures.front) (longer-words c.demand_of.new.terms c.args.s.now.gates.vars c.args.s.now.bits c.make.new.bits c.make.ensures.lengthens)
    (nothing-more c.args.s.now.instances c.push-2.new.self c.in_err-push-2.ensures.err) (c.in_ok-demand.demand ∷ [], c.in_ok-push.ensures.items)

pub returns-clause-front : goal.returns-clause-front
returns-clause-front c = λ q h.
    ahead-added q (asked_of c.args.s.now) h c.demand_of.new.terms c.require.new.gates c.make.new.bits c.push-2.new.self c.push.new.self.items c.in_ok-demand.ensures.grows (IsFront-trans c.args.s.now.gates c.make.new.gates c.require.new.gates c.make.ensures.front c.require.ensures.front) (longer-words c.demand_of.new.terms c.args.s.now.gates.vars c.args.s.now.bits c.make.new.bits c.make.ensures.lengthens)
    (c.args.instance ∷ [], c.in_ok-push-2.ensures.ok) (c.in_ok-demand.demand ∷ [], c.in_ok-push.ensures.items)

pub returns-clause-growing : goal.returns-clause-growing
returns-clause-growing c =
    subst (λ (z : List ℕ × List Instance). IsGrowing (record {
      nodes = c.demand_of.new.terms;
      goal = c.args.s.now.goal;
      circuit = c.require.new.gates;
      table = record { words = c.make.new.bits; reads = c.args.s.now.reads.items; quantifiers = c.args.s.now.quantifiers.items; openings = c.args.s.now.openings.items };
      instances = z.1;
      demands = z.0;
    }) c.args.s.now.first c.args.s.now.next (length c.args.s.now.bits)) (λ n. (sym c.in_ok-push.ensures.items n, sym c.in_ok-push-2.ensures.ok n))
    (brought (asked_of c.args.s.now) c.demand_of.new.terms c.in_ok-demand.ensures.grows c.make.new.gates c.require.new.gates c.make.new.bits c.args.s.now.first c.args.s.now.next c.args.instance c.in_ok-demand.demand c.len.ensures.fit c.len.ensures.distinct
    (c.in_ok-demand.ensures.adds (ids_below c.args.s.now.next) c.requires.kept.growing.base.ids) (c.in_ok-demand.ensures.demand (asked_of c.args.s.now).table c.requires.subject) c.in_ok-make.ensures.made c.in_ok-require.ensures.requiring c.requires.kept.growing c.requires.kept.stepped)
