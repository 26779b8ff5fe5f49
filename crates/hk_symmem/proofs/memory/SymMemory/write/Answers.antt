use Rattle.std.proofs.Common.{◌<◌, length, ap, subst, sym, ◌∙◌}
use Rattle.std.specs.Prelude.{map, slice_get}
use Rattle.hk_symmem.specs.declared.row.Row.{Row}
use Rattle.std.proofs.lemmas.Result.{on_ok_weaker}
use Rattle.std.proofs.lemmas.Option.{slice_get_within}
use Rattle.hk_symmem.proofs.RowLaws.{place_within, rows_kept, store_value, over_more}
use Rattle.hk_symmem.proofs.memory.SymMemory.write.Goals as goal

pub size_at-size-requires : goal.size_at-size-requires
size_at-size-requires g c = subst (λ rs. c.args.object < length rs) (sym c.deref.ensures.value)
    (place_within _ c.self.inside.rows.items c.args.self.now c.args.object c.self.view_is c.self.invariant (slice_get_within _ _ _ c.requires.object.2))

pub push_write-requires : goal.push_write-requires
push_write-requires g c = place_within _ c.self.inside.rows.items c.args.self.now c.args.object c.self.view_is c.self.invariant (slice_get_within _ _ _ c.requires.object.2)

pub invariant_of-self : goal.invariant_of-self
invariant_of-self g c = rows_kept _ c.self.inside.rows.items c.push_write.new.rows.items c.args.self.now c.args.object c.requires.object.0 c.requires.object.1 _ c.push_write.result
    c.self.view_is c.self.invariant c.requires.object.2 c.push_write.ensures.sizes c.push_write.ensures.written c.push_write.ensures.err

pub returns-clause-value : goal.returns-clause-value
returns-clause-value g c = on_ok_weaker c.push_write.result
    (λ more nodes v there. store_value nodes v _ c.self.inside.rows.items c.push_write.new.rows.items c.args.self.now c.args.object c.requires.object.0 c.requires.object.1 c.size_at-size.result _
    c.self.view_is c.self.invariant c.requires.object.2 (ap (λ rs. slice_get (map (λ (r : Row). r.size) rs) c.args.object) (sym c.deref.ensures.value) ∙ c.size_at-size.ensures) c.size_at-size.type_inv more there)
    c.push_write.ensures.written

pub returns-clause-over : goal.returns-clause-over
returns-clause-over g c = on_ok_weaker c.push_write.result
    (λ more nodes over w. over_more nodes _ c.self.inside.rows.items c.push_write.new.rows.items c.args.self.now c.args.object _ c.self.view_is over w more)
    c.push_write.ensures.written
