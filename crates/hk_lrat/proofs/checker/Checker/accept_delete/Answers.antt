use Rattle.std.proofs.Common.{◌≡◌, ◌≤◌, List, map, length, true, false, sym, ◌∙◌, ap, subst}
use Rattle.std.proofs.lemmas.List.{with_items_is}
use Rattle.std.specs.Vec.{with_items}
use Rattle.std.specs.List.{All, list_all}
use Rattle.hk_lrat.specs.declared.table.Entry.{Entry}
use Rattle.hk_lrat.specs.Entries.{dead_in, is_live_at, IsRising, IsEntry, live_of}
use Rattle.hk_lrat.specs.Log.{Live}
use Rattle.hk_lrat.specs.Room.{Checked, without_clauses}
use Rattle.hk_lrat.proofs.Accept.{delete-answer}
use Rattle.hk_lrat.proofs.Look.{All-dead, rising-dead, live_of-dead}
use Rattle.hk_lrat.proofs.checker.Checker.accept_delete.Goals as goal

pub returns-then-not-are_live-clause-reason : goal.returns-then-not-are_live-clause-reason
returns-then-not-are_live-clause-reason c =
    delete-answer c.self.inside c.args.self.now c.args.ids.now false c.self.view_is
    (sym c.if-not-are_live.true ∙ (c.are_live.ensures ∙ ap (λ t. list_all (is_live_at t) c.args.ids.now) c.as_slice.ensures.value))

pub invariant_of-self : goal.invariant_of-self
invariant_of-self c =
    let old : List Entry = c.self.inside.table.items in
    let items : (with_items c.self.inside.table c.kill_all.new.table).items ≡ map (dead_in c.args.ids.now) old =
    with_items_is c.self.inside.table c.kill_all.new.table (c.kill_all.auto.table ∙ c.as_mut_slice.ensures.len)
    ∙ (c.kill_all.ensures ∙ ap (map (dead_in c.args.ids.now)) c.as_mut_slice.ensures.value) in
    record {
      few = c.self.invariant.few;
      rising = subst IsRising (sym items) (rising-dead c.args.ids.now old c.self.invariant.rising);
      last = subst (All (λ e. e.id ≤ c.self.inside.last)) (sym items) (All-dead (λ e. e.id ≤ c.self.inside.last) c.args.ids.now old (λ e p. p) c.self.invariant.last);
      entries = subst (All (IsEntry (length c.self.inside.lits.items))) (sym items)
          (All-dead (IsEntry (length c.self.inside.lits.items)) c.args.ids.now old (λ e p. record { rising = p.rising; inside = p.inside }) c.self.invariant.entries);
      lits = c.self.invariant.lits;
      two_each = c.self.invariant.two_each;
      none_later = c.self.invariant.none_later;
      clause_room = c.self.invariant.clause_room;
      literal_room = c.self.invariant.literal_room;
    }

pub returns-clause-reason : goal.returns-clause-reason
returns-clause-reason c =
    delete-answer c.self.inside c.args.self.now c.args.ids.now true c.self.view_is
    (sym c.if-not-are_live.false ∙ (c.are_live.ensures ∙ ap (λ t. list_all (is_live_at t) c.args.ids.now) c.as_slice.ensures.value))

pub returns-clause-accepted : goal.returns-clause-accepted
returns-clause-accepted c =
    let old : List Entry = c.self.inside.table.items in
    let items : (with_items c.self.inside.table c.kill_all.new.table).items ≡ map (dead_in c.args.ids.now) old =
    with_items_is c.self.inside.table c.kill_all.new.table (c.kill_all.auto.table ∙ c.as_mut_slice.ensures.len)
    ∙ (c.kill_all.ensures ∙ ap (map (dead_in c.args.ids.now)) c.as_mut_slice.ensures.value) in
    let f : Live → Checked = λ x. record { state = record { vars = c.self.inside.vars; last = c.self.inside.last; live = x }; clauses_left = c.self.inside.clauses_left; literals_left = c.self.inside.literals_left } in
    ap f (ap (live_of c.self.inside.lits.items) items ∙ live_of-dead c.self.inside.lits.items old c.args.ids.now)
    ∙ ap (λ s. without_clauses s c.args.ids.now) c.self.view_is
