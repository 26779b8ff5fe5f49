use Rattle.std.proofs.Common.{lit≤}
use Rattle.spec_tree.specs.View.{view_spec}
use Rattle.spec_tree.proofs.Keeping.{state_has}
use Rattle.hk_symspec.proofs.LineLaws.{framed}
use Rattle.hk_symspec.proofs.lines.line_term.Goals as goal

pub term_of-requires-clause-over : goal.term_of-requires-clause-over
term_of-requires-clause-over g c = (c.requires.spec, c.requires.point.read)

pub term_of-requires-clause-names : goal.term_of-requires-clause-names
term_of-requires-clause-names g c = c.requires.point.names

pub term_of-requires-clause-ids : goal.term_of-requires-clause-ids
term_of-requires-clause-ids g c = lit≤ tt

pub term_of-requires-clause-fields : goal.term_of-requires-clause-fields
term_of-requires-clause-fields g c = (state_has (view_spec c.args.setting.now.spec.now) c.requires.spec).fields

pub term_of-requires-clause-objects : goal.term_of-requires-clause-objects
term_of-requires-clause-objects g c = c.objects_are_small-objects.ensures

pub term_of-requires-clause-sorted : goal.term_of-requires-clause-sorted
term_of-requires-clause-sorted g c = c.requires.sorted

pub returns-in_err-made-clause-keeps : goal.returns-in_err-made-clause-keeps
returns-in_err-made-clause-keeps g c =
    framed c.args.t.now c.term_of.new.t c.term_of.ensures.longer c.term_of.ensures.keeps_widths c.term_of.ensures.keeps_values c.term_of.ensures.grows

pub returns-clause-within : goal.returns-clause-within
returns-clause-within g c = c.in_ok-made.ensures.within

pub returns-clause-width : goal.returns-clause-width
returns-clause-width g c = c.in_ok-made.ensures.width

pub returns-clause-value : goal.returns-clause-value
returns-clause-value g c = c.in_ok-made.ensures.value

pub returns-clause-keeps : goal.returns-clause-keeps
returns-clause-keeps g c =
    framed c.args.t.now c.term_of.new.t c.term_of.ensures.longer c.term_of.ensures.keeps_widths c.term_of.ensures.keeps_values c.term_of.ensures.grows

pub returns-clause-point : goal.returns-clause-point
returns-clause-point g c =
    c.lasting.ensures.point c.term_of.new.t
    (framed c.args.t.now c.term_of.new.t c.term_of.ensures.longer c.term_of.ensures.keeps_widths c.term_of.ensures.keeps_values c.term_of.ensures.grows)

pub returns-clause-reads : goal.returns-clause-reads
returns-clause-reads g c =
    c.lasting.ensures.reads c.term_of.new.t
    (framed c.args.t.now c.term_of.new.t c.term_of.ensures.longer c.term_of.ensures.keeps_widths c.term_of.ensures.keeps_values c.term_of.ensures.grows)
