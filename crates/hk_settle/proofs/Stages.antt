-- A question grows over any number of instances, and its clauses with it.
use Rattle.std.proofs.Common.{◌≡◌, ℕ, ◌-◌, ◌<◌, ◌++◌, List, length, drop, All, sym, ◌∙◌, ap, subst}
use Rattle.std.specs.Prelude.{slice_index_or}
use Rattle.std.proofs.lemmas.List.{take-append-drop, length-drop}
use Rattle.hk_cnf.specs.Clauses.{Clauses}
use Rattle.hk_cnf.proofs.FrontLaws.{IsFront-trans}
use Rattle.hk_lrat.specs.Raised.{IsLonger}
use Rattle.hk_inst.specs.declared.instance.Instance.{Instance}
use Rattle.hk_inst.specs.Truths.{IsInstance}
use Rattle.hk_inst.specs.Questions.{Asked}
use Rattle.hk_inst.specs.Adding.{Lengthened}
use Rattle.hk_inst.proofs.Lengthening.{longer-trans, grows-trans}
use Rattle.hk_inst.proofs.LaterNames.{names-later}
use Rattle.hk_settle.specs.Answers.{clauses_of}

pub lengthened-trans : (a b c : Asked) → Lengthened a b → Lengthened b c → Lengthened a c
lengthened-trans a b c f g = record {
  nodes = grows-trans a.nodes b.nodes c.nodes f.nodes g.nodes;
  goal = g.goal ∙ f.goal;
  circuit = IsFront-trans a.circuit b.circuit c.circuit f.circuit g.circuit;
  words = longer-trans a.table.words b.table.words c.table.words f.words g.words;
  reads = longer-trans a.table.reads b.table.reads c.table.reads f.reads g.reads;
  quantifiers = longer-trans a.table.quantifiers b.table.quantifiers c.table.quantifiers f.quantifiers g.quantifiers;
  openings = longer-trans a.table.openings b.table.openings c.table.openings f.openings g.openings;
  instances = longer-trans a.instances b.instances c.instances f.instances g.instances;
  demands = longer-trans a.demands b.demands c.demands f.demands g.demands;
}

-- the clauses that stood before are the first ones
pub longer-clauses : (q p : Asked) → Lengthened q p → IsLonger (clauses_of q) (clauses_of p) (length p.circuit.clauses - length q.circuit.clauses)
longer-clauses q p h = record {
  more = drop (length q.circuit.clauses) p.circuit.clauses;
  is = sym (take-append-drop (length q.circuit.clauses) p.circuit.clauses) ∙ ap (λ l. l ++ drop (length q.circuit.clauses) p.circuit.clauses) h.circuit.clauses;
  count = length-drop (length q.circuit.clauses) p.circuit.clauses;
  vars = h.circuit.vars;
}

-- for lists that are these
pub longer-lists : (q p : Asked) (list longer : Clauses) → Lengthened q p → list ≡ clauses_of q → longer ≡ clauses_of p → IsLonger list longer (length longer.clauses - length list.clauses)
longer-lists q p list longer h e f =
    subst (λ (l : Clauses). IsLonger l longer (length longer.clauses - length l.clauses)) (sym e)
    (subst (λ (l : Clauses). IsLonger (clauses_of q) l (length l.clauses - length q.circuit.clauses)) (sym f) (longer-clauses q p h))

-- an instance of a list names what it speaks of also later
pub named-later : (q p : Asked) (found items : List Instance) (k : ℕ) (item copy : Instance) → Lengthened q p → All (IsInstance q.nodes q.table) found → items ≡ found → k < length items → item ≡ slice_index_or items k item → copy ≡ item → IsInstance p.nodes p.table copy
named-later q p found items k item copy l named same inside is copied =
    names-later q p copy l (subst (λ (i : Instance). IsInstance q.nodes q.table i) (sym (copied ∙ is))
    (subst (All (IsInstance q.nodes q.table)) (sym same) named k item inside))
