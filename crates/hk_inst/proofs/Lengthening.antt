-- What stood before stays at the front, over any number of steps.
use Rattle.std.proofs.Common.{◌≡◌, ℕ, ◌≤◌, ◌++◌, List, [], length, take, refl, sym, ◌∙◌, ap, arith}
use Rattle.std.proofs.lemmas.List.{append_assoc, append-nil, length-append}
use Rattle.std.proofs.Math.Seq.{take-append_seam}
use Rattle.hk_term.specs.Shape.{Grows}
use Rattle.hk_term.specs.declared.node.Node.{Node}
use Rattle.hk_copy.proofs.StepLaws.{grows-refl}
use Rattle.hk_cnf.specs.Circuit.{Circuit}
use Rattle.hk_cnf.specs.CircuitParts.{IsCircuit}
use Rattle.hk_cnf.specs.Front.{IsFront, CanCut}
use Rattle.hk_cnf.proofs.FrontLaws.{IsFront-refl, IsFront-trans, can-cut-at}
use Rattle.hk_blast.specs.Blasted.{Words, Lengthens}
use Rattle.hk_inst.specs.declared.instance.Instance.{Instance}
use Rattle.hk_inst.specs.declared.opening.Opening.{Opening}
use Rattle.hk_inst.specs.Questions.{Asked}
use Rattle.hk_inst.specs.declared.undo.Sizes.{Sizes}
use Rattle.hk_inst.specs.Adding.{IsLonger, Lengthened, AreSizes, WasSized}

pub longer-refl : {X : Type 0} (xs : List X) → IsLonger xs xs
longer-refl xs = ([], sym (append-nil xs))

pub longer-trans : {X : Type 0} (xs ys zs : List X) → IsLonger xs ys → IsLonger ys zs → IsLonger xs zs
longer-trans xs ys zs a b = (a.0 ++ b.0, b.1 ∙ ap (λ l. l ++ b.0) a.1 ∙ append_assoc xs a.0 b.0)

pub grows-trans : (xs ys zs : List Node) → Grows xs ys → Grows ys zs → Grows xs zs
grows-trans xs ys zs a b = record { more = a.more ++ b.more; is = b.is ∙ ap (λ l. l ++ b.more) a.is ∙ append_assoc xs a.more b.more }

pub lengthened-refl : (q : Asked) → Lengthened q q
lengthened-refl q = record {
  nodes = grows-refl q.nodes;
  goal = refl;
  circuit = IsFront-refl q.circuit;
  words = longer-refl q.table.words;
  reads = longer-refl q.table.reads;
  quantifiers = longer-refl q.table.quantifiers;
  openings = longer-refl q.table.openings;
  instances = longer-refl q.instances;
  demands = longer-refl q.demands;
}

-- more terms, gates, words and openings
pub ahead : (q p : Asked) → Lengthened q p → (nodes : List Node) (d : Circuit) (words : Words) (os : List Opening) → Grows p.nodes nodes → IsFront p.circuit d → IsLonger p.table.words words → IsLonger p.table.openings os
    → Lengthened q (record { nodes = nodes; goal = p.goal; circuit = d; table = record { words = words; reads = p.table.reads; quantifiers = p.table.quantifiers; openings = os }; instances = p.instances; demands = p.demands })
ahead q p h nodes d words os g f w o = record {
  nodes = grows-trans q.nodes p.nodes nodes h.nodes g;
  goal = h.goal;
  circuit = IsFront-trans q.circuit p.circuit d h.circuit f;
  words = longer-trans q.table.words p.table.words words h.words w;
  reads = h.reads;
  quantifiers = h.quantifiers;
  openings = longer-trans q.table.openings p.table.openings os h.openings o;
  instances = h.instances;
  demands = h.demands;
}

pub longer-words : (nodes : List Node) (first : ℕ) (old new : Words) → Lengthens nodes first old new → IsLonger old new
longer-words nodes first old new h = (h.more, h.is)

-- more reads, quantifiers, instances and demands
pub beside : (q p : Asked) → Lengthened q p → (rs qs : List ℕ) (is : List Instance) (ds : List ℕ) → IsLonger p.table.reads rs → IsLonger p.table.quantifiers qs → IsLonger p.instances is → IsLonger p.demands ds
    → Lengthened q (record { nodes = p.nodes; goal = p.goal; circuit = p.circuit; table = record { words = p.table.words; reads = rs; quantifiers = qs; openings = p.table.openings }; instances = is; demands = ds })
beside q p h rs qs is ds a b e f = record {
  nodes = h.nodes;
  goal = h.goal;
  circuit = h.circuit;
  words = h.words;
  reads = longer-trans q.table.reads p.table.reads rs h.reads a;
  quantifiers = longer-trans q.table.quantifiers p.table.quantifiers qs h.quantifiers b;
  openings = h.openings;
  instances = longer-trans q.instances p.instances is h.instances e;
  demands = longer-trans q.demands p.demands ds h.demands f;
}

-- what is cut back to what stood before is that
pub taken : {X : Type 0} (xs ys : List X) (n : ℕ) → IsLonger xs ys → n ≡ length xs → take n ys ≡ xs
taken xs ys n h e = ap (λ k. take k ys) e ∙ ap (take (length xs)) h.1 ∙ take-append_seam xs h.0

pub nothing-more : {X : Type 0} (xs ys : List X) → ys ≡ xs → IsLonger xs ys
nothing-more xs ys e = ([], e ∙ sym (append-nil xs))

pub ahead-added : (q p : Asked) → Lengthened q p → (nodes : List Node) (d : Circuit) (words : Words) (is : List Instance) (ds : List ℕ) → Grows p.nodes nodes → IsFront p.circuit d → IsLonger p.table.words words → IsLonger p.instances is → IsLonger p.demands ds
    → Lengthened q (record { nodes = nodes; goal = p.goal; circuit = d; table = record { words = words; reads = p.table.reads; quantifiers = p.table.quantifiers; openings = p.table.openings }; instances = is; demands = ds })
ahead-added q p h nodes d words is ds g f w a b = record {
  nodes = grows-trans q.nodes p.nodes nodes h.nodes g;
  goal = h.goal;
  circuit = IsFront-trans q.circuit p.circuit d h.circuit f;
  words = longer-trans q.table.words p.table.words words h.words w;
  reads = h.reads;
  quantifiers = h.quantifiers;
  openings = h.openings;
  instances = longer-trans q.instances p.instances is h.instances a;
  demands = longer-trans q.demands p.demands ds h.demands b;
}

pub longer-length : {X : Type 0} (xs ys : List X) (n : ℕ) → IsLonger xs ys → n ≡ length xs → n ≤ length ys
longer-length xs ys n h e = omega (arith, e, ap length h.1, length-append xs h.0)

-- what stood before, part by part
pub cut-back : (q p : Asked) (next : ℕ) (z : Sizes) → Lengthened q p → AreSizes q next z → (nodes : List Node) (d : Circuit) (words : Words) (rs qs : List ℕ) (os : List Opening) (is : List Instance) (ds : List ℕ) → nodes ≡ take z.terms p.nodes
    → ((c : Circuit) → IsFront c p.circuit → z.gates.vars ≡ c.vars → z.gates.clauses ≡ length c.clauses → z.gates.gates ≡ length c.gates → d ≡ c)
    → words ≡ take z.bits p.table.words → rs ≡ take z.reads p.table.reads → qs ≡ take z.quantifiers p.table.quantifiers → os ≡ take z.openings p.table.openings → is ≡ take z.instances p.instances → ds ≡ take z.demands p.demands
    → ◌≡◌ {A = Asked} (record { nodes = nodes; goal = p.goal; circuit = d; table = record { words = words; reads = rs; quantifiers = qs; openings = os }; instances = is; demands = ds }) q
cut-back q p next z l s nodes d words rs qs os is ds a b c e f g h k = λ n. record {
  nodes = (a ∙ taken q.nodes p.nodes z.terms (l.nodes.more, l.nodes.is) s.terms) n;
  goal = l.goal n;
  circuit = b q.circuit l.circuit s.vars s.clauses s.gates n;
  table = record {
    words = (c ∙ taken q.table.words p.table.words z.bits l.words s.bits) n;
    reads = (e ∙ taken q.table.reads p.table.reads z.reads l.reads s.reads) n;
    quantifiers = (f ∙ taken q.table.quantifiers p.table.quantifiers z.quantifiers l.quantifiers s.quantifiers) n;
    openings = (g ∙ taken q.table.openings p.table.openings z.openings l.openings s.openings) n;
  };
  instances = (h ∙ taken q.instances p.instances z.instances l.instances s.instances) n;
  demands = (k ∙ taken q.demands p.demands z.demands l.demands s.demands) n;
}

pub can-cut-back : (p : Asked) (z : Sizes) → WasSized p z → IsCircuit p.circuit → CanCut z.gates.vars z.gates.clauses z.gates.gates p.circuit
can-cut-back p z w h = can-cut-at w.before.circuit p.circuit z.gates.vars z.gates.clauses z.gates.gates w.circuit h w.front.circuit w.sizes.vars w.sizes.clauses w.sizes.gates
