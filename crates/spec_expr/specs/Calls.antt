-- What a call of the code is, as the definitions have it.
use Rattle.spec_expr.specs.Spelling.{Head, negation, resized, each_of, some_of}
use Rattle.spec_expr.specs.Reading as definition
use Rattle.spec_expr.specs.Reading.{CallKind, HeadKind}
use Rattle.spec_expr.specs.declared.call.Callee as code
use Rattle.spec_expr.specs.declared.call.Callee.TheVariants.{And, Or, Pair, If, BitVecVal, Headed}
use Rattle.spec_expr.specs.declared.call.HeadKind as kind
use Rattle.spec_expr.specs.declared.call.HeadKind.TheVariants as kinds
use Rattle.spec_expr.specs.declared.call.Head as head
use Rattle.spec_expr.specs.declared.call.Head.TheVariants as heads

abbrev pub head_kind_of : kind.HeadKind → HeadKind
head_kind_of kinds.Not = definition.negated
head_kind_of kinds.ZeroExt = definition.widened
head_kind_of kinds.SignExt = definition.sign_widened
head_kind_of kinds.Extract = definition.cut
head_kind_of kinds.ForAll = definition.every
head_kind_of kinds.Exists = definition.any

abbrev pub callee_of : code.Callee → CallKind
callee_of And = definition.conjunction
callee_of Or = definition.disjunction
callee_of (Pair operator) = definition.pair operator
callee_of If = definition.choice
callee_of BitVecVal = definition.fixed
callee_of (Headed which) = definition.headed (head_kind_of which)

abbrev pub head_of : head.Head → Head
head_of heads.Not = negation
head_of (heads.Resize change) = resized change
head_of (heads.ForAll names) = each_of names
head_of (heads.Exists names) = some_of names
