-- Where the code leaves at a part that stops: the whole comes to the same.
use Rattle.std.proofs.Common.{◌≡◌, List, [], Ok, Err, ap, sym, ◌∙◌, subst}
use Rattle.hk_lrat.specs.declared.log.LratRow.{LratRow}
use Rattle.hk_inst.specs.declared.instance.Instance.{Instance}
use Rattle.hk_proof.specs.declared.Proof.{Proof}
use Rattle.hk_cert_text.specs.declared.entry.Entry.{Entry}
use Rattle.hk_cert.specs.declared.fault.CertStop.{CertStop}
use Rattle.hk_cert.specs.declared.fault.CertStop.TheVariants.{Refused, Memory}
use Rattle.hk_cert.specs.Steps.{Place, Reading, and_then, Gives, FailsAs}
use Rattle.hk_cert.specs.Reading.{refuted, ended, whole}
use Rattle.hk_cert.proofs.Taking.{gives_err, then_err, then_ok}
use Rattle.hk_cert_read.specs.Whole.{Reads}

pub exit_then : {A B C D : Type 0} (view : A → B) (other : C → D) (why : CertStop) (part : Reading B) (next : B → Place → Reading D) → Gives view (Err why) part → Gives other (Err why) (and_then part next)
exit_then view other why part next = gives_err view other why part (and_then part next) (λ f e. then_err part next f e)

pub exit_same : {A B : Type 0} (view : A → B) (why : CertStop) (part all : Reading B) → part ≡ all → Gives view (Err why) part → Gives view (Err why) all
exit_same view why part all is = gives_err view view why part all (λ f e. sym is ∙ e)

pub exit_refuted : {A C : Type 0} (view : A → List LratRow) (other : C → Proof) (why : CertStop) (instances : List Instance) (part : Reading (List LratRow)) → Gives view (Err why) part → Gives other (Err why) (refuted instances part)
exit_refuted view other why instances part = gives_err view other why part (refuted instances part) (λ f e. ap (refuted instances) e)

pub exit_fails : {A B : Type 0} (view : A → B) (why : CertStop) (reading : Reading B) → FailsAs why reading → Gives view (Err why) reading
exit_fails view (Refused f) reading h = h
exit_fails view Memory reading h = tt

pub fails_same : {B : Type 0} (why : CertStop) (part all : Reading B) → part ≡ all → FailsAs why part → FailsAs why all
fails_same why part all is h = subst (FailsAs why) is h

pub exit_whole : {A : Type 0} (view : A → List Entry) (why : CertStop) (part : Reading (List Entry)) → Gives view (Err why) part → Reads (Err why) (whole part)
exit_whole view (Refused f) part is = ap whole is
exit_whole view Memory part is = tt

-- ---- a part of a reader that goes on from part to part, where what is left comes to the same as the whole

pub next_ok : {A B : Type 0} (all : Reading B) (part : Reading A) (next : A → Place → Reading B) (x : A) (q : Place) → all ≡ and_then part next → part ≡ Ok (x, q) → all ≡ next x q
next_ok all part next x q is said = is ∙ ap (λ r. and_then r next) said

pub next_err : {A B C D : Type 0} (view : A → B) (other : C → D) (why : CertStop) (part : Reading B) (next : B → Place → Reading D) (all start : Reading D) → all ≡ and_then part next → all ≡ start
    → Gives view (Err why) part → Gives other (Err why) start
next_err view other why part next all start is same = gives_err view other why part start (λ f e. sym same ∙ (is ∙ ap (λ r. and_then r next) e))

-- the second of two parts
pub exit_second : {A B C D : Type 0} (view : A → B) (other : C → D) (why : CertStop) {E : Type 0} (first : Reading E) (rest : E → Place → Reading D) (x : E) (q : Place) (part : Reading B) (next : B → Place → Reading D)
    → first ≡ Ok (x, q) → rest x q ≡ and_then part next → Gives view (Err why) part → Gives other (Err why) (and_then first rest)
exit_second view other why first rest x q part next is same h =
    exit_same other why (and_then part next) (and_then first rest) (sym (then_ok first rest x q is ∙ same)) (exit_then view other why part next h)

-- the whole, where a line stands behind its last one, and where none does
pub whole_more : (why : CertStop) (part : Reading (List Entry)) (entries : List Entry) (q : Place) → part ≡ Ok (entries, q) → Reads (Err why) (ended entries q.next q.lines) → Reads (Err why) (whole part)
whole_more why part entries q is h = subst (Reads (Err why)) (sym (ap whole is)) h

pub whole_done : (part : Reading (List Entry)) (entries : List Entry) (q : Place) → part ≡ Ok (entries, q) → q.lines ≡ [] → whole part ≡ Ok entries
whole_done part entries q is none = ap whole is ∙ ap (ended entries q.next) none
