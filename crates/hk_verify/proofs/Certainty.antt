-- From what an answer means to the headline: the verdict at a handler's place is right for that handler.

use Rattle.std.proofs.Common.{ℕ, zero, suc, ◌≡◌, ◌<◌, ◌≤◌, ◌^◌, ◌⊎◌, inl, inr, List, [], ◌∷◌, ◌++◌, Option, None, Some, unwrap_or, slice_get, codes, refl, ap, sym, ◌∙◌, subst, arith}
use Rattle.std.specs.List.{AllZip}
use Rattle.std.proofs.lemmas.List.{append_assoc, append-nil}
use Rattle.std.proofs.lemmas.Fmt.{decimal_injective}
use Rattle.hk_io.specs.Held.{Files, held_under}
use Rattle.ir_ast.specs.Program.{ModuleView}
use Rattle.ir_read.specs.Spelling.{IsModuleText}
use Rattle.ir_layout.specs.Layouts.{LayoutView}
use Rattle.spec_tree.specs.Plain.{Spec, Transition}
use Rattle.hk_verdict.specs.declared.verdict.Verdict.{Verdict}
use Rattle.hk_verdict.specs.declared.verdict.Verdict.TheVariants.{Accepted, Rejected, Unknown}
use Rattle.hk_verify.specs.declared.answer.Answer.{Answer}
use Rattle.hk_verify.specs.declared.answer.TopFault.{TopFault}
use Rattle.hk_verify.specs.declared.answer.TopFault.TheVariants.{Usage, Read, Long, Kernel as OfKernel, Spec as OfSpec, Cert as OfCert, Cnf as OfCnf, Call as OfCall, Memory, Write}
use Rattle.hk_verify.specs.Specifications.{IsSpecText}
use Rattle.hk_verify.specs.Words.{AllowConflicts, IsCertifying, IsVerification, IsVerify, most_conflicts}
use Rattle.hk_verify.specs.Certified.{CertifiesWith, IsProved, MeansCertified, SavingView}
use Rattle.hk_verify.specs.Inputs.{Asked, ShelfView, IsLoaded, AreRead, asked, kernel_limit, spec_limit}
use Rattle.hk_verify.specs.Verdicts.{AreCut, IsRightFor}
use Rattle.hk_verify.specs.Answers.{SinkView, Means, ReportsWith}
use Rattle.hk_verify.specs.Headline.{IsHandler, AcceptsCorrect, RejectsRefuted, UnknownsSpent}
use Rattle.hk_verify.proofs.Right.{AllZip-snoc}

-- What is there is one thing.
pub some_is : {A : Type 0} {x y : A} → Some x ≡ Some y → x ≡ y
some_is {x = x} same = ap (λ o. unwrap_or o x) same

-- The relation holds at each place that both lists have, also where the first goes on.
at_place : {A B : Type 0} (R : A → B → Type 0) (xs more : List A) (ys : List B) (h : ℕ) (x : A) (y : B)
    → AllZip R xs ys → slice_get (xs ++ more) h ≡ Some x → slice_get ys h ≡ Some y → R x y
at_place R (a ∷ xs) more (b ∷ ys) zero x y all there here =
    subst (λ v. R v y) (some_is there) (subst (R a) (some_is here) all.0)
at_place R (a ∷ xs) more (b ∷ ys) (suc h) x y all there here = at_place R xs more ys h x y all.1 there here
at_place R [] more [] h x y all there here = cc
at_place R [] more (b ∷ ys) h x y all there here = absurd all
at_place R (a ∷ xs) more [] h x y all there here = absurd all

nothing_there : {A : Type 0} (xs : List A) (h : ℕ) (x : A) → xs ≡ [] → slice_get xs h ≡ Some x → ⊥
nothing_there [] h x empty there = cc
nothing_there (a ∷ xs) h x empty there = cc

-- Verdicts that were reported are right.
of_cut : (budget : ℕ) (m : ModuleView) (spec : Spec) (verdicts : List Verdict) (shown shown' : Option (List ℕ)) (h : ℕ) (t : Transition) (v : Verdict)
    → AreCut budget m spec verdicts shown shown' → slice_get spec.transitions h ≡ Some t → slice_get verdicts h ≡ Some v → IsRightFor budget m spec t v
of_cut budget m spec verdicts shown shown' h t v cut there here =
    let parts : (cut.before ++ cut.failed ∷ []) ++ cut.behind ≡ spec.transitions = append_assoc cut.before (cut.failed ∷ []) cut.behind ∙ sym cut.handlers in
    at_place (IsRightFor budget m spec) (cut.before ++ cut.failed ∷ []) cut.behind (cut.front ++ cut.last ∷ []) h t v
    (AllZip-snoc (IsRightFor budget m spec) cut.before cut.front cut.failed cut.last cut.right cut.right_last)
    (subst (λ ts. slice_get ts h ≡ Some t) (sym parts) there)
    (subst (λ vs. slice_get vs h ≡ Some v) cut.parts here)

of_report : (sink : SinkView) (budget : ℕ) (m : ModuleView) (spec : Spec) (answer : Answer) (fault : Option TopFault) (h : ℕ) (t : Transition) (v : Verdict)
    → ReportsWith sink budget m spec answer fault → slice_get spec.transitions h ≡ Some t → slice_get answer.verdicts h ≡ Some v → IsRightFor budget m spec t v
of_report sink budget m spec answer None h t v whole there here =
    at_place (IsRightFor budget m spec) spec.transitions [] answer.verdicts h t v whole.right (subst (λ ts. slice_get ts h ≡ Some t) (sym (append-nil spec.transitions)) there) here
of_report sink budget m spec answer (Some Write) h t v cut there here =
    elim cut.shown as (λ _. IsRightFor budget m spec t v) [ inl opening ↦ absurd (nothing_there answer.verdicts h v opening.none here) | inr last ↦ of_cut budget m spec answer.verdicts _ _ h t v last there here ]
of_report sink budget m spec answer (Some Usage) h t v reports there here = absurd reports
of_report sink budget m spec answer (Some (Read w)) h t v reports there here = absurd reports
of_report sink budget m spec answer (Some (Long w)) h t v reports there here = absurd reports
of_report sink budget m spec answer (Some (OfKernel f)) h t v reports there here = absurd reports
of_report sink budget m spec answer (Some (OfSpec f)) h t v reports there here = absurd reports
of_report sink budget m spec answer (Some (OfCert f)) h t v reports there here = absurd reports
of_report sink budget m spec answer (Some (OfCnf f)) h t v reports there here = absurd reports
of_report sink budget m spec answer (Some (OfCall f)) h t v reports there here = absurd reports
of_report sink budget m spec answer (Some Memory) h t v reports there here = absurd reports

of_proved : (sink : SinkView) (budget : ℕ) (m : ModuleView) (spec : Spec) (answer : Answer) (h : ℕ) (t : Transition) (v : Verdict)
    → IsProved sink budget m spec answer → slice_get spec.transitions h ≡ Some t → slice_get answer.verdicts h ≡ Some v → IsRightFor budget m spec t v
of_proved sink budget m spec answer h t v proved there here =
    at_place (IsRightFor budget m spec) spec.transitions [] answer.verdicts h t v proved.right (subst (λ ts. slice_get ts h ≡ Some t) (sym (append-nil spec.transitions)) there) here

of_certificate : (shelf : SavingView) (sink : SinkView) (budget : ℕ) (m : ModuleView) (spec : Spec) (cert : List ℕ) (answer : Answer) (fault : Option TopFault) (h : ℕ) (t : Transition) (v : Verdict)
    → CertifiesWith shelf sink budget m spec cert answer fault → slice_get spec.transitions h ≡ Some t → slice_get answer.verdicts h ≡ Some v → IsRightFor budget m spec t v
of_certificate shelf sink budget m spec cert answer None h t v whole there here = of_proved sink budget m spec answer h t v whole.proved there here
of_certificate shelf sink budget m spec cert answer (Some Write) h t v (inl report) there here = of_report sink budget m spec answer (Some Write) h t v report.cut there here
of_certificate shelf sink budget m spec cert answer (Some Write) h t v (inr save) there here = of_proved sink budget m spec answer h t v save.proved there here
of_certificate shelf sink budget m spec cert answer (Some Memory) h t v wanting there here = of_proved sink budget m spec answer h t v wanting.proved there here
of_certificate shelf sink budget m spec cert answer (Some Usage) h t v reports there here = absurd reports
of_certificate shelf sink budget m spec cert answer (Some (Read w)) h t v reports there here = absurd reports
of_certificate shelf sink budget m spec cert answer (Some (Long w)) h t v reports there here = absurd reports
of_certificate shelf sink budget m spec cert answer (Some (OfKernel f)) h t v reports there here = absurd reports
of_certificate shelf sink budget m spec cert answer (Some (OfSpec f)) h t v reports there here = absurd reports
of_certificate shelf sink budget m spec cert answer (Some (OfCert f)) h t v reports there here = absurd reports
of_certificate shelf sink budget m spec cert answer (Some (OfCnf f)) h t v reports there here = absurd reports
of_certificate shelf sink budget m spec cert answer (Some (OfCall f)) h t v reports there here = absurd reports

-- The text that was loaded is the one that is held.
pub same_text : (held : Option Files) (file : Asked) (text loaded : List ℕ) → IsLoaded held file loaded → held_under held file.name ≡ Some text → loaded ≡ text
same_text None file text loaded load there = cc
same_text (Some files) file text loaded load there = some_is (sym (load.told refl) ∙ there)

-- The words name two files and options.
second : List (List ℕ) → List ℕ
second (a ∷ b ∷ words) = b
second (a ∷ []) = []
second [] = []

third : List (List ℕ) → List ℕ
third (a ∷ b ∷ c ∷ words) = c
third (a ∷ b ∷ []) = []
third (a ∷ []) = []
third [] = []

behind : List (List ℕ) → List (List ℕ)
behind (a ∷ b ∷ c ∷ words) = words
behind (a ∷ b ∷ []) = []
behind (a ∷ []) = []
behind [] = []

-- What stands behind the names, and what of it allows conflicts.
record Named (words : List (List ℕ)) (kernel spec : List ℕ) (budget : ℕ) : Type 0 where
  front : List (List ℕ)
  behind : List (List ℕ)
  form : words ≡ codes "verify" ∷ kernel ∷ spec ∷ (front ++ behind)
  allowed : AllowConflicts front budget
  is_behind : (behind ≡ []) ⊎ ((cert : List ℕ) × (behind ≡ codes "--cert" ∷ cert ∷ []))

named : (words : List (List ℕ)) (k s : List ℕ) (n : ℕ) → IsVerification words k s n → Named words k s n
named words k s n (inl one) = record { front = one.options; behind = []; form = one.form ∙ ap (λ os. codes "verify" ∷ k ∷ s ∷ os) (sym (append-nil one.options)); allowed = one.allowed; is_behind = inl refl }
named words k s n (inr one) = record {
  front = one.1.asked.front;
  behind = codes "--cert" ∷ one.0 ∷ [];
  form = one.1.form ∙ ap (λ os. codes "verify" ∷ k ∷ s ∷ os) one.1.asked.form;
  allowed = one.1.asked.allowed;
  is_behind = inr (one.0, refl);
}

pub same_kernel : (words : List (List ℕ)) (k s k' s' : List ℕ) (n n' : ℕ) → IsVerification words k s n → IsVerification words k' s' n' → k ≡ k'
unfolding second
same_kernel words k s k' s' n n' one other = ap second (sym (named words k s n one).form ∙ (named words k' s' n' other).form)

pub same_spec : (words : List (List ℕ)) (k s k' s' : List ℕ) (n n' : ℕ) → IsVerification words k s n → IsVerification words k' s' n' → s ≡ s'
unfolding third
same_spec words k s k' s' n n' one other = ap third (sym (named words k s n one).form ∙ (named words k' s' n' other).form)

-- Options allow one number of conflicts.
small : (n : ℕ) → n ≤ most_conflicts → n < 2 ^ 64
small n most = omega (arith, most)

none_named : {A : Type 0} {x : A} {xs : List A} → [] ≡ x ∷ xs → ⊥
none_named same = cc

first : List (List ℕ) → List ℕ
first (a ∷ words) = a
first [] = []

other_option : codes "--cert" ≡ codes "--conflicts" → ⊥
other_option same = cc

no_conflicts : (behind rest : List (List ℕ)) → (behind ≡ []) ⊎ ((cert : List ℕ) × (behind ≡ codes "--cert" ∷ cert ∷ [])) → behind ≡ codes "--conflicts" ∷ rest → ⊥
unfolding first
no_conflicts behind rest (inl none) same = none_named (sym none ∙ same)
no_conflicts behind rest (inr cert) same = other_option (ap first (sym cert.1 ∙ same))

one_number : (front front' behind behind' : List (List ℕ)) (n n' : ℕ) → front ++ behind ≡ front' ++ behind' → AllowConflicts front n → AllowConflicts front' n'
    → (behind ≡ []) ⊎ ((cert : List ℕ) × (behind ≡ codes "--cert" ∷ cert ∷ [])) → (behind' ≡ []) ⊎ ((cert : List ℕ) × (behind' ≡ codes "--cert" ∷ cert ∷ [])) → n ≡ n'
unfolding second
one_number front front' behind behind' n n' same (inl none) (inl none') is is' = none.1 ∙ sym none'.1
one_number front front' behind behind' n n' same (inl none) (inr named) is is' =
    absurd (no_conflicts behind _ is (sym (ap (λ f. f ++ behind) none.0) ∙ same ∙ ap (λ f. f ++ behind') named.form))
one_number front front' behind behind' n n' same (inr named) (inl none) is is' =
    absurd (no_conflicts behind' _ is' (sym (ap (λ f. f ++ behind') none.0) ∙ sym same ∙ ap (λ f. f ++ behind) named.form))
one_number front front' behind behind' n n' same (inr named) (inr named') is is' =
    decimal_injective n n' (small n named.most) (small n' named'.most) (ap second (sym (ap (λ f. f ++ behind) named.form) ∙ same ∙ ap (λ f. f ++ behind') named'.form))

pub same_conflicts : (words : List (List ℕ)) (k s k' s' : List ℕ) (n n' : ℕ) → IsVerification words k s n → IsVerification words k' s' n' → n ≡ n'
unfolding behind
same_conflicts words k s k' s' n n' one other =
    let here = named words k s n one in
    let there = named words k' s' n' other in
    one_number here.front there.front here.behind there.behind n n' (ap behind (sym here.form ∙ there.form)) here.allowed there.allowed here.is_behind there.is_behind

-- The kernel and the specification that were read are those that the held texts spell.
of_read : (held : Option Files) (words : List (List ℕ)) (kernel_name spec_name : List ℕ) (conflicts budget : ℕ) (m other : ModuleView) (layout : LayoutView) (spec other_spec : Spec) (h : ℕ) (t : Transition) (v : Verdict)
    → IsVerification words kernel_name spec_name conflicts → AreRead held kernel_name spec_name other other_spec → IsHandler held words budget m layout spec h t
    → (slice_get other_spec.transitions h ≡ Some t → IsRightFor conflicts other other_spec t v) → IsRightFor budget m spec t v
of_read held words kernel_name spec_name conflicts budget m other layout spec other_spec h t v form read handler right =
    let same_k : handler.kernel_name ≡ kernel_name = same_kernel words _ _ _ _ _ _ handler.form form in
    let same_s : handler.spec_name ≡ spec_name = same_spec words _ _ _ _ _ _ handler.form form in
    let same_n : conflicts ≡ budget = same_conflicts words _ _ _ _ _ _ form handler.form in
    let kernel_text : read.kernel_text ≡ handler.kernel_text = same_text held (asked 1 kernel_name kernel_limit) handler.kernel_text read.kernel_text read.loaded.0
    (subst (λ n. held_under held n ≡ Some handler.kernel_text) same_k handler.kernel_held) in
    let spec_text : read.spec_text ≡ handler.spec_text = same_text held (asked 2 spec_name spec_limit) handler.spec_text read.spec_text read.loaded.1.0
    (subst (λ n. held_under held n ≡ Some handler.spec_text) same_s handler.spec_held) in
    let is_kernel : m ≡ other = read.the_kernel.only m (subst (λ text. IsModuleText text m) (sym kernel_text) handler.kernel_spelled.spelled) in
    let is_spec : spec ≡ other_spec = read.the_spec.only spec (subst (λ k. IsSpecText k read.spec_text spec) is_kernel
    (subst (λ text. IsSpecText m text spec) (sym spec_text) handler.spec_spelled)) in
    let there = subst (λ s. slice_get s.transitions h ≡ Some t) is_spec handler.there in
    subst (λ n. IsRightFor n m spec t v) same_n (subst (λ k. IsRightFor conflicts k spec t v) (sym is_kernel) (subst (λ s. IsRightFor conflicts other s t v) (sym is_spec) (right there)))

-- The verdict at a handler's place is right.
right_at : (shelf : ShelfView) (sink : SinkView) (words : List (List ℕ)) (kernel_name spec_name : List ℕ) (conflicts budget : ℕ) (answer : Answer) (m : ModuleView) (layout : LayoutView) (spec : Spec) (h : ℕ) (t : Transition) (v : Verdict)
    → IsVerification words kernel_name spec_name conflicts → Means shelf sink words kernel_name spec_name conflicts answer → IsHandler shelf.held words budget m layout spec h t
    → slice_get answer.verdicts h ≡ Some v → IsRightFor budget m spec t v
right_at shelf sink words kernel_name spec_name conflicts budget answer m layout spec h t v form (inl reported) handler here =
    of_read shelf.held words kernel_name spec_name conflicts budget m reported.module_ layout spec reported.spec h t v form reported.read handler
    (λ there. of_report sink conflicts reported.module_ reported.spec answer answer.fault h t v reported.reports there here)
right_at shelf sink words kernel_name spec_name conflicts budget answer m layout spec h t v form (inr ended) handler here =
    absurd (nothing_there answer.verdicts h v ended.refused.verdicts here)

pub accepts : (shelf : ShelfView) (sink : SinkView) (words : List (List ℕ)) (kernel_name spec_name : List ℕ) (conflicts : ℕ) (answer : Answer)
    → IsVerification words kernel_name spec_name conflicts → Means shelf sink words kernel_name spec_name conflicts answer → AcceptsCorrect shelf.held words answer
accepts shelf sink words kernel_name spec_name conflicts answer form means budget m layout spec h t proofs handler here =
    let right = right_at shelf sink words kernel_name spec_name conflicts budget answer m layout spec h t (Accepted proofs) form means handler here layout handler.laid in
    right.correct

pub rejects : (shelf : ShelfView) (sink : SinkView) (words : List (List ℕ)) (kernel_name spec_name : List ℕ) (conflicts : ℕ) (answer : Answer)
    → IsVerification words kernel_name spec_name conflicts → Means shelf sink words kernel_name spec_name conflicts answer → RejectsRefuted shelf.held words answer
rejects shelf sink words kernel_name spec_name conflicts answer form means budget m layout spec h t o c handler here =
    right_at shelf sink words kernel_name spec_name conflicts budget answer m layout spec h t (Rejected o c) form means handler here layout handler.laid

pub spends : (shelf : ShelfView) (sink : SinkView) (words : List (List ℕ)) (kernel_name spec_name : List ℕ) (conflicts : ℕ) (answer : Answer)
    → IsVerification words kernel_name spec_name conflicts → Means shelf sink words kernel_name spec_name conflicts answer → UnknownsSpent shelf.held words answer
spends shelf sink words kernel_name spec_name conflicts answer form means budget m layout spec h t o instances clauses log handler here =
    right_at shelf sink words kernel_name spec_name conflicts budget answer m layout spec h t (Unknown o instances clauses log) form means handler here layout handler.laid

-- The same of an answer with a certificate.
right_with : (shelf : SavingView) (sink : SinkView) (words : List (List ℕ)) (kernel_name spec_name : List ℕ) (conflicts budget : ℕ) (cert : List ℕ) (answer : Answer) (m : ModuleView) (layout : LayoutView) (spec : Spec) (h : ℕ) (t : Transition) (v : Verdict)
    → IsVerification words kernel_name spec_name conflicts → MeansCertified shelf sink words kernel_name spec_name conflicts cert answer → IsHandler shelf.held words budget m layout spec h t
    → slice_get answer.verdicts h ≡ Some v → IsRightFor budget m spec t v
right_with shelf sink words kernel_name spec_name conflicts budget cert answer m layout spec h t v form (inl certified) handler here =
    of_read shelf.held words kernel_name spec_name conflicts budget m certified.module_ layout spec certified.spec h t v form certified.read handler
    (λ there. of_certificate shelf sink conflicts certified.module_ certified.spec cert answer answer.fault h t v certified.certifies there here)
right_with shelf sink words kernel_name spec_name conflicts budget cert answer m layout spec h t v form (inr ended) handler here =
    absurd (nothing_there answer.verdicts h v ended.ended.refused.verdicts here)

pub accepts_with : (shelf : SavingView) (sink : SinkView) (words : List (List ℕ)) (kernel_name spec_name : List ℕ) (conflicts : ℕ) (cert : List ℕ) (answer : Answer)
    → IsVerification words kernel_name spec_name conflicts → MeansCertified shelf sink words kernel_name spec_name conflicts cert answer → AcceptsCorrect shelf.held words answer
accepts_with shelf sink words kernel_name spec_name conflicts cert answer form means budget m layout spec h t proofs handler here =
    let right = right_with shelf sink words kernel_name spec_name conflicts budget cert answer m layout spec h t (Accepted proofs) form means handler here layout handler.laid in
    right.correct

pub rejects_with : (shelf : SavingView) (sink : SinkView) (words : List (List ℕ)) (kernel_name spec_name : List ℕ) (conflicts : ℕ) (cert : List ℕ) (answer : Answer)
    → IsVerification words kernel_name spec_name conflicts → MeansCertified shelf sink words kernel_name spec_name conflicts cert answer → RejectsRefuted shelf.held words answer
rejects_with shelf sink words kernel_name spec_name conflicts cert answer form means budget m layout spec h t o c handler here =
    right_with shelf sink words kernel_name spec_name conflicts budget cert answer m layout spec h t (Rejected o c) form means handler here layout handler.laid

pub spends_with : (shelf : SavingView) (sink : SinkView) (words : List (List ℕ)) (kernel_name spec_name : List ℕ) (conflicts : ℕ) (cert : List ℕ) (answer : Answer)
    → IsVerification words kernel_name spec_name conflicts → MeansCertified shelf sink words kernel_name spec_name conflicts cert answer → UnknownsSpent shelf.held words answer
spends_with shelf sink words kernel_name spec_name conflicts cert answer form means budget m layout spec h t o instances clauses log handler here =
    right_with shelf sink words kernel_name spec_name conflicts budget cert answer m layout spec h t (Unknown o instances clauses log) form means handler here layout handler.laid

-- The words ask for one certificate.
fourth_last : List (List ℕ) → List ℕ
fourth_last [] = []
fourth_last (a ∷ []) = a
fourth_last (a ∷ b ∷ words) = fourth_last (b ∷ words)

last_of : (front : List (List ℕ)) (a b : List ℕ) → fourth_last (front ++ a ∷ b ∷ []) ≡ b
unfolding fourth_last
last_of [] a b = refl
last_of (x ∷ []) a b = refl
last_of (x ∷ y ∷ front) a b = last_of (y ∷ front) a b

pub same_cert : (words : List (List ℕ)) (k s k' s' : List ℕ) (n n' : ℕ) (c c' : List ℕ) → IsCertifying words k s n c → IsCertifying words k' s' n' c' → c ≡ c'
unfolding behind
same_cert words k s k' s' n n' c c' one other =
    sym (last_of one.asked.front (codes "--cert") c) ∙ ap fourth_last (sym one.asked.form ∙ ap behind (sym one.form ∙ other.form) ∙ other.asked.form) ∙ last_of other.asked.front (codes "--cert") c'

pub means_with : (shelf : SavingView) (sink : SinkView) (words : List (List ℕ)) (k s k' s' : List ℕ) (n n' : ℕ) (c c' : List ℕ) (answer : Answer)
    → IsCertifying words k s n c → IsCertifying words k' s' n' c' → MeansCertified shelf sink words k s n c answer → MeansCertified shelf sink words k' s' n' c' answer
means_with shelf sink words k s k' s' n n' c c' answer form form' means =
    let one : IsVerification words k s n = inr (c, form) in
    let other : IsVerification words k' s' n' = inr (c', form') in
    subst (λ cert. MeansCertified shelf sink words k' s' n' cert answer) (same_cert words k s k' s' n n' c c' form form')
    (subst (λ number. MeansCertified shelf sink words k' s' number c answer) (same_conflicts words _ _ _ _ _ _ one other)
    (subst (λ name. MeansCertified shelf sink words k' name n c answer) (same_spec words _ _ _ _ _ _ one other)
    (subst (λ name. MeansCertified shelf sink words name s n c answer) (same_kernel words _ _ _ _ _ _ one other) means)))

-- What stands behind two options.
third_on : List (List ℕ) → List (List ℕ)
third_on (a ∷ b ∷ words) = words
third_on (a ∷ []) = []
third_on [] = []

none_there : {x : List ℕ} {xs : List (List ℕ)} → x ∷ xs ≡ [] → ⊥
none_there same = cc

-- The words ask for a certificate or do not.
cert_option : (front : List (List ℕ)) (cert : List ℕ) (options : List (List ℕ)) (n n' : ℕ) → options ≡ front ++ codes "--cert" ∷ cert ∷ [] → AllowConflicts front n → AllowConflicts options n' → ⊥
unfolding first third_on
cert_option front cert options n n' form (inl none) (inl none') = none_named (sym none'.0 ∙ form ∙ ap (λ f. f ++ codes "--cert" ∷ cert ∷ []) none.0)
cert_option front cert options n n' form (inl none) (inr named) = other_option (ap first (sym (form ∙ ap (λ f. f ++ codes "--cert" ∷ cert ∷ []) none.0) ∙ named.form))
cert_option front cert options n n' form (inr named) (inl none') = none_named (sym none'.0 ∙ form ∙ ap (λ f. f ++ codes "--cert" ∷ cert ∷ []) named.form)
cert_option front cert options n n' form (inr named) (inr named') =
    none_there (ap third_on (sym (form ∙ ap (λ f. f ++ codes "--cert" ∷ cert ∷ []) named.form) ∙ named'.form))

pub not_both : (words : List (List ℕ)) (k s k' s' : List ℕ) (n n' : ℕ) (c : List ℕ) → IsCertifying words k s n c → IsVerify words k' s' n' → ⊥
unfolding behind
not_both words k s k' s' n n' c one other =
    cert_option one.asked.front c other.options n n' (ap behind (sym other.form ∙ one.form) ∙ one.asked.form) one.asked.allowed other.allowed

-- What an answer means for the names and the conflicts of the words it means for any that the words give.
pub means_for : (shelf : ShelfView) (sink : SinkView) (words : List (List ℕ)) (k s k' s' : List ℕ) (n n' : ℕ) (answer : Answer)
    → IsVerify words k s n → IsVerify words k' s' n' → Means shelf sink words k s n answer → Means shelf sink words k' s' n' answer
means_for shelf sink words k s k' s' n n' answer form form' means =
    subst (λ number. Means shelf sink words k' s' number answer) (same_conflicts words _ _ _ _ _ _ (inl form) (inl form'))
    (subst (λ name. Means shelf sink words k' name n answer) (same_spec words _ _ _ _ _ _ (inl form) (inl form'))
    (subst (λ name. Means shelf sink words name s n answer) (same_kernel words _ _ _ _ _ _ (inl form) (inl form')) means))
