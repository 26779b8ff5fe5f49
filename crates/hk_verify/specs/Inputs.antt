-- What was read: the texts that were loaded, the kernel and the specification that they spell, and why there is none.

use Rattle.std.specs.Prelude.{ℕ, ◌<◌, ◌≤◌, ◌≡◌, List, [], ◌∷◌, ◌++◌, Option, Some, IsSome, IsSomeAnd, ⊤, length, Result, Ok, Err}
use Rattle.std.specs.List.{AllZip}
use Rattle.hk_io.specs.Faults.{Rose}
use Rattle.hk_io.specs.Held.{Files, held_under}
use Rattle.ir_ast.specs.Program.{ModuleView}
use Rattle.ir_ast.specs.ProgramView.{view_module}
use Rattle.ir_ast.specs.declared.fault.KernelFault.{KernelFault}
use Rattle.spec_ast.specs.declared.fault.SpecFault.{SpecFault}
use Rattle.spec_tree.specs.Plain.{Spec}
use Rattle.spec_tree.specs.View.{view_spec}
use Rattle.hk_verify.specs.Whole.{IsWhole, RefusesWhole}
use Rattle.hk_verify.specs.Specifications.{IsTheSpec, RefusesSpecText}
use Rattle.hk_verify.specs.declared.inputs.Inputs.{Inputs}
use Rattle.hk_verify.specs.declared.answer.TopFault.{TopFault}
use Rattle.hk_verify.specs.declared.answer.TopFault.TheVariants.{Usage, Read, Long, Kernel as OfKernel, Spec as OfSpec, Cert as OfCert, Cnf as OfCnf, Call as OfCall, Memory, Write}

-- The most bytes of a kernel text: 16 MiB.
abbrev pub kernel_limit : ℕ
kernel_limit = 16777216

-- The most bytes of a specification text: 1 MiB.
abbrev pub spec_limit : ℕ
spec_limit = 1048576

-- The most bytes of a clause file, and of a proof: 256 MiB.
abbrev pub proof_limit : ℕ
proof_limit = 268435456

-- What a call sees of the shelf: the files, where it tells of them, and its count of faults before and after.
pub record ShelfView : Type 0 where
  pub held : Option Files
  pub before : ℕ
  pub after : ℕ

abbrev pub seen : Option Files → ℕ → ℕ → ShelfView
seen held before after = record { held = held; before = before; after = after }

-- A file that the words ask for: its word, counted from 0, its name, and the most bytes that it may have.
pub record Asked : Type 0 where
  pub word : ℕ
  pub name : List ℕ
  pub limit : ℕ

abbrev pub asked : ℕ → List ℕ → ℕ → Asked
asked word name limit = record { word = word; name = name; limit = limit }

-- The files of `verify KERNEL SPEC ..`, in the order in which they are loaded.
abbrev pub verify_files : List ℕ → List ℕ → List Asked
verify_files kernel spec = asked 1 kernel kernel_limit ∷ asked 2 spec spec_limit ∷ []

-- The files of `lrat CNF PROOF`.
abbrev pub lrat_files : List ℕ → List ℕ → List Asked
lrat_files cnf proof = asked 1 cnf proof_limit ∷ asked 2 proof proof_limit ∷ []

-- The file of `run KERNEL FUNCTION [ARG ..]`.
abbrev pub run_files : List ℕ → List Asked
run_files kernel = asked 1 kernel kernel_limit ∷ []

-- This text was loaded for the file.
pub record IsLoaded (held : Option Files) (file : Asked) (text : List ℕ) : Type 0 where
  pub told : IsSome held → held_under held file.name ≡ Some text
  pub within : length text ≤ file.limit

-- These texts were loaded for the files, one for each in their order.
abbrev pub AreLoaded : Option Files → List Asked → List (List ℕ) → Type 0
AreLoaded held files texts = AllZip (IsLoaded held) files texts

-- Why the load of a file has no answer: the shelf failed in it, the file is too long, or memory was refused.
abbrev pub IsLoadFault : ShelfView → Asked → TopFault → Type 0
IsLoadFault shelf file (Read w) = (w ≡ file.word) × Rose shelf.before shelf.after
IsLoadFault shelf file (Long w) = (w ≡ file.word) × (IsSome shelf.held → IsSomeAnd (held_under shelf.held file.name) (λ text. file.limit < length text))
IsLoadFault shelf file Memory = ⊤
IsLoadFault shelf file Usage = ⊥
IsLoadFault shelf file (OfKernel f) = ⊥
IsLoadFault shelf file (OfSpec f) = ⊥
IsLoadFault shelf file (OfCert f) = ⊥
IsLoadFault shelf file (OfCnf f) = ⊥
IsLoadFault shelf file (OfCall f) = ⊥
IsLoadFault shelf file Write = ⊥

-- Why loads, one after another, have no answer: the files before one were loaded, which leaves the count of faults as it
-- was, and the load of that one has none.
pub record IsLoadingFault (shelf : ShelfView) (files : List Asked) (fault : TopFault) : Type 0 where
  pub before : List Asked
  pub failed : Asked
  pub behind : List Asked
  pub in_order : files ≡ before ++ failed ∷ behind
  pub texts : List (List ℕ)
  pub loaded : AreLoaded shelf.held before texts
  pub cause : IsLoadFault shelf failed fault

-- What loads leave of the count of faults: it rose where a load failed, and stands as it was otherwise.
abbrev pub CountsLoads : Option TopFault → ℕ → ℕ → Type 0
CountsLoads (Some (Read w)) before after = Rose before after
CountsLoads _ before after = after ≡ before

-- The texts were loaded and read: the kernel's spells this module, and the other this specification for it.
pub record AreRead (held : Option Files) (kernel_name spec_name : List ℕ) (m : ModuleView) (spec : Spec) : Type 0 where
  pub kernel_text : List ℕ
  pub spec_text : List ℕ
  pub loaded : AreLoaded held (verify_files kernel_name spec_name) (kernel_text ∷ spec_text ∷ [])
  pub the_kernel : IsWhole kernel_text m
  pub the_spec : IsTheSpec m spec_text spec

-- The kernel text spells no kernel.
pub record RefusesKernel (held : Option Files) (kernel_name spec_name : List ℕ) (fault : KernelFault) : Type 0 where
  pub kernel_text : List ℕ
  pub spec_text : List ℕ
  pub loaded : AreLoaded held (verify_files kernel_name spec_name) (kernel_text ∷ spec_text ∷ [])
  pub refused : RefusesWhole kernel_text fault

-- The kernel text spells a kernel, for which the specification text spells no specification.
pub record RefusesSpec (held : Option Files) (kernel_name spec_name : List ℕ) (fault : SpecFault) : Type 0 where
  pub kernel_text : List ℕ
  pub spec_text : List ℕ
  pub module_ : ModuleView
  pub loaded : AreLoaded held (verify_files kernel_name spec_name) (kernel_text ∷ spec_text ∷ [])
  pub the_kernel : IsWhole kernel_text module_
  pub refused : RefusesSpecText module_ spec_text fault

-- Why a verification for these words ended before its first line. Want of memory is the one free answer.
abbrev pub HasCause : ShelfView → List ℕ → List ℕ → TopFault → Type 0
HasCause shelf kernel spec Usage = ⊥
HasCause shelf kernel spec (Read w) = IsLoadingFault shelf (verify_files kernel spec) (Read w)
HasCause shelf kernel spec (Long w) = IsLoadingFault shelf (verify_files kernel spec) (Long w)
HasCause shelf kernel spec (OfKernel f) = RefusesKernel shelf.held kernel spec f
HasCause shelf kernel spec (OfSpec f) = RefusesSpec shelf.held kernel spec f
HasCause shelf kernel spec (OfCert f) = ⊥
HasCause shelf kernel spec (OfCnf f) = ⊥
HasCause shelf kernel spec (OfCall f) = ⊥
HasCause shelf kernel spec Memory = ⊤
HasCause shelf kernel spec Write = ⊥

-- What reading both texts gives: the kernel and the specification that they spell, or the refusal of the first that is none.
pub record Reads (kernel_text spec_text : List ℕ) (inputs : Inputs) : Type 0 where
  pub the_kernel : IsWhole kernel_text (view_module inputs.kernel)
  pub the_spec : IsTheSpec (view_module inputs.kernel) spec_text (view_spec inputs.spec)

pub record RefusesSecond (kernel_text spec_text : List ℕ) (fault : SpecFault) : Type 0 where
  pub module_ : ModuleView
  pub the_kernel : IsWhole kernel_text module_
  pub refused : RefusesSpecText module_ spec_text fault

abbrev pub ReadsTo : List ℕ → List ℕ → Result Inputs TopFault → Type 0
ReadsTo kernel_text spec_text (Ok inputs) = Reads kernel_text spec_text inputs
ReadsTo kernel_text spec_text (Err (OfKernel f)) = RefusesWhole kernel_text f
ReadsTo kernel_text spec_text (Err (OfSpec f)) = RefusesSecond kernel_text spec_text f
ReadsTo kernel_text spec_text (Err Memory) = ⊤
ReadsTo kernel_text spec_text (Err Usage) = ⊥
ReadsTo kernel_text spec_text (Err (Read w)) = ⊥
ReadsTo kernel_text spec_text (Err (Long w)) = ⊥
ReadsTo kernel_text spec_text (Err (OfCert f)) = ⊥
ReadsTo kernel_text spec_text (Err (OfCnf f)) = ⊥
ReadsTo kernel_text spec_text (Err (OfCall f)) = ⊥
ReadsTo kernel_text spec_text (Err Write) = ⊥
