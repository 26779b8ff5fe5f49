-- What is kept along lines.
use Rattle.std.proofs.Common.{◌≡◌, true, Some, List, [], ◌∷◌, subst}
use Rattle.spec_ast.specs.Raw.{Item, Line}
use Rattle.spec_lines.specs.Behind.{Here, behind}
use Rattle.spec_lines.specs.Faults.{Text}
use Rattle.spec_lines.specs.Laws.{Stands, AllStand}
use Rattle.spec_lines.specs.Whole.{Made, made_behind, made_from}
use Rattle.spec_sound.specs.Limits.{copy_stands, copies_stand}
use Rattle.spec_sound.proofs.Parts.{both, chain_is, some_is}

-- this holds of each line where it stands
abbrev pub Along : (Here → Item → Type 0) → Here → List Line → Type 0
Along S h [] = Unit {0}
Along S h (l ∷ ls) = S h l.item × Along S (behind h l.line l.item) ls

pub along_stands : (t : Text) (h : Here) (raw : List Line) → AllStand t h raw → Along (Stands t) h raw
along_stands t h [] all = tt
along_stands t h (l ∷ ls) all = (all.0, along_stands t (behind h l.line l.item) ls all.1)

-- it stands, and it is no copy line outside a handler
abbrev pub StandsHere : Text → Here → Item → Type 0
StandsHere t h item = Stands t h item × (copy_stands h item ≡ true)

pub along_copies : (t : Text) (h : Here) (raw : List Line) → AllStand t h raw → copies_stand h raw ≡ true → Along (StandsHere t) h raw
along_copies t h [] all copies = tt
along_copies t h (l ∷ ls) all copies =
    let c = both (copy_stands h l.item) (copies_stand (behind h l.line l.item) ls) copies in
    ((all.0, c.0), along_copies t (behind h l.line l.item) ls all.1 c.1)

-- what each line keeps holds behind all
pub walk : (S : Here → Item → Type 0) (P : Here → Made → Type 0)
    → ((h : Here) (m n : Made) (l : Line) → P h m → S h l.item → made_behind h m l.item ≡ Some n → P (behind h l.line l.item) n)
    → (h : Here) (m n : Made) (raw : List Line) → P h m → Along S h raw → made_from h m raw ≡ Some n → (z : Here) × P z n
walk S P step h m n [] p along made = (h, subst (P h) (some_is m n made) p)
walk S P step h m n (l ∷ ls) p along made =
    let c = chain_is (made_behind h m l.item) (λ o. made_from (behind h l.line l.item) o ls) n made in
    walk S P step (behind h l.line l.item) c.0 n ls (step h m c.0 l p along.0 c.1) along.1 c.2
