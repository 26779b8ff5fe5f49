-- What a certificate needs of the names of a specification.
use Rattle.std.specs.Prelude.{◌≡◌, true, map, bytes_eq, All}
use Rattle.std.specs.List.{IsDistinct}
use Rattle.spec_tree.specs.Plain.{Spec}
use Rattle.hk_cert_lines.specs.Words.{is_word, is_name, is_handler_name}

-- names as the text of a specification spells them: letters, digits and `_`; a field's and a handler's begin with no digit and are no
-- keywords, and a handler's begins as no other function's. No two fields have one name, no two invariants, and no two properties
pub record HasNames (s : Spec) : Type 0 where
  pub fields : All (λ f. is_name f.name ≡ true) s.fields
  pub invariants : All (λ n. is_word n.name ≡ true) s.invariants
  pub properties : All (λ n. is_word n.name ≡ true) s.properties
  pub handlers : All (λ t. is_handler_name t.name ≡ true) s.transitions
  pub own_fields : IsDistinct bytes_eq (map (λ f. f.name) s.fields)
  pub own_invariants : IsDistinct bytes_eq (map (λ n. n.name) s.invariants)
  pub own_properties : IsDistinct bytes_eq (map (λ n. n.name) s.properties)
