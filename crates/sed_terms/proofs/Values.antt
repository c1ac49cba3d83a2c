-- What terms come to, and what stands behind an instance.
use Rattle.std.proofs.Common.{◌≡◌, Option, Some, None, refl}
use Rattle.std.specs.Global.{Box}
use Rattle.sed_typed.specs.declared.tree.Expr.{Expr}
use Rattle.sed_terms.specs.declared.sign.Sign.TheVariants as sign
use Rattle.sed_terms.specs.Term.{Term, Node}
use Rattle.sed_terms.specs.SortKind.{kind_in}
use Rattle.sed_terms.specs.Sorts.{sort_of, term_kind, is_value, is_place}
use Rattle.sed_terms.specs.OpenTerm.{behind}

-- a term that is no value has no kind
pub kind_is : (t : Term) → kind_in (sort_of t) ≡ term_kind t
kind_is (Node sign.After a b) = kind_is b
kind_is t = refl

pub value_behind : (b : Option (Box Expr)) (t : Term) → is_value (behind b t) ≡ is_value t
value_behind None t = refl
value_behind (Some e) t = refl

pub place_behind : (b : Option (Box Expr)) (t : Term) → is_place (behind b t) ≡ is_place t
place_behind None t = refl
place_behind (Some e) t = refl

pub sort_behind : (b : Option (Box Expr)) (t : Term) → sort_of (behind b t) ≡ sort_of t
sort_behind None t = refl
sort_behind (Some e) t = refl
