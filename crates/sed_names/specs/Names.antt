-- What the names of a program mean. Whoever keeps the classes of a program gives these functions, and whoever judges
-- the bodies in them asks for nothing else. Names are lists of bytes, and may be of any length.
use Rattle.std.specs.Prelude.{ℕ, Bool, List, Option}
use Rattle.sed_typed.specs.declared.number.TypeNo.{TypeNo}
use Rattle.sed_names.specs.declared.member.Member.{Member}
use Rattle.sed_names.specs.declared.signature.Signature.{Signature}

pub record Names : Type 0 where
  -- whether the second class is the first one or below it
  pub below : ℕ → ℕ → Bool
  -- the class on which a class is based
  pub base : ℕ → Option TypeNo
  -- the class of a name, sought where the text may seek one
  pub class : List ℕ → Option TypeNo
  -- the class of a name in the kit of a name alone
  pub class_in : List ℕ → List ℕ → Option TypeNo
  -- the member of a name that a class declares or inherits
  pub member : ℕ → List ℕ → Option Member
  -- the signature of the nearest member of a name at or above a class, where that is a method
  pub method : ℕ → List ℕ → Option Signature
  -- the number of the text that a literal spells, by the literal as it stands in the source
  pub text : List ℕ → Option ℕ
