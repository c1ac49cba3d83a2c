-- The kind that a sort is of.
use Rattle.sed_typed.specs.declared.kind.Kind.{Kind}
use Rattle.sed_typed.specs.declared.kind.Kind.TheVariants as kind
use Rattle.sed_terms.specs.declared.sort.Sort.{Sort}
use Rattle.sed_terms.specs.declared.sort.Sort.TheVariants.{Of}

-- what is no value has none
abbrev pub kind_in : Sort → Kind
kind_in (Of k) = k
kind_in s = kind.Void
