-- The locals that a statement declares, by its source alone.
use Rattle.std.specs.Prelude.{List, [], ◌∷◌, ◌++◌, map, Option}
use Rattle.sed_units.specs.Tree.{Tree, Part}
use Rattle.sed_units.specs.declared.label.Label.TheVariants as label
use Rattle.sed_units.specs.declared.leaves.TypeRef.{TypeRef}
use Rattle.sed_typed.specs.declared.kind.Kind.{Kind}
use Rattle.sed_names.specs.Names.{Names}
use Rattle.sed_body_rules.specs.LocalTypes.{local_kind}

-- their types, in the order of the text: of a statement, a row of statements, or the labels of a `switch`
abbrev pub types_in : Tree → List TypeRef
types_in (Part (label.Local at type name) x y) = type ∷ []
types_in (Part (label.Block at) all y) = types_in all
types_in (Part label.More t rest) = types_in t ++ types_in rest
types_in (Part (label.If at) t (Part label.Both x y)) = types_in x ++ types_in y
types_in (Part (label.While at) t x) = types_in x
types_in (Part (label.Do at) x t) = types_in x
types_in (Part (label.For at) (Part label.Both first t) (Part label.Both last x)) = types_in first ++ types_in x
types_in (Part (label.Switch at) e cases) = types_in cases
types_in (Part (label.Case at) e all) = types_in all
types_in (Part (label.Default at) all y) = types_in all
types_in t = []

-- their kinds; none of a type that has no meaning
abbrev pub kinds_in : Names → Tree → List (Option Kind)
kinds_in n t = map (local_kind n) (types_in t)
