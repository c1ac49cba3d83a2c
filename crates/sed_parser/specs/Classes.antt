-- The grammar of members, classes and units.
use Rattle.std.specs.Prelude.{ℕ, Bool, not, List, [], ◌∷◌, Option, Some, None, codes}
use Rattle.sed_lexer.specs.Token.{Token}
use Rattle.sed_units.specs.declared.leaves.Facet.{Facet}
use Rattle.sed_units.specs.declared.leaves.Modifier.{Modifier}
use Rattle.sed_units.specs.declared.leaves.Param.{Param}
use Rattle.sed_units.specs.declared.leaves.Init.{Init}
use Rattle.sed_units.specs.declared.leaves.TypeName.{TypeName}
use Rattle.sed_units.specs.declared.classes.Member.{Member}
use Rattle.sed_units.specs.declared.classes.MemberForm.{MemberForm}
use Rattle.sed_units.specs.declared.classes.MemberForm.TheVariants as form
use Rattle.sed_units.specs.declared.classes.Class.{Class}
use Rattle.sed_units.specs.Tree.{Tree}
use Rattle.sed_parser.specs.Rule.{Rule, give, when, ◌>>=◌, ◌>>◌}
use Rattle.sed_parser.specs.Many.{many}
use Rattle.sed_parser.specs.Next.{at_end, next_mark, next_key, next_modifier}
use Rattle.sed_parser.specs.Leaves as part
use Rattle.sed_parser.specs.Statements.{statement, statements}

-- how many constructs may be open, one within the other, in a statement of a method's own body
abbrev pub most_nesting : ℕ
most_nesting = 64

unfoldable pub facets : Rule (List Facet)
facets = many (next_mark (codes "@")) part.facet

unfoldable pub modifiers : Rule (List Modifier)
modifiers = many next_modifier part.modifier

-- `, PARAMETER`
unfoldable pub next_param : Rule Param
next_param = do
  part.mark (codes ",")
  part.param

unfoldable pub more_params : Rule (List Param)
more_params = many (next_mark (codes ",")) next_param

-- `(PARAMETER, ..)`
unfoldable pub params : Rule (List Param)
params = do
  part.mark (codes "(")
  when (next_mark (codes ")"))
      (do
        part.mark (codes ")")
        give [])
      (do
        first ← part.param
        others ← more_params
        part.mark (codes ")")
        give (first ∷ others))

-- The statements of a method's own body, each with room for 64 constructs.
unfoldable pub own_statements : Rule (List Tree)
own_statements = statements (statement most_nesting)

unfoldable pub body : Rule (Option (List Tree))
body = when (next_mark (codes "{"))
    (do
      part.mark (codes "{")
      ss ← own_statements
      part.mark (codes "}")
      give (Some ss))
    (do
      part.end
      give None)

unfoldable pub method : Rule MemberForm
method = do
  ps ← params
  ss ← body
  give (form.Method ps ss)

unfoldable pub field_value : Rule (Option Init)
field_value = when (next_mark (codes "="))
    (do
      part.mark (codes "=")
      value ← part.initial
      give (Some value))
    (give None)

-- A method has parameters. A field or a property has none.
unfoldable pub member_form : Rule MemberForm
member_form = when (next_mark (codes "(")) method
    (do
      value ← field_value
      part.end
      give (form.Field value))

unfoldable pub member : Rule Member
member = do
  at ← part.place
  fs ← facets
  ms ← modifiers
  kind ← part.type_of
  name ← part.ident
  f ← member_form
  give (record { at = at; facets = fs; modifiers = ms; kind = kind; name = name; form = f })

abbrev pub next_member : List Token → Bool
next_member tokens = not (next_mark (codes "}") tokens)

unfoldable pub members : Rule (List Member)
members = many next_member member

unfoldable pub base : Rule (Option TypeName)
base = when (next_key (codes "extends"))
    (do
      part.key (codes "extends")
      name ← part.type_name
      give (Some name))
    (give None)

unfoldable pub class : Rule Class
class = do
  at ← part.place
  fs ← facets
  ms ← modifiers
  part.key (codes "class")
  name ← part.ident
  b ← base
  part.mark (codes "{")
  xs ← members
  part.mark (codes "}")
  give (record { at = at; facets = fs; modifiers = ms; name = name; base = b; members = xs })

-- classes up to the end of the tokens
abbrev pub next_class : List Token → Bool
next_class tokens = not (at_end tokens)

unfoldable pub classes : Rule (List Class)
classes = many next_class class
