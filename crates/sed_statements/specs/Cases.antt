-- The int that a case spells: that of an int literal, or of a define of an int, which is named by itself or behind its
-- class. Parentheses change nothing; with an operator before it a literal is none.
use Rattle.std.specs.Prelude.{ℕ, ℤ, pos, List, Option, Some, None, option_map}
use Rattle.sed_lexer.specs.declared.numbers.Number.{Number}
use Rattle.sed_lexer.specs.declared.numbers.Number.TheVariants.{Int}
use Rattle.sed_units.specs.Tree.{Tree, Absent, Part}
use Rattle.sed_units.specs.declared.label.Label.TheVariants as label
use Rattle.sed_units.specs.declared.leaves.LiteralKind.{LiteralKind}
use Rattle.sed_units.specs.declared.leaves.LiteralKind.TheVariants as literal
use Rattle.sed_names.specs.declared.member.Constant.TheVariants as constant
use Rattle.sed_names.specs.declared.member.Member.{Member}
use Rattle.sed_names.specs.declared.member.Member.TheVariants as member
use Rattle.sed_names.specs.Names.{Names}
use Rattle.sed_names.specs.Spelled.{integer_of, character_of}
use Rattle.sed_body_rules.specs.declared.local.Local.{Local}
use Rattle.sed_body_rules.specs.Scope.{Scope, local_named}
use Rattle.sed_bodies.specs.declared.context.Before.{Before}
use Rattle.sed_bodies.specs.declared.context.Before.TheVariants.{Class}
use Rattle.sed_bodies.specs.declared.context.Body.{Body}
use Rattle.sed_bodies.specs.Members.{before_link}

abbrev pub int_of_number : Option Number → Option ℤ
int_of_number (Some (Int i)) = Some i
int_of_number x = None

-- a character is an int
abbrev pub literal_int : LiteralKind → List ℕ → Option ℤ
literal_int literal.Integer bytes = int_of_number (integer_of bytes)
literal_int literal.Character bytes = option_map (λ c. pos c) (character_of bytes)
literal_int k bytes = None

-- a define of byte or short is one of an int too
abbrev pub define_int : Option Member → Option ℤ
define_int (Some (member.Define (Some (constant.Int i)))) = Some i
define_int x = None

-- a name is a local in scope, or else a member
abbrev pub named_int : Option Local → Option Member → Option ℤ
named_int (Some l) x = None
named_int None x = define_int x

-- what stands behind a class, by what is before the `.`
abbrev pub member_int : Names → Before → Tree → Option ℤ
member_int n (Class class) (Part (label.Member at id) x y) = define_int (n.member class.0 id.bytes)
member_int n before t = None

-- a chain of one step alone
abbrev pub chain_int : Names → Body → Scope → Tree → Tree → Option ℤ
chain_int n b s head (Part label.More link Absent) = member_int n (before_link n b s head link) link
chain_int n b s head links = None

abbrev pub case_int : Names → Body → Scope → Tree → Option ℤ
case_int n b s (Part (label.Paren at) x y) = case_int n b s x
case_int n b s (Part (label.Literal l) x y) = literal_int l.kind l.bytes
case_int n b s (Part (label.Name id) x y) = named_int (local_named s.entries id.bytes) (n.member b.class.0 id.bytes)
case_int n b s (Part (label.Chain at) head links) = chain_int n b s head links
case_int n b s t = None
