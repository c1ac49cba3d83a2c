-- The bodies of a unit's methods.
use Rattle.std.specs.Prelude.{◌≤◌, All, IfSome, List}
use Rattle.sed_units.specs.declared.classes.Class.{Class}
use Rattle.sed_units.specs.declared.classes.Member.{Member}
use Rattle.sed_units.specs.declared.classes.MemberForm.{MemberForm}
use Rattle.sed_units.specs.declared.classes.MemberForm.TheVariants as form
use Rattle.sed_units.specs.declared.classes.Unit.{Unit as TheUnit}
use Rattle.sed_units.specs.Tree.{Tree}
use Rattle.sed_body_laws.specs.Nesting.{body_nesting}
use Rattle.sed_body_laws.specs.Levels.{body_levels}

-- At most 64 constructs are open at a place, and the typed tree has at most 32 levels for each nesting from 0 to 64.
pub record IsShallow (body : List Tree) : Type 0 where
  pub nesting : body_nesting body ≤ 64
  pub levels : body_levels body ≤ 2080

abbrev pub IsShallowForm : MemberForm → Type 0
IsShallowForm (form.Field value) = Unit {0}
IsShallowForm (form.Method params body) = IfSome body IsShallow

-- the bodies of all methods of all classes
abbrev pub HasShallowBodies : TheUnit → Type 0
HasShallowBodies u = All (λ (c : Class). All (λ (m : Member). IsShallowForm m.form) c.members) u.classes
