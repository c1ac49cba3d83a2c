-- Where the statements of a method stand, once its program is there.
use Rattle.std.specs.Prelude.{◌≡◌, ◌≤◌, ℕ, true, nat_lt, IfSome, slice_get, Some}
use Rattle.sed_units.specs.Tree.{Tree, Part}
use Rattle.sed_units.specs.declared.label.Label.TheVariants as label
use Rattle.sed_typed.specs.declared.kind.Kind.{Kind}
use Rattle.sed_typed.specs.TypedExpr.{Context, IsKindOf, IsNoReceiver}
use Rattle.sed_typed.specs.TypedStmt.{Around as TypedAround}
use Rattle.sed_names.specs.Names.{Names}
use Rattle.sed_body_rules.specs.LocalTypes.{local_kind}
use Rattle.sed_body_rules.specs.Scope.{Scope, numbered_past}
use Rattle.sed_bodies.specs.Inside.{IsIn}
use Rattle.sed_statements.specs.declared.leaving.Around.{Around}
use Rattle.sed_statements.specs.declared.enclosing.Enclosing.{Enclosing}

abbrev pub around_of : Around → TypedAround
around_of a = record { breaks = a.breaks; continues = a.continues }

-- a local of this number and this kind, which is not the receiver
abbrev pub IsLocalAt : Context → ℕ → Kind → Type 0
IsLocalAt c i k = (slice_get c.locals i ≡ Some k) × IsNoReceiver c i

-- the locals that a statement declares, from a number on, are the method's
abbrev pub Provides : Context → Names → ℕ → ℕ → Tree → Type 0
Provides c n limit next (Part (label.Local at type name) x y) = nat_lt next limit ≡ true →
    IfSome (local_kind n type) (IsLocalAt c next)
Provides c n limit next (Part (label.Block at) all y) = Provides c n limit next all
Provides c n limit next (Part label.More t rest) = Provides c n limit next t
    × Provides c n limit (numbered_past limit next t) rest
Provides c n limit next (Part (label.If at) t (Part label.Both x y)) = Provides c n limit next x
    × Provides c n limit (numbered_past limit next x) y
Provides c n limit next (Part (label.While at) t x) = Provides c n limit next x
Provides c n limit next (Part (label.Do at) x t) = Provides c n limit next x
Provides c n limit next (Part (label.For at) (Part label.Both first t) (Part label.Both last x)) =
    Provides c n limit next first × Provides c n limit (numbered_past limit next first) x
Provides c n limit next (Part (label.Switch at) e cases) = Provides c n limit next cases
Provides c n limit next (Part (label.Case at) e all) = Provides c n limit next all
Provides c n limit next (Part (label.Default at) all y) = Provides c n limit next all
Provides c n limit next t = Unit {0}

-- a scope is behind this tree in another one, as far as numbers go
abbrev pub CountsOn : Scope → Tree → Scope → Type 0
CountsOn s t z = (z.next ≡ numbered_past s.limit s.next t) × (z.limit ≡ s.limit)

-- what names mean in a scope is what the program has, and the limit on locals is not yet passed
pub record Stands (c : Context) (n : Names) (m : Enclosing) (s : Scope) : Type 0 where
  pub inside : IsIn c n m.body s
  pub room : s.next ≤ s.limit

-- the method's result is the program's
abbrev pub HasResult : Context → Enclosing → Type 0
HasResult c m = (m.result ≡ Some c.result) × IsKindOf c.program c.result
