-- A body stands in what its names mean, once its class and its locals are a program's.
use Rattle.std.proofs.Common.{◌≡◌, ◌<◌, ℕ, List, length, slice_get, Some, IfSome, IsSomeAnd}
use Rattle.sed_typed.specs.declared.kind.Kind.{Kind}
use Rattle.sed_typed.specs.TypedExpr.{Context, IsKindOf, IsNoReceiver}
use Rattle.sed_names.specs.Names.{Names}
use Rattle.sed_bodies.specs.declared.context.Body.{Body}
use Rattle.sed_body_rules.specs.Scope.{Scope, local_named}
use Rattle.sed_bodies.specs.Inside.{IsIn}
use Rattle.sed_check.specs.Means.{Means}

pub stands : (c : Context) (n : Names) (b : Body) (s : Scope) → Means c n → c.class < length c.program.schema.classes →
    ((i : ℕ) (k : Kind) → slice_get c.locals i ≡ Some k → IsKindOf c.program k) → b.class.0 ≡ c.class →
    b.is_static ≡ c.is_static →
    ((name : List ℕ) →
    IfSome (local_named s.entries name) (λ l. IsSomeAnd l.kind (λ k. (slice_get c.locals l.number
    ≡ Some k) × IsNoReceiver c l.number))) →
    IsIn c n b s
stands c n b s m class kinds same static locals = record {
  kinds = record { class = class; locals = kinds; results = m.results; fields = m.fields; statics = m.statics };
  class = same;
  static = static;
  below = m.below;
  base = m.base;
  locals = locals;
  members = m.members;
  methods = m.methods;
  texts = m.texts;
}
