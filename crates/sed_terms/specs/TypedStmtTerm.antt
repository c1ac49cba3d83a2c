-- What the terms of typed statements keep.
use Rattle.std.specs.Prelude.{◌≡◌, true, List, [], ◌∷◌, Some, slice_get}
use Rattle.sed_typed.specs.declared.kind.Kind.{Kind}
use Rattle.sed_typed.specs.declared.kind.Kind.TheVariants as kind
use Rattle.sed_typed.specs.declared.statement.Label.{Label}
use Rattle.sed_typed.specs.TypedExpr.{Context, GoesTo, IsNoReceiver}
use Rattle.sed_typed.specs.TypedStmt.{Around, in_loop, in_switch, AreLabels}
use Rattle.sed_terms.specs.declared.sign.Sign.TheVariants as sign
use Rattle.sed_terms.specs.Term.{Term, Absent, Node}
use Rattle.sed_terms.specs.Sorts.{term_kind}
use Rattle.sed_terms.specs.TypedTerm.{IsTerm}

abbrev pub IsTermCondition : Context → Term → Type 0
IsTermCondition c t = IsTerm c t × (term_kind t ≡ kind.Bool)

-- parts that may be missing

abbrev pub IsTermTest : Context → Term → Type 0
IsTermTest c Absent = Unit {0}
IsTermTest c (Node s a b) = IsTermCondition c (Node s a b)

abbrev pub IsTermLast : Context → Term → Type 0
IsTermLast c Absent = Unit {0}
IsTermLast c (Node s a b) = IsTerm c (Node s a b)

abbrev pub IsTermBegun : Context → Kind → Term → Type 0
IsTermBegun c k Absent = Unit {0}
IsTermBegun c k (Node s a b) = IsTerm c (Node s a b) × GoesTo c.program (term_kind (Node s a b)) k

abbrev pub IsTermReturned : Context → Term → Type 0
IsTermReturned c Absent = c.result ≡ kind.Void
IsTermReturned c (Node s a b) =
    IsTerm c (Node s a b) × GoesTo c.program (term_kind (Node s a b)) c.result × (c.result ≡ kind.Void → ⊥)

-- the first part of a `for`: nothing, an expression or a local
abbrev pub IsTermFirst : Term → Type 0
IsTermFirst (Node sign.Empty a b) = Unit {0}
IsTermFirst (Node sign.Do a b) = Unit {0}
IsTermFirst (Node (sign.Begin k i) a b) = Unit {0}
IsTermFirst t = ⊥

-- the labels of a `switch`
abbrev pub labels_of : Term → List Label
labels_of (Node (sign.Label l) block rest) = l ∷ labels_of rest
labels_of t = []

abbrev mutual
  pub IsStmtTerm : Context → Around → Term → Type 0
  IsStmtTerm c around (Node sign.Empty a b) = Unit {0}
  IsStmtTerm c around (Node sign.Do e b) = IsTerm c e
  IsStmtTerm c around (Node (sign.Begin k i) e b) = (slice_get c.locals i ≡ Some k)
      × IsTermBegun c k e × IsNoReceiver c i
  IsStmtTerm c around (Node sign.Block all b) = AreStmtTerms c around all
  IsStmtTerm c around (Node sign.If t (Node sign.Pair x y)) =
      IsTermCondition c t × IsStmtTerm c around x × IsStmtTerm c around y
  IsStmtTerm c around (Node sign.While t x) = IsTermCondition c t × IsStmtTerm c in_loop x
  IsStmtTerm c around (Node sign.DoWhile x t) = IsStmtTerm c in_loop x × IsTermCondition c t
  IsStmtTerm c around (Node sign.For (Node sign.Pair first (Node sign.Pair t last)) x) =
      IsTermFirst first × IsStmtTerm c around first × IsTermTest c t × IsTermLast c last × IsStmtTerm c in_loop x
  IsStmtTerm c around (Node sign.Switch e cases) =
      IsTerm c e × (term_kind e ≡ kind.Int) × AreLabels (labels_of cases) × AreCaseTerms c (in_switch around) cases
  IsStmtTerm c around (Node sign.Break a b) = around.breaks ≡ true
  IsStmtTerm c around (Node sign.Continue a b) = around.continues ≡ true
  IsStmtTerm c around (Node sign.Return e b) = IsTermReturned c e
  IsStmtTerm c around t = ⊥

  pub AreStmtTerms : Context → Around → Term → Type 0
  AreStmtTerms c around Absent = Unit {0}
  AreStmtTerms c around (Node sign.More x rest) = IsStmtTerm c around x × AreStmtTerms c around rest
  AreStmtTerms c around t = ⊥

  -- each block with a label
  pub AreCaseTerms : Context → Around → Term → Type 0
  AreCaseTerms c around Absent = Unit {0}
  AreCaseTerms c around (Node (sign.Label l) x rest) = IsStmtTerm c around x × AreCaseTerms c around rest
  AreCaseTerms c around t = ⊥
