-- What typing says of the methods that are called.
use Rattle.std.proofs.Common.{◌≡◌, ℕ, ◌+◌, ◌≤◌, zero, suc, Bool, true, false, if◌then◌else◌, List, [], ◌∷◌, ◌++◌, length, Option, Some, None, slice_get, refl, sym, ap, subst, arith, length-append}
use Rattle.std.proofs.lemmas.List.{length-map}
use Rattle.std.specs.Prelude.{All, IfSome}
use Rattle.std.proofs.lemmas.List.Elements.{All-head, All-tail}
use Rattle.sed_typed.specs.declared.kind.Kind.{Kind}
use Rattle.sed_typed.specs.declared.kind.Kind.TheVariants as kind
use Rattle.sed_typed.specs.declared.program.Method.{Method}
use Rattle.sed_typed.specs.declared.program.Program.{Program}
use Rattle.sed_typed.specs.declared.statement.Stmt.{Stmt}
use Rattle.sed_typed.specs.Locals.{Declared}
use Rattle.sed_typed.specs.Typed.{IsMethod, IsBody, IsStorable, receiver_of, declared_by}
use Rattle.sed_typed.specs.TypedExpr.{GoesTo, AllGoTo}
use Rattle.sed_engine.specs.Expressions.{new_frame}
use Rattle.scode_sim.proofs.Arguments.{others_of}
use Rattle.scode_sim.proofs.Frames.{IsSolid}

abbrev pub AllSolid : List Kind → Type 0
AllSolid [] = Unit {0}
AllSolid (k ∷ ks) = IsSolid k × AllSolid ks

pub storable_solid : (program : Program) (k : Kind) → IsStorable program k → IsSolid k
storable_solid program kind.Void h = absurd h
storable_solid program kind.Bool h = tt
storable_solid program kind.Int h = tt
storable_solid program kind.Long h = tt
storable_solid program kind.Text h = tt
storable_solid program (kind.Object d) h = tt

-- what goes to a kind that is not void is not void
pub goes_solid : (program : Program) (k q : Kind) → GoesTo program k q → IsSolid q → IsSolid k
goes_solid program kind.Void q g s = subst IsSolid (sym g) s
goes_solid program kind.Bool q g s = tt
goes_solid program kind.Int q g s = tt
goes_solid program kind.Long q g s = tt
goes_solid program kind.Text q g s = tt
goes_solid program (kind.Object d) q g s = tt

pub args_solid : (program : Program) (ks ps : List Kind) → AllGoTo program ks ps → All (IsStorable program) ps → AllSolid ks
args_solid program [] ps g all = tt
args_solid program (k ∷ ks) [] g all = absurd g
args_solid program (k ∷ ks) (q ∷ qs) g all = (goes_solid program k q g.0 (storable_solid program q (All-head (IsStorable program) q qs all)), args_solid program ks qs g.1 (All-tail (IsStorable program) q qs all))

pub args_many : (program : Program) (ks ps : List Kind) → AllGoTo program ks ps → length ks ≡ length ps
args_many program [] [] g = refl
args_many program [] (q ∷ qs) g = absurd g
args_many program (k ∷ ks) [] g = absurd g
args_many program (k ∷ ks) (q ∷ qs) g = ap suc (args_many program ks qs g.1)

pub all_solid_at : (program : Program) (ks : List Kind) → All (IsStorable program) ks → (i : ℕ) (k : Kind) → slice_get ks i ≡ Some k → IsSolid k
all_solid_at program [] all i k e = let never : ⊥ = cc in absurd never
all_solid_at program (j ∷ ks) all zero k e = let same : j ≡ k = cc in subst IsSolid same (storable_solid program j (All-head (IsStorable program) j ks all))
all_solid_at program (j ∷ ks) all (suc i) k e = all_solid_at program ks (All-tail (IsStorable program) j ks all) i k e

-- the receiver, the parameters and a body's own locals fit a frame
pub others_room : (program : Program) (m : Method) → IsMethod program m → (m.body ≡ None → ⊥) → length (receiver_of m ++ m.params) + length (others_of m) ≤ 65
others_room program m is some = go m.body refl is.body
  where
    each : length (others_of m) ≡ length (declared_by m)
    each = length-map (declared_by m) (λ (d : Declared). d.kind)

    one : (c : Bool) → length (if c then [] else kind.Object m.class ∷ []) ≤ 1
    one true = omega arith
    one false = omega arith

    go : (o : Option Stmt) → m.body ≡ o → IfSome o (IsBody program m) → length (receiver_of m ++ m.params) + length (others_of m) ≤ 65
    go None e h = absurd (some e)
    go (Some body) e h =
        let few : length m.params + length (declared_by m) ≤ 64 = h.most_locals in
        let front : length (receiver_of m ++ m.params) ≡ length (receiver_of m) + length m.params = length-append (receiver_of m) m.params in
        let r : length (receiver_of m) ≤ 1 = one m.is_static in
        let e2 = each in
        omega (arith, e2, few, front, r)

pub args_few : (program : Program) (m : Method) → IsMethod program m → length (receiver_of m ++ m.params) ≤ 9
args_few program m is =
    let front : length (receiver_of m ++ m.params) ≡ length (receiver_of m) + length m.params = length-append (receiver_of m) m.params in
    let few : length m.params ≤ 8 = is.params_most in
    let r : length (receiver_of m) ≤ 1 = one m.is_static in
    omega (arith, front, few, r)
  where
    one : (c : Bool) → length (if c then [] else kind.Object m.class ∷ []) ≤ 1
    one true = omega arith
    one false = omega arith

pub new_long : length new_frame ≡ 65
new_long = refl
