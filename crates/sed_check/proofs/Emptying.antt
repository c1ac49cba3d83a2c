-- An empty body of a member is an empty body in the program.
use Rattle.std.proofs.Common.{◌≡◌, ℕ, Bool, List, [], slice_get, Option, Some, None, subst}
use Rattle.sed_units.specs.declared.leaves.Param.{Param}
use Rattle.sed_typed.specs.SysMembers.{IsEmptyBody, IsEmptyRow}
use Rattle.sed_typed.specs.declared.program.Method.{Method}
use Rattle.sed_typed.specs.declared.program.Program.{Program}
use Rattle.sed_typed.specs.declared.statement.Stmt.{Stmt, Row_of-Stmt, end_of-Stmt, more_of-Stmt}
use Rattle.sed_typed.specs.declared.statement.Stmt.TheVariants as stmt
use Rattle.sed_names.specs.Names.{Names}
use Rattle.sed_faults.specs.declared.fault.Fault.{Fault}
use Rattle.sed_terms.specs.declared.judged.Judged.{Judged}
use Rattle.sed_terms.specs.declared.judged.Judged.TheVariants.{Sound, Unknown}
use Rattle.sed_terms.specs.declared.sign.Sign.TheVariants as sign
use Rattle.sed_terms.specs.Faults.{all_faults, joined}
use Rattle.sed_terms.specs.Seen.{stmt_term, stmts_term}
use Rattle.sed_terms.specs.Term.{Term, Absent, Node}
use Rattle.sed_classes.specs.declared.kit_units.KitUnits.{KitUnits}
use Rattle.sed_classes.specs.Members.{form_params}
use Rattle.sed_program.specs.Meaning.{names_of}
use Rattle.sed_program.specs.Methods.{MethodAt, methods_of}
use Rattle.sed_statements.specs.declared.enclosing.Enclosing.{Enclosing}
use Rattle.sed_statements.specs.Methods.{judge_method, judge_params}
use Rattle.sed_class_laws.specs.Empty.{EmptyStays}
use Rattle.sed_check.specs.Bodies.{HasTree, IsBodyOf, enclosing_of}

-- a block in which nothing stands
abbrev nothing : Term
nothing = Node sign.Block Absent Absent

sound_is : (t u : Term) → ◌≡◌ {A = Judged Term (List Fault)} (Sound t) (Sound u) → t ≡ u
sound_is t u e = cc

joined_is : (x : Judged Bool (List Fault)) (t : Term) →
    joined {A = Bool} {B = Term} {C = Term} all_faults x (Sound nothing) (λ free u. Sound u) ≡ Sound t → nothing ≡ t
joined_is (Sound b) t e = sound_is nothing t e
joined_is (Unknown f) t e = cc

-- an empty body comes to one, or is unknown
judged_is : (n : Names) (c : Enclosing) (ps : List Param) (t : Term) → judge_method all_faults n c ps [] ≡ Sound t →
    nothing ≡ t
judged_is n c ps t e = joined_is (judge_params all_faults n c ps) t e

empty_row : {n : _} (row : Row_of-Stmt n) → Absent ≡ stmts_term row → IsEmptyRow row
empty_row end_of-Stmt e = tt
empty_row (more_of-Stmt x xs) e = cc

block_is : (t : Term) → nothing ≡ Node sign.Block t Absent → Absent ≡ t
block_is t e = cc

empty_is : (body : Stmt) → nothing ≡ stmt_term body → IsEmptyBody (Some body)
empty_is stmt.Empty e = cc
empty_is (stmt.Do x) e = cc
empty_is (stmt.Local k i x) e = cc
empty_is (stmt.Block' shape all) e = empty_row all (block_is (stmts_term all) e)
empty_is (stmt.If' t p a q b) e = cc
empty_is (stmt.While' t p body) e = cc
empty_is (stmt.DoWhile' p body t) e = cc
empty_is (stmt.For' p first t last q body) e = cc
empty_is (stmt.Switch' x labels shape all) e = cc
empty_is stmt.Break e = cc
empty_is stmt.Continue e = cc
empty_is (stmt.Return x) e = cc

empty_tree : (units : List KitUnits) (e : MethodAt) (body : Option Stmt) → HasTree units e (Some []) body →
    IsEmptyBody body
empty_tree units e None h = absurd h
empty_tree units e (Some body) h =
    empty_is body (judged_is (names_of units e.owned.kit) (enclosing_of units e) (form_params e.owned.member.form)
    (stmt_term body) h.0)

pub empty_stays : (units : List KitUnits) (program : Program) →
    ((i : ℕ) (e : MethodAt) (m : Method) → slice_get (methods_of units) i ≡ Some e →
    slice_get program.methods i ≡ Some m → IsBodyOf units e m.body) →
    EmptyStays units program
empty_stays units program bodies = record {
  empty = λ i e m p q empty.
      empty_tree units e m.body (subst (λ all. HasTree units e all m.body) empty (bodies i e m p q));
}
