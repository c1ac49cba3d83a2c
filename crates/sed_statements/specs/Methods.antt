-- What methods come to. A body begins behind the parameters of its method; what stands in it directly is in no loop.
use Rattle.std.specs.Prelude.{Bool, true, not, List}
use Rattle.sed_units.specs.Tree.{Tree, row}
use Rattle.sed_units.specs.declared.leaves.Param.{Param}
use Rattle.sed_names.specs.Names.{Names}
use Rattle.sed_terms.specs.declared.judged.Judged.{Judged}
use Rattle.sed_terms.specs.declared.judged.Judged.TheVariants.{Sound}
use Rattle.sed_terms.specs.Faults.{Marks, joined}
use Rattle.sed_terms.specs.Term.{Term, Absent}
use Rattle.sed_body_rules.specs.Scope.{Scope, scope_of, behind_params}
use Rattle.sed_statements.specs.Declarations.{are_free_names}
use Rattle.sed_statements.specs.Leaving.{outermost}
use Rattle.sed_statements.specs.Rows.{blocked}
use Rattle.sed_statements.specs.declared.enclosing.Enclosing.{Enclosing}
use Rattle.sed_statements.specs.Statements.{judge_stmts}

-- where a method begins: its receiver is no local by name
abbrev pub beginning : Enclosing → Scope
beginning c = scope_of (not c.body.is_static)

-- rule 23 of its parameters, of a method without a body too
abbrev pub judge_params : {F : Type 0} → Marks F → Names → Enclosing → List Param → Judged Bool F
judge_params m n c ps = are_free_names m n (beginning c) (Sound true) ps

abbrev pub judge_body : {F : Type 0} → Marks F → Names → Enclosing → Scope → List Tree → Judged Term F
judge_body m n c s all = blocked (judge_stmts m n c outermost s (Sound Absent) (row all))

-- a method with a body
abbrev pub judge_method : {F : Type 0} → Marks F → Names → Enclosing → List Param → List Tree → Judged Term F
judge_method m n c ps all =
    joined {A = Bool} m (judge_params m n c ps) (judge_body m n c (behind_params n (beginning c) ps) all)
    (λ free t. Sound t)
