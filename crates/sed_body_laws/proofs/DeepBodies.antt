-- What a method's body comes to nests at most as its source does, and has at most its levels.
use Rattle.std.proofs.Common.{◌≡◌, ◌≤◌, Bool, List, [], ◌∷◌, arith, subst}
use Rattle.sed_units.specs.declared.leaves.Param.{Param}
use Rattle.sed_units.specs.Tree.{Tree, row}
use Rattle.sed_names.specs.Names.{Names}
use Rattle.sed_body_rules.specs.Scope.{Scope, behind_params}
use Rattle.sed_terms.specs.declared.judged.Judged.{Judged}
use Rattle.sed_terms.specs.declared.judged.Judged.TheVariants.{Sound}
use Rattle.sed_terms.specs.Faults.{Marks, IfSound}
use Rattle.sed_terms.specs.Term.{Term, Absent}
use Rattle.sed_terms.specs.TermDepth.{stmts_term_depth, body_term_depth}
use Rattle.sed_statements.specs.Leaving.{outermost}
use Rattle.sed_statements.specs.declared.enclosing.Enclosing.{Enclosing}
use Rattle.sed_statements.specs.Statements.{judge_stmts}
use Rattle.sed_statements.specs.Methods.{beginning, judge_params, judge_body, judge_method}
use Rattle.sed_body_laws.specs.Nesting.{most_of, body_nesting}
use Rattle.sed_body_laws.specs.Levels.{highest, highest_of, body_levels}
use Rattle.sed_body_laws.specs.TermHeight.{term_height}
use Rattle.sed_body_laws.proofs.Sounds.{after_sound, joined_sound, any_sound, weaker}
use Rattle.sed_body_laws.proofs.DeepStatements.{Following, nothing_yet, judged_row}

nesting_of : (all : List Tree) → most_of (row all) ≤ body_nesting all
nesting_of [] = omega arith
nesting_of (t ∷ ts) = let q = nesting_of ts in omega (arith, q)

levels_of : (all : List Tree) → highest (row all) ≤ highest_of all
levels_of [] = omega arith
levels_of (t ∷ ts) = let q = levels_of ts in omega (arith, q)

abbrev pub IsBody : List Tree → Term → Type 0
IsBody all t = (body_term_depth t ≤ body_nesting all) × (term_height t ≤ body_levels all)

body_is : {F : Type 0} (m : Marks F) (n : Names) (c : Enclosing) (s : Scope) (all : List Tree) →
    IfSound (judge_body m n c s all) (IsBody all)
body_is m n c s all =
    after_sound (Following (body_nesting all) (highest_of all)) (IsBody all) (judge_stmts m n c outermost s
    (Sound Absent) (row all)) _
    (judged_row m n c outermost s (Sound Absent) (row all) (body_nesting all) (highest_of all) (nesting_of all)
    (levels_of all)
    (nothing_yet (body_nesting all) (highest_of all)))
    (λ ts p. let d : stmts_term_depth ts ≤ body_nesting all = p.0.depth in let l : term_height ts ≤ highest_of all = p.0.height in (d, omega (arith, l)))

pub method_is : {F : Type 0} (m : Marks F) (n : Names) (c : Enclosing) (ps : List Param) (all : List Tree) →
    IfSound (judge_method m n c ps all) (IsBody all)
method_is m n c ps all =
    joined_sound {A = Bool} m (λ _. Unit {0}) (IsBody all) (IsBody all) (judge_params m n c ps) (judge_body m n c
    (behind_params n (beginning c) ps) all) _
    (any_sound (judge_params m n c ps)) (body_is m n c (behind_params n (beginning c) ps) all) (λ a t u p. p)

pub method_depth : {F : Type 0} (m : Marks F) (n : Names) (c : Enclosing) (ps : List Param) (all : List Tree)
    → IfSound (judge_method m n c ps all) (λ t. body_term_depth t ≤ body_nesting all)
method_depth m n c ps all = weaker (IsBody all) (λ t. body_term_depth t ≤ body_nesting all) (judge_method m n c ps all)
    (λ t p. p.0) (method_is m n c ps all)

pub method_height : {F : Type 0} (m : Marks F) (n : Names) (c : Enclosing) (ps : List Param) (all : List Tree)
    → IfSound (judge_method m n c ps all) (λ t. term_height t ≤ body_levels all)
method_height m n c ps all = weaker (IsBody all) (λ t. term_height t ≤ body_levels all) (judge_method m n c ps all)
    (λ t p. p.1) (method_is m n c ps all)

-- of a body that is sound
pub body_of : {F : Type 0} (m : Marks F) (n : Names) (c : Enclosing) (ps : List Param) (all : List Tree) (t : Term)
    → judge_method m n c ps all ≡ Sound t → IsBody all t
body_of m n c ps all t e = subst (λ (x : Judged Term _). IfSound x (IsBody all)) e (method_is m n c ps all)
