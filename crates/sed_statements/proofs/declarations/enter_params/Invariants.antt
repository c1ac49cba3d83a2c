use Rattle.std.proofs.Common.{◌≡◌, true, drop}
use Rattle.sed_terms.specs.declared.judged.Judged.TheVariants.{Sound}
use Rattle.sed_terms.specs.Faults.{least_fault}
use Rattle.sed_body_rules.specs.Scope.{behind_params}
use Rattle.sed_statements.specs.Declarations.{are_free_names}
use Rattle.sed_statements.proofs.declarations.enter_params.Given as goal

abbrev pub invariant-loop-p : goal.invariant-loop-p
invariant-loop-p g l = record {
  judged : are_free_names least_fault (g.N.Lookup.names l.names) l.scope l.x (drop l.p-index l.params)
      ≡ are_free_names least_fault (g.N.Lookup.names l.names) l.fn.scope (Sound true) l.params;
  entered : behind_params (g.N.Lookup.names l.names) l.scope (drop l.p-index l.params) ≡ behind_params (g.N.Lookup.names l.names) l.fn.scope l.params;
}
