-- Units that break no rule: no class does, those of `sys` among them.
use Rattle.std.proofs.Common.{◌≡◌, ◌<◌, ◌+◌, ℕ, List, [], length, get_or, slice_get, Some, sym, ap, ◌∙◌}
use Rattle.std.proofs.lemmas.Option.{get_or_from_slice_get, slice_get_within}
use Rattle.sed_typed.specs.declared.program.Program.{Program}
use Rattle.sed_classes.specs.declared.kit_units.KitUnits.{KitUnits}
use Rattle.sed_classes.specs.Declarations.{Declaration, declared_in}
use Rattle.sed_classes.specs.Faults.{declaration_faults, faults_of}
use Rattle.sed_outline.specs.Fits.{Unbroken}
use Rattle.sed_outline.proofs.Fitting.{declared_free, no_back}
use Rattle.sed_program.specs.Ordered.{IsOrdered}
use Rattle.sed_member_laws.specs.Faultless.{AreFree}
use Rattle.sed_member_laws.proofs.SysFree.{all_free}

own_free : (units : List KitUnits) → faults_of units ≡ [] → (i : ℕ) (d : Declaration) →
    slice_get (declared_in units) i ≡ Some d →
    declaration_faults units (5 + i) d ≡ []
own_free units none i d e =
    let within : i < length (declared_in units) = slice_get_within (declared_in units) i d e in
    let same : get_or (declared_in units) i d ≡ d = get_or_from_slice_get (declared_in units) i d d e in
    sym (ap (declaration_faults units (5 + i)) same) ∙ declared_free units i d none within

pub are_free : (units : List KitUnits) (program : Program) → Unbroken units → IsOrdered units program → AreFree units
are_free units program u o = record {
  free = all_free units program o (no_back units u.faultless)
      (own_free units u.faultless);
}
