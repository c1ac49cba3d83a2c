use Rattle.std.proofs.Common.{◌≡◌, List, ℕ, ap, Err, subst, sym}
use Rattle.std.specs.Prelude.{◌⊎◌, IsSomeAnd}
use Rattle.sed_classes.specs.declared.kit_units.KitUnits.{KitUnits}
use Rattle.kit_sources.specs.Refusals.{name_at}
use Rattle.sed_check.specs.Read.{AreRead}
use Rattle.sed_check.specs.Checked.{first_fault, IsFault}
use Rattle.sed_check.specs.declared.refusal.KitsRefusal.TheVariants.{Rule, Memory}
use Rattle.sed_check.proofs.Loads.{broken_there}
use Rattle.sed_check.proofs.kits_checking.checked.Goals as goal

pub check-requires-clause-read : goal.check-requires-clause-read
check-requires-clause-read c = subst (λ (kits : List KitUnits). AreRead kits) (sym c.as_slice.ensures) c.requires.read

pub returns-in-Err-Fault-clause-said : goal.returns-in-Err-Fault-clause-said
returns-in-Err-Fault-clause-said c =
    let f = c.in-Err-Fault in
    broken_there c.args.sources.now c.args.cycles f.file f.at f.rule c.broken.result
    (subst (λ (names : List (List ℕ)). (c.broken.result ≡ Rule (name_at names f.file) f.at f.rule) ⊎ (c.broken.result ≡ Memory)) c.as_slice-in-Err-Fault.ensures c.broken.ensures)
    (subst (λ (kits : List KitUnits). IsSomeAnd (first_fault kits c.args.cycles) (IsFault kits f.rule f.file f.at)) c.as_slice.ensures
    (f.ensures.fault f.rule f.file f.at (ap Err f.field-0-is)))
