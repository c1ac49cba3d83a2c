use Rattle.std.proofs.Common.{ℕ, List, arith, refl, true, false, subst, sym}
use Rattle.sed_units.specs.declared.classes.Unit.{Unit as TheUnit}
use Rattle.kit_sources.specs.declared.sources.Sources.{Sources}
use Rattle.sed_class_laws.specs.Kits.{KitsNamed}
use Rattle.kit_sources.specs.Sources.{KitsRead, SourceRead}
use Rattle.sed_check.specs.Loading.{KitsLoaded, TextLoaded, local}
use Rattle.sed_check.proofs.Accepting.{loaded_of, loads}
use Rattle.sed_check.proofs.KitsUnits.{all_read, local_few, local_named}
use Rattle.sed_check.proofs.kit_laws.accepted_kits_load.Goals as goal

pub returns-clause-accepted : goal.returns-clause-accepted
unfolding KitsLoaded
returns-clause-accepted c = λ names reads program loaded.
    let of = loaded_of (KitsRead names) (λ (s : Sources). s) false reads program loaded in
    record { sources = of.value; read = of.read; faultless = of.faultless }

pub returns-clause-load : goal.returns-clause-load
unfolding KitsLoaded
returns-clause-load c = λ names reads accepted few bytes short.
    let many = c.kits_are_counted.ensures.kits names reads accepted.sources accepted.read in
    let named : KitsNamed accepted.sources.kits = record {
      names = c.kits_are_named.ensures.names names reads accepted.sources accepted.read;
      once = c.kits_are_named.ensures.once names reads accepted.sources accepted.read;
    } in
    let (program, spelled, typed) = c.accepted_units_have_a_program.ensures accepted.sources.kits false (omega (arith, many, few)) named
    (all_read c.units_are_read.ensures accepted.sources.kits bytes) short accepted.faultless in
    (program, loads (KitsRead names) (λ (s : Sources). s) false reads accepted.sources program accepted.read accepted.faultless spelled, typed)

pub returns-clause-accepted_text : goal.returns-clause-accepted_text
unfolding TextLoaded
returns-clause-accepted_text c = λ name reads program loaded.
    let of = loaded_of (SourceRead name) (λ (u : TheUnit). local name u) true reads program loaded in
    record { unit = of.value; read = of.read; faultless = of.faultless }

pub returns-clause-load_text : goal.returns-clause-load_text
unfolding TextLoaded
returns-clause-load_text c = λ name reads accepted bytes short.
    let sources = local name accepted.unit in
    let (program, spelled, typed) = c.accepted_units_have_a_program.ensures sources.kits true
    (local_few sources name accepted.unit refl) (local_named sources name accepted.unit refl)
    (all_read c.units_are_read.ensures sources.kits bytes) short accepted.faultless in
    (program, loads (SourceRead name) (λ (u : TheUnit). local name u) true reads accepted.unit program accepted.read accepted.faultless spelled, typed)
