-- What members count against a limit, and where a sum of it passes.
use Rattle.std.specs.Prelude.{ℕ, ◌+◌, List, ◌++◌, sum_by, take}
use Rattle.sed_units.specs.declared.classes.Member.{Member}
use Rattle.sed_faults.specs.declared.fault.Fault.{Fault}
use Rattle.sed_faults.specs.Faults.{broken_if, said_from}
use Rattle.sed_classes.specs.declared.kit_units.KitUnits.{KitUnits}
use Rattle.sed_classes.specs.Declarations.{Declaration}
use Rattle.sed_classes.specs.Members.{is_method}
use Rattle.sed_classes.specs.Objects.{data_of, data_size}
use Rattle.sed_classes.specs.Slots.{shape_of}
use Rattle.sed_classes.specs.LimitRules.{one_if, new_virtual, slot_count, config_of, runtime_of, static_of, passes}
use Rattle.sed_classes.specs.LimitRules.{passes_at, too_much_data, too_many_statics}
use Rattle.sed_first_fault.specs.declared.counted.Counted.{Counted}
use Rattle.sed_first_fault.specs.declared.counted.Counted.TheVariants.{Methods, Virtual, Slots, Config, Runtime, Data}
use Rattle.sed_first_fault.specs.declared.counted.Counted.TheVariants.{Statics}

-- what a member of a class of a kit counts
abbrev pub count_as : Counted → List KitUnits → ℕ → Member → ℕ
count_as Methods units kit m = one_if (is_method m)
count_as Virtual units kit m = new_virtual kit m
count_as Slots units kit m = slot_count (shape_of units kit m)
count_as Config units kit m = config_of (shape_of units kit m)
count_as Runtime units kit m = runtime_of (shape_of units kit m)
count_as Data units kit m = data_of units (data_size units) kit m
count_as Statics units kit m = static_of units kit m

-- the fault of the member of a number, with which a sum over these members passes a bound, begun with what came before
abbrev pub passing : ℕ → (Member → ℕ) → ℕ → List Member → ℕ → Member → List Fault
passing most count before members i m =
    broken_if (passes most (before + sum_by count (take i members)) (count m)) 22 m.at

-- the same, where what came before is what a class inherits
abbrev pub summed : ℕ → Counted → List KitUnits → ℕ → Declaration → ℕ → Member → List Fault
summed most counted units class d i m = broken_if (passes_at most (count_as counted units) units class d i m) 22 m.at

-- what is broken of the limits on sizes
abbrev pub size_faults : List KitUnits → ℕ → Declaration → List Fault
size_faults units class d =
    said_from (too_much_data units class d) 0 d.class.members
    ++ said_from (too_many_statics units class d) 0 d.class.members
