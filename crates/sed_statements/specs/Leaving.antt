-- Rule 18: `break` stands in a loop or a `switch`, and `continue` in a loop.
use Rattle.std.specs.Prelude.{ℕ, true, false}
use Rattle.sed_terms.specs.declared.judged.Judged.{Judged}
use Rattle.sed_terms.specs.declared.sign.Sign.TheVariants as sign
use Rattle.sed_terms.specs.Faults.{Marks, broken, unless}
use Rattle.sed_terms.specs.Term.{Term, leaf}
use Rattle.sed_statements.specs.declared.leaving.Around.{Around}

-- what the statements of a method's own body stand in
abbrev pub outermost : Around
outermost = record { breaks = false; continues = false }

abbrev pub in_loop : Around
in_loop = record { breaks = true; continues = true }

-- a `switch` in a loop may be left for the loop's next round
abbrev pub in_switch : Around → Around
in_switch around = record { breaks = true; continues = around.continues }

abbrev pub broken_off : {F : Type 0} → Marks F → Around → ℕ → Judged Term F
broken_off m around at = unless m around.breaks (broken 18 at) (leaf sign.Break)

abbrev pub continued : {F : Type 0} → Marks F → Around → ℕ → Judged Term F
continued m around at = unless m around.continues (broken 18 at) (leaf sign.Continue)
