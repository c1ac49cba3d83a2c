use Rattle.std.proofs.lemmas.Int.{to_z-of_z}
use Rattle.std.proofs.Common.{rules, FitsSigned, w32, ◌∙◌, ℕ, ℤ, Result, Ok, sym, ap}
use Rattle.sed_typed.specs.declared.operators.Width.TheVariants.{Int as IntWidth}
use Rattle.sed_engine.specs.Stops.{Stop, map_ok}
use Rattle.sed_engine.specs.Values.{whole}
use Rattle.sed_engine.specs.Statements.{label_of}
use Rattle.walk_steps.specs.declared.word.Word.{Word}
use Rattle.walk_steps.specs.Seen.{seen}
use Rattle.sed_walk.proofs.bodies.start_of.Goals as goal

pub returns-in-Int : goal.returns-in-Int
returns-in-Int c = λ plan class.
    let good : ℕ → Result ℕ Stop = λ i. Ok i in
    let fits : FitsSigned w32 c.in-Int.number = search rules in
    ap good (c.label_of.ensures ∙ ap (λ (n : ℤ). label_of c.args.labels.now n) (to_z-of_z w32 c.in-Int.number fits))
    ∙ ap (λ (v : Word). map_ok (λ (n : ℤ). label_of c.args.labels.now n) (whole IntWidth (seen plan class v))) (sym c.in-Int.is)
