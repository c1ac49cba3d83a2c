use Rattle.std.proofs.Common.{◌≡◌, ◌∙◌, Err, Ok, Result, ap}
use Rattle.std.specs.Prelude.{IfOk}
use Rattle.sed_engine.specs.Code.{Meaning}
use Rattle.sed_engine.specs.Program as source
use Rattle.scode_code.specs.Image as made
use Rattle.scode_engine.specs.contracts.machine.MachineEngine.TheImpl as machine
use Rattle.scode_compile.proofs.compiled.Compiled.machine.Goals as goal

in_ok : {T E : Type 0} (P R Q : T → Type 0) (r : Result T E) → ((t : T) → P t → R t → Q t) → IfOk r P → IfOk r R → IfOk r Q
in_ok P R Q (Ok t) f p r = f t p r
in_ok P R Q (Err e) f p r = tt

pub returns-clause-meaning : goal.returns-clause-meaning
returns-clause-meaning c =
    in_ok (λ m. m.image ≡ c.self.inside.image) (λ m. m.image ≡ c.self.inside.image) (λ m. made.meaning_of m.image ≡ source.meaning_of c.args.self) c.new.result
    (λ m same also. ap made.meaning_of same ∙ c.self.invariant.means ∙ ap source.meaning_of c.self.view_is) c.new.ensures.image c.new.ensures.image

pub returns-clause-statics : goal.returns-clause-statics
returns-clause-statics c =
    in_ok (λ m. m.image ≡ c.self.inside.image) (λ m. machine.ghosts.statics m ≡ (made.meaning_of m.image).initial_statics) (λ m. machine.ghosts.statics m ≡ (source.meaning_of c.args.self).initial_statics) c.new.result
    (λ m same begun. begun ∙ ap (λ (n : Meaning). n.initial_statics) (ap made.meaning_of same ∙ c.self.invariant.means ∙ ap source.meaning_of c.self.view_is)) c.new.ensures.image c.new.ensures.statics
