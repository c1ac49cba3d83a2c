use Rattle.std.proofs.Common.{◌∙◌, ap, position, sym}
use Rattle.sed_typed.specs.declared.schema.Schema.{Schema}
use Rattle.sed_engine.specs.Runnable.{is_first}
use Rattle.sed_cycles.proofs.Running.{after_first, in_ok}
use Rattle.sed_cycles.proofs.cycles.cycles_text.Goals as goal

pub returns-in-Ok : goal.returns-in-Ok
returns-in-Ok g c = in_ok _ _ c.text_of.result
    (λ text is. after_first (g.E.Engine.meaning c.args.engine) c.args.cycles c.in-Ok.number c.in-Some.place _
    (ap (λ (s : Schema). position is_first s.classes) (sym c.schema.ensures.same)
    ∙ ap (position is_first) (sym c.as_slice.ensures) ∙ sym c.in-Some.ensures) c.in-Ok.ensures.1 is)
    c.text_of.ensures
