use Rattle.scode_whole.proofs.Whole.{first_rule}
use Rattle.scode_engine.proofs.Changes.{outcome_empty, outcome_loaded, outcome_statics}
use Rattle.scode_engine.proofs.objects.new_objects.Goals as goal

pub returns-clause-loaded : goal.returns-clause-loaded
returns-clause-loaded c =
    let image = c.args.image.now in
    let verified = c.requires in
    let whole = c.verified_images_are_whole.ensures image verified in
    outcome_loaded image c.new.result verified whole.tables.first_statics
    (λ h live statics. c.blocks_fit_on.ensures.first image h (first_rule image verified) live statics)
    c.new.ensures.firsts c.new.ensures.empty c.new.ensures.statics

pub returns-clause-empty : goal.returns-clause-empty
returns-clause-empty c = outcome_empty c.args.image.now c.new.result c.new.ensures.empty

pub returns-clause-statics : goal.returns-clause-statics
returns-clause-statics c = outcome_statics c.args.image.now c.new.result c.new.ensures.statics
