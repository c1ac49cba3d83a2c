use Rattle.scode_code.specs.Image.{meaning_of}
use Rattle.scode_mem.specs.Blocks.{Held}
use Rattle.scode_engine.specs.Loaded.{statics_of}
use Rattle.scode_whole.proofs.Whole.{first_rule}
use Rattle.std.proofs.Common.{refl}
use Rattle.scode_engine.proofs.Adding.{class_within, few_live, fresh, full, live, loaded, nothing_new, same_rest}
use Rattle.scode_engine.proofs.objects.add_object.Goals as goal

pub add-requires-clause-class : goal.add-requires-clause-class
add-requires-clause-class c =
    class_within c.args.image.now c.args.pool.now c.requires.loaded c.args.t.0 c.requires.creatable

pub add-requires-clause-few : goal.add-requires-clause-few
add-requires-clause-few c = few_live c.args.image.now c.args.pool.now c.requires.few

pub returns-clause-loaded : goal.returns-clause-loaded
returns-clause-loaded c =
    let image = c.args.image.now in
    let is = c.requires.loaded in
    loaded image c.args.pool.now c.add.new.self is c.args.t.0 c.add.result
    (c.what_is_kept_fits.ensures.new (meaning_of image) c.args.t.0
    (c.verified_images_are_whole.ensures image is.verified) c.requires.creatable)
    (λ place. c.blocks_fit_on.ensures.added image c.args.pool.now place c.args.t.0 (first_rule image is.verified)
    is.firsts is.blocks) c.add.ensures.added c.add.ensures.refused

pub returns-clause-fresh : goal.returns-clause-fresh
returns-clause-fresh c =
    fresh c.args.image.now c.args.pool.now c.add.new.self c.requires.loaded c.args.t.0 c.add.result c.add.ensures.fresh

pub returns-clause-added : goal.returns-clause-added
returns-clause-added c =
    live c.args.image.now c.args.pool.now c.add.new.self c.requires.loaded c.args.t.0 c.add.result c.add.ensures.added

pub returns-clause-refused : goal.returns-clause-refused
returns-clause-refused c =
    nothing_new c.args.image.now c.args.pool.now c.add.new.self c.requires.loaded c.args.t.0 c.add.result
    c.add.ensures.refused

pub returns-clause-full : goal.returns-clause-full
returns-clause-full c =
    full c.args.image.now c.args.pool.now c.add.new.self c.requires.loaded c.args.t.0 c.add.result c.add.ensures.full

pub returns-clause-statics : goal.returns-clause-statics
returns-clause-statics c =
    same_rest c.args.image.now c.args.pool.now c.add.new.self c.requires.loaded c.args.t.0 c.add.result
    (statics_of c.args.image.now) (λ place. refl) c.add.ensures.added c.add.ensures.refused

pub returns-clause-limit : goal.returns-clause-limit
returns-clause-limit c =
    same_rest c.args.image.now c.args.pool.now c.add.new.self c.requires.loaded c.args.t.0 c.add.result
    (λ (h : Held). h.limit) (λ place. refl) c.add.ensures.added c.add.ensures.refused
