use Rattle.std.proofs.Common.{◌∙◌, ap, sym, subst}
use Rattle.scode_mem.specs.Blocks.{Held}
use Rattle.scode_engine.specs.Loaded.{IsLoaded, live_of, statics_of}
use Rattle.scode_engine.proofs.Changes.{live_removed, loaded_removed, some_live}
use Rattle.scode_engine.proofs.objects.remove_object.Goals as goal

pub remove-requires : goal.remove-requires
remove-requires c = some_live c.args.image.now c.args.pool.now c.args.p.0 c.requires.live

pub returns-clause-loaded : goal.returns-clause-loaded
returns-clause-loaded c =
    let image = c.args.image.now in
    let is = c.requires.loaded in
    subst (IsLoaded image) (sym c.remove.ensures)
    (loaded_removed image c.args.pool.now is c.args.p.0
    (c.blocks_fit_on.ensures.removed image c.args.pool.now c.args.p.0 is.blocks))

pub returns-clause-removed : goal.returns-clause-removed
returns-clause-removed c =
    ap (live_of c.args.image.now) c.remove.ensures
    ∙ live_removed c.args.image.now c.args.pool.now c.requires.loaded c.args.p.0

pub returns-clause-statics : goal.returns-clause-statics
returns-clause-statics c = ap (statics_of c.args.image.now) c.remove.ensures

pub returns-clause-limit : goal.returns-clause-limit
returns-clause-limit c = ap (λ (h : Held). h.limit) c.remove.ensures
