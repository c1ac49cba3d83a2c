use Rattle.sed_engine.specs.Code.{root_of}
use Rattle.scode_code.specs.Image.{meaning_of}
use Rattle.scode_engine.specs.Loaded.{statics_of}
use Rattle.scode_engine.proofs.Leaving.{live_left, loaded_left, may_be_asked, object_is}
use Rattle.scode_engine.proofs.laws.root_calls_leave_objects.Goals as goal

pub returns-clause-asked : goal.returns-clause-asked
returns-clause-asked c = λ image h p o which argument turns moment is at may some most long.
    may_be_asked image h p o which argument turns moment is at may some most long

pub returns-clause-left : goal.returns-clause-left
returns-clause-left c = λ image old new p o which argument turns moment at left.
    live_left image old new p (root_of (meaning_of image) o (statics_of image old) which argument turns moment) o at
    left

pub returns-clause-loaded : goal.returns-clause-loaded
returns-clause-loaded c = λ image old new p o which argument turns moment is at left.
    let m = meaning_of image in
    let whole = c.verified_images_are_whole.ensures image is.verified in
    let object = object_is image old is p.0 o at in
    loaded_left image old new p (root_of m o (statics_of image old) which argument turns moment) is o at left
    (c.what_is_kept_fits.ensures.called m o (statics_of image old) which argument turns moment whole object
    is.statics)
    (c.what_is_kept_fits.ensures.statics m o (statics_of image old) which argument turns moment whole object
    is.statics)
