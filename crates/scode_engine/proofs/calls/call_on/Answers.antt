use Rattle.std.proofs.Common.{◌≡◌, ℤ, sym, subst}
use Rattle.std.specs.FinMap as finite
use Rattle.std.specs.Int.{w64}
use Rattle.std.proofs.lemmas.Bool.{lt-ltb}
use Rattle.std.proofs.lemmas.Int.{to_z-of_z}
use Rattle.sed_engine.specs.Code.{Object, called, root_of}
use Rattle.scode_code.specs.Image.{meaning_of}
use Rattle.scode_engine.specs.AtWork.{running_on}
use Rattle.scode_engine.specs.Loaded.{live_of, statics_of}
use Rattle.scode_engine.specs.Answered.{IsAnswered, IsReady}
use Rattle.scode_engine.proofs.Asking.{is_ready, its_block, its_end, its_left, its_may, its_object, own, root_at, said}
use Rattle.scode_engine.proofs.calls.call_on.Goals as goal

pub kind-requires : goal.kind-requires
kind-requires c =
    its_block c.args.code.now.image.now c.args.pool.now c.args.asked.now.place c.args.asked.now.which c.args.asked.now.argument.now c.args.asked.now.turns c.args.moment
    c.requires.may

pub answer-requires-clause-ready : goal.answer-requires-clause-ready
answer-requires-clause-ready c =
    let image = c.args.code.now.image.now in
    let h = c.args.pool.now in
    let p = c.args.asked.now.place in
    let which = c.args.asked.now.which in
    let argument = c.args.asked.now.argument.now in
    let turns = c.args.asked.now.turns in
    let moment = c.args.moment in
    let may = c.requires.may in
    let o = own image h p which argument turns moment may in
    let at = its_object image h p which argument turns moment may in
    let class = c.kind.result.0 in
    let asked =
    c.root_calls_leave_objects.ensures.asked image h p o which argument turns moment c.requires.loaded at
    (its_may image h p which argument turns moment may) c.requires.some_turns c.requires.most_turns
    (lt-ltb _ _ c.ranges.moment.sfits) in
    subst (λ (z : ℤ). IsReady (root_at image class p z) which argument (running_on c.args.cells.now h turns))
    (sym (to_z-of_z w64 moment c.ranges.moment))
    (is_ready image h p which argument turns moment may class c.kind.ensures asked c.requires.loaded
    c.args.cells.now c.requires.cells.enough c.requires.cells.idle)

pub returns-clause-loaded : goal.returns-clause-loaded
returns-clause-loaded c =
    let image = c.args.code.now.image.now in
    let h = c.args.pool.now in
    let p = c.args.asked.now.place in
    let which = c.args.asked.now.which in
    let argument = c.args.asked.now.argument.now in
    let turns = c.args.asked.now.turns in
    let moment = c.args.moment in
    let may = c.requires.may in
    let o = own image h p which argument turns moment may in
    let at = its_object image h p which argument turns moment may in
    let class = c.kind.result.0 in
    let asked =
    c.root_calls_leave_objects.ensures.asked image h p o which argument turns moment c.requires.loaded at
    (its_may image h p which argument turns moment may) c.requires.some_turns c.requires.most_turns
    (lt-ltb _ _ c.ranges.moment.sfits) in
    let answered =
    subst (λ (z : ℤ). IsAnswered (root_at image class p z) which argument (running_on c.args.cells.now h turns)
    c.answer.result c.answer.new.cells c.answer.new.pool) (to_z-of_z w64 moment c.ranges.moment) c.answer.ensures in
    let left =
    its_left image h p which argument turns moment may class c.kind.ensures asked c.args.cells.now
    c.answer.new.cells c.answer.new.pool c.answer.result answered in
    c.root_calls_leave_objects.ensures.loaded image h c.answer.new.pool p o which argument turns moment
    c.requires.loaded at left

pub returns-clause-end : goal.returns-clause-end
returns-clause-end c =
    let image = c.args.code.now.image.now in
    let h = c.args.pool.now in
    let p = c.args.asked.now.place in
    let which = c.args.asked.now.which in
    let argument = c.args.asked.now.argument.now in
    let turns = c.args.asked.now.turns in
    let moment = c.args.moment in
    let may = c.requires.may in
    let o = own image h p which argument turns moment may in
    let at = its_object image h p which argument turns moment may in
    let class = c.kind.result.0 in
    let asked =
    c.root_calls_leave_objects.ensures.asked image h p o which argument turns moment c.requires.loaded at
    (its_may image h p which argument turns moment may) c.requires.some_turns c.requires.most_turns
    (lt-ltb _ _ c.ranges.moment.sfits) in
    let answered =
    subst (λ (z : ℤ). IsAnswered (root_at image class p z) which argument (running_on c.args.cells.now h turns)
    c.answer.result c.answer.new.cells c.answer.new.pool) (to_z-of_z w64 moment c.ranges.moment) c.answer.ensures in
    said image h p which argument turns moment may
    (λ (x : Object). c.answer.result ≡ (root_of (meaning_of image) x (statics_of image h) which argument turns moment).end)
    (its_end image h p which argument turns moment may class c.kind.ensures asked c.args.cells.now
    c.answer.new.cells c.answer.new.pool c.answer.result answered)

pub returns-clause-left : goal.returns-clause-left
returns-clause-left c =
    let image = c.args.code.now.image.now in
    let h = c.args.pool.now in
    let p = c.args.asked.now.place in
    let which = c.args.asked.now.which in
    let argument = c.args.asked.now.argument.now in
    let turns = c.args.asked.now.turns in
    let moment = c.args.moment in
    let may = c.requires.may in
    let o = own image h p which argument turns moment may in
    let at = its_object image h p which argument turns moment may in
    let class = c.kind.result.0 in
    let asked =
    c.root_calls_leave_objects.ensures.asked image h p o which argument turns moment c.requires.loaded at
    (its_may image h p which argument turns moment may) c.requires.some_turns c.requires.most_turns
    (lt-ltb _ _ c.ranges.moment.sfits) in
    let answered =
    subst (λ (z : ℤ). IsAnswered (root_at image class p z) which argument (running_on c.args.cells.now h turns)
    c.answer.result c.answer.new.cells c.answer.new.pool) (to_z-of_z w64 moment c.ranges.moment) c.answer.ensures in
    let left =
    its_left image h p which argument turns moment may class c.kind.ensures asked c.args.cells.now
    c.answer.new.cells c.answer.new.pool c.answer.result answered in
    said image h p which argument turns moment may
    (λ (x : Object). live_of image c.answer.new.pool ≡ finite.insert (live_of image h) p.0 (called x
    (root_of (meaning_of image) x (statics_of image h) which argument turns moment)))
    (c.root_calls_leave_objects.ensures.left image h c.answer.new.pool p o which argument turns moment at left)

pub returns-clause-statics : goal.returns-clause-statics
returns-clause-statics c =
    let image = c.args.code.now.image.now in
    let h = c.args.pool.now in
    let p = c.args.asked.now.place in
    let which = c.args.asked.now.which in
    let argument = c.args.asked.now.argument.now in
    let turns = c.args.asked.now.turns in
    let moment = c.args.moment in
    let may = c.requires.may in
    let o = own image h p which argument turns moment may in
    let at = its_object image h p which argument turns moment may in
    let class = c.kind.result.0 in
    let asked =
    c.root_calls_leave_objects.ensures.asked image h p o which argument turns moment c.requires.loaded at
    (its_may image h p which argument turns moment may) c.requires.some_turns c.requires.most_turns
    (lt-ltb _ _ c.ranges.moment.sfits) in
    let answered =
    subst (λ (z : ℤ). IsAnswered (root_at image class p z) which argument (running_on c.args.cells.now h turns)
    c.answer.result c.answer.new.cells c.answer.new.pool) (to_z-of_z w64 moment c.ranges.moment) c.answer.ensures in
    let left =
    its_left image h p which argument turns moment may class c.kind.ensures asked c.args.cells.now
    c.answer.new.cells c.answer.new.pool c.answer.result answered in
    said image h p which argument turns moment may
    (λ (x : Object). statics_of image c.answer.new.pool
    ≡ (root_of (meaning_of image) x (statics_of image h) which argument turns moment).statics) left.statics
