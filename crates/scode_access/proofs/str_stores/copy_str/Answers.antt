use Rattle.std.proofs.Common.{◌∷◌, ◌∙◌, ℕ, List, subst, ap}
use Rattle.sed_engine.specs.Texts.{characters}
use Rattle.scode_cells.specs.declared.cell.Cell.{Cell}
use Rattle.scode_cells.specs.Frames.{running}
use Rattle.scode_access.proofs.DoneStrStores.{FillsStr, copy_does, copy_from_kind, copy_kind, copy_may, copy_null, copy_some, copy_stands, copy_text, copy_traps, copy_two, none_else, str_into, text_into, two_left, two_off}
use Rattle.scode_access.proofs.Going.{popped_is}
use Rattle.scode_access.proofs.str_stores.copy_str.Goals as goal

pub pop-from-requires : goal.pop-from-requires
pop-from-requires c =
    copy_some c.strs_are_found.ensures.found c.strs_are_found.ensures.objects c.strs_hold_bytes.ensures c.args.image.now
    c.args.cells.now c.args.pool.now c.requires

pub pop-into-requires : goal.pop-into-requires
pop-into-requires c =
    copy_two c.strs_are_found.ensures.found c.strs_are_found.ensures.objects c.strs_hold_bytes.ensures c.args.image.now
    c.args.cells.now c.args.pool.now c.requires c.pop-from.result (running c.pop-from.new.self).stack
    (popped_is c.args.cells.now c.pop-from.new.self c.pop-from.result c.pop-from.ensures.top c.pop-from.ensures.rest)

pub unreachable-requires : goal.unreachable-requires
unreachable-requires c =
    let all = two_off c.args.cells.now c.pop-from.new.self c.pop-into.new.self c.pop-from.result c.pop-into.result
    c.pop-from.ensures.top c.pop-from.ensures.rest c.pop-into.ensures.top c.pop-into.ensures.rest in
    let rest = (running c.pop-into.new.self).stack in
    let image = c.args.image.now in
    let s = c.args.cells.now in
    let h = c.args.pool.now in
    let from = c.pop-from.result in
    none_else c.pop-into.result
    (copy_kind c.strs_are_found.ensures.found c.strs_are_found.ensures.objects c.strs_hold_bytes.ensures image s h from c.pop-into.result rest all c.requires)
    c.in_default.not-Str c.in_default.not-Text c.in_default.not-Null

pub text_of-requires-clause-kind : goal.text_of-requires-clause-kind
text_of-requires-clause-kind c =
    let all = two_off c.args.cells.now c.pop-from.new.self c.pop-into.new.self c.pop-from.result c.pop-into.result
    c.pop-from.ensures.top c.pop-from.ensures.rest c.pop-into.ensures.top c.pop-into.ensures.rest in
    let rest = (running c.pop-into.new.self).stack in
    let image = c.args.image.now in
    let s = c.args.cells.now in
    let h = c.args.pool.now in
    let from = c.pop-from.result in
    let reads = str_into c.strs_are_found.ensures.found c.strs_are_found.ensures.objects c.strs_hold_bytes.ensures image s h from c.pop-into.result rest all
    c.in-Str.block c.in-Str.offset c.in-Str.size c.in-Str.is in
    copy_from_kind c.strs_are_found.ensures.found c.strs_are_found.ensures.objects c.strs_hold_bytes.ensures image s h from c.pop-into.result rest all reads c.requires

pub text_of-requires-clause-may : goal.text_of-requires-clause-may
text_of-requires-clause-may c =
    let all = two_off c.args.cells.now c.pop-from.new.self c.pop-into.new.self c.pop-from.result c.pop-into.result
    c.pop-from.ensures.top c.pop-from.ensures.rest c.pop-into.ensures.top c.pop-into.ensures.rest in
    let rest = (running c.pop-into.new.self).stack in
    let image = c.args.image.now in
    let s = c.args.cells.now in
    let h = c.args.pool.now in
    let from = c.pop-from.result in
    let reads = str_into c.strs_are_found.ensures.found c.strs_are_found.ensures.objects c.strs_hold_bytes.ensures image s h from c.pop-into.result rest all
    c.in-Str.block c.in-Str.offset c.in-Str.size c.in-Str.is in
    copy_may c.strs_are_found.ensures.found c.strs_are_found.ensures.objects c.strs_hold_bytes.ensures image s h from c.pop-into.result rest all reads c.requires

pub text_of-requires-in-Text-clause-kind : goal.text_of-requires-in-Text-clause-kind
text_of-requires-in-Text-clause-kind c =
    let all = two_off c.args.cells.now c.pop-from.new.self c.pop-into.new.self c.pop-from.result c.pop-into.result
    c.pop-from.ensures.top c.pop-from.ensures.rest c.pop-into.ensures.top c.pop-into.ensures.rest in
    let rest = (running c.pop-into.new.self).stack in
    let image = c.args.image.now in
    let s = c.args.cells.now in
    let h = c.args.pool.now in
    let from = c.pop-from.result in
    let reads = text_into c.strs_are_found.ensures.found c.strs_are_found.ensures.objects c.strs_hold_bytes.ensures image s h from c.pop-into.result rest all
    c.in-Text.field-0 c.in-Text.is in
    copy_from_kind c.strs_are_found.ensures.found c.strs_are_found.ensures.objects c.strs_hold_bytes.ensures image s h from c.pop-into.result rest all reads c.requires

pub text_of-requires-in-Text-clause-may : goal.text_of-requires-in-Text-clause-may
text_of-requires-in-Text-clause-may c =
    let all = two_off c.args.cells.now c.pop-from.new.self c.pop-into.new.self c.pop-from.result c.pop-into.result
    c.pop-from.ensures.top c.pop-from.ensures.rest c.pop-into.ensures.top c.pop-into.ensures.rest in
    let rest = (running c.pop-into.new.self).stack in
    let image = c.args.image.now in
    let s = c.args.cells.now in
    let h = c.args.pool.now in
    let from = c.pop-from.result in
    let reads = text_into c.strs_are_found.ensures.found c.strs_are_found.ensures.objects c.strs_hold_bytes.ensures image s h from c.pop-into.result rest all
    c.in-Text.field-0 c.in-Text.is in
    copy_may c.strs_are_found.ensures.found c.strs_are_found.ensures.objects c.strs_hold_bytes.ensures image s h from c.pop-into.result rest all reads c.requires

pub fill_str-requires-clause-some : goal.fill_str-requires-clause-some
fill_str-requires-clause-some c =
    let all = two_off c.args.cells.now c.pop-from.new.self c.pop-into.new.self c.pop-from.result c.pop-into.result
    c.pop-from.ensures.top c.pop-from.ensures.rest c.pop-into.ensures.top c.pop-into.ensures.rest in
    let rest = (running c.pop-into.new.self).stack in
    let image = c.args.image.now in
    let s = c.args.cells.now in
    let h = c.args.pool.now in
    let from = c.pop-from.result in
    let e = all ∙ ap (λ (v : Cell). from ∷ v ∷ rest) c.in-Str.is in
    let t = copy_stands c.strs_are_found.ensures.found c.strs_are_found.ensures.objects c.strs_hold_bytes.ensures image s h from
    c.in-Str.block c.in-Str.offset c.in-Str.size rest e c.requires in
    let sized = c.parts_are_led_to.ensures.strs _ _ _ _ _ _ _ c.requires.ground t.stands in
    sized.0

pub fill_str-requires-clause-there : goal.fill_str-requires-clause-there
fill_str-requires-clause-there c =
    let all = two_off c.args.cells.now c.pop-from.new.self c.pop-into.new.self c.pop-from.result c.pop-into.result
    c.pop-from.ensures.top c.pop-from.ensures.rest c.pop-into.ensures.top c.pop-into.ensures.rest in
    let rest = (running c.pop-into.new.self).stack in
    let image = c.args.image.now in
    let s = c.args.cells.now in
    let h = c.args.pool.now in
    let from = c.pop-from.result in
    let e = all ∙ ap (λ (v : Cell). from ∷ v ∷ rest) c.in-Str.is in
    let t = copy_stands c.strs_are_found.ensures.found c.strs_are_found.ensures.objects c.strs_hold_bytes.ensures image s h from
    c.in-Str.block c.in-Str.offset c.in-Str.size rest e c.requires in
    t.stands.has

pub fill_str-requires-clause-reach : goal.fill_str-requires-clause-reach
fill_str-requires-clause-reach c =
    let all = two_off c.args.cells.now c.pop-from.new.self c.pop-into.new.self c.pop-from.result c.pop-into.result
    c.pop-from.ensures.top c.pop-from.ensures.rest c.pop-into.ensures.top c.pop-into.ensures.rest in
    let rest = (running c.pop-into.new.self).stack in
    let image = c.args.image.now in
    let s = c.args.cells.now in
    let h = c.args.pool.now in
    let from = c.pop-from.result in
    let e = all ∙ ap (λ (v : Cell). from ∷ v ∷ rest) c.in-Str.is in
    let t = copy_stands c.strs_are_found.ensures.found c.strs_are_found.ensures.objects c.strs_hold_bytes.ensures image s h from
    c.in-Str.block c.in-Str.offset c.in-Str.size rest e c.requires in
    t.stands.reach

pub returns-in-Ok : goal.returns-in-Ok
returns-in-Ok c =
    let all = two_off c.args.cells.now c.pop-from.new.self c.pop-into.new.self c.pop-from.result c.pop-into.result
    c.pop-from.ensures.top c.pop-from.ensures.rest c.pop-into.ensures.top c.pop-into.ensures.rest in
    let left = two_left c.args.cells.now c.pop-from.new.self c.pop-into.new.self c.pop-from.result c.pop-into.result
    c.pop-from.ensures.top c.pop-from.ensures.rest c.pop-into.ensures.top c.pop-into.ensures.rest in
    let rest = (running c.pop-into.new.self).stack in
    let image = c.args.image.now in
    let s = c.args.cells.now in
    let h = c.args.pool.now in
    let from = c.pop-from.result in
    let e = all ∙ ap (λ (v : Cell). from ∷ v ∷ rest) c.in-Str.is in
    let all_of = c.characters.ensures.same ∙ ap characters c.as_bytes.ensures.same in
    copy_does c.strs_are_found.ensures.found c.strs_are_found.ensures.objects c.strs_hold_bytes.ensures image s h from
    c.in-Str.block c.in-Str.offset c.in-Str.size rest e c.text_of.result c.in-Ok.text c.in-Ok.is c.text_of.ensures
    c.fill_str.new.pool
    (subst (λ (x : List ℕ). FillsStr h c.fill_str.new.pool c.in-Str.block c.in-Str.offset c.in-Str.size x) all_of
    c.fill_str.ensures.path)
    c.pop-into.new.self left

pub returns-in-Err : goal.returns-in-Err
returns-in-Err c =
    let all = two_off c.args.cells.now c.pop-from.new.self c.pop-into.new.self c.pop-from.result c.pop-into.result
    c.pop-from.ensures.top c.pop-from.ensures.rest c.pop-into.ensures.top c.pop-into.ensures.rest in
    let left = two_left c.args.cells.now c.pop-from.new.self c.pop-into.new.self c.pop-from.result c.pop-into.result
    c.pop-from.ensures.top c.pop-from.ensures.rest c.pop-into.ensures.top c.pop-into.ensures.rest in
    let rest = (running c.pop-into.new.self).stack in
    let image = c.args.image.now in
    let s = c.args.cells.now in
    let h = c.args.pool.now in
    let from = c.pop-from.result in
    let reads = str_into c.strs_are_found.ensures.found c.strs_are_found.ensures.objects c.strs_hold_bytes.ensures image s h from c.pop-into.result rest all
    c.in-Str.block c.in-Str.offset c.in-Str.size c.in-Str.is in
    copy_traps c.strs_are_found.ensures.found c.strs_are_found.ensures.objects c.strs_hold_bytes.ensures image s h from c.pop-into.result rest all reads
    c.text_of.result c.in-Err.trap c.in-Err.is c.text_of.ensures c.pop-into.new.self left

pub returns-in-Ok-text_of : goal.returns-in-Ok-text_of
returns-in-Ok-text_of c =
    let all = two_off c.args.cells.now c.pop-from.new.self c.pop-into.new.self c.pop-from.result c.pop-into.result
    c.pop-from.ensures.top c.pop-from.ensures.rest c.pop-into.ensures.top c.pop-into.ensures.rest in
    let left = two_left c.args.cells.now c.pop-from.new.self c.pop-into.new.self c.pop-from.result c.pop-into.result
    c.pop-from.ensures.top c.pop-from.ensures.rest c.pop-into.ensures.top c.pop-into.ensures.rest in
    let rest = (running c.pop-into.new.self).stack in
    let image = c.args.image.now in
    let s = c.args.cells.now in
    let h = c.args.pool.now in
    let from = c.pop-from.result in
    let e = all ∙ ap (λ (v : Cell). from ∷ v ∷ rest) c.in-Text.is in
    copy_text c.strs_are_found.ensures.found c.strs_are_found.ensures.objects c.strs_hold_bytes.ensures image s h from c.in-Text.field-0 rest e
    c.text_of-in-Text.result c.in-Ok-text_of.field-0 c.in-Ok-text_of.is c.text_of-in-Text.ensures c.pop-into.new.self left

pub returns-in-Err-text_of : goal.returns-in-Err-text_of
returns-in-Err-text_of c =
    let all = two_off c.args.cells.now c.pop-from.new.self c.pop-into.new.self c.pop-from.result c.pop-into.result
    c.pop-from.ensures.top c.pop-from.ensures.rest c.pop-into.ensures.top c.pop-into.ensures.rest in
    let left = two_left c.args.cells.now c.pop-from.new.self c.pop-into.new.self c.pop-from.result c.pop-into.result
    c.pop-from.ensures.top c.pop-from.ensures.rest c.pop-into.ensures.top c.pop-into.ensures.rest in
    let rest = (running c.pop-into.new.self).stack in
    let image = c.args.image.now in
    let s = c.args.cells.now in
    let h = c.args.pool.now in
    let from = c.pop-from.result in
    let reads = text_into c.strs_are_found.ensures.found c.strs_are_found.ensures.objects c.strs_hold_bytes.ensures image s h from c.pop-into.result rest all
    c.in-Text.field-0 c.in-Text.is in
    copy_traps c.strs_are_found.ensures.found c.strs_are_found.ensures.objects c.strs_hold_bytes.ensures image s h from c.pop-into.result rest all reads
    c.text_of-in-Text.result c.in-Err-text_of.trap c.in-Err-text_of.is c.text_of-in-Text.ensures c.pop-into.new.self left

pub returns-in-Null : goal.returns-in-Null
returns-in-Null c =
    let all = two_off c.args.cells.now c.pop-from.new.self c.pop-into.new.self c.pop-from.result c.pop-into.result
    c.pop-from.ensures.top c.pop-from.ensures.rest c.pop-into.ensures.top c.pop-into.ensures.rest in
    let left = two_left c.args.cells.now c.pop-from.new.self c.pop-into.new.self c.pop-from.result c.pop-into.result
    c.pop-from.ensures.top c.pop-from.ensures.rest c.pop-into.ensures.top c.pop-into.ensures.rest in
    let rest = (running c.pop-into.new.self).stack in
    let image = c.args.image.now in
    let s = c.args.cells.now in
    let h = c.args.pool.now in
    let from = c.pop-from.result in
    copy_null c.strs_are_found.ensures.found c.strs_are_found.ensures.objects c.strs_hold_bytes.ensures image s h from c.pop-into.result rest all c.in-Null.is
    c.pop-into.new.self left
