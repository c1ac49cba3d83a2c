use Rattle.scode_access.proofs.OnStrs.{may_stand, may_text, reads_null, reads_str, reads_text}
use Rattle.scode_access.proofs.strs.text_of.Goals as goal

pub read_str-requires-clause-there : goal.read_str-requires-clause-there
read_str-requires-clause-there c =
    let stands = may_stand c.args.image.now c.args.v c.args.pool.now c.strs_are_found.ensures.found c.requires.may
    c.in-Str.block c.in-Str.offset c.in-Str.size c.in-Str.is in
    stands.1.has

pub read_str-requires-clause-reach : goal.read_str-requires-clause-reach
read_str-requires-clause-reach c =
    let stands = may_stand c.args.image.now c.args.v c.args.pool.now c.strs_are_found.ensures.found c.requires.may
    c.in-Str.block c.in-Str.offset c.in-Str.size c.in-Str.is in
    stands.1.reach

pub returns-in-Str : goal.returns-in-Str
returns-in-Str c =
    reads_str c.args.image.now c.args.v c.args.pool.now c.strs_are_found.ensures.found
    c.in-Str.block c.in-Str.offset c.in-Str.size c.read_str.result c.in-Str.is c.read_str.ensures.path

pub returns-in-Null : goal.returns-in-Null
returns-in-Null c = reads_null c.args.image.now c.args.v c.args.pool.now c.in-Null.is

pub text_at-requires : goal.text_at-requires
text_at-requires c =
    may_text c.args.image.now c.args.v c.args.pool.now c.requires.may c.in-Text.number c.in-Text.is

pub returns-in-Text : goal.returns-in-Text
returns-in-Text c =
    reads_text c.args.image.now c.args.v c.args.pool.now c.in-Text.number c.text_at.result c.in-Text.is c.text_at.ensures
