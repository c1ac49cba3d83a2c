use Rattle.std.proofs.Common.{sym, ◌∙◌}
use Rattle.std.proofs.lemmas.Bool.{and_parts}
use Rattle.scode_fields.proofs.Apart.{wide_fields}
use Rattle.scode_fields.proofs.fields.fields_are_laid.Goals as goal

pub all_apart-requires-clause-wide : goal.all_apart-requires-clause-wide
all_apart-requires-clause-wide c =
    let all = sym c.are_of_class_and_count.ensures ∙ c.if-not-are_of_class_and_count.false in
    let first = and_parts _ _ (and_parts _ _ all).0 in
    wide_fields c.args.image.now c.args.fields.now first.0 first.1 (and_parts _ _ all).1
