use Rattle.std.proofs.Common.{◌<◌, List, length, subst, arith}
use Rattle.std.specs.Prelude.{All}
use Rattle.std.proofs.lemmas.List.{take_all}
use Rattle.sed_typed.specs.declared.program.Method.{Method}
use Rattle.scode_entries.specs.Method.{image_method}
use Rattle.scode_gen.specs.Generated.{IsShort, image_layout}
use Rattle.scode_gen.proofs.ShortMethods.{mapped_more, one_more_short}
use Rattle.scode_gen.proofs.methods.image_methods.Goals as goal

pub loop-number-preserved : goal.loop-number-preserved
loop-number-preserved c =
    let program = c.args.rows.now.program.now in
    let all = c.args.all.now in
    let i = c.loop-number.number in
    let m = c.index-all-number.result in
    let within : i < length all = c.loop-number-test.true in
    record {
      made = mapped_more (image_method program (image_layout program)) all i m c.loop-number.made.items c.push_compiled.new.made.items _ within c.index-all-number.is
          c.in-Ok.ensures.made c.loop-number.invariant.made;
      short = one_more_short program all i m within c.index-all-number.is c.loop-number.invariant.short c.in-Ok.ensures.short;
    }

pub returns-clause-short : goal.returns-clause-short
returns-clause-short c =
    let program = c.args.rows.now.program.now in
    subst (λ (xs : List Method). All (IsShort program) xs) (take_all c.loop-number.number c.args.all.now (omega arith)) c.loop-number.invariant.short
