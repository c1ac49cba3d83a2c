use Rattle.std.proofs.Common.{length, ap, refl, sym, ◌∙◌, arith, Some}
use Rattle.std.proofs.lemmas.List.{get_or_default}
use Rattle.std.proofs.lemmas.Option.{slice_get_read}
use Rattle.scode_image.specs.declared.image.ImageEntry.{ImageEntry}
use Rattle.scode_verify.proofs.Strays.{stray_behind, stray_none, stray_there}
use Rattle.scode_verify.proofs.entries.stray.Goals as goal
use Rattle.scode_verify.proofs.entries.stray.Goals.{else-passed-entries-via-then-passed-entries+else-from-to, else-passed-entries-via-else-passed-entries}

pub returns-then-from-to : goal.returns-then-from-to
returns-then-from-to c =
    let es = c.args.entries.now in
    let e = c.index-entries-passed.result in
    let within = c.if-passed-entries.true in
    let next = c.requires.next e (slice_get_read es (length es) c.args.passed e refl within c.index-entries-passed.is) in
    ap (λ (x : ImageEntry). Some x.place)
    (get_or_default es c.args.passed c.index-entries-passed-then-from-to.result e within ∙ sym c.index-entries-passed.is)
    ∙ sym (stray_there es c.args.passed e c.args.from c.args.to within c.index-entries-passed.is
    (c.requires.passed c.args.from c.args.to (omega arith)) next
    (omega (arith, ap (λ (x : ImageEntry). x.place) c.index-entries-passed.is)))

pub returns : goal.returns
returns c =
    let es = c.args.entries.now in
    let passed = c.requires.passed c.args.from c.args.to (omega arith) in
    elim c.else-passed-entries.branch [
      | else-passed-entries-via-then-passed-entries+else-from-to w ↦
          (let e = w.index-entries-passed.result in
          let within = w.if-passed-entries.true in
          let next = c.requires.next e (slice_get_read es (length es) c.args.passed e refl within w.index-entries-passed.is) in
          sym (stray_behind es c.args.passed e c.args.from c.args.to within w.index-entries-passed.is c.requires.ascend passed next
          (omega (arith, ap (λ (x : ImageEntry). x.place) w.index-entries-passed.is))))
      | else-passed-entries-via-else-passed-entries w ↦
          sym (stray_none es c.args.passed c.args.from c.args.to w.if-passed-entries.false passed)
    ]
