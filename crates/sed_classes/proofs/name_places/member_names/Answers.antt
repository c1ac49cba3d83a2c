use Rattle.std.proofs.Common.{◌≡◌, ℕ, ◌+◌, ◌<◌, List, length, position, sym, ap, ◌∙◌, arith}
use Rattle.std.proofs.lemmas.Option.{slice_get-get_or}
use Rattle.sed_classes.specs.Entries.{declarations}
use Rattle.sed_classes.specs.Indexed.{Places, members_at, place_in, place_of}
use Rattle.sed_classes.specs.Members.{has_name}
use Rattle.sed_classes.proofs.Groups.{all_classes_found, class_more}
use Rattle.sed_classes.proofs.name_places.member_names.Goals as goal

pub loop-class-preserved : goal.loop-class-preserved
loop-class-preserved c =
    let len = c.in_ok-push.ensures.len in
    let count = c.loop-class.invariant.count in
    record {
      count = omega (arith, len, count);
      found = λ k name lt.
          ap (λ groups. place_in groups k name) c.in_ok-push.ensures.items
          ∙ class_more c.args.all.now c.loop-class.class _ c.loop-class.names.items _
          (slice_get-get_or c.args.all.now c.loop-class.class c.index-all-class.result c.loop-class-test.true) count
          (λ q. c.in_ok-names_among.ensures q ∙ ap (position (has_name q)) c.as_slice.ensures) c.loop-class.invariant.found k name lt;
    }

pub returns : goal.returns
returns c = all_classes_found c.args.all.now c.loop-class.class c.loop-class.names.items c.loop-class-test.false c.loop-class.invariant.count c.loop-class.invariant.found
