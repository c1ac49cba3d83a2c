use Rattle.std.proofs.Common.{◌≡◌, ℕ, ◌+◌, ◌-◌, ◌≤◌, length, List, refl, sym, ap, ◌∙◌, arith}
use Rattle.std.proofs.lemmas.Option.{slice_get_read}
use Rattle.sed_classes.specs.Indexed.{place_in}
use Rattle.sed_classes.specs.Entries.{declarations}
use Rattle.sed_classes.specs.Names.{is_named}
use Rattle.sed_classes.proofs.FirstPlaces.{from_first}
use Rattle.sed_classes.proofs.Groups.{class_before, none_left, past_end}
use Rattle.sed_classes.proofs.name_places.class_names.Goals as goal

pub backwards-init : goal.backwards-init
backwards-init c = record {
  within = omega arith;
  found = λ kit name.
      past_end c.new-names.result.items kit name (let none = ap length c.new-names.ensures.items in omega (arith, none))
      ∙ sym (none_left c.args.all.now (is_named name kit));
}

pub backwards-preserved : goal.backwards-preserved
backwards-preserved c =
    let some = c.backwards-test.true in
    let within = c.backwards.invariant.within in
    record {
      within = omega (arith, within);
      found = class_before c.args.all.now (c.backwards.left - 1) c.backwards.left _ c.backwards.names.items c.put_class.new.names.items
          (omega (arith, some)) (slice_get_read c.args.all.now _ (c.backwards.left - 1) c.index-all-left.result refl (omega (arith, some, within)) c.index-all-left.is)
          c.backwards.invariant.found c.in_ok-put_class.ensures;
    }

pub returns : goal.returns
returns c = λ kit name.
    c.backwards.invariant.found kit name ∙ from_first (is_named name kit) (declarations c.args.all.now) c.backwards.left c.backwards-test.false
