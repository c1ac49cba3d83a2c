use Rattle.std.proofs.Common.{◌≡◌, ◌<◌, ◌-◌, ◌==◌, true, false, not, length, [], ◌∷◌, ◌++◌, sym, subst, ap, ◌∙◌, arith}
use Rattle.std.specs.List.{list_any}
use Rattle.sed_classes.specs.Declarations.{all_classes}
use Rattle.sed_classes.specs.Bases.{base_of, gone_on}
use Rattle.sed_classes.proofs.Climbs.{IsSeen, gone_among, gone_more, seen_more, seen_none, was_seen}
use Rattle.sed_classes.proofs.bases.Based.any_lineage.Goals as goal

pub climb-init : goal.climb-init
climb-init c =
    let pushed : c.push.new.self.items ≡ c.args.class ∷ [] = c.in_ok-push.ensures.items ∙ ap (λ xs. xs ++ c.args.class ∷ []) c.new-far.ensures.items in
    let count : c.len-left.result ≡ length (all_classes c.args.self.now) = cc in
    record {
      comes =
          ap (λ n. gone_on (base_of c.args.self.now) n c.push.new.self.items c.base_of-next.result) count
          ∙ ap (λ f. gone_on (base_of c.args.self.now) (length (all_classes c.args.self.now)) f c.base_of-next.result) pushed
          ∙ ap (gone_on (base_of c.args.self.now) (length (all_classes c.args.self.now)) (c.args.class ∷ [])) c.base_of-next.ensures;
      seen = subst (IsSeen c.note.new.seen) (sym pushed) (seen_more c.new-seen.result c.note.new.seen [] c.args.class c.in_ok-note.ensures.put (seen_none c.new-seen.result c.new-seen.ensures.empty));
    }

pub returns-then-not-is_new : goal.returns-then-not-is_new
returns-then-not-is_new c =
    let there : list_any (λ f. f == c.in-Some.at) c.climb.far.items ≡ true =
    was_seen c.climb.seen c.climb.far.items c.in-Some.at c.in_ok-is_new.is_new c.climb.invariant.seen c.in_ok-is_new.ensures.new ∙ ap not c.if-not-is_new.true in
    sym (gone_among (base_of c.args.self.now) c.climb.left c.climb.far.items c.in-Some.at there)
    ∙ ap (gone_on (base_of c.args.self.now) c.climb.left c.climb.far.items) (sym c.in-Some.is)
    ∙ c.climb.invariant.comes

pub climb-preserved : goal.climb-preserved
climb-preserved c =
    let some : 0 < c.climb.left = omega arith in
    let new : list_any (λ f. f == c.in-Some.at) c.climb.far.items ≡ false =
    was_seen c.climb.seen c.climb.far.items c.in-Some.at c.in_ok-is_new.is_new c.climb.invariant.seen c.in_ok-is_new.ensures.new ∙ ap not c.if-not-is_new.false in
    record {
      comes =
          ap (λ f. gone_on (base_of c.args.self.now) (c.climb.left - 1) f c.base_of-next-in-climb.result) c.in_ok-push-2.ensures.items
          ∙ ap (gone_on (base_of c.args.self.now) (c.climb.left - 1) (c.climb.far.items ++ c.in-Some.at ∷ [])) c.base_of-next-in-climb.ensures
          ∙ sym (gone_more (base_of c.args.self.now) c.climb.left c.climb.far.items c.in-Some.at some new)
          ∙ ap (gone_on (base_of c.args.self.now) c.climb.left c.climb.far.items) (sym c.in-Some.is)
          ∙ c.climb.invariant.comes;
      seen = subst (IsSeen c.note-in-climb.new.seen) (sym c.in_ok-push-2.ensures.items) (seen_more c.climb.seen c.note-in-climb.new.seen c.climb.far.items c.in-Some.at c.in_ok-is_new.ensures.put c.climb.invariant.seen);
    }
