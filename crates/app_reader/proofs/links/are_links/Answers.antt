use Rattle.std.proofs.Common.{◌≡◌, ◌∙◌, ℕ, Bool, true, false, refl, sym}
use Rattle.sub_table.specs.Link.{Link}
use Rattle.app_reader.specs.FormedFile.{IsLinkIn}
use Rattle.app_reader.proofs.EachRow.{below_next}
use Rattle.app_reader.proofs.Linking.{all_before, at_each}
use Rattle.app_reader.proofs.links.are_links.Goals as goal

pub returns-then-not-is_link : goal.returns-then-not-is_link
returns-then-not-is_link c =
    λ m same. (
      λ never. absurd (let no : false ≡ true = never in cc),
      λ all. absurd
          (let yes : c.is_link.result ≡ true = (c.is_link.ensures m same).1 (at_each (IsLinkIn m c.args.rows.now) c.args.links.now c.loop-place.place c.link_at-link.result all c.link_at-link.ensures) in
          let no : ◌≡◌ {A = Bool} true false = sym yes ∙ c.if-not-is_link.true in cc),
    )

pub loop-place-preserved : goal.loop-place-preserved
loop-place-preserved c =
    λ m same.
    below_next (λ (k : ℕ) (l : Link). IsLinkIn m c.args.rows.now l) c.args.links.now c.loop-place.place c.link_at-link.result c.link_at-link.ensures
    ((c.is_link.ensures m same).0 c.if-not-is_link.false) (c.loop-place.invariant m same)

pub returns : goal.returns
returns c = λ m same. (λ _. all_before (IsLinkIn m c.args.rows.now) c.args.links.now c.loop-place.place c.loop-place-test.false (c.loop-place.invariant m same), λ _. refl)
