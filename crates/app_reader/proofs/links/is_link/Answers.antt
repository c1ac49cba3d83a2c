use Rattle.std.proofs.Common.{◌∙◌, sym, subst, ap₂}
use Rattle.std.specs.Prelude.{IsTrue}
use Rattle.sub_table.specs.Link.{Link}
use Rattle.comp_tree.specs.Links.{go_together_if_there}
use Rattle.app_reader.specs.FormedFile.{IsLinkIn}
use Rattle.app_reader.proofs.Linking.{is_link}
use Rattle.app_reader.proofs.links.is_link.Goals as goal

pub returns : goal.returns
returns c =
    λ m same.
    let is = c.go_together.ensures ∙ ap₂ go_together_if_there (c.type_of-from_type.ensures m same) (c.type_of-to_type.ensures m same) in
    let link : Link = record { from = c.link.inside.from.0; from_slot = c.link.inside.from_slot; to = c.link.inside.to.0; to_slot = c.link.inside.to_slot } in
    subst (λ (l : Link). (IsTrue c.go_together.result → IsLinkIn m c.args.rows.now l) × (IsLinkIn m c.args.rows.now l → IsTrue c.go_together.result)) c.link.view_is
    (λ yes. is_link m c.args.rows.now link (sym is ∙ yes), λ held. is ∙ held.typed)
