use Rattle.std.proofs.Common.{◌≡◌, [], ◌∷◌, ◌++◌, ap, sym, subst, ◌∙◌}
use Rattle.sed_typed.specs.Flat.{IsFlat}
use Rattle.sed_terms.specs.Term.{Term}
use Rattle.sed_terms.specs.Seen.{term_of}
use Rattle.sed_terms.proofs.ChainRows.{terms_after, chain_is}
use Rattle.sed_terms.proofs.FlatRows.{grown_links}
use Rattle.sed_terms.proofs.links.chain.Goals as goal

pub returns-clause-term : goal.returns-clause-term
returns-clause-term c =
    let t : Term = term_of c.args.head.value in
    ap term_of c.in_ok-tree.ensures
    ∙ chain_is t c.push_boxed.new.items
    ∙ ap (terms_after t) c.in_ok-push_boxed.ensures
    ∙ ap (λ ls. terms_after t (ls ++ c.args.link.value ∷ [])) c.new-links.ensures.items

pub returns-clause-flat : goal.returns-clause-flat
returns-clause-flat c =
    let items : c.push_boxed.new.items.items ≡ c.args.link.value ∷ [] =
    c.in_ok-push_boxed.ensures ∙ ap (λ ls. ls ++ c.args.link.value ∷ []) c.new-links.ensures.items in
    let links = grown_links c.push_boxed.new.items [] c.args.link.value items tt c.requires.link_is_flat in
    subst IsFlat (sym c.in_ok-tree.ensures) (c.requires.head_is_no_chain, c.requires.head_is_flat, links.0, links.1)
