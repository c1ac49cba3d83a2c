use Rattle.std.proofs.Common.{◌≡◌, [], ◌∷◌, ◌++◌, Vec, Global, sym, ap, subst, ◌∙◌}
use Rattle.sed_typed.specs.declared.tree.Expr as X
use Rattle.sed_typed.specs.declared.tree.Expr.{Expr}
use Rattle.sed_typed.specs.declared.tree.Expr.TheVariants as expr
use Rattle.sed_typed.specs.declared.tree.Link.{Link}
use Rattle.sed_typed.specs.Flat.{IsFlat}
use Rattle.sed_terms.specs.Term.{Term}
use Rattle.sed_terms.specs.Seen.{term_of, link_term}
use Rattle.sed_terms.proofs.ChainRows.{terms_after, chain_is, one_more}
use Rattle.sed_terms.proofs.FlatRows.{grown_links, links_are_flat}
use Rattle.sed_terms.proofs.links.with_link.Goals as goal

pub returns-in-Chain-clause-term : goal.returns-in-Chain-clause-term
unfolding X.out-Expr denote.Hole.Carrier.out
returns-in-Chain-clause-term c =
    let t : Term = term_of c.in-Chain.field-0.value in
    let pushed : c.push_boxed.new.items.items ≡ c.in-Chain.links.items ++ c.args.link.value ∷ [] =
    c.in_ok-push_boxed.ensures ∙ ap (λ (v : Vec Link Global). v.items ++ c.args.link.value ∷ []) c.in-Chain.links-is in
    rw c.in-Chain.is
    (chain_is t c.push_boxed.new.items
    ∙ ap (terms_after t) pushed
    ∙ one_more t c.in-Chain.links.items c.args.link.value
    ∙ ap (λ x. link_term x c.args.link.value) (sym (chain_is t c.in-Chain.links))
    ∙ ap (λ (e : Expr). link_term (term_of e) c.args.link.value) (sym c.in-Chain.is)
    ∙ ap (λ (e : Expr). link_term (term_of e) c.args.link.value) c.deref_mut.ensures.value)

pub returns-in-Chain-clause-flat : goal.returns-in-Chain-clause-flat
unfolding X.out-Expr denote.Hole.Carrier.out
returns-in-Chain-clause-flat c =
    let chain : IsFlat (expr.Chain c.in-Chain.field-0 c.in-Chain.links) =
    subst IsFlat (sym c.deref_mut.ensures.value ∙ c.in-Chain.is) c.requires.tree_is_flat in
    let pushed : c.push_boxed.new.items.items ≡ c.in-Chain.links.items ++ c.args.link.value ∷ [] =
    c.in_ok-push_boxed.ensures ∙ ap (λ (v : Vec Link Global). v.items ++ c.args.link.value ∷ []) c.in-Chain.links-is in
    let links = grown_links c.push_boxed.new.items c.in-Chain.links.items c.args.link.value pushed
    (links_are_flat c.in-Chain.links chain.3) c.requires.link_is_flat in
    rw c.in-Chain.is (chain.0, chain.1, links.0, links.1)
