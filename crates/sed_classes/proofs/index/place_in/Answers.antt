use Rattle.std.proofs.Common.{sym, ap, ◌∙◌, option_and_then, option_copied}
use Rattle.sed_classes.specs.Indexed.{place_in, place_of}
use Rattle.sed_classes.proofs.index.place_in.Goals as goal

pub returns-in-Some : goal.returns-in-Some
unfolding place_in
returns-in-Some c =
    c.place_of.ensures ∙ ap (λ found. option_and_then (λ places. place_of places c.args.name.now) found) (ap option_copied (sym c.in-Some.is) ∙ c.group_at.ensures)

pub returns-in-None : goal.returns-in-None
unfolding place_in
returns-in-None c =
    ap (λ found. option_and_then (λ places. place_of places c.args.name.now) found) (ap option_copied (sym c.in-None.is) ∙ c.group_at.ensures)
