use Rattle.std.proofs.Common.{◌≡◌, ℕ, ◌<◌, ◌≤◌, Bool, true, false, List, [], ◌∷◌, length, refl, sym, ◌∙◌, arith}
use Rattle.std.specs.Prelude.{Option, Some, None, nat_lt}
use Rattle.std.proofs.lemmas.Bool.Decides.{nat_tests}
use Rattle.comp_tree.specs.Application.{most_links}
use Rattle.comp_tree.specs.Limits.{first_passed}
use Rattle.app_reader.proofs.LimitsTold.{told_first}
use Rattle.app_reader.proofs.passed.limit_passed.Goals as goal

-- ---- the first of six

abbrev six : Bool → Bool → Bool → Bool → Bool → Bool → List (Bool × ℕ)
six p q r s t u = (p, 1) ∷ (q, 2) ∷ (r, 3) ∷ (s, 4) ∷ (t, 5) ∷ (u, 6) ∷ []

first_1 : (p q r s t u : Bool) → p ≡ true → Some 1 ≡ first_passed (six p q r s t u)
first_1 p q r s t u is = rw is refl

first_2 : (p q r s t u : Bool) → p ≡ false → q ≡ true → Some 2 ≡ first_passed (six p q r s t u)
first_2 p q r s t u not_p is = rw (not_p, is) refl

first_3 : (p q r s t u : Bool) → p ≡ false → q ≡ false → r ≡ true → Some 3 ≡ first_passed (six p q r s t u)
first_3 p q r s t u not_p not_q is = rw (not_p, not_q, is) refl

first_4 : (p q r s t u : Bool) → p ≡ false → q ≡ false → r ≡ false → s ≡ true → Some 4 ≡ first_passed (six p q r s t u)
first_4 p q r s t u not_p not_q not_r is = rw (not_p, not_q, not_r, is) refl

first_5 : (p q r s t u : Bool) → p ≡ false → q ≡ false → r ≡ false → s ≡ false → t ≡ true → Some 5 ≡ first_passed (six p q r s t u)
first_5 p q r s t u not_p not_q not_r not_s is = rw (not_p, not_q, not_r, not_s, is) refl

first_6 : (p q r s t u : Bool) → p ≡ false → q ≡ false → r ≡ false → s ≡ false → t ≡ false → u ≡ true → Some 6 ≡ first_passed (six p q r s t u)
first_6 p q r s t u not_p not_q not_r not_s not_t is = rw (not_p, not_q, not_r, not_s, not_t, is) refl

first_none : (p q r s t u : Bool) → p ≡ false → q ≡ false → r ≡ false → s ≡ false → t ≡ false → u ≡ false → ◌≡◌ {A = Option ℕ} None (first_passed (six p q r s t u))
first_none p q r s t u not_p not_q not_r not_s not_t not_u = rw (not_p, not_q, not_r, not_s, not_t, not_u) refl

many : (most n : ℕ) → most < n → nat_lt most n ≡ true
many most n over = grind (arith, nat_tests)

few : (most n : ℕ) → n ≤ most → nat_lt most n ≡ false
few most n within = grind (arith, nat_tests)

-- ---- the answers

pub returns-then-has_great_id : goal.returns-then-has_great_id
returns-then-has_great_id g c =
    told_first (g.E.Engine.meaning c.args.engine.now) c.args.rows.now c.args.tree.now c.args.lists.now c.args.links.now (g.E.Engine.limit c.args.engine.now) (Some 1) c.requires
    (first_1 _ _ _ _ _ _ (sym c.has_great_id.ensures ∙ c.if-has_great_id.true))

pub returns-then-links-gt-MOST_LINKS : goal.returns-then-links-gt-MOST_LINKS
returns-then-links-gt-MOST_LINKS g c =
    told_first (g.E.Engine.meaning c.args.engine.now) c.args.rows.now c.args.tree.now c.args.lists.now c.args.links.now (g.E.Engine.limit c.args.engine.now) (Some 2) c.requires
    (first_2 _ _ _ _ _ _ (sym c.has_great_id.ensures ∙ c.if-has_great_id.false) (many most_links (length c.args.links.now) c.if-links-gt-MOST_LINKS.true))

pub returns-then-has_deep : goal.returns-then-has_deep
returns-then-has_deep g c =
    told_first (g.E.Engine.meaning c.args.engine.now) c.args.rows.now c.args.tree.now c.args.lists.now c.args.links.now (g.E.Engine.limit c.args.engine.now) (Some 3) c.requires
    (first_3 _ _ _ _ _ _ (sym c.has_great_id.ensures ∙ c.if-has_great_id.false) (few most_links (length c.args.links.now) c.if-links-gt-MOST_LINKS.false) (sym c.has_deep.ensures ∙ c.if-has_deep.true))

pub returns-then-has_many_children : goal.returns-then-has_many_children
returns-then-has_many_children g c =
    told_first (g.E.Engine.meaning c.args.engine.now) c.args.rows.now c.args.tree.now c.args.lists.now c.args.links.now (g.E.Engine.limit c.args.engine.now) (Some 4) c.requires
    (first_4 _ _ _ _ _ _ (sym c.has_great_id.ensures ∙ c.if-has_great_id.false) (few most_links (length c.args.links.now) c.if-links-gt-MOST_LINKS.false) (sym c.has_deep.ensures ∙ c.if-has_deep.false) (sym c.has_many_children.ensures ∙ c.if-has_many_children.true))

pub returns-then-has_many_links : goal.returns-then-has_many_links
returns-then-has_many_links g c =
    told_first (g.E.Engine.meaning c.args.engine.now) c.args.rows.now c.args.tree.now c.args.lists.now c.args.links.now (g.E.Engine.limit c.args.engine.now) (Some 5) c.requires
    (first_5 _ _ _ _ _ _ (sym c.has_great_id.ensures ∙ c.if-has_great_id.false) (few most_links (length c.args.links.now) c.if-links-gt-MOST_LINKS.false) (sym c.has_deep.ensures ∙ c.if-has_deep.false) (sym c.has_many_children.ensures ∙ c.if-has_many_children.false) (sym c.has_many_links.ensures ∙ c.if-has_many_links.true))

pub returns-then-has_much_data : goal.returns-then-has_much_data
returns-then-has_much_data g c =
    told_first (g.E.Engine.meaning c.args.engine.now) c.args.rows.now c.args.tree.now c.args.lists.now c.args.links.now (g.E.Engine.limit c.args.engine.now) (Some 6) c.requires
    (first_6 _ _ _ _ _ _ (sym c.has_great_id.ensures ∙ c.if-has_great_id.false) (few most_links (length c.args.links.now) c.if-links-gt-MOST_LINKS.false) (sym c.has_deep.ensures ∙ c.if-has_deep.false) (sym c.has_many_children.ensures ∙ c.if-has_many_children.false) (sym c.has_many_links.ensures ∙ c.if-has_many_links.false) (sym c.has_much_data.ensures ∙ c.if-has_much_data.true))

pub returns : goal.returns
returns g c =
    told_first (g.E.Engine.meaning c.args.engine.now) c.args.rows.now c.args.tree.now c.args.lists.now c.args.links.now (g.E.Engine.limit c.args.engine.now) None c.requires
    (first_none _ _ _ _ _ _ (sym c.has_great_id.ensures ∙ c.if-has_great_id.false) (few most_links (length c.args.links.now) c.if-links-gt-MOST_LINKS.false) (sym c.has_deep.ensures ∙ c.if-has_deep.false) (sym c.has_many_children.ensures ∙ c.if-has_many_children.false) (sym c.has_many_links.ensures ∙ c.if-has_many_links.false) (sym c.has_much_data.ensures ∙ c.if-has_much_data.false))
