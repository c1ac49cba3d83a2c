-- How deep a source nests: how many of its constructs are open at a place, one within the other. A statement within
-- another one opens one, and so do brackets, an argument, a prefix operator or a cast, the value of an assignment, and
-- a branch of `? :`. The operands of a binary operator and the links of a chain stand beside one another.
use Rattle.std.specs.Prelude.{ℕ, suc, max, List, [], ◌∷◌}
use Rattle.sed_units.specs.declared.label.Label.TheVariants as label
use Rattle.sed_units.specs.Tree.{Tree, Absent, Part}

abbrev mutual
  -- of an expression, a link, a statement or a label of a `switch`
  pub nesting : Tree → ℕ
  nesting (Part (label.Super at id) args y) = each_within args
  nesting (Part (label.Call id) args y) = each_within args
  nesting (Part (label.Paren at) e y) = suc (nesting e)
  nesting (Part (label.Prefix at op) e y) = suc (nesting e)
  nesting (Part (label.Cast at kind) e y) = suc (nesting e)
  nesting (Part (label.Chain at) e links) = max (nesting e) (most_of links)
  nesting (Part (label.Update at op) e y) = nesting e
  nesting (Part (label.Conditional at) c (Part label.Both a b)) = max (nesting c) (suc (max (nesting a) (nesting b)))
  nesting (Part (label.Assign at op) a b) = max (nesting a) (suc (nesting b))
  -- links
  nesting (Part (label.Method at id) args y) = each_within args
  nesting (Part (label.Index at) e y) = suc (nesting e)
  nesting (Part (label.Operand at op) e y) = nesting e
  -- statements
  nesting (Part (label.Block at) all y) = each_within all
  nesting (Part (label.If at) c (Part label.Both s t)) = suc (max (nesting c) (max (nesting s) (nesting t)))
  nesting (Part (label.While at) c s) = suc (max (nesting c) (nesting s))
  nesting (Part (label.Do at) s c) = suc (max (nesting s) (nesting c))
  nesting (Part (label.For at) (Part label.Both first c) (Part label.Both last s)) =
      suc (max (max (nesting first) (max (nesting c) (nesting last))) (nesting s))
  nesting (Part (label.Switch at) e cases) = max (suc (nesting e)) (most_of cases)
  nesting (Part (label.Return at) e y) = nesting e
  nesting (Part (label.Local at kind name) e y) = nesting e
  nesting (Part (label.Evaluate at) e y) = nesting e
  -- labels of a `switch`, with the statements behind them
  nesting (Part (label.Case at) e all) = max (nesting e) (each_within all)
  nesting (Part (label.Default at) all y) = each_within all
  nesting t = 0

  -- of the items of a row, each within what the row stands in
  pub each_within : Tree → ℕ
  each_within (Part l t rest) = max (suc (nesting t)) (each_within rest)
  each_within Absent = 0

  -- of the items of a row, beside one another
  pub most_of : Tree → ℕ
  most_of (Part l t rest) = max (nesting t) (most_of rest)
  most_of Absent = 0

-- of the statements of a method's own body, which stand in no other one
abbrev pub body_nesting : List Tree → ℕ
body_nesting [] = 0
body_nesting (s ∷ ss) = max (nesting s) (body_nesting ss)
