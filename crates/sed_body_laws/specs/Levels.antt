-- How high the typed tree of a source may be. Each construct has a number of levels that it makes at most, with those
-- of the conversions that its operands may need, and of an instance before a static member. What stands in it comes on
-- top.
--
-- That an int goes to a long by itself is counted once, where the int begins. So a chain of operands makes one level,
-- however many of them become longs.
use Rattle.std.specs.Prelude.{ℕ, suc, ◌+◌, max, List, [], ◌∷◌}
use Rattle.sed_units.specs.declared.label.Label.TheVariants as label
use Rattle.sed_units.specs.Tree.{Tree, Absent, Part}

abbrev mutual
  -- of an expression, a link, a statement or a label of a `switch`
  pub levels : Tree → ℕ
  levels (Part (label.Super at id) args y) = 4 + highest args
  levels (Part (label.Call id) args y) = 4 + highest args
  levels (Part (label.Paren at) e y) = levels e
  levels (Part (label.Prefix at op) e y) = 3 + levels e
  levels (Part (label.Cast at kind) e y) = 3 + levels e
  levels (Part (label.Chain at) e links) = suc (max (levels e) (highest links))
  levels (Part (label.Update at op) e y) = 2 + levels e
  levels (Part (label.Conditional at) c (Part label.Both a b)) = 3 + max (levels c) (max (levels a) (levels b))
  levels (Part (label.Assign at op) a b) = suc (max (levels a) (suc (levels b)))
  -- links
  levels (Part (label.Method at id) args y) = 3 + highest args
  levels (Part (label.Index at) e y) = 3 + levels e
  levels (Part (label.Operand at op) e y) = levels e
  -- statements
  levels (Part (label.Block at) all y) = suc (highest all)
  levels (Part (label.If at) c (Part label.Both s t)) = suc (max (levels c) (max (levels s) (levels t)))
  levels (Part (label.While at) c s) = suc (max (levels c) (levels s))
  levels (Part (label.Do at) s c) = suc (max (levels s) (levels c))
  levels (Part (label.For at) (Part label.Both first c) (Part label.Both last s)) =
      suc (max (max (suc (levels first)) (max (levels c) (levels last))) (levels s))
  levels (Part (label.Switch at) e cases) = suc (max (levels e) (highest cases))
  levels (Part (label.Return at) e y) = suc (levels e)
  levels (Part (label.Local at kind name) e y) = suc (levels e)
  levels (Part (label.Evaluate at) e y) = suc (levels e)
  -- labels of a `switch`, with the block of statements behind them
  levels (Part (label.Case at) e all) = suc (highest all)
  levels (Part (label.Default at) all y) = suc (highest all)
  -- a literal or a name, or nothing
  levels t = 4

  -- of the items of a row
  pub highest : Tree → ℕ
  highest (Part l t rest) = max (levels t) (highest rest)
  highest Absent = 0

-- of the statements of a method's body
abbrev pub highest_of : List Tree → ℕ
highest_of [] = 0
highest_of (s ∷ ss) = max (levels s) (highest_of ss)

-- of a method's body, which is a block
abbrev pub body_levels : List Tree → ℕ
body_levels ss = suc (highest_of ss)
