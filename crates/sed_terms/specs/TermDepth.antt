-- How deep terms nest, as the grammar of the language counts it, and the locals that they declare: both as in their
-- trees.
use Rattle.std.specs.Prelude.{ℕ, suc, max, List, [], ◌∷◌, ◌++◌}
use Rattle.sed_typed.specs.Depth.{unary_depth, value_depth}
use Rattle.sed_typed.specs.Locals.{Declared}
use Rattle.sed_terms.specs.declared.sign.Sign.TheVariants as sign
use Rattle.sed_terms.specs.Term.{Term, Absent, Node}

-- prefix operators, casts, the right sides of assignments, the branches of `? :`, arguments and brackets nest
abbrev pub term_depth : Term → ℕ
term_depth (Node sign.More t rest) = max (suc (term_depth t)) (term_depth rest)
term_depth (Node sign.Pair a b) = max (term_depth a) (term_depth b)
term_depth (Node (sign.StaticElement p n i) e b) = suc (term_depth e)
term_depth (Node (sign.Unary op) e b) = unary_depth op (term_depth e)
term_depth (Node sign.Choose t branches) = max (term_depth t) (suc (term_depth branches))
term_depth (Node sign.Set target e) = max (term_depth target) (suc (term_depth e))
term_depth (Node (sign.Update u) target e) = max (term_depth target) (value_depth u.gives (term_depth e))
term_depth (Node (sign.Call k m) args b) = term_depth args
term_depth (Node (sign.Super k m) args b) = term_depth args
term_depth (Node (sign.Binary op) x y) = max (term_depth x) (term_depth y)
term_depth (Node sign.And x y) = max (term_depth x) (term_depth y)
term_depth (Node sign.Or x y) = max (term_depth x) (term_depth y)
term_depth (Node (sign.Field p i) x b) = term_depth x
term_depth (Node (sign.Part k i) x b) = term_depth x
term_depth (Node (sign.Element p n i) x y) = max (term_depth x) (suc (term_depth y))
term_depth (Node (sign.Size i) x b) = term_depth x
term_depth (Node (sign.Byte i) x y) = max (term_depth x) (suc (term_depth y))
term_depth (Node (sign.Invoke k m) x args) = max (term_depth x) (term_depth args)
term_depth (Node (sign.TextCall op) x args) = max (term_depth x) (term_depth args)
term_depth (Node sign.After x y) = max (term_depth x) (term_depth y)
term_depth t = 0

-- a statement within another one nests, and so do the brackets of its head
abbrev mutual
  pub stmt_term_depth : Term → ℕ
  stmt_term_depth (Node sign.Do e b) = term_depth e
  stmt_term_depth (Node (sign.Begin k i) e b) = term_depth e
  stmt_term_depth (Node sign.Block all b) = block_term_depth all
  stmt_term_depth (Node sign.If t (Node sign.Pair x y)) =
      suc (max (term_depth t) (max (stmt_term_depth x) (stmt_term_depth y)))
  stmt_term_depth (Node sign.While t x) = suc (max (term_depth t) (stmt_term_depth x))
  stmt_term_depth (Node sign.DoWhile x t) = suc (max (term_depth t) (stmt_term_depth x))
  stmt_term_depth (Node sign.For (Node sign.Pair first (Node sign.Pair t last)) x) =
      suc (max (max (stmt_term_depth first) (max (term_depth t) (term_depth last))) (stmt_term_depth x))
  stmt_term_depth (Node sign.Switch e cases) = suc (max (term_depth e) (cases_term_depth cases))
  stmt_term_depth (Node sign.Return e b) = term_depth e
  stmt_term_depth t = 0

  pub stmts_term_depth : Term → ℕ
  stmts_term_depth (Node sign.More x rest) = max (stmt_term_depth x) (stmts_term_depth rest)
  stmts_term_depth t = 0

  pub block_term_depth : Term → ℕ
  block_term_depth (Node sign.More x rest) = suc (max (stmt_term_depth x) (stmts_term_depth rest))
  block_term_depth t = 0

  -- the block of a label is not counted
  pub cases_term_depth : Term → ℕ
  cases_term_depth Absent = 0
  cases_term_depth (Node s (Node sign.Block all b) rest) = max (stmts_term_depth all) (cases_term_depth rest)
  cases_term_depth (Node s x rest) = max (stmt_term_depth x) (cases_term_depth rest)

-- nor is that of a method's own body
abbrev pub body_term_depth : Term → ℕ
body_term_depth (Node sign.Block all b) = stmts_term_depth all
body_term_depth t = stmt_term_depth t

-- the locals that a statement, a row of statements or labels declare, in the order of the text
abbrev pub declared_term : Term → List Declared
declared_term (Node sign.More x rest) = declared_term x ++ declared_term rest
declared_term (Node sign.Pair x y) = declared_term x ++ declared_term y
declared_term (Node (sign.Begin k i) e b) = record { number = i; kind = k } ∷ []
declared_term (Node sign.Block all b) = declared_term all
declared_term (Node sign.If t branches) = declared_term branches
declared_term (Node sign.While t x) = declared_term x
declared_term (Node sign.DoWhile x t) = declared_term x
declared_term (Node sign.For (Node sign.Pair first rest) x) = declared_term first ++ declared_term x
declared_term (Node sign.Switch e cases) = declared_term cases
declared_term (Node (sign.Label l) x rest) = declared_term x ++ declared_term rest
declared_term t = []
