-- Heights of rows of trees, by which the walker is seen to end.
use Rattle.std.specs.Prelude.{ℕ, ◌+◌, ◌*◌, max, List, [], ◌∷◌}
use Rattle.std.specs.Option.{option_map_or}
use Rattle.sed_typed.specs.declared.program.Method.{Method}
use Rattle.sed_typed.specs.declared.statement.Stmt.{Stmt}
use Rattle.sed_typed.specs.declared.tree.Expr.{Expr}
use Rattle.sed_typed.specs.declared.tree.Link.{Link}
use Rattle.sed_typed.specs.Height.{height_of, link_height, stmt_height}
use Rattle.sed_walk.specs.declared.site.Site.{Site}

abbrev pub heights : List Expr → ℕ
heights [] = 0
heights (e ∷ es) = max (height_of e) (heights es)

abbrev pub link_heights : List Link → ℕ
link_heights [] = 0
link_heights (l ∷ ls) = max (link_height l) (link_heights ls)

abbrev pub stmt_heights : List Stmt → ℕ
stmt_heights [] = 0
stmt_heights (s ∷ ss) = max (stmt_height s) (stmt_heights ss)

abbrev pub body_height : Method → ℕ
body_height m = option_map_or stmt_height m.body 0

abbrev pub body_heights : List Method → ℕ
body_heights [] = 0
body_heights (m ∷ ms) = max (body_height m) (body_heights ms)

-- what is left to do with so many frames: no call is longer than the highest body
abbrev pub left_with : List Method → ℕ → ℕ
left_with methods frames = frames * (8 * body_heights methods + 8)

abbrev pub left_at : Site → ℕ
left_at site = left_with site.plan.now.program.methods site.frames
