-- The two ends of a link.
use Rattle.std.specs.Prelude.{ℕ}
use Rattle.sub_table.specs.Link.{Link}
use Rattle.sub_table.specs.declared.end.End.{End}
use Rattle.sub_table.specs.declared.end.End.TheVariants.{Source, Target}

-- the component at an end
abbrev pub id_at : End → Link → ℕ
id_at Source l = l.from
id_at Target l = l.to
