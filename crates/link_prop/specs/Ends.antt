-- Tests of the two ends of a link, as the table of refusals has them.
use Rattle.std.specs.Prelude.{Bool, ◌||◌, not, is_none}
use Rattle.sed_engine.specs.Code.{Meaning}
use Rattle.sub_table.specs.Link.{Link}
use Rattle.sub_table.specs.Links.{has_target}
use Rattle.comp_tree.specs.Application.{ById, form_at, is_live, type_at}
use Rattle.comp_tree.specs.Links.{go_together_if_there}

abbrev pub lacks_component : ById → Link → Bool
lacks_component all l = not (is_live all l.from) || not (is_live all l.to)

abbrev pub lacks_slot : Meaning → ById → Link → Bool
lacks_slot m all l = is_none (form_at m all l.from l.from_slot) || is_none (form_at m all l.to l.to_slot)

abbrev pub lacks_property : Meaning → ById → Link → Bool
lacks_property m all l = is_none (type_at m all l.from l.from_slot) || is_none (type_at m all l.to l.to_slot)

abbrev pub goes_together : Meaning → ById → Link → Bool
goes_together m all l = go_together_if_there (type_at m all l.from l.from_slot) (type_at m all l.to l.to_slot)

abbrev pub has_target_of : Link → Link → Bool
has_target_of l k = has_target l.to l.to_slot k
