use Rattle.std.proofs.Common.{◌≡◌, take, map as map_list}
use Rattle.sed_value.specs.declared.id.Id.{Id}
use Rattle.comp_tree.proofs.loading.children_from.Given as goal

-- those so far
abbrev pub invariant-loop-id : goal.invariant-loop-id
invariant-loop-id l = l.children ≡ map_list (λ (id : Id). id.0) (take l.id-index l.ids)
