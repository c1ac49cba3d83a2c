use Rattle.std.proofs.Common.{ℕ, ◌==◌, if◌then◌else◌, None, Ok}
use Rattle.scode_code.specs.Root.{callback_place, component_places, method_at}
use Rattle.scode_engine.proofs.Found.{first_found}
use Rattle.scode_engine.proofs.methods.callback_method.Goals as goal

pub component_places-requires-clause-found : goal.component_places-requires-clause-found
component_places-requires-clause-found c =
    first_found (component_places c.args.image.now)
    (λ (count : ℕ). if count == 4 then method_at c.args.image.now c.args.class (callback_place c.args.callback) else Ok None)
    c.requires.found
