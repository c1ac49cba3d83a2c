-- Parts of an application over an engine.
use Rattle.std.proofs.Common.{◌≡◌, ℕ, Bool, true, false, List, refl, ap}
use Rattle.std.specs.Prelude.{◌&&◌, not, nat_eq, Option, Some, None}
use Rattle.std.specs.Cmp.Lexicographic.{pointwise}
use Rattle.std.specs.Option.{option_map_or}
use Rattle.sed_engine.specs.declared.engine.Engine.{Ghosts}
use Rattle.link_prop.specs.Linked.{Linked, application_of}
use Rattle.sub_table.specs.declared.part.Part.{Part}
use Rattle.sub_table.specs.declared.part.Part.TheVariants.{Tree, Config, Runtime, Links}
use Rattle.sub_table.specs.Table.{Subscriptions}
use Rattle.sox_events.specs.Due as over
use Rattle.node_events.specs.Events.{bytes_of, is_due}

module _ {E : Type 0} (g : Ghosts E) (a : Linked E) where
  pub same_bytes : (id : ℕ) (part : Part) → over.bytes_of g a id part ≡ bytes_of (g.meaning a.tree.engine) (application_of g a) id part
  same_bytes id Tree = refl
  same_bytes id Config = refl
  same_bytes id Runtime = refl
  same_bytes id Links = refl

  none_due : (b : Bool) → false ≡ (b && false)
  none_due true = refl
  none_due false = refl

  pub same_due : (subs : Subscriptions) (place id : ℕ) (part : Part)
      → over.differs g a subs place id part ≡ is_due (g.meaning a.tree.engine) (application_of g a) subs place id part
  same_due subs place id part = by_last (subs place id part)
    where
      by_last : (o : Option (Option (List ℕ)))
          → option_map_or (over.differs_from g a id part) o false
          ≡ (over.lives g a id && option_map_or (λ (last : Option (List ℕ)). option_map_or (λ (posted : List ℕ). not (pointwise nat_eq posted (bytes_of (g.meaning a.tree.engine) (application_of g a) id part))) last true) o false)
      by_last None = none_due (over.lives g a id)
      by_last (Some last) =
          ap (λ (bytes : List ℕ). over.lives g a id && option_map_or (λ (posted : List ℕ). not (pointwise nat_eq posted bytes)) last true) (same_bytes id part)
