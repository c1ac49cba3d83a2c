-- The application that rows tell, once its components are made.
use Rattle.std.proofs.Common.{◌≡◌, ℕ, ◌≤◌}
use Rattle.std.specs.Prelude.{None}
use Rattle.sed_engine.specs.Code.{Meaning}
use Rattle.comp_tree.specs.Application.{Application}
use Rattle.comp_tree.specs.Whole.{IsFormed, Whole}
use Rattle.link_prop.specs.Linked.{AreLinked}
use Rattle.comp_tree.specs.Limits.{limit_passed}
use Rattle.app_reader.specs.Ready.{HoldTogether, application_told, components_told, limit_told}
use Rattle.app_reader.specs.declared.ready.FormedRows.{FormedRows}

module _ (m : Meaning) (limit : ℕ) (rows : FormedRows) (held : HoldTogether m limit rows) (few : limit_told m limit rows ≡ None)
    (wholes : (a : Application) → IsFormed m a → limit_passed m a ≡ None → 1 ≤ a.components.limit → a.components.limit ≤ 4194304 → Whole m a) (least : 1 ≤ limit) (most : limit ≤ 4194304) where
  pub whole_told : Whole m (application_told m limit rows)
  whole_told = wholes (application_told m limit rows) held.application few least most

  pub links_told : AreLinked m (components_told m rows) rows.file.links
  links_told = record { typed = whole_told.formed.links; at_each = whole_told.links_at_each }
