-- The text of an application of the App alone is one, whatever the statics are.
use Rattle.std.proofs.Common.{◌≡◌, ℕ, List, []}
use Rattle.sed_typed.specs.Contents.{Contents}
use Rattle.sed_engine.specs.Code.{Meaning}
use Rattle.comp_tree.specs.Application.{Components, Link}
use Rattle.comp_tree.specs.Edits.{first_components}
use Rattle.app_file.specs.Text.{app_text}
use Rattle.app_writer.specs.Alone.{text_alone}

pub first_text : (m n : Meaning) (components : Components) (links : List Link) (statics : Contents) (limit : ℕ) → n ≡ m → components ≡ first_components m statics limit → links ≡ []
    → app_text n (record { components = components; links = links }) ≡ text_alone m limit
unfolding text_alone
first_text m n components links statics limit meaning are none = λ i. app_text (meaning i) (record { components = are i; links = none i })
