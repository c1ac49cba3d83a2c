use Rattle.std.proofs.Common.{ℕ, List}
use Rattle.sed_check.specs.Loading.{KitsLoaded, TextLoaded}
use Rattle.sedona_cli.specs.New.{most_data}
use Rattle.sedona_laws.proofs.CommandEnds.{OneEnds, one_so_far}
use Rattle.sedona_laws.proofs.InputsOnce.{InputsOne}
use Rattle.sedona_laws.proofs.LoadedOnce.{RefusedAlike, generates_one}
use Rattle.sedona_laws.proofs.TextOnce.{OneTexts, so_far_ends_once}
use Rattle.sedona_laws.proofs.fronts.one_text_so_far.Goals as goal

pub returns : goal.returns
returns c =
    let refused : RefusedAlike = record { one = c.programs_alike_are_refused_alike.ensures.one; none = c.programs_alike_are_refused_alike.ensures.none } in
    let inputs : InputsOne = record { users = c.inputs_agree.ensures.of_users; secret = c.inputs_agree.ensures.of_secret; record_text = c.inputs_agree.ensures.of_record; code = c.inputs_agree.ensures.of_code } in
    let ends : OneEnds = record {
      reads = c.bytes_are_read_as_one.ensures;
      kits = λ (names : List (List ℕ)). generates_one (KitsLoaded names) (c.loads_agree.ensures.kits names) (c.loads_agree.ensures.alike names) refused;
      text = λ (file : List ℕ). generates_one (TextLoaded file) (c.loads_agree.ensures.text file) (c.loads_agree.ensures.alone file) refused;
      inputs = inputs;
      texts = λ p q alike. c.texts_alone_are_alike.ensures p q most_data alike.schema alike.fields alike.statics;
    } in
    let texts : OneTexts = record { reads = ends.reads; kits = ends.kits; text = ends.text; inputs = inputs; messages = c.messages_have_one_text.ensures.one } in
    λ command. so_far_ends_once texts command (one_so_far ends command)
