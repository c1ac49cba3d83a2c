use Rattle.std.proofs.Common.{ℕ, List}
use Rattle.sed_check.specs.Loading.{KitsLoaded, TextLoaded}
use Rattle.sedona_laws.proofs.LoadedOnce.{RefusedAlike, generates_one}
use Rattle.sedona_laws.proofs.TextOnce.{OneTexts, ends_once}
use Rattle.sedona_laws.proofs.ends.one_text.Goals as goal

pub returns : goal.returns
returns c =
    let refused : RefusedAlike = record { one = c.programs_alike_are_refused_alike.ensures.one; none = c.programs_alike_are_refused_alike.ensures.none } in
    let texts : OneTexts = record {
      reads = c.bytes_are_read_as_one.ensures;
      kits = λ (names : List (List ℕ)). generates_one (KitsLoaded names) (c.loads_agree.ensures.kits names) (c.loads_agree.ensures.alike names) refused;
      text = λ (file : List ℕ). generates_one (TextLoaded file) (c.loads_agree.ensures.text file) (c.loads_agree.ensures.alone file) refused;
      inputs = record { users = c.inputs_agree.ensures.of_users; secret = c.inputs_agree.ensures.of_secret; record_text = c.inputs_agree.ensures.of_record; code = c.inputs_agree.ensures.of_code };
      messages = c.messages_have_one_text.ensures.one;
    } in
    λ command. ends_once texts command (c.one_end.ensures command)
