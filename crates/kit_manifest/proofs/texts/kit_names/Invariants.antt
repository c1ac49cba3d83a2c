use Rattle.std.proofs.Common.{◌≡◌, true, take}
use Rattle.std.specs.List.{list_all}
use Rattle.sed_value.specs.Names.{is_kit_name}
use Rattle.kit_manifest.proofs.texts.kit_names.Given as goal

abbrev pub invariant-loop-text : goal.invariant-loop-text
invariant-loop-text l = record {
  read : l.names.items ≡ take l.text-index l.texts;
  named : list_all is_kit_name (take l.text-index l.texts) ≡ true;
}
