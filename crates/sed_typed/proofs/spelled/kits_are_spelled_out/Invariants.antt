use Rattle.std.proofs.Common.{ℕ, ◌<◌, get_or}
use Rattle.std.specs.Prelude.{IsTrue}
use Rattle.std.specs.Int.{w32}
use Rattle.sed_value.specs.Names.{is_kit_name}
use Rattle.sed_value.specs.Value.{is_signed}
use Rattle.sed_value.specs.declared.kit.KitRef.{KitRef}
use Rattle.sed_typed.proofs.spelled.kits_are_spelled_out.Given as goal

abbrev pub invariant-loop-kit : goal.invariant-loop-kit
invariant-loop-kit l = record {
  names : (k : ℕ) (d : KitRef) → k < l.kit-index → IsTrue (is_kit_name (get_or l.kits k d).name);
  checksums : (k : ℕ) (d : KitRef) → k < l.kit-index → IsTrue (is_signed w32 (get_or l.kits k d).checksum);
}
