-- The front of a file as a form of bytes.
use Rattle.std.specs.Prelude.{ℕ, ◌==◌, ◌||◌, Bool, List, refl}
use Rattle.sed_value.specs.Names.{is_kit_name}
use Rattle.sed_value.specs.declared.kit.KitRef.{KitRef}
use Rattle.sed_wire.specs.Form.{Form, seen_as, only, ◌&◌}
use Rattle.sed_wire.specs.Leaves.{u1, u4, i4, mark, text}
use Rattle.sed_wire.specs.Row.{counted}
use Rattle.app_front.specs.declared.front.Front.{Front}

-- what begins each file, as characters `sapp`
unfoldable pub head : Form (Unit {0})
head = mark 4 0x73617070

-- the version that is written, or the one before it
abbrev pub is_version : ℕ → Bool
is_version number = (number == 4) || (number == 3)

unfoldable pub version : Form ℕ
version = only is_version u4

unfoldable pub kit_name : Form (List ℕ)
kit_name = only is_kit_name text

unfoldable pub kit : Form KitRef
kit =
    seen_as (λ k. record { name = k.0; checksum = k.1 }) (λ k. (k.name, k.checksum)) (λ k. refl)
    (kit_name & i4) (λ k bytes h. refl)

unfoldable pub front : Form Front
front =
    seen_as (λ f. record { version = f.1.0; kits = f.1.1 }) (λ f. (tt, (f.version, f.kits))) (λ f. refl)
    (head & (version & counted u1 kit)) (λ f bytes h. refl)
