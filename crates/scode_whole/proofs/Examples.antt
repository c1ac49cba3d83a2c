-- An image with callbacks: it breaks no rule, so it means a whole code but for its root calls, and its callbacks run.
use Rattle.std.proofs.Common.{◌≡◌, ℕ, pos, List, [], ◌∷◌, codes, Some, None, refl}
use Rattle.sed_value.specs.declared.value.Value.TheVariants as kept
use Rattle.sed_engine.specs.declared.call.CallEnd.TheVariants.{Done}
use Rattle.sed_engine.specs.declared.call.Root.TheVariants.{Callback}
use Rattle.sed_engine.specs.declared.call.Callback.TheVariants.{Start, Stop}
use Rattle.scode_image.specs.declared.image.Image.{Image}
use Rattle.scode_image.specs.declared.image.ImageClass.{ImageClass}
use Rattle.scode_code.specs.Faults.{first_broken}
use Rattle.scode_code.specs.Image.{meaning_of}
use Rattle.scode_code.specs.Steps.{steps}
use Rattle.scode_code.proofs.Building.{class, field, int_0, kind, meta, method, outcome, run, save}
use Rattle.scode_whole.specs.Whole.{IsWholeButForRoots}
use Rattle.scode_whole.proofs.Whole.{whole_but_for_roots}

-- `Component` has `execute`, `start`, `stop` and `changed(int)`, which do nothing
sys : List ImageClass
sys =
    class 0 0 (codes "Obj") 0xffff 1 [] [] [] []
    ∷ class 0 1 (codes "Virtual") 0 1 [] [] [] []
    ∷ class 0 2 (codes "Component") 1 3 (field 0 4 0 ∷ []) (meta ∷ []) (0 ∷ 1 ∷ 2 ∷ 3 ∷ []) int_0
    ∷ class 0 3 (codes "App") 2 2 (field 0 4 0 ∷ []) (meta ∷ save ∷ []) (0 ∷ 1 ∷ 2 ∷ 3 ∷ []) int_0
    ∷ class 0 4 (codes "Folder") 2 2 (field 0 4 0 ∷ []) (meta ∷ []) (0 ∷ 1 ∷ 2 ∷ 3 ∷ []) int_0
    -- class 5 has a `start` of its own
    ∷ class 1 0 (codes "A") 2 2 (field 0 4 0 ∷ field 4 4 0 ∷ []) (meta ∷ []) (0 ∷ 4 ∷ 2 ∷ 3 ∷ [])
    (0 ∷ 0 ∷ 0 ∷ 0 ∷ 0 ∷ 0 ∷ 0 ∷ 0 ∷ [])
    ∷ []

-- its `start` is x = 7
callbacks : Image
callbacks = record {
  kits = record { name = codes "sys"; checksum = pos 0 } ∷ record { name = codes "k"; checksum = pos 0 } ∷ [];
  classes = sys;
  static_fields = [];
  static_bytes = [];
  texts = [];
  methods =
      method 2 [] (kind 0) [] (0x72 ∷ [])
      ∷ method 2 [] (kind 0) [] (0x72 ∷ [])
      ∷ method 2 [] (kind 0) [] (0x72 ∷ [])
      ∷ method 2 (kind 2 ∷ []) (kind 0) [] (0x72 ∷ [])
      ∷ method 5 [] (kind 0) [] (0x07 ∷ 0 ∷ 0x01 ∷ 0 ∷ 0 ∷ 0 ∷ 7 ∷ 0x58 ∷ 0 ∷ 4 ∷ 0x72 ∷ [])
      ∷ [];
}

callbacks_are_verified : first_broken callbacks ≡ None
unfolding sys callbacks
callbacks_are_verified = refl

callbacks_are_whole : IsWholeButForRoots (meaning_of callbacks)
callbacks_are_whole = whole_but_for_roots callbacks callbacks_are_verified

-- the component's own `start` runs, and the `stop` of `Component`
starts : outcome (run callbacks (Callback Start) 10) (1 ∷ []) ≡ (Done 10, Some (kept.Int (pos 7)) ∷ [])
unfolding sys callbacks steps
starts = refl

stops : outcome (run callbacks (Callback Stop) 10) (1 ∷ []) ≡ (Done 10, Some (kept.Int (pos 0)) ∷ [])
unfolding sys callbacks steps
stops = refl
