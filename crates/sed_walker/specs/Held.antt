-- What a walker stands for, and what is true of all that it keeps.
use Rattle.std.specs.Prelude.{ℕ, ◌≡◌, ◌≤◌, List, map, refl, IfSome}
use Rattle.std.specs.Coded.{Coded, code_by, coded×, coded_ℕ, coded_list}
use Rattle.std.specs.FinMap as finite
use Rattle.sed_value.specs.declared.value.Value.{Value}
use Rattle.sed_typed.specs.declared.program.Program.{Program}
use Rattle.sed_typed.specs.Contents.{Contents}
use Rattle.sed_typed.specs.Spelled.{CanBeTold}
use Rattle.sed_engine.specs.Code.{Object, Places, data_of}
use Rattle.sed_engine.specs.Fits.{Fits}
use Rattle.sed_engine.specs.Program.{meaning_of}
use Rattle.sed_engine.specs.Whole.{IsObject, IsWhole}
use Rattle.sed_cells.specs.Places.{Plan, classes_in, contents_of}
use Rattle.slab.specs.Slab.{Slab, entries}
use Rattle.sed_walker.specs.Slots.{object_of}
use Rattle.sed_walker.specs.declared.component.Component.{Component}

-- the object that a component is
abbrev pub object_seen : Plan → Component → Object
object_seen plan c = object_of plan c.class c.cells

-- the live places: each key with a component
abbrev pub live_of : Plan → Slab Component → Places
live_of plan components = finite.from_entries (map (λ e. (e.0, object_seen plan e.1)) (entries components))

-- the program, the live places, the contents of the statics, and the limit
pub record Held : Type 0 where
  pub program : Program
  pub live : Places
  pub statics : Contents
  pub limit : ℕ

abbrev pub held_of : Plan → Slab Component → List Value → ℕ → Held
held_of plan components statics limit = record {
  program = plan.program;
  live = live_of plan components;
  statics = contents_of plan (classes_in plan) statics;
  limit = limit;
}

-- contents that fit the statics of a program
abbrev pub FitsStatics : Program → Contents → Type 0
FitsStatics program contents =
    Fits (meaning_of program).fields (meaning_of program).static_fields (meaning_of program).initial_statics contents

-- the code is whole and can be told, whatever is kept fits, and the data of the live objects is counted and within the
-- limit
pub record IsHeld (h : Held) (used : ℕ) : Type 0 where
  pub whole : IsWhole (meaning_of h.program)
  pub told : CanBeTold h.program.schema
  pub objects : (p : ℕ) → IfSome (finite.get h.live p) (IsObject (meaning_of h.program))
  pub statics : FitsStatics h.program h.statics
  pub counted : used ≡ data_of (meaning_of h.program) h.live
  pub within : used ≤ h.limit

-- ---- codes of what is held

abbrev pub contents_code : Coded Value → Coded Contents
contents_code value = coded_list (coded× (coded_list coded_ℕ) value)

abbrev pub object_code : Coded Value → Coded Object
object_code value =
    code_by
    (ℕ × Contents)
    (coded× coded_ℕ (contents_code value))
    (λ o. (o.class, o.contents))
    (λ p. record { class = p.0; contents = p.1 })
    (λ _. refl)

abbrev pub held_code : Coded Program → Coded Value → Coded Held
held_code program value =
    code_by
    (Program × (Places × (Contents × ℕ)))
    (coded× program (coded× (finite.code coded_ℕ (object_code value)) (coded× (contents_code value) coded_ℕ)))
    (λ h. (h.program, (h.live, (h.statics, h.limit))))
    (λ p. record { program = p.0; live = p.1.0; statics = p.1.1.0; limit = p.1.1.1 })
    (λ _. refl)
