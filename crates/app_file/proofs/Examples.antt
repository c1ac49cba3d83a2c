-- Texts of small applications, computed from the definitions.
use Rattle.std.proofs.Common.{◌≡◌, ℕ, zero, suc, pos, ◌<◌, List, [], ◌∷◌, length, refl, arith}
use Rattle.std.specs.Prelude.{codes, slice_get, Option, Some, None}
use Rattle.std.specs.FinMap as map
use Rattle.comp_tree.specs.Application.{Application, ById, Component, Link}
use Rattle.sed_value.specs.declared.kit.KitRef.{KitRef}
use Rattle.comp_tree.specs.Limits.{limit_passed}
use Rattle.app_file.specs.Reading.{DifferAt}
use Rattle.app_file.specs.Text.{app_text, old_text}
use Rattle.app_file.proofs.Building.{application, code, component, found, math, plant, sys}

-- ---- the App alone

abbrev alone : List (ℕ × Component)
alone = (0, component 3 (codes "app") None [] (pos 0 ∷ [])) ∷ []

-- behind the kits
abbrev alone_body : List ℕ
alone_body =
    0 ∷ 0
    ∷ 0 ∷ 0 ∷ 0 ∷ 3 ∷ 0x61 ∷ 0x70 ∷ 0x70 ∷ 0 ∷ 0xff ∷ 0xff ∷ 0xff ∷ 0xff ∷ 0xff ∷ 0xff ∷ 0 ∷ 0 ∷ 0 ∷ 0 ∷ 0x3b
    ∷ 0xff ∷ 0xff ∷ 0xff ∷ 0xff ∷ 0x2e ∷ []

abbrev alone_text : ℕ → List ℕ
alone_text version =
    0x73 ∷ 0x61 ∷ 0x70 ∷ 0x70 ∷ 0 ∷ 0 ∷ 0 ∷ version ∷ 1 ∷ 0x73 ∷ 0x79 ∷ 0x73 ∷ 0 ∷ 0x36 ∷ 0 ∷ 0xe4 ∷ 0xe4 ∷ alone_body

app_alone : (all : ById) → map.entries all ≡ alone → app_text (code (sys ∷ [])) (application all []) ≡ alone_text 4
unfolding code sys
app_alone all is = rw is refl

app_alone_has_43 : length (alone_text 4) ≡ 43
app_alone_has_43 = refl

old_alone : (all : ById) → map.entries all ≡ alone → old_text (code (sys ∷ [])) (application all []) ≡ alone_text 3
unfolding code sys
old_alone all is = rw is refl

-- under two kits it has nine bytes more
two_kits : (all : ById) → map.entries all ≡ alone → length (app_text (code (sys ∷ math ∷ [])) (application all [])) ≡ 52
unfolding code sys math
two_kits all is = rw is refl

-- ---- two components, and a link from the second to the first

abbrev two : List (ℕ × Component)
two =
    (0, component 3 (codes "app") None (1 ∷ 2 ∷ []) (pos 0 ∷ []))
    ∷ (1, component 6 (codes "a") (Some 0) [] (pos 0 ∷ pos 0 ∷ pos 0 ∷ pos 0 ∷ []))
    ∷ (2, component 5 (codes "r") (Some 0) [] (pos 0 ∷ pos 1 ∷ pos 0 ∷ []))
    ∷ []

abbrev from_ramp : Link
from_ramp = record { from = 2; from_slot = 2; to = 1; to_slot = 1 }

abbrev two_text : List ℕ
two_text =
    0x73 ∷ 0x61 ∷ 0x70 ∷ 0x70 ∷ 0 ∷ 0 ∷ 0 ∷ 4
    ∷ 2 ∷ 0x73 ∷ 0x79 ∷ 0x73 ∷ 0 ∷ 0x36 ∷ 0 ∷ 0xe4 ∷ 0xe4 ∷ 0x6d ∷ 0x61 ∷ 0x74 ∷ 0x68 ∷ 0 ∷ 0xad ∷ 0x0f ∷ 0x33 ∷ 0x4b
    ∷ 0 ∷ 2
    ∷ 0 ∷ 0 ∷ 0 ∷ 3 ∷ 0x61 ∷ 0x70 ∷ 0x70 ∷ 0 ∷ 0xff ∷ 0xff ∷ 0 ∷ 1 ∷ 0xff ∷ 0xff ∷ 0 ∷ 0 ∷ 0 ∷ 0 ∷ 0x3b
    ∷ 0 ∷ 1 ∷ 1 ∷ 1 ∷ 0x61 ∷ 0 ∷ 0 ∷ 0 ∷ 0xff ∷ 0xff ∷ 0 ∷ 2 ∷ 0 ∷ 0 ∷ 0 ∷ 0 ∷ 0x3b
    ∷ 0 ∷ 2 ∷ 1 ∷ 0 ∷ 0x72 ∷ 0 ∷ 0 ∷ 0 ∷ 0xff ∷ 0xff ∷ 0xff ∷ 0xff ∷ 0 ∷ 0 ∷ 0 ∷ 0 ∷ 0 ∷ 0 ∷ 0 ∷ 1 ∷ 0x3b
    ∷ 0xff ∷ 0xff
    ∷ 0 ∷ 2 ∷ 2 ∷ 0 ∷ 1 ∷ 1
    ∷ 0xff ∷ 0xff ∷ 0x2e ∷ []

two_components : (all : ById) → map.entries all ≡ two → app_text (code (sys ∷ math ∷ [])) (application all (from_ramp ∷ [])) ≡ two_text
unfolding code sys math
two_components all is = rw (is, found all two is 0) refl

two_have_96 : length two_text ≡ 96
two_have_96 = refl

-- whatever the runtime properties are
abbrev two_run : List (ℕ × Component)
two_run =
    (0, component 3 (codes "app") None (1 ∷ 2 ∷ []) (pos 0 ∷ []))
    ∷ (1, component 6 (codes "a") (Some 0) [] (pos 0 ∷ pos 7 ∷ pos 8 ∷ pos 9 ∷ []))
    ∷ (2, component 5 (codes "r") (Some 0) [] (pos 0 ∷ pos 1 ∷ pos 5 ∷ []))
    ∷ []

runtime_values_are_not_told : (all : ById) → map.entries all ≡ two_run
    → app_text (code (sys ∷ math ∷ [])) (application all (from_ramp ∷ [])) ≡ two_text
unfolding code sys math
runtime_values_are_not_told all is = rw (is, found all two_run is 0) refl

-- ---- limits

abbrev under : ℕ → ById → List Link → Application
under limit all links = record { components = record { by_id = all; statics = []; limit = limit }; links = links }

-- 4 + 16 + 12 bytes of data
within : (all : ById) → map.entries all ≡ two → limit_passed (code (sys ∷ math ∷ [])) (under 32 all (from_ramp ∷ [])) ≡ None
unfolding code
within all is = rw (is, found all two is 0, found all two is 1, found all two is 2, found all two is 0) refl

data_passes : (all : ById) → map.entries all ≡ two → limit_passed (code (sys ∷ math ∷ [])) (under 31 all (from_ramp ∷ [])) ≡ Some 6
unfolding code
data_passes all is = rw (is, found all two is 0, found all two is 1, found all two is 2, found all two is 0) refl

-- an id of 4,096 is told before the data
abbrev far : List (ℕ × Component)
far =
    (0, component 3 (codes "app") None (4096 ∷ []) (pos 0 ∷ []))
    ∷ (4096, component 4 (codes "f") (Some 0) [] (pos 0 ∷ []))
    ∷ []

id_passes : (all : ById) → map.entries all ≡ far → limit_passed (code (sys ∷ [])) (under 4 all []) ≡ Some 1
unfolding code
id_passes all is = rw is refl

-- ---- kits

-- a kit more than the file has, and another checksum
kit_is_missing : DifferAt (sys ∷ math ∷ []) (sys ∷ math ∷ plant ∷ []) 2 None (Some plant)
unfolding sys math plant
kit_is_missing = record {
  before = λ k lt. two_ways k lt;
  file_has = refl;
  kits_have = refl;
  differ = λ same. let no : ◌≡◌ {A = Option KitRef} None (Some plant) = same in absurd (cc);
}
  where
    two_ways : (k : ℕ) → k < 2 → slice_get (sys ∷ math ∷ []) k ≡ slice_get (sys ∷ math ∷ plant ∷ []) k
    two_ways zero lt = refl
    two_ways (suc zero) lt = refl
    two_ways (suc (suc k)) lt = absurd (omega arith)

no_kits_at_all : DifferAt [] (sys ∷ []) 0 None (Some sys)
no_kits_at_all = record {
  before = λ k lt. absurd (omega (arith, lt));
  file_has = refl;
  kits_have = refl;
  differ = λ same. let no : ◌≡◌ {A = Option KitRef} None (Some sys) = same in absurd (cc);
}
