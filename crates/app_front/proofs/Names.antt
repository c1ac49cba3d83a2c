-- What a reader gives of names, as their form reads them.
use Rattle.std.proofs.Common.{◌≡◌, ℕ, Bool, true, false, List, ◌++◌, Result, Err, IsOkAnd, refl, ap}
use Rattle.std.specs.Prelude.{Option, Some, None, if◌then◌else◌}
use Rattle.sed_wire.specs.Reading.{Reads}
use Rattle.sed_wire.specs.Text.{SpellsText}
use Rattle.sed_wire.specs.declared.fault.StrFault.{StrFault}
use Rattle.sed_wire.specs.Form.{on_none, only, on_whole, passed}
use Rattle.sed_wire.specs.Leaves.{text}
use Rattle.sed_wire.specs.FormReading.{Found, Stuck}
use Rattle.sed_wire.proofs.LeafLemmas.{text_none, text_read}

passes : (b : Bool) (t name : List ℕ) (new old : List ℕ) → (if b then Some t else None) ≡ Some name → passed b t new old ≡ Found name new
passes true t name new old e = let same : t ≡ name = cc in ap (λ (n : List ℕ). Found n new) same
passes false t name new old e = absurd (let no : ◌≡◌ {A = Option (List ℕ)} None (Some name) = e in cc)

fails : (b : Bool) (t : List ℕ) (new old : List ℕ) → ◌≡◌ {A = Option (List ℕ)} (if b then Some t else None) None → passed b t new old ≡ Stuck old
fails true t new old e = absurd (let no : ◌≡◌ {A = Option (List ℕ)} (Some t) None = e in cc)
fails false t new old e = refl

module _ (test : List ℕ → Bool) where
  pub name_found : (t name old new : List ℕ) → Reads SpellsText t old new → (if test t then Some t else None) ≡ Some name → (only test text).reads old ≡ Found name new
  name_found t name old new read e =
      on_whole (text.reads old) (λ a rest. passed (test a) a rest old) t new _ (text_read t old new read) (passes (test t) t name new old e)

  pub name_wrong : (t old new : List ℕ) → Reads SpellsText t old new → ◌≡◌ {A = Option (List ℕ)} (if test t then Some t else None) None → (only test text).reads old ≡ Stuck old
  name_wrong t old new read e =
      on_whole (text.reads old) (λ a rest. passed (test a) a rest old) t new _ (text_read t old new read) (fails (test t) t new old e)

  pub name_none : {T : Type 0} (now : T → List ℕ) (result : Result T StrFault) (fault : StrFault) (old new : List ℕ) → result ≡ Err fault
      → ((t spelling follows : List ℕ) → SpellsText t spelling → old ≡ spelling ++ follows → IsOkAnd result (λ read. now read ≡ t) × (new ≡ follows))
      → (only test text).reads old ≡ Stuck old
  name_none now result fault old new e again =
      on_none (text.reads old) (λ a rest. passed (test a) a rest old) old (text_none now result fault old new e again)
