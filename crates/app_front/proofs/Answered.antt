-- What is answered once a front is read.
use Rattle.std.proofs.Common.{◌≡◌, inl, inr, ℕ, List, [], length, Err, sym, ◌∙◌, ap, subst}
use Rattle.sed_typed.specs.declared.schema.ClassInfo.{ClassInfo}
use Rattle.sed_typed.specs.declared.schema.Schema.{Schema}
use Rattle.sed_wire.specs.Form.{found_eq, not_found}
use Rattle.sed_wire.specs.FormReading.{Found, Stuck}
use Rattle.app_file.specs.Reading.{HasNoFront, IsFront}
use Rattle.app_file.specs.declared.refusal.AppRefusal.{AppRefusal}
use Rattle.app_file.specs.declared.refusal.AppRefusal.TheVariants.{NotAnApp, WrongKits, OverLimit, Memory}
use Rattle.app_front.specs.BodyForm.{IsBodyAnswer, ReadsNoRows, ReadsRows, body}
use Rattle.app_front.specs.Front.{IsFrontOutcome}
use Rattle.sed_wire.specs.Gives.{Gives}
use Rattle.sed_value.specs.declared.halt.Halt.{Halt}
use Rattle.sed_value.specs.declared.halt.Halt.TheVariants.{Fault}
use Rattle.app_front.specs.declared.rows.FileRows.{FileRows}

pub front_refused : (schema : Schema) (bytes old left : List ℕ) (refusal : AppRefusal) → old ≡ bytes → IsFrontOutcome schema old left (Err refusal) → IsBodyAnswer schema bytes (Err refusal)
front_refused schema bytes old left (NotAnApp at) same is = inl (subst HasNoFront same is)
front_refused schema bytes old left (WrongKits place in_file in_kits) same is =
    subst (λ (b : List ℕ). IsFrontOutcome schema b left (Err (WrongKits place in_file in_kits))) same is
front_refused schema bytes old left (OverLimit which) same is = absurd is
front_refused schema bytes old left Memory same is = tt

-- the version is the one that is known
body_version : (classes : List ClassInfo) (version most : ℕ) (bytes rest : List ℕ) (f : FileRows) → (body classes version most).reads bytes ≡ Found f rest → f.version ≡ version
unfolding body
body_version classes version most bytes rest f e = ((body classes version most).sound bytes f rest e).1.2.0

pub rows_read : (schema : Schema) (bytes old rest left : List ℕ) (version : ℕ) (f : FileRows) → old ≡ bytes → IsFront version schema.kits old rest
    → (body schema.classes version (length bytes)).reads rest ≡ Found f left → left ≡ [] → ReadsRows schema bytes f
rows_read schema bytes old rest left version f same front e none =
    let is : f.version ≡ version = body_version schema.classes version (length bytes) rest left f e in
    record {
      rest = rest;
      front = subst (λ (v : ℕ). IsFront v schema.kits bytes rest) (sym is) (subst (λ (b : List ℕ). IsFront version schema.kits b rest) same front);
      found =
          ap (λ (v : ℕ). (body schema.classes v (length bytes)).reads rest) is ∙ e ∙ ap (λ (r : List ℕ). Found f r) none;
    }

no_rows : (schema : Schema) (bytes : List ℕ) (refusal : AppRefusal) → ((at : ℕ) × (refusal ≡ NotAnApp at)) → ReadsNoRows schema bytes → IsBodyAnswer schema bytes (Err refusal)
no_rows schema bytes refusal (at, is) none = subst (λ (r : AppRefusal). IsBodyAnswer schema bytes (Err r)) (sym is) (inr none)

pub more_stands : (schema : Schema) (bytes old rest left : List ℕ) (version : ℕ) (f : FileRows) (refusal : AppRefusal) → old ≡ bytes → IsFront version schema.kits old rest
    → (body schema.classes version (length bytes)).reads rest ≡ Found f left → (left ≡ [] → ⊥) → ((at : ℕ) × (refusal ≡ NotAnApp at)) → IsBodyAnswer schema bytes (Err refusal)
more_stands schema bytes old rest left version f refusal same front e more told = no_rows schema bytes refusal told (record {
  version = version;
  rest = rest;
  front = subst (λ (b : List ℕ). IsFront version schema.kits b rest) same front;
  none = λ g found. more (found_eq f left g [] (sym e ∙ found)).1;
})

pub none_stands : (schema : Schema) (bytes old rest left : List ℕ) (version : ℕ) (refusal : AppRefusal) → old ≡ bytes → IsFront version schema.kits old rest
    → (halt : Halt) → halt ≡ Fault → Gives (Err halt) left ((body schema.classes version (length bytes)).reads rest) → ((at : ℕ) × (refusal ≡ NotAnApp at)) → IsBodyAnswer schema bytes (Err refusal)
none_stands schema bytes old rest left version refusal same front halt fault e told = no_rows schema bytes refusal told (record {
  version = version;
  rest = rest;
  front = subst (λ (b : List ℕ). IsFront version schema.kits b rest) same front;
  none = λ g found.
      let stuck : (body schema.classes version (length bytes)).reads rest ≡ Stuck left =
      subst (λ (h : Halt). Gives (Err h) left ((body schema.classes version (length bytes)).reads rest)) fault e in
      not_found left [] g (sym stuck ∙ found);
})
