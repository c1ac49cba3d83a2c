-- What is answered of the rows of bytes, in the words of files.
use Rattle.std.proofs.Common.{◌≡◌, ◌⊎◌, inl, inr, ℕ, List, [], length, Result, Ok, Err, refl, sym, ◌∙◌, ap, subst}
use Rattle.std.specs.Prelude.{Option}
use Rattle.sed_value.specs.declared.kit.KitRef.{KitRef}
use Rattle.sed_typed.specs.declared.schema.Schema.{Schema}
use Rattle.sed_engine.specs.Code.{Meaning}
use Rattle.sed_engine.specs.Whole.{KeepsLimits}
use Rattle.sed_wire.specs.Form.{found_eq}
use Rattle.app_file.specs.Reading.{DifferAt, HasNoFront, HasWrongKits, IsFront}
use Rattle.app_file.specs.declared.refusal.AppRefusal.{AppRefusal}
use Rattle.app_file.specs.declared.refusal.AppRefusal.TheVariants.{NotAnApp, WrongKits, OverLimit, Memory}
use Rattle.app_front.specs.BodyForm.{IsBodyAnswer, ReadsNoRows, body}
use Rattle.app_front.specs.Rows.{AreRows, HasNoRows, IsNoRowsAnswer, IsOtherKitsAnswer, IsRowsAnswer, IsRowsOutcome}
use Rattle.app_front.specs.declared.front.Front.{Front}
use Rattle.app_front.specs.declared.rows.FileRows.{FileRows}
use Rattle.app_file.proofs.OneReading.{not_of_itself, one_place}
use Rattle.app_front.proofs.Bodies.{reads_of_rows, rows_of_reads}
use Rattle.app_front.proofs.Fronts.{front-whole, front_of}

record IsOneFront (v w : ℕ) (kits others : List KitRef) (rest behind : List ℕ) : Type 0 where
  version : v ≡ w
  same : kits ≡ others
  left : rest ≡ behind

one_front : (v w : ℕ) (kits others : List KitRef) (bytes rest behind : List ℕ) → IsFront v kits bytes rest → IsFront w others bytes behind → IsOneFront v w kits others rest behind
one_front v w kits others bytes rest behind one other =
    let both = found_eq (front_of v kits) rest (front_of w others) behind (sym (front-whole v kits bytes rest one) ∙ front-whole w others bytes behind other) in
    record { version = ap (λ (f : Front). f.version) both.0; same = ap (λ (f : Front). f.kits) both.0; left = both.1 }

module _ (m : Meaning) (keeps : KeepsLimits m.schema) (bytes : List ℕ) where
  no_kits : (version place : ℕ) (rest : List ℕ) (in_file in_kits : Option KitRef) → IsFront version m.schema.kits bytes rest → HasWrongKits m bytes place in_file in_kits → ⊥
  no_kits version place rest in_file in_kits front has =
      let one = one_front has.version version has.kits m.schema.kits bytes has.rest rest has.front front in
      not_of_itself m.schema.kits place in_file in_kits (subst (λ (kits : List KitRef). DifferAt kits m.schema.kits place in_file in_kits) one.same has.first)

  no_rows : ReadsNoRows m.schema bytes → (f : FileRows) → AreRows m bytes f → ⊥
  no_rows lacks f are =
      let reads = reads_of_rows m keeps bytes f are in
      let one = one_front f.version lacks.version m.schema.kits m.schema.kits bytes reads.rest lacks.rest reads.front lacks.front in
      lacks.none f
      (ap (λ (v : ℕ). (body m.schema.classes v (length bytes)).reads lacks.rest) (sym one.version)
      ∙ ap (body m.schema.classes f.version (length bytes)).reads (sym one.left) ∙ reads.found)

  pub is_outcome : (result : Result FileRows AppRefusal) → IsBodyAnswer m.schema bytes result → IsRowsOutcome m bytes result
  is_outcome (Ok f) answer = rows_of_reads m keeps bytes f answer
  is_outcome (Err (NotAnApp at)) (inl none) = inl none
  is_outcome (Err (NotAnApp at)) (inr lacks) = inr (record { version = lacks.version; rest = lacks.rest; front = lacks.front; none = no_rows lacks })
  is_outcome (Err (WrongKits place in_file in_kits)) answer = answer m refl
  is_outcome (Err (OverLimit which)) answer = answer
  is_outcome (Err Memory) answer = tt

  pub is_rows : (result : Result FileRows AppRefusal) → IsBodyAnswer m.schema bytes result → (f : FileRows) → AreRows m bytes f → IsRowsAnswer f result
  is_rows (Ok g) answer f are =
      let reads = reads_of_rows m keeps bytes f are in
      let one = one_front f.version g.version m.schema.kits m.schema.kits bytes reads.rest answer.rest reads.front answer.front in
      let again : (body m.schema.classes g.version (length bytes)).reads answer.rest ≡ _ =
      ap (λ (v : ℕ). (body m.schema.classes v (length bytes)).reads answer.rest) (sym one.version)
      ∙ ap (body m.schema.classes f.version (length bytes)).reads (sym one.left) ∙ reads.found in
      (found_eq g [] f [] (sym answer.found ∙ again)).0
  is_rows (Err (NotAnApp at)) (inl none) f are = none f.version m.schema.kits _ are.front
  is_rows (Err (NotAnApp at)) (inr lacks) f are = no_rows lacks f are
  is_rows (Err (WrongKits place in_file in_kits)) answer f are = no_kits f.version place _ in_file in_kits are.front (answer m refl)
  is_rows (Err (OverLimit which)) answer f are = answer
  is_rows (Err Memory) answer f are = tt

  pub is_wrong : (result : Result FileRows AppRefusal) → IsBodyAnswer m.schema bytes result → (place : ℕ) (in_file in_kits : Option KitRef) → HasWrongKits m bytes place in_file in_kits
      → IsOtherKitsAnswer place in_file in_kits result
  is_wrong (Ok g) answer place in_file in_kits has = no_kits g.version place answer.rest in_file in_kits answer.front has
  is_wrong (Err (NotAnApp at)) (inl none) place in_file in_kits has = none has.version has.kits has.rest has.front
  is_wrong (Err (NotAnApp at)) (inr lacks) place in_file in_kits has = no_kits lacks.version place lacks.rest in_file in_kits lacks.front has
  is_wrong (Err (WrongKits at one other)) answer place in_file in_kits has =
      let read = answer m refl in
      let front = one_front read.version has.version read.kits has.kits bytes read.rest has.rest read.front has.front in
      let is = one_place has.kits m.schema.kits at place one in_file other in_kits (subst (λ (kits : List KitRef). DifferAt kits m.schema.kits at one other) front.same read.first) has.first in
      (is.place, is.in_file, is.in_kits)
  is_wrong (Err (OverLimit which)) answer place in_file in_kits has = answer
  is_wrong (Err Memory) answer place in_file in_kits has = tt

  pub is_none : (result : Result FileRows AppRefusal) → IsBodyAnswer m.schema bytes result → HasNoFront bytes ⊎ HasNoRows m bytes → IsNoRowsAnswer result
  is_none (Ok f) answer (inl none) = none f.version m.schema.kits answer.rest answer.front
  is_none (Ok f) answer (inr lacks) = lacks.none f (rows_of_reads m keeps bytes f answer)
  is_none (Err (NotAnApp at)) answer why = tt
  is_none (Err (WrongKits place in_file in_kits)) answer (inl none) = let has = answer m refl in none has.version has.kits has.rest has.front
  is_none (Err (WrongKits place in_file in_kits)) answer (inr lacks) = no_kits lacks.version place lacks.rest in_file in_kits lacks.front (answer m refl)
  is_none (Err (OverLimit which)) answer why = answer
  is_none (Err Memory) answer why = tt

-- ---- with the schema that is handed in

pub ours : (m : Meaning) (schema : Schema) (bytes : List ℕ) (result : Result FileRows AppRefusal) → m.schema ≡ schema → IsBodyAnswer schema bytes result → IsBodyAnswer m.schema bytes result
ours m schema bytes result same answer = subst (λ (s : Schema). IsBodyAnswer s bytes result) (sym same) answer

pub keeps_ours : (m : Meaning) (schema : Schema) → m.schema ≡ schema → KeepsLimits schema → KeepsLimits m.schema
keeps_ours m schema same keeps = subst KeepsLimits (sym same) keeps
