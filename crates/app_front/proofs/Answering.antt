-- What is answered by the form of a front, in the words of files.
use Rattle.std.proofs.Common.{◌≡◌, ℕ, List, Result, Ok, Err, sym, ◌∙◌, ap, subst}
use Rattle.std.specs.Prelude.{Option}
use Rattle.sed_value.specs.declared.kit.KitRef.{KitRef}
use Rattle.sed_typed.specs.declared.schema.Schema.{Schema}
use Rattle.sed_engine.specs.Code.{Meaning}
use Rattle.sed_wire.specs.Form.{found_eq, not_found}
use Rattle.app_file.specs.Reading.{DifferAt, HasNoFront, HasWrongKits, IsFront}
use Rattle.app_file.specs.declared.refusal.AppRefusal.{AppRefusal}
use Rattle.app_file.specs.declared.refusal.AppRefusal.TheVariants.{NotAnApp, WrongKits, OverLimit, Memory}
use Rattle.app_file.proofs.OneReading.{not_of_itself, one_place}
use Rattle.app_front.specs.Form as form
use Rattle.app_front.specs.Front.{IsFrontOutcome, IsNoFrontAnswer, IsVersionAnswer, IsWrongKitsAnswer}
use Rattle.app_front.specs.FrontAnswer.{IsAnswerTo}
use Rattle.app_front.specs.declared.front.Front.{Front}
use Rattle.app_front.proofs.Fronts.{front-read, front-whole, front_of}

kits_of : (f g : Front) → f ≡ g → f.kits ≡ g.kits
kits_of f g same = ap (λ (x : Front). x.kits) same

-- ---- what is answered has its reason

module _ (schema : Schema) (old new : List ℕ) where
  pub is_outcome : (result : Result ℕ AppRefusal) → IsAnswerTo schema.kits (form.front.reads old) new result → IsFrontOutcome schema old new result
  is_outcome (Ok version) answer = front-read (front_of version schema.kits) old new answer
  is_outcome (Err (NotAnApp at)) answer =
      λ version kits rest is. not_found new rest (front_of version kits) (sym answer ∙ front-whole version kits old rest is)
  is_outcome (Err (WrongKits place in_file in_kits)) answer = λ m same. record {
    version = answer.front.version;
    kits = answer.front.kits;
    rest = answer.rest;
    front = front-read answer.front old answer.rest answer.found;
    first = subst (λ (s : Schema). DifferAt answer.front.kits s.kits place in_file in_kits) (sym same) answer.differ;
  }
  is_outcome (Err (OverLimit which)) answer = answer
  is_outcome (Err Memory) answer = tt

  -- ---- and where there is a reason it is answered

  pub is_version : (result : Result ℕ AppRefusal) → IsAnswerTo schema.kits (form.front.reads old) new result
      → (version : ℕ) (rest : List ℕ) → IsFront version schema.kits old rest → IsVersionAnswer version rest new result
  is_version (Ok read) answer version rest is =
      let both = found_eq (front_of read schema.kits) new (front_of version schema.kits) rest (sym answer ∙ front-whole version schema.kits old rest is) in
      (ap (λ (f : Front). f.version) both.0, both.1)
  is_version (Err (NotAnApp at)) answer version rest is =
      not_found new rest (front_of version schema.kits) (sym answer ∙ front-whole version schema.kits old rest is)
  is_version (Err (WrongKits place in_file in_kits)) answer version rest is =
      let both = found_eq answer.front answer.rest (front_of version schema.kits) rest (sym answer.found ∙ front-whole version schema.kits old rest is) in
      not_of_itself schema.kits place in_file in_kits
      (subst (λ (ks : List KitRef). DifferAt ks schema.kits place in_file in_kits) (kits_of answer.front (front_of version schema.kits) both.0) answer.differ)
  is_version (Err (OverLimit which)) answer version rest is = answer
  is_version (Err Memory) answer version rest is = tt

  ours : (m : Meaning) (place : ℕ) (in_file in_kits : Option KitRef) (kits : List KitRef) → m.schema ≡ schema
      → DifferAt kits m.schema.kits place in_file in_kits → DifferAt kits schema.kits place in_file in_kits
  ours m place in_file in_kits kits same differ = subst (λ (s : Schema). DifferAt kits s.kits place in_file in_kits) same differ

  pub is_wrong : (result : Result ℕ AppRefusal) → IsAnswerTo schema.kits (form.front.reads old) new result
      → (m : Meaning) (place : ℕ) (in_file in_kits : Option KitRef) → m.schema ≡ schema → HasWrongKits m old place in_file in_kits
      → IsWrongKitsAnswer place in_file in_kits result
  is_wrong (Ok read) answer m place in_file in_kits same has =
      let both = found_eq (front_of read schema.kits) new (front_of has.version has.kits) has.rest (sym answer ∙ front-whole has.version has.kits old has.rest has.front) in
      let ours_there : DifferAt schema.kits schema.kits place in_file in_kits =
      subst (λ (ks : List KitRef). DifferAt ks schema.kits place in_file in_kits) (sym (kits_of (front_of read schema.kits) (front_of has.version has.kits) both.0)) (ours m place in_file in_kits has.kits same has.first) in
      not_of_itself schema.kits place in_file in_kits ours_there
  is_wrong (Err (NotAnApp at)) answer m place in_file in_kits same has =
      not_found new has.rest (front_of has.version has.kits) (sym answer ∙ front-whole has.version has.kits old has.rest has.front)
  is_wrong (Err (WrongKits at one other)) answer m place in_file in_kits same has =
      let both = found_eq answer.front answer.rest (front_of has.version has.kits) has.rest (sym answer.found ∙ front-whole has.version has.kits old has.rest has.front) in
      let read : DifferAt has.kits schema.kits at one other =
      subst (λ (ks : List KitRef). DifferAt ks schema.kits at one other) (kits_of answer.front (front_of has.version has.kits) both.0) answer.differ in
      let is = one_place has.kits schema.kits at place one in_file other in_kits read (ours m place in_file in_kits has.kits same has.first) in
      (is.place, is.in_file, is.in_kits)
  is_wrong (Err (OverLimit which)) answer m place in_file in_kits same has = answer
  is_wrong (Err Memory) answer m place in_file in_kits same has = tt

  pub is_none : (result : Result ℕ AppRefusal) → IsAnswerTo schema.kits (form.front.reads old) new result → HasNoFront old → IsNoFrontAnswer result
  is_none (Ok read) answer none = none read schema.kits new (front-read (front_of read schema.kits) old new answer)
  is_none (Err (NotAnApp at)) answer none = tt
  is_none (Err (WrongKits place in_file in_kits)) answer none =
      none answer.front.version answer.front.kits answer.rest (front-read answer.front old answer.rest answer.found)
  is_none (Err (OverLimit which)) answer none = answer
  is_none (Err Memory) answer none = tt
