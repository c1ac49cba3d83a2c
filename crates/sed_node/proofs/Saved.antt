-- Saving an application, by saving its text.
use Rattle.std.proofs.Common.{◌≡◌, ◌∙◌, ◌<◌, ◌≤◌, ℕ, Bool, true, false, inl, inr, List, ◌++◌, [], ◌∷◌, length, refl}
use Rattle.std.proofs.Common.{sym, ap, subst, arith}
use Rattle.std.specs.Prelude.{◌↔◌, ◌⊎◌, IsErr, IsErrOf, IsTrue, is_ok, if◌then◌else◌, not, nat_lt, OnErr, OnOk}
use Rattle.std.specs.Prelude.{Option, Some, None, Result, Ok, Err}
use Rattle.std.proofs.lemmas.Bool.{cases_lt}
use Rattle.std.proofs.lemmas.Bool.Decides.{nat_tests}
use Rattle.sed_outside.specs.Cause.{HasCause}
use Rattle.disk_model.specs.Disk.{During, Image, MarksUp, Meaning as DiskMeaning}
use Rattle.app_save.specs.Run.{IsRun, Saves}
use Rattle.app_save.specs.Saving.{AllOpen, OpensAsBegun}
use Rattle.app_save.specs.Store.{IsStore, Opens as OpensTo}
use Rattle.app_save.specs.declared.refusal.SaveRefusal.{SaveRefusal}
use Rattle.app_save.specs.declared.refusal.SaveRefusal.TheVariants.{Device, Full, Memory, NotAStore, NotEmpty}
use Rattle.sed_engine.specs.Code.{Meaning}
use Rattle.comp_tree.specs.Application.{Application}
use Rattle.comp_tree.specs.Parts.{Kept}
use Rattle.app_file.specs.Opens.{Opens}
use Rattle.app_file.specs.Reading.{IsFile}
use Rattle.app_file.specs.Text.{app_text}
use Rattle.node_events.specs.Mishap.{Mishap, MayHappen, is_disk_failed, is_no_memory}
use Rattle.node_events.specs.Saving.{Save, answer_to_save, is_too_long, save_of}
use Rattle.sed_node.specs.OnDisk.{IsSaved, OnDisk, OpensAsSaved}
use Rattle.sed_node.specs.Saving.{IsTextSaved, SavesText, begun, mishap_in, reply_to}

is_full : {T : Type 0} → Result T SaveRefusal → Bool
is_full (Ok done) = false
is_full (Err Full) = true
is_full (Err Device) = false
is_full (Err NotEmpty) = false
is_full (Err NotAStore) = false
is_full (Err Memory) = false

-- ---- why a save failed

-- the disk alone fails a save that is not too long
module _ {T : Type 0} (before now : ℕ) where
  by_device : (r : Result T SaveRefusal) → (IsErrOf r Device → IsTrue (not (is_ok r)))
      → (IsTrue (not (is_ok r)) → IsErrOf r Device) → HasCause before now (IsErrOf r Device)
      → HasCause before now (IsTrue (not (is_ok r)))
  by_device r to from cause = record {
    later = cause.later;
    failed = λ failed. cause.failed (from failed);
    steady = λ done. cause.steady (λ device. done (to device));
  }

  not_ok : (r : Result T SaveRefusal) (e : SaveRefusal) → r ≡ Err e → IsTrue (not (is_ok r))
  not_ok r e is = ap (λ (x : Result T SaveRefusal). not (is_ok x)) is

  is_device : (r : Result T SaveRefusal) → (IsErr r → IsErrOf r Full ⊎ IsErrOf r Device) → is_full r ≡ false
      → IsTrue (not (is_ok r)) → IsErrOf r Device
  unfolding is_full
  is_device (Ok done) answers is failed = absurd (let wrong : false ≡ true = failed in cc)
  is_device (Err e) answers is failed = elim (answers refl) [
    | inl full ↦ absurd (let wrong : true ≡ false = sym (ap is_full full) ∙ is in cc)
    | inr device ↦ device
  ]

  because : (r : Result T SaveRefusal) → (IsErr r → IsErrOf r Full ⊎ IsErrOf r Device) → is_full r ≡ false
      → HasCause before now (IsErrOf r Device) → HasCause before now (IsTrue (not (is_ok r)))
  because r answers is = by_device r (not_ok r Device) (is_device r answers is)

-- ---- the text

module _ {T D : Type 0} (meaning : D → DiskMeaning) (slot : ℕ) (text : List ℕ) (old new : D) where
  -- where it is not told that the text is too long, a slot has room for it
  fits : (r : Result T SaveRefusal) → (IsErrOf r Full ↔ (slot < length text)) → is_full r ≡ false → length text ≤ slot
  unfolding is_full
  fits r full is = elim (cases_lt slot (length text)) [
    | inl lt ↦ absurd (let no : true ≡ false = sym (ap is_full (full.1 lt)) ∙ is in cc)
    | inr le ↦ le
  ]

  as_saved : (r : Result T SaveRefusal) → (IsErrOf r Full ↔ (slot < length text)) → is_full r ≡ false
      → MarksUp (meaning old) (meaning new) (if is_ok r then 1 else 0)
      → (IsTrue (meaning old).tells → During (meaning old) (meaning new) (OpensAsBegun slot text (meaning old)))
      → (IsTrue (meaning old).tells → OnOk r (AllOpen slot text (meaning new)))
      → (meaning new).attached ≡ (meaning old).attached
      → HasCause (meaning old).faults (meaning new).faults (IsErrOf r Device)
      → (IsErr r → IsErrOf r Full ⊎ IsErrOf r Device)
      → (IsTrue (meaning old).tells → IsTrue (meaning old).tells_marks → length text ≤ slot
      → (start : D) (opened : List ℕ) (saves : Saves)
      → IsRun slot opened saves (meaning start) (meaning old)
      → IsRun slot opened (saves ++ (text, is_ok r) ∷ []) (meaning start) (meaning new))
      → IsTextSaved meaning slot text r old new
  as_saved r full is marks moments saved attached cause answers run = record {
    marks = marks;
    moments = moments;
    saved = saved;
    attached = attached;
    cause = because (meaning old).faults (meaning new).faults r answers is cause;
    run = λ told told_marks. run told told_marks (fits r full is);
  }

  pub text_saved : (r : Result T SaveRefusal) → (IsErrOf r Full ↔ (slot < length text))
      → OnOk r (MarksUp (meaning old) (meaning new) 1) → OnErr r (MarksUp (meaning old) (meaning new) 0)
      → (IsTrue (meaning old).tells → During (meaning old) (meaning new) (OpensAsBegun slot text (meaning old)))
      → (IsTrue (meaning old).tells → OnOk r (AllOpen slot text (meaning new)))
      → (meaning new).attached ≡ (meaning old).attached
      → HasCause (meaning old).faults (meaning new).faults (IsErrOf r Device)
      → (IsErr r → IsErrOf r Full ⊎ IsErrOf r Device)
      → (IsTrue (meaning old).tells → IsTrue (meaning old).tells_marks → length text ≤ slot
      → (start : D) (opened : List ℕ) (saves : Saves)
      → IsRun slot opened saves (meaning start) (meaning old)
      → IsRun slot opened (saves ++ (text, is_ok r) ∷ []) (meaning start) (meaning new))
      → (IsErrOf r Full → new ≡ old)
      → SavesText meaning slot text r old new
  unfolding is_full
  text_saved (Ok done) full one none moments saved attached cause answers run untouched =
      as_saved (Ok done) full refl one moments saved attached cause answers run
  text_saved (Err Full) full one none moments saved attached cause answers run untouched = untouched refl
  text_saved (Err Device) full one none moments saved attached cause answers run untouched =
      as_saved (Err Device) full refl none moments saved attached cause answers run
  text_saved (Err NotEmpty) full one none moments saved attached cause answers run untouched =
      as_saved (Err NotEmpty) full refl none moments saved attached cause answers run
  text_saved (Err NotAStore) full one none moments saved attached cause answers run untouched =
      as_saved (Err NotAStore) full refl none moments saved attached cause answers run
  text_saved (Err Memory) full one none moments saved attached cause answers run untouched =
      as_saved (Err Memory) full refl none moments saved attached cause answers run

-- ---- the application

module _ (slots : (S T : ℕ) (image : Image) → IsStore S image → IsStore T image → S ≡ T)
    (payloads : (S : ℕ) (image : Image) (p q : List ℕ) → OpensTo S image p → OpensTo S image q → p ≡ q) where
  -- two payloads of one image, whatever its slots
  one_payload : (S T : ℕ) (image : Image) (p q : List ℕ) → OpensTo S image p → OpensTo T image q → q ≡ p
  one_payload S T image p q first second =
      payloads T image q p second
      (subst (λ (size : ℕ). OpensTo size image p) (slots S T image first.store second.store) first)

  module _ {D : Type 0} (meaning : D → DiskMeaning) (m : Meaning) (slot : ℕ) (a : Application) (old new : D)
      (file : IsFile m a.components.limit (app_text m a) (Kept m a)) (same : app_text m (Kept m a) ≡ app_text m a) where
    opens_to_kept : (image : Image) → OpensTo slot image (app_text m a) → Opens m a.components.limit image (Kept m a)
    opens_to_kept image opens = record { size = slot; payload = app_text m a; store = opens; file = file }

    lifted : (image : Image) → OpensAsBegun slot (app_text m a) (meaning old) image
        → OpensAsSaved m a.components.limit slot (Kept m a) (meaning old) image
    lifted image opens = elim opens.is [
      | inl before ↦ inl (record {
        payload = opens.opened;
        opens = opens.opens;
        before = before.0;
        left = before.1;
        opened = before.2;
        same = λ b held. record {
          size = slot;
          payload = opens.opened;
          store = opens.opens;
          file = subst (λ (payload : List ℕ). IsFile m a.components.limit payload b)
              (one_payload slot held.size before.0 opens.opened held.payload before.2 held.store) held.file;
        };
      })
      | inr is ↦ inr (opens_to_kept image (subst (λ (payload : List ℕ). OpensTo slot image payload) is opens.opens))
    ]

    on_ok : {T : Type 0} (P : Type 0) (r : Result T SaveRefusal) → is_ok r ≡ true → OnOk r P → P
    on_ok P (Ok done) so p = p
    on_ok P (Err refusal) so p = absurd (let no : false ≡ true = so in cc)

    as_begun : {T : Type 0} (r : Result T SaveRefusal) (acknowledged : Bool) → is_ok r ≡ acknowledged
        → IsTextSaved meaning slot (app_text m a) r old new
        → IsSaved meaning m slot (record { application = Kept m a; acknowledged = acknowledged }) old new
    as_begun r acknowledged is text = record {
      marks = subst (λ (b : Bool). MarksUp (meaning old) (meaning new) (if b then 1 else 0)) is text.marks;
      moments = λ told u image from to left. lifted image (text.moments told u image from to left);
      saved = λ told so image left. opens_to_kept image
          (on_ok (AllOpen slot (app_text m a) (meaning new)) r (is ∙ so) (text.saved told) image left);
      attached = text.attached;
      cause = subst (λ (b : Bool). HasCause (meaning old).faults (meaning new).faults (IsTrue (not b))) is text.cause;
      run = λ told told_marks start opened saves before.
          subst (λ (b : Bool). IsRun slot opened (saves ++ (app_text m (Kept m a), b) ∷ []) (meaning start)
          (meaning new)) is
          (subst (λ (payload : List ℕ). IsRun slot opened (saves ++ (payload, is_ok r) ∷ []) (meaning start)
          (meaning new)) (sym same)
          (text.run told told_marks start opened saves before));
    }

    pub on_disk : {T : Type 0} (r : Result T SaveRefusal) → SavesText meaning slot (app_text m a) r old new
        → OnDisk meaning m slot (begun m a r) old new
    on_disk {T} (Ok done) text = as_begun {T = T} (Ok done) true refl text
    on_disk {T} (Err Full) text = text
    on_disk {T} (Err Device) text = as_begun {T = T} (Err Device) false refl text
    on_disk {T} (Err NotEmpty) text = as_begun {T = T} (Err NotEmpty) false refl text
    on_disk {T} (Err NotAStore) text = as_begun {T = T} (Err NotAStore) false refl text
    on_disk {T} (Err Memory) text = as_begun {T = T} (Err Memory) false refl text

-- ---- what it comes to in the definitions

abbrev begun_if : Meaning → Application → Bool → Mishap → Option Save
begun_if m a too_long mishap =
    if too_long then None else Some (record { application = Kept m a; acknowledged = not (is_disk_failed mishap) })

module _ {T : Type 0} (m : Meaning) (slot : ℕ) (a : Application) (same : app_text m (Kept m a) ≡ app_text m a) where
  too_long : (r : Result T SaveRefusal) → (IsErrOf r Full ↔ (slot < length (app_text m a))) → is_too_long m slot a
      ≡ is_full r
  unfolding is_full
  too_long r full = ap (λ (text : List ℕ). nat_lt slot (length text)) same ∙ by_full r full
    where
      not_less : (r : Result T SaveRefusal) → (IsErrOf r Full ↔ (slot < length (app_text m a))) → is_full r ≡ false
          → nat_lt slot (length (app_text m a)) ≡ false
      not_less r full is = elim (cases_lt slot (length (app_text m a))) [
        | inl lt ↦ absurd (let no : true ≡ false = sym (ap is_full (full.1 lt)) ∙ is in cc)
        | inr le ↦ grind (arith, nat_tests, le)
      ]

      by_full : (r : Result T SaveRefusal) → (IsErrOf r Full ↔ (slot < length (app_text m a)))
          → nat_lt slot (length (app_text m a)) ≡ is_full r
      by_full (Ok done) full = not_less (Ok done) full refl
      by_full (Err Full) full = let less : slot < length (app_text m a) = full.0 refl in grind (arith, nat_tests, less)
      by_full (Err Device) full = not_less (Err Device) full refl
      by_full (Err NotEmpty) full = not_less (Err NotEmpty) full refl
      by_full (Err NotAStore) full = not_less (Err NotAStore) full refl
      by_full (Err Memory) full = not_less (Err Memory) full refl

  pub begun_is : (r : Result T SaveRefusal) → (IsErrOf r Full ↔ (slot < length (app_text m a)))
      → save_of m slot a (mishap_in r) ≡ begun m a r
  unfolding is_full
  begun_is r full = ap (λ (b : Bool). begun_if m a b (mishap_in r)) (too_long r full) ∙ by_result r
    where
      by_result : (r : Result T SaveRefusal) → begun_if m a (is_full r) (mishap_in r) ≡ begun m a r
      by_result (Ok done) = refl
      by_result (Err Full) = refl
      by_result (Err Device) = refl
      by_result (Err NotEmpty) = refl
      by_result (Err NotAStore) = refl
      by_result (Err Memory) = refl

pub reply_is : {T : Type 0} (m : Meaning) (a : Application) (r : Result T SaveRefusal) → answer_to_save (begun m a r)
    ≡ reply_to r
reply_is m a (Ok done) = refl
reply_is m a (Err Full) = refl
reply_is m a (Err Device) = refl
reply_is m a (Err NotEmpty) = refl
reply_is m a (Err NotAStore) = refl
reply_is m a (Err Memory) = refl

-- no save wants memory
pub wants_none : {T : Type 0} (P : Type 0) (r : Result T SaveRefusal) → IsTrue (is_no_memory (mishap_in r)) → P
wants_none P (Ok done) so = absurd (let no : false ≡ true = so in cc)
wants_none P (Err Full) so = absurd (let no : false ≡ true = so in cc)
wants_none P (Err Device) so = absurd (let no : false ≡ true = so in cc)
wants_none P (Err NotEmpty) so = absurd (let no : false ≡ true = so in cc)
wants_none P (Err NotAStore) so = absurd (let no : false ≡ true = so in cc)
wants_none P (Err Memory) so = absurd (let no : false ≡ true = so in cc)

-- the disk fails only where its count has risen
pub may_happen : {T Risen : Type 0} (fixed : Bool) (r : Result T SaveRefusal)
    → (IsErr r → IsErrOf r Full ⊎ IsErrOf r Device) → (IsErrOf r Device → Risen)
    → MayHappen fixed Risen (mishap_in r)
unfolding is_full
may_happen fixed (Ok done) answers risen = tt {0}
may_happen fixed (Err Full) answers risen = tt {0}
may_happen fixed (Err Device) answers risen = risen refl
may_happen fixed (Err NotEmpty) answers risen = elim (answers refl) [
  | inl e ↦ absurd (let no : true ≡ false = sym (ap is_full e) in cc)
  | inr e ↦ risen e
]
may_happen fixed (Err NotAStore) answers risen = elim (answers refl) [
  | inl e ↦ absurd (let no : true ≡ false = sym (ap is_full e) in cc)
  | inr e ↦ risen e
]
may_happen fixed (Err Memory) answers risen = elim (answers refl) [
  | inl e ↦ absurd (let no : true ≡ false = sym (ap is_full e) in cc)
  | inr e ↦ risen e
]
