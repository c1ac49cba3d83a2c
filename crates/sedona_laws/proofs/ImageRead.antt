-- What `boot` asks first: the read of its image.
use Rattle.std.proofs.Common.{◌≡◌, ◌⊎◌, ℕ, List, [], ◌∷◌, ◌++◌, Option, Some, None, Result, Ok, Err, refl, sym, ap, subst, ◌∙◌, inl, inr, append_assoc}
use Rattle.std.specs.Prelude.{◌↔◌, IfSome, IsSomeAnd}
use Rattle.sed_engine.specs.Code.{Meaning as Code}
use Rattle.sed_engine.specs.Program.{meaning_of}
use Rattle.sed_typed.specs.declared.program.Program.{Program}
use Rattle.sed_outside.specs.Files.{Contents, WritesFile}
use Rattle.sed_outside.specs.Reads.{AreGiven, IsGiven}
use Rattle.sed_outside.specs.Steps.{Read, AndThen, stops, goes_on}
use Rattle.scode_image.specs.declared.image.Image.{Image}
use Rattle.scode_image.specs.Grammar.{FaultsAt, IsImage}
use Rattle.scode_code.specs.Breaks.{IsFirstBroken}
use Rattle.scode_code.specs.Faults.{Broken, IsVerified, first_broken}
use Rattle.scode_code.specs.Image as made
use Rattle.scode_compile.specs.Compiled.{IsImageOf}
use Rattle.input_files.specs.Inputs.{CodeRead, IsCodeOf}
use Rattle.input_files.specs.declared.refusal.InputRefusal.{InputRefusal}
use Rattle.input_files.specs.declared.refusal.InputRefusal.TheVariants as inputs
use Rattle.sedona_words.specs.Command.{OfImage}
use Rattle.sedona_cli.specs.declared.refusal.Refusal.{Refusal}
use Rattle.sedona_cli.specs.declared.refusal.Refusal.TheVariants.{FileFault}
use Rattle.sedona_cli.specs.Outside.{Ask, Reads, of_reads}
use Rattle.sedona_cli.specs.Refusals.{of_inputs}
use Rattle.sedona_cli.specs.Steps.{AfterCode}
use Rattle.sedona_laws.specs.Booting.{SameFile}
use Rattle.sedona_cli.proofs.Ends.{err_ok, ok_err, one_refusal}
use Rattle.sedona_laws.proofs.Joined.{err_same}

-- a read of a file, with what it gave
abbrev pub reading : List ℕ → Option (List ℕ) → Read
reading name gave = record { name = name; gave = gave }

-- ---- the read itself

same_why : {X : Type 0} (r s : InputRefusal) → ◌≡◌ {A = Result X InputRefusal} (Err r) (Err s) → r ≡ s
same_why r s same = cc

not_why : {X : Type 0} (x : X) (r : InputRefusal) → ◌≡◌ {A = Result X InputRefusal} (Ok x) (Err r) → ⊥
not_why x r same = cc

-- a row of one, with nothing behind it
only : (reads front back : List Read) (one : Read) → reads ≡ front ++ back → front ≡ one ∷ [] → back ≡ [] → reads ≡ one ∷ []
only reads front back one parts is none = parts ∙ ap (λ (l : List Read). l ++ back) is ∙ ap (λ (l : List Read). one ∷ l) none

-- it gave the text of an image
record ReadsImage (file : List ℕ) (reads : List Read) (image : Image) : Type 0 where
  text : List ℕ
  reads_are : reads ≡ reading file (Some text) ∷ []
  is_image : IsImage text image

reads_image : (file : List ℕ) (reads : List Read) (image : Image) → CodeRead file reads (Ok image) → ReadsImage file reads image
unfolding CodeRead
reads_image file reads image (stops r h e) = absurd (not_why image r e)
reads_image file reads image (goes_on f b text parts h d) = record {
  text = text;
  reads_are = only reads f b (reading file (Some text)) parts h d.none;
  is_image = subst (λ (i : Image). IsImage text i) (sym d.holds.2.0) d.holds.1;
}

-- it failed, or gave what is refused
data Refuses (file : List ℕ) (reads : List Read) (why : InputRefusal) : Type 0 where
  failed : reads ≡ reading file None ∷ [] → why ≡ inputs.FileFault file → Refuses file reads why
  faulty : (text : List ℕ) → reads ≡ reading file (Some text) ∷ [] → IsCodeOf text (Err why) → Refuses file reads why

refuses : (file : List ℕ) (reads : List Read) (why : InputRefusal) → CodeRead file reads (Err why) → Refuses file reads why
unfolding CodeRead
refuses file reads why (stops r h e) = failed h.0 (same_why {X = Image} why r e ∙ h.1)
refuses file reads why (goes_on f b text parts h d) = faulty text (only reads f b (reading file (Some text)) parts h d.none) d.holds

-- ---- with what is asked behind it

-- The read failed; its text is none of an image that breaks no rule; or it is, and what is asked behind it goes on with
-- what the image means.
pub data ImageRow {X : Type 0} (file : List ℕ) (next : Code → List Ask → Result X Refusal → Type 0) (asks : List Ask)
    (end : Result X Refusal) : Type 0 where
  unread : asks ≡ Reads (reading file None) ∷ [] → end ≡ Err (FileFault file) → ImageRow file next asks end
  broken : (text : List ℕ) (why : InputRefusal) → asks ≡ Reads (reading file (Some text)) ∷ [] → IsCodeOf text (Err why) → end ≡ Err (of_inputs why) → ImageRow file next asks end
  came : (text : List ℕ) (image : Image) (rest : List Ask) → asks ≡ Reads (reading file (Some text)) ∷ rest → IsImage text image → next (made.meaning_of image) rest end → ImageRow file next asks end

of_row : (asks : List Ask) (reads : List Read) (one : Read) → asks ≡ of_reads reads → reads ≡ one ∷ [] → asks ≡ Reads one ∷ []
of_row asks reads one is are = is ∙ ap of_reads are

refused_row : {X : Type 0} (file : List ℕ) (next : Code → List Ask → Result X Refusal → Type 0) (asks : List Ask) (end : Result X Refusal) (reads : List Read) (why : InputRefusal)
    → asks ≡ of_reads reads → end ≡ Err (of_inputs why) → Refuses file reads why → ImageRow file next asks end
refused_row {X} file next asks end reads why is ends (failed one fault) =
    unread (of_row asks reads (reading file None) is one) (ends ∙ err_same {X = X} (of_inputs why) (FileFault file) (ap of_inputs fault))
refused_row file next asks end reads why is ends (faulty text one holds) = broken text why (of_row asks reads (reading file (Some text)) is one) holds ends

-- the row of the image, and nothing behind it, and then the rest
front_then : (asks front g k rest : List Ask) (reads : List Read) (one : Read) → asks ≡ front ++ rest → front ≡ g ++ k → g ≡ of_reads reads → reads ≡ one ∷ [] → k ≡ [] → asks ≡ Reads one ∷ rest
front_then asks front g k rest reads one parts more is are none =
    parts ∙ ap (λ (l : List Ask). l ++ rest) (more ∙ ap (λ (l : List Ask). l ++ k) (of_row g reads one is are) ∙ ap (λ (l : List Ask). Reads one ∷ l) none)

pub image_row : {X : Type 0} (file : List ℕ) (next : Code → List Ask → Result X Refusal → Type 0) (asks : List Ask) (end : Result X Refusal)
    → AndThen (AfterCode (OfImage file)) next asks end → ImageRow file next asks end
image_row {X} file next asks end (stops r (stops q h e) same) =
    refused_row file next asks end h.0 h.2.0 h.1 (same ∙ err_same {X = X} r (of_inputs h.2.0) (one_refusal {X = Code} r q e ∙ h.2.2)) (refuses file h.0 h.2.0 h.2.1)
image_row file next asks end (stops r (goes_on f b image parts h d) same) = absurd (err_ok r (made.meaning_of image) d.holds)
image_row file next asks end (goes_on f b m parts (stops q h e) n) = absurd (ok_err m q e)
image_row {X} file next asks end (goes_on f b m parts (goes_on g k image more h d) n) =
    let one : ReadsImage file h.0 image = reads_image file h.0 image h.2 in
    came one.text image b (front_then asks f g k b h.0 (reading file (Some one.text)) parts more h.1 one.reads_are d.none) one.is_image
    (subst (λ (c : Code). next c b end) (same_code m (made.meaning_of image) d.holds) n)
  where
    same_code : (a b : Code) → ◌≡◌ {A = Result Code Refusal} (Ok a) (Ok b) → a ≡ b
    same_code a b same = cc

-- ---- what the file holds

-- where it was written, and stayed
pub holds_still : (was is : Option Contents) (name bytes : List ℕ) → IsSomeAnd was (λ w. IsSomeAnd is (λ i. i name ≡ w name)) → WritesFile was name bytes → IsSomeAnd is (λ files. files name ≡ Some bytes)
holds_still None is name bytes same wrote = absurd same
holds_still (Some w) None name bytes same wrote = absurd same
holds_still (Some w) (Some i) name bytes same wrote = same ∙ wrote

-- what was read of it
pub same_text : (known : Option Contents) (name bytes text : List ℕ) → IsSomeAnd known (λ files. files name ≡ Some bytes) → IfSome known (λ files. files name ≡ Some text) → bytes ≡ text
same_text None name bytes text holds gave = absurd holds
same_text (Some files) name bytes text holds gave = (let same : Some bytes ≡ Some text = sym holds ∙ gave in some_text bytes text same)
  where
    some_text : (a b : List ℕ) → Some a ≡ Some b → a ≡ b
    some_text a b same = cc

-- ---- what the laws of images say

pub record ImageLaws : Type 0 where
  pub read_back : (program : Program) (text : List ℕ) (image : Image) → IsImageOf program text → IsImage text image → IsVerified image × (made.meaning_of image ≡ meaning_of program)
  pub apart : (bytes : List ℕ) (image : Image) (at : ℕ) → IsImage bytes image → FaultsAt bytes at → ⊥
  pub first : (image : Image) (b : Broken) → (first_broken image ≡ Some b) ↔ IsFirstBroken image b

none_some : (image : Image) (b : Broken) → first_broken image ≡ None → first_broken image ≡ Some b → ⊥
none_some image b none some = cc

-- the text of a program's image is never refused
pub never_refused : ImageLaws → (program : Program) (text : List ℕ) (why : InputRefusal) → IsImageOf program text → IsCodeOf text (Err why) → ⊥
never_refused laws program text why of (inl unfit) = laws.apart text of.image unfit.0 of.is_text unfit.1
never_refused laws program text why of (inr rule) =
    none_some rule.0 rule.2.0 (laws.read_back program text rule.0 of rule.1).0 ((laws.first rule.0 rule.2.0).1 rule.2.1)
