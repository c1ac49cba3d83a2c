-- The steps that commands share: the loading and generating of programs, the code of a node, and printing.
use Rattle.std.specs.Prelude.{◌≡◌, ℕ, All, List, [], ◌∷◌, ◌++◌, Result, Ok, Err, codes}
use Rattle.sed_typed.specs.declared.program.Program.{Program as TheProgram}
use Rattle.sed_outside.specs.Steps.{Read, AndThen, Decides}
use Rattle.dasp_session.specs.declared.user.User.{User}
use Rattle.input_files.specs.Inputs.{CodeRead, RecordRead, SecretRead, UsersRead}
use Rattle.sed_engine.specs.Code.{Meaning}
use Rattle.sed_engine.specs.Program as source
use Rattle.scode_image.specs.declared.image.Image.{Image}
use Rattle.scode_code.specs.Image as made
use Rattle.scode_gen.specs.Generated.{IsFirstTooLong, IsShort}
use Rattle.sed_check.specs.declared.refusal.KitsRefusal.{KitsRefusal}
use Rattle.sed_check.specs.Loading.{KitsLoaded, TextLoaded, Told}
use Rattle.sedona_cli.specs.declared.refusal.Refusal.{Refusal}
use Rattle.sedona_cli.specs.Lines.{line_end}
use Rattle.sedona_cli.specs.declared.refusal.Refusal.TheVariants.{FileFault, MethodTooLong}
use Rattle.sedona_cli.specs.Outside.{Ask, Writes, Written, Unwritten, of_reads}
use Rattle.sedona_cli.specs.Refusals.{of_inputs, of_kits}
use Rattle.sedona_words.specs.Command.{CodeAsked, OfImage, OfKits}

-- A step that asks for files alone, as one of a command: its reads are what is asked.
abbrev pub OfReads : {X : Type 0} → (List Read → Result X Refusal → Type 0) → List Ask → Result X Refusal → Type 0
OfReads step asks end = (reads : List Read) × (asks ≡ of_reads reads) × step reads end

-- the same, where its refusals are told so
abbrev pub OfFiles : {E X : Type 0} → (E → Refusal) → (List Read → Result X E → Type 0)
    → List Ask → Result X Refusal → Type 0
OfFiles told step = OfReads (Told told step)

-- ---- programs

-- A program is generated, no method of which is too long; or it is refused for the first one that is.
abbrev pub IsGenerated : TheProgram → Result TheProgram Refusal → Type 0
IsGenerated program (Ok generated) = (generated ≡ program) × All (IsShort program) program.methods
IsGenerated program (Err refusal) = (n : ℕ) × IsFirstTooLong program n × (refusal ≡ MethodTooLong n)

-- What is loaded is generated.
abbrev pub Generates : (List Read → Result TheProgram KitsRefusal → Type 0) → List Read → Result TheProgram Refusal
    → Type 0
Generates loaded = AndThen (Told of_kits loaded) (λ (program : TheProgram). Decides (IsGenerated program))

-- the program of kits, by the names of their manifests
abbrev pub KitsGenerated : List (List ℕ) → List Read → Result TheProgram Refusal → Type 0
KitsGenerated names = Generates (KitsLoaded names)

abbrev pub AfterKits : List (List ℕ) → List Ask → Result TheProgram Refusal → Type 0
AfterKits names = OfReads (KitsGenerated names)

-- the program of one source
abbrev pub TextGenerated : List ℕ → List Read → Result TheProgram Refusal → Type 0
TextGenerated file = Generates (TextLoaded file)

abbrev pub AfterText : List ℕ → List Ask → Result TheProgram Refusal → Type 0
AfterText file = OfReads (TextGenerated file)

-- ---- input files

-- the users of a users file, by its name
abbrev pub AfterUsers : List ℕ → List Ask → Result (List User) Refusal → Type 0
AfterUsers file = OfFiles of_inputs (UsersRead file)

-- the secret in a file: its first 20 bytes
abbrev pub AfterSecret : List ℕ → List Ask → Result (List ℕ) Refusal → Type 0
AfterSecret file = OfFiles of_inputs (SecretRead file)

-- the bytes of a file, which are a record
abbrev pub AfterRecord : List ℕ → List Ask → Result (List ℕ) Refusal → Type 0
AfterRecord file = OfFiles of_inputs (RecordRead file)

-- the image in a file, which breaks no rule
abbrev pub AfterImage : List ℕ → List Ask → Result Image Refusal → Type 0
AfterImage file = OfFiles of_inputs (CodeRead file)

-- ---- the code of a node

-- A step, and then what its value means. Nothing more is asked.
abbrev pub Meant : {X : Type 0} → (X → Meaning) → (List Ask → Result X Refusal → Type 0)
    → List Ask → Result Meaning Refusal → Type 0
Meant {X} meaning step = AndThen step (λ (x : X). Decides (λ end. end ≡ Ok (meaning x)))

-- What the code of a node means: of kits, what their program does, once it is loaded and generated; of an image, what
-- the image in its file does.
abbrev pub AfterCode : CodeAsked → List Ask → Result Meaning Refusal → Type 0
AfterCode (OfKits names) = Meant source.meaning_of (AfterKits names)
AfterCode (OfImage file) = Meant made.meaning_of (AfterImage file)

-- ---- what is printed and written

-- nothing more is asked, and this is printed
abbrev pub Prints : List ℕ → List Ask → Result (List ℕ) Refusal → Type 0
Prints text = Decides (λ end. end ≡ Ok text)

abbrev pub done_text : List ℕ
done_text = codes "ok" ++ line_end

-- These bytes are written into the file of a name, and `ok` is printed; or the write fails, and it ends with that
-- file's fault. Nothing more is asked.
abbrev pub FileWritten : List ℕ → List ℕ → List Ask → Result (List ℕ) Refusal → Type 0
FileWritten name bytes asks (Ok text) = (asks ≡ Writes name bytes Written ∷ []) × (text ≡ done_text)
FileWritten name bytes asks (Err refusal) = (asks ≡ Writes name bytes Unwritten ∷ []) × (refusal ≡ FileFault name)
