-- A file that is read, and what its text says.
use Rattle.std.proofs.Common.{◌≡◌, List, ℕ, Result, Ok, Err, refl, sym, subst, inl, inr}
use Rattle.std.specs.Prelude.{◌⊎◌}
use Rattle.sed_outside.specs.declared.files.Files.{Ghosts}
use Rattle.sed_outside.specs.Steps.{UnlessFree}
use Rattle.sed_outside.specs.Reads.{HasReads, TextOf}
use Rattle.sed_outside.proofs.Joining.{stops_then, decides_then}
use Rattle.kit_manifest.specs.declared.manifest.Manifest.{Manifest}
use Rattle.kit_sources.specs.declared.refusal.SourcesRefusal.{SourcesRefusal}
use Rattle.kit_sources.specs.declared.refusal.SourcesRefusal.TheVariants.{FileFault, Refused, Memory}
use Rattle.kit_sources.specs.declared.refusal.Why.{Why}
use Rattle.kit_sources.specs.Refusals.{is_want, Says, IsOrdered, IsWhyOfList, name_at}
use Rattle.kit_sources.specs.Sources.{FileRead}

-- a refusal that names the file, or want of memory
pub said : {X : Type 0} (name : List ℕ) (Holds : X → Type 0) (Refuses : Why → Type 0) (why : Why) (refusal : SourcesRefusal)
    → (refusal ≡ Refused name why) ⊎ (refusal ≡ Memory) → Refuses why → UnlessFree is_want (Says name Holds Refuses) (Err refusal)
said name Holds Refuses why refusal (inl is) holds = subst (λ (r : SourcesRefusal). UnlessFree is_want (Says name Holds Refuses) (Err r)) (sym is) (refl, holds)
said name Holds Refuses why refusal (inr is) holds = subst (λ (r : SourcesRefusal). UnlessFree is_want (Says name Holds Refuses) (Err r)) (sym is) tt

-- a manifest of the list that is refused, or want of memory
pub unordered : (names : List (List ℕ)) (manifests : List Manifest) (at : ℕ) (why : Why) (refusal : SourcesRefusal)
    → (refusal ≡ Refused (name_at names at) why) ⊎ (refusal ≡ Memory) → IsWhyOfList manifests at why → UnlessFree is_want (IsOrdered names manifests) (Err refusal)
unordered names manifests at why refusal (inl is) holds = subst (λ (r : SourcesRefusal). UnlessFree is_want (IsOrdered names manifests) (Err r)) (sym is) (at, refl, holds)
unordered names manifests at why refusal (inr is) holds = subst (λ (r : SourcesRefusal). UnlessFree is_want (IsOrdered names manifests) (Err r)) (sym is) tt

-- the file is read, and its text judged
pub file_read : {T X : Type 0} (F : Ghosts T) (a b : T) (Holds : List ℕ → X → Type 0) (Refuses : List ℕ → Why → Type 0) (name text slice : List ℕ) (end : Result X SourcesRefusal)
    → HasReads F a b (λ reads. TextOf name (FileFault name) reads (Ok text)) → slice ≡ text → UnlessFree is_want (Says name (Holds slice) (Refuses slice)) end
    → HasReads F a b (λ reads. UnlessFree is_want (FileRead Holds Refuses name reads) end)
file_read F a b Holds Refuses name text slice end gave same says =
    decides_then F a b is_want (TextOf name (FileFault name)) (λ t. Says name (Holds t) (Refuses t)) text end gave
    (subst (λ (t : List ℕ). UnlessFree is_want (Says name (Holds t) (Refuses t)) end) same says)

-- it cannot be read
pub file_stops : {T X : Type 0} (F : Ghosts T) (a b : T) (Holds : List ℕ → X → Type 0) (Refuses : List ℕ → Why → Type 0) (name : List ℕ) (refusal : SourcesRefusal)
    → HasReads F a b (λ reads. UnlessFree is_want (TextOf name (FileFault name) reads) (Err refusal))
    → HasReads F a b (λ reads. UnlessFree is_want (FileRead Holds Refuses name reads) (Err refusal))
file_stops F a b Holds Refuses name refusal gave =
    stops_then F a b is_want (TextOf name (FileFault name)) _ refusal gave
