-- What reading an image answers.
use Rattle.std.specs.Prelude.{◌≡◌, ℕ, List, Result, Ok, Err}
use Rattle.scode_image.specs.declared.image.Image.{Image}
use Rattle.scode_image.specs.declared.reading.ImageRefusal.{ImageRefusal}
use Rattle.scode_image.specs.declared.reading.ImageRefusal.TheVariants.{NotAnImage, Memory}
use Rattle.scode_image.specs.Grammar.{IsImage, FaultsAt}

-- the image that the bytes are, or the place at which they fault; want of memory is free
abbrev pub Outcome : List ℕ → Result Image ImageRefusal → Type 0
Outcome bytes (Ok image) = IsImage bytes image
Outcome bytes (Err (NotAnImage at)) = FaultsAt bytes at
Outcome bytes (Err Memory) = Unit {0}

-- this image, unless memory ran out
abbrev pub Reads : Result Image ImageRefusal → Image → Type 0
Reads (Ok read) image = read ≡ image
Reads (Err (NotAnImage at)) image = ⊥
Reads (Err Memory) image = Unit {0}

-- a refusal that names this place, unless memory ran out
abbrev pub Refuses : Result Image ImageRefusal → ℕ → Type 0
Refuses (Ok read) at = ⊥
Refuses (Err (NotAnImage named)) at = named ≡ at
Refuses (Err Memory) at = Unit {0}
