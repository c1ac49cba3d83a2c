-- The table of the refusals: their order, their numbers and their texts.
use Rattle.std.specs.Prelude.{ℕ, List, [], ◌∷◌, codes}
use Rattle.sed_value.specs.declared.refusal.Refusal.{Refusal}
use Rattle.sed_value.specs.declared.refusal.Refusal.TheVariants.{Malformed, UnknownCommand, NoComponent, NoType}
use Rattle.sed_value.specs.declared.refusal.Refusal.TheVariants.{AbstractType, BadName, NameTaken, TooManyChildren}
use Rattle.sed_value.specs.declared.refusal.Refusal.TheVariants.{TooDeep, ComponentLimit, DataFull, NoSlot}
use Rattle.sed_value.specs.declared.refusal.Refusal.TheVariants.{WrongKindOfSlot, BadValue, BufferTooLong}
use Rattle.sed_value.specs.declared.refusal.Refusal.TheVariants.{LinkTypesDiffer, TargetLinked, LinksAtComponent}
use Rattle.sed_value.specs.declared.refusal.Refusal.TheVariants.{LinkLimit, NoLink, NotTheChildren, AppItself, Faulted}
use Rattle.sed_value.specs.declared.refusal.Refusal.TheVariants.{SaveDevice, StoreFull, OutOfMemory}

-- every refusal, in the order of the numbers
abbrev pub refusals : List Refusal
refusals =
    Malformed ∷ UnknownCommand ∷ NoComponent ∷ NoType ∷ AbstractType
    ∷ BadName ∷ NameTaken ∷ TooManyChildren ∷ TooDeep ∷ ComponentLimit
    ∷ DataFull ∷ NoSlot ∷ WrongKindOfSlot ∷ BadValue ∷ BufferTooLong
    ∷ LinkTypesDiffer ∷ TargetLinked ∷ LinksAtComponent ∷ LinkLimit ∷ NoLink
    ∷ NotTheChildren ∷ AppItself ∷ Faulted ∷ SaveDevice ∷ StoreFull
    ∷ OutOfMemory ∷ []

abbrev pub number_of_refusal : Refusal → ℕ
number_of_refusal Malformed = 1
number_of_refusal UnknownCommand = 2
number_of_refusal NoComponent = 3
number_of_refusal NoType = 4
number_of_refusal AbstractType = 5
number_of_refusal BadName = 6
number_of_refusal NameTaken = 7
number_of_refusal TooManyChildren = 8
number_of_refusal TooDeep = 9
number_of_refusal ComponentLimit = 10
number_of_refusal DataFull = 11
number_of_refusal NoSlot = 12
number_of_refusal WrongKindOfSlot = 13
number_of_refusal BadValue = 14
number_of_refusal BufferTooLong = 15
number_of_refusal LinkTypesDiffer = 16
number_of_refusal TargetLinked = 17
number_of_refusal LinksAtComponent = 18
number_of_refusal LinkLimit = 19
number_of_refusal NoLink = 20
number_of_refusal NotTheChildren = 21
number_of_refusal AppItself = 22
number_of_refusal Faulted = 23
number_of_refusal SaveDevice = 24
number_of_refusal StoreFull = 25
number_of_refusal OutOfMemory = 26

-- the text that a reply carries
abbrev pub text_of_refusal : Refusal → List ℕ
text_of_refusal Malformed = codes "malformed"
text_of_refusal UnknownCommand = codes "unknown command"
text_of_refusal NoComponent = codes "no component"
text_of_refusal NoType = codes "no type"
text_of_refusal AbstractType = codes "abstract type"
text_of_refusal BadName = codes "bad name"
text_of_refusal NameTaken = codes "name taken"
text_of_refusal TooManyChildren = codes "too many children"
text_of_refusal TooDeep = codes "too deep"
text_of_refusal ComponentLimit = codes "component limit"
text_of_refusal DataFull = codes "data full"
text_of_refusal NoSlot = codes "no slot"
text_of_refusal WrongKindOfSlot = codes "wrong kind of slot"
text_of_refusal BadValue = codes "bad value"
text_of_refusal BufferTooLong = codes "buffer too long"
text_of_refusal LinkTypesDiffer = codes "link types differ"
text_of_refusal TargetLinked = codes "target linked"
text_of_refusal LinksAtComponent = codes "links at component"
text_of_refusal LinkLimit = codes "link limit"
text_of_refusal NoLink = codes "no link"
text_of_refusal NotTheChildren = codes "not the children"
text_of_refusal AppItself = codes "app itself"
text_of_refusal Faulted = codes "faulted"
text_of_refusal SaveDevice = codes "save device"
text_of_refusal StoreFull = codes "store full"
text_of_refusal OutOfMemory = codes "out of memory"

abbrev pub one_to_twenty_six : List ℕ
one_to_twenty_six =
    1 ∷ 2 ∷ 3 ∷ 4 ∷ 5 ∷ 6 ∷ 7 ∷ 8 ∷ 9 ∷ 10 ∷ 11 ∷ 12 ∷ 13
    ∷ 14 ∷ 15 ∷ 16 ∷ 17 ∷ 18 ∷ 19 ∷ 20 ∷ 21 ∷ 22 ∷ 23 ∷ 24 ∷ 25 ∷ 26 ∷ []
