-- The text literals of all bodies spell bytes.
use Rattle.std.proofs.Common.{◌≡◌, List, [], ◌∷◌, get_or, All}
use Rattle.std.specs.List.{flat_map}
use Rattle.std.proofs.lemmas.List.Elements.{All-nil, All-head, All-tail, All-append}
use Rattle.sed_units.specs.declared.leaves.Literal.{Literal}
use Rattle.sed_classes.specs.declared.kit_units.KitUnits.{KitUnits}
use Rattle.sed_classes.specs.Bodies.{texts_of}
use Rattle.sed_classes.specs.Declarations.{all_classes}
use Rattle.sed_program.specs.Texts.{literals_of}
use Rattle.sed_member_laws.proofs.TextBytes.{text_small}
use Rattle.sed_class_laws.specs.Texts.{SpellBytes}
use Rattle.sed_first_fault.specs.Faults.{declared_faults}
use Rattle.sed_check.specs.Read.{AreRead, IsLexed}
use Rattle.sed_check.proofs.Keeping.{all_kept}

all_flat : {X Y : Type 0} (P : Y → Type 0) (f : X → List Y) (xs : List X) → All (λ (x : X). All P (f x)) xs →
    All P (flat_map f xs)
all_flat P f [] h = All-nil P
all_flat {X} {Y} P f (x ∷ xs) h =
    All-append P (f x) (flat_map f xs) (All-head (λ (y : X). All P (f y)) x xs h)
    (all_flat P f xs (All-tail (λ (y : X). All P (f y)) x xs h))

spell : (ls : List Literal) → All IsLexed ls → SpellBytes ls
spell [] h = tt
spell (l ∷ ls) h = (text_small l.bytes (All-head IsLexed l ls h).bytes, spell ls (All-tail IsLexed l ls h))

pub texts_spelled : (units : List KitUnits) → AreRead units → declared_faults units ≡ [] →
    SpellBytes (flat_map literals_of (all_classes units))
texts_spelled units r e =
    spell
    (flat_map literals_of (all_classes units))
    (all_flat IsLexed literals_of (all_classes units)
    (λ i d h. all_flat IsLexed texts_of (get_or (all_classes units) i d).class.members
    (λ j m q. (all_kept units r e i d h j m q).texts)))
