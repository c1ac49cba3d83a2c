-- Kinds of cells, and which goes to which.
use Rattle.std.specs.Prelude.{ℕ, ◌==◌, ◌&&◌, ◌||◌, not, Bool, true, false, List, [], ◌∷◌}
use Rattle.std.specs.List.{list_any}
use Rattle.sed_typed.specs.Classes.{lineage}
use Rattle.scode_image.specs.declared.image.Image.{Image}
use Rattle.scode_image.specs.declared.image.ImageKind.{ImageKind}
use Rattle.scode_code.specs.Tables.{schema_of}

abbrev pub plain : ℕ → ImageKind
plain number = record { kind = number; class = 0 }

abbrev pub void : ImageKind
void = plain 0

abbrev pub bool : ImageKind
bool = plain 1

abbrev pub int : ImageKind
int = plain 2

abbrev pub long : ImageKind
long = plain 3

abbrev pub str : ImageKind
str = plain 4

abbrev pub null : ImageKind
null = plain 5

abbrev pub object : ℕ → ImageKind
object class = record { kind = 6; class = class }

-- the static block
abbrev pub statics : ImageKind
statics = object 0xffff

abbrev pub is_null : ImageKind → Bool
is_null k = k.kind == 5

abbrev pub is_str : ImageKind → Bool
is_str k = k.kind == 4

abbrev pub is_object : ImageKind → Bool
is_object k = k.kind == 6

abbrev pub is_statics : ImageKind → Bool
is_statics k = is_object k && (k.class == 0xffff)

abbrev pub same_kind : ImageKind → ImageKind → Bool
same_kind k l = (k.kind == l.kind) && (k.class == l.class)

-- a class is this one, or it is above it
abbrev pub is_at_or_above : Image → ℕ → ℕ → Bool
is_at_or_above image above class = list_any (λ c. c == above) (lineage (schema_of image).classes class)

-- null goes to Strs and objects, and a class to those above it; each kind goes to itself
abbrev pub goes_to : Image → ImageKind → ImageKind → Bool
goes_to image k l =
    same_kind k l
    || (is_null k && (is_str l || (is_object l && not (is_statics l))))
    || (is_object k && is_object l && is_at_or_above image l.class k.class)

-- lists of kinds, one by one
abbrev pub all_go : Image → List ImageKind → List ImageKind → Bool
all_go image [] [] = true
all_go image (k ∷ ks) (l ∷ ls) = goes_to image k l && all_go image ks ls
all_go image ks ls = false

-- what stands at a place of the code: the kinds of all locals, and of the stack with the top first
pub record Shape : Type 0 where
  pub locals : List ImageKind
  pub stack : List ImageKind

abbrev pub shape_goes : Image → Shape → Shape → Bool
shape_goes image a b = all_go image a.locals b.locals && all_go image a.stack b.stack
