-- Small images, for examples: the types of `sys`, and one class below `Component`.
use Rattle.std.proofs.Common.{ℕ, pos, List, [], ◌∷◌, ◌++◌, codes, map, Option}
use Rattle.sed_value.specs.declared.value.Value.{Value}
use Rattle.sed_value.specs.declared.value.Value.TheVariants as kept
use Rattle.sed_typed.specs.Contents.{value_at}
use Rattle.sed_engine.specs.declared.call.CallEnd.{CallEnd}
use Rattle.sed_engine.specs.declared.call.Root.{Root as AnyRoot}
use Rattle.sed_engine.specs.Root.{RootEnd}
use Rattle.scode_image.specs.declared.image.Image.{Image}
use Rattle.scode_image.specs.declared.image.ImageClass.{ImageClass}
use Rattle.scode_image.specs.declared.image.ImageField.{ImageField}
use Rattle.scode_image.specs.declared.image.ImageKind.{ImageKind}
use Rattle.scode_image.specs.declared.image.ImageMethod.{ImageMethod}
use Rattle.scode_image.specs.declared.image.ImageSlot.{ImageSlot}
use Rattle.scode_code.specs.Contents.{initial, initial_statics}
use Rattle.scode_code.specs.Root.{root}

abbrev pub kind : ℕ → ImageKind
kind k = record { kind = k; class = 0 }

abbrev pub object : ℕ → ImageKind
object class = record { kind = 6; class = class }

abbrev pub field : ℕ → ℕ → ℕ → ImageField
field offset form n = record { offset = offset; form = form; n = n }

-- an instance method of the class, with these parameters, result, further locals and code
abbrev pub method : ℕ → List ImageKind → ImageKind → List ImageKind → List ℕ → ImageMethod
method class params result others code = record {
  class = class;
  flags = 1;
  params = params;
  result = result;
  locals = object class ∷ params ++ others;
  stack = 8;
  code = code;
  entries = [];
}

abbrev pub meta : ImageSlot
meta = record { name = codes "meta"; form = 4; place = 0; n = 0; config = 1 }

abbrev pub save : ImageSlot
save = record { name = codes "save"; form = 0x10; place = 1; n = 0; config = 0 }

abbrev pub class : ℕ → ℕ → List ℕ → ℕ → ℕ → List ImageField → List ImageSlot → List ℕ → List ℕ → ImageClass
class kit number name base flags fields slots table contents = record {
  kit = kit;
  number = number;
  name = name;
  base = base;
  flags = flags;
  fields = fields;
  slots = slots;
  table = table;
  contents = contents;
}

abbrev pub int_0 : List ℕ
int_0 = 0 ∷ 0 ∷ 0 ∷ 0 ∷ []

abbrev pub sys : List ImageClass
sys =
    class 0 0 (codes "Obj") 0xffff 1 [] [] [] []
    ∷ class 0 1 (codes "Virtual") 0 1 [] [] [] []
    ∷ class 0 2 (codes "Component") 1 3 (field 0 4 0 ∷ []) (meta ∷ []) (0 ∷ []) int_0
    ∷ class 0 3 (codes "App") 2 2 (field 0 4 0 ∷ []) (meta ∷ save ∷ []) (0 ∷ 0 ∷ []) int_0
    ∷ class 0 4 (codes "Folder") 2 2 (field 0 4 0 ∷ []) (meta ∷ []) (0 ∷ []) int_0
    ∷ []

-- `Component.execute`, which does nothing
abbrev pub nothing : ImageMethod
nothing = method 2 [] (kind 0) [] (0x72 ∷ [])

-- class 5 with these fields behind `meta`, its first contents, and its methods, which are in its table from place 0 on
abbrev pub image_with : List ImageField → List ℕ → List ImageMethod → List ℕ → Image
image_with fields contents methods table = record {
  kits = record { name = codes "sys"; checksum = pos 0 } ∷ record { name = codes "k"; checksum = pos 0 } ∷ [];
  classes = sys ++ class 1 0 (codes "A") 2 2 (field 0 4 0 ∷ fields) (meta ∷ []) table (int_0 ++ contents) ∷ [];
  static_fields = field 0 4 0 ∷ [];
  static_bytes = int_0;
  texts = codes "abc" ∷ [];
  methods = nothing ∷ methods;
}

-- class 5 with one int x at offset 4 and this `execute`, method 1
abbrev pub simple : List ℕ → Image
simple code = image_with (field 4 4 0 ∷ []) int_0 (method 5 [] (kind 0) [] code ∷ []) (1 ∷ [])

abbrev pub run : Image → AnyRoot → ℕ → RootEnd
run image which turns = root image 5 (initial image 5) (initial_statics image) which kept.Nothing turns (pos 7)

-- how it ended, and the values in these fields
abbrev pub outcome : RootEnd → List ℕ → CallEnd × List (Option Value)
outcome e fields = (e.end, map (λ i. value_at e.contents (i ∷ [])) fields)
