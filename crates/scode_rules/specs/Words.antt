-- What the values of this crate stand for, and names for parts of the rules' definitions.
use Rattle.std.specs.Prelude.{◌≡◌, ◌==◌, ℕ, Bool, false, not, true, List, [], ◌∷◌, ◌++◌, drop, reverse, slice_get, take}
use Rattle.std.specs.Prelude.{slice_index_or, Option, Some, None}
use Rattle.std.specs.List.{list_any}
use Rattle.std.specs.Option.{option_map_or}
use Rattle.scode_image.specs.declared.image.Image.{Image}
use Rattle.scode_image.specs.declared.image.ImageKind.{ImageKind}
use Rattle.scode_image.specs.declared.image.ImageMethod.{ImageMethod}
use Rattle.scode_code.specs.Kinds.{Shape, goes_to, is_at_or_above}
use Rattle.scode_code.specs.CodeRules.{field_missing, is_abstract, lacks_field}
use Rattle.scode_ops.specs.declared.op.Op.{Op}
use Rattle.scode_ops.specs.declared.op.Op.TheVariants as op
use Rattle.scode_code.specs.Wants as wants
use Rattle.scode_code.specs.declared.needs.Need.{Need}
use Rattle.scode_code.specs.declared.needs.Effect.{Effect}
use Rattle.scode_code.specs.declared.needs.Puts.{Puts}
use Rattle.scode_code.specs.declared.needs.Puts.TheVariants as puts
use Rattle.scode_code.specs.declared.needs.Takes.{Takes}
use Rattle.scode_code.specs.declared.needs.Takes.TheVariants as takes
use Rattle.scode_rules.specs.declared.fields.FieldNeed.{FieldNeed}

-- ---- classes

-- of a class, for each other one, whether that is it or above it; where it is not told nothing is said
abbrev pub IsAbove : Image → ℕ → List Bool → Type 0
IsAbove image class row =
    (above : ℕ) → slice_index_or row above false ≡ true → is_at_or_above image above class ≡ true

abbrev pub AreAbove : Image → List (List Bool) → Type 0
AreAbove image rows = (class : ℕ) (row : List Bool) → slice_get rows class ≡ Some row → IsAbove image class row

abbrev pub is_told : List (List Bool) → ℕ → ℕ → Bool
is_told rows class above = option_map_or (λ row. slice_index_or row above false) (slice_get rows class) false

-- ---- kinds

abbrev pub goes_along : Image → ImageKind × ImageKind → Bool
goes_along image pair = goes_to image pair.0 pair.1

-- ---- fields

-- the rule on a field that is asked of the object so deep under the top
abbrev pub missing_by : Image → List ImageKind → Option FieldNeed → Bool
missing_by image stack None = false
missing_by image stack (Some asked) = lacks_field image (slice_get stack asked.depth) asked.form asked.offset asked.n

abbrev pub asks : ℕ → ℕ → ℕ → ℕ → Option FieldNeed
asks depth form offset n = Some (record { depth = depth; form = form; offset = offset; n = n })

-- but for the Buf whose length is asked for, which may be of any capacity
abbrev pub missing : Image → List ImageKind → Op → Bool
missing image stack (op.BufSize offset) = false
missing image stack i = field_missing image stack i

-- ---- numbers and results

abbrev pub cannot_be_called : Image → ℕ → Bool
cannot_be_called image number = option_map_or is_abstract (slice_get image.methods number) true

abbrev pub top_differs : Image → List ImageKind → ImageKind → Bool
top_differs image stack kind = not (option_map_or (λ k. goes_to image k kind) (slice_get stack 0) true)

-- ---- the stack

-- kinds of locals, and of a stack with the lowest cell first
abbrev pub shape : List ImageKind → List ImageKind → Shape
shape locals stack = record { locals = locals; stack = reverse stack }

-- what is taken for a method, if it is there
abbrev pub arguments_of : ℕ → Option ImageMethod → List Need
arguments_of class m = option_map_or (wants.argument_needs class) m []

-- of a cell that is not there nothing is said
abbrev pub meets_at : Image → Need → Option ImageKind → Bool
meets_at image n None = true
meets_at image n (Some k) = wants.meets image n k

-- ---- what is left

-- the local that an instruction gives a kind
abbrev pub stored : Op → List ℕ
stored (op.Store i) = i ∷ []
stored other = []

-- but for these places, what a row has stood there before
abbrev pub IsKeptBut : List ℕ → List ImageKind → List ImageKind → Type 0
IsKeptBut places before after =
    (p : ℕ) (k : ImageKind) → list_any (λ q. q == p) places ≡ false → slice_get after p ≡ Some k
    → slice_get before p ≡ Some k

-- only a cell that is taken alone is put twice
abbrev pub is_ordinary : Effect → Bool
is_ordinary e = puts_once e.takes e.puts
  where
    puts_once : Takes → Puts → Bool
    puts_once (takes.One n) p = true
    puts_once t puts.Twice = false
    puts_once t p = true

-- the top twice, and what is below it
abbrev pub top_twice : List ImageKind → List ImageKind
top_twice stack = (take 1 stack ++ take 1 stack) ++ drop 1 stack

abbrev pub answer_of : Image → ℕ → List ImageKind
answer_of image method = option_map_or (λ m. wants.result_cells m.result) (slice_get image.methods method) []
