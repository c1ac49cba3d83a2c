-- What each instruction takes off the stack, and what it puts on: data, and what the data says of kinds.
use Rattle.std.specs.Prelude.{ℕ, ◌==◌, ◌||◌, Bool, true, if◌then◌else◌, List, [], ◌∷◌, ◌++◌, map, reverse, slice_get}
use Rattle.std.specs.Prelude.{Option, Some, None}
use Rattle.std.specs.Option.{option_map_or}
use Rattle.scode_ops.specs.declared.op.Op.{Op}
use Rattle.scode_ops.specs.declared.op.Op.TheVariants as op
use Rattle.scode_image.specs.declared.image.Image.{Image}
use Rattle.scode_image.specs.declared.image.ImageKind.{ImageKind}
use Rattle.scode_image.specs.declared.image.ImageMethod.{ImageMethod}
use Rattle.scode_code.specs.Calls.{is_instance, table_method}
use Rattle.scode_code.specs.Kinds.{bool, int, long, str, null, object, statics, is_null, is_str, is_object, goes_to}
use Rattle.scode_code.specs.Kinds.{Shape}
use Rattle.scode_code.specs.declared.needs.Effect.{Effect}
use Rattle.scode_code.specs.declared.needs.Need.{Need}
use Rattle.scode_code.specs.declared.needs.Need.TheVariants.{Goes, AnyObject, Reference, Anything}
use Rattle.scode_code.specs.declared.needs.Puts.{Puts}
use Rattle.scode_code.specs.declared.needs.Puts.TheVariants as puts
use Rattle.scode_code.specs.declared.needs.Takes.{Takes}
use Rattle.scode_code.specs.declared.needs.Takes.TheVariants as takes

-- ---- what the data says

-- what a cell has to be: of a kind that goes to this one, an object or null, a Str or an object or null, or anything
abbrev pub meets : Image → Need → ImageKind → Bool
meets image (Goes l) k = goes_to image k l
meets image AnyObject k = is_object k || is_null k
meets image Reference k = is_object k || is_null k || is_str k
meets image Anything k = true

-- no cell for a method without result
abbrev pub result_cells : ImageKind → List ImageKind
result_cells k = if k.kind == 0 then [] else k ∷ []

-- a receiver of this class, if there is one, and the arguments
abbrev pub argument_needs : ℕ → ImageMethod → List Need
argument_needs class m = map Goes (reverse ((if is_instance m then object class ∷ [] else []) ++ m.params))

-- the cells that are taken off, the top first
abbrev pub needs_of : Image → Takes → List Need
needs_of image takes.Nothing = []
needs_of image (takes.One a) = a ∷ []
needs_of image (takes.Two a b) = a ∷ b ∷ []
needs_of image (takes.Three a b c) = a ∷ b ∷ c ∷ []
needs_of image (takes.Arguments method class) =
    option_map_or (argument_needs class) (slice_get image.methods method) []

-- the cells that are put on for those that are taken, the top first
abbrev pub cells_of : Image → Puts → List ImageKind → List ImageKind
cells_of image puts.Nothing taken = []
cells_of image (puts.One k) taken = k ∷ []
cells_of image puts.Twice taken = taken ++ taken
cells_of image (puts.Answer method) taken =
    option_map_or (λ m. result_cells m.result) (slice_get image.methods method) []

-- ---- the table

abbrev pub effect : Takes → Puts → Effect
effect t p = record { takes = t; puts = p }

abbrev pub nothing : Effect
nothing = effect takes.Nothing puts.Nothing

abbrev pub constant : ImageKind → Effect
constant k = effect takes.Nothing (puts.One k)

abbrev pub takes_any : Effect
takes_any = effect (takes.One Anything) puts.Nothing

abbrev pub twice : Effect
twice = effect (takes.One Anything) puts.Twice

abbrev pub of_two : ImageKind → ImageKind → Effect
of_two k gives = effect (takes.Two (Goes k) (Goes k)) (puts.One gives)

abbrev pub long_shift : Effect
long_shift = effect (takes.Two (Goes int) (Goes long)) (puts.One long)

abbrev pub of_references : Effect
of_references = effect (takes.Two Reference Reference) (puts.One bool)

abbrev pub converts : ImageKind → ImageKind → Effect
converts k gives = effect (takes.One (Goes k)) (puts.One gives)

abbrev pub takes_one : ImageKind → Effect
takes_one k = effect (takes.One (Goes k)) puts.Nothing

abbrev pub gets : ImageKind → Effect
gets k = effect (takes.One AnyObject) (puts.One k)

abbrev pub stores : ImageKind → Effect
stores k = effect (takes.Two (Goes k) AnyObject) puts.Nothing

abbrev pub gets_at : ImageKind → Effect
gets_at k = effect (takes.Two (Goes int) AnyObject) (puts.One k)

abbrev pub stores_at : ImageKind → Effect
stores_at k = effect (takes.Three (Goes k) (Goes int) AnyObject) puts.Nothing

abbrev pub str_get : Effect
str_get = effect (takes.Two (Goes int) (Goes str)) (puts.One int)

abbrev pub str_set : Effect
str_set = effect (takes.Three (Goes int) (Goes int) (Goes str)) puts.Nothing

abbrev pub str_copy : Effect
str_copy = effect (takes.Two (Goes str) (Goes str)) puts.Nothing

abbrev pub loads : List ImageKind → ℕ → Effect
loads locals i = option_map_or (λ k. constant k) (slice_get locals i) nothing

-- the arguments of a method, and below them a receiver of a class, if it has one
abbrev pub arguments : ℕ → ℕ → Effect
arguments method class = effect (takes.Arguments method class) (puts.Answer method)

abbrev pub calls : Image → ℕ → Effect
calls image n = option_map_or (λ m. arguments n m.class) (slice_get image.methods n) nothing

abbrev pub virtual_calls : Image → ℕ → ℕ → Effect
virtual_calls image class place = option_map_or (λ n. arguments n class) (table_method image class place) nothing

abbrev pub wants_of : Image → List ImageKind → Op → Effect
wants_of image locals (op.Int n) = constant int
wants_of image locals (op.Long n) = constant long
wants_of image locals (op.Bool t) = constant bool
wants_of image locals op.Null = constant null
wants_of image locals (op.Text n) = constant str
wants_of image locals op.Statics = constant statics
wants_of image locals (op.Load i) = loads locals i
wants_of image locals (op.Store i) = takes_any
wants_of image locals op.Dup = twice
wants_of image locals op.Pop = takes_any
wants_of image locals op.IntAdd = of_two int int
wants_of image locals op.IntSub = of_two int int
wants_of image locals op.IntMul = of_two int int
wants_of image locals op.IntDiv = of_two int int
wants_of image locals op.IntRem = of_two int int
wants_of image locals op.IntAnd = of_two int int
wants_of image locals op.IntOr = of_two int int
wants_of image locals op.IntXor = of_two int int
wants_of image locals op.IntShl = of_two int int
wants_of image locals op.IntShr = of_two int int
wants_of image locals op.IntNeg = converts int int
wants_of image locals op.IntNot = converts int int
wants_of image locals op.LongAdd = of_two long long
wants_of image locals op.LongSub = of_two long long
wants_of image locals op.LongMul = of_two long long
wants_of image locals op.LongDiv = of_two long long
wants_of image locals op.LongRem = of_two long long
wants_of image locals op.LongAnd = of_two long long
wants_of image locals op.LongOr = of_two long long
wants_of image locals op.LongXor = of_two long long
wants_of image locals op.LongShl = long_shift
wants_of image locals op.LongShr = long_shift
wants_of image locals op.LongNeg = converts long long
wants_of image locals op.LongNot = converts long long
wants_of image locals op.IntEq = of_two int bool
wants_of image locals op.IntNe = of_two int bool
wants_of image locals op.IntLt = of_two int bool
wants_of image locals op.IntLe = of_two int bool
wants_of image locals op.IntGt = of_two int bool
wants_of image locals op.IntGe = of_two int bool
wants_of image locals op.LongEq = of_two long bool
wants_of image locals op.LongNe = of_two long bool
wants_of image locals op.LongLt = of_two long bool
wants_of image locals op.LongLe = of_two long bool
wants_of image locals op.LongGt = of_two long bool
wants_of image locals op.LongGe = of_two long bool
wants_of image locals op.BoolEq = of_two bool bool
wants_of image locals op.BoolNe = of_two bool bool
wants_of image locals op.RefEq = of_references
wants_of image locals op.RefNe = of_references
wants_of image locals op.IntToLong = converts int long
wants_of image locals op.LongToInt = converts long int
wants_of image locals op.Not = converts bool bool
wants_of image locals op.IntToByte = converts int int
wants_of image locals op.IntToShort = converts int int
wants_of image locals (op.Jump to) = nothing
wants_of image locals (op.JumpFalse to) = takes_one bool
wants_of image locals (op.JumpTrue to) = takes_one bool
wants_of image locals op.Turn = nothing
wants_of image locals (op.GetBool offset) = gets bool
wants_of image locals (op.GetByte offset) = gets int
wants_of image locals (op.GetShort offset) = gets int
wants_of image locals (op.GetInt offset) = gets int
wants_of image locals (op.GetLong offset) = gets long
wants_of image locals (op.PutBool offset) = stores bool
wants_of image locals (op.PutByte offset) = stores int
wants_of image locals (op.PutShort offset) = stores int
wants_of image locals (op.PutInt offset) = stores int
wants_of image locals (op.PutLong offset) = stores long
wants_of image locals (op.Inner offset class) = gets (object class)
wants_of image locals (op.Str offset size) = gets str
wants_of image locals (op.BufSize offset) = gets int
wants_of image locals (op.BufGet offset capacity) = gets_at int
wants_of image locals (op.ArrayGetBool offset count) = gets_at bool
wants_of image locals (op.ArrayGetByte offset count) = gets_at int
wants_of image locals (op.ArrayGetShort offset count) = gets_at int
wants_of image locals (op.ArrayGetInt offset count) = gets_at int
wants_of image locals (op.ArrayGetLong offset count) = gets_at long
wants_of image locals (op.ArrayPutBool offset count) = stores_at bool
wants_of image locals (op.ArrayPutByte offset count) = stores_at int
wants_of image locals (op.ArrayPutShort offset count) = stores_at int
wants_of image locals (op.ArrayPutInt offset count) = stores_at int
wants_of image locals (op.ArrayPutLong offset count) = stores_at long
wants_of image locals (op.Call n) = calls image n
wants_of image locals (op.VirtualCall class place) = virtual_calls image class place
wants_of image locals op.Return = nothing
wants_of image locals op.ReturnValue = takes_any
wants_of image locals op.Ticks = constant long
wants_of image locals op.StrLen = converts str int
wants_of image locals op.StrGet = str_get
wants_of image locals op.StrSet = str_set
wants_of image locals op.StrEq = of_two str bool
wants_of image locals op.StrCopy = str_copy

-- the cells that an instruction takes where kinds stand
abbrev pub needs : Image → Shape → Op → List Need
needs image shape i = needs_of image (wants_of image shape.locals i).takes
