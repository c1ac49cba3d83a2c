-- Only a cell that is taken alone is put twice.
use Rattle.std.proofs.Common.{◌≡◌, ℕ, true, List, slice_get, refl, Option, Some, None}
use Rattle.std.specs.Option.{option_map_or}
use Rattle.scode_ops.specs.declared.op.Op.{Op}
use Rattle.scode_ops.specs.declared.op.Op.TheVariants as op
use Rattle.scode_image.specs.declared.image.Image.{Image}
use Rattle.scode_image.specs.declared.image.ImageKind.{ImageKind}
use Rattle.scode_image.specs.declared.image.ImageMethod.{ImageMethod}
use Rattle.scode_code.specs.Calls.{table_method}
use Rattle.scode_code.specs.Wants.{arguments, constant, nothing, wants_of}
use Rattle.scode_rules.specs.Words.{is_ordinary}

loads_ordinary : (o : Option ImageKind) → is_ordinary (option_map_or (λ k. constant k) o nothing) ≡ true
loads_ordinary None = refl
loads_ordinary (Some k) = refl

calls_ordinary : (n : ℕ) (o : Option ImageMethod)
    → is_ordinary (option_map_or (λ m. arguments n m.class) o nothing) ≡ true
calls_ordinary n None = refl
calls_ordinary n (Some m) = refl

virtual_ordinary : (class : ℕ) (o : Option ℕ) → is_ordinary (option_map_or (λ n. arguments n class) o nothing) ≡ true
virtual_ordinary class None = refl
virtual_ordinary class (Some n) = refl

pub wants_are_ordinary : (image : Image) (locals : List ImageKind) (i : Op)
    → is_ordinary (wants_of image locals i) ≡ true
wants_are_ordinary image locals (op.Load i) = loads_ordinary (slice_get locals i)
wants_are_ordinary image locals (op.Call n) = calls_ordinary n (slice_get image.methods n)
wants_are_ordinary image locals (op.VirtualCall class place) = virtual_ordinary class (table_method image class place)
wants_are_ordinary image locals _ = refl
