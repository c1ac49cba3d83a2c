-- What a part of the walk leaves.
use Rattle.std.specs.Prelude.{ℕ, Bool, true, false, List}
use Rattle.scode_image.specs.declared.image.Image.{Image}
use Rattle.scode_image.specs.declared.image.ImageField.{ImageField}
use Rattle.scode_fields.specs.declared.holders.Walk.{Walk}
use Rattle.scode_fields.specs.Walking.{AreDone, AreOnWay, GoesOn, IsCircle, IsDone, IsFieldDone, IsFieldOnWay, IsOnWay}
use Rattle.scode_fields.specs.Walking.{IsWalk}

abbrev pub IsSound : Image → Walk → Type 0
IsSound image w = IsWalk image w.begun.items w.done.items w.order.items

abbrev pub Grows : Walk → Walk → Type 0
Grows old new = GoesOn old.begun.items old.done.items new.begun.items new.done.items

abbrev pub LeadsTo : Image → Walk → ℕ → Type 0
LeadsTo image w class = IsOnWay image w.begun.items w.done.items class

abbrev pub LeadsByField : Image → Walk → ImageField → Type 0
LeadsByField image w f = IsFieldOnWay image w.begun.items w.done.items f

abbrev pub LeadsByFields : Image → Walk → List ImageField → Type 0
LeadsByFields image w fields = AreOnWay image w.begun.items w.done.items fields

-- a part of the walk that came through left the walk with this; else a class leads back to itself
pub record Through (image : Image) (old new : Walk) (Left : Type 0) : Type 0 where
  pub sound : IsSound image new
  pub grows : Grows old new
  pub left : Left

abbrev pub Went : Image → Walk → Walk → Type 0 → Bool → Type 0
Went image old new Left true = Through image old new Left
Went image old new Left false = IsCircle image

abbrev pub WentTo : Image → Walk → Walk → ℕ → Bool → Type 0
WentTo image old new class well = Went image old new (IsDone image new.done.items class) well

abbrev pub WentToField : Image → Walk → Walk → ImageField → Bool → Type 0
WentToField image old new f well = Went image old new (IsFieldDone image new.done.items f) well

abbrev pub WentToFields : Image → Walk → Walk → List ImageField → Bool → Type 0
WentToFields image old new fields well = Went image old new (AreDone image new.done.items fields) well
