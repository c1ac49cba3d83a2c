-- What a root call of an image runs that may be asked.
use Rattle.std.specs.Prelude.{ℕ, ◌≡◌, ◌⊎◌, slice_get, length, Some, None, Ok}
use Rattle.sed_engine.specs.declared.call.CallEnd.TheVariants.{Done}
use Rattle.sed_engine.specs.Code.{Question}
use Rattle.sed_engine.specs.Root.{RootEnd, argument_of}
use Rattle.sed_engine.specs.Values.{Val}
use Rattle.scode_image.specs.declared.image.Image.{Image}
use Rattle.scode_image.specs.declared.image.ImageMethod.{ImageMethod}
use Rattle.scode_code.specs.Calls.{argument_count}
use Rattle.scode_code.specs.Root.{root, root_arguments, root_method}

-- a method that is there, with the component and an argument, if it takes one
pub record RunsMethod (image : Image) (q : Question) : Type 0 where
  pub number : ℕ
  pub method : ImageMethod
  pub value : Val
  pub found : root_method image q.class q.which ≡ Ok (Some number)
  pub stands : slice_get image.methods number ≡ Some method
  pub given : argument_of q.argument ≡ Ok value
  pub as_many : length (root_arguments value) ≡ argument_count method

abbrev pub root_end_of : Image → Question → RootEnd
root_end_of image q = root image q.class q.contents q.statics q.which q.argument q.turns q.moment

-- nothing: it ends with all turns left, and changes nothing
pub record RunsNothing (image : Image) (q : Question) : Type 0 where
  pub found : root_method image q.class q.which ≡ Ok None
  pub ended : root_end_of image q ≡ record { contents = q.contents; statics = q.statics; end = Done q.turns }

abbrev pub HasRoot : Image → Question → Type 0
HasRoot image q = RunsMethod image q ⊎ RunsNothing image q
