-- The object of a root call, and what it is asked.
use Rattle.std.proofs.Common.{◌≡◌, ℕ, ℤ, Bool, if◌then◌else◌, Option, Some, sym, ap, subst, ◌∙◌, []}
use Rattle.std.specs.Prelude.{IfSome, IsSome, IsSomeAnd, IsTrue, is_some}
use Rattle.std.specs.FinMap as finite
use Rattle.std.specs.Option.{option_map, option_map_or}
use Rattle.sed_value.specs.declared.value.Value.{Value}
use Rattle.sed_typed.specs.Contents.{Contents}
use Rattle.sed_engine.specs.declared.call.CallEnd.{CallEnd}
use Rattle.sed_engine.specs.declared.call.Place.{Place}
use Rattle.sed_engine.specs.declared.call.Root.{Root}
use Rattle.sed_engine.specs.Asked.{MayAsk, unasked}
use Rattle.sed_engine.specs.Code.{Object, Question, asked_of, may_call, root_of}
use Rattle.sed_engine.specs.Root.{RootEnd}
use Rattle.sed_engine.specs.Values.{Component}
use Rattle.scode_image.specs.declared.image.Image.{Image}
use Rattle.scode_code.specs.Image.{code_of, meaning_of}
use Rattle.scode_mem.specs.Blocks.{Held, Kept}
use Rattle.scode_state.specs.Values.{held_in}
use Rattle.scode_sound.specs.Rooted.{root_end_of}
use Rattle.scode_cells.specs.Frames.{Frames}
use Rattle.scode_vm.specs.Doings.{HasCells}
use Rattle.scode_whole.proofs.Whole.{first_rule}
use Rattle.scode_engine.specs.AtWork.{Rooted, running_on}
use Rattle.scode_engine.specs.Loaded.{IsLeftBy, IsLoaded, live_of, object_in, statics_of}
use Rattle.scode_engine.proofs.Changes.{block_at, object_at}
use Rattle.scode_engine.specs.Answered.{IsAnswered, IsReady}
use Rattle.scode_engine.specs.RootCall.{question_of}

-- what may be asked is answered by the code's root call
answered_so : (image : Image) (x : Question) → MayAsk (code_of image) x
    → (meaning_of image).root x ≡ root_end_of image x
answered_so image x may = ap (λ (b : Bool). if b then root_end_of image x else unasked x) may

-- a root call
abbrev pub root_at : Image → ℕ → Place → ℤ → Rooted
root_at image class place moment = record { image = image; class = class; place = place; moment = moment }

module _ (image : Image) (h : Held) (p : Place) (which : Root) (argument : Value) (turns : ℕ) (moment : ℤ)
    (may : IsSomeAnd (finite.get (live_of image h) p.0) (λ o. IsTrue (may_call (meaning_of image) o.class which argument))) where
  abbrev pub found : (k : Kept) × (finite.get h.live p.0 ≡ Some k)
      × IsTrue (may_call (meaning_of image) (object_in image k).class which argument)
  found = block_at image h p.0 (λ o. IsTrue (may_call (meaning_of image) o.class which argument)) may

  abbrev pub k : Kept
  k = found.0

  abbrev pub own : Object
  own = object_in image k

  pub its_object : finite.get (live_of image h) p.0 ≡ Some own
  its_object = object_at image h p.0 k found.1

  pub its_may : IsTrue (may_call (meaning_of image) own.class which argument)
  its_may = found.2

  pub its_block : IsSome (finite.get h.live p.0)
  its_block = ap is_some found.1

  module _ (class : ℕ) (kind : IfSome (finite.get h.live p.0) (λ (b : Kept). class ≡ b.class)) where
    class_is : class ≡ k.class
    class_is = subst (λ (o : Option Kept). IfSome o (λ (b : Kept). class ≡ b.class)) found.1 kind

    abbrev pub q : Rooted
    q = root_at image class p moment

    block_is : IsSomeAnd (finite.get h.live p.0) (λ (b : Kept). b.class ≡ class)
    block_is = subst (λ (o : Option Kept). IsSomeAnd o (λ (b : Kept). b.class ≡ class)) (sym found.1) (sym class_is)

    asked_same : (cells : Frames)
        → question_of q (running_on cells h turns) which argument
        ≡ asked_of own (statics_of image h) which argument turns moment
    asked_same cells =
        ap (λ (b : Option Kept). asked_with class (option_map_or (held_in image class Component)
        (option_map (λ (x : Kept). x.bytes) b) [])) found.1
        ∙ ap (λ (n : ℕ). asked_with n (held_in image n Component k.bytes)) class_is
      where
        asked_with : ℕ → Contents → Question
        asked_with n contents = record {
          class = n;
          contents = contents;
          statics = statics_of image h;
          which = which;
          argument = argument;
          turns = turns;
          moment = moment;
        }

    module _ (asked : MayAsk (code_of image) (asked_of own (statics_of image h) which argument turns moment)) where
      pub is_ready : IsLoaded image h → (cells : Frames) → HasCells image cells.most → cells.frames ≡ []
          → IsReady q which argument (running_on cells h turns)
      is_ready is cells enough idle = record {
        verified = is.verified;
        ground = record { agree = first_rule image is.verified; fit = is.blocks; block = block_is };
        cells = enough;
        idle = idle;
        asked = subst (MayAsk (code_of image)) (sym (asked_same cells)) asked;
      }

      module _ (cells after : Frames) (new : Held) (end : CallEnd)
          (is : IsAnswered q which argument (running_on cells h turns) end after new) where
        abbrev pub e : RootEnd
        e = root_of (meaning_of image) own (statics_of image h) which argument turns moment

        same : root_end_of image (question_of q (running_on cells h turns) which argument) ≡ e
        same =
            ap (root_end_of image) (asked_same cells)
            ∙ sym (answered_so image (asked_of own (statics_of image h) which argument turns moment) asked)

        pub its_end : end ≡ e.end
        its_end = is.end_is ∙ ap (λ (o : RootEnd). o.end) same

        pub its_left : IsLeftBy image own.class p e h new
        its_left =
            subst (λ (n : ℕ). IsLeftBy image n p e h new) class_is
            (subst (λ (o : RootEnd). IsLeftBy image class p o h new) same is.left)

  -- what is said of its object is said where it is asked for
  pub said : (P : Object → Type 0) → P own → IfSome (finite.get (live_of image h) p.0) P
  said P holds = subst (λ (o : Option Object). IfSome o P) (sym its_object) holds
