-- What a code may be asked, and a code that answers no more than that.
use Rattle.std.specs.Prelude.{ℕ, ◌≤◌, ◌&&◌, Bool, nat_le, IsTrue, if◌then◌else◌, List, map}
use Rattle.std.specs.Cmp.Lexicographic.{pointwise}
use Rattle.std.specs.Int.{w64}
use Rattle.std.specs.Str.{bytes_eq}
use Rattle.sed_value.specs.Value.{is_signed}
use Rattle.sed_typed.specs.Contents.{Contents, Shape}
use Rattle.sed_engine.specs.declared.call.CallEnd.TheVariants.{Trap}
use Rattle.sed_engine.specs.Root.{RootEnd}
use Rattle.sed_engine.specs.Code.{Meaning, Question, may_call, is_creatable}
use Rattle.sed_engine.specs.Fits.{Fits, all_kept, form_of}

-- contents that fit, as a test
abbrev pub do_fit : (ℕ → List Shape) → List Shape → Contents → Contents → Bool
do_fit fields shapes first contents =
    pointwise bytes_eq (map (λ e. e.0) contents) (map (λ e. e.0) first) && all_kept (form_of fields shapes) contents

-- What may be asked: of a class of which components are made, with contents and statics that fit, an argument that the
-- root takes, 1 to 1,000,000 turns and a moment of 64 bits. `Asked` says the same by its parts.
unfoldable pub may_ask : Meaning → Question → Bool
may_ask m q =
    is_creatable m q.class
    && (do_fit m.fields (m.fields q.class) (m.initial q.class) q.contents
    && (do_fit m.fields m.static_fields m.initial_statics q.statics
    && (may_call m q.class q.which q.argument
    && (nat_le 1 q.turns
    && (nat_le q.turns 1000000
    && is_signed w64 q.moment)))))

abbrev pub MayAsk : Meaning → Question → Type 0
MayAsk m q = IsTrue (may_ask m q)

-- the parts of what may be asked
pub record Asked (m : Meaning) (q : Question) : Type 0 where
  pub creatable : IsTrue (is_creatable m q.class)
  pub contents : Fits m.fields (m.fields q.class) (m.initial q.class) q.contents
  pub statics : Fits m.fields m.static_fields m.initial_statics q.statics
  pub argument : IsTrue (may_call m q.class q.which q.argument)
  pub some_turns : 1 ≤ q.turns
  pub most_turns : q.turns ≤ 1000000
  pub moment : IsTrue (is_signed w64 q.moment)

-- the answer to what may not be asked: nothing changes, and the end is that of no trap
abbrev pub unasked : Question → RootEnd
unasked q = record { contents = q.contents; statics = q.statics; end = Trap 0 }

abbrev pub masked_root : Meaning → Question → RootEnd
masked_root m q = if may_ask m q then m.root q else unasked q

-- a code whose root call answers only what it may be asked: so codes that answer that alike are the same code
abbrev pub masked : Meaning → Meaning
masked m = record m { root = masked_root m }
