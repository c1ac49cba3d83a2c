-- What the bytes of a command are, by what a reader finds in them.
use Rattle.std.proofs.Common.{◌≡◌, ℕ, ◌+◌, ◌<◌, ◌≤◌, Bool, true, false, IsTrue, List, [], ◌∷◌, ◌++◌, length, take, drop, length-drop, refl, sym, ◌∙◌, ap, arith}
use Rattle.std.proofs.lemmas.Bool.Decides.{nat_tests}
use Rattle.std.proofs.lemmas.Int.{to_z-of_z}
use Rattle.std.proofs.lemmas.List.{length-append, length-take-le}
use Rattle.std.proofs.Math.Seq.{take-append_seam, drop-append_seam}
use Rattle.std.specs.Prelude.{Option, Some, None, Result, Ok, Err, MatchResult, nat_lt, if◌then◌else◌, ◌||◌}
use Rattle.std.specs.Option.{option_map, option_map_or}
use Rattle.std.specs.List.{list_any, zip}
use Rattle.std.specs.Int.{w32, w64, cast_signed}
use Rattle.sed_typed.specs.declared.schema.ActionArg.{ActionArg}
use Rattle.sed_value.specs.declared.refusal.Refusal.{Refusal}
use Rattle.sed_value.specs.declared.refusal.Refusal.TheVariants.{BadValue, BufferTooLong}
use Rattle.sed_value.specs.declared.slot_type.Primitive.TheVariants.{Bool as BoolType, Byte as ByteType, Short as ShortType, Int as IntType, Long as LongType}
use Rattle.sed_value.specs.declared.slot_type.SlotType.{SlotType}
use Rattle.sed_value.specs.declared.slot_type.SlotType.TheVariants.{Prim as PrimSlot, Buf as BufSlot}
use Rattle.sed_value.specs.declared.value.Value.{Value}
use Rattle.sed_value.specs.declared.value.Value.TheVariants.{Bool as Truth, Byte, Short, Int, Long, Buf}
use Rattle.sed_value.specs.Value.{goes_to, is_of_type}
use Rattle.sed_engine.specs.Code.{is_argument}
use Rattle.sed_wire.specs.Faults.{IsTooLong, contents_length, size_of}
use Rattle.sed_wire.specs.Number.{number_of}
use Rattle.sed_wire.specs.Reading.{Reads}
use Rattle.sed_wire.specs.Spelling.{Spells}
use Rattle.node_table.specs.Properties.{argument_types, first_of}
use Rattle.node_table.specs.Rows.{first_refusal}
use Rattle.node_table.specs.Read.{AreTaken, IsArgument, IsBadArgument, IsRefusedValue}
use Rattle.node_table.specs.Values.{are_bad_values, is_bad_truth, is_too_long, taken, value_of, values_of}

-- ---- a value that is found

-- what is known of the bytes that spell a value of a type
pub record IsFound (slot : SlotType) (v : Value) (bytes : List ℕ) : Type 0 where
  pub size : (behind : List ℕ) → size_of slot (bytes ++ behind) ≡ length bytes
  pub value : value_of slot bytes ≡ v
  pub good : is_bad_truth v ≡ false
  pub short : is_too_long slot v ≡ false
  pub goes : IsTrue (goes_to slot v)

rest_of : (a b : List ℕ) (n : ℕ) → length a ≡ n → drop n (a ++ b) ≡ b
rest_of a b n e = ap (λ (k : ℕ). drop k (a ++ b)) (sym e) ∙ drop-append_seam a b

contents_found : (count contents behind : List ℕ) → length count ≡ 2 → contents_length ((count ++ contents) ++ behind) ≡ number_of count
contents_found (a ∷ b ∷ []) contents behind e = refl
contents_found [] contents behind e = absurd (omega arith)
contents_found (a ∷ []) contents behind e = absurd (omega arith)
contents_found (a ∷ b ∷ c ∷ more) contents behind e = absurd (omega arith)

counted : (count contents : List ℕ) → length count ≡ 2 → length (count ++ contents) ≡ 2 + length contents
counted (a ∷ b ∷ []) contents e = omega arith
counted [] contents e = absurd (omega arith)
counted (a ∷ []) contents e = absurd (omega arith)
counted (a ∷ b ∷ c ∷ more) contents e = absurd (omega arith)

pub found : (slot : SlotType) (v : Value) (bytes : List ℕ) → Spells slot v bytes → IsFound slot v bytes
found (PrimSlot BoolType) (Truth x) bytes s = record {
  size = λ behind. sym s.spelled.0.as_many;
  value = ap Truth s.spelled.0.is_number;
  good = (let few = s.spelled.1 in grind (arith, nat_tests));
  short = refl;
  goes = s.of_type;
}
found (PrimSlot ByteType) (Byte x) bytes s = record {
  size = λ behind. sym s.spelled.as_many;
  value = ap Byte s.spelled.is_number;
  good = refl;
  short = refl;
  goes = (let of = s.of_type in grind (arith, nat_tests));
}
found (PrimSlot ShortType) (Short x) bytes s = record {
  size = λ behind. sym s.spelled.as_many;
  value = ap Short s.spelled.is_number;
  good = refl;
  short = refl;
  goes = (let of = s.of_type in grind (arith, nat_tests));
}
found (PrimSlot IntType) (Int x) bytes s = record {
  size = λ behind. sym s.spelled.complement.as_many;
  value = ap (λ (n : ℕ). Int (cast_signed w32 n)) s.spelled.complement.is_number ∙ ap Int (to_z-of_z w32 x s.spelled.fits);
  good = refl;
  short = refl;
  goes = s.of_type;
}
found (PrimSlot LongType) (Long x) bytes s = record {
  size = λ behind. sym s.spelled.complement.as_many;
  value = ap (λ (n : ℕ). Long (cast_signed w64 n)) s.spelled.complement.is_number ∙ ap Long (to_z-of_z w64 x s.spelled.fits);
  good = refl;
  short = refl;
  goes = s.of_type;
}
found (BufSlot most) (Buf contents) bytes s =
    let two : length s.spelled.count ≡ 2 = s.spelled.counts.as_many in
    let many : number_of s.spelled.count ≡ length contents = s.spelled.counts.is_number in
    let of = s.of_type in
    record {
      size = λ behind.
          ap (λ (bs : List ℕ). 2 + contents_length (bs ++ behind)) s.spelled.front ∙ ap (λ (n : ℕ). 2 + n) (contents_found s.spelled.count contents behind two ∙ many)
          ∙ sym (ap length s.spelled.front ∙ counted s.spelled.count contents two);
      value = ap (λ (bs : List ℕ). Buf (drop 2 bs)) s.spelled.front ∙ ap Buf (rest_of s.spelled.count contents 2 two);
      good = refl;
      short = (grind (arith, nat_tests));
      goes = s.of_type;
    }
found slot v bytes s = let of = s.of_type in cc

-- ---- values, one behind another

abbrev values_by : SlotType → List SlotType → List ℕ → ℕ → Option (List Value)
values_by t types bytes n =
    if nat_lt (length bytes) n then None
    else option_map (λ values. value_of t (take n bytes) ∷ values) (values_of types (drop n bytes))

values_enough : (t : SlotType) (types : List SlotType) (bytes : List ℕ) (n : ℕ) → n ≤ length bytes → values_by t types bytes n ≡ option_map (λ values. value_of t (take n bytes) ∷ values) (values_of types (drop n bytes))
values_enough t types bytes n enough =
    let no : nat_lt (length bytes) n ≡ false = grind (arith, nat_tests) in
    rw no refl

-- there are bytes enough for one more
pub values_next : (t : SlotType) (types : List SlotType) (bytes : List ℕ) → size_of t bytes ≤ length bytes
    → values_of (t ∷ types) bytes ≡ option_map (λ values. value_of t (take (size_of t bytes) bytes) ∷ values) (values_of types (drop (size_of t bytes) bytes))
values_next t types bytes enough = values_enough t types bytes (size_of t bytes) enough

-- there are not
pub values_short : (t : SlotType) (types : List SlotType) (bytes : List ℕ) → length bytes < size_of t bytes → values_of (t ∷ types) bytes ≡ None
values_short t types bytes few =
    let yes : nat_lt (length bytes) (size_of t bytes) ≡ true = grind (arith, nat_tests) in
    rw yes refl

-- a value that was read stands first
pub values_read : (t : SlotType) (types : List SlotType) (v : Value) (old new : List ℕ) → Reads (Spells t) v old new
    → values_of (t ∷ types) old ≡ option_map (λ values. v ∷ values) (values_of types new)
values_read t types v old new r =
    let is = found t v r.spelling r.spelled in
    let long : length (r.spelling ++ new) ≡ length r.spelling + length new = length-append r.spelling new in
    ap (values_of (t ∷ types)) r.front
    ∙ ap (values_by t types (r.spelling ++ new)) (is.size new)
    ∙ values_enough t types (r.spelling ++ new) (length r.spelling) (omega arith)
    ∙ ap (λ (bs : List ℕ). option_map (λ values. value_of t bs ∷ values) (values_of types (drop (length r.spelling) (r.spelling ++ new)))) (take-append_seam r.spelling new)
    ∙ ap (λ (bs : List ℕ). option_map (λ values. value_of t r.spelling ∷ values) (values_of types bs)) (drop-append_seam r.spelling new)
    ∙ ap (λ (x : Value). option_map (λ values. x ∷ values) (values_of types new)) is.value

-- ---- what is refused

judge : List SlotType → Option (List Value) → Option Refusal
judge types r =
    first_refusal ((option_map_or (λ values. list_any is_bad_truth values) r true, BadValue)
    ∷ (list_any (λ (e : SlotType × Value). is_too_long e.0 e.1) (zip types (option_map_or (λ values. values) r [])), BufferTooLong) ∷ [])

judge_is : (types : List SlotType) (bytes : List ℕ) (refusal : Refusal) → judge types (values_of types bytes) ≡ Some refusal → IsRefusedValue types bytes refusal
unfolding judge
judge_is types bytes refusal e = e

pub none_is_bad : (types : List SlotType) (bytes : List ℕ) → values_of types bytes ≡ None → IsRefusedValue types bytes BadValue
unfolding judge
none_is_bad types bytes none = judge_is types bytes BadValue (ap (judge types) none)

-- what is left behind the last value
left_over : (bytes : List ℕ) → (bytes ≡ [] → ⊥) → values_of [] bytes ≡ None
left_over [] some = absurd (some refl)
left_over (byte ∷ bytes) some = refl

module _ (t : SlotType) (bytes new : List ℕ) where
  one_found : (v : Value) → values_of (t ∷ []) bytes ≡ Some (v ∷ []) → is_bad_truth v ≡ false → is_too_long t v ≡ false → AreTaken (t ∷ []) bytes (v ∷ [])
  one_found v is good short = record {
    are = ap (λ r. option_map_or (λ values. values) r []) is;
    good = ap (λ r. option_map_or (λ values. list_any is_bad_truth values) r true) is ∙ ap (λ (b : Bool). b || false) good;
    short = ap (λ r. list_any (λ (e : SlotType × Value). is_too_long e.0 e.1) (zip (t ∷ []) (option_map_or (λ values. values) r []))) is ∙ ap (λ (b : Bool). b || false) short;
  }

  pub one_is : (v : Value) → Reads (Spells t) v bytes new → new ≡ [] → AreTaken (t ∷ []) bytes (v ∷ [])
  one_is v r none =
      let is = found t v r.spelling r.spelled in
      one_found v (values_read t [] v bytes new r ∙ ap (λ (bs : List ℕ). option_map (λ values. v ∷ values) (values_of [] bs)) none) is.good is.short

  pub more_is_bad : (v : Value) → Reads (Spells t) v bytes new → (new ≡ [] → ⊥) → IsRefusedValue (t ∷ []) bytes BadValue
  more_is_bad v r some =
      none_is_bad (t ∷ []) bytes (values_read t [] v bytes new r ∙ ap (option_map (λ values. v ∷ values)) (left_over new some))

pub above_two : (truth : ℕ) → 2 < truth → is_bad_truth (Truth (number_of (truth ∷ []))) ≡ true
above_two truth above =
    let same : number_of (truth ∷ []) ≡ truth = omega arith in
    rw same (grind (arith, nat_tests))

-- a Buf that is there and too long
pub long_is : (most : ℕ) (bytes : List ℕ) → 2 + contents_length bytes ≤ length bytes → most < contents_length bytes
    → is_too_long (BufSlot most) (value_of (BufSlot most) (take (2 + contents_length bytes) bytes)) ≡ true
long_is most bytes there long =
    let all : length (take (2 + contents_length bytes) bytes) ≡ 2 + contents_length bytes = length-take-le (2 + contents_length bytes) bytes there in
    let size : length (drop 2 (take (2 + contents_length bytes) bytes)) ≡ contents_length bytes = length-drop 2 (take (2 + contents_length bytes) bytes) ∙ omega arith in
    rw size (grind (arith, nat_tests))

pub long_is_refused : (t : SlotType) (bytes new : List ℕ) → IsTooLong t bytes → new ≡ drop (size_of t bytes) bytes → new ≡ [] → IsRefusedValue (t ∷ []) bytes BufferTooLong
unfolding judge
long_is_refused (PrimSlot p) bytes new long stands none = absurd long
long_is_refused (BufSlot most) bytes new long stands none =
    let v : Value = value_of (BufSlot most) (take (2 + contents_length bytes) bytes) in
    judge_is (BufSlot most ∷ []) bytes BufferTooLong
    (ap (judge (BufSlot most ∷ [])) (values_next (BufSlot most) [] bytes long.0 ∙ ap (λ (bs : List ℕ). option_map (λ values. value_of (BufSlot most) (take (2 + contents_length bytes) bytes) ∷ values) (values_of [] bs)) (sym stands ∙ none))
    ∙ ap (λ (b : Bool). first_refusal ((false, BadValue) ∷ (b || false, BufferTooLong) ∷ [])) (long_is most bytes long.0 long.1))

pub long_is_bad : (t : SlotType) (bytes new : List ℕ) → IsTooLong t bytes → new ≡ drop (size_of t bytes) bytes → (new ≡ [] → ⊥) → IsRefusedValue (t ∷ []) bytes BadValue
long_is_bad (PrimSlot p) bytes new long stands some = absurd long
long_is_bad (BufSlot most) bytes new long stands some =
    none_is_bad (BufSlot most ∷ []) bytes (values_next (BufSlot most) [] bytes long.0
    ∙ ap (λ (bs : List ℕ). option_map (λ values. value_of (BufSlot most) (take (2 + contents_length bytes) bytes) ∷ values) (values_of [] bs)) (sym stands)
    ∙ ap (option_map (λ values. value_of (BufSlot most) (take (2 + contents_length bytes) bytes) ∷ values)) (left_over new some))

-- ---- arguments

never_long : (p : _) (values : List Value) → list_any (λ (e : SlotType × Value). is_too_long e.0 e.1) (zip (PrimSlot p ∷ []) values) ≡ false
never_long p [] = refl
never_long p (v ∷ values) = refl

bad_first : (b : Bool) (refusal : Refusal) → first_refusal ((b, BadValue) ∷ (false, BufferTooLong) ∷ []) ≡ Some refusal → (refusal ≡ BadValue) × (b ≡ true)
bad_first true refusal e = (cc, refl)
bad_first false refusal e = absurd (let no = e in cc)

pub bad_argument : (p : _) (bytes : List ℕ) (refusal : Refusal) → IsRefusedValue (PrimSlot p ∷ []) bytes refusal → (refusal ≡ BadValue) × (are_bad_values (PrimSlot p ∷ []) bytes ≡ true)
bad_argument p bytes refusal is =
    bad_first (are_bad_values (PrimSlot p ∷ []) bytes) refusal
    (sym (ap (λ (b : Bool). first_refusal ((are_bad_values (PrimSlot p ∷ []) bytes, BadValue) ∷ (b, BufferTooLong) ∷ [])) (never_long p (taken (PrimSlot p ∷ []) bytes))) ∙ is)

-- what is of a type may be stored in a slot of it
pub goes_there : (t : SlotType) (v : Value) → IsTrue (is_of_type t v) → IsTrue (goes_to t v)
goes_there (PrimSlot BoolType) v of = of
goes_there (PrimSlot ByteType) v of = rw of refl
goes_there (PrimSlot ShortType) v of = or_middle (is_of_type (PrimSlot ByteType) v) (is_of_type (PrimSlot ShortType) v) (is_of_type (PrimSlot IntType) v) of
  where
    or_middle : (a b c : Bool) → IsTrue b → IsTrue ((a || b) || c)
    or_middle true b c is = refl
    or_middle false b c is = rw is refl
goes_there (PrimSlot IntType) v of = or_last (is_of_type (PrimSlot ByteType) v || is_of_type (PrimSlot ShortType) v) (is_of_type (PrimSlot IntType) v) of
  where
    or_last : (a b : Bool) → IsTrue b → IsTrue (a || b)
    or_last true b is = refl
    or_last false b is = is
goes_there (PrimSlot LongType) v of = or_long ((is_of_type (PrimSlot ByteType) v || is_of_type (PrimSlot ShortType) v) || is_of_type (PrimSlot IntType) v) (is_of_type (PrimSlot LongType) v) of
  where
    or_long : (a b : Bool) → IsTrue b → IsTrue (a || b)
    or_long true b is = refl
    or_long false b is = is
goes_there (BufSlot most) v of = of

module _ (p : _) (a : ActionArg) (bytes : List ℕ) (types : argument_types a ≡ PrimSlot p ∷ []) (fits : (v : Value) → IsTrue (is_of_type (PrimSlot p) v) → IsTrue (is_argument a v)) where
  -- one value of the type is the argument
  pub argument_is : (r : Result Value Refusal) → MatchResult r (λ v. AreTaken (PrimSlot p ∷ []) bytes (v ∷ [])) (IsRefusedValue (PrimSlot p ∷ []) bytes)
      → MatchResult r (λ v. IsTrue (is_of_type (PrimSlot p) v)) (λ _. Unit {0}) → MatchResult r (IsArgument a bytes) (IsBadArgument a bytes)
  argument_is (Ok v) is of = record {
    is = ap (λ ts. first_of (taken ts bytes)) types ∙ ap first_of is.are;
    good = ap (λ ts. are_bad_values ts bytes) types ∙ is.good;
    allowed = fits v of;
  }
  argument_is (Err refusal) is of =
      let bad = bad_argument p bytes refusal is in
      record { same = bad.0; bad = ap (λ ts. are_bad_values ts bytes) types ∙ bad.1 }
