-- The table of `Component` has its four methods, with their signatures.
use Rattle.std.proofs.Common.{◌≡◌, ℕ, suc, ◌≤◌, Bool, true, false, List, [], ◌∷◌, length, codes, Option, Some, refl, ap}
use Rattle.std.proofs.Common.{sym, subst, ◌∙◌, arith}
use Rattle.std.specs.Prelude.{IsSomeAnd, position, slice_get}
use Rattle.std.specs.List.{list_any}
use Rattle.std.specs.Option.{option_and_then, option_map_or}
use Rattle.std.specs.Str.{bytes_eq}
use Rattle.std.proofs.lemmas.List.{length-map}
use Rattle.std.proofs.lemmas.Option.{none-some, same_Some}
use Rattle.sed_typed.specs.declared.program.Program.{Program}
use Rattle.sed_typed.specs.declared.schema.ActionArg.{ActionArg}
use Rattle.sed_typed.specs.declared.schema.ActionArg.TheVariants as argument
use Rattle.sed_typed.specs.Classes.{find, method_name}
use Rattle.sed_typed.specs.SysMembers.{component_methods, component_names}
use Rattle.sed_typed.specs.SysTypes.{component_type}
use Rattle.sed_typed.specs.Typed.{Typed}
use Rattle.sed_typed.specs.Virtual.{virtual_names}
use Rattle.sed_typed.proofs.SystemMethods.{begins_at}
use Rattle.sed_engine.proofs.Below.{of_some}
use Rattle.sed_engine.proofs.SysMethods.{IsRoot, SysClass, TakeIt, root_there}
use Rattle.sed_engine.proofs.TypedRoots.{component_in}
use Rattle.sed_layout.specs.MethodTables.{place_of, table_of}
use Rattle.scode_image.specs.declared.image.ImageClass.{ImageClass}
use Rattle.scode_code.specs.Kinds.{int, void}
use Rattle.scode_code.specs.TableRules.{action_params, component_has_table, component_table_is, has_signature}
use Rattle.scode_gen.specs.Generated.{image_of}
use Rattle.scode_gen.specs.ImageSlots.{action_number}
use Rattle.scode_made.specs.Laid.{IsTabled}
use Rattle.scode_made.proofs.Rows.{class_at}
use Rattle.scode_agree.proofs.Signatures.{action_signed}
use Rattle.scode_agree.proofs.SysThere.{type_told}
use Rattle.scode_agree.proofs.Tests.{four, not_so}

is_four : (xs : List ℕ) (a b c d : ℕ) → length xs ≡ 4 → slice_get xs 0 ≡ Some a → slice_get xs 1 ≡ Some b
    → slice_get xs 2 ≡ Some c → slice_get xs 3 ≡ Some d →
    xs ≡ a ∷ b ∷ c ∷ d ∷ []
is_four [] a b c d h e f g i = absurd (none-some a e)
is_four (p ∷ []) a b c d h e f g i = absurd (none-some b f)
is_four (p ∷ q ∷ []) a b c d h e f g i = absurd (none-some c g)
is_four (p ∷ q ∷ r ∷ []) a b c d h e f g i = absurd (none-some d i)
is_four (p ∷ q ∷ r ∷ s ∷ []) a b c d h e f g i =
    ap (λ (n : ℕ). n ∷ q ∷ r ∷ s ∷ []) (same_Some p a e)
    ∙ ap (λ (n : ℕ). a ∷ n ∷ r ∷ s ∷ []) (same_Some q b f)
    ∙ ap (λ (n : ℕ). a ∷ b ∷ n ∷ s ∷ []) (same_Some r c g)
    ∙ ap (λ (n : ℕ). a ∷ b ∷ c ∷ n ∷ []) (same_Some s d i)
is_four (p ∷ q ∷ r ∷ s ∷ t ∷ xs) a b c d h e f g i =
    let more : suc (suc (suc (suc (suc (length xs))))) ≡ 4 = h in absurd (omega (arith, more))

module _ (program : Program) (typed : Typed program) (few : length program.schema.classes ≤ 1024)
    (tabled : IsTabled program) where
  abbrev component : SysClass program.schema.classes component_type (λ _. Unit {0})
  component = component_in program typed

  abbrev table : List ℕ
  table = table_of program component.class

  names_are : virtual_names program component.class ≡ component_names
  names_are = begins_at program typed component.class component.is

  as_many : length table ≡ 4
  as_many =
      sym (length-map table (method_name program)) ∙ ap length (tabled.names component.class) ∙ ap length names_are

  -- a method that stands at a place of the table, with its signature
  record IsSigned (place : ℕ) (a : ActionArg) : Type 0 where
    number : ℕ
    stands : slice_get table place ≡ Some number
    signed : has_signature (image_of program) (action_params (action_number a)) void number ≡ true

  is_signed : (place : ℕ) (name : List ℕ) (a : ActionArg)
      → position (λ (other : List ℕ). bytes_eq other name) component_names ≡ Some place →
      list_any (λ w. bytes_eq w.0 name) component_methods ≡ true → TakeIt component_methods name a → IsSigned place a
  is_signed place name a first some takes =
      let placed : place_of program component.class name ≡ Some place =
      ap (position (λ (other : List ℕ). bytes_eq other name)) names_are ∙ first in
      let at =
      of_some {P = λ (n : ℕ). find program component.class name ≡ Some n} (slice_get table place)
      (tabled.at_place component.class place name placed) in
      record {
        number = at.0;
        stands = at.1;
        signed =
            action_signed program at.0 a (subst (λ (o : Option ℕ). IsSomeAnd o (IsRoot program a)) at.2
            (root_there program typed component name a some takes));
      }

  execute : IsSigned 0 argument.Void
  execute = is_signed 0 (codes "execute") argument.Void refl refl (λ e. refl, (not_so, (not_so, (not_so, tt))))

  start : IsSigned 1 argument.Void
  start = is_signed 1 (codes "start") argument.Void refl refl (not_so, (λ e. refl, (not_so, (not_so, tt))))

  stop : IsSigned 2 argument.Void
  stop = is_signed 2 (codes "stop") argument.Void refl refl (not_so, (not_so, (λ e. refl, (not_so, tt))))

  changed : IsSigned 3 argument.Int
  changed = is_signed 3 (codes "changed") argument.Int refl refl (not_so, (not_so, (not_so, (λ e. refl, tt))))

  table_is : table ≡ execute.number ∷ start.number ∷ stop.number ∷ changed.number ∷ []
  table_is =
      is_four table execute.number start.number stop.number changed.number as_many execute.stands start.stands
      stop.stands changed.stands

  pub component_tabled : component_has_table (image_of program) ≡ true
  component_tabled =
      let image = image_of program in
      let test : ImageClass → Bool = λ c. component_table_is image c.table in
      ap (λ (o : Option ℕ). option_map_or test (option_and_then (λ (class : ℕ). slice_get image.classes class) o) false)
      (type_told program typed few 2 ∙ component.is)
      ∙ ap (λ (o : Option ImageClass). option_map_or test o false)
      (class_at program component.class component.info component.there)
      ∙ ap (component_table_is image) table_is
      ∙ four (has_signature image [] void execute.number) (has_signature image [] void start.number)
      (has_signature image [] void stop.number)
      (has_signature image (int ∷ []) void changed.number) execute.signed start.signed stop.signed changed.signed
