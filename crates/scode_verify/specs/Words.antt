-- What the verifier knows of a method's places, and of the kinds at one.
use Rattle.std.specs.Prelude.{◌≡◌, ℕ, suc, true, ◌+◌, ◌<◌, ◌≤◌, ◌==◌, nat_lt, Bool, false, if◌then◌else◌, List, [], ◌∷◌}
use Rattle.std.specs.Prelude.{◌-◌, ◌++◌, drop, find, length, map, slice_get, slice_index_or, Option, Some, None}
use Rattle.std.specs.List.{list_any}
use Rattle.std.specs.Option.{option_map_or}
use Rattle.scode_image.specs.declared.image.Image.{Image}
use Rattle.scode_image.specs.declared.image.ImageEntry.{ImageEntry}
use Rattle.scode_image.specs.declared.image.ImageKind.{ImageKind}
use Rattle.scode_image.specs.declared.image.ImageMethod.{ImageMethod}
use Rattle.scode_ops.specs.declared.op.Op.{Op}
use Rattle.scode_code.specs.Faults.{Broken as AnyBroken}
use Rattle.scode_code.specs.Kinds.{Shape, goes_to}
use Rattle.scode_code.specs.CodeRules.{Fault, carried_on, entry_at, entry_from, fault_from, first_shape, is_between}
use Rattle.scode_code.specs.CodeRules.{arrives, arrives_wrong, is_start, jumps_to, shape_at, stray_or}
use Rattle.scode_code.specs.TableRules.{places_ascend}
use Rattle.scode_code.specs.Wants.{needs}
use Rattle.scode_rules.specs.Words.{shape, stored}
use Rattle.scode_verify.specs.declared.changes.Cell.{Cell}
use Rattle.scode_verify.specs.declared.changes.Cell.TheVariants as cell
use Rattle.scode_verify.specs.declared.changes.Changes.{Changes}
use Rattle.scode_verify.specs.declared.kinds.Kinds.{Kinds}
use Rattle.scode_verify.specs.declared.walk.Broken.{Broken}
use Rattle.scode_verify.specs.declared.verified.Found.{Found}

-- a truth for each place of the code: whether an instruction starts there
pub record AreStarts (told : List Bool) (code : List ℕ) : Type 0 where
  pub is : (place : ℕ) → slice_index_or told place false ≡ is_start code place

-- the number of the first entry at a place, of those that are numbered from here on
abbrev pub first_number : ℕ → ℕ → List ImageEntry → Option ℕ
first_number place number [] = None
first_number place number (e ∷ es) = if e.place == place then Some number else first_number place (number + 1) es

-- for each place of the code the number of its entry
pub record AreNumbers (numbers : List (Option ℕ)) (m : ImageMethod) : Type 0 where
  pub long : length numbers ≡ length m.code
  pub is : (place : ℕ) → place < length numbers → slice_index_or numbers place None ≡ first_number place 0 m.entries

abbrev pub found : List ImageEntry → ℕ → Option ImageEntry
found entries place = find (λ e. e.place == place) entries

-- the kinds at a place, if any stand there
abbrev pub carried : Bool → List ImageKind → List ImageKind → Option Shape
carried stands locals stack = if stands then Some (shape locals stack) else None

abbrev pub kinds_of : Kinds → Option Shape
kinds_of k = carried k.stands k.locals.items k.stack.items

-- what an instruction leaves at a place where these kinds arrive
abbrev pub left_at : Image → ImageMethod → ℕ → Option Shape → Op → Option Shape
left_at image m place arrived i = carried_on image (shape_at (entry_at m place) arrived) i

-- the cells that an instruction takes are there, where it goes on
abbrev pub HasRoom : Image → Kinds → Op → Type 0
HasRoom image k i = (s : Shape) → kinds_of k ≡ Some s → length (needs image s i) ≤ length s.stack

-- ---- kinds that changed

-- whether a kind goes to another one, if both are there
abbrev pub goes_where : Image → Option ImageKind → Option ImageKind → Bool
goes_where image (Some k) (Some l) = goes_to image k l
goes_where image k l = true

-- whether a local or a cell, of which the lowest stands first, goes to an entry's
abbrev pub goes_at : Image → List ImageKind → List ImageKind → ImageEntry → Cell → Bool
goes_at image locals stack e (cell.Local i) = goes_where image (slice_get locals i) (slice_get e.locals i)
goes_at image locals stack e (cell.Stack i) = goes_where image (slice_get stack i) (slice_get e.stack i)

abbrev pub is_same_cell : Cell → Cell → Bool
is_same_cell (cell.Local i) (cell.Local j) = j == i
is_same_cell (cell.Stack i) (cell.Stack j) = j == i
is_same_cell a b = false

-- all but these do
abbrev pub GoBut : Image → List Cell → List ImageKind → List ImageKind → ImageEntry → Type 0
GoBut image cells locals stack e =
    (c : Cell) → list_any (is_same_cell c) cells ≡ false → goes_at image locals stack e c ≡ true

-- so many changes there were when the kinds were known to go to those of the entry of a number
abbrev pub seen_at : Changes → ℕ → ℕ
seen_at changes n = slice_index_or changes.seen.items n 0

-- nothing is known
pub record AreNew (changes : Changes) : Type 0 where
  pub begun : 1 ≤ changes.begun
  pub some : 1 ≤ length changes.cells.items
  pub seen : (n : ℕ) → seen_at changes n ≡ 0

-- what is known of entries is so: kinds that did not change since go to those of the entry
pub record AreWatched (image : Image) (m : ImageMethod) (locals stack : List ImageKind) (changes : Changes) : Type 0
  where
    pub seen : (n : ℕ) → seen_at changes n ≤ length changes.cells.items
    pub known : (n : ℕ) (e : ImageEntry) → slice_get m.entries n ≡ Some e → changes.begun ≤ seen_at changes n
        → GoBut image (drop (seen_at changes n) changes.cells.items) locals stack e

abbrev pub IsWatched : Image → ImageMethod → Kinds → Type 0
IsWatched image m k = AreWatched image m k.locals.items k.stack.items k.changes

-- what an instruction changes that leaves so many cells: a local that is stored, and at most the top
abbrev pub changed_by : Op → ℕ → List Cell
changed_by i count = map cell.Local (stored i) ++ cell.Stack (count - 1) ∷ []

-- kinds go to the entry that an instruction jumps to, if it does
abbrev pub arrives_by : Image → ImageMethod → Shape → Op → Bool
arrives_by image m s i = option_map_or (λ to. arrives image s (entry_at m to)) (jumps_to i) true

-- no jump of an instruction breaks the rule on entries
abbrev pub Arrives : Image → ImageMethod → Kinds → Op → Type 0
Arrives image m k i = (s : Shape) → kinds_of k ≡ Some s → arrives_wrong image m s i ≡ false

-- ---- entries that are no starts

-- the first ones stand at a place or before it
abbrev pub Passed : List ImageEntry → ℕ → ℕ → Type 0
Passed entries passed place = (from to : ℕ) → place ≤ from
    → find (is_between from to) entries ≡ find (is_between from to) (drop passed entries)

-- the next one stands behind it
abbrev pub IsBehind : List ImageEntry → ℕ → ℕ → Type 0
IsBehind entries passed place = (e : ImageEntry) → slice_get entries passed ≡ Some e → place < e.place

-- ---- the walk

abbrev pub fault_of : Broken → Fault
fault_of b = (b.at, b.rule)

abbrev pub whole_walk : Image → ImageMethod → Option Fault
whole_walk image m = fault_from (suc (length m.code)) image m 0 (Some (first_shape m))

-- where no instruction stands
abbrev pub last_fault : ImageMethod → ℕ → Option Fault
last_fault m place =
    if nat_lt place (length m.code) then Some (place, 2) else stray_or (entry_from m.entries place) None

-- ---- the whole image

abbrev pub broken_of : Option Found → Option AnyBroken
broken_of None = None
broken_of (Some f) = Some (record { method = f.method; at = f.at; rule = f.rule })

-- what the walk asks of a method: entries that ascend, and places that are u16
pub record IsSound (m : ImageMethod) : Type 0 where
  pub ascend : places_ascend 0 m.entries ≡ true
  pub short : length m.code ≤ 65535

-- and of all methods
pub record AreSound (image : Image) : Type 0 where
  pub few : length image.methods ≤ 65535
  pub each : (k : ℕ) (d : ImageMethod) → k < length image.methods → IsSound (slice_index_or image.methods k d)
