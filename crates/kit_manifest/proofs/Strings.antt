-- Loops over the strings of an array and over the names of kits.
use Rattle.std.proofs.Common.{◌≡◌, ℕ, ◌+◌, ◌<◌, Bool, true, false, List, [], ◌∷◌, ◌++◌, length, get_or, take, drop, Option, Some, None, option_map, refl, sym, ap, ◌∙◌, append_assoc}
use Rattle.std.specs.Prelude.{if◌then◌else◌}
use Rattle.std.specs.List.{list_all}
use Rattle.std.proofs.lemmas.List.{take_more}
use Rattle.std.proofs.lemmas.List.Folds.{list_all-append}
use Rattle.sed_value.specs.Names.{is_kit_name}
use Rattle.toml.proofs.Views.{items_view-drop}
use Rattle.toml.specs.Data.{Data, string, integer, float, boolean, datetime, array, table, Items, item, as_str, as_array}
use Rattle.toml.specs.View.{view, items_view}
use Rattle.toml.specs.declared.value.Value.{Value}
use Rattle.kit_manifest.specs.Reading.{texts_of_items, texts_of}

-- one element more
pub take_one_more : {X : Type 0} (xs : List X) (i : ℕ) (x : X) → i < length xs → x ≡ get_or xs i x → take (i + 1) xs ≡ take i xs ++ x ∷ []
take_one_more xs i x within is = take_more xs i x within ∙ ap (λ y. take i xs ++ y ∷ []) (sym is)

pub list_all-take_more : {X : Type 0} (p : X → Bool) (xs : List X) (i : ℕ) (x : X) → i < length xs → x ≡ get_or xs i x
    → list_all p (take i xs) ≡ true → p x ≡ true → list_all p (take (i + 1) xs) ≡ true
list_all-take_more p xs i x within is done here =
    ap (list_all p) (take_one_more xs i x within is) ∙ list_all-append p (take i xs) (x ∷ []) ∙ rw (done, here)

-- a test that chose between a value and none
pub false_from_None : {X : Type 0} (b : Bool) (x : X) → (if b then Some x else None) ≡ None → b ≡ false
false_from_None true x is = cc
false_from_None false x is = refl

pub true_from_Some : {X : Type 0} (b : Bool) (x y : X) → (if b then Some x else None) ≡ Some y → b ≡ true
true_from_Some true x y is = refl
true_from_Some false x y is = cc

pub same_from_Some : {X : Type 0} (b : Bool) (x y : X) → (if b then Some x else None) ≡ Some y → x ≡ y
same_from_Some true x y is = cc
same_from_Some false x y is = cc

-- the name of a kit with these bytes
abbrev pub kit_name_in : List ℕ → Option (List ℕ)
kit_name_in bytes = if is_kit_name bytes then Some bytes else None

-- an item that is a string, and one that isn't
pub texts_of_items-string : (d : Data) (text : List ℕ) (rest : Items) → as_str d ≡ Some text → texts_of_items (item d rest) ≡ option_map (λ texts. text ∷ texts) (texts_of_items rest)
texts_of_items-string (string s) text rest is = let same : s ≡ text = cc in ap (λ t. option_map (λ texts. t ∷ texts) (texts_of_items rest)) same
texts_of_items-string (integer z) text rest is = cc
texts_of_items-string (float x) text rest is = cc
texts_of_items-string (boolean b) text rest is = cc
texts_of_items-string (datetime dt) text rest is = cc
texts_of_items-string (array ds) text rest is = cc
texts_of_items-string (table ms) text rest is = cc

pub texts_of_items-other : (d : Data) (rest : Items) → as_str d ≡ None → texts_of_items (item d rest) ≡ None
texts_of_items-other (string s) rest is = cc
texts_of_items-other (integer z) rest is = refl
texts_of_items-other (float x) rest is = refl
texts_of_items-other (boolean b) rest is = refl
texts_of_items-other (datetime dt) rest is = refl
texts_of_items-other (array ds) rest is = refl
texts_of_items-other (table ms) rest is = refl

-- an array, and a value that is none
pub texts_of-array : (d : Data) (items : Items) → as_array d ≡ Some items → texts_of d ≡ texts_of_items items
texts_of-array (string s) items is = cc
texts_of-array (integer z) items is = cc
texts_of-array (float x) items is = cc
texts_of-array (boolean b) items is = cc
texts_of-array (datetime dt) items is = cc
texts_of-array (array ds) items is = let same : ds ≡ items = cc in ap texts_of_items same
texts_of-array (table ms) items is = cc

pub texts_of-other : (d : Data) → as_array d ≡ None → texts_of d ≡ None
texts_of-other (string s) is = refl
texts_of-other (integer z) is = refl
texts_of-other (float x) is = refl
texts_of-other (boolean b) is = refl
texts_of-other (datetime dt) is = refl
texts_of-other (array ds) is = cc
texts_of-other (table ms) is = refl

-- the texts of all values are those done with those of the rest behind them
abbrev pub IsDone : List Value → List (List ℕ) → ℕ → Type 0
IsDone values done i = texts_of_items (items_view values) ≡ option_map (λ rest. done ++ rest) (texts_of_items (items_view (drop i values)))

moved : (done : List (List ℕ)) (text : List ℕ) (rest : Option (List (List ℕ)))
    → option_map (λ texts. done ++ texts) (option_map (λ texts. text ∷ texts) rest) ≡ option_map (λ texts. (done ++ text ∷ []) ++ texts) rest
moved done text None = refl
moved done text (Some texts) = ap Some (sym (append_assoc done (text ∷ []) texts))

rest_at : (values : List Value) (i : ℕ) (value : Value) → i < length values → value ≡ get_or values i value
    → texts_of_items (items_view (drop i values)) ≡ texts_of_items (item (view value) (items_view (drop (i + 1) values)))
rest_at values i value within is =
    ap texts_of_items (items_view-drop values i value within) ∙ ap (λ v. texts_of_items (item (view v) (items_view (drop (i + 1) values)))) (sym is)

pub IsDone-more : (values : List Value) (done : List (List ℕ)) (i : ℕ) (value : Value) (text : List ℕ)
    → i < length values → value ≡ get_or values i value → as_str (view value) ≡ Some text → IsDone values done i → IsDone values (done ++ text ∷ []) (i + 1)
IsDone-more values done i value text within is reads so_far =
    let here = rest_at values i value within is ∙ texts_of_items-string (view value) text (items_view (drop (i + 1) values)) reads in
    so_far ∙ ap (option_map (λ rest. done ++ rest)) here ∙ moved done text (texts_of_items (items_view (drop (i + 1) values)))

pub IsDone-fails : (values : List Value) (done : List (List ℕ)) (i : ℕ) (value : Value)
    → i < length values → value ≡ get_or values i value → as_str (view value) ≡ None → IsDone values done i → texts_of_items (items_view values) ≡ None
IsDone-fails values done i value within is reads so_far =
    so_far ∙ ap (option_map (λ rest. done ++ rest)) (rest_at values i value within is ∙ texts_of_items-other (view value) (items_view (drop (i + 1) values)) reads)
