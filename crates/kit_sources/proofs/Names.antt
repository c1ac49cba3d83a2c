-- The kits that are read: how many, and their names.
use Rattle.std.proofs.Common.{◌≡◌, ◌+◌, ◌<◌, ◌≤◌, ℕ, zero, suc, Bool, true, false, List, [], ◌∷◌, length, map, get_or, Result, Ok, Err, refl, sym, ap, subst, ◌∙◌, arith, inl, inr}
use Rattle.std.specs.Prelude.{◌≢◌, All, AllPairs, Contains, IsTrue, codes, count_by, sum_by, if◌then◌else◌}
use Rattle.std.specs.List.{list_all}
use Rattle.std.specs.Str.{bytes_eq}
use Rattle.std.proofs.lemmas.List.{get_or-map, length-map}
use Rattle.std.proofs.lemmas.List.Concat.{length-flat_map}
use Rattle.std.proofs.lemmas.List.Sums.{sum_by-cons}
use Rattle.std.proofs.lemmas.List.Elements.{Contains-get_or}
use Rattle.sed_value.specs.Names.{is_kit_name}
use Rattle.sed_outside.specs.Steps.{Read, stops, goes_on, Each}
use Rattle.kit_manifest.specs.Order.{name_of, DependsOn, IsOrderOf, IsPermutationOf}
use Rattle.kit_manifest.specs.declared.manifest.Manifest.{Manifest}
use Rattle.kit_manifest.proofs.Orders.{IsOrder-permutation}
use Rattle.sed_classes.specs.Schema.{kit_names}
use Rattle.sed_classes.specs.declared.kit_units.KitUnits.{KitUnits}
use Rattle.kit_sources.specs.declared.refusal.SourcesRefusal.{SourcesRefusal}
use Rattle.kit_sources.specs.declared.sources.Sources.{Sources}
use Rattle.kit_sources.specs.Sources.{ManifestRead, SourceRead, KitRead, KitsRead, kit_of, manifest_at, files_in}
use Rattle.kit_sources.proofs.Places.{permutation_length}
use Rattle.kit_sources.proofs.Whole.{each_length}
use Rattle.sed_value.proofs.Lists.{same_bytes as eq_of}

apart : {E X : Type 0} (x : X) (e : E) → ◌≡◌ {A = Result X E} (Ok x) (Err e) → ⊥
apart x e same = cc

same_value : {E X : Type 0} (x y : X) → ◌≡◌ {A = Result X E} (Ok x) (Ok y) → x ≡ y
same_value x y same = cc

-- ---- a row of steps

-- what each value shows of its item
each_map : {E X Y Z : Type 0} (one : X → List Read → Result Y E → Type 0) (f : Y → Z) (h : X → Z)
    → ((x : X) (reads : List Read) (y : Y) → one x reads (Ok y) → f y ≡ h x) → (xs : List X) (reads : List Read) (ys : List Y) → Each one xs reads (Ok ys) → map f ys ≡ map h xs
each_map {E} {X} {Y} one f h shows [] reads ys done = ap (map f) (same_value {E = E} ys [] done.holds)
each_map one f h shows (x ∷ xs) reads ys (stops refusal is same) = absurd (apart ys refusal same)
each_map one f h shows (x ∷ xs) reads ys (goes_on front back y parts is (stops refusal k same)) = absurd (apart ys refusal same)
each_map {E} {X} {Y} {Z} one f h shows (x ∷ xs) reads ys (goes_on front back y parts is (goes_on g d zs more k end)) =
    let whole : ys ≡ y ∷ zs = same_value {E = E} ys (y ∷ zs) end.holds in
    ap (map f) whole ∙ ap (λ (z : Z). z ∷ map f zs) (shows x front y is) ∙ ap (λ (all : List Z). h x ∷ all) (each_map one f h shows xs g zs k)

holds_first : {Y : Type 0} (P : Y → Type 0) (y : Y) (zs : List Y) → P y → ((k : ℕ) (d : Y) → k < length zs → P (get_or zs k d))
    → (k : ℕ) (d : Y) → k < length (y ∷ zs) → P (get_or (y ∷ zs) k d)
holds_first P y zs first later zero d within = first
holds_first P y zs first later (suc k) d within = later k d (omega (arith, within))

-- what holds of each value
each_holds : {E X Y : Type 0} (one : X → List Read → Result Y E → Type 0) (P : Y → Type 0)
    → ((x : X) (reads : List Read) (y : Y) → one x reads (Ok y) → P y) → (xs : List X) (reads : List Read) (ys : List Y) → Each one xs reads (Ok ys)
    → (k : ℕ) (d : Y) → k < length ys → P (get_or ys k d)
each_holds {E} {X} {Y} one P shows [] reads ys done k d within =
    let none : ys ≡ [] = same_value {E = E} ys [] done.holds in absurd (omega (arith, within, ap length none))
each_holds one P shows (x ∷ xs) reads ys (stops refusal is same) k d within = absurd (apart ys refusal same)
each_holds one P shows (x ∷ xs) reads ys (goes_on front back y parts is (stops refusal h same)) k d within = absurd (apart ys refusal same)
each_holds {E} {X} {Y} one P shows (x ∷ xs) reads ys (goes_on front back y parts is (goes_on g c zs more h end)) k d within =
    let whole : ys ≡ y ∷ zs = same_value {E = E} ys (y ∷ zs) end.holds in
    subst (λ (all : List Y). P (get_or all k d)) (sym whole)
    (holds_first P y zs (shows x front y is) (λ i e inside. each_holds one P shows xs g zs h i e inside) k d (subst (λ (all : List Y). k < length all) whole within))

sum_as_map : {X : Type 0} (f : X → ℕ) (xs : List X) → sum_by f xs ≡ sum_by (λ n. n) (map f xs)
sum_as_map f [] = refl
sum_as_map f (x ∷ xs) = sum_by-cons f x xs ∙ ap (λ n. f x + n) (sum_as_map f xs) ∙ sym (sum_by-cons (λ n. n) (f x) (map f xs))

-- ---- a kit

kit_is : (manifest : Manifest) (reads : List Read) (kit : KitUnits) → KitRead manifest reads (Ok kit)
    → (kit.kit ≡ manifest.name) × (length kit.units ≡ length manifest.files)
kit_is manifest reads kit (stops refusal is same) = absurd (apart kit refusal same)
kit_is manifest reads kit (goes_on front back units parts is end) =
    let whole : kit ≡ kit_of manifest units = same_value {E = SourcesRefusal} kit (kit_of manifest units) end.holds in
    (ap (λ (k : KitUnits). k.kit) whole, ap (λ (k : KitUnits). length k.units) whole ∙ each_length SourceRead manifest.files front units is)

first_passes : (p : List ℕ → Bool) (x : List ℕ) (xs : List (List ℕ)) → IsTrue (list_all p (x ∷ xs)) → IsTrue (p x)
first_passes p x xs all = grind arith

manifest_named : (name : List ℕ) (reads : List Read) (manifest : Manifest) → ManifestRead name reads (Ok manifest) → IsTrue (is_kit_name manifest.name)
manifest_named name reads manifest (stops refusal is same) = absurd (apart manifest refusal same)
manifest_named name reads manifest (goes_on front back text parts is says) =
    let (table, document, holds) = says.holds in first_passes is_kit_name manifest.name manifest.depends holds.kits

-- ---- what was read, part by part

pub record AreRead (names : List (List ℕ)) (sources : Sources) : Type 0 where
  pub manifests : List Manifest
  pub order : List ℕ
  pub many : length manifests ≡ length names
  pub ordered : IsOrderOf manifests order
  pub form : (k : ℕ) (d : Manifest) → k < length manifests → IsTrue (is_kit_name (get_or manifests k d).name)
  pub named : map (λ (k : KitUnits). k.kit) sources.kits ≡ map (λ place. (manifest_at manifests place).name) order
  pub sized : map (λ (k : KitUnits). length k.units) sources.kits ≡ map (λ place. length (manifest_at manifests place).files) order
  pub each : length sources.kits ≡ length order
  pub files : sources.files ≡ files_in manifests order

pub are_read : (names : List (List ℕ)) (reads : List Read) (sources : Sources) → KitsRead names reads (Ok sources) → AreRead names sources
are_read names reads sources (stops refusal is same) = absurd (apart sources refusal same)
are_read names reads sources (goes_on front back manifests parts is (stops refusal h same)) = absurd (apart sources refusal same)
are_read names reads sources (goes_on front back manifests parts is (goes_on g d order more h (stops refusal k same))) = absurd (apart sources refusal same)
are_read names reads sources (goes_on front back manifests parts is (goes_on g d order more h (goes_on e c kits others k end))) =
    let whole : sources ≡ (record { kits = kits; files = files_in manifests order }) = same_value {E = SourcesRefusal} sources _ end.holds in
    let own : sources.kits ≡ kits = ap (λ (s : Sources). s.kits) whole in
    record {
      manifests = manifests;
      order = order;
      many = each_length ManifestRead names front manifests is;
      ordered = h.holds;
      form = each_holds ManifestRead (λ (m : Manifest). IsTrue (is_kit_name m.name)) manifest_named names front manifests is;
      named =
          ap (map (λ (x : KitUnits). x.kit)) own
          ∙ each_map (λ place. KitRead (manifest_at manifests place)) (λ (x : KitUnits). x.kit) (λ place. (manifest_at manifests place).name)
          (λ place rs x r. (kit_is (manifest_at manifests place) rs x r).0) order e kits k;
      sized =
          ap (map (λ (x : KitUnits). length x.units)) own
          ∙ each_map (λ place. KitRead (manifest_at manifests place)) (λ (x : KitUnits). length x.units) (λ place. length (manifest_at manifests place).files)
          (λ place rs x r. (kit_is (manifest_at manifests place) rs x r).1) order e kits k;
      each = ap length own ∙ each_length (λ place. KitRead (manifest_at manifests place)) order e kits k;
      files = ap (λ (s : Sources). s.files) whole;
    }

permutation : {names : List (List ℕ)} {sources : Sources} (r : AreRead names sources) → IsPermutationOf (length r.manifests) r.order
permutation r = IsOrder-permutation (length r.manifests) (DependsOn r.manifests) r.order r.ordered.order

pub kits_many : (names : List (List ℕ)) (sources : Sources) → AreRead names sources → length sources.kits ≡ length names
kits_many names sources r = r.each ∙ permutation_length (length r.manifests) r.order (permutation r) ∙ r.many

pub files_many : (names : List (List ℕ)) (sources : Sources) → AreRead names sources → length sources.files ≡ sum_by (λ (k : KitUnits). length k.units) sources.kits
files_many names sources r =
    ap length r.files ∙ length-flat_map (λ place. (manifest_at r.manifests place).files) r.order
    ∙ sum_as_map (λ place. length (manifest_at r.manifests place).files) r.order ∙ ap (sum_by (λ n. n)) (sym r.sized)
    ∙ sym (sum_as_map (λ (k : KitUnits). length k.units) sources.kits)

-- ---- names

name_same : (manifests : List Manifest) (i : ℕ) → name_of manifests i ≡ (manifest_at manifests i).name
name_same [] zero = refl
name_same [] (suc i) = refl
name_same (m ∷ ms) zero = refl
name_same (m ∷ ms) (suc i) = name_same ms i

-- names that are all different, each once
weight : Bool → ℕ
weight b = if b then 1 else 0

count_head : (name x : List ℕ) (xs : List (List ℕ)) → count_by (λ n. bytes_eq n name) (x ∷ xs) ≡ weight (bytes_eq x name) + count_by (λ n. bytes_eq n name) xs
unfolding weight
count_head name x xs = sum_by-cons (λ n. if bytes_eq n name then 1 else 0) x xs

count_none : (name : List ℕ) (xs : List (List ℕ)) → ((k : ℕ) → k < length xs → get_or xs k [] ≢ name) → count_by (λ n. bytes_eq n name) xs ≡ 0
unfolding weight
count_none name [] none = refl
count_none name (x ∷ xs) none = by_test (bytes_eq x name) refl (count_none name xs (λ k within. none (suc k) (omega (arith, within)))) where
  by_test : (b : Bool) → bytes_eq x name ≡ b → count_by (λ n. bytes_eq n name) xs ≡ 0 → count_by (λ n. bytes_eq n name) (x ∷ xs) ≡ 0
  by_test true is rest = absurd (none 0 (omega arith) (eq_of x name is))
  by_test false is rest = omega (arith, count_head name x xs, ap weight is, rest)

count_once : (name : List ℕ) (xs : List (List ℕ)) → AllPairs (λ a b. a ≢ b) xs → count_by (λ n. bytes_eq n name) xs ≤ 1
unfolding weight
count_once name [] once = omega arith
count_once name (x ∷ xs) once =
    by_test (bytes_eq x name) refl (count_once name xs (λ i j d before inside. once (suc i) (suc j) d (omega (arith, before)) (omega (arith, inside))))
  where
    by_test : (b : Bool) → bytes_eq x name ≡ b → count_by (λ n. bytes_eq n name) xs ≤ 1 → count_by (λ n. bytes_eq n name) (x ∷ xs) ≤ 1
    by_test true is few =
        let none : count_by (λ n. bytes_eq n name) xs ≡ 0 =
        count_none name xs (λ k within same. once 0 (suc k) [] (omega arith) (omega (arith, within)) (eq_of x name is ∙ sym same)) in
        omega (arith, count_head name x xs, ap weight is, none)
    by_test false is few = omega (arith, count_head name x xs, ap weight is, few)

-- the names of kits in their order
record AreApart (manifests : List Manifest) (order : List ℕ) : Type 0 where
  no_sys : (i : ℕ) → Contains order i → (manifest_at manifests i).name ≢ codes "sys"
  different : (i j : ℕ) → Contains order i → Contains order j → i ≢ j → (manifest_at manifests i).name ≢ (manifest_at manifests j).name

are_apart : {names : List (List ℕ)} {sources : Sources} (r : AreRead names sources) → AreApart r.manifests r.order
are_apart r = record {
  no_sys = λ i there same. r.ordered.orderly.different i ((permutation r).within i there) (inl (name_same r.manifests i ∙ same));
  different = λ i j there also other same.
      r.ordered.orderly.different j ((permutation r).within j also)
      (inr (i, (permutation r).within i there, other, name_same r.manifests i ∙ same ∙ sym (name_same r.manifests j)));
}

name_in : (manifests : List Manifest) (order : List ℕ) (k : ℕ) (d : List ℕ) → k < length order
    → get_or (map (λ place. (manifest_at manifests place).name) order) k d ≡ (manifest_at manifests (get_or order k 0)).name
name_in manifests order k d within = get_or-map (λ place. (manifest_at manifests place).name) order k 0 d within

names_once : (manifests : List Manifest) (order : List ℕ) → AllPairs (λ i j. i ≢ j) order → AreApart manifests order
    → AllPairs (λ a b. a ≢ b) (codes "sys" ∷ map (λ place. (manifest_at manifests place).name) order)
names_once manifests order once apart i zero d before inside same = absurd (omega (arith, before))
names_once manifests order once apart zero (suc j) d before inside same =
    let within : j < length order = omega (arith, inside, length-map order (λ place. (manifest_at manifests place).name)) in
    apart.no_sys (get_or order j 0) (Contains-get_or order j 0 within) (sym (name_in manifests order j d within) ∙ sym same)
names_once manifests order once apart (suc i) (suc j) d before inside same =
    let within : j < length order = omega (arith, inside, length-map order (λ place. (manifest_at manifests place).name)) in
    let first : i < length order = omega (arith, before, within) in
    apart.different (get_or order i 0) (get_or order j 0) (Contains-get_or order i 0 first) (Contains-get_or order j 0 within)
    (once i j 0 (omega (arith, before)) within) (sym (name_in manifests order i d first) ∙ same ∙ name_in manifests order j d within)

names_are : {names : List (List ℕ)} {sources : Sources} (r : AreRead names sources)
    → kit_names sources.kits ≡ codes "sys" ∷ map (λ place. (manifest_at r.manifests place).name) r.order
names_are r = ap (λ (ns : List (List ℕ)). codes "sys" ∷ ns) r.named

pub kits_once : (names : List (List ℕ)) (sources : Sources) → AreRead names sources → (name : List ℕ) → count_by (λ n. bytes_eq n name) (kit_names sources.kits) ≤ 1
kits_once names sources r name =
    subst (λ (ns : List (List ℕ)). count_by (λ n. bytes_eq n name) ns ≤ 1) (sym (names_are r))
    (count_once name (codes "sys" ∷ map (λ place. (manifest_at r.manifests place).name) r.order) (names_once r.manifests r.order (permutation r).once (are_apart r)))

pub kits_formed : (names : List (List ℕ)) (sources : Sources) → AreRead names sources → All (λ name. IsTrue (is_kit_name name)) (kit_names sources.kits)
kits_formed names sources r =
    subst (λ (ns : List (List ℕ)). All (λ name. IsTrue (is_kit_name name)) ns) (sym (names_are r)) formed
  where
    formed : All (λ name. IsTrue (is_kit_name name)) (codes "sys" ∷ map (λ place. (manifest_at r.manifests place).name) r.order)
    formed zero d within = refl
    formed (suc k) d within =
        let inside : k < length r.order = omega (arith, within, length-map r.order (λ place. (manifest_at r.manifests place).name)) in
        let below : get_or r.order k 0 < length r.manifests = (permutation r).within (get_or r.order k 0) (Contains-get_or r.order k 0 inside) in
        subst (λ (n : List ℕ). IsTrue (is_kit_name n)) (sym (name_in r.manifests r.order k d inside)) (r.form (get_or r.order k 0) _ below)
