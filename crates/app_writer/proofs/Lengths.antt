-- How many bytes a text has.
use Rattle.std.proofs.Common.{◌≡◌, ℕ, ◌+◌, ◌*◌, ◌≤◌, List, [], ◌∷◌, ◌++◌, length, refl, ap, arith, append_assoc, length-append}
use Rattle.std.specs.FinMap as finite
use Rattle.sed_engine.specs.Code.{Meaning}
use Rattle.sed_wire.specs.declared.writer.Writer.{Writer}
use Rattle.sed_wire.specs.Writing.{Appends, room}
use Rattle.comp_tree.specs.Application.{Application, ById, Link}
use Rattle.comp_tree.specs.Parts.{link_bytes, no_id, text, u1, u2}
use Rattle.app_file.specs.Text.{app_text, front_text, greatest_of, version}
use Rattle.sed_wire.proofs.WritingLemmas.{room-after}
use Rattle.app_writer.specs.Written.{components_text, links_text, rows_text, tree_text}

-- what is put takes its room
pub room-left : (a b : Writer) (bytes : List ℕ) → Appends a b bytes → length bytes ≤ room a → length bytes + room b ≡ room a
room-left a b bytes put fits = let after = room-after a b bytes put in omega (arith, after, fits)

pub links-length : (links : List Link) → length (links_text links) ≡ 6 * length links
links-length [] = refl
links-length (l ∷ ls) =
    let six : length (link_bytes l) ≡ 6 = refl in
    let whole = length-append (link_bytes l) (links_text ls) in
    let rest = links-length ls in
    omega (arith, six, whole, rest)

pub components-length : (m : Meaning) (all : ById) → length (components_text m all) ≡ length (rows_text m all) + 4
components-length m all =
    let a = length-append (u2 (greatest_of (finite.keys all))) (rows_text m all) in
    let b = length-append (u2 (greatest_of (finite.keys all)) ++ rows_text m all) (u2 no_id) in
    let two : length (u2 (greatest_of (finite.keys all))) ≡ 2 = refl in
    let none : length (u2 no_id) ≡ 2 = refl in
    omega (arith, a, b, two, none)

pub tree-length : (m : Meaning) (all : ById) → length (tree_text m all) ≡ length (front_text version m.schema.kits) + length (rows_text m all) + 4
tree-length m all =
    let a = length-append (front_text version m.schema.kits) (components_text m all) in
    let b = components-length m all in
    omega (arith, a, b)

regroup : (front body links none dot : List ℕ) → front ++ body ++ links ++ none ++ dot ≡ front ++ (body ++ links ++ none ++ dot)
regroup front body links none dot = simp append_assoc

-- the text of an application, by its parts
pub text-parts : (m : Meaning) (a : Application) → tree_text m a.components.by_id ++ links_text a.links ++ u2 no_id ++ u1 0x2e ≡ app_text m a
text-parts m a = regroup (front_text version m.schema.kits) (components_text m a.components.by_id) (links_text a.links) (u2 no_id) (u1 0x2e)

pub text-length : (m : Meaning) (a : Application) → length (app_text m a) ≡ length (tree_text m a.components.by_id) + 6 * length a.links + 3
text-length m a =
    let tree = tree_text m a.components.by_id in
    let whole = ap length (text-parts m a) in
    let d = length-append (tree ++ links_text a.links ++ u2 no_id) (u1 0x2e) in
    let e = length-append (tree ++ links_text a.links) (u2 no_id) in
    let f = length-append tree (links_text a.links) in
    let none : length (u2 no_id) ≡ 2 = refl in
    let one : length (u1 0x2e) ≡ 1 = refl in
    let links = links-length a.links in
    omega (arith, whole, d, e, f, none, one, links)

pub head-length : (id class name : List ℕ) → length (id ++ class ++ text name) ≡ length id + length class + length name + 1
head-length id class name =
    let a = length-append id class in
    let b = length-append (id ++ class) (text name) in
    let d = length-append name (0 ∷ []) in
    omega (arith, a, b, d)
