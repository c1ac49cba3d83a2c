use Rattle.std.proofs.Common.{◌≡◌, Some, [], true, sym, ap, ◌∙◌}
use Rattle.std.specs.Prelude.{MatchOption}
use Rattle.std.specs.List.{list_all}
use Rattle.sed_value.specs.Names.{is_kit_name}
use Rattle.toml.specs.Data.{as_str}
use Rattle.toml.specs.View.{view, table_view}
use Rattle.kit_manifest.specs.Reading.{texts_of, depends_in}
use Rattle.kit_manifest.proofs.Strings.{kit_name_in, true_from_Some, same_from_Some}
use Rattle.kit_manifest.proofs.Exact.{depends-as_names, IsManifest-from_parts}
use Rattle.kit_manifest.proofs.reading.manifest_in.Goals as goal

pub returns : goal.returns
returns c =
    let text = c.in-Some-Some.name.now in
    let read : kit_name_in text ≡ Some c.in-Some.name = ap kit_name_in (sym c.as_bytes.ensures.value) ∙ (sym c.read.ensures ∙ c.in-Some.is) in
    let name_is : text ≡ c.in-Some.name = same_from_Some (is_kit_name text) text c.in-Some.name read in
    let is_name : as_str (view c.in-Some-Some-Some.name.now) ≡ Some c.in-Some.name = sym c.in-Some-Some.ensures ∙ ap Some name_is in
    let is_version : as_str (view c.in-Some-Some-Some.version.now) ≡ Some c.new.result = sym c.in-Some-Some.ensures' ∙ ap Some (sym (c.new.ensures ∙ c.in_ok-from_str.ensures.ok)) in
    let are_files : texts_of (view c.in-Some-Some-Some.files.now) ≡ Some c.new-3.result = c.in_ok-files.ensures ∙ ap Some (sym c.new-3.ensures) in
    let names_are : c.new-2.result ≡ c.in_ok-depends.depends.items =
    c.new-2.ensures ∙ (c.in_ok-depends-2.ensures.0 ∙ c.deref.ensures.value) in
    let are_depends : MatchOption (depends_in (table_view c.args.table.now)) (c.new-2.result ≡ []) (λ d. texts_of d ≡ Some c.new-2.result) =
    depends-as_names (depends_in (table_view c.args.table.now)) c.in_ok-depends.depends.items c.new-2.result names_are c.in_ok-depends.ensures in
    let named : is_kit_name c.in-Some.name ≡ true = ap is_kit_name (sym name_is) ∙ true_from_Some (is_kit_name text) text c.in-Some.name read in
    let all_named : list_all is_kit_name c.new-2.result ≡ true =
    ap (list_all is_kit_name) (names_are ∙ sym c.deref.ensures.value) ∙ c.in_ok-depends-2.ensures.1 in
    IsManifest-from_parts (table_view c.args.table.now) (view c.in-Some-Some-Some.name.now) (view c.in-Some-Some-Some.version.now) (view c.in-Some-Some-Some.files.now)
    c.in-Some.name c.new.result c.new-2.result c.new-3.result
    c.in-Some-Some-Some.ensures is_name c.in-Some-Some-Some.ensures' is_version c.in-Some-Some-Some.ensures'' are_files are_depends named all_named
