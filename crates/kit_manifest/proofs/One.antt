-- A text says one thing of a kit, and a list has one order or one refusal.
use Rattle.std.proofs.Common.{◌≡◌, ℕ, List, length, refl, ap, subst}
use Rattle.toml.specs.Data.{Members}
use Rattle.kit_manifest.specs.Reading.{IsDocument, HasDocument, IsManifest, LacksKey, HasWrongType, HasBadName, IsTextRefusal}
use Rattle.kit_manifest.specs.Order.{IsFirst, IsNowhere, HasUnknown, LeadsBack, IsRepeated, IsOrderOf, IsListRefusal}
use Rattle.kit_manifest.specs.declared.fault.ManifestFault.{ManifestFault}
use Rattle.kit_manifest.specs.declared.fault.ManifestFault.TheVariants.{NotToml, MissingKey, WrongType, BadName, UnknownKit, Cycle, RepeatedKit, Memory}
use Rattle.kit_manifest.specs.declared.manifest.Manifest.{Manifest}
use Rattle.kit_manifest.proofs.Exact.{only_table, only_manifest, complete, typed, well_named}
use Rattle.kit_manifest.proofs.Refusals.{IsFirst-only}

-- two facts of documents of one text hold of one table
both_of_one : (text : List ℕ) (P Q : Members → Type 0) → HasDocument text P → HasDocument text Q → (t : Members) × P t × Q t
both_of_one text P Q (t, is, p) (u, also, q) = (t, p, subst Q (only_table text u t also is) q)

pub one_manifest : (text : List ℕ) (a b : Manifest) → HasDocument text (λ t. IsManifest t a) → HasDocument text (λ t. IsManifest t b) → a ≡ b
one_manifest text a b first second =
    let (t, is, also) = both_of_one text (λ t. IsManifest t a) (λ t. IsManifest t b) first second in
    only_manifest t a b is also

missing_typed : (t : Members) → LacksKey t → HasWrongType t → ⊥
missing_typed t lacks wrong = let no = wrong.complete in cc

missing_named : (t : Members) → LacksKey t → HasBadName t → ⊥
missing_named t lacks bad = let no = bad.complete in cc

typed_named : (t : Members) → HasWrongType t → HasBadName t → ⊥
typed_named t wrong bad = let yes = wrong.wrong in let no = bad.typed in cc

not_both : (text : List ℕ) (P Q : Members → Type 0) → ((t : Members) → P t → Q t → ⊥) → HasDocument text P → HasDocument text Q → ⊥
not_both text P Q apart first second = let (t, p, q) = both_of_one text P Q first second in apart t p q

no_document : (text : List ℕ) (P : Members → Type 0) → ((t : Members) → IsDocument text t → ⊥) → HasDocument text P → ⊥
no_document text P none (t, is, p) = none t is

pub one_text_refusal : (text : List ℕ) (a b : ManifestFault) → IsTextRefusal text a → IsTextRefusal text b → a ≡ b
one_text_refusal text NotToml NotToml x y = refl
one_text_refusal text NotToml MissingKey x y = absurd (no_document text LacksKey x y)
one_text_refusal text NotToml WrongType x y = absurd (no_document text HasWrongType x y)
one_text_refusal text NotToml BadName x y = absurd (no_document text HasBadName x y)
one_text_refusal text MissingKey NotToml x y = absurd (no_document text LacksKey y x)
one_text_refusal text MissingKey MissingKey x y = refl
one_text_refusal text MissingKey WrongType x y = absurd (not_both text LacksKey HasWrongType missing_typed x y)
one_text_refusal text MissingKey BadName x y = absurd (not_both text LacksKey HasBadName missing_named x y)
one_text_refusal text WrongType NotToml x y = absurd (no_document text HasWrongType y x)
one_text_refusal text WrongType MissingKey x y = absurd (not_both text LacksKey HasWrongType missing_typed y x)
one_text_refusal text WrongType WrongType x y = refl
one_text_refusal text WrongType BadName x y = absurd (not_both text HasWrongType HasBadName typed_named x y)
one_text_refusal text BadName NotToml x y = absurd (no_document text HasBadName y x)
one_text_refusal text BadName MissingKey x y = absurd (not_both text LacksKey HasBadName missing_named y x)
one_text_refusal text BadName WrongType x y = absurd (not_both text HasWrongType HasBadName typed_named y x)
one_text_refusal text BadName BadName x y = refl
one_text_refusal text NotToml (UnknownKit at) x y = absurd y
one_text_refusal text NotToml (Cycle at) x y = absurd y
one_text_refusal text NotToml (RepeatedKit at) x y = absurd y
one_text_refusal text NotToml Memory x y = absurd y
one_text_refusal text MissingKey (UnknownKit at) x y = absurd y
one_text_refusal text MissingKey (Cycle at) x y = absurd y
one_text_refusal text MissingKey (RepeatedKit at) x y = absurd y
one_text_refusal text MissingKey Memory x y = absurd y
one_text_refusal text WrongType (UnknownKit at) x y = absurd y
one_text_refusal text WrongType (Cycle at) x y = absurd y
one_text_refusal text WrongType (RepeatedKit at) x y = absurd y
one_text_refusal text WrongType Memory x y = absurd y
one_text_refusal text BadName (UnknownKit at) x y = absurd y
one_text_refusal text BadName (Cycle at) x y = absurd y
one_text_refusal text BadName (RepeatedKit at) x y = absurd y
one_text_refusal text BadName Memory x y = absurd y
one_text_refusal text (UnknownKit at) b x y = absurd x
one_text_refusal text (Cycle at) b x y = absurd x
one_text_refusal text (RepeatedKit at) b x y = absurd x
one_text_refusal text Memory b x y = absurd x

missing_complete : (a : Manifest) (t : Members) → IsManifest t a → LacksKey t → ⊥
missing_complete a t is lacks = let no = complete t a is in cc

typed_complete : (a : Manifest) (t : Members) → IsManifest t a → HasWrongType t → ⊥
typed_complete a t is wrong = let no = typed t a is in let yes = wrong.wrong in cc

named_complete : (a : Manifest) (t : Members) → IsManifest t a → HasBadName t → ⊥
named_complete a t is bad = let no = well_named t a is in let yes = bad.bad in cc

pub manifest_or_refusal : (text : List ℕ) (a : Manifest) (b : ManifestFault) → HasDocument text (λ t. IsManifest t a) → IsTextRefusal text b → ⊥
manifest_or_refusal text a NotToml is refused = no_document text (λ t. IsManifest t a) refused is
manifest_or_refusal text a MissingKey is refused = not_both text (λ t. IsManifest t a) LacksKey (missing_complete a) is refused
manifest_or_refusal text a WrongType is refused = not_both text (λ t. IsManifest t a) HasWrongType (typed_complete a) is refused
manifest_or_refusal text a BadName is refused = not_both text (λ t. IsManifest t a) HasBadName (named_complete a) is refused
manifest_or_refusal text a (UnknownKit at) is refused = refused
manifest_or_refusal text a (Cycle at) is refused = refused
manifest_or_refusal text a (RepeatedKit at) is refused = refused
manifest_or_refusal text a Memory is refused = refused

-- ---- lists

somewhere : (n : ℕ) (P : ℕ → Type 0) (at : ℕ) → IsNowhere n P → IsFirst n P at → ⊥
somewhere n P at nowhere first = nowhere at first.within first.holds

pub one_list_refusal : (kits : List Manifest) (a b : ManifestFault) → (a ≡ Memory → ⊥) → (b ≡ Memory → ⊥) → IsListRefusal kits a → IsListRefusal kits b → a ≡ b
one_list_refusal kits (UnknownKit a) (UnknownKit b) m n x y = ap UnknownKit (IsFirst-only (length kits) (HasUnknown kits) a b x y)
one_list_refusal kits (UnknownKit a) (Cycle b) m n x y = absurd (somewhere (length kits) (HasUnknown kits) a y.known x)
one_list_refusal kits (UnknownKit a) (RepeatedKit b) m n x y = absurd (somewhere (length kits) (HasUnknown kits) a y.known x)
one_list_refusal kits (Cycle a) (UnknownKit b) m n x y = absurd (somewhere (length kits) (HasUnknown kits) b x.known y)
one_list_refusal kits (Cycle a) (Cycle b) m n x y = ap Cycle (IsFirst-only (length kits) (LeadsBack kits) a b x.first y.first)
one_list_refusal kits (Cycle a) (RepeatedKit b) m n x y = absurd (somewhere (length kits) (LeadsBack kits) a y.no_cycle x.first)
one_list_refusal kits (RepeatedKit a) (UnknownKit b) m n x y = absurd (somewhere (length kits) (HasUnknown kits) b x.known y)
one_list_refusal kits (RepeatedKit a) (Cycle b) m n x y = absurd (somewhere (length kits) (LeadsBack kits) b x.no_cycle y.first)
one_list_refusal kits (RepeatedKit a) (RepeatedKit b) m n x y = ap RepeatedKit (IsFirst-only (length kits) (IsRepeated kits) a b x.first y.first)
one_list_refusal kits Memory b m n x y = absurd (m refl)
one_list_refusal kits NotToml b m n x y = absurd x
one_list_refusal kits MissingKey b m n x y = absurd x
one_list_refusal kits WrongType b m n x y = absurd x
one_list_refusal kits BadName b m n x y = absurd x
one_list_refusal kits (UnknownKit a) Memory m n x y = absurd (n refl)
one_list_refusal kits (UnknownKit a) NotToml m n x y = absurd y
one_list_refusal kits (UnknownKit a) MissingKey m n x y = absurd y
one_list_refusal kits (UnknownKit a) WrongType m n x y = absurd y
one_list_refusal kits (UnknownKit a) BadName m n x y = absurd y
one_list_refusal kits (Cycle a) Memory m n x y = absurd (n refl)
one_list_refusal kits (Cycle a) NotToml m n x y = absurd y
one_list_refusal kits (Cycle a) MissingKey m n x y = absurd y
one_list_refusal kits (Cycle a) WrongType m n x y = absurd y
one_list_refusal kits (Cycle a) BadName m n x y = absurd y
one_list_refusal kits (RepeatedKit a) Memory m n x y = absurd (n refl)
one_list_refusal kits (RepeatedKit a) NotToml m n x y = absurd y
one_list_refusal kits (RepeatedKit a) MissingKey m n x y = absurd y
one_list_refusal kits (RepeatedKit a) WrongType m n x y = absurd y
one_list_refusal kits (RepeatedKit a) BadName m n x y = absurd y

pub order_or_refusal : (kits : List Manifest) (a : List ℕ) (b : ManifestFault) → (b ≡ Memory → ⊥) → IsOrderOf kits a → IsListRefusal kits b → ⊥
order_or_refusal kits a (UnknownKit b) m is refused = somewhere (length kits) (HasUnknown kits) b is.orderly.known refused
order_or_refusal kits a (Cycle b) m is refused = somewhere (length kits) (LeadsBack kits) b is.orderly.no_cycle refused.first
order_or_refusal kits a (RepeatedKit b) m is refused = somewhere (length kits) (IsRepeated kits) b is.orderly.different refused.first
order_or_refusal kits a Memory m is refused = m refl
order_or_refusal kits a NotToml m is refused = refused
order_or_refusal kits a MissingKey m is refused = refused
order_or_refusal kits a WrongType m is refused = refused
order_or_refusal kits a BadName m is refused = refused
