-- Bytes are read as one thing at most.
use Rattle.std.proofs.Common.{◌≡◌, ℕ, ◌<◌, ◌⊎◌, inl, inr, List, refl, sym, subst, ◌∙◌, ap, arith}
use Rattle.std.specs.Prelude.{Option, Some, None, slice_get}
use Rattle.std.specs.FinMap as map
use Rattle.std.proofs.lemmas.Bool.{cases_order}
use Rattle.sed_value.specs.declared.kit.KitRef.{KitRef}
use Rattle.sed_typed.specs.Spelled.{CanBeTold}
use Rattle.sed_engine.specs.Code.{Meaning}
use Rattle.sed_engine.specs.Whole.{HasTables}
use Rattle.comp_tree.specs.Application.{Application}
use Rattle.comp_tree.specs.Limits.{limit_passed}
use Rattle.app_file.specs.Reading.{DifferAt, HasWrongKits, IsFile, IsFront, IsNoFile, IsOverLimit, IsReadAs, Reading, StandsFor, no_file, wrong_kits, over_limit, file}
use Rattle.app_file.specs.Rows.{rows_of}
use Rattle.app_file.specs.Text.{IsTextOf, body_text, greatest_of}
use Rattle.app_file.proofs.FrontsOfFiles.{one_front}
use Rattle.app_file.proofs.OneApplication.{one_application}
use Rattle.comp_tree.proofs.PassingNone.{within}

-- ---- the first place that differs

pub record IsOnePlace (p q : ℕ) (f g k l : Option KitRef) : Type 0 where
  pub place : p ≡ q
  pub in_file : f ≡ g
  pub in_kits : k ≡ l

pub one_place : (ours theirs : List KitRef) (p q : ℕ) (f g k l : Option KitRef) → DifferAt ours theirs p f k → DifferAt ours theirs q g l → IsOnePlace p q f g k l
one_place ours theirs p q f g k l a b = by_order (cases_order p q)
  where
    by_order : (p ≡ q) ⊎ ((p < q) ⊎ (q < p)) → IsOnePlace p q f g k l
    by_order (inl same) = record {
      place = same;
      in_file = sym a.file_has ∙ ap (slice_get ours) same ∙ b.file_has;
      in_kits = sym a.kits_have ∙ ap (slice_get theirs) same ∙ b.kits_have;
    }
    by_order (inr (inl before)) = absurd (a.differ (sym a.file_has ∙ b.before p before ∙ a.kits_have))
    by_order (inr (inr before)) = absurd (b.differ (sym b.file_has ∙ a.before q before ∙ b.kits_have))

pub not_of_itself : (kits : List KitRef) (p : ℕ) (f k : Option KitRef) → DifferAt kits kits p f k → ⊥
not_of_itself kits p f k d = d.differ (sym d.file_has ∙ d.kits_have)

-- ---- the front of a text

-- a text begins with the kits of its code
record HasFront (m : Meaning) (bytes : List ℕ) : Type 0 where
  version : ℕ
  rest : List ℕ
  front : IsFront version m.schema.kits bytes rest

front_of : (m : Meaning) (a : Application) (bytes : List ℕ) → HasTables m → CanBeTold m.schema → IsTextOf m a bytes → HasFront m bytes
front_of m a bytes tables told (inl new) = record {
  version = 4;
  rest = body_text m (greatest_of (map.keys a.components.by_id)) (rows_of m a.components.by_id) a.links;
  front = record { known = inl refl; few = let few = tables.limits.kits in omega (arith, few); names = told.names; checksums = told.checksums; front = new };
}
front_of m a bytes tables told (inr old) = record {
  version = 3;
  rest = body_text m (greatest_of (map.keys a.components.by_id)) (rows_of m a.components.by_id) a.links;
  front = record { known = inr refl; few = let few = tables.limits.kits in omega (arith, few); names = told.names; checksums = told.checksums; front = old.text };
}

-- ---- what excludes what

module _ (m : Meaning) (limit : ℕ) (bytes : List ℕ) (tables : HasTables m) (told : CanBeTold m.schema) where
  stands : (a : Application) → IsFile m limit bytes a → StandsFor m limit bytes a
  stands a is = record { formed = is.whole.formed; kept = is.kept; under = is.under; text = is.text }

  no_file_or_kits : (p : ℕ) (f k : Option KitRef) → IsNoFile m limit bytes → HasWrongKits m bytes p f k → ⊥
  no_file_or_kits p f k (inl none) w = none w.version w.kits w.rest w.front
  no_file_or_kits p f k (inr body) w =
      let same : w.kits ≡ m.schema.kits = (one_front w.version body.version w.kits m.schema.kits bytes w.rest body.rest w.front body.front).1 in
      not_of_itself m.schema.kits p f k (subst (λ kits. DifferAt kits m.schema.kits p f k) same w.first)

  no_file_or_application : (a : Application) → IsNoFile m limit bytes → StandsFor m limit bytes a → ⊥
  no_file_or_application a (inl none) is =
      let front = front_of m a bytes tables told is.text in
      none front.version m.schema.kits front.rest front.front
  no_file_or_application a (inr body) is = body.none a is

  kits_or_application : (p : ℕ) (f k : Option KitRef) (a : Application) → HasWrongKits m bytes p f k → StandsFor m limit bytes a → ⊥
  kits_or_application p f k a w is =
      let front = front_of m a bytes tables told is.text in
      let same : w.kits ≡ m.schema.kits = (one_front w.version front.version w.kits m.schema.kits bytes w.rest front.rest w.front front.front).1 in
      not_of_itself m.schema.kits p f k (subst (λ kits. DifferAt kits m.schema.kits p f k) same w.first)

  one_kits : (p q : ℕ) (f g k l : Option KitRef) → HasWrongKits m bytes p f k → HasWrongKits m bytes q g l → wrong_kits p f k ≡ wrong_kits q g l
  one_kits p q f g k l v w =
      let same : v.kits ≡ w.kits = (one_front v.version w.version v.kits w.kits bytes v.rest w.rest v.front w.front).1 in
      let one = one_place w.kits m.schema.kits p q f g k l (subst (λ kits. DifferAt kits m.schema.kits p f k) same v.first) w.first in
      λ i. wrong_kits (one.place i) (one.in_file i) (one.in_kits i)

  limit_or_file : (which : ℕ) (a : Application) → IsOverLimit m limit bytes which → IsFile m limit bytes a → ⊥
  limit_or_file which a over is =
      let same = one_application m limit bytes over.application a tables told.numbers over.stands (stands a is) in
      let no : ◌≡◌ {A = Option ℕ} (Some which) None = sym over.first ∙ ap (limit_passed m) same ∙ within m a is.whole in
      absurd (cc)

  one_limit : (which other : ℕ) → IsOverLimit m limit bytes which → IsOverLimit m limit bytes other → which ≡ other
  one_limit which other v w =
      let same = one_application m limit bytes v.application w.application tables told.numbers v.stands w.stands in
      let both : ◌≡◌ {A = Option ℕ} (Some which) (Some other) = sym v.first ∙ ap (limit_passed m) same ∙ w.first in
      cc

  read_as_one : (one other : Reading) → IsReadAs m limit bytes one → IsReadAs m limit bytes other → one ≡ other
  read_as_one no_file no_file v w = refl
  read_as_one no_file (wrong_kits p f k) v w = absurd (no_file_or_kits p f k v w)
  read_as_one no_file (over_limit which) v w = absurd (no_file_or_application w.application v w.stands)
  read_as_one no_file (file a) v w = absurd (no_file_or_application a v (stands a w))
  read_as_one (wrong_kits p f k) no_file v w = absurd (no_file_or_kits p f k w v)
  read_as_one (wrong_kits p f k) (wrong_kits q g l) v w = one_kits p q f g k l v w
  read_as_one (wrong_kits p f k) (over_limit which) v w = absurd (kits_or_application p f k w.application v w.stands)
  read_as_one (wrong_kits p f k) (file a) v w = absurd (kits_or_application p f k a v (stands a w))
  read_as_one (over_limit which) no_file v w = absurd (no_file_or_application v.application w v.stands)
  read_as_one (over_limit which) (wrong_kits p f k) v w = absurd (kits_or_application p f k v.application w v.stands)
  read_as_one (over_limit which) (over_limit other) v w = ap over_limit (one_limit which other v w)
  read_as_one (over_limit which) (file a) v w = absurd (limit_or_file which a v w)
  read_as_one (file a) no_file v w = absurd (no_file_or_application a w (stands a v))
  read_as_one (file a) (wrong_kits p f k) v w = absurd (kits_or_application p f k a w (stands a v))
  read_as_one (file a) (over_limit which) v w = absurd (limit_or_file which a w v)
  read_as_one (file a) (file b) v w = ap file (one_application m limit bytes a b tables told.numbers (stands a v) (stands b w))

pub one_reading : (m : Meaning) (limit : ℕ) (bytes : List ℕ) (one other : Reading) → HasTables m → CanBeTold m.schema → IsReadAs m limit bytes one
    → IsReadAs m limit bytes other → one ≡ other
one_reading m limit bytes one other tables told v w = read_as_one m limit bytes tables told one other v w
