-- What is read under one data limit is read under another.
use Rattle.std.proofs.Common.{◌≡◌, ℕ, ◌≤◌, inl, inr, List, refl, sym, subst, ap, arith}
use Rattle.sed_typed.specs.Spelled.{CanBeTold}
use Rattle.disk_model.specs.Disk.{Image}
use Rattle.app_save.specs.Store.{IsStore, Opens as OpensTo}
use Rattle.sed_engine.specs.Code.{Meaning}
use Rattle.sed_engine.specs.Whole.{HasTables}
use Rattle.comp_tree.specs.Application.{Application}
use Rattle.comp_tree.specs.Whole.{IsFormed, Whole}
use Rattle.comp_tree.specs.Limits.{under}
use Rattle.app_file.specs.Opens.{Opens}
use Rattle.app_file.specs.Reading.{IsFile, StandsFor}
use Rattle.app_file.specs.Text.{IsTextOf}
use Rattle.app_file.proofs.OneApplication.{one_application}

-- ---- under another limit

module _ (m : Meaning) (other : ℕ) (a : Application) where
  formed_under : IsFormed m a → IsFormed m (under other a)
  formed_under is = record {
    tree = is.tree;
    app = is.app;
    others = is.others;
    names = is.names;
    siblings = is.siblings;
    links = is.links;
    order = is.order;
    values = is.values;
    faults = is.faults;
    statics = is.statics;
    ids = is.ids;
  }

  text_under : (bytes : List ℕ) → IsTextOf m a bytes → IsTextOf m (under other a) bytes
  text_under bytes (inl new) = inl new
  text_under bytes (inr old) = inr (record { text = old.text; short = old.short })

  pub stands_under : (limit : ℕ) (bytes : List ℕ) → StandsFor m limit bytes a → StandsFor m other bytes (under other a)
  stands_under limit bytes is = record {
    formed = formed_under is.formed;
    kept = ap (under other) is.kept;
    under = refl;
    text = text_under bytes is.text;
  }

  whole_under : a.components.limit ≤ other → other ≤ 4194304 → Whole m a → Whole m (under other a)
  whole_under more most is = record {
    formed = formed_under is.formed;
    ids = is.ids;
    link_count = is.link_count;
    depths = is.depths;
    children = is.children;
    links_at_each = is.links_at_each;
    data_sizes = let sizes = is.data_sizes in omega (arith, sizes, more);
    least_limit = let least = is.least_limit in omega (arith, least, more);
    most_limit = most;
  }

-- ---- under a larger one

pub file_under_more : (m : Meaning) (limit more : ℕ) (bytes : List ℕ) (a : Application) → IsFile m limit bytes a → limit ≤ more
    → more ≤ 4194304 → IsFile m more bytes (under more a)
file_under_more m limit more bytes a is le most = record {
  whole = whole_under m more a (subst (λ n. n ≤ more) (sym is.under) le) most is.whole;
  kept = ap (under more) is.kept;
  under = refl;
  text = text_under m more a bytes is.text;
}

pub opens_under_more : (m : Meaning) (limit more : ℕ) (image : Image) (a : Application) → Opens m limit image a → limit ≤ more
    → more ≤ 4194304 → Opens m more image (under more a)
opens_under_more m limit more image a is le most = record {
  size = is.size;
  payload = is.payload;
  store = is.store;
  file = file_under_more m limit more is.payload a is.file le most;
}

-- ---- one application

module _ (m : Meaning) (limit other : ℕ) (a b : Application) (tables : HasTables m) (told : CanBeTold m.schema) where
  stands : (limit : ℕ) (bytes : List ℕ) (c : Application) → IsFile m limit bytes c → StandsFor m limit bytes c
  stands limit bytes c is = record { formed = is.whole.formed; kept = is.kept; under = is.under; text = is.text }

  pub one_file_under : (bytes : List ℕ) → IsFile m limit bytes a → IsFile m other bytes b → b ≡ under other a
  one_file_under bytes first second =
      one_application m other bytes b (under other a) tables told.numbers (stands other bytes b second)
      (stands_under m other a limit bytes (stands limit bytes a first))

  pub one_opened_under : ((S T : ℕ) (image : Image) → IsStore S image → IsStore T image → S ≡ T)
      → ((S : ℕ) (image : Image) (p q : List ℕ) → OpensTo S image p → OpensTo S image q → p ≡ q)
      → (image : Image) → Opens m limit image a → Opens m other image b → b ≡ under other a
  one_opened_under slots payloads image first second =
      let size : second.size ≡ first.size = slots second.size first.size image second.store.store first.store.store in
      let payload : second.payload ≡ first.payload =
      payloads first.size image second.payload first.payload (subst (λ S. OpensTo S image second.payload) size second.store) first.store in
      one_file_under first.payload first.file (subst (λ bytes. IsFile m other bytes b) payload second.file)
