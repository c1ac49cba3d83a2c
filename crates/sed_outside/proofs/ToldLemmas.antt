-- What is told of a list once items came behind it.
use Rattle.std.proofs.Common.{◌≡◌, true, false, List, [], ◌∷◌, ◌++◌, Option, Some, None, refl, sym, ap, ◌∙◌, append_assoc, append-nil}
use Rattle.sed_outside.specs.Told.{Told, Tells, Adds, AddsWhereTold, Bounded, HasRoom, has_any, with_item, with_more}

-- a list that has nothing is empty
empty_from_none : {T : Type 0} (rest : List T) → has_any rest ≡ false → rest ≡ []
empty_from_none [] none = refl
empty_from_none (x ∷ xs) none = absurd (cc)

has_any-append : {T : Type 0} (xs ys : List T) → has_any ys ≡ true → has_any (xs ++ ys) ≡ true
has_any-append [] ys any = any
has_any-append (x ∷ xs) ys any = refl

-- a list that is told with no more is the first ones
whole_from_all : {T : Type 0} (told : Told T) (whole : List T) → told.more ≡ false → Tells told whole → whole ≡ told.first
whole_from_all told whole all tells =
    let none : tells.rest ≡ [] = empty_from_none tells.rest (sym tells.more ∙ all) in
    tells.front ∙ ap (λ rest. told.first ++ rest) none ∙ append-nil told.first

-- one more that is told, where all was
pub adds_item : {T : Type 0} (bounded : Bounded T) (item : T) → HasRoom bounded → Adds bounded.told (with_item bounded item).told (item ∷ [])
adds_item bounded item room = record {
  fresh = item ∷ [];
  kept = refl;
  told = λ whole tells. record {
    rest = [];
    front = ap (λ all. all ++ item ∷ []) (whole_from_all bounded.told whole room.all tells) ∙ sym (append-nil (bounded.told.first ++ item ∷ []));
    more = refl;
  };
}

-- one more that is not told
pub adds_more : {T : Type 0} (bounded : Bounded T) (item : T) → Adds bounded.told (with_more bounded).told (item ∷ [])
adds_more bounded item = record {
  fresh = [];
  kept = sym (append-nil bounded.told.first);
  told = λ whole tells. record {
    rest = tells.rest ++ item ∷ [];
    front = ap (λ all. all ++ item ∷ []) tells.front ∙ append_assoc bounded.told.first tells.rest (item ∷ []);
    more = sym (has_any-append tells.rest (item ∷ []) refl);
  };
}

-- nothing more
pub adds_nothing : {T : Type 0} (told : Told T) → Adds told told []
adds_nothing told = record {
  fresh = [];
  kept = sym (append-nil told.first);
  told = λ whole tells. record {
    rest = tells.rest;
    front = append-nil whole ∙ tells.front;
    more = tells.more;
  };
}

-- some more, and then some more
pub adds_both : {T : Type 0} (old mid new : Told T) (xs ys : List T) → Adds old mid xs → Adds mid new ys → Adds old new (xs ++ ys)
adds_both old mid new xs ys once again = record {
  fresh = once.fresh ++ again.fresh;
  kept = again.kept ∙ ap (λ first. first ++ again.fresh) once.kept ∙ append_assoc old.first once.fresh again.fresh;
  told = λ whole tells.
      let after = again.told (whole ++ xs) (once.told whole tells) in record {
        rest = after.rest;
        front = sym (append_assoc whole xs ys) ∙ after.front;
        more = after.more;
      };
}

-- the same, where nothing may be told
pub adds_nothing_told : {T : Type 0} (told : Option (Told T)) → AddsWhereTold told told []
adds_nothing_told None = tt
adds_nothing_told (Some told) = adds_nothing told

pub adds_both_told : {T : Type 0} (old mid new : Option (Told T)) (xs ys : List T)
    → AddsWhereTold old mid xs → AddsWhereTold mid new ys → AddsWhereTold old new (xs ++ ys)
adds_both_told None None None xs ys once again = tt
adds_both_told (Some old) (Some mid) (Some new) xs ys once again = adds_both old mid new xs ys once again
adds_both_told None None (Some new) xs ys once again = absurd again
adds_both_told None (Some mid) new xs ys once again = absurd once
adds_both_told (Some old) None new xs ys once again = absurd once
adds_both_told (Some old) (Some mid) None xs ys once again = absurd again
