-- Reads and writes of a part of a block, by its path.
use Rattle.std.proofs.Common.{◌≡◌, ◌≢◌, ◌<◌, ◌≤◌, ◌+◌, ◌^◌, ◌⊎◌, inl, inr, ℕ, true, List, [], length, Option, Some, None, refl, sym, ap, subst, ◌∙◌, arith}
use Rattle.std.specs.Prelude.{IfSome, IsSomeAnd}
use Rattle.std.specs.FinMap as finite
use Rattle.std.specs.Option.{option_and_then, option_map, option_map_or}
use Rattle.sed_value.specs.declared.value.Value.{Value}
use Rattle.sed_value.specs.declared.value.Value.TheVariants as kept
use Rattle.sed_typed.specs.declared.program.FieldForm.{FieldForm}
use Rattle.sed_typed.specs.declared.program.FieldForm.TheVariants as form
use Rattle.sed_typed.specs.Contents.{Contents, Path, value_at, with_value}
use Rattle.sed_wire.specs.Number.{number_of}
use Rattle.sed_engine.specs.Values.{Base, Component, Statics}
use Rattle.scode_image.specs.declared.image.Image.{Image}
use Rattle.scode_mem.specs.declared.block.Block.{Block}
use Rattle.scode_mem.specs.declared.block.Block.TheVariants as block
use Rattle.scode_mem.specs.Blocks.{HasBytes, Held, Kept, bytes_at, bytes_of, put_at, with_bytes}
use Rattle.scode_mem.proofs.BlockLaws.{other_block, same_classes, which_block, written_block}
use Rattle.scode_mem.proofs.Bytes.{length-put_at}
use Rattle.scode_whole.proofs.Rule.{agrees}
use Rattle.scode_state.specs.Stands.{BlockFits, BlocksFit, HasBuf, IsBlock, IsStored, StandsAt, contents_in}
use Rattle.scode_state.specs.Values.{held_in, part_width, value_from}
use Rattle.scode_state.proofs.Blocks.{block_lies}
use Rattle.scode_state.proofs.Present.{parts_read}
use Rattle.scode_state.proofs.Written.{fit_stays, part_changes, value_leaf}

-- ---- which block is whose

of_class : (o other : Option Kept) (class : ℕ) → option_map (λ (k : Kept). k.class) other ≡ option_map (λ (k : Kept). k.class) o
    → IsSomeAnd o (λ k. k.class ≡ class) → IsSomeAnd other (λ k. k.class ≡ class)
of_class o other class same is =
    back other (subst (λ (c : Option ℕ). IsSomeAnd c (λ n. n ≡ class)) (sym same) (on o is))
  where
    on : (o : Option Kept) → IsSomeAnd o (λ k. k.class ≡ class)
        → IsSomeAnd (option_map (λ (k : Kept). k.class) o) (λ n. n ≡ class)
    on None is = absurd is
    on (Some k) is = is

    back : (o : Option Kept) → IsSomeAnd (option_map (λ (k : Kept). k.class) o) (λ n. n ≡ class)
        → IsSomeAnd o (λ k. k.class ≡ class)
    back None is = absurd is
    back (Some k) is = is

-- where places keep their classes, blocks are whose they were
pub same_block : (h new : Held) (class : ℕ) (base : Base) (b : Block)
    → ((place : ℕ) → option_map (λ (k : Kept). k.class) (finite.get new.live place)
    ≡ option_map (λ (k : Kept). k.class) (finite.get h.live place))
    → IsBlock new class base b → IsBlock h class base b
same_block h new class Component (block.Live p) same is =
    of_class (finite.get new.live p.0) (finite.get h.live p.0) class (sym (same p.0)) is
same_block h new class Component block.Statics same is = absurd is
same_block h new class Statics (block.Live p) same is = absurd is
same_block h new class Statics block.Statics same is = tt

one_class : (o : Option Kept) (a b : ℕ) → IsSomeAnd o (λ k. k.class ≡ a) → IsSomeAnd o (λ k. k.class ≡ b) → a ≡ b
one_class None a b x y = absurd x
one_class (Some k) a b x y = sym x ∙ y

-- a block is of one base, and of one class
one_block : (image : Image) (h new : Held) (class other : ℕ) (base at : Base) (b : Block) → IsBlock h class base b
    → IsBlock h other at b → BlockFits image class base new b → BlockFits image other at new b
one_block image h new class other Component Component (block.Live p) x y fit =
    subst (λ (k : ℕ). BlockFits image k Component new (block.Live p))
    (one_class (finite.get h.live p.0) class other x y) fit
one_block image h new class other Statics Statics block.Statics x y fit =
    record { bytes = fit.bytes; are = fit.are; whole = fit.whole; fit = fit.fit }
one_block image h new class other Component Statics (block.Live p) x y fit = absurd y
one_block image h new class other Component at block.Statics x y fit = absurd x
one_block image h new class other Statics at (block.Live p) x y fit = absurd x
one_block image h new class other Statics Component block.Statics x y fit = absurd y

-- a store changes neither first bytes nor the limit
same_rest : (h : Held) (b : Block) (at : ℕ) (new : List ℕ)
    → ((with_bytes h b at new).firsts ≡ h.firsts) × ((with_bytes h b at new).limit ≡ h.limit)
same_rest h block.Statics at new = (refl, refl)
same_rest h (block.Live p) at new = go (finite.get h.live p.0)
  where
    go : (o : Option Kept)
        → ((option_map_or (λ k. record h { live = finite.insert h.live p.0 (record k { bytes = put_at k.bytes at new }) })
        o h).firsts ≡ h.firsts)
        × ((option_map_or (λ k. record h { live = finite.insert h.live p.0 (record k { bytes = put_at k.bytes at new }) })
        o h).limit ≡ h.limit)
    go None = (refl, refl)
    go (Some k) = (refl, refl)

-- ---- reads

-- what is said of the bytes of a block that has some
pub told : (P : List ℕ → Type 0) (o : Option (List ℕ)) (bytes : List ℕ) → o ≡ Some bytes → IfSome o P → P bytes
told P o bytes are says = subst (λ (x : Option (List ℕ)). IfSome x P) are says

module _ (image : Image) (class : ℕ) (base : Base) (path : Path) (h : Held) (b : Block) (o : ℕ) (f : FieldForm)
    (at : StandsAt image class base path h b o f) where
  pub fits : BlockFits image class base h b
  fits = at.blocks class base b at.block

  pub holds : contents_in image class base h b ≡ held_in image class base fits.bytes
  holds = ap (λ (x : Option (List ℕ)). option_map_or (held_in image class base) x []) fits.are

  pub reads : value_at (contents_in image class base h b) path ≡ value_from fits.bytes (o, f)
  reads =
      ap (λ (m : Contents). value_at m path) holds
      ∙ parts_read image (agrees image at.agree) class base fits.bytes path
      ∙ ap (option_and_then (value_from fits.bytes)) at.part

  pub lies : o + part_width image f ≤ length fits.bytes
  lies =
      let low : o + part_width image f ≤ _ = block_lies image (agrees image at.agree) class base path (o, f) at.part in
      let whole = fits.whole in
      omega (arith, low, whole)

  pub has_bytes : HasBytes h b o (part_width image f)
  has_bytes = subst (λ (x : Option (List ℕ)). IsSomeAnd x (λ bytes. o + part_width image f ≤ length bytes)) (sym fits.are) lies

  -- ---- writes

  module _ (new : List ℕ) (to : ℕ) (v : Value) (low : o ≤ to) (high : to + length new ≤ o + part_width image f)
      (is : value_from (put_at fits.bytes to new) (o, f) ≡ Some v)
      (own : (n : ℕ) → f ≡ form.Buf n → number_of (bytes_at (put_at fits.bytes to new) o 2) ≤ n) where
    abbrev put : Held
    put = with_bytes h b to new

    are_put : bytes_of put b ≡ Some (put_at fits.bytes to new)
    are_put = written_block h b to new ∙ ap (option_map (λ (bytes : List ℕ). put_at bytes to new)) fits.are

    changed : contents_in image class base put b ≡ with_value (contents_in image class base h b) path v
    changed =
        ap (λ (x : Option (List ℕ)). option_map_or (held_in image class base) x []) are_put
        ∙ part_changes image class base path (o, f) fits.bytes new to at.agree fits.fit fits.whole at.part
        (value_leaf (put_at fits.bytes to new) (o, f) v is) low high v is
        ∙ ap (λ (m : Contents). with_value m path v) (sym holds)

    own_block : BlockFits image class base put b
    own_block = record {
      bytes = put_at fits.bytes to new;
      are = are_put;
      whole = length-put_at fits.bytes to new (let room = lies in omega (arith, room, high)) ∙ fits.whole;
      fit = fit_stays image class base path (o, f) fits.bytes new to at.agree fits.fit fits.whole at.part
          (value_leaf (put_at fits.bytes to new) (o, f) v is) low high own;
    }

    all_blocks : BlocksFit image put
    all_blocks c other_base other is_other =
        by_block (which_block other b) (same_block h put c other_base other (same_classes h b to new) is_other)
      where
        by_block : (other ≡ b) ⊎ (other ≢ b) → IsBlock h c other_base other → BlockFits image c other_base put other
        by_block (inl e) was =
            subst (λ (x : Block). BlockFits image c other_base put x) (sym e)
            (one_block image h put class c base other_base b at.block
            (subst (λ (x : Block). IsBlock h c other_base x) e was) own_block)
        by_block (inr ne) was =
            let old : BlockFits image c other_base h other = at.blocks c other_base other was in
            record {
              bytes = old.bytes;
              are = other_block h b other to new ne ∙ old.are;
              whole = old.whole;
              fit = old.fit;
            }

    pub stored : IsStored image class base path h put b v
    stored = record {
      contents = changed;
      others = λ other ne. other_block h b other to new ne;
      classes = λ place. same_classes h b to new place;
      firsts = (same_rest h b to new).0;
      limit = (same_rest h b to new).1;
      blocks = all_blocks;
    }

pub has_buf : (image : Image) (class : ℕ) (base : Base) (path : Path) (h : Held) (b : Block) (o n : ℕ)
    → StandsAt image class base path h b o (form.Buf n) → HasBuf h b o n
has_buf image class base path h b o n at =
    let f : BlockFits image class base h b = fits image class base path h b o (form.Buf n) at in
    let few : number_of (bytes_at f.bytes o 2) ≤ n = f.fit path o n at.part in
    let room : o + (n + 2) ≤ length f.bytes = lies image class base path h b o (form.Buf n) at in
    record { bytes = f.bytes; are = f.are; few = few; there = omega (arith, few, room) }

pub if_some : (o : Option (List ℕ)) (P Q : List ℕ → Type 0) → ((bytes : List ℕ) → P bytes → Q bytes) → IfSome o P → IfSome o Q
if_some None P Q on says = tt
if_some (Some bytes) P Q on says = on bytes says

pub if_both : (o : Option (List ℕ)) (P Q R : List ℕ → Type 0) → ((bytes : List ℕ) → P bytes → Q bytes → R bytes)
    → IfSome o P → IfSome o Q → IfSome o R
if_both None P Q R on one other = tt
if_both (Some bytes) P Q R on one other = on bytes one other
