use Rattle.std.proofs.Common.{◌≡◌, ◌≢◌, ◌<◌, ◌≤◌, ◌+◌, ℕ, List, [], get_or, length, take, ap, sym, subst, refl, ◌∙◌, arith}
use Rattle.std.specs.Prelude.{All, AllPairs, is_ok, sum_by, vec_capacity, vec_len}
use Rattle.std.specs.Vec.{with_items}
use Rattle.std.proofs.lemmas.List.{get_or_read_under, with_items_is}
use Rattle.scode_mem.specs.declared.entry.Entry.{Entry}
use Rattle.scode_mem.specs.Blocks.{Held}
use Rattle.scode_mem.specs.Kept.{IsAdded, parts, size_at}
use Rattle.scode_mem.proofs.Changes.{in_directory, live_apart}
use Rattle.scode_mem.proofs.Told.{added_told, along, bytes_of_live, few_told, first_told, fresh_told, limit_told, more_told, parts_of}
use Rattle.scode_mem.proofs.pool.Pool.add.Goals as goal

pub returns-then-size-len-clause-full : goal.returns-then-size-len-clause-full
returns-then-size-len-clause-full c =
    let i = c.self.inside in
    let live = bytes_of_live i c.self.invariant c.args.self.now c.self.view_is in
    let limit = limit_told i c.self.invariant c.args.self.now c.self.view_is in
    let first = ap length (first_told i c.self.invariant c.args.self.now c.self.view_is c.args.t.0) in
    let size = c.size_of-size.ensures ∙ ap (λ (f : List (List ℕ)). length (get_or f c.args.t.0 [])) c.deref.ensures.value in
    (λ e. omega arith, λ passes. refl)

pub add_block-start-requires-clause-apart : goal.add_block-start-requires-clause-apart
add_block-start-requires-clause-apart c =
    let i = c.self.inside in
    subst (λ (xs : List ℕ). AllPairs (λ a b. a ≢ b) (take i.count xs)) (sym c.deref-3.ensures.value)
    (live_apart (parts_of i) i.places.items (vec_capacity i.places) i.count i.used i.filled c.self.invariant)

pub add_block-start-requires-clause-within : goal.add_block-start-requires-clause-within
add_block-start-requires-clause-within c =
    let i = c.self.inside in
    subst (λ (xs : List ℕ). All (λ q. q < length c.deref_mut-2.result.now) (take i.count xs)) (sym c.deref-3.ensures.value)
    (subst (λ (d : List Entry). All (λ q. q < length d) (take i.count i.places.items)) (sym c.deref_mut-2.ensures.value)
    (in_directory (parts_of i) i.places.items (vec_capacity i.places) i.count i.used i.filled c.self.invariant))

pub index-place-requires : goal.index-place-requires
index-place-requires c =
    let few = few_told c.self.inside c.self.invariant c.args.self.now c.self.view_is c.requires.few in
    let all = c.self.invariant.every.all in
    omega arith

pub add_block-start-requires-clause-place : goal.add_block-start-requires-clause-place
add_block-start-requires-clause-place c =
    let i = c.self.inside in
    let few = few_told i c.self.invariant c.args.self.now c.self.view_is c.requires.few in
    let all = c.self.invariant.every.all in
    let entries = c.self.invariant.entries in
    let place = get_or_read_under i.places.items i.count (vec_len i.places) c.index-place.result.now 0 c.index-place.ensures (omega arith) (omega arith) in
    let below = c.self.invariant.every.within i.count 0 (omega arith) in
    let long = c.deref_mut-2.ensures.len in
    omega arith

pub add_block-start-requires-clause-fits : goal.add_block-start-requires-clause-fits
add_block-start-requires-clause-fits c =
    let i = c.self.inside in
    let size = c.size_of-size.ensures ∙ ap (λ (f : List (List ℕ)). length (get_or f c.args.t.0 [])) c.deref.ensures.value in
    let counted = c.self.invariant.counted in
    along (λ f b d xs. sum_by (size_at (parts f b d)) (take i.count xs) + length (get_or f c.args.t.0 []) ≤ length b) _ _ _ _ _ _ _ _
    (sym c.deref-2.ensures.value) (sym c.deref_mut.ensures.value) (sym c.deref_mut-2.ensures.value) (sym c.deref-3.ensures.value) (omega arith)

module _ (c : goal.After-from) where
  few : c.self.inside.count < 4096
  few = few_told c.self.inside c.self.invariant c.args.self.now c.self.view_is c.requires.few

  place : c.from.result ≡ get_or c.self.inside.places.items c.self.inside.count 0
  place =
      let lt = few in
      let all = c.self.invariant.every.all in
      c.from.ensures ∙ get_or_read_under c.self.inside.places.items c.self.inside.count (vec_len c.self.inside.places) c.index-place.result.now 0 c.index-place.ensures (omega arith) (omega arith)

  of_class : c.args.t.0 < length c.self.inside.firsts.items
  of_class = subst (λ (h : Held). c.args.t.0 < length h.firsts) (sym c.self.view_is) c.requires.class

  size : c.size_of-size.result ≡ length (get_or c.self.inside.firsts.items c.args.t.0 [])
  size = c.size_of-size.ensures ∙ ap (λ (f : List (List ℕ)). length (get_or f c.args.t.0 [])) c.deref.ensures.value

  put : IsAdded (parts_of c.self.inside)
      (parts c.self.inside.firsts.items (with_items c.self.inside.bytes c.add_block-start.new.bytes).items (with_items c.self.inside.directory c.add_block-start.new.directory).items)
      (take c.self.inside.count c.self.inside.places.items) c.from.result c.args.t.0 c.add_block-start.result
  put =
      let bytes : length c.add_block-start.new.bytes ≡ vec_len c.self.inside.bytes = (let same = c.add_block-start.auto.bytes in let all = c.deref_mut.ensures.len in omega arith) in
      let entries : length c.add_block-start.new.directory ≡ vec_len c.self.inside.directory = (let same = c.add_block-start.auto.directory in let all = c.deref_mut-2.ensures.len in omega arith) in
      let added : IsAdded (parts_of c.self.inside) (parts c.self.inside.firsts.items c.add_block-start.new.bytes c.add_block-start.new.directory) (take c.self.inside.count c.self.inside.places.items)
      c.index-place.result.now c.args.t.0 c.add_block-start.result =
      along (λ f b d xs. IsAdded (parts f b d) (parts f c.add_block-start.new.bytes c.add_block-start.new.directory) (take c.self.inside.count xs) c.index-place.result.now c.args.t.0 c.add_block-start.result) _ _ _ _ _ _ _ _
      c.deref-2.ensures.value c.deref_mut.ensures.value c.deref_mut-2.ensures.value c.deref-3.ensures.value c.add_block-start.ensures in
      subst (λ (b : List ℕ). IsAdded (parts_of c.self.inside) (parts c.self.inside.firsts.items b (with_items c.self.inside.directory c.add_block-start.new.directory).items) (take c.self.inside.count c.self.inside.places.items)
      c.from.result c.args.t.0 c.add_block-start.result) (sym (with_items_is c.self.inside.bytes c.add_block-start.new.bytes bytes))
      (subst (λ (d : List Entry). IsAdded (parts_of c.self.inside) (parts c.self.inside.firsts.items c.add_block-start.new.bytes d) (take c.self.inside.count c.self.inside.places.items)
      c.from.result c.args.t.0 c.add_block-start.result) (sym (with_items_is c.self.inside.directory c.add_block-start.new.directory entries))
      (subst (λ (q : ℕ). IsAdded (parts_of c.self.inside) (parts c.self.inside.firsts.items c.add_block-start.new.bytes c.add_block-start.new.directory) (take c.self.inside.count c.self.inside.places.items)
      q c.args.t.0 c.add_block-start.result) (sym c.from.ensures) added))

pub invariant_of-self : goal.invariant_of-self
invariant_of-self c =
    more_told c.self.inside c.self.invariant c.args.self.now c.self.view_is (few c) c.args.t.0 (of_class c) c.from.result (place c)
    (with_items c.self.inside.bytes c.add_block-start.new.bytes).items
    (with_items c.self.inside.directory c.add_block-start.new.directory).items c.add_block-start.result c.size_of-size.result (size c) (put c)

pub returns-clause-place : goal.returns-clause-place
returns-clause-place c =
    let lt = few c in
    let all = c.self.invariant.every.all in
    subst (λ (q : ℕ). q < 4096) (sym (place c)) (c.self.invariant.every.within c.self.inside.count 0 (omega arith))

pub returns-clause-fresh : goal.returns-clause-fresh
returns-clause-fresh c = fresh_told c.self.inside c.self.invariant c.args.self.now c.self.view_is (few c) c.args.t.0 (of_class c) c.from.result (place c)

pub returns-clause-added : goal.returns-clause-added
returns-clause-added c =
    added_told c.self.inside c.self.invariant c.args.self.now c.self.view_is (few c) c.args.t.0 (of_class c) c.from.result (place c)
    (with_items c.self.inside.bytes c.add_block-start.new.bytes).items
    (with_items c.self.inside.directory c.add_block-start.new.directory).items c.add_block-start.result c.size_of-size.result (size c) (put c)

pub returns-clause-full : goal.returns-clause-full
returns-clause-full c =
    let i = c.self.inside in
    let live = bytes_of_live i c.self.invariant c.args.self.now c.self.view_is in
    let limit = limit_told i c.self.invariant c.args.self.now c.self.view_is in
    let first = ap length (first_told i c.self.invariant c.args.self.now c.self.view_is c.args.t.0) in
    let as_many = size c in
    (λ e. absurd (let never = ap is_ok e in cc), λ passes. absurd (omega arith))
