-- Lists that are seen from their end, and lists with others put into them.
use Rattle.std.proofs.Common.{◌≡◌, ℕ, ◌+◌, ◌-◌, ◌<◌, ◌≤◌, List, ◌++◌, get_or, length, reverse, take, drop, sym, ap, ◌∙◌, arith, length-append, length-take, length-drop}
use Rattle.std.proofs.lemmas.List.{drop-drop, drop-take, drop_at, get_or-drop, get_or-reverse, get_or-take, length-reverse, length-take-le, reverse-append, reverse-reverse, take-append-drop, take-append-le, take-take, take_at}

module _ {X : Type 0} where
  -- a list that is seen from its end, cut where its last n begin
  cut : (n : ℕ) (xs : List X) → n ≤ length xs → reverse xs ≡ reverse (drop (length xs - n) xs) ++ reverse (take (length xs - n) xs)
  cut n xs le = ap reverse (sym (take-append-drop (length xs - n) xs)) ∙ reverse-append (take (length xs - n) xs) (drop (length xs - n) xs)

  last_long : (n : ℕ) (xs : List X) → n ≤ length xs → length (reverse (drop (length xs - n) xs)) ≡ n
  last_long n xs le = length-reverse (drop (length xs - n) xs) ∙ simp length-drop (omega arith)

  pub take-reverse : (n : ℕ) (xs : List X) → n ≤ length xs → take n (reverse xs) ≡ reverse (drop (length xs - n) xs)
  take-reverse n xs le = ap (take n) (cut n xs le) ∙ take_at (reverse (drop (length xs - n) xs)) (reverse (take (length xs - n) xs)) n (last_long n xs le)

  pub drop-reverse : (n : ℕ) (xs : List X) → n ≤ length xs → drop n (reverse xs) ≡ reverse (take (length xs - n) xs)
  drop-reverse n xs le = ap (drop n) (cut n xs le) ∙ drop_at (reverse (drop (length xs - n) xs)) (reverse (take (length xs - n) xs)) n (last_long n xs le)

  -- a stack lies from one place to another, its top last
  module _ (row : List X) (stack top : ℕ) (le : stack ≤ top) (within : top ≤ length row) where
    pub stack_long : length (drop stack (take top row)) ≡ top - stack
    stack_long = simp (length-drop, length-take) (omega arith)

    -- so many cells less
    pub stack_less : (n : ℕ) → n ≤ top - stack → reverse (drop stack (take (top - n) row)) ≡ drop n (reverse (drop stack (take top row)))
    stack_less n few =
        let xs : List X = drop stack (take top row) in
        let long = stack_long in
        let end : stack + (length xs - n) ≡ top - n = omega arith in
        ap (λ l. reverse (drop stack l)) (sym (take-take (top - n) top row (omega arith)))
        ∙ ap (λ k. reverse (drop stack (take k (take top row)))) (sym end)
        ∙ ap reverse (drop-take stack (length xs - n) (take top row))
        ∙ sym (drop-reverse n xs (omega arith))

    -- so many cells off it, the topmost last
    pub stack_taken : (n : ℕ) → n ≤ top - stack → drop (top - n) (take top row) ≡ reverse (take n (reverse (drop stack (take top row))))
    stack_taken n few =
        let xs : List X = drop stack (take top row) in
        let long = stack_long in
        let end : stack + (length xs - n) ≡ top - n = omega arith in
        ap (λ k. drop k (take top row)) (sym end)
        ∙ sym (drop-drop (length xs - n) stack (take top row))
        ∙ sym (reverse-reverse (drop (length xs - n) xs))
        ∙ ap reverse (sym (take-reverse n xs (omega arith)))

    -- the cell that n others lie on
    pub stack_at : (n : ℕ) (d : X) → n < top - stack → get_or (reverse (drop stack (take top row))) n d ≡ get_or row (top - 1 - n) d
    stack_at n d few =
        let xs : List X = drop stack (take top row) in
        let long = stack_long in
        let at : stack + (length xs - 1 - n) ≡ top - 1 - n = omega arith in
        get_or-reverse xs n d (omega arith)
        ∙ get_or-drop stack (take top row) (length xs - 1 - n) d
        ∙ ap (λ k. get_or (take top row) k d) at
        ∙ get_or-take top row (top - 1 - n) d (omega arith)

  -- others put from a place on
  module _ (row new : List X) (at : ℕ) (within : at ≤ length row) where
    pub put_front : (n : ℕ) → n ≤ at → take n (take at row ++ new ++ drop (at + length new) row) ≡ take n row
    put_front n le =
        let long : length (take at row) ≡ at = length-take-le at row within in
        let far : n ≤ length (take at row ++ new) = omega (arith, ap (λ k. k + length new) long, length-append (take at row) new) in
        take-append-le n (take at row ++ new) (drop (at + length new) row) far
        ∙ take-append-le n (take at row) new (omega arith)
        ∙ take-take n at row le

    pub put_through : take (at + length new) (take at row ++ new ++ drop (at + length new) row) ≡ take at row ++ new
    put_through =
        let long : length (take at row) ≡ at = length-take-le at row within in
        take_at (take at row ++ new) (drop (at + length new) row) (at + length new) (omega (arith, long, length-append (take at row) new))
