-- The bodies of numbers, and behind them one more for each.
use Rattle.std.proofs.Common.{◌≡◌, ℕ, ◌+◌, ◌<◌, ◌≤◌, List, [], ◌∷◌, ◌++◌, map, length, take, get_or, Some, sym, ap, ◌∙◌, arith, append_assoc}
use Rattle.std.specs.Prelude.{slice_get}
use Rattle.std.proofs.lemmas.List.{get_or-append-add, get_or-map, length-append, length-map, map_more, take_all}
use Rattle.std.proofs.lemmas.Option.{get_or_from_slice_get, slice_get-get_or, slice_get_within}
use Rattle.snap_diagrams.proofs.Numbered.{slice_get-append}
use Rattle.snap_rows.specs.declared.tables.Row.{Row}

module _ (f : Row → Row) (bodies : List Row) where
  pub twice : length (bodies ++ map f bodies) ≡ length bodies + length bodies
  twice = length-append bodies (map f bodies) ∙ ap (λ n. length bodies + n) (length-map bodies f)

  module _ (n : ℕ) (b : Row) (at : slice_get bodies n ≡ Some b) where
    pub own_body : slice_get (bodies ++ map f bodies) n ≡ Some b
    own_body = slice_get-append bodies (map f bodies) n b at

    pub body_behind : slice_get (bodies ++ map f bodies) (length bodies + n) ≡ Some (f b)
    body_behind =
        let low = slice_get_within bodies n b at in
        slice_get-get_or (bodies ++ map f bodies) (length bodies + n) (f b) (let long = twice in omega (arith, long, low))
        ∙ ap Some (get_or-append-add bodies (map f bodies) n (f b) ∙ get_or-map f bodies n b (f b) low ∙ ap f (get_or_from_slice_get bodies n b b at))

  -- one more behind them
  pub behind_more : (now after : List Row) (n : ℕ) (b x : Row) → n < length bodies → now ≡ bodies ++ map f (take n bodies) → x ≡ f (get_or bodies n b) → after ≡ now ++ x ∷ []
      → after ≡ bodies ++ map f (take (n + 1) bodies)
  behind_more now after n b x low so_far is pushed =
      pushed ∙ (λ i. so_far i ++ is i ∷ []) ∙ append_assoc bodies (map f (take n bodies)) (f (get_or bodies n b) ∷ []) ∙ ap (λ ys. bodies ++ ys) (sym (map_more f bodies n b low))

  -- those of all numbers
  pub all_behind : (now : List Row) (n : ℕ) → length bodies ≤ n → now ≡ bodies ++ map f (take n bodies) → now ≡ bodies ++ map f bodies
  all_behind now n high so_far = so_far ∙ ap (λ xs. bodies ++ map f xs) (take_all n bodies high)
