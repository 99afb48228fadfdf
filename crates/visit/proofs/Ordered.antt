-- What holds of all that is joined, or mapped and kept, from the numbers below n.
use Rattle.std.proofs.Common.{◌≡◌, ℕ, ◌<◌, Bool, true, List, map, get_or, filter, All}
use Rattle.std.specs.List.{range_with_len, flat_map}
use Rattle.std.proofs.lemmas.List.Elements.{All-filter, All-map, filter_passes}
use Rattle.walk.proofs.Lists.{all_below, all_joined}

pub all_joined_below : {Y : Type 0} (P : Y → Type 0) (f : ℕ → List Y) (n : ℕ) → ((k : ℕ) → k < n → All P (f k)) → All P (flat_map f (range_with_len 0 n))
all_joined_below P f n each =
    let ks = range_with_len 0 n in
    all_joined P f ks (λ k d l. each (get_or ks k d) (all_below n k d l))

pub all_kept_below : {Y : Type 0} (P : Y → Type 0) (f : ℕ → Y) (p : ℕ → Bool) (n : ℕ) → ((k : ℕ) → k < n → p k ≡ true → P (f k)) → All P (map f (filter p (range_with_len 0 n)))
all_kept_below P f p n each =
    let ks = range_with_len 0 n in
    let below = All-filter p (λ k. k < n) ks (all_below n) in
    All-map P f (filter p ks) (λ k d l. each (get_or (filter p ks) k d) (below k d l) (filter_passes p ks k d l))
