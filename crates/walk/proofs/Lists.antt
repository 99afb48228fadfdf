-- What mapped, joined and kept lists hold, and how their elements stand to those after them.
use Rattle.std.proofs.Common.{◌≡◌, ℕ, zero, suc, ◌<◌, ◌≢◌, Bool, true, List, [], ◌∷◌, ◌++◌, map, length, get_or, filter, All, AllPairs, Contains, sym, refl, ap, ◌∙◌, subst, zero-add, arith}
use Rattle.std.specs.List.{range_with_len, flat_map}
use Rattle.std.proofs.lemmas.Bool.{cond-true, cond_both}
use Rattle.std.proofs.lemmas.List.{length-map, get_or-map}
use Rattle.std.proofs.lemmas.List.FromFn.{length-range_with_len, get_or-range_with_len}
use Rattle.std.proofs.lemmas.List.Kept.{AllPairs-cons}
use Rattle.std.proofs.lemmas.List.Elements.{All-nil, All-head, All-tail, All-append, All-map, All-contains, Contains-get_or, Contains-append_left, Contains-append_right}

-- ---- what lists hold

pub has_counting : (n k : ℕ) → k < n → Contains (range_with_len 0 n) k
has_counting n k h = (k, rw length-range_with_len h, get_or-range_with_len 0 n k k h ∙ zero-add k)

module _ {X Y : Type 0} (f : X → Y) where
  pub has_map : (xs : List X) (x : X) → Contains xs x → Contains (map f xs) (f x)
  has_map xs x (k, h, at) = (k, rw length-map h, get_or-map f xs k x (f x) h ∙ ap f at)

  pub of_map : (xs : List X) (y : Y) → Contains (map f xs) y → (x : X) × Contains xs x × (f x ≡ y)
  of_map xs y =
      let From : Y → Type 0 = λ z. (x : X) × Contains xs x × (f x ≡ z) in
      All-contains From (map f xs) y (All-map From f xs (λ k d l. (get_or xs k d, Contains-get_or xs k d l, refl)))

pub has_kept : {X : Type 0} (p : X → Bool) (xs : List X) (x : X) → Contains xs x → p x ≡ true → Contains (filter p xs) x
has_kept p [] x (k, l, at) e = absurd (omega arith)
has_kept p (y ∷ xs) x (zero, l, at) e =
    rw (cond-true (p y) (y ∷ filter p xs) (filter p xs) (ap p at ∙ e)) (0, omega arith, at)
has_kept p (y ∷ xs) x (suc k, l, at) e =
    let h = has_kept p xs x (k, omega arith, at) e in
    cond_both (p y) (y ∷ filter p xs) (filter p xs) (λ ys. Contains ys x)
    (λ _. Contains-append_right (y ∷ []) (filter p xs) x h) (λ _. h)

pub all_joined : {X Y : Type 0} (P : Y → Type 0) (f : X → List Y) (xs : List X) → All (λ x. All P (f x)) xs → All P (flat_map f xs)
all_joined P f [] h = All-nil P
all_joined P f (x ∷ xs) h =
    let Each : _ → Type 0 = λ z. All P (f z) in
    All-append P (f x) (flat_map f xs) (All-head Each x xs h) (all_joined P f xs (All-tail Each x xs h))

module _ {X Y : Type 0} (f : X → List Y) where
  pub has_joined : (xs : List X) (x : X) (y : Y) → Contains xs x → Contains (f x) y → Contains (flat_map f xs) y
  has_joined [] x y (k, l, at) own = absurd (omega arith)
  has_joined (z ∷ xs) x y (zero, l, at) own =
      Contains-append_left (f z) (flat_map f xs) y (subst (λ w. Contains (f w) y) (sym at) own)
  has_joined (z ∷ xs) x y (suc k, l, at) own =
      Contains-append_right (f z) (flat_map f xs) y (has_joined xs x y (k, omega arith, at) own)

  pub of_joined : (xs : List X) (y : Y) → Contains (flat_map f xs) y → (x : X) × Contains xs x × Contains (f x) y
  of_joined xs y =
      let From : Y → Type 0 = λ z. (x : X) × Contains xs x × Contains (f x) z in
      All-contains From (flat_map f xs) y
      (all_joined From f xs
      (λ k d l j e m. (get_or xs k d, Contains-get_or xs k d l, Contains-get_or (f (get_or xs k d)) j e m)))

-- ---- how elements stand to those after them

-- what is not in a list is none of its elements
pub not_in : {X : Type 0} (x : X) (xs : List X) → (Contains xs x → ⊥) → All (λ y. x ≢ y) xs
not_in x xs out k d l same = out (subst (Contains xs) (sym same) (Contains-get_or xs k d l))

pub pairs_one : {X : Type 0} (R : X → X → Type 0) (x : X) → AllPairs R (x ∷ [])
pairs_one R x i j d l m = absurd (omega arith)

module _ {X : Type 0} (R : X → X → Type 0) (x : X) (xs : List X) (h : AllPairs R (x ∷ xs)) where
  pub pairs_head : All (R x) xs
  pairs_head k d l = h 0 (suc k) d (omega arith) (omega arith)

  pub pairs_tail : AllPairs R xs
  pairs_tail i j d l m = h (suc i) (suc j) d (omega arith) (omega arith)

pub pairs_append : {X : Type 0} (R : X → X → Type 0) (xs ys : List X) → AllPairs R xs → AllPairs R ys → All (λ x. All (R x) ys) xs → AllPairs R (xs ++ ys)
pairs_append R [] ys s t between = t
pairs_append R (x ∷ xs) ys s t between =
    let Before : _ → Type 0 = λ z. All (R z) ys in
    AllPairs-cons R x (xs ++ ys) (All-append (R x) xs ys (pairs_head R x xs s) (All-head Before x xs between))
    (pairs_append R xs ys (pairs_tail R x xs s) t (All-tail Before x xs between))

module _ {X Y : Type 0} (Q : X → X → Type 0) (R : Y → Y → Type 0) where
  pub pairs_map : (f : X → Y) → ((x y : X) → Q x y → R (f x) (f y)) → (xs : List X) → AllPairs Q xs → AllPairs R (map f xs)
  pairs_map f keeps [] s = λ i j d l m. absurd (omega arith)
  pairs_map f keeps (x ∷ xs) s =
      AllPairs-cons R (f x) (map f xs)
      (All-map (R (f x)) f xs (λ k d l. keeps x (get_or xs k d) (pairs_head Q x xs s k d l)))
      (pairs_map f keeps xs (pairs_tail Q x xs s))

  -- where Of x holds of all that comes from x
  pub pairs_joined : (Of : X → Y → Type 0) (f : X → List Y) → ((x : X) → AllPairs R (f x)) → ((x : X) → All (Of x) (f x)) → ((x z : X) (a b : Y) → Q x z → Of x a → Of z b → R a b) → (xs : List X) → AllPairs Q xs → AllPairs R (flat_map f xs)
  pairs_joined Of f each of across [] s = λ i j d l m. absurd (omega arith)
  pairs_joined Of f each of across (x ∷ xs) s =
      pairs_append R (f x) (flat_map f xs) (each x) (pairs_joined Of f each of across xs (pairs_tail Q x xs s))
      (λ k d l.
      all_joined (R (get_or (f x) k d)) f xs
      (λ i z m j e n.
      across x (get_or xs i z) (get_or (f x) k d) (get_or (f (get_or xs i z)) j e)
      (pairs_head Q x xs s i z m) (of x k d l) (of (get_or xs i z) j e n)))

pub all_below : (n : ℕ) → All (λ k. k < n) (range_with_len 0 n)
all_below n k d l =
    let long : length (range_with_len 0 n) ≡ n = length-range_with_len 0 n in
    omega (arith, get_or-range_with_len 0 n k d (omega arith))

pub counting_up : (n : ℕ) → AllPairs ◌<◌ (range_with_len 0 n)
counting_up n i j d l m =
    let long : length (range_with_len 0 n) ≡ n = length-range_with_len 0 n in
    omega (arith, get_or-range_with_len 0 n i d (omega arith), get_or-range_with_len 0 n j d (omega arith))
