-- The entries of a record, read one after another.
use Rattle.std.proofs.Common.{◌≡◌, ℕ, ◌+◌, ◌*◌, ◌<◌, ◌≤◌, List, [], ◌∷◌, ◌++◌, length, get_or, take, drop, map, sym, ap, ◌∙◌, add-zero, arith}
use Rattle.std.proofs.lemmas.List.{length-append, length-map, length-drop, drop-drop, get_or-drop, get_or_append_left, drop_at, take-append-drop}
use Rattle.std.specs.List.{range_with_len}
use Rattle.std.proofs.lemmas.List.FromFn.{length-range_with_len, map-range_with_len_more}
use Rattle.fault.specs.declared.kinds.Field.TheVariants.{Entries}
use Rattle.record.specs.declared.entry.Entry.{Entry}
use Rattle.record.specs.Layout.{word, header, entry_at}

-- what is left of the carrier numbers and of the cells of n entries, once k of them are read
pub record Left (b : List ℕ) (n k : ℕ) (carriers cells : List ℕ) : Type 0 where
  pub whole : length b ≡ 8 + 3 * n
  pub most : k ≤ n
  pub carriers_left : carriers ++ drop (8 + n) b ≡ drop (8 + k) b
  pub cells_left : cells ≡ drop (8 + n + 2 * k) b

module _ (b : List ℕ) (n : ℕ) where
  past : (i j : ℕ) → i ≡ j → drop i b ≡ drop j b
  past i j e = ap (λ m. drop m b) e

  pub left_first : (at : ℕ) (from carriers cells : List ℕ) → length b ≡ 8 + 3 * n → at ≡ n → from ≡ drop 8 b
      → carriers ≡ take at from → cells ≡ drop at from → Left b n 0 carriers cells
  left_first at from carriers cells whole e all front back =
      let tail : cells ≡ drop (8 + n) b = back ∙ (λ i. drop (e i) (all i)) ∙ drop-drop n 8 b in
      record {
        whole = whole;
        most = omega arith;
        carriers_left = (λ i. front i ++ (sym tail ∙ back) i) ∙ take-append-drop at from ∙ all ∙ past 8 (8 + 0) (omega arith);
        cells_left = tail ∙ past (8 + n) (8 + n + 2 * 0) (omega arith);
      }

  module _ (k : ℕ) where
    pub count : (carriers cells : List ℕ) → Left b n k carriers cells → length carriers + k ≡ n
    count carriers cells l = omega (
      arith,
      l.whole,
      l.most,
      ap length l.carriers_left,
      length-append carriers (drop (8 + n) b),
      length-drop (8 + n) b,
      length-drop (8 + k) b,
    )

    module _ (x : ℕ) (carriers pair cells : List ℕ) (two : length pair ≡ 2) (left : Left b n k (x ∷ carriers) (pair ++ cells)) where
      in_pair : (j at : ℕ) → j < 2 → 8 + n + 2 * k + j ≡ at → get_or pair j 0 ≡ get_or b at 0
      in_pair j at h e =
          sym (get_or_append_left pair cells 0 j (omega arith)) ∙ ap (λ l. get_or l j 0) left.cells_left
          ∙ get_or-drop (8 + n + 2 * k) b j 0 ∙ ap (λ m. get_or b m 0) e

      carrier_read : x ≡ (entry_at b k).carrier
      carrier_read = ap (λ l. get_or l 0 0) left.carriers_left ∙ get_or-drop (8 + k) b 0 0 ∙ ap (λ m. get_or b m 0) (add-zero (8 + k))

      cell_read : header b Entries ≡ n → word pair 0 ≡ (entry_at b k).cell
      cell_read stated = λ i. in_pair 0 (8 + header b Entries + 2 * k) (omega arith) (omega arith) i + 256 * in_pair 1 (8 + header b Entries + 2 * k + 1) (omega arith) (omega arith) i

      left_more : Left b n (k + 1) carriers cells
      left_more =
          let n_is = count (x ∷ carriers) (pair ++ cells) left in
          record {
            whole = left.whole;
            most = omega arith;
            carriers_left = ap (drop 1) left.carriers_left ∙ drop-drop 1 (8 + k) b ∙ past (8 + k + 1) (8 + (k + 1)) (omega arith);
            cells_left =
                sym (drop_at pair cells 2 two) ∙ ap (drop 2) left.cells_left ∙ drop-drop 2 (8 + n + 2 * k) b
                ∙ past (8 + n + 2 * k + 2) (8 + n + 2 * (k + 1)) (omega arith);
          }

    -- a turn of the loop
    module _ (carriers cells : List ℕ) (x : ℕ) (pair rest_carriers rest_cells : List ℕ) (left : Left b n k carriers cells)
        (e : carriers ≡ x ∷ rest_carriers) (f : cells ≡ pair ++ rest_cells) (two : length pair ≡ 2) where
      split : Left b n k (x ∷ rest_carriers) (pair ++ rest_cells)
      split = rw (← e, ← f) left

      pub more : Left b n (k + 1) rest_carriers rest_cells
      more = left_more x rest_carriers pair rest_cells two split

      pub more_read : (before after : List Entry) (cell : ℕ) → header b Entries ≡ n
          → before ≡ map (entry_at b) (range_with_len 0 k) → cell ≡ word pair 0
          → after ≡ before ++ record { carrier = x; cell = cell } ∷ [] → after ≡ map (entry_at b) (range_with_len 0 (k + 1))
      more_read before after cell stated was is push =
          push
          ∙ (λ i. was i ++ record { carrier = carrier_read x rest_carriers pair rest_cells two split i; cell = (is ∙ cell_read x rest_carriers pair rest_cells two split stated) i } ∷ [])
          ∙ sym (map-range_with_len_more (entry_at b) 0 k k (omega arith))

      -- there is room for one more
      pub one_left : (held : List Entry) → held ≡ map (entry_at b) (range_with_len 0 k) → length held < n
      one_left held was =
          omega (arith, count carriers cells left, ap length e, ap length was, length-map (range_with_len 0 k) (entry_at b), length-range_with_len 0 k)
