-- Where each carrier is at each step.
use Rattle.std.specs.Prelude.{ℕ, ◌-◌, min, Bool, not, ◌||◌, List, map, length, count_by, filter, ◌==◌, nat_eq, slice_index}
use Rattle.std.specs.List.{range_with_len}
use Rattle.record.specs.declared.entry.Entry.{Entry}
use Rattle.record.specs.Layout.{Draft}

-- the cells of carrier i's entries, in their order: its cells at steps 0, 1, 2 and so on
abbrev pub path : List Entry → ℕ → List ℕ
path es i = map (λ e. e.cell) (filter (λ e. nat_eq e.carrier i) es)

-- a path's cell at step t; after its last entry a carrier rests there
abbrev pub at_step : List ℕ → ℕ → ℕ
at_step r t = slice_index r (min t (length r - 1))

-- the cell of carrier i at step t, for every natural t
abbrev pub cell : Draft → ℕ → ℕ → ℕ
cell d i t = at_step (path d.entries i) t

-- A visit is an entry whose cell differs from the carrier's entry before it, or its first entry.
abbrev pub visit_at : List ℕ → ℕ → Bool
visit_at r t = t == 0 || not (slice_index r (t - 1) == slice_index r t)

abbrev pub visit_count : List ℕ → ℕ
visit_count r = count_by (visit_at r) (range_with_len 0 (length r))

-- how many visits carrier i makes
abbrev pub visits : Draft → ℕ → ℕ
visits d i = visit_count (path d.entries i)
