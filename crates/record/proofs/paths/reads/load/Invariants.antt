use Rattle.std.proofs.Common.{◌≡◌, map, length}
use Rattle.std.specs.List.{range_with_len}
use Rattle.std.specs.Iterator.Adapters.{zip_first, zip_second}
use Rattle.std.specs.Slice.Iter.{iter_rest, chunks_exact_rest, chunks_exact_size}
use Rattle.fixed.specs.Items.{items}
use Rattle.record.specs.Layout.{entry_at}
use Rattle.record.proofs.Loads.{Left}
use Rattle.record.proofs.paths.reads.load.Given as goal

abbrev pub invariant-loop-carrier : goal.invariant-loop-carrier
invariant-loop-carrier l =
    record {
      read : items l.entries ≡ map (entry_at l.bytes) (range_with_len 0 (length l.yielded));
      left : Left l.bytes l.header.entries (length l.yielded) (iter_rest (zip_first l.carrier-iterator)) (chunks_exact_rest (zip_second l.carrier-iterator));
      pairs : chunks_exact_size (zip_second l.carrier-iterator) ≡ 2;
    }
