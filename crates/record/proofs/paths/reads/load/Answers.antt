use Rattle.std.proofs.Common.{rules, map, sym, ap, ◌∙◌}
use Rattle.std.proofs.lemmas.Result.{MatchResult-at_ok}
use Rattle.std.proofs.lemmas.List.{length_push, take_rest}
use Rattle.std.specs.List.{range_with_len}
use Rattle.std.specs.Iterator.Adapters.{zip_first, zip_second}
use Rattle.std.specs.Slice.Iter.{iter_rest, chunks_exact_rest}
use Rattle.record.specs.Layout.{entry_at}
use Rattle.record.proofs.Loads.{left_first, more, more_read, one_left}
use Rattle.record.proofs.paths.reads.load.Goals as goal

pub loop-carrier-init : goal.loop-carrier-init
loop-carrier-init c =
    let starts = c.into_iter-carrier-iterator.ensures.into_iter_gives in
    let first = ap zip_first starts ∙ c.zip-carrier-items.ensures.first in
    let second = ap zip_second starts ∙ c.zip-carrier-items.ensures.second in
    record {
      read = search rules;
      left =
          left_first _ _ _ _ _ _ c.requires.whole c.from.ensures (take_rest c.args.bytes.now 8) (ap iter_rest first ∙ c.iter.ensures.rest ∙ c.split_at.ensures.front)
          (ap chunks_exact_rest second ∙ c.chunks_exact.ensures.rest ∙ c.split_at.ensures.back);
      pairs = search rules;
    }

pub unwrap-requires : goal.unwrap-requires
unwrap-requires c =
    let s = c.in-Some.ensures.steps in
    let now = c.loop-carrier.invariant in
    let room = one_left _ _ _ _ _ _ _ _ _ now.left s.0 s.1.1.0 (s.1.1.1 ∙ now.pairs) _ now.read in
    let few = c.args.header.now.listed in
    search rules

pub loop-carrier-preserved : goal.loop-carrier-preserved
loop-carrier-preserved c =
    let s = c.in-Some.ensures.steps in
    let now = c.loop-carrier.invariant in
    let two = s.1.1.1 ∙ now.pairs in
    let next = length_push c.loop-carrier.yielded _ in
    record {
      read =
          more_read _ _ _ _ _ _ _ _ _ now.left s.0 s.1.1.0 two _ _ _ (sym c.requires.read.entries_read) now.read c.word-cell.ensures
          (MatchResult-at_ok _ _ _ c.unwrap.ensures c.push.ensures)
          ∙ ap (λ n. map (entry_at c.args.bytes.now) (range_with_len 0 n)) (sym next);
      left = rw next (more _ _ _ _ _ _ _ _ _ now.left s.0 s.1.1.0 two);
      pairs = s.1.0 ∙ now.pairs;
    }
