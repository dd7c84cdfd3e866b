use Rattle.std.proofs.Common.{◌≡◌, ◌∙◌, ◌+◌, ◌∷◌, [], map, take, sym, ap, arith}
use Rattle.std.specs.Prelude.{string_bytes}
use Rattle.implicit_tiling.specs.Files.{file}
use Rattle.implicit_tiling.specs.Limits.{most_file_bytes}
use Rattle.subtree_file.specs.Buffers.{AreFetched, left_after}
use Rattle.subtree_file.proofs.Fetching.{left_after_more}
use Rattle.subtree_outcome.proofs.Reading.{both_told, told_same, one_name_more, buffer_more}
use Rattle.subtree_outcome.proofs.Counting.{then_one, stays}
use Rattle.subtree_outcome.proofs.buffers.fetch_buffers.Goals as goal

pub loop-name-preserved : goal.loop-name-preserved
loop-name-preserved g c =
    let inv = c.loop-name.invariant in
    let told = g.S.FileSource.told c.args.files.now in
    let names = c.args.names.now in
    let i = c.loop-name.name-index in
    let name = c.as_str.result.now in
    let buffer = c.in_ok-buffer.buffer in
    let old = c.loop-name.buffers.items in
    let items = c.in_ok-push.ensures.items in
    let more = one_name_more string_bytes names i c.name-item.result name c.loop-name-test.true c.name-item.is c.as_str.ensures.value in
    record {
      fetched = both_told told (λ all. AreFetched (λ n. file n all) most_file_bytes (map string_bytes (take i names)) old) (λ all. AreFetched (λ n. file n all) c.loop-name.left (name ∷ []) (buffer ∷ [])) _
          (λ all are one. buffer_more (λ n. file n all) c.loop-name.left (map string_bytes (take i names)) (map string_bytes (take (i + 1) names)) name old c.push.new.self.items buffer more items inv.left are one)
          inv.fetched (told_same (g.S.FileSource.told c.loop-name.files) told _ inv.same c.in_ok-buffer.ensures.told);
      left = c.left_after-left.ensures.left ∙ ap (λ n. left_after n (buffer ∷ [])) inv.left ∙ sym (left_after_more most_file_bytes old buffer) ∙ ap (left_after most_file_bytes) (sym items);
      low = omega (arith, c.left_after-left.ensures.less, inv.low);
      counted = then_one i _ _ _ inv.counted c.in_ok-buffer.ensures.counted;
      sure = stays c.fetch_buffer.result _ _ _ _ _ c.in_ok-buffer.was c.fetch_buffer.ensures.sure inv.sure;
      later = omega (arith, inv.later, c.fetch_buffer.ensures.later);
      same = c.fetch_buffer.ensures.same ∙ inv.same;
    }
