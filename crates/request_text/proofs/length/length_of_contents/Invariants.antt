use Rattle.std.proofs.Common.{◌≡◌, ◌≤◌, ◌+◌, ◌*◌, drop, length}
use Rattle.std.specs.List.{flat_map}
use Rattle.implicit_tiling.specs.Text.{content_texts}
use Rattle.request_text.specs.Fields.{after_tab}
use Rattle.request_text.proofs.length.length_of_contents.Given as goal

-- what is counted so far, and what the rest will count, are what all count
abbrev pub invariant-loop-content : goal.invariant-loop-content
invariant-loop-content l = record {
  so_far : l.count + length (flat_map after_tab (content_texts l.scheme l.tile l.mask l.content (drop l.content l.contents)))
      ≡ length (flat_map after_tab (content_texts l.scheme l.tile l.mask 0 l.contents));
  few : l.count ≤ 10241 * l.content;
}
