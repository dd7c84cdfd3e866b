use Rattle.std.proofs.Common.{◌≡◌, ◌++◌, drop, string_bytes}
use Rattle.std.specs.List.{flat_map}
use Rattle.implicit_tiling.specs.Text.{content_texts}
use Rattle.request_text.specs.Fields.{after_tab}
use Rattle.request_text.proofs.text.push_contents.Given as goal

-- what is written so far, and what the rest will write, are what all write
abbrev pub invariant-loop-content : goal.invariant-loop-content
invariant-loop-content l =
    string_bytes l.piece ++ flat_map after_tab (content_texts l.scheme l.tile l.mask l.content (drop l.content l.contents))
    ≡ string_bytes l.initial.piece ++ flat_map after_tab (content_texts l.scheme l.tile l.mask 0 l.contents)
