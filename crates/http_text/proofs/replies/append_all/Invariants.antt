use Rattle.std.proofs.Common.{◌≡◌, ◌≤◌, ◌+◌, ◌++◌, map, take, length, string_bytes, string_len}
use Rattle.std.specs.Prelude.{string_capacity}
use Rattle.std.specs.List.{concat}
use Rattle.http_text.proofs.replies.append_all.Given as goal

abbrev pub invariant-loop-piece : goal.invariant-loop-piece
invariant-loop-piece l = record {
  at : l.start ≡ length (string_bytes l.fn.out);
  so_far : string_bytes l.out ≡ string_bytes l.fn.out ++ concat (map (λ p. p.now) (take l.piece-index l.pieces));
  grown : string_capacity l.fn.out ≤ string_capacity l.out;
  long : string_len l.out ≡ string_len l.fn.out + length (concat (map (λ p. p.now) (take l.piece-index l.pieces)));
}
