use Rattle.std.proofs.Common.{◌∙◌, arith, string_bytes}
use Rattle.std.proofs.lemmas.Str.{IsUtf8-string_bytes}
use Rattle.http_text.proofs.Laying.{ends_a_text, pieces_more, length_more, length_within}
use Rattle.http_text.proofs.replies.append_all.Goals as goal

pub loop-piece-preserved : goal.loop-piece-preserved
loop-piece-preserved c = record {
  at = c.loop-piece.invariant.at;
  so_far = pieces_more c.args.pieces.now c.loop-piece.piece-index _ (string_bytes c.args.out.now) _ _ c.loop-piece-test.true c.loop-piece.invariant.so_far c.in_default.ensures.bytes;
  grown = omega (arith, c.loop-piece.invariant.grown, c.push_str.ensures.capacity);
  long = length_more c.args.pieces.now c.loop-piece.piece-index _ _ _ _ c.loop-piece-test.true c.loop-piece.invariant.long c.in_default.ensures.len;
}

pub returns-in-Err-clause-room : goal.returns-in-Err-clause-room
returns-in-Err-clause-room c =
    length_within c.args.pieces.now c.loop-piece.piece-index _ _ _ _ _ c.loop-piece-test.true c.loop-piece.invariant.long c.loop-piece.invariant.grown c.in-Err.ensures.full

pub truncate-requires : goal.truncate-requires
truncate-requires c _ =
    ends_a_text (string_bytes c.push_str.new.self) (string_bytes c.args.out.now) _ c.len-start.result c.loop-piece.invariant.at (c.in-Err.ensures.bytes ∙ c.loop-piece.invariant.so_far)
    (IsUtf8-string_bytes c.push_str.new.self) (IsUtf8-string_bytes c.args.out.now)
