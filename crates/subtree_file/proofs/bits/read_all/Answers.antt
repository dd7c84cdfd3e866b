use Rattle.std.proofs.Common.{◌≡◌, ◌++◌, ◌∷◌, [], sym, ap, ◌∙◌, rules, map, take}
use Rattle.std.proofs.lemmas.Bool.{or_from}
use Rattle.std.proofs.lemmas.List.{take_more, map-append}
use Rattle.std.proofs.lemmas.List.Folds.{list_any_more}
use Rattle.implicit_tiling.proofs.Tables.{refuse-good}
use Rattle.subtree_file.specs.Decoding.{DecodesList, all_counted}
use Rattle.std.specs.Prelude.{Ok, Err}
use Rattle.subtree_file.specs.Buffers.{sources_seen}
use Rattle.subtree_file.proofs.Viewed.{miscounted, bits_at, all_counted-err}
use Rattle.subtree_file.proofs.bits.read_all.Goals as goal

pub returns-in_err-bits : goal.returns-in_err-bits
returns-in_err-bits c =
    let h : DecodesList (all_counted (sources_seen c.args.sources.now) c.args.used.now) (Err c.in_err-bits.field-0.0) =
    all_counted-err (sources_seen c.args.sources.now) c.args.used.now c.loop-one.one-index c.one-item.result c.in_err-bits.field-0.0 c.loop-one-test.true c.one-item.is c.in_err-bits.ensures in
    search (rules, h)

pub loop-one-preserved : goal.loop-one-preserved
loop-one-preserved c =
    let s = sources_seen c.args.sources.now in
    let row = refuse-good 16 (miscounted s c.one-item.result) (Ok (bits_at s c.one-item.result)) c.in_ok-bits.bits c.in_ok-bits.ensures in
    let same : bits_at s c.one-item.result ≡ c.in_ok-bits.bits = cc in
    record {
      read = c.in_ok-push.ensures.items
          ∙ ap (λ all. all ++ c.in_ok-bits.bits ∷ []) c.loop-one.invariant.read
          ∙ ap (λ bits. map (bits_at s) (take c.loop-one.one-index c.args.used.now) ++ bits ∷ []) (sym same)
          ∙ sym (map-append (bits_at s) (take c.loop-one.one-index c.args.used.now) (c.one-item.result ∷ []))
          ∙ ap (λ one. map (bits_at s) (take c.loop-one.one-index c.args.used.now ++ one ∷ [])) c.one-item.is
          ∙ ap (map (bits_at s)) (sym (take_more c.args.used.now c.loop-one.one-index c.one-item.result c.loop-one-test.true));
      counted = list_any_more (miscounted s) c.args.used.now c.loop-one.one-index c.one-item.result c.loop-one-test.true
          ∙ or_from _ _ c.loop-one.invariant.counted (ap (miscounted s) (sym c.one-item.is) ∙ row.0);
    }
